-- What a tally of all runouts says of a deal, and how small what it gives is.
use Rattle.std.proofs.Common.{◌≡◌, ℕ, ◌+◌, ◌*◌, ◌/◌, ◌^◌, ◌<◌, ◌≤◌, ◌&&◌, Bool, true, false, cond, List, [], ◌∷◌, length, refl, ap, ◌∙◌, arith}
use Rattle.std.specs.Prelude.{slice_index_or}
use Rattle.std.specs.List.{sum_by}
use Rattle.std.proofs.lemmas.List.Sums.{sum_by-le}
use Rattle.std.proofs.Math.Nat.{div-le_of_le-mul, div-le_self}
use Rattle.card_sets.specs.Games.{has_side}
use Rattle.card_sets.specs.declared.games.Side.{Side}
use Rattle.card_sets.specs.declared.games.Side.TheVariants.{High, Low}
use Rattle.even_luck.specs.Equities.{IsFull}
use Rattle.even_luck.specs.Figures.{Figures, expected_by, expected_units, full_figures, given_to, gross_of, tally_figures}
use Rattle.even_luck.proofs.SumsBelow.{sums_same}
use Rattle.hand_verdict.specs.declared.settlement.PotLine.{PotLine}
use Rattle.hand_verdict.specs.declared.settlement.Settlement.{Settlement}
use Rattle.runout_ranges.specs.declared.limits.TheConstants.{RUNOUT_MAX}
use Rattle.share_fractions.specs.Round.{round}
use Rattle.showdown_tally.specs.Cells.{Sums, units_at}
use Rattle.showdown_tally.specs.Showdown.{Showdown, is_among, part_of, units, units_by_sides, winners}
use Rattle.showdown_tally.specs.Tallies.{Counts, runouts_after}
use Rattle.showdown_tally.proofs.CallerLemmas.{no_side}

-- figures that agree on the pots and hands that there may be
pub record Agree (a b : Figures) : Type 0 where
  pub all : a.all ≡ b.all
  pub cell : (k hand : ℕ) (side : Side) → k < 10 → hand < 10 → a.cell k hand side ≡ b.cell k hand side
  pub units : (k hand : ℕ) → k < 10 → hand < 10 → a.units k hand ≡ b.units k hand

-- a tally of all runouts agrees with the full listing
pub Agree-full : (deal : Showdown) (sums : Sums) → Counts deal (runouts_after deal.state) sums → Agree (tally_figures sums) (full_figures deal)
Agree-full deal sums counts = record { all = counts.runouts; cell = counts.cells; units = counts.units }

-- and give a hand as much
pub given_same : (pots : List PotLine) (a b : Figures) (hand n : ℕ) → Agree a b → hand < 10 → n ≤ 10 → given_to pots a hand n ≡ given_to pots b hand n
given_same pots a b hand n same h few =
    sums_same (λ k. gross_of pots k * a.units k hand) (λ k. gross_of pots k * b.units k hand) n
    (λ k below. ap (λ units. gross_of pots k * units) (same.units k hand (omega arith) h))

-- a part of a whole is no more than it
part_small : (whole hand : ℕ) (hands : List ℕ) → part_of whole hands hand ≤ whole
part_small whole hand hands = elim (is_among hand hands) as (λ b. cond b (whole / length hands) 0 ≤ whole) [ true ↦ div-le_self whole (length hands) | false ↦ omega arith ]

-- nor are the parts on both sides, where nobody wins a side that the game hasn't
sides_small : (high low : Bool) (highs lows : List ℕ) (hand : ℕ) → (high ≡ false → highs ≡ []) → (low ≡ false → lows ≡ []) → units_by_sides (high && low) highs lows hand ≤ 5040
sides_small true true highs [] hand no_high no_low = part_small 5040 hand highs
sides_small true true highs (w ∷ lows) hand no_high no_low = omega (arith, part_small 2520 hand highs, part_small 2520 hand (w ∷ lows))
sides_small true false highs lows hand no_high no_low = rw (no_low refl) (omega (arith, part_small 5040 hand highs))
sides_small false low highs lows hand no_high no_low = rw (no_high refl) (omega (arith, part_small 5040 hand lows))

-- a runout gives a hand no more than the whole pot
units_whole : (deal : Showdown) (k hand : ℕ) (runout : List (List ℕ)) → units deal k hand runout ≤ 5040
units_whole deal k hand runout =
    sides_small (has_side High deal.state.game) (has_side Low deal.state.game) (winners deal k High runout) (winners deal k Low runout) hand (no_side High deal k runout) (no_side Low deal k runout)

-- and so all runouts give it no more than that for each of the most that are counted
pub few_units : (deal : Showdown) (sums : Sums) (k hand : ℕ) → IsFull deal sums → k < 10 → hand < 10 → units_at sums k hand ≤ 5040 * RUNOUT_MAX
few_units deal sums k hand full p h =
    let one : sum_by (units deal k hand) (runouts_after deal.state) ≤ length (runouts_after deal.state) * 5040 =
    sum_by-le (units deal k hand) 5040 (runouts_after deal.state) (λ i d below. units_whole deal k hand (slice_index_or (runouts_after deal.state) i d)) in
    let counted = full.counts.units k hand p h in
    let few = full.few in
    omega arith

-- and no more than that for each of them
pub whole_units : (deal : Showdown) (sums : Sums) (k hand : ℕ) → IsFull deal sums → k < 10 → hand < 10 → units_at sums k hand ≤ 5040 * sums.runouts
whole_units deal sums k hand full p h =
    let one : sum_by (units deal k hand) (runouts_after deal.state) ≤ length (runouts_after deal.state) * 5040 =
    sum_by-le (units deal k hand) 5040 (runouts_after deal.state) (λ i d below. units_whole deal k hand (slice_index_or (runouts_after deal.state) i d)) in
    let counted = full.counts.units k hand p h in
    let all = full.counts.runouts in
    omega arith

-- what is rounded is small
pub round_small : (given part : ℕ) → 5040 ≤ part → given ≤ 10 * (2 ^ 64 * (5040 * RUNOUT_MAX)) → round given part 0 ≤ 2 ^ 95
unfolding round
round_small given part some few =
    div-le_of_le-mul (2 * part) {m = 2 * given * 10 ^ 0 + part} {n = 2 ^ 95} (omega arith)

-- also what ten players got of ten pots
pub even_small : (given part : ℕ) → 5040 ≤ part → given ≤ 10 * (10 * 2 ^ 64 * part) → round given part 0 ≤ 2 ^ 95
unfolding round
even_small given part some few =
    div-le_of_le-mul (2 * part) {m = 2 * given * 10 ^ 0 + part} {n = 2 ^ 95} (omega arith)

-- what is expected by a tally of all runouts is what is expected
pub expected_full : (s : Settlement) (deal : Showdown) (sums : Sums) (hand : ℕ) → IsFull deal sums → hand < 10 → length deal.pots ≤ 10 →
    expected_units sums.runouts (given_to s.pots (tally_figures sums) hand (length deal.pots)) ≡ expected_by s deal hand
expected_full s deal sums hand full h few =
    let same = Agree-full deal sums full.counts in
    ap (λ all. expected_units all (given_to s.pots (tally_figures sums) hand (length deal.pots))) same.all
    ∙ ap (λ given. expected_units (full_figures deal).all given) (given_same s.pots (tally_figures sums) (full_figures deal) hand (length deal.pots) same h few)
