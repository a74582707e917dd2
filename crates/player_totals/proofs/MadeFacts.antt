-- What a counted all-in gives the two seats.
use Rattle.std.proofs.Common.{◌≡◌, ℕ, ◌<◌, ◌≤◌, Bool, true, false, List, if◌then◌else◌, ap, sym, arith}
use Rattle.even_luck.specs.Equities.{IsFull}
use Rattle.even_luck.specs.Figures.{full_figures, tally_figures, is_counted}
use Rattle.player_totals.specs.Made.{counted_all_in, hand_units, known_all_in, no_all_in}
use Rattle.even_luck.proofs.CallerLemmas.{Agree-full, sums_same}
use Rattle.showdown_tally.specs.Cells.{Sums}
use Rattle.showdown_tally.specs.Showdown.{Showdown}

pub made_none : (seats : List ℕ) (deal : Showdown) → is_counted deal ≡ false → no_all_in ≡ known_all_in seats deal
unfolding known_all_in
made_none seats deal none = sym (ap (λ (b : Bool). if b then counted_all_in (full_figures deal) deal seats else no_all_in) none)

pub made_counted : (seats : List ℕ) (deal : Showdown) → is_counted deal ≡ true → counted_all_in (full_figures deal) deal seats ≡ known_all_in seats deal
unfolding known_all_in
made_counted seats deal some = sym (ap (λ (b : Bool). if b then counted_all_in (full_figures deal) deal seats else no_all_in) some)

-- a tally of all runouts has the units of the full listing
pub units_full : (deal : Showdown) (sums : Sums) (count hand : ℕ) → IsFull deal sums → count ≤ 10 → hand < 10 → hand_units (tally_figures sums) count hand ≡ hand_units (full_figures deal) count hand
units_full deal sums count hand full few h =
    sums_same (λ k. (tally_figures sums).units k hand) (λ k. (full_figures deal).units k hand) count
    (λ k below. (Agree-full deal sums full.counts).units k hand (omega (arith, below, few)) h)
