-- The lines of an all-in from a tally of all its runouts.
use Rattle.std.proofs.Common.{◌≡◌, ℕ, zero, suc, ◌<◌, ◌≤◌, ◌==◌, Bool, true, false, cond, List, [], ◌∷◌, ◌++◌, length, map, sum, inl, inr, refl, sym, ap, ◌∙◌, arith}
use Rattle.std.specs.Int.{bit_at}
use Rattle.std.specs.Prelude.{nat_lt, slice_index, slice_index_or}
use Rattle.std.specs.List.{flat_map}
use Rattle.std.proofs.lemmas.Bool.{cases_lt}
use Rattle.std.proofs.lemmas.Grind.{flat_map-append}
use Rattle.std.proofs.lemmas.List.{get_or-map, length-map}
use Rattle.card_sets.specs.PlayerSets.{hands_below, hands_of}
use Rattle.card_sets.specs.State.{State}
use Rattle.card_sets.specs.declared.games.Game.{Game}
use Rattle.card_sets.specs.declared.games.Game.TheVariants.{Holdem, Omaha, Omaha8, Stud, Stud8, Razz, Draw5, Lowball27, Triple27}
use Rattle.card_sets.specs.declared.games.Side.TheVariants.{High, Low}
use Rattle.card_sets.specs.declared.streets.Street.{Street}
use Rattle.runout_ranges.specs.Jobs.{IsDeckShort}
use Rattle.runout_ranges.specs.Slots.{unseen, slots, counts_of}
use Rattle.runout_ranges.specs.declared.limits.TheConstants.{RUNOUT_MAX}
use Rattle.hand_verdict.specs.declared.settlement.Settlement.{Settlement}
use Rattle.even_luck.specs.Equities.{IsFull}
use Rattle.even_luck.specs.Figures.{Figures, full_figures}
use Rattle.even_luck.specs.Seats.{Seated}
use Rattle.even_luck.proofs.CallerLemmas.{Agree, given_same, no_runout_left, some_runout}
use Rattle.hand_blocks.specs.HandEquities.{counted_all_in, hand_expect, known_all_in, player_lines, player_name, pot_equities, pot_equity, pot_hand_lines, short_line}
use Rattle.report_sheet.specs.Lines.{line_in}
use Rattle.report_sheet.specs.SpotLines.{every_hand}
use Rattle.report_sheet.specs.declared.form.Form.{Form}
use Rattle.report_sheet.proofs.CallerLemmas.{every_same}
use Rattle.showdown_tally.specs.Cells.{Sums}
use Rattle.showdown_tally.specs.Showdown.{Showdown, eligible_in}
use Rattle.showdown_tally.specs.Tallies.{runouts_after}

-- the eligible hands of a pot are those of its mask
pub eligible_by_mask : (masks : List ℕ) (k : ℕ) → k < length masks → slice_index_or (map hands_of masks) k [] ≡ hands_of (slice_index masks k)
eligible_by_mask masks k below = get_or-map hands_of masks k 0 [] below

-- a pot in which fewer than two hands are eligible has no lines
pub pot_alone : (form : Form) (deal : Showdown) (figures : Figures) (names : Seated) (seats : List ℕ) (k : ℕ) → length (eligible_in deal k) < 2 →
    pot_equity form deal figures names seats k ≡ []
unfolding pot_equity
pot_alone form deal figures names seats k few =
    let alone : nat_lt 1 (length (eligible_in deal k)) ≡ false = grind (arith, few) in
    rw alone refl

-- another has those of each of them
pub pot_contested : (form : Form) (deal : Showdown) (figures : Figures) (names : Seated) (seats : List ℕ) (k : ℕ) → 2 ≤ length (eligible_in deal k) →
    pot_equity form deal figures names seats k ≡ flat_map (player_lines form deal.state.game figures names seats k) (eligible_in deal k)
unfolding pot_equity
pot_contested form deal figures names seats k some =
    let more : nat_lt 1 (length (eligible_in deal k)) ≡ true = grind (arith, some) in
    rw more refl

pot_hand_same : (form : Form) (game : Game) (a b : Figures) (k : ℕ) (name : List ℕ) (hand : ℕ) → Agree a b → k < 10 → hand < 10 →
    pot_hand_lines form game a k name hand ≡ pot_hand_lines form game b k name hand
unfolding pot_hand_lines
pot_hand_same form Holdem a b k name hand same p h = rw (same.cell k hand High p h, same.units k hand p h, same.all) refl
pot_hand_same form Omaha8 a b k name hand same p h = rw (same.cell k hand High p h, same.cell k hand Low p h, same.units k hand p h, same.all) refl
pot_hand_same form Stud8 a b k name hand same p h = rw (same.cell k hand High p h, same.cell k hand Low p h, same.units k hand p h, same.all) refl
pot_hand_same form Stud a b k name hand same p h = rw (same.cell k hand High p h, same.units k hand p h, same.all) refl
pot_hand_same form Draw5 a b k name hand same p h = rw (same.cell k hand High p h, same.units k hand p h, same.all) refl
pot_hand_same form Omaha a b k name hand same p h = rw (same.cell k hand High p h, same.units k hand p h, same.all) refl
pot_hand_same form Razz a b k name hand same p h = rw (same.cell k hand Low p h, same.units k hand p h, same.all) refl
pot_hand_same form Lowball27 a b k name hand same p h = rw (same.cell k hand Low p h, same.units k hand p h, same.all) refl
pot_hand_same form Triple27 a b k name hand same p h = rw (same.cell k hand Low p h, same.units k hand p h, same.all) refl

-- equal lines for each hand below n, of those whose bit is set
hands_same : (f g : ℕ → List ℕ) (mask n : ℕ) → ((hand : ℕ) → hand < n → f hand ≡ g hand) → flat_map f (hands_below mask n) ≡ flat_map g (hands_below mask n)
hands_same f g mask zero same = refl
hands_same f g mask (suc n) same =
    let before = hands_same f g mask n (λ hand below. same hand (omega arith)) in
    let here = one_same (bit_at mask n == 1) (same n (omega arith)) in
    flat_map-append f (hands_below mask n) _ ∙ rw (here, before) (sym (flat_map-append g (hands_below mask n) _))
  where
    one_same : (b : Bool) → f n ≡ g n → flat_map f (cond b (n ∷ []) []) ≡ flat_map g (cond b (n ∷ []) [])
    one_same true e = ap (λ line. line ++ []) e
    one_same false e = refl

pot_same : (form : Form) (deal : Showdown) (mask : ℕ) (a b : Figures) (names : Seated) (seats : List ℕ) (k : ℕ) → eligible_in deal k ≡ hands_of mask → Agree a b → k < 10 →
    pot_equity form deal a names seats k ≡ pot_equity form deal b names seats k
unfolding pot_equity
pot_same form deal mask a b names seats k hands same p =
    let one = player_lines form deal.state.game a names seats k in
    let other = player_lines form deal.state.game b names seats k in
    let lines : flat_map one (hands_of mask) ≡ flat_map other (hands_of mask) =
    hands_same one other mask 10 (λ hand below. pot_hand_same form deal.state.game a b k (player_name names seats hand) hand same p below) in
    rw hands (ap (λ text. cond (nat_lt 1 (length (hands_of mask))) text []) lines)

-- figures that agree give all pots equal lines
pub pots_same : (form : Form) (names : Seated) (seats : List ℕ) (state : State) (masks : List ℕ) (a b : Figures) → length masks ≤ 10 → Agree a b →
    pot_equities form (record { state = state; pots = map hands_of masks }) a names seats
    ≡ pot_equities form (record { state = state; pots = map hands_of masks }) b names seats
pots_same form names seats state masks a b few same =
    let deal : Showdown = record { state = state; pots = map hands_of masks } in
    let count : length deal.pots ≡ length masks = length-map masks hands_of in
    every_same (pot_equity form deal a names seats) (pot_equity form deal b names seats) (length deal.pots)
    (λ k below. pot_same form deal (slice_index masks k) a b names seats k (eligible_by_mask masks k (omega arith)) same (omega arith))

-- and an all-in
pub all_in_same : (form : Form) (s : Settlement) (names : Seated) (seats : List ℕ) (street : Street) (state : State) (masks : List ℕ) (a b : Figures) →
    length masks ≤ 10 → length state.hands ≤ 10 → Agree a b →
    counted_all_in form s names seats street (record { state = state; pots = map hands_of masks }) a
    ≡ counted_all_in form s names seats street (record { state = state; pots = map hands_of masks }) b
unfolding counted_all_in
all_in_same form s names seats street state masks a b few hands same =
    let deal : Showdown = record { state = state; pots = map hands_of masks } in
    let count : length deal.pots ≡ length masks = length-map masks hands_of in
    let pots = pots_same form names seats state masks a b few same in
    let expects : flat_map (hand_expect form s names seats deal a) (every_hand (length state.hands)) ≡ flat_map (hand_expect form s names seats deal b) (every_hand (length state.hands)) =
    every_same (hand_expect form s names seats deal a) (hand_expect form s names seats deal b) (length state.hands)
    (λ hand below. rw (same.all, given_same s.pots a b hand (length deal.pots) same (omega arith) (omega arith)) refl) in
    rw (pots, expects, same.all) refl

-- where fewer cards may come than are lacking, the all-in is refused for that
pub all_in_short : (form : Form) (s : Settlement) (names : Seated) (seats : List ℕ) (street : Street) (deal : Showdown) → IsDeckShort deal.state →
    line_in form short_line ≡ known_all_in form s names seats street deal
unfolding known_all_in
all_in_short form s names seats street deal short =
    let yes : nat_lt (length (unseen deal.state)) (sum (counts_of (slots deal.state))) ≡ true = grind arith in
    rw yes refl

-- a tally of no runout says the same
pub all_in_empty : (form : Form) (s : Settlement) (names : Seated) (seats : List ℕ) (street : Street) (deal : Showdown) (sums : Sums) → IsFull deal sums → sums.runouts ≡ 0 →
    line_in form short_line ≡ known_all_in form s names seats street deal
all_in_empty form s names seats street deal sums full none = elim (cases_lt (length (unseen deal.state)) (sum (counts_of (slots deal.state)))) [
  | inl short ↦ all_in_short form s names seats street deal short
  | inr enough ↦ absurd (let some = some_runout deal.state enough in let counted = full.counts.runouts in omega arith)
]

-- and otherwise it is counted
pub all_in_counted : (form : Form) (s : Settlement) (names : Seated) (seats : List ℕ) (street : Street) (deal : Showdown) (sums : Sums) → IsFull deal sums → 0 < sums.runouts →
    counted_all_in form s names seats street deal (full_figures deal) ≡ known_all_in form s names seats street deal
unfolding known_all_in
all_in_counted form s names seats street deal sums full some = elim (cases_lt (length (unseen deal.state)) (sum (counts_of (slots deal.state)))) [
  | inl short ↦ absurd (let none = no_runout_left deal.state short in let counted = full.counts.runouts in omega arith)
  | inr enough ↦
      let no_short : nat_lt (length (unseen deal.state)) (sum (counts_of (slots deal.state))) ≡ false = grind arith in
      let few = full.few in
      let within : nat_lt RUNOUT_MAX (length (runouts_after deal.state)) ≡ false = grind arith in
      rw (no_short, within) refl
]
