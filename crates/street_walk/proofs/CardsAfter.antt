-- How many cards there are after a street.
use Rattle.std.proofs.Common.{◌≡◌, ℕ, ◌+◌, ◌-◌, ◌<◌, ◌≤◌, List, [], length, refl, sym, ap, ◌∙◌, inl, inr, arith, true, false, cond, min, max}
use Rattle.std.specs.Prelude.{slice_index_or, nat_lt}
use Rattle.std.proofs.lemmas.Bool.{cases_lt}
use mathlib.Core.Bool.{true≢false}
use Rattle.card_sets.specs.Cards.{union}
use Rattle.card_sets.specs.Games.{family_of, board_size_by, is_board, is_stud, own_size}
use Rattle.card_sets.specs.State.{State}
use Rattle.card_sets.specs.declared.games.Family.{Family}
use Rattle.card_sets.specs.declared.games.Family.TheVariants as family
use Rattle.runout_ranges.specs.Runouts.{HasMember}
use Rattle.runout_ranges.specs.Slots.{dealt}
use Rattle.runout_ranges.specs.declared.shapes.Receiver.TheVariants.{Hand}
use Rattle.showdown_tally.proofs.CallerLemmas.{Sound}
use Rattle.street_walk.specs.Streets.{GoesOn, board_gets, hand_gets, next_slots, choices_of, after}
use Rattle.street_walk.specs.StreetSums.{IsKnown}
use Rattle.street_walk.proofs.AfterStreet.{board_grows, hand_grows}
use Rattle.street_walk.proofs.StreetEnds.{index_after}

five_cards : (f : Family) → is_board f ≡ true → board_size_by f ≡ 5
five_cards family.Board h = refl
five_cards family.Stud h = absurd (true≢false (sym h))
five_cards family.Draw h = absurd (true≢false (sym h))
five_cards family.TripleDraw h = absurd (true≢false (sym h))

to_three : (n : ℕ) → n < 5 → n + board_gets (5 - n) ≡ max 3 (n + 1)
to_three n l = elim (cases_lt 2 (5 - n)) [
  | inl m ↦ let t : nat_lt 2 (5 - n) ≡ true = grind arith in rw t (omega arith)
  | inr g ↦ let f : nat_lt 2 (5 - n) ≡ false = grind arith in rw f (omega arith)
]

to_full : (f : Family) (own size : ℕ) → own ≤ size → own + hand_gets f (size - own) ≡ cond (is_stud f) (min size (own + 1)) size
to_full family.Board own size l = omega arith
to_full family.Stud own size l = omega arith
to_full family.Draw own size l = omega arith
to_full family.TripleDraw own size l = omega arith

pub goes_on : (s : State) (sets : List (List ℕ)) → IsKnown s → Sound s → HasMember (choices_of s) sets → GoesOn s (after s sets)
goes_on s sets known sound m = record {
  board = λ has few.
      board_grows s sets known m ∙ ap (λ size. length s.board + board_gets (size - length s.board)) (five_cards (family_of s.game) has) ∙ to_three (length s.board) few;
  hands = λ i l.
      let z : 0 + i ≡ i = omega arith in
      let own = slice_index_or s.hands i [] in
      ap length (index_after (next_slots s) sets 0 s.hands i l ∙ ap (λ k. union own (dealt (next_slots s) sets (Hand k))) z)
      ∙ hand_grows s sets i known m l ∙ to_full (family_of s.game) (length own) (own_size s.game) (sound.hand_fits i l);
}
