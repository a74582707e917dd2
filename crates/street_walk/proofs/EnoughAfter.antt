-- After a choice of the next street's cards enough cards may still come.
use Rattle.std.proofs.Common.{◌≡◌, ℕ, zero, suc, ◌+◌, ◌-◌, ◌*◌, ◌<◌, ◌≤◌, List, [], ◌∷◌, ◌++◌, length, sum, refl, ap, ◌∙◌, arith}
use Rattle.std.proofs.lemmas.List.Sums.{sum_by-cons}
use Rattle.card_sets.specs.Cards.{IsRising}
use Rattle.card_sets.specs.Rising.{IsRising-cards_where}
use Rattle.card_sets.specs.State.{State}
use Rattle.card_sets.specs.declared.games.Game.{Game}
use Rattle.runout_ranges.specs.Runouts.{left_by, HasMember}
use Rattle.runout_ranges.specs.Slots.{slots, unseen, slot_of, counts_of}
use Rattle.runout_ranges.specs.declared.shapes.Slot.{Slot}
use Rattle.runout_ranges.proofs.CallerLemmas.{left_length, choose_has, rising_left}
use Rattle.showdown_tally.proofs.CallerLemmas.{Deals, runout_deals}
use Rattle.runout_ranges.specs.Jobs.{IsDeckShort}
use Rattle.runout_ranges.specs.declared.limits.TheConstants.{RUNOUT_MAX}
use Rattle.showdown_tally.specs.Tallies.{runouts_after}
use Rattle.std.proofs.Math.Nat.{le-mul_of_pos_right, mul_comm}
use Rattle.street_walk.specs.Streets.{gets, next_of, next_slots, choices_of, after, divisions}
use Rattle.street_walk.specs.StreetSums.{IsKnown, AreTooMany}
use Rattle.street_walk.proofs.PickedListing.{left_by_all}
use Rattle.street_walk.proofs.StreetParts.{gets_within, rest_of, divided_some}
use Rattle.street_walk.proofs.EmptySlots.{lacking}
use Rattle.street_walk.proofs.AfterStreet.{unseen_after, slots_after, choice_length}

-- the sets of the slots leave all cards but theirs
left_all : (counts cards : List ℕ) (sets : List (List ℕ)) → IsRising cards → Deals cards counts sets → length (left_by_all cards sets) + sum counts ≡ length cards
left_all [] cards [] r d = omega arith
left_all [] cards (set ∷ sets) r d = absurd d
left_all (n ∷ counts) cards [] r d = absurd d
left_all (n ∷ counts) cards (set ∷ sets) r d =
    let many : length set ≡ n = d.0.0 in
    let m = choose_has 0 cards set r d.0.1 d.0.2 in
    let one : length (left_by cards set) + length set ≡ length cards = left_length 0 (length set) cards set m.0 m.1 r m.2 in
    let rest : length (left_by_all (left_by cards set) sets) + sum counts ≡ length (left_by cards set) = left_all counts (left_by cards set) sets (rising_left 0 cards set r) d.1 in
    let all : sum (n ∷ counts) ≡ n + sum counts = sum_by-cons (λ k. k) n counts in
    omega arith

-- slots that lack nothing take nothing
sum_lacking : (some : List Slot) → sum (counts_of (lacking some)) ≡ sum (counts_of some)
sum_lacking [] = refl
sum_lacking (s ∷ some) = elim (s.count) as (λ n. sum (counts_of (slot_of s.receiver n ++ lacking some)) ≡ sum (n ∷ counts_of some)) [
  | zero ↦ omega (arith, sum_by-cons (λ k. k) 0 (counts_of some), sum_lacking some)
  | suc n ↦ omega (arith, sum_by-cons (λ k. k) (suc n) (counts_of (lacking some)), sum_by-cons (λ k. k) (suc n) (counts_of some), sum_lacking some)
]

sum_rest : (game : Game) (some : List Slot) → sum (counts_of (rest_of game some)) + sum (counts_of (next_of game some)) ≡ sum (counts_of some)
sum_rest game [] = omega arith
sum_rest game (s ∷ some) =
    let now = gets game s.receiver s.count in
    let a : sum (counts_of (rest_of game (s ∷ some))) ≡ (s.count - now) + sum (counts_of (rest_of game some)) = sum_by-cons (λ k. k) (s.count - now) (counts_of (rest_of game some)) in
    let b : sum (counts_of (next_of game (s ∷ some))) ≡ now + sum (counts_of (next_of game some)) = sum_by-cons (λ k. k) now (counts_of (next_of game some)) in
    let c : sum (counts_of (s ∷ some)) ≡ s.count + sum (counts_of some) = sum_by-cons (λ k. k) s.count (counts_of some) in
    omega (arith, gets_within game s.receiver s.count, sum_rest game some)

pub enough_after : (s : State) (sets : List (List ℕ)) → IsKnown s → HasMember (choices_of s) sets → ¬ IsDeckShort s → ¬ IsDeckShort (after s sets)
enough_after s sets known m enough short =
    let left : length (unseen (after s sets)) ≡ length (left_by_all (unseen s) sets) = ap length (unseen_after s sets (choice_length s sets m)) in
    let lacks : sum (counts_of (slots (after s sets))) ≡ sum (counts_of (rest_of s.game (slots s))) = ap (λ l. sum (counts_of l)) (slots_after s sets known m) ∙ sum_lacking (rest_of s.game (slots s)) in
    let taken : length (left_by_all (unseen s) sets) + sum (counts_of (next_slots s)) ≡ length (unseen s) =
    left_all (counts_of (next_slots s)) (unseen s) sets (IsRising-cards_where _) (runout_deals (unseen s) (counts_of (next_slots s)) sets (IsRising-cards_where _) m) in
    let parts = sum_rest s.game (slots s) in
    enough (omega arith)

-- more runouts than may be counted are too many, however often they divide
pub above_all : (s : State) → RUNOUT_MAX < length (runouts_after s) → AreTooMany s
above_all s above =
    let some : 0 < divisions s = divided_some s.game (slots s) in
    let more : length (runouts_after s) ≤ length (runouts_after s) * divisions s = le-mul_of_pos_right (length (runouts_after s)) some in
    omega (arith, mul_comm (length (runouts_after s)) (divisions s))
