-- How many cards come on the next street and how many later, slot by slot, and in how many ways they divide.
use Rattle.std.proofs.Common.{◌≡◌, ℕ, suc, ◌+◌, ◌-◌, ◌*◌, ◌<◌, ◌≤◌, List, [], ◌∷◌, ◌++◌, length, map, refl, sym, ap, ◌∙◌, inl, inr, arith, true, false, nat_lt, subst, sum, take, drop, ◌^◌}
use Rattle.std.specs.Prelude.{slice_index_or}
use Rattle.std.proofs.lemmas.Bool.{cases_lt}
use Rattle.std.proofs.lemmas.List.Sums.{sum_by-cons}
use Rattle.std.proofs.lemmas.List.{take_all}
use Rattle.std.proofs.Math.Nat.{mul-le-mul_right, pow-le-pow_right}
use Rattle.runout_ranges.specs.Ways.{binomial}
use Rattle.runout_ranges.proofs.CallerLemmas.{binomial_some, binomial_small}
use Rattle.std.proofs.lemmas.Nat.{mul-le, pow-add}
use Rattle.card_sets.specs.declared.games.Game.{Game}
use Rattle.runout_ranges.specs.Slots.{counts_of}
use Rattle.runout_ranges.specs.declared.shapes.Receiver.{Receiver}
use Rattle.runout_ranges.specs.declared.shapes.Receiver.TheVariants.{Board, Hand}
use Rattle.runout_ranges.specs.declared.shapes.Slot.{Slot}
use Rattle.street_walk.specs.Streets.{board_gets, hand_gets, gets, next_of, divided_of}
use Rattle.street_walk.proofs.Picks.{now_of, later_of, whole_of, divided}
use Rattle.card_sets.specs.Games.{family_of}
use Rattle.card_sets.specs.declared.games.Family.{Family}
use Rattle.card_sets.specs.declared.games.Family.TheVariants as family
use Rattle.std.proofs.Math.Nat.{mul-pos}
use Rattle.std.proofs.Math.Seq.{take-append_seam}

board_within : (n : ℕ) → board_gets n ≤ n
board_within n = elim (cases_lt 2 n) [
  | inl l ↦ let t : nat_lt 2 n ≡ true = grind arith in rw t (omega arith)
  | inr g ↦ let f : nat_lt 2 n ≡ false = grind arith in rw f (omega arith)
]

hand_within : (family : Family) (n : ℕ) → hand_gets family n ≤ n
hand_within family.Board n = omega arith
hand_within family.Stud n = omega arith
hand_within family.Draw n = omega arith
hand_within family.TripleDraw n = omega arith

pub gets_within : (game : Game) (who : Receiver) (n : ℕ) → gets game who n ≤ n
gets_within game Board n = board_within n
gets_within game (Hand i) n = hand_within (family_of game) n

pub gets_none : (game : Game) (who : Receiver) → gets game who 0 ≡ 0
gets_none game who = let w = gets_within game who 0 in omega arith

-- what each slot takes on the next street, and what it lacks after it
abbrev pub parts_of : Game → List Slot → List (ℕ × ℕ)
parts_of game some = map (λ s. (gets game s.receiver s.count, s.count - gets game s.receiver s.count)) some

pub now_parts : (game : Game) (some : List Slot) → now_of (parts_of game some) ≡ counts_of (next_of game some)
now_parts game [] = refl
now_parts game (s ∷ some) = ap (λ l. gets game s.receiver s.count ∷ l) (now_parts game some)

pub whole_parts : (game : Game) (some : List Slot) → whole_of (parts_of game some) ≡ counts_of some
whole_parts game [] = refl
whole_parts game (s ∷ some) =
    let within = gets_within game s.receiver s.count in
    let all : gets game s.receiver s.count + (s.count - gets game s.receiver s.count) ≡ s.count = omega arith in
    rw all (ap (λ l. s.count ∷ l) (whole_parts game some))

pub divided_parts : (game : Game) (some : List Slot) → divided (parts_of game some) ≡ divided_of game some
divided_parts game [] = refl
divided_parts game (s ∷ some) =
    let within = gets_within game s.receiver s.count in
    let all : gets game s.receiver s.count + (s.count - gets game s.receiver s.count) ≡ s.count = omega arith in
    rw (all, divided_parts game some) refl

-- ---- what later slots are

-- what the slots lack after the next street, each slot there though it lack nothing
abbrev pub rest_of : Game → List Slot → List Slot
rest_of game some = map (λ s. record { receiver = s.receiver; count = s.count - gets game s.receiver s.count }) some

pub later_parts : (game : Game) (some : List Slot) → later_of (parts_of game some) ≡ counts_of (rest_of game some)
later_parts game [] = refl
later_parts game (s ∷ some) = ap (λ l. (s.count - gets game s.receiver s.count) ∷ l) (later_parts game some)

-- the next street takes no more cards than are lacking
pub sum_next : (game : Game) (some : List Slot) → sum (counts_of (next_of game some)) ≤ sum (counts_of some)
sum_next game [] = omega arith
sum_next game (s ∷ some) =
    let a : sum (counts_of (next_of game (s ∷ some))) ≡ gets game s.receiver s.count + sum (counts_of (next_of game some)) = sum_by-cons (λ k. k) (gets game s.receiver s.count) (counts_of (next_of game some)) in
    let b : sum (counts_of (s ∷ some)) ≡ s.count + sum (counts_of some) = sum_by-cons (λ k. k) s.count (counts_of some) in
    omega (arith, a, b, gets_within game s.receiver s.count, sum_next game some)

pub take_front : {X : Type 0} (n : ℕ) (xs ys : List X) → n ≡ length xs → take n (xs ++ ys) ≡ xs
take_front n xs ys e = ap (λ k. take k (xs ++ ys)) e ∙ take-append_seam xs ys

-- slots by the first and the others
pub record AtFront (game : Game) (some others : List Slot) (first : Slot) : Type 0 where
  pub within : first.count ≤ sum (counts_of some)
  pub fewer : sum (counts_of others) ≤ sum (counts_of some)
  pub product : divided_of game some ≡ binomial first.count (gets game first.receiver first.count) * divided_of game others
  pub less : divided_of game others ≤ divided_of game some

pub at_front : (game : Game) (some : List Slot) (d : Slot) → 0 < length some → AtFront game some (take (length some - 1) (drop 1 some)) (slice_index_or some 0 d)
at_front game [] d l = absurd (omega arith)
at_front game (s ∷ some) d l =
    let all : sum (counts_of (s ∷ some)) ≡ s.count + sum (counts_of some) = sum_by-cons (λ k. k) s.count (counts_of some) in
    let n : suc (length some) - 1 ≡ length some = omega arith in
    let others : take (suc (length some) - 1) some ≡ some = ap (λ k. take k some) n ∙ take_all (length some) some (omega arith) in
    let ways : 0 < binomial s.count (gets game s.receiver s.count) = binomial_some s.count (gets game s.receiver s.count) (gets_within game s.receiver s.count) in
    let most : 1 * divided_of game some ≤ binomial s.count (gets game s.receiver s.count) * divided_of game some = mul-le-mul_right (divided_of game some) ways in
    let P : List Slot → Type 0 = λ l. AtFront game (s ∷ some) l s in
    subst P (sym others) (record { within = omega arith; fewer = omega arith; product = refl; less = omega arith })

-- the divisions of a deck's cards are few enough
pub divided_small : (game : Game) (some : List Slot) → divided_of game some ≤ 2 ^ sum (counts_of some)
divided_small game [] = omega arith
divided_small game (s ∷ some) =
    let all : sum (counts_of (s ∷ some)) ≡ s.count + sum (counts_of some) = sum_by-cons (λ k. k) s.count (counts_of some) in
    rw (all, pow-add 2 s.count (sum (counts_of some))) (mul-le _ _ _ _ (binomial_small s.count (gets game s.receiver s.count)) (divided_small game some))

pub divided_fits : (game : Game) (some : List Slot) → sum (counts_of some) ≤ 52 → divided_of game some < 2 ^ 64
divided_fits game some few =
    let most : 2 ^ sum (counts_of some) ≤ 2 ^ 52 = pow-le-pow_right (omega arith) few in
    omega (arith, divided_small game some, most)

-- a runout divides in one way at least
pub divided_some : (game : Game) (some : List Slot) → 0 < divided_of game some
divided_some game [] = omega arith
divided_some game (s ∷ some) = mul-pos (binomial_some s.count (gets game s.receiver s.count) (gets_within game s.receiver s.count)) (divided_some game some)
