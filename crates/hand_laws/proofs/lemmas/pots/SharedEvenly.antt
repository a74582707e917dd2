-- The winners of a side share it evenly.
use Rattle.std.proofs.Common.{◌≡◌, ℕ, zero, suc, ◌+◌, ◌-◌, ◌/◌, ◌%◌, ◌<◌, ◌≤◌, List, [], ◌∷◌, refl, sym, ap, ◌∙◌, Bool, true, false, ◌==◌, ◌||◌, arith, length, min, get_or}
use Rattle.std.specs.Prelude.{if◌then◌else◌}
use Rattle.hand_laws.specs.Shared.{IsEven}
use Rattle.pot_layers.specs.Split.{IsOrder, Differ, given, side_share, is_among}

-- a seat of a list is among it
among_at : (order : List ℕ) (k : ℕ) → k < length order → is_among (get_or order k 0) order ≡ true
among_at [] k few = absurd (omega arith)
among_at (s ∷ order) zero few = let here : (s == s) ≡ true = grind arith in rw here refl
among_at (s ∷ order) (suc k) few = later (s == get_or order k 0) (is_among (get_or order k 0) order) (among_at order k (omega (arith, few)))
  where
    later : (a b : Bool) → b ≡ true → (a || b) ≡ true
    later true b is = refl
    later false b is = is

-- what the seat at a place of an order gets: one unit more where as many places before it leave some over
given_at : (each extra : ℕ) (order : List ℕ) (k : ℕ) → Differ order → k < length order → given each extra order (get_or order k 0) ≡ each + min (extra - k) 1
given_at each extra [] k differ few = absurd (omega arith)
given_at each extra (s ∷ order) zero differ few = let here : (s == s) ≡ true = grind arith in let all : extra - 0 ≡ extra = omega arith in rw (here, all) refl
given_at each extra (s ∷ order) (suc k) differ few =
    let among : is_among (get_or order k 0) order ≡ true = among_at order k (omega (arith, few)) in
    let rest : given each (extra - 1) order (get_or order k 0) ≡ each + min (extra - 1 - k) 1 = given_at each (extra - 1) order k differ.1 (omega (arith, few)) in
    by (get_or order k 0) (s == get_or order k 0) refl among rest
  where
    by : (seat : ℕ) (b : Bool) → (s == seat) ≡ b → is_among seat order ≡ true → given each (extra - 1) order seat ≡ each + min (extra - 1 - k) 1
        → (if b then each + min extra 1 else given each (extra - 1) order seat) ≡ each + min (extra - suc k) 1
    by seat true e among rest = (let is : s ≡ seat = grind arith in let none : is_among seat order ≡ false = ap (λ q. is_among q order) (sym is) ∙ differ.0 in cc)
    by seat false e among rest = rest ∙ (let less : extra - 1 - k ≡ extra - suc k = omega arith in rw less refl)

pub shares_are_even : (units winners : ℕ) (order : List ℕ) → IsOrder winners order → (early late : ℕ) → early ≤ late → late < length order → IsEven units order early late
shares_are_even units winners order is early late order_of few =
    let each : ℕ = units / length order in
    let extra : ℕ = units % length order in
    let first : side_share units order (get_or order early 0) ≡ each + min (extra - early) 1 = given_at each extra order early is.once (omega (arith, order_of, few)) in
    let last : side_share units order (get_or order late 0) ≡ each + min (extra - late) 1 = given_at each extra order late is.once few in
    record { not_less = omega (arith, first, last, order_of); by_one = omega (arith, first, last, order_of) }
