-- A hand has no more pots than players, or one.
use Rattle.std.proofs.Common.{◌≡◌, ℕ, zero, suc, ◌+◌, ◌≤◌, List, [], ◌∷◌, refl, ap, Bool, true, false, ◌==◌, length, arith}
use Rattle.std.specs.Prelude.{nat_lt, if◌then◌else◌}
use Rattle.card_sets.specs.PlayerSets.{has_player}
use Rattle.betting_replay.specs.Accounts.{paid_by}
use Rattle.betting_replay.specs.Table.{ReplayState}
use Rattle.pot_layers.specs.declared.paid.Paid.{Paid}
use Rattle.pot_layers.specs.declared.paid.Pot.{Pot}
use Rattle.pot_layers.specs.Pots.{with_level, is_in, levels, pots_from, more_first, more_last, all_dead, above, highest, any_contender, reaching, or_one, pots}
use Rattle.hand_audit.specs.Showings.{paid_from, paid_in}

first_length : (units : ℕ) (xs : List Pot) → length (more_first units xs) ≡ length xs
first_length units [] = refl
first_length units (pot ∷ xs) = refl

last_length : (units : ℕ) (xs : List Pot) → length (more_last units xs) ≡ length xs
last_length units [] = refl
last_length units (pot ∷ []) = refl
last_length units (pot ∷ next ∷ xs) = ap suc (last_length units (next ∷ xs))

from_length : (ps : List Paid) (low : ℕ) (ls : List ℕ) → length (pots_from ps low ls) ≡ length ls
from_length ps low [] = refl
from_length ps low (l ∷ ls) = ap suc (from_length ps l ls)

level_length : (x : ℕ) (ls : List ℕ) → length (with_level x ls) ≤ suc (length ls)
level_length x [] = omega arith
level_length x (y ∷ ys) = by (nat_lt x y) (x == y) (level_length x ys)
  where
    by : (a b : Bool) → length (with_level x ys) ≤ suc (length ys) → length (if a then x ∷ y ∷ ys else (if b then y ∷ ys else y ∷ with_level x ys)) ≤ suc (length (y ∷ ys))
    by true b l = omega arith
    by false true l = omega arith
    by false false l = omega (arith, l)

levels_length : (ps : List Paid) → length (levels ps) ≤ length ps
levels_length [] = omega arith
levels_length (p ∷ ps) = by (is_in p) (levels_length ps)
  where
    by : (b : Bool) → length (levels ps) ≤ length ps → length (if b then with_level p.live (levels ps) else levels ps) ≤ suc (length ps)
    by true l = omega (arith, l, level_length p.live (levels ps))
    by false l = omega (arith, l)

one_length : (ps : List Paid) (xs : List Pot) → length xs ≤ 10 → length (or_one ps xs) ≤ 10
one_length ps [] l = by (any_contender ps)
  where
    by : (b : Bool) → length {A = Pot} (if b then record { units = 0; eligible = reaching ps 0 } ∷ [] else []) ≤ 10
    by true = omega arith
    by false = omega arith
one_length ps (pot ∷ xs) l = l

paid_length : (t : ReplayState) (p n : ℕ) → length (paid_from t p n) ≤ n
paid_length t p zero = omega arith
paid_length t p (suc n) = by (has_player t.players p) (paid_length t (p + 1) n)
  where
    by : (b : Bool) → length (paid_from t (p + 1) n) ≤ n → length (if b then paid_by t p ∷ paid_from t (p + 1) n else paid_from t (p + 1) n) ≤ suc n
    by true l = omega (arith, l)
    by false l = omega (arith, l)

pots_length : (ps : List Paid) → length ps ≤ 10 → length (pots ps) ≤ 10
unfolding pots
pots_length ps few =
    let made : length (pots_from ps 0 (levels ps)) ≡ length (levels ps) = from_length ps 0 (levels ps) in
    let one = one_length ps (pots_from ps 0 (levels ps)) (omega (arith, made, levels_length ps, few)) in
    let more : length (more_last (above ps (highest ps)) (or_one ps (pots_from ps 0 (levels ps)))) ≡ length (or_one ps (pots_from ps 0 (levels ps))) = last_length (above ps (highest ps)) (or_one ps (pots_from ps 0 (levels ps))) in
    let whole = first_length (all_dead ps) (more_last (above ps (highest ps)) (or_one ps (pots_from ps 0 (levels ps)))) in
    omega (arith, one, more, whole)

pub few_pots : (t : ReplayState) → length (pots (paid_in t)) ≤ 10
unfolding paid_in
few_pots t = pots_length (paid_from t 1 10) (paid_length t 1 10)
