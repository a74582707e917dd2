-- The parts of a side are all of it.
use Rattle.std.proofs.Common.{◌≡◌, ℕ, zero, suc, ◌+◌, ◌-◌, ◌*◌, ◌/◌, ◌%◌, ◌<◌, ◌≤◌, List, [], ◌∷◌, refl, sym, ap, ◌∙◌, Bool, true, false, ◌==◌, arith, length, min}
use Rattle.std.specs.Prelude.{if◌then◌else◌}
use mathlib.Core.Bool.{true≢false}
use Rattle.card_sets.specs.PlayerSets.{has_player}
use Rattle.std.proofs.lemmas.List.Sums.{sum_by-cons}
use Rattle.pot_layers.specs.declared.paid.Share.{Share}
use Rattle.pot_layers.proofs.WinnerWalk.{part_of}
use Rattle.pot_layers.specs.Split.{InRange, IsOrder, given_in_all, shares_from, shares, sides_won, high_half, low_half, given, side_share, is_among, Differ}

-- the sum over n seats from one on
abbrev pub total_from : (ℕ → ℕ) → ℕ → ℕ → ℕ
total_from f a zero = 0
total_from f a (suc n) = f a + total_from f (a + 1) n

-- a seat that isn't in the order gets nothing
given_none : (each extra : ℕ) (order : List ℕ) (seat : ℕ) → is_among seat order ≡ false → given each extra order seat ≡ 0
given_none each extra [] seat h = refl
given_none each extra (s ∷ order) seat h = one (s == seat) refl (λ i. given_none each (extra - 1) order seat i)
  where
    one : (b : Bool) → (s == seat) ≡ b → (is_among seat order ≡ false → given each (extra - 1) order seat ≡ 0) → (if b then each + min extra 1 else given each (extra - 1) order seat) ≡ 0
    one true e go = let same : is_among seat (s ∷ order) ≡ true = rw e refl in cc
    one false e go = let same : is_among seat (s ∷ order) ≡ is_among seat order = rw e refl in go (sym same ∙ h)

-- a sum in which one seat's part is another
total_outside : (f : ℕ → ℕ) (s x a n : ℕ) → s < a → total_from (λ q. if s == q then x else f q) a n ≡ total_from f a n
total_outside f s x a zero h = refl
total_outside f s x a (suc n) h =
    let no : (s == a) ≡ false = grind arith in
    let rest : total_from (λ q. if s == q then x else f q) (a + 1) n ≡ total_from f (a + 1) n = total_outside f s x (a + 1) n (omega arith) in
    rw (no, rest) refl

total_with : (f : ℕ → ℕ) (s x a n : ℕ) → a ≤ s → s < a + n → f s ≡ 0 → total_from (λ q. if s == q then x else f q) a n ≡ x + total_from f a n
total_with f s x a zero low high none = absurd (omega arith)
total_with f s x a (suc n) low high none = one (s == a) refl (total_outside f s x (a + 1) n) (λ l. total_with f s x (a + 1) n l (omega arith) none)
  where
    one : (b : Bool) → (s == a) ≡ b → (s < a + 1 → total_from (λ q. if s == q then x else f q) (a + 1) n ≡ total_from f (a + 1) n)
        → (a + 1 ≤ s → total_from (λ q. if s == q then x else f q) (a + 1) n ≡ x + total_from f (a + 1) n)
        → (if b then x else f a) + total_from (λ q. if s == q then x else f q) (a + 1) n ≡ x + (f a + total_from f (a + 1) n)
    one true e out go =
        let is : s ≡ a = grind arith in
        let rest : total_from (λ q. if s == q then x else f q) (a + 1) n ≡ total_from f (a + 1) n = out (omega arith) in
        let here : f a ≡ 0 = ap f (sym is) ∙ none in
        omega (arith, rest, here)
    one false e out go =
        let ne : a + 1 ≤ s = grind arith in
        let rest : total_from (λ q. if s == q then x else f q) (a + 1) n ≡ x + total_from f (a + 1) n = go ne in
        omega (arith, rest)

given_total : (each extra : ℕ) (order : List ℕ) → Differ order → InRange order → extra ≤ length order → total_from (given each extra order) 1 10 ≡ length order * each + extra
given_total each extra [] d r h = omega arith
given_total each extra (s ∷ order) d r h =
    let rest : total_from (given each (extra - 1) order) 1 10 ≡ length order * each + (extra - 1) = given_total each (extra - 1) order d.1 r.2 (omega arith) in
    let step : total_from (given each extra (s ∷ order)) 1 10 ≡ (each + min extra 1) + total_from (given each (extra - 1) order) 1 10 =
    total_with (given each (extra - 1) order) s (each + min extra 1) 1 10 r.0 (let l : s ≤ 10 = r.1 in omega arith) (given_none each (extra - 1) order s d.0) in
    let more : suc (length order) * each ≡ each + length order * each = grind arith in
    omega (arith, rest, step, more)

-- a side's parts are all of it
pub side_total : (units : ℕ) (order : List ℕ) → Differ order → InRange order → 0 < length order → total_from (side_share units order) 1 10 ≡ units
side_total units order d r some =
    let parts : total_from (given (units / length order) (units % length order) order) 1 10 ≡ length order * (units / length order) + units % length order = given_total (units / length order) (units % length order) order d r (omega arith) in
    omega (arith, parts)

total-same : (f g : ℕ → ℕ) (a n : ℕ) → ((q : ℕ) → f q ≡ g q) → total_from f a n ≡ total_from g a n
total-same f g a zero h = refl
total-same f g a (suc n) h = omega (arith, h a, total-same f g (a + 1) n h)

total-plus : (f g : ℕ → ℕ) (a n : ℕ) → total_from (λ q. f q + g q) a n ≡ total_from f a n + total_from g a n
total-plus f g a zero = refl
total-plus f g a (suc n) = omega (arith, total-plus f g (a + 1) n)

-- the parts add up to what each seat gets, over all seats that win a side
shares-total : (units high low : ℕ) (ho lo : List ℕ) (a n : ℕ)
    → given_in_all (shares_from units high low ho lo a n) ≡ total_from (λ q. if sides_won high low q == 0 then 0 else side_share (high_half units low) ho q + side_share (low_half units low) lo q) a n
shares-total units high low ho lo a zero = refl
shares-total units high low ho lo a (suc n) = one (sides_won high low a == 0) (shares-total units high low ho lo (a + 1) n)
  where
    one : (b : Bool) → given_in_all (shares_from units high low ho lo (a + 1) n) ≡ total_from (λ q. if sides_won high low q == 0 then 0 else side_share (high_half units low) ho q + side_share (low_half units low) lo q) (a + 1) n
        → given_in_all (if b then shares_from units high low ho lo (a + 1) n else part_of units high low ho lo a ∷ shares_from units high low ho lo (a + 1) n)
        ≡ (if b then 0 else side_share (high_half units low) ho a + side_share (low_half units low) lo a) + total_from (λ q. if sides_won high low q == 0 then 0 else side_share (high_half units low) ho q + side_share (low_half units low) lo q) (a + 1) n
    one true ih = omega (arith, ih)
    one false ih = omega (arith, ih, sum_by-cons (λ (part : Share). part.units) (part_of units high low ho lo a) (shares_from units high low ho lo (a + 1) n))

-- a seat that doesn't win a side gets nothing of it
loser : (units winners : ℕ) (order : List ℕ) (q : ℕ) → IsOrder winners order → has_player winners q ≡ false → side_share units order q ≡ 0
loser units winners order q is none = given_none (units / length order) (units % length order) order q (is.each q ∙ none)

-- a seat that wins no side is in neither set of winners
none_won : (a b : Bool) → ((if a then 1 else 0) + (if b then 1 else 0) == 0) ≡ true → (a ≡ false) × (b ≡ false)
none_won false false h = (refl, refl)
none_won true true h = absurd (let one : false ≡ true = h in true≢false (sym one))
none_won true false h = absurd (let one : false ≡ true = h in true≢false (sym one))
none_won false true h = absurd (let one : false ≡ true = h in true≢false (sym one))

seat-total : (units high low : ℕ) (ho lo : List ℕ) (q : ℕ) → IsOrder high ho → IsOrder low lo
    → (if sides_won high low q == 0 then 0 else side_share (high_half units low) ho q + side_share (low_half units low) lo q) ≡ side_share (high_half units low) ho q + side_share (low_half units low) lo q
seat-total units high low ho lo q h l = one (sides_won high low q == 0) refl
  where
    one : (b : Bool) → (sides_won high low q == 0) ≡ b → (if b then 0 else side_share (high_half units low) ho q + side_share (low_half units low) lo q) ≡ side_share (high_half units low) ho q + side_share (low_half units low) lo q
    one true e =
        let none = none_won (has_player high q) (has_player low q) e in
        let a : side_share (high_half units low) ho q ≡ 0 = loser (high_half units low) high ho q h none.0 in
        let b : side_share (low_half units low) lo q ≡ 0 = loser (low_half units low) low lo q l none.1 in
        omega (arith, a, b)
    one false e = refl

-- a side with an order adds up, and one with none is empty
side-all : (units winners : ℕ) (order : List ℕ) → IsOrder winners order → (winners ≡ 0 → units ≡ 0) → total_from (side_share units order) 1 10 ≡ units
side-all units winners [] is none = let z : units ≡ 0 = none (is.none refl) in sym z
side-all units winners (s ∷ order) is none = side_total units (s ∷ order) is.once is.seats (omega arith)

pub halves : (units low : ℕ) → high_half units low + low_half units low ≡ units
halves units low = one (low == 0)
  where
    one : (b : Bool) → (if b then units else (units + 1) / 2) + (if b then 0 else units / 2) ≡ units
    one true = omega arith
    one false = omega arith

-- the parts of a pot add up to it
pub shares_whole : (units high low : ℕ) (ho lo : List ℕ) → 0 < high → IsOrder high ho → IsOrder low lo → given_in_all (shares units high low ho lo) ≡ units
unfolding shares
shares_whole units high low ho lo some h l =
    let sum : given_in_all (shares_from units high low ho lo 1 10) ≡ total_from (λ q. side_share (high_half units low) ho q + side_share (low_half units low) lo q) 1 10 =
    shares-total units high low ho lo 1 10 ∙ total-same _ _ 1 10 (λ q. seat-total units high low ho lo q h l) in
    let highs : total_from (side_share (high_half units low) ho) 1 10 ≡ high_half units low = side-all (high_half units low) high ho h (λ z. absurd (omega (arith, z, some))) in
    let lows : total_from (side_share (low_half units low) lo) 1 10 ≡ low_half units low = side-all (low_half units low) low lo l (λ z. rw z refl) in
    omega (arith, sum, total-plus (side_share (high_half units low) ho) (side_share (low_half units low) lo) 1 10, highs, lows, halves units low)

pub split_whole : (units high low : ℕ) (ho ho' lo lo' : List ℕ) (items : List Share) → items ≡ shares_from units high low ho' lo' 1 10 → ho' ≡ ho → lo' ≡ lo → 0 < high → IsOrder high ho → IsOrder low lo → given_in_all items ≡ units
unfolding shares
split_whole units high low ho ho' lo lo' items is a b some h l =
    let same : shares_from units high low ho' lo' 1 10 ≡ shares_from units high low ho lo 1 10 = rw (a, b) refl in
    ap given_in_all (is ∙ same) ∙ shares_whole units high low ho lo some h l
