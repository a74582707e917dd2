-- The walk around the table: the first seat from one on that passes a test.
use Rattle.std.specs.Prelude.{Option, Some, None, IfSome, IsNone, nat_le, ◌&&◌, if◌then◌else◌}
use Rattle.std.specs.Option.{option_or}
use Rattle.std.proofs.lemmas.Bool.Decides.{nat_tests}
use Rattle.std.proofs.Common.{◌≡◌, ℕ, zero, suc, ◌+◌, ◌-◌, ◌<◌, ◌≤◌, ◌==◌, refl, sym, ap, ◌∙◌, Bool, true, false, arith}
use Rattle.betting_replay.specs.Seats.{first_from, first_after, or_else}
use Rattle.betting_replay.specs.Table.{ReplayState}
use Rattle.betting_replay.specs.Turns.{contender_count, has_chips, is_contender, is_open, is_pending, is_played, owes}

-- the first of the seats from one that doesn't pass is the first of those after it
pub first_from-next : (test : ℕ → Bool) (p end : ℕ) → test p ≡ false → p < end → first_from test p (end - p) ≡ first_from test (p + 1) (end - (p + 1))
first_from-next test p end fails h =
    let more : end - p ≡ suc (end - (p + 1)) = omega arith in
    rw (more, fails) refl

-- where none of some seats is the first that passes, none passes
pub none_from : (test : ℕ → Bool) (p n q : ℕ) → first_from test p n ≡ None → p ≤ q → q < p + n → test q ≡ false
none_from test p zero q h low high = absurd (omega arith)
none_from test p (suc n) q h low high = one (test p) refl (p == q) refl h (λ rest more. none_from test (p + 1) n q rest more (omega arith))
  where
    one : (b : Bool) → test p ≡ b → (here : Bool) → (p == q) ≡ here → (if b then Some p else first_from test (p + 1) n) ≡ None → (first_from test (p + 1) n ≡ None → p + 1 ≤ q → test q ≡ false) → test q ≡ false
    one true e here eh none go = cc
    one false e true eh none go = let is : p ≡ q = grind arith in ap test (sym is) ∙ e
    one false e false eh none go = go none (let ne : p + 1 ≤ q = grind arith in ne)

-- the first that passes does
pub some_from : (test : ℕ → Bool) (p n s : ℕ) → first_from test p n ≡ Some s → test s ≡ true
some_from test p zero s h = cc
some_from test p (suc n) s h = one (test p) refl h (λ rest. some_from test (p + 1) n s rest)
  where
    one : (b : Bool) → test p ≡ b → (if b then Some p else first_from test (p + 1) n) ≡ Some s → (first_from test (p + 1) n ≡ Some s → test s ≡ true) → test s ≡ true
    one true e is go = let same : p ≡ s = cc in ap test (sym same) ∙ e
    one false e is go = go is

either_none : (a b : Option ℕ) → or_else a b ≡ None → (a ≡ None) × (b ≡ None)
either_none None b h = (refl, h)
either_none (Some x) b h = cc

either_some : (a b : Option ℕ) (s : ℕ) → or_else a b ≡ Some s → (test : ℕ → Bool) → (a ≡ Some s → test s ≡ true) → (b ≡ Some s → test s ≡ true) → test s ≡ true
either_some None b s h test f g = g h
either_some (Some x) b s h test f g = f h

pub none_after : (test : ℕ → Bool) (last : Option ℕ) (q : ℕ) → IfSome last (λ a. a ≤ 10) → first_after test last ≡ None → 1 ≤ q → q ≤ 10 → test q ≡ false
none_after test None q few h low high = none_from test 1 10 q h low (omega arith)
none_after test (Some a) q few h low high = one (nat_le q a) refl (either_none _ _ h)
  where
    one : (b : Bool) → nat_le q a ≡ b → (first_from test (a + 1) (10 - a) ≡ None) × (first_from test 1 a ≡ None) → test q ≡ false
    one true e none = let within : q ≤ a = grind (arith, nat_tests) in none_from test 1 a q none.1 low (omega (arith, within))
    one false e none = let above : a < q = grind (arith, nat_tests) in none_from test (a + 1) (10 - a) q none.0 (omega (arith, above)) (omega (arith, above, high))

pub some_after : (test : ℕ → Bool) (last : Option ℕ) (s : ℕ) → first_after test last ≡ Some s → test s ≡ true
some_after test None s h = some_from test 1 10 s h
some_after test (Some a) s h = either_some _ _ s h test (some_from test (a + 1) (10 - a) s) (some_from test 1 a s)

-- what the walk around the table answers, of the parts after the last actor and up to him
pub found_after : (test : ℕ → Bool) (a : ℕ) (behind before r : Option ℕ) → behind ≡ first_from test (a + 1) (11 - (a + 1)) → before ≡ first_from test 1 (a + 1 - 1) → r ≡ option_or behind before → r ≡ first_after test (Some a)
found_after test a behind before r b1 b2 is =
    let some : 11 - (a + 1) ≡ 10 - a = omega arith in
    let all : a + 1 - 1 ≡ a = omega arith in
    is ∙ same behind before ∙ rw (b1 ∙ ap (first_from test (a + 1)) some, b2 ∙ ap (first_from test 1) all) refl
  where
    same : (x y : Option ℕ) → option_or x y ≡ or_else x y
    same None y = refl
    same (Some s) y = refl

pub nobody_after : (test : ℕ → Bool) (last r : Option ℕ) → IfSome last (λ a. a ≤ 10) → r ≡ first_after test last → IsNone r → (p : ℕ) → 1 ≤ p → p ≤ 10 → test p ≡ false
nobody_after test last None few is none p low high = none_after test last p few (sym is) low high
nobody_after test last (Some s) few is none p low high = cc

pub somebody_after : (test : ℕ → Bool) (last r : Option ℕ) → r ≡ first_after test last → IfSome r (λ s. test s ≡ true)
somebody_after test last None is = tt
somebody_after test last (Some s) is = some_after test last s (sym is)

-- where betting is closed, or one is left, nobody owes an act
none_owes : (t : ReplayState) (p : ℕ) → is_played t ≡ false → owes t p ≡ false
unfolding owes
none_owes t p closed = by (is_open t) (nat_le 2 (contender_count t)) refl refl
  where
    by : (a b : Bool) → is_open t ≡ a → nat_le 2 (contender_count t) ≡ b → owes t p ≡ false
    by false b shut few = rw shut refl
    by true false free few = rw (free, few) refl
    by true true free many = (let played : is_played t ≡ true = rw (free, many) refl in cc)

pub nobody_owes : (t : ReplayState) (from n : ℕ) → is_played t ≡ false → first_from (owes t) from n ≡ None
nobody_owes t from zero closed = refl
nobody_owes t from (suc n) closed = rw (none_owes t from closed) (nobody_owes t (from + 1) n closed)

-- who has folded, or has no chips left, owes none
unfunded : (free many in_hand funded pending : Bool) → (in_hand && funded) ≡ false → (free && many && in_hand && funded && pending) ≡ false
unfunded false many in_hand funded pending none = refl
unfunded true false in_hand funded pending none = refl
unfunded true true false funded pending none = refl
unfunded true true true false pending none = refl
unfunded true true true true pending none = cc

pub unfunded_owes : (t : ReplayState) (p : ℕ) → (is_contender t p && has_chips t p) ≡ false → owes t p ≡ false
unfolding owes
unfunded_owes t p none = unfunded (is_open t) (nat_le 2 (contender_count t)) (is_contender t p) (has_chips t p) (is_pending t p) none
