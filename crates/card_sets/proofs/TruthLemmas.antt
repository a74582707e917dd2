-- What `and` and `or` say of their two parts. What std has of them is cited from there.
use Rattle.std.proofs.Common.{◌≡◌, Bool, true, false, ◌||◌, ◌&&◌, not, refl, sym, ◌⊎◌, inl, inr}
use mathlib.Core.Bool.{true≢false}

pub and_first : (a b : Bool) → (a && b) ≡ true → a ≡ true
and_first true b h = refl
and_first false b h = h

pub and_second : (a b : Bool) → (a && b) ≡ true → b ≡ true
and_second true b h = h
and_second false b h = absurd (true≢false (sym h))

pub or_first : (a b : Bool) → (a || b) ≡ false → a ≡ false
or_first true b h = h
or_first false b h = refl

pub or_second : (a b : Bool) → (a || b) ≡ false → b ≡ false
or_second true b h = absurd (true≢false h)
or_second false b h = h

pub or_either : (a b : Bool) → (a || b) ≡ true → (a ≡ true) ⊎ (b ≡ true)
or_either true b h = inl refl
or_either false b h = inr h

pub false_unless : (b : Bool) → (b ≡ true → false ≡ true) → b ≡ false
false_unless true h = sym (h refl)
false_unless false h = refl

pub not_true : (b : Bool) → not b ≡ true → b ≡ true → ⊥
not_true true h e = true≢false (sym h)
not_true false h e = true≢false (sym e)
