-- Who is among those of some seats that pass a test.
use Rattle.std.proofs.Common.{◌≡◌, ℕ, List, [], ◌∷◌, refl, sym, ap, ◌∙◌, Bool, true, false, ◌==◌, ◌&&◌, ◌||◌, arith}
use Rattle.std.specs.Prelude.{filter, if◌then◌else◌}
use Rattle.std.specs.List.{list_any}

eq_same : (f : ℕ → Bool) (q p : ℕ) → (q == p) ≡ true → f q ≡ f p
eq_same f q p e = let is : q ≡ p = grind arith in ap f is

off : (x : Bool) → (x && false) ≡ false
off true = refl
off false = refl

among_more : (f : ℕ → Bool) (q : ℕ) (xs : List ℕ) (p : ℕ) → list_any (λ r. r == p) (filter f xs) ≡ (list_any (λ r. r == p) xs && f p) → (a b : Bool) → f q ≡ a → (q == p) ≡ b
    → list_any (λ r. r == p) (if a then q ∷ filter f xs else filter f xs) ≡ ((b || list_any (λ r. r == p) xs) && f p)
among_more f q xs p ih true true ea eb = let here : f p ≡ true = sym (eq_same f q p eb) ∙ ea in rw (eb, here) refl
among_more f q xs p ih true false ea eb = rw eb ih
among_more f q xs p ih false true ea eb = let here : f p ≡ false = sym (eq_same f q p eb) ∙ ea in ih ∙ rw here (off (list_any (λ r. r == p) xs))
among_more f q xs p ih false false ea eb = ih

pub among_filter : (f : ℕ → Bool) (xs : List ℕ) (p : ℕ) → list_any (λ q. q == p) (filter f xs) ≡ (list_any (λ q. q == p) xs && f p)
among_filter f [] p = refl
among_filter f (q ∷ xs) p = among_more f q xs p (among_filter f xs p) (f q) (q == p) refl refl
