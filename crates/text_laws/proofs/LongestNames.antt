-- The longest fitting name is one that fits, and none is longer.
use Rattle.std.proofs.Common.{◌≡◌, ℕ, ◌≤◌, true, List, [], ◌∷◌, Option, Some, None, refl, sym, ◌∙◌, arith, inl, inr, ◌⊎◌}
use Rattle.std.specs.Prelude.{nat_lt, IfSome}
use Rattle.std.specs.List.{AllByRecursion}
use Rattle.std.proofs.lemmas.Bool.{cond_both, ltb-false}
use Rattle.history_text.specs.Names.{Fit, fit, longer, longest, front_name}
use Rattle.text_laws.specs.NameLaws.{IsNotLonger, IsFitOf, AllAreLongest}

not_longer_through : (a b c : Option Fit) → IsNotLonger a b → IsNotLonger b c → IsNotLonger a c
not_longer_through None b c h k = tt
not_longer_through (Some a) None c h k = absurd h
not_longer_through (Some a) (Some b) None h k = absurd k
not_longer_through (Some a) (Some b) (Some c) h k = omega (arith, h, k)

not_longer_left : (a b : Option Fit) → IsNotLonger a (longer a b)
not_longer_left None b = tt
not_longer_left (Some a) None = omega arith
not_longer_left (Some a) (Some b) =
    cond_both (nat_lt a.length b.length) (Some b) (Some a) (λ r. IsNotLonger (Some a) r)
    (λ e. omega (arith, ltb-true' e)) (λ _. omega arith)
  where
    ltb-true' : nat_lt a.length b.length ≡ true → a.length ≤ b.length
    ltb-true' e = grind arith

not_longer_right : (a b : Option Fit) → IsNotLonger b (longer a b)
not_longer_right None None = tt
not_longer_right None (Some b) = omega arith
not_longer_right (Some a) None = tt
not_longer_right (Some a) (Some b) =
    cond_both (nat_lt a.length b.length) (Some b) (Some a) (λ r. IsNotLonger (Some b) r)
    (λ _. omega arith) (λ e. ltb-false a.length b.length e)

best_stays : (best : Option Fit) (mark text : List ℕ) (names : List (ℕ × List ℕ)) → IsNotLonger best (longest best mark text names)
best_stays None mark text [] = tt
best_stays (Some best) mark text [] = omega arith
best_stays best mark text (who ∷ names) =
    not_longer_through best (longer best (fit mark text who)) (longest (longer best (fit mark text who)) mark text names)
    (not_longer_left best (fit mark text who)) (best_stays (longer best (fit mark text who)) mark text names)

none_longer : (best : Option Fit) (mark text : List ℕ) (names : List (ℕ × List ℕ))
    → AllByRecursion (λ who. IsNotLonger (fit mark text who) (longest best mark text names)) names
none_longer best mark text [] = tt
none_longer best mark text (who ∷ names) = (
  not_longer_through (fit mark text who) (longer best (fit mark text who)) (longest (longer best (fit mark text who)) mark text names)
      (not_longer_right best (fit mark text who)) (best_stays (longer best (fit mark text who)) mark text names),
  none_longer (longer best (fit mark text who)) mark text names,
)

one_of : (a b : Option Fit) → (longer a b ≡ a) ⊎ (longer a b ≡ b)
one_of None b = inr refl
one_of (Some a) None = inl refl
one_of (Some a) (Some b) =
    cond_both (nat_lt a.length b.length) (Some b) (Some a) (λ r. (r ≡ Some a) ⊎ (r ≡ Some b)) (λ _. inr refl) (λ _. inl refl)

one_fits : (best : Option Fit) (mark text : List ℕ) (names : List (ℕ × List ℕ))
    → (longest best mark text names ≡ best) ⊎ IsFitOf mark text names (longest best mark text names)
one_fits best mark text [] = inl refl
one_fits best mark text (who ∷ names) =
    joined (one_fits (longer best (fit mark text who)) mark text names) (one_of best (fit mark text who))
  where
    joined : (longest (longer best (fit mark text who)) mark text names ≡ longer best (fit mark text who))
        ⊎ IsFitOf mark text names (longest (longer best (fit mark text who)) mark text names)
        → (longer best (fit mark text who) ≡ best) ⊎ (longer best (fit mark text who) ≡ fit mark text who)
        → (longest best mark text (who ∷ names) ≡ best) ⊎ IsFitOf mark text (who ∷ names) (longest best mark text (who ∷ names))
    joined (inl e) (inl first) = inl (e ∙ first)
    joined (inl e) (inr second) = inr (inl (sym (e ∙ second)))
    joined (inr later) _ = inr (inr later)

some_fits : (mark text : List ℕ) (names : List (ℕ × List ℕ)) (found : Option Fit)
    → (found ≡ None) ⊎ IsFitOf mark text names found → IfSome found (λ f. IsFitOf mark text names (Some f))
some_fits mark text names None h = tt
some_fits mark text names (Some f) (inl e) = absurd (cc)
some_fits mark text names (Some f) (inr h) = h

pub all_are_longest : AllAreLongest
unfolding front_name
all_are_longest mark text names = record {
  fits = some_fits mark text names (longest None mark text names) (one_fits None mark text names);
  longest = none_longer None mark text names;
}
