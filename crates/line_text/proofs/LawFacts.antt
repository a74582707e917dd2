-- The law of closed lines: they stay the first.
use Rattle.std.proofs.Common.{◌≡◌, ◌≢◌, ℕ, Bool, true, false, ◌||◌, cond, List, [], ◌∷◌, ◌++◌, map, refl, ap, ◌∙◌, inl, inr}
use Rattle.std.proofs.lemmas.Bool.{cond_both, eqb-false, eqb-true}
use Rattle.std.proofs.lemmas.List.{map-append}
use Rattle.std.proofs.lemmas.List.Elements.{All-nil, All-cons}
use Rattle.line_text.specs.Lines.{is_newline, has_newline, cut_lines, put_in_first, text_of, lines, closed, unclosed, only_line}
use Rattle.line_text.specs.Laws.{HasNoNewline, EndsInNewline, AllCloseLines}
use Rattle.line_text.proofs.LineFacts.{cut_lines-front}

-- bytes without a newline as lines that are not cut: one, if there are any
abbrev only : List ℕ → List (List ℕ)
only [] = []
only (x ∷ xs) = (x ∷ xs) ∷ []

both_false : (a b : Bool) → (a || b) ≡ false → (a ≡ false) × (b ≡ false)
both_false true b h = cc
both_false false b h = (refl, h)

put_in_first-only : (x : ℕ) (xs : List ℕ) → put_in_first x (only xs) ≡ (x ∷ xs) ∷ []
put_in_first-only x [] = refl
put_in_first-only x (y ∷ ys) = refl

cut_lines-only : (xs : List ℕ) → has_newline xs ≡ false → cut_lines xs ≡ only xs
cut_lines-only [] h = refl
cut_lines-only (x ∷ xs) h =
    let none : (is_newline x ≡ false) × (has_newline xs ≡ false) = both_false (is_newline x) (has_newline xs) h in
    let here : is_newline x ≡ false = none.0 in
    rw here (ap (put_in_first x) (cut_lines-only xs none.1) ∙ put_in_first-only x xs)

no_newline-from_test : (xs : List ℕ) → has_newline xs ≡ false → HasNoNewline xs
no_newline-from_test [] h = All-nil (λ byte. byte ≢ 10)
no_newline-from_test (x ∷ xs) h =
    let none : (is_newline x ≡ false) × (has_newline xs ≡ false) = both_false (is_newline x) (has_newline xs) h in
    All-cons (λ byte. byte ≢ 10) x xs (eqb-false x 10 none.0) (no_newline-from_test xs none.1)

-- a byte before bytes that a newline closes begins the first of their lines
put_in_first-closed : (x : ℕ) (xs : List ℕ) (more : List (List ℕ)) → has_newline xs ≡ true
    → put_in_first x (cut_lines (closed xs) ++ more) ≡ put_in_first x (cut_lines (closed xs)) ++ more
put_in_first-closed x [] more h = cc
put_in_first-closed x (y ∷ ys) more h =
    rw h (rw (cut_lines-front y (closed ys)) refl)

closed_step : (x : ℕ) (xs : List ℕ) (v w : Bool) → is_newline x ≡ v → has_newline xs ≡ w
    → cut_lines xs ≡ cut_lines (closed xs) ++ only (unclosed xs)
    → cut_lines (x ∷ xs) ≡ cut_lines (closed (x ∷ xs)) ++ only (unclosed (x ∷ xs))
closed_step x xs true w here later ih = rw (here, here) (ap (λ cut. [] ∷ cut) ih)
closed_step x xs false true here later ih =
    rw (here, later, here) (ap (put_in_first x) ih ∙ put_in_first-closed x xs (only (unclosed xs)) later)
closed_step x xs false false here later ih =
    rw (here, later) (ap (put_in_first x) (cut_lines-only xs later) ∙ put_in_first-only x xs)

closed_cut : (xs : List ℕ) → cut_lines xs ≡ cut_lines (closed xs) ++ only (unclosed xs)
closed_cut [] = refl
closed_cut (x ∷ xs) = closed_step x xs (is_newline x) (has_newline xs) refl refl (closed_cut xs)

only-texts : (xs : List ℕ) → map text_of (only xs) ≡ only_line xs
only-texts [] = refl
only-texts (x ∷ xs) = refl

closed-parts : (xs : List ℕ) → closed xs ++ unclosed xs ≡ xs
closed-parts [] = refl
closed-parts (x ∷ xs) =
    elim (is_newline x || has_newline xs) as (λ v.
    cond v (x ∷ closed xs) [] ++ cond v (unclosed xs) (x ∷ xs) ≡ x ∷ xs) [
      | true ↦ ap (λ l. x ∷ l) (closed-parts xs)
      | false ↦ refl
    ]

unclosed-no_newline : (xs : List ℕ) → HasNoNewline (unclosed xs)
unclosed-no_newline [] = All-nil (λ byte. byte ≢ 10)
unclosed-no_newline (x ∷ xs) =
    cond_both (is_newline x || has_newline xs) (unclosed xs) (x ∷ xs) HasNoNewline
    (λ _. unclosed-no_newline xs) (λ e. no_newline-from_test (x ∷ xs) e)

closed-some : (xs : List ℕ) → has_newline xs ≡ true → closed xs ≡ [] → ⊥
closed-some [] h e = cc
closed-some (x ∷ xs) h e = let nonempty : x ∷ closed xs ≡ [] = rw h at e in cc

ends_step : (x : ℕ) (xs : List ℕ) (v w : Bool) → is_newline x ≡ v → has_newline xs ≡ w
    → EndsInNewline (closed xs) → EndsInNewline (closed (x ∷ xs))
ends_step x xs true w here later (inl e) =
    let newline : x ≡ 10 = eqb-true x 10 here in
    inr ([], rw here (cc))
ends_step x xs true w here later (inr (front, e)) = inr (x ∷ front, rw here (ap (λ l. x ∷ l) e))
ends_step x xs false true here later (inl e) = absurd (closed-some xs later e)
ends_step x xs false true here later (inr (front, e)) =
    inr (x ∷ front, rw (here, later) (ap (λ l. x ∷ l) e))
ends_step x xs false false here later _ = inl (rw (here, later))

closed-ends : (xs : List ℕ) → EndsInNewline (closed xs)
closed-ends [] = inl refl
closed-ends (x ∷ xs) = ends_step x xs (is_newline x) (has_newline xs) refl refl (closed-ends xs)

pub all_close_lines : AllCloseLines
all_close_lines bytes = record {
  ends = closed-ends bytes;
  parts = closed-parts bytes;
  open_part = unclosed-no_newline bytes;
  front =
      ap (map text_of) (closed_cut bytes)
      ∙ map-append text_of (cut_lines (closed bytes)) (only (unclosed bytes))
      ∙ ap (λ l. lines (closed bytes) ++ l) (only-texts (unclosed bytes));
}
