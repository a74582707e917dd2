-- A word, cut at its first comma.
use Rattle.std.proofs.Common.{◌≡◌, ℕ, ◌+◌, ◌≤◌, Bool, true, false, cond, List, [], ◌∷◌, length, take, drop, refl, sym, ap, ◌∙◌, Some, None, arith, nat_lt}
use Rattle.std.proofs.lemmas.Bool.Decides.{nat_tests}
use Rattle.std.proofs.lemmas.Bool.{ltb-true}
use Rattle.std.specs.Prelude.{position}
use Rattle.std.specs.List.{onto_first, position_or_len}
use Rattle.std.proofs.lemmas.List.{drop-drop}
use Rattle.std.proofs.lemmas.List.Splits.{slice_split_first, slice_split-cons_no}
use Rattle.range_lines.specs.Texts.{is_comma, texts_of}

one_text : (xs : List ℕ) → length xs ≤ position_or_len is_comma xs → texts_of xs ≡ xs ∷ []
one_text [] h = refl
one_text (x ∷ xs) h = at (is_comma x) (one_text xs) refl
  where
    at : (b : Bool) → (length xs ≤ position_or_len is_comma xs → texts_of xs ≡ xs ∷ []) → is_comma x ≡ b → texts_of (x ∷ xs) ≡ (x ∷ xs) ∷ []
    at true rest e =
        let none : position_or_len is_comma (x ∷ xs) ≡ 0 = rw e refl in
        absurd (omega (arith, none, h))
    at false rest e =
        let more : position_or_len is_comma (x ∷ xs) ≡ 1 + position_or_len is_comma xs = rw e refl in
        slice_split-cons_no is_comma x xs e ∙ ap (onto_first x) (rest (omega (arith, more, h)))

-- where there is no comma, the word is one text
pub cut_none : (xs : List ℕ) → position is_comma xs ≡ None → texts_of xs ≡ xs ∷ []
cut_none xs h = at (nat_lt (position_or_len is_comma xs) (length xs)) refl h
  where
    at : (b : Bool) → nat_lt (position_or_len is_comma xs) (length xs) ≡ b → cond b (Some (position_or_len is_comma xs)) None ≡ None → texts_of xs ≡ xs ∷ []
    at true e f = absurd (cc f)
    at false e f = let few : length xs ≤ position_or_len is_comma xs = grind (arith, nat_tests) in one_text xs few

-- and else the first text ends at the first comma
pub cut_some : (xs : List ℕ) (n : ℕ) → position is_comma xs ≡ Some n → texts_of xs ≡ take n xs ∷ texts_of (drop 1 (drop n xs))
cut_some xs n h = at (nat_lt (position_or_len is_comma xs) (length xs)) refl h
  where
    at : (b : Bool) → nat_lt (position_or_len is_comma xs) (length xs) ≡ b → cond b (Some (position_or_len is_comma xs)) None ≡ Some n → texts_of xs ≡ take n xs ∷ texts_of (drop 1 (drop n xs))
    at true e f =
        let is : position_or_len is_comma xs ≡ n = cc f in
        slice_split_first is_comma xs 0 (ltb-true _ _ e)
        ∙ ap (λ k. take k xs ∷ texts_of (drop (k + 1) xs)) is
        ∙ ap (λ l. take n xs ∷ texts_of l) (sym (drop-drop 1 n xs))
    at false e f = absurd (cc f)
