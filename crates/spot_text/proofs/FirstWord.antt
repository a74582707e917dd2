-- The words of a list are its first word and the words after it.
use Rattle.std.proofs.Common.{◌≡◌, ℕ, suc, ◌+◌, ◌<◌, Bool, true, false, not, List, [], ◌∷◌, length, take, drop, refl, sym, ap, ◌∙◌, subst, arith}
use Rattle.std.specs.Prelude.{Option, filter, nat_lt, position, unwrap_or}
use Rattle.std.specs.List.{slice_split, onto_first, position_or_len}
use Rattle.line_text.proofs.CallerLemmas.{place_or_end}
use Rattle.spot_text.specs.Words.{is_gap, words}

-- the pieces that aren't empty
abbrev filled : List (List ℕ) → List (List ℕ)
filled parts = filter (λ piece. nat_lt 0 (length piece)) parts

abbrev pieces : (ℕ → Bool) → List ℕ → List (List ℕ)
pieces p xs = filled (slice_split p xs)

drop_one_more : (n x : ℕ) (xs : List ℕ) → drop (1 + n) (x ∷ xs) ≡ drop n xs
drop_one_more n x xs = let more : 1 + n ≡ suc n = omega arith in rw more refl

take_one_more : (n x : ℕ) (xs : List ℕ) → take (1 + n) (x ∷ xs) ≡ x ∷ take n xs
take_one_more n x xs = let more : 1 + n ≡ suc n = omega arith in rw more refl

-- a front of separators doesn't count
pieces_behind : (p : ℕ → Bool) (xs : List ℕ) → pieces p (drop (position_or_len (λ x. not (p x)) xs) xs) ≡ pieces p xs
pieces_behind p [] = refl
pieces_behind p (x ∷ xs) = at (p x) refl (pieces_behind p xs)
  where
    at : (b : Bool) → p x ≡ b → pieces p (drop (position_or_len (λ y. not (p y)) xs) xs) ≡ pieces p xs
        → pieces p (drop (position_or_len (λ y. not (p y)) (x ∷ xs)) (x ∷ xs)) ≡ pieces p (x ∷ xs)
    at true gap rest =
        let more : position_or_len (λ y. not (p y)) (x ∷ xs) ≡ 1 + position_or_len (λ y. not (p y)) xs = rw gap refl in
        let same : pieces p xs ≡ pieces p (x ∷ xs) = rw gap refl in
        ap (λ n. pieces p (drop n (x ∷ xs))) more ∙ ap (pieces p) (drop_one_more (position_or_len (λ y. not (p y)) xs) x xs)
        ∙ rest ∙ same
    at false other rest =
        let none : position_or_len (λ y. not (p y)) (x ∷ xs) ≡ 0 = rw other refl in
        ap (λ n. pieces p (drop n (x ∷ xs))) none

-- the pieces of a list: what stands before its first separator, and others, which those from there on have too
record Front (p : ℕ → Bool) (xs : List ℕ) : Type 0 where
  parts : List (List ℕ)
  cut : slice_split p xs ≡ take (position_or_len p xs) xs ∷ parts
  others : filled parts ≡ pieces p (drop (position_or_len p xs) xs)

front : (p : ℕ → Bool) (xs : List ℕ) → Front p xs
front p [] = record { parts = []; cut = refl; others = refl }
front p (x ∷ xs) = at (p x) refl (front p xs)
  where
    at : (b : Bool) → p x ≡ b → Front p xs → Front p (x ∷ xs)
    at true gap rest =
        let none : position_or_len p (x ∷ xs) ≡ 0 = rw gap refl in
        let cut : slice_split p (x ∷ xs) ≡ [] ∷ slice_split p xs = rw gap refl in
        let same : pieces p (x ∷ xs) ≡ pieces p xs = rw gap refl in
        record {
          parts = slice_split p xs;
          cut = cut ∙ ap (λ n. take n (x ∷ xs) ∷ slice_split p xs) (sym none);
          others = sym (ap (λ n. pieces p (drop n (x ∷ xs))) none ∙ same);
        }
    at false other rest =
        let n = position_or_len p xs in
        let more : position_or_len p (x ∷ xs) ≡ 1 + n = rw other refl in
        let cut : slice_split p (x ∷ xs) ≡ onto_first x (slice_split p xs) = rw other refl in
        record {
          parts = rest.parts;
          cut =
              cut ∙ ap (onto_first x) rest.cut ∙ ap (λ word. word ∷ rest.parts) (sym (take_one_more n x xs))
              ∙ ap (λ k. take k (x ∷ xs) ∷ rest.parts) (sym more);
          others =
              rest.others ∙ ap (pieces p) (sym (drop_one_more n x xs))
              ∙ ap (λ k. pieces p (drop k (x ∷ xs))) (sym more);
        }

first_piece : (p : ℕ → Bool) (xs word : List ℕ) → word ≡ take (position_or_len p xs) xs → 0 < length word →
    pieces p xs ≡ word ∷ pieces p (drop (position_or_len p xs) xs)
first_piece p xs word is some =
    let r = front p xs in
    let yes : nat_lt 0 (length word) ≡ true = grind arith in
    let kept : filled (word ∷ r.parts) ≡ word ∷ filled r.parts = rw yes refl in
    ap filled (r.cut ∙ ap (λ w. w ∷ r.parts) (sym is)) ∙ kept ∙ ap (λ ws. word ∷ ws) r.others

-- where nothing stands before the first separator after the front of separators, nothing stands there
abbrev OnlyNothing : (ℕ → Bool) → List ℕ → Type 0
OnlyNothing p rest = length (take (position_or_len p rest) rest) ≡ 0 → rest ≡ []

nothing_left : (p : ℕ → Bool) (xs : List ℕ) → OnlyNothing p (drop (position_or_len (λ x. not (p x)) xs) xs)
nothing_left p [] = λ none. refl
nothing_left p (x ∷ xs) = at (p x) refl (nothing_left p xs)
  where
    at : (b : Bool) → p x ≡ b → OnlyNothing p (drop (position_or_len (λ y. not (p y)) xs) xs)
        → OnlyNothing p (drop (position_or_len (λ y. not (p y)) (x ∷ xs)) (x ∷ xs))
    at true gap rest =
        let n = position_or_len (λ y. not (p y)) xs in
        let more : position_or_len (λ y. not (p y)) (x ∷ xs) ≡ 1 + n = rw gap refl in
        subst (OnlyNothing p) (sym (ap (λ k. drop k (x ∷ xs)) more ∙ drop_one_more n x xs)) rest
    at false other rest =
        let none : position_or_len (λ y. not (p y)) (x ∷ xs) ≡ 0 = rw other refl in
        let n = position_or_len p xs in
        let more : position_or_len p (x ∷ xs) ≡ 1 + n = rw other refl in
        let long : length (take (position_or_len p (x ∷ xs)) (x ∷ xs)) ≡ suc (length (take n xs)) =
        ap (λ k. length (take k (x ∷ xs))) more ∙ ap length (take_one_more n x xs) in
        subst (OnlyNothing p) (sym (ap (λ k. drop k (x ∷ xs)) none)) (λ empty. absurd (omega (arith, long, empty)))

-- how one step takes the first word off a line: the places where it begins and ends
pub record FirstWord (line from word rest : List ℕ) (first end : Option ℕ) : Type 0 where
  pub found : first ≡ position (λ b. not (is_gap b)) line
  pub begins : from ≡ drop (unwrap_or first (length line)) line
  pub ended : end ≡ position is_gap from
  pub taken : word ≡ take (unwrap_or end (length from)) from
  pub left : rest ≡ drop (unwrap_or end (length from)) from

-- the same with std's word for a place or the end
begin_at : (line from word rest : List ℕ) (first end : Option ℕ) → FirstWord line from word rest first end →
    from ≡ drop (position_or_len (λ b. not (is_gap b)) line) line
begin_at line from word rest first end h =
    h.begins ∙ ap (λ o. drop (unwrap_or o (length line)) line) h.found
    ∙ ap (λ n. drop n line) (place_or_end (λ b. not (is_gap b)) line)

end_at : (line from word rest : List ℕ) (first end : Option ℕ) → FirstWord line from word rest first end →
    unwrap_or end (length from) ≡ position_or_len is_gap from
end_at line from word rest first end h =
    ap (λ o. unwrap_or o (length from)) h.ended ∙ place_or_end is_gap from

pub words_first : (line from word rest : List ℕ) (first end : Option ℕ) →
    FirstWord line from word rest first end → 0 < length word → words line ≡ word ∷ words rest
unfolding words
words_first line from word rest first end h some =
    let n = end_at line from word rest first end h in
    let is : word ≡ take (position_or_len is_gap from) from = h.taken ∙ ap (λ k. take k from) n in
    let behind : rest ≡ drop (position_or_len is_gap from) from = h.left ∙ ap (λ k. drop k from) n in
    sym (pieces_behind is_gap line) ∙ ap (pieces is_gap) (sym (begin_at line from word rest first end h))
    ∙ first_piece is_gap from word is some ∙ ap (λ r. word ∷ pieces is_gap r) (sym behind)

pub words_none : (line from word rest : List ℕ) (first end : Option ℕ) →
    FirstWord line from word rest first end → length word ≡ 0 → (words line ≡ []) × (words rest ≡ [])
unfolding words
words_none line from word rest first end h none =
    let n = end_at line from word rest first end h in
    let b = begin_at line from word rest first end h in
    let is : word ≡ take (position_or_len is_gap from) from = h.taken ∙ ap (λ k. take k from) n in
    let behind : rest ≡ drop (position_or_len is_gap from) from = h.left ∙ ap (λ k. drop k from) n in
    let only : OnlyNothing is_gap from = subst (OnlyNothing is_gap) (sym b) (nothing_left is_gap line) in
    let empty : from ≡ [] = only (sym (ap length is) ∙ none) in
    let rest_empty : rest ≡ [] = behind ∙ ap (λ f. drop (position_or_len is_gap f) f) empty in
    (sym (pieces_behind is_gap line) ∙ ap (pieces is_gap) (sym b ∙ empty), ap (pieces is_gap) rest_empty)
