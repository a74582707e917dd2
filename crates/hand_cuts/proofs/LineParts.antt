-- The lines of some bytes are those of their parts, where a newline ends the first; and where the next newline is found.
use Rattle.std.proofs.Common.{◌≡◌, ℕ, zero, suc, ◌+◌, ◌-◌, ◌<◌, ◌≤◌, ◌||◌, Bool, true, false, cond, List, [], ◌∷◌, ◌++◌, length, take, drop, map, inl, inr, Option, Some, None, refl, sym, ap, subst, ◌∙◌, arith, append_assoc, append-nil, length-append, length-drop}
use mathlib.Core.Bool.{true≢false}
use Rattle.std.specs.Prelude.{slice_range, slice_index}
use Rattle.std.proofs.lemmas.Bool.{eqb-true}
use Rattle.std.proofs.lemmas.List.{map-append, drop-drop, take_all}
use Rattle.std.proofs.lemmas.List.Folds.{drop_split, list_any-append}
use Rattle.std.proofs.Math.Seq.{take-add, take-append-add}
use Rattle.memchr.specs.Find.{IsFirstByte, is_byte}
use Rattle.line_text.specs.Lines.{lines, closed, cut_lines, put_in_first, text_of, front_line, behind_line, has_newline, is_newline}
use Rattle.line_text.specs.Laws.{EndsInNewline}
use Rattle.line_text.proofs.CallerLemmas.{cut_lines-front, lines-front, front_line-take, front_line-found}
use Rattle.hand_cuts.specs.Units.{lines_in}
use Rattle.hand_cuts.specs.Scans.{EndsLine, LineAt}

or-true : (b : Bool) → (b || true) ≡ true
or-true true = refl
or-true false = refl

-- a byte before some lines, if there is one, belongs to the first
put_in_first-append : (x : ℕ) (xs ys : List (List ℕ)) → 0 < length xs → put_in_first x (xs ++ ys) ≡ put_in_first x xs ++ ys
put_in_first-append x [] ys some = absurd (omega arith)
put_in_first-append x (line ∷ xs) ys some = refl

some_line : (xs : List ℕ) → 0 < length (cut_lines (xs ++ 10 ∷ []))
some_line [] = omega arith
some_line (x ∷ xs) = omega (arith, ap length (cut_lines-front x (xs ++ 10 ∷ [])))

newline_step : (x : ℕ) (xs ys : List ℕ) (v : Bool) → cut_lines (xs ++ 10 ∷ ys) ≡ cut_lines (xs ++ 10 ∷ []) ++ cut_lines ys
    → cond v ([] ∷ cut_lines (xs ++ 10 ∷ ys)) (put_in_first x (cut_lines (xs ++ 10 ∷ ys)))
    ≡ cond v ([] ∷ cut_lines (xs ++ 10 ∷ [])) (put_in_first x (cut_lines (xs ++ 10 ∷ []))) ++ cut_lines ys
newline_step x xs ys true later = ap (λ ls. [] ∷ ls) later
newline_step x xs ys false later = ap (put_in_first x) later ∙ put_in_first-append x (cut_lines (xs ++ 10 ∷ [])) (cut_lines ys) (some_line xs)

-- after a newline the lines begin anew
cut_lines-newline : (xs ys : List ℕ) → cut_lines (xs ++ 10 ∷ ys) ≡ cut_lines (xs ++ 10 ∷ []) ++ cut_lines ys
cut_lines-newline [] ys = refl
cut_lines-newline (x ∷ xs) ys = newline_step x xs ys (is_newline x) (cut_lines-newline xs ys)

pub lines-newline : (xs ys : List ℕ) → lines ((xs ++ 10 ∷ []) ++ ys) ≡ lines (xs ++ 10 ∷ []) ++ lines ys
lines-newline xs ys = ap lines (append_assoc xs (10 ∷ []) ys) ∙ ap (map text_of) (cut_lines-newline xs ys)
    ∙ map-append text_of (cut_lines (xs ++ 10 ∷ [])) (cut_lines ys)

pub lines-split : (part ys : List ℕ) → EndsInNewline part → lines (part ++ ys) ≡ lines part ++ lines ys
lines-split part ys (inl none) = ap (λ p. lines (p ++ ys)) none ∙ ap (λ p. lines p ++ lines ys) (sym none)
lines-split part ys (inr some) = ap (λ p. lines (p ++ ys)) some.1 ∙ lines-newline some.0 ys ∙ ap (λ p. lines p ++ lines ys) (sym some.1)

-- what a newline closes stays closed
pub closed-newline : (xs ys : List ℕ) → closed ((xs ++ 10 ∷ []) ++ ys) ≡ (xs ++ 10 ∷ []) ++ closed ys
closed-newline [] ys = refl
closed-newline (x ∷ xs) ys =
    let some : has_newline ((xs ++ 10 ∷ []) ++ ys) ≡ true =
    ap has_newline (append_assoc xs (10 ∷ []) ys) ∙ list_any-append is_newline xs (10 ∷ ys) ∙ or-true (has_newline xs) in
    rw (some, or-true (is_newline x)) (ap (λ r. x ∷ r) (closed-newline xs ys))

pub closed-split : (part ys : List ℕ) → EndsInNewline part → closed (part ++ ys) ≡ part ++ closed ys
closed-split part ys (inl none) = ap (λ p. closed (p ++ ys)) none ∙ ap (λ p. p ++ closed ys) (sym none)
closed-split part ys (inr some) = ap (λ p. closed (p ++ ys)) some.1 ∙ closed-newline some.0 ys ∙ ap (λ p. p ++ closed ys) (sym some.1)

-- the lines of a part that a newline ends come first
pub lines_in-split : (whole : Bool) (part ys : List ℕ) → EndsInNewline part → lines_in whole (part ++ ys) ≡ lines part ++ lines_in whole ys
lines_in-split true part ys ends = lines-split part ys ends
lines_in-split false part ys ends = ap lines (closed-split part ys ends) ∙ lines-split part (closed ys) ends

pub ends-append : (a b : List ℕ) → EndsInNewline a → EndsInNewline b → EndsInNewline (a ++ b)
ends-append a b ends (inl none) = rw none (rw append-nil ends)
ends-append a b ends (inr some) = inr (a ++ some.0, ap (λ x. a ++ x) some.1 ∙ sym (append_assoc a some.0 (10 ∷ [])))

-- the first newline, where it is the first byte or there is none
pub newline_first : (bytes rest : List ℕ) (byte : ℕ) → bytes ≡ byte ∷ rest → byte ≡ 10 → IsFirstByte (is_byte 10) bytes (Some 0)
newline_first bytes rest byte whole newline =
    rw (whole, newline) (record { low = omega arith; high = omega arith; before = λ k low high at. omega (arith, high) }, refl)

pub no_newline : (bytes : List ℕ) → length bytes ≡ 0 → IsFirstByte (is_byte 10) bytes None
no_newline bytes none = λ k low high at. omega (arith, none, high)

-- slices
pub no_slice : (bytes : List ℕ) (at : ℕ) → slice_range bytes at at ≡ []
no_slice bytes at = ap (λ n. take n (drop at bytes)) (let e : at - at ≡ 0 = omega arith in e)

pub slice-join : (bytes : List ℕ) (a b c : ℕ) → a ≤ b → b ≤ c → slice_range bytes a c ≡ slice_range bytes a b ++ slice_range bytes b c
slice-join bytes a b c l m =
    let more : c - a ≡ b - a + (c - b) = omega arith in
    let behind : drop (b - a) (drop a bytes) ≡ drop b bytes = drop-drop (b - a) a bytes ∙ ap (λ k. drop k bytes) (let e : a + (b - a) ≡ b = omega arith in e) in
    ap (λ k. take k (drop a bytes)) more ∙ take-add (b - a) (c - b) (drop a bytes) ∙ ap (λ xs. slice_range bytes a b ++ take (c - b) xs) behind

pub slice-rest : (bytes : List ℕ) (a b : ℕ) → a ≤ b → drop a bytes ≡ slice_range bytes a b ++ drop b bytes
slice-rest bytes a b l = drop_split bytes a b l

pub slice-all : (bytes : List ℕ) (a : ℕ) → slice_range bytes a (length bytes) ≡ drop a bytes
slice-all bytes a = take_all (length bytes - a) (drop a bytes) (omega (arith, length-drop a bytes))

-- a part without a newline
either_false : (a b : Bool) → (a || b) ≡ false → (a ≡ false) × (b ≡ false)
either_false true b e = absurd (true≢false e)
either_false false b e = (refl, e)

pub front_line-behind : (a b : List ℕ) → has_newline a ≡ false → front_line (a ++ b) ≡ a ++ front_line b
front_line-behind [] b none = refl
front_line-behind (x ∷ xs) b none =
    let parts = either_false (is_newline x) (has_newline xs) none in
    ap (λ v. cond v [] (x ∷ front_line (xs ++ b))) parts.0 ∙ ap (λ r. x ∷ r) (front_line-behind xs b parts.1)

pub has_newline-behind : (a b : List ℕ) → has_newline a ≡ false → has_newline (a ++ b) ≡ has_newline b
has_newline-behind a b none = list_any-append is_newline a b ∙ ap (λ v. v || has_newline b) none

pub closed-none : (xs : List ℕ) → has_newline xs ≡ false → closed xs ≡ []
closed-none [] none = refl
closed-none (x ∷ xs) none = ap (λ v. cond v (x ∷ closed xs) []) none

pub front_line-open : (xs : List ℕ) → has_newline xs ≡ false → front_line xs ≡ xs
front_line-open [] none = refl
front_line-open (x ∷ xs) none =
    let parts = either_false (is_newline x) (has_newline xs) none in
    ap (λ v. cond v [] (x ∷ front_line xs)) parts.0 ∙ ap (λ r. x ∷ r) (front_line-open xs parts.1)

front_closed_step : (b : ℕ) (rest : List ℕ) (v : Bool) → is_newline b ≡ v → (has_newline rest ≡ true → rest ≡ front_line rest ++ 10 ∷ behind_line rest)
    → (v || has_newline rest) ≡ true → b ∷ rest ≡ cond v [] (b ∷ front_line rest) ++ 10 ∷ cond v rest (behind_line rest)
front_closed_step b rest true e later some = ap (λ x. x ∷ rest) (eqb-true b 10 e)
front_closed_step b rest false e later some = ap (λ r. b ∷ r) (later some)

-- the front line, its newline, and what stands after it
pub front_closed : (xs : List ℕ) → has_newline xs ≡ true → xs ≡ front_line xs ++ 10 ∷ behind_line xs
front_closed [] some = absurd (true≢false (sym some))
front_closed (b ∷ rest) some = front_closed_step b rest (is_newline b) refl (front_closed rest) some

-- a search for a newline
pub found_some : (xs : List ℕ) (k : ℕ) → k < length xs → is_newline (slice_index xs k) ≡ true → has_newline xs ≡ true
found_some [] k h here = absurd (omega arith)
found_some (x ∷ xs) zero h here = ap (λ v. v || has_newline xs) here
found_some (x ∷ xs) (suc k) h here = ap (λ v. is_newline x || v) (found_some xs k (omega arith) here) ∙ or-true (is_newline x)

test_step : (v w : Bool) → (v ≡ true → ⊥) → w ≡ false → (v || w) ≡ false
test_step true w wrong later = absurd (wrong refl)
test_step false w wrong later = later

pub found_none : (xs : List ℕ) → ((j : ℕ) → j < length xs → is_newline (slice_index xs j) ≡ true → ⊥) → has_newline xs ≡ false
found_none [] none = refl
found_none (x ∷ xs) none = test_step (is_newline x) (has_newline xs) (none 0 (omega arith)) (found_none xs (λ j l. none (suc j) (omega arith)))

-- a search after bytes without a newline
pub ends_some : (bytes : List ℕ) (looked searched k : ℕ) → looked ≤ searched → searched ≤ length bytes → has_newline (slice_range bytes looked searched) ≡ false
    → IsFirstByte (is_byte 10) (drop searched bytes) (Some k) → EndsLine bytes looked (Some (searched + k + 1))
ends_some bytes looked searched k onward within none found =
    let before = slice_range bytes looked searched in
    let behind = drop searched bytes in
    let cut : drop looked bytes ≡ before ++ behind = slice-rest bytes looked searched onward in
    let some : has_newline behind ≡ true = found_some behind k found.0.high found.1 in
    let size : k ≡ length (front_line behind) = front_line-found behind (Some k) found in
    let front : front_line (drop looked bytes) ≡ before ++ front_line behind = ap front_line cut ∙ front_line-behind before behind none in
    let total : length (drop looked bytes) ≡ length before + length behind = ap length cut ∙ length-append before behind in
    let widths : length (front_line (drop looked bytes)) ≡ length before + length (front_line behind) = ap length front ∙ length-append before (front_line behind) in
    let a = length-drop looked bytes in
    let b = length-drop searched bytes in
    let high = found.0.high in
    (ap has_newline cut ∙ has_newline-behind before behind none ∙ some, (omega arith), (omega arith))

pub ends_none : (bytes : List ℕ) (looked searched : ℕ) → looked ≤ searched → has_newline (slice_range bytes looked searched) ≡ false
    → IsFirstByte (is_byte 10) (drop searched bytes) None → EndsLine bytes looked None
ends_none bytes looked searched onward none found =
    let before = slice_range bytes looked searched in
    let behind = drop searched bytes in
    ap has_newline (slice-rest bytes looked searched onward) ∙ has_newline-behind before behind none ∙ found_none behind (λ j l. found j (omega arith) l)

-- the search is over the bytes from a place on
pub search_from : (bytes : List ℕ) (searched : ℕ) (found : Option ℕ) → IsFirstByte (is_byte 10) (take (length bytes - searched) (drop searched bytes)) found
    → IsFirstByte (is_byte 10) (drop searched bytes) found
search_from bytes searched found h =
    let all : take (length bytes - searched) (drop searched bytes) ≡ drop searched bytes = take_all (length bytes - searched) (drop searched bytes) (omega (arith, length-drop searched bytes)) in
    subst (λ (xs : List ℕ). IsFirstByte (is_byte 10) xs found) all h

pub behind_none : (xs : List ℕ) → has_newline xs ≡ false → behind_line xs ≡ []
behind_none [] none = refl
behind_none (x ∷ xs) none =
    let parts = either_false (is_newline x) (has_newline xs) none in
    ap (λ v. cond v xs (behind_line xs)) parts.0 ∙ behind_none xs parts.1

line_closed_step : (xs : List ℕ) (x : ℕ) (v : Bool) → is_newline x ≡ v → lines (front_line xs ++ 10 ∷ []) ≡ text_of (front_line xs) ∷ []
    → cut_lines (front_line xs ++ 10 ∷ []) ≡ front_line xs ∷ [] → cut_lines (cond v [] (x ∷ front_line xs) ++ 10 ∷ []) ≡ cond v [] (x ∷ front_line xs) ∷ []
line_closed_step xs x true e one cut = refl
line_closed_step xs x false e one cut =
    ap (λ v. cond v ([] ∷ cut_lines (front_line xs ++ 10 ∷ [])) (put_in_first x (cut_lines (front_line xs ++ 10 ∷ [])))) e ∙ ap (put_in_first x) cut

front_cut : (xs : List ℕ) → cut_lines (front_line xs ++ 10 ∷ []) ≡ front_line xs ∷ []
front_cut [] = refl
front_cut (x ∷ xs) = line_closed_step xs x (is_newline x) refl (ap (map text_of) (front_cut xs)) (front_cut xs)

pub line_at : (bytes : List ℕ) (looked next : ℕ) → EndsLine bytes looked (Some next) → LineAt bytes looked next (text_of (front_line (drop looked bytes)))
line_at bytes looked next e =
    let xs = drop looked bytes in
    let width : next - looked ≡ length (front_line xs) + 1 = (let f = e.1 in omega arith) in
    let slice : slice_range bytes looked next ≡ front_line xs ++ 10 ∷ [] =
    ap (λ n. take n xs) width ∙ ap (take (length (front_line xs) + 1)) (front_closed xs e.0) ∙ take-append-add (front_line xs) (10 ∷ behind_line xs) 1 in
    record {
      some = (let f = e.1 in omega arith);
      within = e.2;
      ends = inr (front_line xs, slice);
      one = ap lines slice ∙ ap (map text_of) (front_cut xs);
    }

-- the line up to its newline
pub front-slice : (bytes : List ℕ) (looked next : ℕ) → EndsLine bytes looked (Some next) → slice_range bytes looked (next - 1) ≡ front_line (drop looked bytes)
front-slice bytes looked next e =
    let xs = drop looked bytes in
    let width : next - 1 - looked ≡ length (front_line xs) = (let f = e.1 in omega arith) in
    ap (λ n. take n xs) width ∙ front_line-take xs

-- the last line, which has no newline
pub lines-open : (xs : List ℕ) → has_newline xs ≡ false → 0 < length xs → lines xs ≡ text_of xs ∷ []
lines-open xs none some = lines-front xs some ∙ ap (λ f. text_of f ∷ lines (behind_line xs)) (front_line-open xs none) ∙ ap (λ r. text_of xs ∷ lines r) (behind_none xs none)

-- the front line alone, with its newline
pub front_text : (xs : List ℕ) → lines (front_line xs ++ 10 ∷ []) ≡ text_of (front_line xs) ∷ []
front_text xs = ap (map text_of) (front_cut xs)
