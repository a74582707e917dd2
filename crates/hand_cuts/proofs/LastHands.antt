-- Hands that the end of the bytes closes.
use Rattle.std.proofs.Common.{◌≡◌, ℕ, ◌+◌, ◌<◌, ◌≤◌, Bool, true, false, cond, List, [], ◌∷◌, ◌++◌, length, drop, inr, Option, None, nat_lt, refl, sym, ap, subst, ◌∙◌, arith, append-nil, length-append, length-drop}
use mathlib.Core.Bool.{true≢false}
use Rattle.std.specs.Prelude.{slice_range}
use Rattle.std.proofs.lemmas.Bool.{ltb-true, ltb-false}
use Rattle.std.proofs.lemmas.List.{drop_all}
use Rattle.history_text.specs.Headers.{is_header, title}
use Rattle.history_text.specs.Texts.{behind}
use Rattle.line_text.specs.Lines.{lines, text_of, has_newline}
use Rattle.line_text.specs.Laws.{EndsInNewline}
use Rattle.hand_cuts.specs.Units.{UnitLines, units_in, closed_units, lines_in, up_to_header, hands_from}
use Rattle.hand_cuts.specs.Scans.{IsScan, IsHead, HeadIs, HandsOut, finished, number_at_end}
use Rattle.hand_cuts.specs.declared.scan.Head.{Head}
use Rattle.hand_cuts.specs.declared.scan.Scan.{Scan}
use Rattle.hand_cuts.specs.declared.units.CutKind.TheVariants.{Hands}
use Rattle.hand_cuts.proofs.LineParts.{lines-split, slice-rest, slice-all, lines-open}
use Rattle.hand_cuts.proofs.HandLists.{hand_with, passed-one, hands-passed, hands-between, hands-begin}
use Rattle.hand_cuts.proofs.HandScans.{Begins, lines_by_head, lines_by_scan, no_hands}

-- the lines after the last newline: one, where there is a byte
pub record LastLine (bytes : List ℕ) (looked : ℕ) (texts : List (List ℕ)) : Type 0 where
  pub lines_are : lines (drop looked bytes) ≡ texts
  pub size : length texts ≡ cond (nat_lt looked (length bytes)) 1 0

last_step : (bytes : List ℕ) (looked : ℕ) (v : Bool) → nat_lt looked (length bytes) ≡ v → has_newline (drop looked bytes) ≡ false → LastLine bytes looked (cond v (text_of (drop looked bytes) ∷ []) [])
last_step bytes looked true e none =
    let less : looked < length bytes = ltb-true looked (length bytes) e in
    record { lines_are = lines-open (drop looked bytes) none (omega (arith, length-drop looked bytes)); size = ap (λ v. cond v 1 0) (sym e) }
last_step bytes looked false e none =
    let more : length bytes ≤ looked = ltb-false looked (length bytes) e in
    record { lines_are = ap lines (drop_all looked bytes more); size = ap (λ v. cond v 1 0) (sym e) }

abbrev pub last_lines : List ℕ → ℕ → List (List ℕ)
last_lines bytes looked = cond (nat_lt looked (length bytes)) (text_of (drop looked bytes) ∷ []) []

pub last_line : (bytes : List ℕ) (looked : ℕ) → has_newline (drop looked bytes) ≡ false → LastLine bytes looked (last_lines bytes looked)
last_line bytes looked none = last_step bytes looked (nat_lt looked (length bytes)) refl none

no_header : is_header (text_of []) ≡ false
unfolding is_header title behind
no_header = refl

some_step : (bytes : List ℕ) (looked : ℕ) (v : Bool) → nat_lt looked (length bytes) ≡ v → is_header (text_of (drop looked bytes)) ≡ true → v ≡ true
some_step bytes looked true e header = refl
some_step bytes looked false e header =
    let none : drop looked bytes ≡ [] = drop_all looked bytes (ltb-false looked (length bytes) e) in
    absurd (true≢false (sym header ∙ ap (λ xs. is_header (text_of xs)) none ∙ no_header))

-- where a header line stands after the last newline, a byte does
pub some_left : (bytes : List ℕ) (looked : ℕ) → is_header (text_of (drop looked bytes)) ≡ true → nat_lt looked (length bytes) ≡ true
some_left bytes looked header = some_step bytes looked (nat_lt looked (length bytes)) refl header

header_alone : (bytes : List ℕ) (looked : ℕ) → has_newline (drop looked bytes) ≡ false → is_header (text_of (drop looked bytes)) ≡ true → lines (drop looked bytes) ≡ text_of (drop looked bytes) ∷ []
header_alone bytes looked none header = (last_line bytes looked none).lines_are ∙ ap (λ v. cond v (text_of (drop looked bytes) ∷ []) []) (some_left bytes looked header)

pub begins_last : (bytes : List ℕ) (looked : ℕ) → has_newline (drop looked bytes) ≡ false → is_header (text_of (drop looked bytes)) ≡ true → Begins true bytes looked (text_of (drop looked bytes))
begins_last bytes looked none header = λ whole more may.
    let e = may refl in
    ([], ap (λ w. lines_in w (drop looked bytes ++ more)) e.0 ∙ ap (λ ys. lines (drop looked bytes ++ ys)) e.1 ∙ ap lines (append-nil (drop looked bytes)) ∙ header_alone bytes looked none header)

other_step : (text : List ℕ) (v : Bool) → is_header text ≡ false → up_to_header (cond v (text ∷ []) []) ≡ cond v (text ∷ []) []
other_step text true other = passed-one text other
other_step text false other = refl

nothing_left : (bytes : List ℕ) (n : ℕ) → hands_from n (lines (drop (length bytes) bytes ++ [])) ≡ []
nothing_left bytes n = ap (λ xs. hands_from n (lines xs)) (append-nil (drop (length bytes) bytes) ∙ drop_all (length bytes) bytes (omega arith))

-- for whole bytes, with nothing after them
whole_alone : (n n' : ℕ) (u : UnitLines) (xs ys : List ℕ) (whole : Bool) (more : List ℕ) → (whole ≡ true) × (more ≡ []) → hands_from n (lines (xs ++ [])) ≡ u ∷ hands_from n' (lines (ys ++ []))
    → closed_units Hands whole (hands_from n (lines_in whole (xs ++ more))) ≡ u ∷ closed_units Hands whole (hands_from n' (lines_in whole (ys ++ more)))
whole_alone n n' u xs ys whole more e h = rw (e.0, e.1) h

line_at_end : (bytes : List ℕ) (s : Scan) (texts : List (List ℕ)) → s.number ≡ s.line + length (lines (slice_range bytes s.at s.looked)) → s.at ≤ s.looked → EndsInNewline (slice_range bytes s.at s.looked)
    → LastLine bytes s.looked texts → number_at_end (length bytes) s ≡ s.line + length (lines (slice_range bytes s.at (length bytes)))
line_at_end bytes s texts counted onward ends last =
    let all : lines (slice_range bytes s.at (length bytes)) ≡ lines (slice_range bytes s.at s.looked) ++ texts =
    ap lines (slice-all bytes s.at ∙ slice-rest bytes s.at s.looked onward) ∙ lines-split (slice_range bytes s.at s.looked) (drop s.looked bytes) ends ∙ ap (λ ls. lines (slice_range bytes s.at s.looked) ++ ls) last.lines_are in
    let size : length (lines (slice_range bytes s.at (length bytes))) ≡ length (lines (slice_range bytes s.at s.looked)) + length texts = ap length all ∙ length-append (lines (slice_range bytes s.at s.looked)) texts in
    let one : length texts ≡ cond (nat_lt s.looked (length bytes)) 1 0 = last.size in
    at_end_step s.number (nat_lt s.looked (length bytes)) (length texts) one ∙ (let e : s.number + length texts ≡ s.line + length (lines (slice_range bytes s.at (length bytes))) = omega arith in e)
  where
    at_end_step : (n : ℕ) (v : Bool) (m : ℕ) → m ≡ cond v 1 0 → cond v (n + 1) n ≡ n + m
    at_end_step n true m e = ap (λ k. n + k) (sym e)
    at_end_step n false m e = let z : n ≡ n + m = omega arith in z

until_end : (bytes : List ℕ) (s : Scan) (h : Head) → s.number ≡ s.line + length (lines (slice_range bytes s.at s.looked)) → s.at ≤ s.looked → EndsInNewline (slice_range bytes s.at s.looked) → IsHead bytes s.at s.line s.looked h
    → LastLine bytes s.looked (last_lines bytes s.looked) → number_at_end (length bytes) s ≡ h.line + length (lines (slice_range bytes h.at (length bytes)))
until_end bytes s h counted onward ends i last =
    let all = line_at_end bytes s (last_lines bytes s.looked) counted onward ends last in
    let total : lines (slice_range bytes s.at (length bytes)) ≡ lines (slice_range bytes s.at h.at) ++ lines (slice_range bytes h.at (length bytes)) =
    ap lines (slice-all bytes s.at ∙ slice-rest bytes s.at h.at i.after) ∙ lines-split (slice_range bytes s.at h.at) (drop h.at bytes) i.front
    ∙ ap (λ xs. lines (slice_range bytes s.at h.at) ++ lines xs) (sym (slice-all bytes h.at)) in
    let size : length (lines (slice_range bytes s.at (length bytes))) ≡ length (lines (slice_range bytes s.at h.at)) + length (lines (slice_range bytes h.at (length bytes))) =
    ap length total ∙ length-append (lines (slice_range bytes s.at h.at)) (lines (slice_range bytes h.at (length bytes))) in
    all ∙ (let n = i.number in let e : s.line + length (lines (slice_range bytes s.at (length bytes))) ≡ h.line + length (lines (slice_range bytes h.at (length bytes))) = omega arith in e)

-- the end closes the hand
pub hands_out_last : (bytes : List ℕ) (s : Scan) (h : Head) → IsScan bytes s → IsHead bytes s.at s.line s.looked h → has_newline (drop s.looked bytes) ≡ false → is_header (text_of (drop s.looked bytes)) ≡ false
    → HandsOut Hands true bytes s (finished (length bytes) s) (record { first = h.at; end = length bytes; first_line = h.line })
unfolding units_in
hands_out_last bytes s h scan i none other =
    let z = last_lines bytes s.looked in
    let last = last_line bytes s.looked none in
    let passed : up_to_header z ≡ z = other_step (text_of (drop s.looked bytes)) (nat_lt s.looked (length bytes)) other in
    let inside : s.looked ≤ length bytes = (let a = scan.ahead in let w = scan.within in omega arith) in
    let u = hand_with h.line (lines (slice_range bytes h.at (length bytes))) in
    let told : lines (slice_range bytes h.at (length bytes)) ≡ (i.text ∷ i.later) ++ z =
    ap lines (slice-all bytes h.at ∙ slice-rest bytes h.at s.looked (let b = i.before in omega arith)) ∙ lines-split (slice_range bytes h.at s.looked) (drop s.looked bytes) i.whole
    ∙ ap (λ ls. ls ++ lines (drop s.looked bytes)) i.texts ∙ ap (λ ls. (i.text ∷ i.later) ++ ls) last.lines_are in
    let rest : lines_in true (drop s.looked bytes ++ []) ≡ z = ap lines (append-nil (drop s.looked bytes)) ∙ last.lines_are in
    let m = h.line + 1 + length i.later in
    let hands : hands_from s.line (lines (drop s.at bytes ++ [])) ≡ u ∷ hands_from (number_at_end (length bytes) s) (lines (drop (length bytes) bytes ++ [])) =
    ap (hands_from s.line) (lines_by_head true bytes [] s.at s.line s.looked h i i)
    ∙ ap (λ ls. hands_from s.line ((lines (slice_range bytes s.at h.at) ++ i.text ∷ i.later) ++ ls)) rest
    ∙ hands-between s.line h.line m (lines (slice_range bytes s.at h.at)) i.text i.later z i.passed i.number i.header i.one refl
    ∙ ap (λ ls. hand_with h.line (i.text ∷ (i.later ++ ls)) ∷ hands_from m z) passed
    ∙ ap (λ ls. hand_with h.line ls ∷ hands_from m z) (sym told)
    ∙ ap (λ hs. u ∷ hs) (no_hands m z passed ∙ sym (nothing_left bytes (number_at_end (length bytes) s))) in
    record {
      behind = i.after;
      some = (let b = i.before in omega arith);
      within = omega arith;
      begins = i.front;
      ends = inr refl;
      at = refl;
      line = line_at_end bytes s z scan.counted scan.onward scan.whole last;
      counted = until_end bytes s h scan.counted scan.onward scan.whole i last;
      stays = λ whole more may. whole_alone s.line (number_at_end (length bytes) s) u (drop s.at bytes) (drop (length bytes) bytes) whole more (may refl) hands;
    }

-- the last line is a hand
pub hands_out_only : (bytes : List ℕ) (s : Scan) → IsScan bytes s → s.head ≡ None → has_newline (drop s.looked bytes) ≡ false → is_header (text_of (drop s.looked bytes)) ≡ true
    → HandsOut Hands true bytes s (finished (length bytes) s) (record { first = s.looked; end = length bytes; first_line = s.number })
unfolding units_in
hands_out_only bytes s scan no_head none header =
    let text = text_of (drop s.looked bytes) in
    let last = last_line bytes s.looked none in
    let alone : lines (drop s.looked bytes) ≡ text ∷ [] = header_alone bytes s.looked none header in
    let passed : up_to_header (lines (slice_range bytes s.at s.looked)) ≡ lines (slice_range bytes s.at s.looked) = subst (λ (h : Option Head). HeadIs bytes s.at s.line s.looked h) no_head scan.head in
    let u = hand_with s.number (lines (slice_range bytes s.looked (length bytes))) in
    let told : lines (slice_range bytes s.looked (length bytes)) ≡ text ∷ [] = ap lines (slice-all bytes s.looked) ∙ alone in
    let hands : hands_from s.line (lines (drop s.at bytes ++ [])) ≡ u ∷ hands_from (number_at_end (length bytes) s) (lines (drop (length bytes) bytes ++ [])) =
    ap (hands_from s.line) (lines_by_scan true bytes [] s.at s.looked scan.onward scan.whole)
    ∙ ap (λ ls. hands_from s.line (lines (slice_range bytes s.at s.looked) ++ ls)) (ap lines (append-nil (drop s.looked bytes)) ∙ alone)
    ∙ hands-passed s.line s.number (lines (slice_range bytes s.at s.looked)) (text ∷ []) passed scan.counted
    ∙ hands-begin s.number text [] header
    ∙ ap (λ ls. hand_with s.number ls ∷ []) (sym told)
    ∙ ap (λ hs. u ∷ hs) (sym (nothing_left bytes (number_at_end (length bytes) s))) in
    record {
      behind = scan.onward;
      some = ltb-true s.looked (length bytes) (some_left bytes s.looked header);
      within = omega arith;
      begins = scan.whole;
      ends = inr refl;
      at = refl;
      line = line_at_end bytes s (last_lines bytes s.looked) scan.counted scan.onward scan.whole last;
      counted = ap (λ v. cond v (s.number + 1) s.number) (some_left bytes s.looked header) ∙ (let n = ap length told in let e : s.number + 1 ≡ s.number + length (lines (slice_range bytes s.looked (length bytes))) = omega arith in e);
      stays = λ whole more may. whole_alone s.line (number_at_end (length bytes) s) u (drop s.at bytes) (drop (length bytes) bytes) whole more (may refl) hands;
    }

-- no hand is left at the end
pub none_whole : (bytes : List ℕ) (s : Scan) → IsScan bytes s → s.head ≡ None → has_newline (drop s.looked bytes) ≡ false → is_header (text_of (drop s.looked bytes)) ≡ false
    → units_in Hands true s.line (drop s.at bytes) ≡ []
unfolding units_in
none_whole bytes s scan no_head none other =
    let z = last_lines bytes s.looked in
    let before = lines (slice_range bytes s.at s.looked) in
    let last = last_line bytes s.looked none in
    let passed : up_to_header z ≡ z = other_step (text_of (drop s.looked bytes)) (nat_lt s.looked (length bytes)) other in
    let first : up_to_header before ≡ before = subst (λ (h : Option Head). HeadIs bytes s.at s.line s.looked h) no_head scan.head in
    let all : lines (drop s.at bytes) ≡ before ++ z = ap lines (slice-rest bytes s.at s.looked scan.onward) ∙ lines-split (slice_range bytes s.at s.looked) (drop s.looked bytes) scan.whole ∙ ap (λ ls. before ++ ls) last.lines_are in
    ap (hands_from s.line) all ∙ hands-passed s.line s.number before z first scan.counted ∙ no_hands s.number z passed
