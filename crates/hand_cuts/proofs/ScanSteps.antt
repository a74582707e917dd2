-- What is true of a scan stays true as it passes a line, opens a hand, goes on or finishes.
use Rattle.std.proofs.Common.{◌≡◌, ℕ, ◌+◌, ◌-◌, ◌<◌, ◌≤◌, Bool, true, false, cond, List, [], ◌∷◌, ◌++◌, length, drop, inl, Option, Some, None, nat_lt, refl, sym, ap, subst, ◌∙◌, arith, length-append}
use Rattle.std.specs.Prelude.{slice_range, IfNone, IfSome, is_some}
use Rattle.std.proofs.lemmas.Bool.{ltb-true}
use Rattle.history_text.specs.Headers.{is_header}
use Rattle.line_text.specs.Lines.{lines, text_of, front_line, has_newline}
use Rattle.line_text.specs.Laws.{EndsInNewline}
use Rattle.hand_cuts.specs.Units.{up_to_header}
use Rattle.hand_cuts.specs.Scans.{EndsLine, LineAt, IsScan, IsHead, HeadIs, Finds, SearchesAll, passed, begun, gone_on, finished, number_at_end, number_bound}
use Rattle.hand_cuts.specs.declared.scan.Head.{Head}
use Rattle.hand_cuts.specs.declared.scan.Scan.{Scan}
use Rattle.hand_cuts.proofs.LineParts.{front-slice, lines-split, ends-append, no_slice, slice-join, slice-all}
use Rattle.hand_cuts.proofs.HandLists.{passed-more}

-- a line more after a part
record Grows (bytes : List ℕ) (at looked next : ℕ) (text : List ℕ) : Type 0 where
  pub whole : EndsInNewline (slice_range bytes at next)
  pub lines_are : lines (slice_range bytes at next) ≡ lines (slice_range bytes at looked) ++ text ∷ []

grows : (bytes : List ℕ) (at looked next : ℕ) (text : List ℕ) → at ≤ looked → EndsInNewline (slice_range bytes at looked) → LineAt bytes looked next text → Grows bytes at looked next text
grows bytes at looked next text onward whole line =
    let join : slice_range bytes at next ≡ slice_range bytes at looked ++ slice_range bytes looked next = slice-join bytes at looked next onward (let s = line.some in omega arith) in
    record {
      whole = rw join (ends-append (slice_range bytes at looked) (slice_range bytes looked next) whole line.ends);
      lines_are = ap lines join ∙ lines-split (slice_range bytes at looked) (slice_range bytes looked next) whole ∙ ap (λ ls. lines (slice_range bytes at looked) ++ ls) line.one;
    }

pub nothing_searched : (bytes : List ℕ) (at : ℕ) → has_newline (slice_range bytes at at) ≡ false
nothing_searched bytes at = ap has_newline (no_slice bytes at)

other_head : (bytes : List ℕ) (at line looked next : ℕ) (text : List ℕ) (head : Option Head) → at ≤ looked → EndsInNewline (slice_range bytes at looked) → LineAt bytes looked next text
    → is_header text ≡ false → HeadIs bytes at line looked head → HeadIs bytes at line next head
other_head bytes at line looked next text None onward whole l other h =
    let g = grows bytes at looked next text onward whole l in
    rw (g.lines_are) (passed-more (lines (slice_range bytes at looked)) text h other)
other_head bytes at line looked next text (Some head) onward whole l other h =
    let g = grows bytes head.at looked next text (let b = h.before in omega arith) h.whole l in
    record {
      after = h.after;
      before = (let b = h.before in let s = l.some in omega arith);
      front = h.front;
      passed = h.passed;
      number = h.number;
      whole = g.whole;
      text = h.text;
      later = h.later ++ text ∷ [];
      texts = g.lines_are ∙ ap (λ ls. ls ++ text ∷ []) h.texts;
      header = h.header;
      one = passed-more h.later text h.one other;
    }

-- a line that is no header line is passed
pub pass_other : (bytes : List ℕ) (s : Scan) (next : ℕ) (text : List ℕ) → IsScan bytes s → LineAt bytes s.looked next text → is_header text ≡ false → IsScan bytes (passed next s)
pass_other bytes s next text scan l other =
    let g = grows bytes s.at s.looked next text scan.onward scan.whole l in
    let size : length (lines (slice_range bytes s.at next)) ≡ length (lines (slice_range bytes s.at s.looked)) + 1 = ap length g.lines_are ∙ length-append (lines (slice_range bytes s.at s.looked)) (text ∷ []) in
    record {
      onward = (let o = scan.onward in let m = l.some in omega arith);
      ahead = omega arith;
      within = l.within;
      searched = nothing_searched bytes next;
      whole = g.whole;
      counted = (let n = scan.counted in omega arith);
      head = other_head bytes s.at s.line s.looked next text s.head scan.onward scan.whole l other scan.head;
    }

-- the first header line
pub pass_first : (bytes : List ℕ) (s : Scan) (next : ℕ) (text : List ℕ) → IsScan bytes s → LineAt bytes s.looked next text → is_header text ≡ true → s.head ≡ None
    → IsScan bytes (record (passed next s) { head = Some (record { at = s.looked; line = s.number }) })
pass_first bytes s next text scan l header none =
    let g = grows bytes s.at s.looked next text scan.onward scan.whole l in
    let size : length (lines (slice_range bytes s.at next)) ≡ length (lines (slice_range bytes s.at s.looked)) + 1 = ap length g.lines_are ∙ length-append (lines (slice_range bytes s.at s.looked)) (text ∷ []) in
    let passed : up_to_header (lines (slice_range bytes s.at s.looked)) ≡ lines (slice_range bytes s.at s.looked) = subst (λ (h : Option Head). HeadIs bytes s.at s.line s.looked h) none scan.head in
    record {
      onward = (let o = scan.onward in let m = l.some in omega arith);
      ahead = omega arith;
      within = l.within;
      searched = nothing_searched bytes next;
      whole = g.whole;
      counted = (let n = scan.counted in omega arith);
      head = record {
        after = scan.onward;
        before = l.some;
        front = scan.whole;
        passed = passed;
        number = scan.counted;
        whole = l.ends;
        text = text;
        later = [];
        texts = l.one;
        header = header;
        one = refl;
      };
    }

-- a later header line: the scan goes on from it
pub pass_later : (bytes : List ℕ) (s : Scan) (next : ℕ) (text : List ℕ) → IsScan bytes s → LineAt bytes s.looked next text → is_header text ≡ true
    → IsScan bytes (record { at = s.looked; line = s.number; looked = next; number = s.number + 1; searched = next; head = Some (record { at = s.looked; line = s.number }) })
pass_later bytes s next text scan l header =
    let none = no_slice bytes s.looked in
    let here : lines (slice_range bytes s.looked s.looked) ≡ [] = ap lines none in
    record {
      onward = (let m = l.some in omega arith);
      ahead = omega arith;
      within = l.within;
      searched = nothing_searched bytes next;
      whole = l.ends;
      counted = (let n = ap length l.one in omega arith);
      head = record {
        after = omega arith;
        before = l.some;
        front = inl none;
        passed = rw here refl;
        number = (let n = ap length here in omega arith);
        whole = l.ends;
        text = text;
        later = [];
        texts = l.one;
        header = header;
        one = refl;
      };
    }

pub none_left : (bytes : List ℕ) (s : Scan) → IsScan bytes s → s.searched ≡ length bytes → has_newline (drop s.looked bytes) ≡ false
none_left bytes s scan all = ap has_newline (sym (slice-all bytes s.looked) ∙ ap (slice_range bytes s.looked) (sym all)) ∙ scan.searched

pub empty_slice : (bytes : List ℕ) (at : ℕ) → lines (slice_range bytes at at) ≡ []
empty_slice bytes at = ap lines (no_slice bytes at)

pub nothing_passed : (bytes : List ℕ) (at line : ℕ) → HeadIs bytes at line at None
nothing_passed bytes at line = let none = empty_slice bytes at in rw none refl

-- the scan goes on from where it looked
pub scan_goes_on : (bytes : List ℕ) (s : Scan) → IsScan bytes s → IsScan bytes (gone_on s)
scan_goes_on bytes s scan = record {
  onward = omega arith;
  ahead = scan.ahead;
  within = scan.within;
  searched = scan.searched;
  whole = inl (no_slice bytes s.looked);
  counted = (let n = ap length (empty_slice bytes s.looked) in omega arith);
  head = nothing_passed bytes s.looked s.number;
}

-- what the code reads of a line
pub read_text : (bytes told : List ℕ) (looked next : ℕ) (b : Bool) → EndsLine bytes looked (Some next) → told ≡ text_of (slice_range bytes looked (next - 1)) → b ≡ is_header told → is_header (text_of (front_line (drop looked bytes))) ≡ b
read_text bytes told looked next b e t h =
    sym (h ∙ ap is_header t ∙ ap (λ l. is_header (text_of l)) (front-slice bytes looked next e))

pub read_last : (bytes told : List ℕ) (looked : ℕ) (b : Bool) → told ≡ text_of (slice_range bytes looked (length bytes)) → b ≡ is_header told → is_header (text_of (drop looked bytes)) ≡ b
read_last bytes told looked b t h = sym (h ∙ ap is_header t ∙ ap (λ l. is_header (text_of l)) (slice-all bytes looked))

pub head_of : (bytes : List ℕ) (at line looked : ℕ) (head : Option Head) (h : Head) → head ≡ Some h → HeadIs bytes at line looked head → IsHead bytes at line looked h
head_of bytes at line looked head h e i = subst (λ (x : Option Head). HeadIs bytes at line looked x) e i

-- the first header line is found
pub open_head : (bytes : List ℕ) (old new : Scan) (head : Head) → Finds bytes old new head → old.head ≡ None → IsScan bytes (record new { head = Some head })
open_head bytes old new head f none = rw (f.after, f.here) (pass_first bytes f.between f.next f.text f.scan f.found f.header (f.same ∙ none))

-- a later header line is found
pub begin_head : (bytes : List ℕ) (old new : Scan) (head : Head) → Finds bytes old new head → IsScan bytes (begun head new)
begin_head bytes old new head f = rw (f.after, f.here) (pass_later bytes f.between f.next f.text f.scan f.found f.header)

-- no number of a line to come is above the bound, and no step raises it
pub fewer_passed : (bytes : List ℕ) (s : Scan) (next : ℕ) (text : List ℕ) → LineAt bytes s.looked next text → number_bound bytes (passed next s) ≤ number_bound bytes s
fewer_passed bytes s next text l = let a = l.some in let b = l.within in omega arith

-- a head that is looked for where there is none
pub no_head : (head : Option Head) → false ≡ is_some head → head ≡ None
no_head None e = refl
no_head (Some h) e = cc

pub head_found : (bytes : List ℕ) (old new : Scan) (result : Option Head) → old.head ≡ None → IfNone result (SearchesAll bytes old new) → IfSome result (λ head. Finds bytes old new head) → IsScan bytes (record new { head = result })
head_found bytes old new None none all some =
    let s = all.scan in
    record {
      onward = s.onward;
      ahead = s.ahead;
      within = s.within;
      searched = s.searched;
      whole = s.whole;
      counted = s.counted;
      head = subst (λ (h : Option Head). HeadIs bytes new.at new.line new.looked h) (all.head ∙ none) s.head;
    }
head_found bytes old new (Some head) none all some = open_head bytes old new head some none
