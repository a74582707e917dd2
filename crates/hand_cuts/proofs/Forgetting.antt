-- What is dropped of the bytes that are held, and that the units stay.
use Rattle.std.proofs.Common.{◌≡◌, ℕ, ◌+◌, ◌-◌, ◌≤◌, Bool, true, false, List, [], ◌∷◌, ◌++◌, length, take, drop, inl, Option, Some, None, refl, sym, ap, ◌∙◌, arith, append_assoc, append-nil, length-append, length-drop}
use Rattle.std.specs.Prelude.{slice_range}
use Rattle.std.proofs.lemmas.List.{drop-drop}
use Rattle.line_text.specs.Lines.{lines, closed, has_newline}
use Rattle.line_text.specs.Laws.{EndsInNewline}
use Rattle.hand_cuts.specs.Units.{units_in, closed_units, lines_in, up_to_header, hands_from}
use Rattle.hand_cuts.specs.CutterState.{CutterState}
use Rattle.hand_cuts.specs.Cutters.{Forgets, dropped_lines}
use Rattle.hand_cuts.specs.Scans.{IsScan, HeadIs, HasHead, number_bound, shifted, shifted_head, start_of, start_of_rest}
use Rattle.hand_cuts.specs.Sound.{view_of, IsSound}
use Rattle.hand_cuts.specs.declared.cutter.Cutter.TheInside.{Inside}
use Rattle.hand_cuts.specs.declared.scan.Head.{Head}
use Rattle.hand_cuts.specs.declared.scan.Scan.{Scan}
use Rattle.hand_cuts.specs.declared.units.CutKind.{CutKind}
use Rattle.hand_cuts.specs.declared.units.CutKind.TheVariants.{Hands, Lines}
use Rattle.hand_cuts.proofs.LineParts.{lines_in-split, no_slice, slice-join, slice-rest}
use Rattle.hand_cuts.proofs.HandLists.{passed-append, stops-at, hands-passed}
use Rattle.hand_cuts.proofs.ScanSteps.{empty_slice, none_left}
use Rattle.hand_cuts.proofs.HandScans.{lines_by_head, lines_by_scan, open_lines}

-- the lines that may be dropped, up to a place
pub record Drops (bytes : List ℕ) (at line from line' : ℕ) : Type 0 where
  pub onward : at ≤ from
  pub whole : EndsInNewline (slice_range bytes at from)
  pub passed : up_to_header (lines (slice_range bytes at from)) ≡ lines (slice_range bytes at from)
  pub number : line' ≡ line + length (lines (slice_range bytes at from))

drops_by_head : (bytes : List ℕ) (s : Scan) (head : Option Head) → s.at ≤ s.looked → EndsInNewline (slice_range bytes s.at s.looked) → s.number ≡ s.line + length (lines (slice_range bytes s.at s.looked))
    → HeadIs bytes s.at s.line s.looked head → Drops bytes s.at s.line (start_of s head).0 (start_of s head).1
drops_by_head bytes s None onward whole counted h = record { onward = onward; whole = whole; passed = h; number = counted }
drops_by_head bytes s (Some head) onward whole counted h = record { onward = h.after; whole = h.front; passed = h.passed; number = h.number }

pub drops : (bytes : List ℕ) (s : Scan) → IsScan bytes s → Drops bytes s.at s.line (start_of_rest s).0 (start_of_rest s).1
drops bytes s scan = drops_by_head bytes s s.head scan.onward scan.whole scan.counted scan.head

-- those that are: all with their newline before the first header line
which_by_head : (bytes : List ℕ) (s : Scan) (head : Option Head) → s.at ≤ s.looked → EndsInNewline (slice_range bytes s.at s.looked) → HeadIs bytes s.at s.line s.looked head
    → (head ≡ None → has_newline (drop s.looked bytes) ≡ false) → lines (slice_range bytes s.at (start_of s head).0) ≡ up_to_header (lines_in false (drop s.at bytes ++ []))
which_by_head bytes s None onward whole h none =
    let l = lines (slice_range bytes s.at s.looked) in
    sym (ap up_to_header (lines_by_scan false bytes [] s.at s.looked onward whole ∙ ap (λ ls. l ++ ls) (open_lines bytes s.looked (none refl)) ∙ append-nil l) ∙ h)
which_by_head bytes s (Some head) onward whole i none =
    let before = lines (slice_range bytes s.at head.at) in
    let later = lines_in false (drop s.looked bytes ++ []) in
    sym (ap up_to_header (lines_by_head false bytes [] s.at s.line s.looked head i i ∙ append_assoc before (i.text ∷ i.later) later)
    ∙ passed-append before (i.text ∷ (i.later ++ later)) i.passed ∙ ap (λ ls. before ++ ls) (stops-at i.text (i.later ++ later) i.header) ∙ append-nil before)

pub which_lines : (bytes : List ℕ) (s : Scan) → IsScan bytes s → (s.head ≡ None → has_newline (drop s.looked bytes) ≡ false)
    → lines (slice_range bytes s.at (start_of_rest s).0) ≡ dropped_lines Hands (drop s.at bytes)
which_lines bytes s scan none =
    which_by_head bytes s s.head scan.onward scan.whole scan.head none ∙ ap (λ xs. up_to_header (lines (closed xs))) (append-nil (drop s.at bytes))

-- the units stay
pub same_hands : (whole : Bool) (bytes more : List ℕ) (at line from line' : ℕ) → Drops bytes at line from line' → units_in Hands whole line (drop at bytes ++ more) ≡ units_in Hands whole line' (drop from bytes ++ more)
unfolding units_in
same_hands whole bytes more at line from line' d =
    let l = lines (slice_range bytes at from) in
    ap (λ ls. closed_units Hands whole (hands_from line ls)) (lines_by_scan whole bytes more at from d.onward d.whole)
    ∙ ap (closed_units Hands whole) (hands-passed line line' l (lines_in whole (drop from bytes ++ more)) d.passed d.number)

-- the places after what is dropped
slice-shift : (bytes : List ℕ) (from a b : ℕ) → from ≤ a → a ≤ b → slice_range (drop from bytes) (a - from) (b - from) ≡ slice_range bytes a b
slice-shift bytes from a b l m =
    let width : b - from - (a - from) ≡ b - a = omega arith in
    let place : from + (a - from) ≡ a = omega arith in
    ap (λ n. take n (drop (a - from) (drop from bytes))) width ∙ ap (take (b - a)) (drop-drop (a - from) from bytes ∙ ap (λ n. drop n bytes) place)

slice-shift_start : (bytes : List ℕ) (from b : ℕ) → from ≤ b → slice_range (drop from bytes) 0 (b - from) ≡ slice_range bytes from b
slice-shift_start bytes from b l = ap (λ n. slice_range (drop from bytes) n (b - from)) (let e : 0 ≡ from - from = omega arith in e) ∙ slice-shift bytes from from b (omega arith) l

shift_head : (bytes : List ℕ) (s : Scan) (head : Option Head) → HeadIs bytes s.at s.line s.looked head
    → HeadIs (drop (start_of s head).0 bytes) 0 (start_of s head).1 (s.looked - (start_of s head).0) (shifted_head (start_of s head).0 head)
shift_head bytes s None h =
    let none : slice_range (drop s.looked bytes) 0 (s.looked - s.looked) ≡ [] = slice-shift_start bytes s.looked s.looked (omega arith) ∙ no_slice bytes s.looked in
    rw none refl
shift_head bytes s (Some head) h =
    let here : head.at - head.at ≡ 0 = omega arith in
    let none : slice_range (drop head.at bytes) 0 (head.at - head.at) ≡ [] = slice-shift_start bytes head.at head.at (omega arith) ∙ no_slice bytes head.at in
    let same : slice_range (drop head.at bytes) (head.at - head.at) (s.looked - head.at) ≡ slice_range bytes head.at s.looked = slice-shift bytes head.at head.at s.looked (omega arith) (let b = h.before in omega arith) in
    record {
      after = omega arith;
      before = (let b = h.before in omega arith);
      front = inl none;
      passed = rw none refl;
      number = (let n = ap (λ xs. length (lines xs)) none in omega arith);
      whole = rw same h.whole;
      text = h.text;
      later = h.later;
      texts = ap lines same ∙ h.texts;
      header = h.header;
      one = h.one;
    }

-- the facts about where the rest begins
pub record Begin (bytes : List ℕ) (s : Scan) (from line : ℕ) : Type 0 where
  pub within : from ≤ s.looked
  pub whole : EndsInNewline (slice_range bytes from s.looked)
  pub number : s.number ≡ line + length (lines (slice_range bytes from s.looked))

begin_by_head : (bytes : List ℕ) (s : Scan) (head : Option Head) → s.number ≡ s.line + length (lines (slice_range bytes s.at s.looked)) → HeadIs bytes s.at s.line s.looked head → Begin bytes s (start_of s head).0 (start_of s head).1
begin_by_head bytes s None counted h = record {
  within = omega arith;
  whole = inl (no_slice bytes s.looked);
  number = (let n = ap length (empty_slice bytes s.looked) in omega arith);
}
begin_by_head bytes s (Some head) counted h =
    let total : lines (slice_range bytes s.at s.looked) ≡ lines (slice_range bytes s.at head.at) ++ lines (slice_range bytes head.at s.looked) =
    ap lines (slice-join bytes s.at head.at s.looked h.after (let b = h.before in omega arith)) ∙ lines_in-split true (slice_range bytes s.at head.at) (slice_range bytes head.at s.looked) h.front in
    let size : length (lines (slice_range bytes s.at s.looked)) ≡ length (lines (slice_range bytes s.at head.at)) + length (lines (slice_range bytes head.at s.looked)) =
    ap length total ∙ length-append (lines (slice_range bytes s.at head.at)) (lines (slice_range bytes head.at s.looked)) in
    record {
      within = (let b = h.before in omega arith);
      whole = h.whole;
      number = (let n = h.number in omega arith);
    }

pub begin_of_rest : (bytes : List ℕ) (s : Scan) → IsScan bytes s → Begin bytes s (start_of_rest s).0 (start_of_rest s).1
begin_of_rest bytes s scan = begin_by_head bytes s s.head scan.counted scan.head

pub scan_shifted : (bytes : List ℕ) (s : Scan) → IsScan bytes s → IsScan (drop (start_of_rest s).0 bytes) (shifted (start_of_rest s).0 (start_of_rest s).1 s)
scan_shifted bytes s scan =
    let from = (start_of_rest s).0 in
    let b = begin_of_rest bytes s scan in
    let size = length-drop from bytes in
    let looked : slice_range (drop from bytes) 0 (s.looked - from) ≡ slice_range bytes from s.looked = slice-shift_start bytes from s.looked b.within in
    let searched : slice_range (drop from bytes) (s.looked - from) (s.searched - from) ≡ slice_range bytes s.looked s.searched = slice-shift bytes from s.looked s.searched b.within scan.ahead in
    record {
      onward = omega arith;
      ahead = (let a = scan.ahead in omega arith);
      within = (let w = scan.within in omega arith);
      searched = ap has_newline searched ∙ scan.searched;
      whole = rw looked b.whole;
      counted = rw looked b.number;
      head = shift_head bytes s s.head scan.head;
    }

-- a stream of lines holds no head, and all of it that was looked at was handed out
pub lines_start : (bytes : List ℕ) (s : Scan) (head : Option Head) → HeadIs bytes s.at s.line s.looked head → s.looked ≡ s.at → (start_of s head).0 ≡ s.at
lines_start bytes s None h same = same
lines_start bytes s (Some head) h same = absurd (let a = h.after in let b = h.before in omega arith)

-- the fields after what was handed out is forgotten
abbrev pub forgotten : Inside → Scan → List ℕ → CutterState
forgotten c s held = record { kind = c.kind; held = held; at = 0; line = (start_of_rest s).1; given = c.given; closed = c.closed }

which_kind : (kind : CutKind) (bytes : List ℕ) (s0 s : Scan) → IsScan bytes s → HasHead kind bytes s0 s → (kind ≡ Lines → s0.looked ≡ s0.at) → lines (slice_range bytes s.at (start_of_rest s).0) ≡ dropped_lines kind (drop s.at bytes)
which_kind Hands bytes s0 s scan found same = which_lines bytes s scan (λ none. none_left bytes s scan (found.all refl none))
which_kind Lines bytes s0 s scan found same =
    let here : s.looked ≡ s.at = ap (λ (x : Scan). x.looked) (found.lines refl) ∙ same refl ∙ sym found.at in
    let from : (start_of_rest s).0 ≡ s.at = lines_start bytes s s.head scan.head here in
    ap (λ n. lines (slice_range bytes s.at n)) from ∙ empty_slice bytes s.at

units_kind : (kind : CutKind) (bytes : List ℕ) (s0 s : Scan) (whole : Bool) (more : List ℕ) → IsScan bytes s → HasHead kind bytes s0 s → (kind ≡ Lines → s0.looked ≡ s0.at)
    → units_in kind whole s.line (drop s.at bytes ++ more) ≡ units_in kind whole (start_of_rest s).1 (drop (start_of_rest s).0 bytes ++ more)
units_kind Hands bytes s0 s whole more scan found same = same_hands whole bytes more s.at s.line (start_of_rest s).0 (start_of_rest s).1 (drops bytes s scan)
units_kind Lines bytes s0 s whole more scan found same =
    let here : s.looked ≡ s.at = ap (λ (x : Scan). x.looked) (found.lines refl) ∙ same refl ∙ sym found.at in
    let from : (start_of_rest s).0 ≡ s.at = lines_start bytes s s.head scan.head here in
    let d = drops bytes s scan in
    let none : length (lines (slice_range bytes s.at (start_of_rest s).0)) ≡ 0 = ap (λ n. length (lines (slice_range bytes s.at n))) from ∙ ap length (empty_slice bytes s.at) in
    let number : s.line ≡ (start_of_rest s).1 = (let n = d.number in omega arith) in
    ap (λ n. units_in Lines whole n (drop s.at bytes ++ more)) number ∙ ap (λ n. units_in Lines whole (start_of_rest s).1 (drop n bytes ++ more)) (sym from)

pub forgets : (c : Inside) (s : Scan) → IsSound c → IsScan c.bytes.items s → HasHead c.kind c.bytes.items c.scan s → Forgets (view_of c) (forgotten c s (drop (start_of_rest s).0 c.bytes.items))
forgets c s sound scan found =
    let bytes = c.bytes.items in
    let from = (start_of_rest s).0 in
    let d = drops bytes s scan in
    let at : drop c.scan.at bytes ≡ drop s.at bytes = ap (λ n. drop n bytes) (sym found.at) in
    record {
      dropped = slice_range bytes s.at from;
      split = at ∙ slice-rest bytes s.at from d.onward;
      whole = d.whole;
      which = which_kind c.kind bytes c.scan s scan found sound.lines ∙ ap (dropped_lines c.kind) (sym at);
      after = ap (λ n. (let v : CutterState = record { kind = c.kind; held = drop from bytes; at = 0; line = n; given = c.given; closed = c.closed } in v))
          (d.number ∙ ap (λ n. n + length (lines (slice_range bytes s.at from))) found.line);
      units = λ whole more _.
          ap (λ n. units_in c.kind whole n (drop c.scan.at bytes ++ more)) (sym found.line) ∙ ap (λ xs. units_in c.kind whole s.line (xs ++ more)) at
          ∙ units_kind c.kind bytes c.scan s whole more scan found sound.lines;
    }

-- and they are sound
pub sound_forgets : (c new : Inside) (s : Scan) → IsSound c → IsScan c.bytes.items s → HasHead c.kind c.bytes.items c.scan s → number_bound c.bytes.items s ≤ number_bound c.bytes.items c.scan
    → new.kind ≡ c.kind → new.given ≡ c.given → new.bytes.items ≡ drop (start_of_rest s).0 c.bytes.items → new.scan ≡ shifted (start_of_rest s).0 (start_of_rest s).1 s → IsSound new
sound_forgets c new s sound scan found fewer kind given items shift = record {
  few = (let f = sound.few in omega arith);
  scan = rw (items, shift) (scan_shifted c.bytes.items s scan);
  numbers =
      let size = length-drop (start_of_rest s).0 c.bytes.items in
      let b = begin_of_rest c.bytes.items s scan in
      let w = b.within in
      let a = scan.ahead in
      let i = scan.within in
      let n = sound.numbers in
      rw (given, items, shift) (let e : s.number + (length (drop (start_of_rest s).0 c.bytes.items) - (s.looked - (start_of_rest s).0)) ≤ c.given + 1 = omega arith in e);
  lines = λ e.
      let same : s.looked ≡ s.at = ap (λ (x : Scan). x.looked) (found.lines (sym kind ∙ e)) ∙ sound.lines (sym kind ∙ e) ∙ sym found.at in
      let from : (start_of_rest s).0 ≡ s.at = lines_start c.bytes.items s s.head scan.head same in
      rw shift (let z : s.looked - (start_of_rest s).0 ≡ 0 = omega arith in z);
}
