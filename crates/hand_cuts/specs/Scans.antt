-- How far some bytes were examined.
use Rattle.std.specs.Prelude.{◌≡◌, ℕ, ◌+◌, ◌-◌, ◌<◌, ◌≤◌, Bool, true, false, List, [], ◌∷◌, ◌++◌, length, drop, slice_range, Option, Some, None, nat_lt, if◌then◌else◌, ◌⊎◌}
use Rattle.history_text.specs.Headers.{is_header}
use Rattle.line_text.specs.Lines.{lines, front_line, has_newline}
use Rattle.line_text.specs.Laws.{EndsInNewline}
use Rattle.hand_cuts.specs.Units.{units_in, up_to_header}
use Rattle.hand_cuts.specs.Cutters.{MayFollow, seen}
use Rattle.hand_cuts.specs.declared.scan.Head.{Head}
use Rattle.hand_cuts.specs.declared.scan.Scan.{Scan}
use Rattle.hand_cuts.specs.declared.units.CutKind.{CutKind}
use Rattle.hand_cuts.specs.declared.units.CutKind.TheVariants.{Hands, Lines}
use Rattle.hand_cuts.specs.declared.units.Unit.{Unit as UnitPlace}

-- the place after the newline of the line that begins at a place; none if no newline follows
abbrev pub EndsLine : List ℕ → ℕ → Option ℕ → Type 0
EndsLine bytes looked None = has_newline (drop looked bytes) ≡ false
EndsLine bytes looked (Some next) =
    (has_newline (drop looked bytes) ≡ true) × (next ≡ looked + length (front_line (drop looked bytes)) + 1) × (next ≤ length bytes)

-- a line by its places, with its newline, and the text of the line
pub record LineAt (bytes : List ℕ) (looked next : ℕ) (text : List ℕ) : Type 0 where
  pub some : looked < next
  pub within : next ≤ length bytes
  pub ends : EndsInNewline (slice_range bytes looked next)
  pub one : lines (slice_range bytes looked next) ≡ text ∷ []

-- the states of a scan after each of its steps
abbrev pub start : Scan
start = record { at = 0; line = 1; looked = 0; number = 1; searched = 0; head = None }

abbrev pub passed : ℕ → Scan → Scan
passed next s = record s { looked = next; number = s.number + 1; searched = next }

abbrev pub begun : Head → Scan → Scan
begun head s = record s { at = head.at; line = head.line; head = Some head }

abbrev pub gone_on : Scan → Scan
gone_on s = record s { at = s.looked; line = s.number; head = None }

-- the number of the line after the last one, which has no newline and may be empty
abbrev pub number_at_end : ℕ → Scan → ℕ
number_at_end end s = if nat_lt s.looked end then s.number + 1 else s.number

abbrev pub finished : ℕ → Scan → Scan
finished end s = record { at = end; line = number_at_end end s; looked = end; number = number_at_end end s; searched = end; head = None }

abbrev pub shifted_head : ℕ → Option Head → Option Head
shifted_head from None = None
shifted_head from (Some h) = Some (record h { at = h.at - from })

abbrev pub shifted : ℕ → ℕ → Scan → Scan
shifted from line s = record { at = 0; line = line; looked = s.looked - from; number = s.number; searched = s.searched - from; head = shifted_head from s.head }

abbrev pub start_of : Scan → Option Head → ℕ × ℕ
start_of s None = (s.looked, s.number)
start_of s (Some h) = (h.at, h.line)

abbrev pub start_of_rest : Scan → ℕ × ℕ
start_of_rest s = start_of s s.head

-- a header line among the examined lines, with no header line before it and none after it
pub record IsHead (bytes : List ℕ) (at line looked : ℕ) (h : Head) : Type 0 where
  pub after : at ≤ h.at
  pub before : h.at < looked
  pub front : EndsInNewline (slice_range bytes at h.at)
  pub passed : up_to_header (lines (slice_range bytes at h.at)) ≡ lines (slice_range bytes at h.at)
  pub number : h.line ≡ line + length (lines (slice_range bytes at h.at))
  pub whole : EndsInNewline (slice_range bytes h.at looked)
  pub text : List ℕ
  pub later : List (List ℕ)
  pub texts : lines (slice_range bytes h.at looked) ≡ text ∷ later
  pub header : is_header text ≡ true
  pub one : up_to_header later ≡ later

abbrev pub HeadIs : List ℕ → ℕ → ℕ → ℕ → Option Head → Type 0
HeadIs bytes at line looked None = up_to_header (lines (slice_range bytes at looked)) ≡ lines (slice_range bytes at looked)
HeadIs bytes at line looked (Some h) = IsHead bytes at line looked h

-- what holds for the scan of some bytes at any time
pub record IsScan (bytes : List ℕ) (s : Scan) : Type 0 where
  pub onward : s.at ≤ s.looked
  pub ahead : s.looked ≤ s.searched
  pub within : s.searched ≤ length bytes
  pub searched : has_newline (slice_range bytes s.looked s.searched) ≡ false
  pub whole : EndsInNewline (slice_range bytes s.at s.looked)
  pub counted : s.number ≡ s.line + length (lines (slice_range bytes s.at s.looked))
  pub head : HeadIs bytes s.at s.line s.looked s.head

-- a bound for the numbers of lines: the next number if each byte not yet examined were a line
abbrev pub number_bound : List ℕ → Scan → ℕ
number_bound bytes s = s.number + (length bytes - s.looked)

-- no header line with its newline follows: all lines are passed, and all bytes are searched
pub record SearchesAll (bytes : List ℕ) (old new : Scan) : Type 0 where
  pub scan : IsScan bytes new
  pub at : new.at ≡ old.at
  pub line : new.line ≡ old.line
  pub head : new.head ≡ old.head
  pub all : new.searched ≡ length bytes

-- the next header line with its newline is found; `between` is the scan before it
pub record Finds (bytes : List ℕ) (old new : Scan) (head : Head) : Type 0 where
  pub between : Scan
  pub scan : IsScan bytes between
  pub at : between.at ≡ old.at
  pub line : between.line ≡ old.line
  pub same : between.head ≡ old.head
  pub here : head ≡ record { at = between.looked; line = between.number }
  pub next : ℕ
  pub text : List ℕ
  pub found : LineAt bytes between.looked next text
  pub header : is_header text ≡ true
  pub after : new ≡ passed next between

-- the first header line with its newline was found, or all bytes were searched; if lines are cut, no header
-- line is searched for
pub record HasHead (kind : CutKind) (bytes : List ℕ) (old new : Scan) : Type 0 where
  pub at : new.at ≡ old.at
  pub line : new.line ≡ old.line
  pub all : kind ≡ Hands → new.head ≡ None → new.searched ≡ length bytes
  pub lines : kind ≡ Lines → new ≡ old

-- the rest has no unit, and nothing is handed out
pub record NoUnit (kind : CutKind) (closed : Bool) (bytes : List ℕ) (old new : Scan) : Type 0 where
  pub none : units_in kind closed old.line (drop old.at bytes) ≡ []
  pub at : new.at ≡ old.at
  pub line : new.line ≡ old.line

-- a unit is handed out: the first of the rest, whatever follows
pub record HandsOut (kind : CutKind) (closed : Bool) (bytes : List ℕ) (old new : Scan) (unit : UnitPlace) : Type 0 where
  pub behind : old.at ≤ unit.first
  pub some : unit.first < unit.end
  pub within : unit.end ≤ length bytes
  pub begins : EndsInNewline (slice_range bytes old.at unit.first)
  pub ends : EndsInNewline (slice_range bytes unit.first unit.end) ⊎ (unit.end ≡ length bytes)
  pub at : new.at ≡ unit.end
  pub line : new.line ≡ old.line + length (lines (slice_range bytes old.at unit.end))
  pub counted : new.line ≡ unit.first_line + length (lines (slice_range bytes unit.first unit.end))
  pub stays : (whole : Bool) (more : List ℕ) → MayFollow closed whole more
      → units_in kind whole old.line (drop old.at bytes ++ more) ≡ seen bytes unit ∷ units_in kind whole new.line (drop new.at bytes ++ more)
