-- What the first pass over the lines keeps.
use Rattle.std.specs.Prelude.{◌≡◌, ℕ, ◌+◌, ◌<◌, ◌==◌, Bool, true, false, if◌then◌else◌, List, [], ◌∷◌, ◌++◌, length, nat_lt, Result, All, map}
use Rattle.std.specs.Cmp.Lexicographic.{slice_cmp}
use Rattle.std.specs.Int.Digits.{digits_of}
use Rattle.std.specs.Ordering.{nat_cmp}
use Rattle.std.specs.List.{list_any}
use Rattle.std.specs.BTreeSet.{BTreeSet, contains_by}
use denote.Ref.{Bor}
use Rattle.hand_events.specs.declared.events.Header.{Header}
use Rattle.hand_events.specs.declared.events.Event.{Event}
use Rattle.hand_events.specs.declared.events.Part.TheVariants.{Preamble}
use Rattle.hand_events.specs.declared.events.TextFault.{TextFault}
use Rattle.history_text.specs.Within.{IsSeated}
use Rattle.hand_audit.specs.declared.first_pass.PlayerScan.{PlayerScan}
use Rattle.hand_audit.specs.Keeping.{IsFound, IsRead, names_by, part_by, parts_after}
use Rattle.hand_audit.specs.Lines.{SoFar, part_of, players_in, with_line, with_seat, seat_at, is_again}

-- a number digit by digit, with no zero before it: 0 has no digit
abbrev pub digits_text : ℕ → List ℕ
digits_text n = map (λ digit. 48 + digit) (digits_of 10 n)

-- the set has the digits of these numbers
abbrev pub HasNumbers : BTreeSet (Bor (List ℕ)) → List ℕ → Type 0
HasNumbers set before = (n : ℕ) → contains_by (λ k. slice_cmp nat_cmp (digits_text n) k.now) set ≡ list_any (λ s. s == n) before

-- it stands for the lines so far, after seat lines of these numbers
pub record Passes (pass : PlayerScan) (so_far : SoFar) (before : List ℕ) : Type 0 where
  pub names : pass.names ≡ so_far.names
  pub part : pass.part ≡ part_of so_far.events
  pub players : pass.players ≡ players_in so_far.events
  pub seats : HasNumbers pass.seats before
  pub seated : All IsSeated so_far.names

-- after a line more: it is a second line of its number, and nothing changed that counts, or it is kept too
abbrev pub Took : PlayerScan → Header → SoFar → List ℕ → List ℕ → Bool → Type 0
Took new header so_far seats line true = (is_again seats (seat_at (part_of so_far.events) line) ≡ true) × Passes new so_far seats
Took new header so_far seats line false =
    (is_again seats (seat_at (part_of so_far.events) line) ≡ false) × Passes new (with_line header so_far line) (with_seat seats (seat_at (part_of so_far.events) line))

-- from this number of lines on no more reads are kept
abbrev pub READS_MAX : ℕ
READS_MAX = 256

-- what is kept of the reads, with one more
abbrev pub with_read : List (Result Event TextFault) → Result Event TextFault → List (Result Event TextFault)
with_read reads said = if nat_lt (length reads) READS_MAX then reads ++ said ∷ [] else reads

-- a line was read, and the pass goes on after it
pub record Noted (old new : PlayerScan) (header : Header) (line : List ℕ) : Type 0 where
  pub said : Result Event TextFault
  pub is : IsRead old.names header old.part line said
  pub names : new.names ≡ names_by said line old.names
  pub part : new.part ≡ part_by said old.part
  pub reads : new.reads.items ≡ with_read old.reads.items said

-- a line that doesn't end the pass was read
abbrev pub Notes : PlayerScan → PlayerScan → Header → List ℕ → Bool → Type 0
Notes old new header line true = (new.reads ≡ old.reads) × (new.names ≡ old.names) × (new.part ≡ old.part)
Notes old new header line false = Noted old new header line

-- as long as there is room for more, the reads that are kept are those of the lines from a place on up to where the pass stands, and their
-- names and their part are those that it has
pub record HasReads (pass : PlayerScan) (header : Header) (bytes : List ℕ) (start at : ℕ) : Type 0 where
  pub found : length pass.reads.items < READS_MAX → IsFound header bytes start pass.reads.items pass.names at
  pub part : length pass.reads.items < READS_MAX → pass.part ≡ parts_after Preamble pass.reads.items
