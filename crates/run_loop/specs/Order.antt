-- The order in which a run reads and writes: what is due is written before anything is read.
use Rattle.std.specs.Prelude.{◌≡◌, ℕ, ◌<◌, ◌≤◌, if◌then◌else◌, List, [], ◌∷◌, ◌++◌, length, take, Option, Some, None, ◌⊎◌}
use Rattle.std.specs.List.{concat}
use Rattle.command_words.specs.Command.{reads_input, usage_line}
use Rattle.run_loop.specs.Headline.{written_status}
use Rattle.run_loop.specs.Laws.{has_blocks}
use Rattle.run_loop.specs.Reading.{piece, reported}
use Rattle.run_loop.specs.Report.{blocks, report, rejects}
use Rattle.command_words.specs.declared.command.Command.{Command}
use Rattle.command_words.specs.declared.command.Mode.{Mode}
use Rattle.run_loop.specs.declared.reading.Ending.{Ending}
use Rattle.run_loop.specs.declared.reading.Ending.TheVariants.{Whole, Failed, TooLong, Open}

-- one thing that a run does: a read, which gives some bytes, none of them at the end of the input, or fails; or a write, which
-- takes some bytes, or fails
pub data Event : Type 0 where
  Reading : Option (List ℕ) → Event
  Writing : Option (List ℕ) → Event

-- what a run has to have written: while the reading goes on the blocks of all that is closed, or nothing where one block is made
-- of all hands; and then the whole report
abbrev pub due : Command → Ending → List ℕ → List ℕ
due asked Open bytes = if has_blocks asked.mode then report asked (reported asked.mode Open bytes) else []
due asked Whole bytes = report asked (reported asked.mode Whole bytes)
due asked Failed bytes = report asked (reported asked.mode Failed bytes)
due asked TooLong bytes = report asked (reported asked.mode TooLong bytes)

-- how the reading stands after one more read, which gives a piece at the most
abbrev pub Comes : ℕ → List ℕ → Option (List ℕ) → Ending → Type 0
Comes limit bytes None ending = ending ≡ Failed
Comes limit bytes (Some more) Whole = more ≡ []
Comes limit bytes (Some more) Failed = ⊥
Comes limit bytes (Some more) TooLong = (length more ≤ piece) × (limit < length (bytes ++ more))
Comes limit bytes (Some more) Open = (length more ≤ piece) × (0 < length more) × (length (bytes ++ more) ≤ limit)

-- the bytes that count after one more read: no more than the limit
abbrev pub with_read : ℕ → List ℕ → Option (List ℕ) → List ℕ
with_read limit bytes None = bytes
with_read limit bytes (Some more) = take limit (bytes ++ more)

-- some bytes are the first of others
abbrev pub IsFront : List ℕ → List ℕ → Type 0
IsFront front whole = (more : List ℕ) × (whole ≡ front ++ more)

-- some bytes are the first of others, which have more
abbrev pub IsBefore : List ℕ → List ℕ → Type 0
IsBefore front whole = (more : List ℕ) × (0 < length more) × (whole ≡ front ++ more)

-- how the reading stands when a run begins: it goes on, or where nothing is read it has ended
abbrev pub begun : Mode → Ending
begun asked = if reads_input asked then Open else Whole

-- what is left to do of a run that has read some bytes and written some, and its status. It reads only while the reading goes
-- on, and when all that is due is written. It writes only what is due. A failed write is the last thing that it does. It ends when
-- the reading has ended and all is written, or memory ran out, with whole blocks written
abbrev pub Follows : ℕ → Command → Ending → List ℕ → List ℕ → List Event → ℕ → Type 0
Follows limit asked ending bytes wrote [] status =
    (ending ≡ Open → ⊥) × (wrote ≡ due asked ending bytes)
    × (status ≡ written_status ending (rejects asked (reported asked.mode ending bytes)))
    ⊎ (status ≡ 6) × (count : ℕ) × (wrote ≡ concat (take count (blocks asked (reported asked.mode ending bytes))))
Follows limit asked ending bytes wrote (Reading read ∷ later) status =
    (ending ≡ Open) × (wrote ≡ due asked Open bytes)
    × (how : Ending) × Comes limit bytes read how
    × Follows limit asked how (with_read limit bytes read) wrote later status
Follows limit asked ending bytes wrote (Writing (Some more) ∷ later) status =
    (0 < length more) × IsFront (wrote ++ more) (due asked ending bytes)
    × Follows limit asked ending bytes (wrote ++ more) later status
Follows limit asked ending bytes wrote (Writing None ∷ later) status =
    IsBefore wrote (due asked ending bytes) × (later ≡ []) × (status ≡ 4)

-- the same of a run whose words are in no form: it writes the usage line, and reads nothing
abbrev pub FollowsUsage : List ℕ → List Event → ℕ → Type 0
FollowsUsage wrote [] status = (wrote ≡ usage_line) × (status ≡ 2) ⊎ (wrote ≡ []) × (status ≡ 6)
FollowsUsage wrote (Reading read ∷ later) status = ⊥
FollowsUsage wrote (Writing (Some more) ∷ later) status =
    (0 < length more) × IsFront (wrote ++ more) usage_line × FollowsUsage (wrote ++ more) later status
FollowsUsage wrote (Writing None ∷ later) status = IsBefore wrote usage_line × (later ≡ []) × (status ≡ 4)

-- these events, one after the other, lead a source and a sink from here to there
abbrev pub Went : {S K : Type 0} → (S → S → Option (List ℕ) → Type 0) → (K → K → Option (List ℕ) → Type 0) →
    S → K → List Event → S → K → Type 0
Went reads writes s k [] s' k' = (s' ≡ s) × (k' ≡ k)
Went {S} {K} reads writes s k (Reading read ∷ later) s' k' = (mid : S) × reads s mid read × Went reads writes mid k later s' k'
Went {S} {K} reads writes s k (Writing write ∷ later) s' k' = (mid : K) × writes k mid write × Went reads writes s mid later s' k'

-- a run goes on from here: some events lead to where it ends, and are what is left to do
pub record GoesOn {S K : Type 0} (reads : S → S → Option (List ℕ) → Type 0) (writes : K → K → Option (List ℕ) → Type 0)
    (limit : ℕ) (asked : Command) (ending : Ending) (bytes wrote : List ℕ) (s : S) (k : K) (status : ℕ)
    (s' : S) (k' : K) : Type 0 where
  pub events : List Event
  pub went : Went reads writes s k events s' k'
  pub follows : Follows limit asked ending bytes wrote events status

-- a run has all to do that its words ask for, and does it
abbrev pub IsInOrder : {S K : Type 0} → (S → S → Option (List ℕ) → Type 0) → (K → K → Option (List ℕ) → Type 0) → ℕ →
    Option Command → ℕ → S → K → S → K → Type 0
IsInOrder reads writes limit None status s k s' k' =
    (events : List Event) × Went reads writes s k events s' k' × FollowsUsage [] events status
IsInOrder reads writes limit (Some asked) status s k s' k' =
    GoesOn reads writes limit asked (begun asked.mode) [] [] s k status s' k'
