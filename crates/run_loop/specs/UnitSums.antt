-- The sums over the hands of an input.
use Rattle.std.specs.Prelude.{◌≡◌, ℕ, ◌≤◌, false, List, [], ◌∷◌, length, Option, None, Some, Result, Ok, Err, ⊤}
use Rattle.std.proofs.Common.{arith}
use Rattle.std.specs.List.{cons_option, filter_map}
use Rattle.card_sets.specs.declared.Memory.{Memory}
use Rattle.hand_cuts.specs.Units.{UnitLines, units_in}
use Rattle.hand_cuts.specs.declared.units.CutKind.TheVariants.{Hands}
use Rattle.report_sheet.specs.declared.form.Form.{Form}
use Rattle.run_loop.specs.Cutting.{ReadsAll}
use Rattle.run_loop.specs.Laws.{has_blocks}
use Rattle.run_loop.specs.Reading.{reported}
use Rattle.run_loop.specs.Report.{blocks_in, rejects_in}
use Rattle.run_loop.specs.Units.{is_whole}
use Rattle.command_words.specs.declared.command.Command.{Command}
use Rattle.run_loop.specs.declared.reading.Ending.{Ending}
use Rattle.run_loop.specs.declared.reading.Ending.TheVariants.{Open}

-- the sums are those of all hands of the bytes that count, when the reading has ended
abbrev pub SumsOf : {Sums : Type 0} → (List UnitLines → Sums) → Ending → Ending → List ℕ → Sums → Result (Unit {0}) Memory → Type 0
SumsOf sums_of ending behind bytes sums (Ok _) =
    (ending ≡ behind) × (behind ≡ Open → ⊥)
    × (sums ≡ sums_of (units_in Hands (is_whole behind) 1 bytes))
SumsOf sums_of ending behind bytes sums (Err _) = ⊤

-- the reads that were made for them
pub record SumsInOrder {S Sums : Type 0} (reads : S → S → Option (List ℕ) → Type 0) (sums_of : List UnitLines → Sums) (limit : ℕ)
    (old new : S) (ending : Ending) (sums : Sums) (result : Result (Unit {0}) Memory) : Type 0 where
  pub made : List (Option (List ℕ))
  pub behind : Ending
  pub bytes : List ℕ
  pub order : ReadsAll reads limit old Open [] made new behind bytes
  pub summed : SumsOf sums_of ending behind bytes sums result

-- the report of a command is one block of the sums over all hands, and nothing is due before the reading has ended
pub record IsOneBlock {Sums : Type 0} (asked : Command) (sums_of : List UnitLines → Sums) (block : Form → Sums → List ℕ) (rejected_in : Sums → ℕ) : Type 0 where
  pub waits : has_blocks asked.mode ≡ false
  pub blocks : (ending : Ending) (bytes : List ℕ) → blocks_in asked.mode asked (reported asked.mode ending bytes) ≡ block asked.form (sums_of (units_in Hands (is_whole ending) 1 bytes)) ∷ []
  pub rejects : (ending : Ending) (bytes : List ℕ) → rejects_in asked.mode asked (reported asked.mode ending bytes) ≡ rejected_in (sums_of (units_in Hands (is_whole ending) 1 bytes))

-- there are no more verdicts than hands
pub few_told : {A : Type 0} (told : UnitLines → Option A) (hands : List UnitLines) → length (filter_map told hands) ≤ length hands
few_told told [] = omega arith
few_told {A} told (hand ∷ hands) = one_more (told hand) (few_told told hands)
  where
    one_more : (found : Option A) → length (filter_map told hands) ≤ length hands → length (cons_option found (filter_map told hands)) ≤ length (hand ∷ hands)
    one_more None few = omega (arith, few)
    one_more (Some audit) few = omega (arith, few)
