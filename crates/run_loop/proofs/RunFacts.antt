-- How the parts of a run make a run.
use Rattle.std.proofs.Common.{◌≡◌, ℕ, ◌==◌, true, false, cond, List, [], ◌++◌, Option, Some, None, Result, inl, inr, ◌⊎◌, arith, refl, sym, ap, subst, ◌∙◌}
use mathlib.Core.Bool.{true≢false}
use Rattle.std.specs.List.{concat}
use Rattle.std.proofs.Math.Seq.{take-nil}
use Rattle.byte_ends.specs.Ends.{WritesAll}
use Rattle.hand_cuts.specs.Units.{units_in}
use Rattle.hand_cuts.proofs.CallerLemmas.{closed_units_stay}
use Rattle.command_words.specs.declared.command.Command.{Command}
use Rattle.command_words.specs.declared.command.Mode.{Mode}
use Rattle.command_words.specs.declared.command.Mode.TheVariants.{Spots, Ranges, Check, Audit, Streets, Results, Settle, Totals, Balance, Made}
use Rattle.run_loop.specs.declared.block_kinds.SpotKind.TheVariants as held
use Rattle.run_loop.specs.declared.block_kinds.Detail.TheVariants as told
use Rattle.run_loop.specs.declared.block_kinds.BlockKind.{BlockKind}
use Rattle.run_loop.specs.declared.block_kinds.BlockKind.TheVariants as each
use Rattle.run_loop.specs.declared.reading.Ending.{Ending}
use Rattle.run_loop.specs.declared.reading.Ending.TheVariants.{Whole, Failed, TooLong, Open}
use Rattle.run_loop.specs.Closed.{closed}
use Rattle.run_loop.specs.Reading.{Counted, EndsSo, Takes, reported}
use Rattle.command_words.specs.Command.{reads_input}
use Rattle.run_loop.specs.Laws.{ClosedBlocksStay, has_blocks}
use Rattle.run_loop.specs.Report.{blocks, blocks_in, report, rejects, rejects_in}
use Rattle.run_loop.specs.Reporting.{WritesMade}
use Rattle.run_loop.specs.declared.write_fault.WriteFault.{WriteFault}
use Rattle.run_loop.specs.UnitBlocks.{block_kind_in, listed_kind, place_after, unit_blocks}
use Rattle.run_loop.specs.Headline.{IsRun, Ends, written_status}
use Rattle.run_loop.proofs.RunEnds.{run_finished, run_read_fault, run_too_long}
use Rattle.run_loop.proofs.UnitFacts.{blocks-append, blocks_by_units}
use Rattle.run_loop.proofs.WriteFacts.{concat-append}

-- the blocks of the closed part come first, whatever bytes follow, where each spot or hand has one
listed_of : (m : Mode) → has_blocks m ≡ true → (listed : BlockKind) × (block_kind_in m ≡ Some listed)
listed_of Spots has = (each.Spots held.Cards, refl)
listed_of Ranges has = (each.Spots held.Ranges, refl)
listed_of Check has = (each.Hands told.Verdict, refl)
listed_of Audit has = (each.Hands told.AllIn, refl)
listed_of Streets has = (each.Hands told.LaterStreets, refl)
listed_of Results has = (each.Hands told.Results, refl)
listed_of Settle has = (each.Hands told.Settlement, refl)
listed_of Totals has = absurd (true≢false (sym has))
listed_of Balance has = absurd (true≢false (sym has))
listed_of Made has = absurd (true≢false (sym has))

pub closed_stays : ClosedBlocksStay
unfolding report
closed_stays asked bytes rest has =
    let listed = (listed_of asked.mode has).0 in
    let is = (listed_of asked.mode has).1 in
    let kind = listed_kind listed in
    let units = closed_units_stay kind true 1 bytes rest in
    let first = units_in kind false 1 bytes in
    let later = unit_blocks asked.form listed (place_after asked.form listed 1 first) units.0 in
    let all : blocks asked (bytes ++ rest) ≡ blocks asked (closed asked.mode bytes) ++ later =
    blocks_by_units asked asked.mode listed Whole (bytes ++ rest) is ∙ ap (unit_blocks asked.form listed 1) units.1 ∙ blocks-append asked.form listed 1 first units.0
    ∙ ap (λ bs. bs ++ later) (sym (blocks_by_units asked asked.mode listed Failed bytes is)) in
    (concat later, ap concat all ∙ concat-append (blocks asked (closed asked.mode bytes)) later)

pub zero_or_one : (rejected : ℕ) → (◌≡◌ {A = ℕ} (cond (rejected == 0) 0 1) 0) ⊎ (◌≡◌ {A = ℕ} (cond (rejected == 0) 0 1) 1)
zero_or_one rejected = elim (rejected == 0) as (λ b. (◌≡◌ {A = ℕ} (cond b 0 1) 0) ⊎ (◌≡◌ {A = ℕ} (cond b 0 1) 1)) [ true ↦ inl refl | false ↦ inr refl ]

-- a mode that reads its input isn't one that doesn't
reading : {P : Type 0} (command : Command) → reads_input command.mode ≡ true → reads_input command.mode ≡ false → P
reading command some none = absurd (true≢false (sym some ∙ none))

-- the reading has ended, and the report of what was read is written
pub record IsWritten (limit : ℕ) (command : Command) (ending : Ending) (rejected : ℕ) (old new : Ends) : Type 0 where
  pub ended : ending ≡ Open → ⊥
  pub bytes : List ℕ
  pub counted : Counted limit old.left new.left bytes
  pub ends : EndsSo limit old.left new.left old.read_faults new.read_faults bytes ending
  pub written : WritesAll old.taken new.taken (report command (reported command.mode ending bytes))
  pub count : rejected ≡ rejects command (reported command.mode ending bytes)
  pub fine : new.write_faults ≡ old.write_faults

-- so the run ends with its status
pub run_written : (limit : ℕ) (command : Command) (ending : Ending) (rejected : ℕ) (old new : Ends) → reads_input command.mode ≡ true → IsWritten limit command ending rejected old new → IsRun limit (Some command) (written_status ending rejected) old new
run_written limit command Whole rejected old new some w =
    let count = w.count in
    run_finished limit command (cond (rejected == 0) 0 1) old new (zero_or_one rejected) (λ none. reading command some none) (record {
      bytes = w.bytes;
      read = λ _. w.ends.0;
      written = w.written;
      status_is = ap (λ n. cond (n == 0) 0 1) count;
      no_read_fault = w.ends.1;
      no_write_fault = w.fine;
    })
run_written limit command Failed rejected old new some w =
    run_read_fault limit command old new (record { reads = some; rises = w.ends.1; bytes = w.bytes; read = w.ends.0; written = w.written }) w.fine
run_written limit command TooLong rejected old new some w =
    run_too_long limit command old new (record { reads = some; bytes = w.bytes; read = w.ends.0; written = w.written }) w.fine w.ends.1
run_written limit command Open rejected old new some w = absurd (w.ended refl)

-- nothing was taken of what is left as it was
pub takes_none : (a b : Option (List ℕ)) → b ≡ a → Takes a b []
takes_none None b same = same
takes_none (Some all) b same = (all, same, refl)

-- hands that are made: nothing is read
pub counts_none : (limit : ℕ) (left : Option (List ℕ)) → Counted limit left left []
counts_none limit left = ([], takes_none left left refl, sym (take-nil limit), omega arith)

-- a mode that reads no input makes hands
pub made_mode : (m : Mode) → reads_input m ≡ false → m ≡ Made
made_mode Spots none = absurd (true≢false none)
made_mode Ranges none = absurd (true≢false none)
made_mode Check none = absurd (true≢false none)
made_mode Audit none = absurd (true≢false none)
made_mode Streets none = absurd (true≢false none)
made_mode Results none = absurd (true≢false none)
made_mode Settle none = absurd (true≢false none)
made_mode Totals none = absurd (true≢false none)
made_mode Balance none = absurd (true≢false none)
made_mode Made none = refl

-- what is made is what such a command reports of no bytes
made_blocks : (command : Command) → reads_input command.mode ≡ false → blocks_in Made command [] ≡ blocks command []
made_blocks command none = ap (λ (m : Mode). blocks_in m command []) (sym (made_mode command.mode none))

made_report : (command : Command) → reads_input command.mode ≡ false → concat (blocks_in Made command []) ≡ report command []
unfolding report
made_report command none = ap concat (made_blocks command none)

made_rejects : (command : Command) → reads_input command.mode ≡ false → rejects_in Made command [] ≡ rejects command []
unfolding rejects
made_rejects command none = ap (λ (m : Mode). rejects_in m command []) (sym (made_mode command.mode none))

-- the block that is written is the report
pub made_in_full : {K : Type 0} (writes : K → K → Option (List ℕ) → Type 0) (command : Command) (k k' : K) (outcome : Result ℕ WriteFault) → reads_input command.mode ≡ false
    → WritesMade writes k k' (concat (blocks_in Made command [])) (rejects_in Made command []) outcome → WritesMade writes k k' (report command []) (rejects command []) outcome
made_in_full writes command k k' outcome none w =
    let text = subst (λ (block : List ℕ). WritesMade writes k k' block (rejects_in Made command []) outcome) (made_report command none) w in
    subst (λ (count : ℕ). WritesMade writes k k' (report command []) count outcome) (made_rejects command none) text
