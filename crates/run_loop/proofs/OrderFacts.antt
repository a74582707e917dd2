-- What is written before what is read.
use Rattle.std.proofs.Common.{◌≡◌, ℕ, ◌<◌, true, false, List, [], ◌∷◌, ◌++◌, length, take, drop, Option, Some, None, Result, Ok, Err, inl, inr, refl, sym, ap, subst, ◌∙◌, arith, append_assoc, append-nil, length-append}
use Rattle.std.specs.List.{concat}
use Rattle.card_sets.specs.declared.Memory.{Memory}
use Rattle.hand_cuts.specs.declared.units.CutKind.TheVariants.{Hands}
use Rattle.report_sheet.specs.declared.form.Form.{Form}
use Rattle.run_loop.specs.UnitSums.{IsOneBlock, SumsInOrder}
use Rattle.std.proofs.Math.Seq.{take-append_seam}
use Rattle.byte_ends.specs.Ends.{WritesOn, WritesOut}
use Rattle.byte_ends.specs.declared.Failed.{Failed as Fault}
use Rattle.hand_cuts.specs.Units.{UnitLines, units_in}
use Rattle.hand_cuts.specs.declared.units.CutKind.{CutKind}
use Rattle.run_loop.specs.Cutting.{Begins, Cuts, ReadsAll, ReadsOn}
use Rattle.run_loop.specs.Headline.{written_status}
use Rattle.run_loop.specs.Laws.{has_blocks}
use Rattle.run_loop.specs.Order.{Comes, GoesOn, IsFront, IsInOrder, due, with_read}
use Rattle.run_loop.specs.Reporting.{WritesMade, told_status}
use Rattle.run_loop.specs.declared.write_fault.WriteFault.{WriteFault}
use Rattle.run_loop.specs.declared.write_fault.WriteFault.TheVariants as fault
use Rattle.run_loop.specs.Order.Event.{Reading, Writing}
use Rattle.run_loop.specs.Reading.{reported}
use Rattle.run_loop.specs.Report.{blocks, report, rejects}
use Rattle.run_loop.specs.UnitBlocks.{block_kind_in, listed_kind, place_after, unit_block, unit_blocks}
use Rattle.run_loop.specs.Units.{is_whole}
use Rattle.command_words.specs.Command.{reads_input}
use Rattle.command_words.specs.declared.command.Command.{Command}
use Rattle.run_loop.specs.declared.block_kinds.BlockKind.{BlockKind}
use Rattle.run_loop.specs.declared.reading.Ending.{Ending}
use Rattle.run_loop.specs.declared.reading.Ending.TheVariants.{Whole, Failed, TooLong, Open}
use Rattle.run_loop.specs.declared.reading.Input.{Input}
use Rattle.run_loop.proofs.UnitFacts.{blocks-append, blocks_by_units, listed_blocks}
use Rattle.run_loop.proofs.WriteFacts.{concat-append}
use Rattle.run_loop.proofs.WritingFacts.{blocks_begun, blocks_more}

-- the text of the blocks of some units
abbrev pub text : Command → BlockKind → List UnitLines → List ℕ
text asked listed done = concat (unit_blocks asked.form listed 1 done)

-- where each hand has a block what is due is always the report of what counts
due_all : (asked : Command) (ending : Ending) (bytes : List ℕ) → has_blocks asked.mode ≡ true → due asked ending bytes ≡ report asked (reported asked.mode ending bytes)
due_all asked Whole bytes has = refl
due_all asked Failed bytes has = refl
due_all asked TooLong bytes has = refl
due_all asked Open bytes has = rw has refl

-- so it is the text of the units
due_units : (asked : Command) (listed : BlockKind) (ending : Ending) (bytes : List ℕ) → block_kind_in asked.mode ≡ Some listed → due asked ending bytes ≡ text asked listed (units_in (listed_kind listed) (is_whole ending) 1 bytes)
unfolding report
due_units asked listed ending bytes is =
    due_all asked ending bytes (listed_blocks asked.mode listed is) ∙ ap concat (blocks_by_units asked asked.mode listed ending bytes is)

-- all is written of what is closed
pub written_all : (asked : Command) (listed : BlockKind) (ending : Ending) (bytes : List ℕ) (done : List UnitLines) → block_kind_in asked.mode ≡ Some listed → units_in (listed_kind listed) (is_whole ending) 1 bytes ≡ done → text asked listed done ≡ due asked ending bytes
written_all asked listed ending bytes done is all = ap (text asked listed) (sym all) ∙ sym (due_units asked listed ending bytes is)

-- what is written of some first units is a front of what is due
pub front_of : (asked : Command) (listed : BlockKind) (ending : Ending) (bytes : List ℕ) (done : List UnitLines) → block_kind_in asked.mode ≡ Some listed → Begins (listed_kind listed) ending bytes done → IsFront (text asked listed done) (due asked ending bytes)
front_of asked listed ending bytes done is b =
    let later = unit_blocks asked.form listed (place_after asked.form listed 1 done) b.0 in
    (concat later, due_units asked listed ending bytes is ∙ ap (text asked listed) b.1 ∙ ap concat (blocks-append asked.form listed 1 done b.0) ∙ concat-append (unit_blocks asked.form listed 1 done) later)

pub begins_so_far : (limit : ℕ) (kind : CutKind) (input : Input) (bytes : List ℕ) (done : List UnitLines) → Cuts limit kind input bytes done → Begins kind input.ending bytes done
begins_so_far limit kind input bytes done s =
    let whole = is_whole input.ending in
    (units_in kind whole input.cutter.line (drop input.cutter.at input.cutter.held ++ []), ap (units_in kind whole 1) (sym (append-nil bytes)) ∙ s.split whole [] (λ e. (sym s.closed_is ∙ e, refl)))

pub begins_before : (kind : CutKind) (ending : Ending) (bytes : List ℕ) (done : List UnitLines) (u : UnitLines) → Begins kind ending bytes (done ++ u ∷ []) → Begins kind ending bytes done
begins_before kind ending bytes done u b = (u ∷ b.0, b.1 ∙ append_assoc done (u ∷ []) b.0)

-- what a run that has to do all that is left does in all
abbrev pub Leads : {S K : Type 0} → (S → S → Option (List ℕ) → Type 0) → (K → K → Option (List ℕ) → Type 0) → ℕ → Command → S → K → Ending → List ℕ → List ℕ → S → K → Type 0
Leads {S} {K} reads writes limit asked s0 k0 ending bytes wrote s k =
    (status : ℕ) (s' : S) (k' : K) → GoesOn reads writes limit asked ending bytes wrote s k status s' k'
    → GoesOn reads writes limit asked Open [] [] s0 k0 status s' k'

-- what is read while no more is closed goes before
pub reads_before : {S K : Type 0} (reads : S → S → Option (List ℕ) → Type 0) (writes : K → K → Option (List ℕ) → Type 0) (limit : ℕ) (asked : Command) (listed : BlockKind) (done : List UnitLines) (is : block_kind_in asked.mode ≡ Some listed)
    (s : S) (ending : Ending) (bytes : List ℕ) (made : List (Option (List ℕ))) (mid : S) (ending' : Ending) (bytes' : List ℕ) (k : K) (status : ℕ) (s' : S) (k' : K)
    → ReadsOn reads limit (listed_kind listed) done s ending bytes made mid ending' bytes' → GoesOn reads writes limit asked ending' bytes' (text asked listed done) mid k status s' k'
    → GoesOn reads writes limit asked ending bytes (text asked listed done) s k status s' k'
reads_before {S} {K} reads writes limit asked listed done is s ending bytes [] mid ending' bytes' k status s' k' r g =
    let a = subst (λ (m : S). GoesOn reads writes limit asked ending' bytes' (text asked listed done) m k status s' k') r.0 g in
    let b = subst (λ (e : Ending). GoesOn reads writes limit asked e bytes' (text asked listed done) s k status s' k') r.1 a in
    subst (λ (bs : List ℕ). GoesOn reads writes limit asked ending bs (text asked listed done) s k status s' k') r.2 b
reads_before {S} {K} reads writes limit asked listed done is s ending bytes (read ∷ later) mid ending' bytes' k status s' k' r g =
    let rest = reads_before reads writes limit asked listed done is r.0 r.1 (with_read limit bytes read) later mid ending' bytes' k status s' k' r.6 g in
    record {
      events = Reading read ∷ rest.events;
      went = (r.0, r.4, rest.went);
      follows = (r.2, written_all asked listed Open bytes done is r.3, r.1, r.5, rest.follows);
    }

-- what is written of what is due goes before
writes_before : {S K : Type 0} (reads : S → S → Option (List ℕ) → Type 0) (writes : K → K → Option (List ℕ) → Type 0) (limit : ℕ) (asked : Command) (ending : Ending) (bytes wrote : List ℕ) (s : S) (k : K) (parts : List (List ℕ)) (mid : K) (status : ℕ) (s' : S) (k' : K)
    → IsFront (wrote ++ concat parts) (due asked ending bytes) → WritesOn writes k parts mid → GoesOn reads writes limit asked ending bytes (wrote ++ concat parts) s mid status s' k'
    → GoesOn reads writes limit asked ending bytes wrote s k status s' k'
writes_before {S} {K} reads writes limit asked ending bytes wrote s k [] mid status s' k' front w g =
    let a = subst (λ (m : K). GoesOn reads writes limit asked ending bytes (wrote ++ []) s m status s' k') w g in
    subst (λ (xs : List ℕ). GoesOn reads writes limit asked ending bytes xs s k status s' k') (append-nil wrote) a
writes_before {S} {K} reads writes limit asked ending bytes wrote s k (part ∷ later) mid status s' k' front w g =
    let joined : wrote ++ (part ++ concat later) ≡ (wrote ++ part) ++ concat later = sym (append_assoc wrote part (concat later)) in
    let whole : due asked ending bytes ≡ ((wrote ++ part) ++ concat later) ++ front.0 = front.1 ∙ ap (λ xs. xs ++ front.0) joined in
    let rest = writes_before reads writes limit asked ending bytes (wrote ++ part) s w.0 later mid status s' k' (front.0, whole) w.3
    (subst (λ (xs : List ℕ). GoesOn reads writes limit asked ending bytes xs s mid status s' k') joined g) in
    record {
      events = Writing (Some part) ∷ rest.events;
      went = (w.0, w.2, rest.went);
      follows = (w.1, (concat later ++ front.0, whole ∙ append_assoc (wrote ++ part) (concat later) front.0), rest.follows);
    }

-- a block that is due is written
pub block_before : {S K : Type 0} (reads : S → S → Option (List ℕ) → Type 0) (writes : K → K → Option (List ℕ) → Type 0) (limit : ℕ) (asked : Command) (ending : Ending) (bytes wrote block : List ℕ) (s : S) (k now : K) (status : ℕ) (s' : S) (k' : K)
    → IsFront (wrote ++ block) (due asked ending bytes) → WritesOut writes k now block (Ok tt) → GoesOn reads writes limit asked ending bytes (wrote ++ block) s now status s' k'
    → GoesOn reads writes limit asked ending bytes wrote s k status s' k'
block_before reads writes limit asked ending bytes wrote block s k now status s' k' front w g =
    let whole : wrote ++ block ≡ wrote ++ concat w.0 = ap (λ xs. wrote ++ xs) (sym w.1) in
    writes_before reads writes limit asked ending bytes wrote s k w.0 now status s' k' (subst (λ (xs : List ℕ). IsFront xs (due asked ending bytes)) whole front) w.2
    (subst (λ (xs : List ℕ). GoesOn reads writes limit asked ending bytes xs s now status s' k') whole g)

-- or a write of it fails, and is the last
pub block_fails : {S K : Type 0} (reads : S → S → Option (List ℕ) → Type 0) (writes : K → K → Option (List ℕ) → Type 0) (limit : ℕ) (asked : Command) (ending : Ending) (bytes wrote block : List ℕ) (s : S) (k now : K) (fault : Fault)
    → IsFront (wrote ++ block) (due asked ending bytes) → WritesOut writes k now block (Err fault) → GoesOn reads writes limit asked ending bytes wrote s k 4 s now
block_fails reads writes limit asked ending bytes wrote block s k now fault front w =
    let part = concat w.0 in
    let whole : due asked ending bytes ≡ (wrote ++ part) ++ (w.1 ++ front.0) =
    front.1 ∙ ap (λ b. (wrote ++ b) ++ front.0) (sym w.4) ∙ ap (λ xs. xs ++ front.0) (sym (append_assoc wrote part w.1)) ∙ append_assoc (wrote ++ part) w.1 front.0 in
    let some : 0 < length (w.1 ++ front.0) = (let more = w.3 in omega (arith, length-append w.1 front.0)) in
    writes_before reads writes limit asked ending bytes wrote s k w.0 w.2 4 s now (w.1 ++ front.0, whole) w.5 (record {
      events = Writing None ∷ [];
      went = (now, w.6, (refl, refl));
      follows = ((w.1 ++ front.0, some, whole), refl, refl);
    })

-- the text of one unit more
pub text_more : (asked : Command) (listed : BlockKind) (done : List UnitLines) (u : UnitLines) (place : ℕ) (block : List ℕ) → place ≡ place_after asked.form listed 1 done → unit_block asked.form listed place u ≡ Some block
    → text asked listed (done ++ u ∷ []) ≡ text asked listed done ++ block
text_more asked listed done u place block is made =
    ap concat (blocks_more asked.form listed done u place block is made) ∙ concat-append (unit_blocks asked.form listed 1 done) (block ∷ []) ∙ ap (λ z. text asked listed done ++ z) (append-nil block)

-- memory ran out, when some first units were written
pub short_of : {S K : Type 0} (reads : S → S → Option (List ℕ) → Type 0) (writes : K → K → Option (List ℕ) → Type 0) (limit : ℕ) (asked : Command) (listed : BlockKind) (new : S) (k : K) (ending : Ending) (bytes : List ℕ) (done : List UnitLines)
    → block_kind_in asked.mode ≡ Some listed → Begins (listed_kind listed) ending bytes done → GoesOn reads writes limit asked ending bytes (text asked listed done) new k 6 new k
short_of reads writes limit asked listed new k ending bytes done is b =
    let first = unit_blocks asked.form listed 1 done in
    let later = unit_blocks asked.form listed (place_after asked.form listed 1 done) b.0 in
    let all : blocks asked (reported asked.mode ending bytes) ≡ first ++ later = blocks_begun asked listed ending bytes done b.0 is b.1 in
    let front : take (length first) (blocks asked (reported asked.mode ending bytes)) ≡ first = ap (take (length first)) all ∙ take-append_seam first later in
    record {
      events = [];
      went = (refl, refl);
      follows = inr (refl, length first, ap concat (sym front));
    }

-- what is in order for the command that the words name is so for the words
pub in_order_asked : {S K : Type 0} (reads : S → S → Option (List ℕ) → Type 0) (writes : K → K → Option (List ℕ) → Type 0) (limit : ℕ) (words : Option Command) (asked : Command) (status : ℕ) (s : S) (k : K) (s' : S) (k' : K)
    → words ≡ Some asked → IsInOrder reads writes limit (Some asked) status s k s' k' → IsInOrder reads writes limit words status s k s' k'
in_order_asked reads writes limit words asked status s k s' k' is o = rw is o

-- a command that reads its input
pub in_order_reading : {S K : Type 0} (reads : S → S → Option (List ℕ) → Type 0) (writes : K → K → Option (List ℕ) → Type 0) (limit : ℕ) (asked : Command) (status : ℕ) (s : S) (k : K) (s' : S) (k' : K)
    → reads_input asked.mode ≡ true → GoesOn reads writes limit asked Open [] [] s k status s' k' → IsInOrder reads writes limit (Some asked) status s k s' k'
in_order_reading reads writes limit asked status s k s' k' has g = rw has g

-- one that reads nothing, whose report is one block
pub in_order_made : {S K : Type 0} (reads : S → S → Option (List ℕ) → Type 0) (writes : K → K → Option (List ℕ) → Type 0) (limit : ℕ) (asked : Command) (outcome : Result ℕ WriteFault) (s : S) (k k' : K)
    → reads_input asked.mode ≡ false → WritesMade writes k k' (report asked []) (rejects asked []) outcome → IsInOrder reads writes limit (Some asked) (told_status Whole outcome) s k s k'
in_order_made reads writes limit asked (Ok rejected) s k k' none w =
    rw none (block_before reads writes limit asked Whole [] [] (report asked []) s k k' (written_status Whole rejected) s k' ([], sym (append-nil (report asked []))) w.0
    (record { events = []; went = (refl, refl); follows = inl ((λ e. absurd (cc)), refl, ap (written_status Whole) w.1) }))
in_order_made reads writes limit asked (Err fault.Failed) s k k' none w =
    rw none (block_fails reads writes limit asked Whole [] [] (report asked []) s k k' w.0 ([], sym (append-nil (report asked []))) w.1)
in_order_made reads writes limit asked (Err fault.Memory) s k k' none w =
    rw none (record { events = []; went = (refl, w); follows = inr (refl, 0, refl) })

-- memory ran out before anything was done
pub in_order_short : {S K : Type 0} (reads : S → S → Option (List ℕ) → Type 0) (writes : K → K → Option (List ℕ) → Type 0) (limit : ℕ) (words : Option Command) (s : S) (k : K)
    → IsInOrder reads writes limit words 6 s k s k
in_order_short reads writes limit None s k = ([], (refl, refl), inr (refl, refl))
in_order_short reads writes limit (Some asked) s k = record { events = []; went = (refl, refl); follows = inr (refl, 0, refl) }

-- one read after the other
pub reads_all : {S : Type 0} (reads : S → S → Option (List ℕ) → Type 0) (limit : ℕ) (kind : CutKind) (done : List UnitLines) (s0 : S) (ending0 : Ending) (bytes0 : List ℕ) (first : List (Option (List ℕ))) (old : S) (ending : Ending) (bytes : List ℕ) (made : List (Option (List ℕ))) (new : S) (ending' : Ending) (bytes' : List ℕ)
    → ReadsAll reads limit s0 ending0 bytes0 first old ending bytes → ReadsOn reads limit kind done old ending bytes made new ending' bytes' → ReadsAll reads limit s0 ending0 bytes0 (first ++ made) new ending' bytes'
reads_all reads limit kind done s0 ending0 bytes0 [] old ending bytes [] new ending' bytes' f r = (r.0 ∙ f.0, r.1 ∙ f.1, r.2 ∙ f.2)
reads_all {S} reads limit kind done s0 ending0 bytes0 [] old ending bytes (read ∷ later) new ending' bytes' f r =
    let step = subst (λ (m : S). reads m r.0 read) f.0 r.4 in
    let comes = subst (λ (bs : List ℕ). Comes limit bs read r.1) f.2 r.5 in
    let here : with_read limit bytes read ≡ with_read limit bytes0 read = ap (λ bs. with_read limit bs read) f.2 in
    (r.0, r.1, sym f.1 ∙ r.2, step, comes, reads_all reads limit kind done r.0 r.1 (with_read limit bytes0 read) [] r.0 r.1 (with_read limit bytes read) later new ending' bytes' (refl, refl, here) r.6)
reads_all reads limit kind done s0 ending0 bytes0 (read ∷ first) old ending bytes made new ending' bytes' f r =
    (f.0, f.1, f.2, f.3, f.4, reads_all reads limit kind done f.0 f.1 (with_read limit bytes0 read) first old ending bytes made new ending' bytes' f.5 r)

-- what is read while nothing is due goes before
all_before : {S K : Type 0} (reads : S → S → Option (List ℕ) → Type 0) (writes : K → K → Option (List ℕ) → Type 0) (limit : ℕ) (asked : Command) (waits : has_blocks asked.mode ≡ false)
    (s : S) (ending : Ending) (bytes : List ℕ) (made : List (Option (List ℕ))) (mid : S) (ending' : Ending) (bytes' : List ℕ) (k : K) (status : ℕ) (s' : S) (k' : K)
    → ReadsAll reads limit s ending bytes made mid ending' bytes' → GoesOn reads writes limit asked ending' bytes' [] mid k status s' k'
    → GoesOn reads writes limit asked ending bytes [] s k status s' k'
all_before {S} {K} reads writes limit asked waits s ending bytes [] mid ending' bytes' k status s' k' r g =
    let a = subst (λ (m : S). GoesOn reads writes limit asked ending' bytes' [] m k status s' k') r.0 g in
    let b = subst (λ (e : Ending). GoesOn reads writes limit asked e bytes' [] s k status s' k') r.1 a in
    subst (λ (bs : List ℕ). GoesOn reads writes limit asked ending bs [] s k status s' k') r.2 b
all_before {S} {K} reads writes limit asked waits s ending bytes (read ∷ later) mid ending' bytes' k status s' k' r g =
    let rest = all_before reads writes limit asked waits r.0 r.1 (with_read limit bytes read) later mid ending' bytes' k status s' k' r.5 g in
    let nothing : [] ≡ due asked Open bytes = rw waits refl in
    record {
      events = Reading read ∷ rest.events;
      went = (r.0, r.3, rest.went);
      follows = (r.2, nothing, r.1, r.4, rest.follows);
    }

due_ended : (asked : Command) (ending : Ending) (bytes : List ℕ) → (ending ≡ Open → ⊥) → due asked ending bytes ≡ report asked (reported asked.mode ending bytes)
due_ended asked Whole bytes e = refl
due_ended asked Failed bytes e = refl
due_ended asked TooLong bytes e = refl
due_ended asked Open bytes e = absurd (e refl)

sums_due : {Sums : Type 0} (asked : Command) (sums_of : List UnitLines → Sums) (block : Form → Sums → List ℕ) (rejects : Sums → ℕ) → IsOneBlock asked sums_of block rejects
    → (ending : Ending) (bytes : List ℕ) → (ending ≡ Open → ⊥) → block asked.form (sums_of (units_in Hands (is_whole ending) 1 bytes)) ≡ due asked ending bytes
unfolding report
sums_due asked sums_of block rejects one ending bytes ended =
    sym (append-nil (block asked.form (sums_of (units_in Hands (is_whole ending) 1 bytes))))
    ∙ sym (due_ended asked ending bytes ended ∙ ap concat (one.blocks ending bytes))

-- the block of the sums is written
pub sums_written : {S K Sums : Type 0} (reads : S → S → Option (List ℕ) → Type 0) (writes : K → K → Option (List ℕ) → Type 0) (limit : ℕ) (asked : Command)
    (sums_of : List UnitLines → Sums) (block : Form → Sums → List ℕ) (rejected_in : Sums → ℕ) → IsOneBlock asked sums_of block rejected_in
    → (s new : S) (k now : K) (ending : Ending) (sums : Sums) → (o : SumsInOrder reads sums_of limit s new ending sums (Ok tt))
    → WritesOut writes k now (block asked.form sums) (Ok tt) → GoesOn reads writes limit asked Open [] [] s k (written_status ending (rejected_in sums)) new now
unfolding rejects
sums_written reads writes limit asked sums_of block rejected_in one s new k now ending sums o written =
    let text = block asked.form sums in
    let status = written_status ending (rejected_in sums) in
    let due_is : text ≡ due asked o.behind o.bytes = ap (block asked.form) o.summed.2 ∙ sums_due asked sums_of block rejected_in one o.behind o.bytes o.summed.1 in
    let all : rejects asked (reported asked.mode o.behind o.bytes) ≡ rejected_in sums = one.rejects o.behind o.bytes ∙ ap rejected_in (sym o.summed.2) in
    let same : status ≡ written_status o.behind (rejects asked (reported asked.mode o.behind o.bytes)) = ap (λ (e : Ending). written_status e (rejected_in sums)) o.summed.0 ∙ ap (written_status o.behind) (sym all) in
    all_before reads writes limit asked one.waits s Open [] o.made new o.behind o.bytes k status new now o.order
    (block_before reads writes limit asked o.behind o.bytes [] text new k now status new now ([], sym due_is ∙ sym (append-nil text)) written
    (record { events = []; went = (refl, refl); follows = inl (o.summed.1, due_is, same) }))

-- or its write fails
pub sums_stuck : {S K Sums : Type 0} (reads : S → S → Option (List ℕ) → Type 0) (writes : K → K → Option (List ℕ) → Type 0) (limit : ℕ) (asked : Command)
    (sums_of : List UnitLines → Sums) (block : Form → Sums → List ℕ) (rejected_in : Sums → ℕ) → IsOneBlock asked sums_of block rejected_in
    → (s new : S) (k now : K) (ending : Ending) (sums : Sums) (fault : Fault) → (o : SumsInOrder reads sums_of limit s new ending sums (Ok tt))
    → WritesOut writes k now (block asked.form sums) (Err fault) → GoesOn reads writes limit asked Open [] [] s k 4 new now
sums_stuck reads writes limit asked sums_of block rejected_in one s new k now ending sums fault o written =
    let text = block asked.form sums in
    let due_is : text ≡ due asked o.behind o.bytes = ap (block asked.form) o.summed.2 ∙ sums_due asked sums_of block rejected_in one o.behind o.bytes o.summed.1 in
    all_before reads writes limit asked one.waits s Open [] o.made new o.behind o.bytes k 4 new now o.order
    (block_fails reads writes limit asked o.behind o.bytes [] text new k now fault ([], sym due_is ∙ sym (append-nil text)) written)

-- or memory runs out before
pub sums_unmade : {S K Sums : Type 0} (reads : S → S → Option (List ℕ) → Type 0) (writes : K → K → Option (List ℕ) → Type 0) (limit : ℕ) (asked : Command)
    (sums_of : List UnitLines → Sums) (block : Form → Sums → List ℕ) (rejected_in : Sums → ℕ) → IsOneBlock asked sums_of block rejected_in
    → (s new : S) (k : K) (ending : Ending) (sums : Sums) (result : Result (Unit {0}) Memory)
    → SumsInOrder reads sums_of limit s new ending sums result → GoesOn reads writes limit asked Open [] [] s k 6 new k
sums_unmade reads writes limit asked sums_of block rejected_in one s new k ending sums result o =
    all_before reads writes limit asked one.waits s Open [] o.made new o.behind o.bytes k 6 new k o.order (record { events = []; went = (refl, refl); follows = inr (refl, 0, refl) })
