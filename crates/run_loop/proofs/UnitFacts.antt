-- The blocks of some units, and that they are the blocks of the bytes that the units are cut from.
use Rattle.std.proofs.Common.{◌≡◌, ℕ, ◌+◌, true, false, cond, List, [], ◌∷◌, ◌++◌, map, Option, Some, None, refl, sym, ap, ◌∙◌, arith}
use Rattle.std.specs.Prelude.{count_by}
use Rattle.std.proofs.lemmas.List.Sums.{sum_by-append, sum_by-cons}
use Rattle.hand_cuts.specs.ClosedBytes.{closed_hands}
use Rattle.hand_cuts.specs.Units.{UnitLines, each_from, hands_from, units_in}
use Rattle.hand_cuts.specs.declared.units.CutKind.TheVariants as cut
use Rattle.hand_cuts.proofs.CallerLemmas.{closed_hands_by_bytes}
use Rattle.line_text.specs.Lines.{lines, closed as closed_lines}
use Rattle.report_sheet.specs.declared.form.Form.{Form}
use Rattle.run_loop.specs.Closed.{closed, closed_by, closed_units}
use Rattle.run_loop.specs.Histories.{hand_block, is_rejected_hand}
use Rattle.run_loop.specs.Laws.{has_blocks}
use Rattle.run_loop.specs.Plans.{listed_in, plan_of}
use Rattle.run_loop.specs.Reading.{reported}
use Rattle.run_loop.specs.Report.{blocks_by, blocks_in, blocks_of, is_rejected_spot, line_block, rejected_of, rejects_by, rejects_in, spots_from}
use Rattle.run_loop.specs.UnitBlocks.{before, is_rejected_unit, block_kind_in, listed_kind, place_after, place_behind, rejected_units, unit_block, unit_blocks}
use Rattle.run_loop.specs.Units.{is_whole}
use Rattle.run_loop.specs.Writing.{one_if}
use Rattle.command_words.specs.declared.command.Command.{Command}
use Rattle.command_words.specs.declared.command.Mode.{Mode}
use Rattle.command_words.specs.declared.command.Mode.TheVariants as mode
use Rattle.run_loop.specs.declared.block_kinds.SpotKind.{SpotKind}
use Rattle.run_loop.specs.declared.block_kinds.Detail.{Detail}
use Rattle.run_loop.specs.declared.block_kinds.BlockKind.{BlockKind}
use Rattle.run_loop.specs.declared.block_kinds.BlockKind.TheVariants.{Spots, Hands}
use Rattle.run_loop.specs.declared.plans.Prints.TheVariants.{Blocks, Sums}
use Rattle.run_loop.specs.declared.plans.Plan.{Plan}
use Rattle.run_loop.specs.declared.plans.Plan.TheVariants.{Makes, Reads}
use Rattle.run_loop.specs.declared.reading.Ending.{Ending}
use Rattle.run_loop.specs.declared.reading.Ending.TheVariants.{Whole, Failed, TooLong, Open}
use Rattle.spot_text.specs.Words.{is_blank}

-- the blocks of some units come first where more follow
before-append : (block : Option (List ℕ)) (xs ys : List (List ℕ)) → before block (xs ++ ys) ≡ before block xs ++ ys
before-append None xs ys = refl
before-append (Some block) xs ys = refl

pub blocks-append : (form : Form) (listed : BlockKind) (place : ℕ) (us vs : List UnitLines)
    → unit_blocks form listed place (us ++ vs) ≡ unit_blocks form listed place us ++ unit_blocks form listed (place_after form listed place us) vs
blocks-append form listed place [] vs = refl
blocks-append form listed place (u ∷ us) vs =
    let block = unit_block form listed place u in
    ap (before block) (blocks-append form listed (place_behind place block) us vs)
    ∙ before-append block (unit_blocks form listed (place_behind place block) us) (unit_blocks form listed (place_after form listed (place_behind place block) us) vs)

pub place-more : (form : Form) (listed : BlockKind) (place : ℕ) (us : List UnitLines) (u : UnitLines)
    → place_after form listed place (us ++ u ∷ []) ≡ place_behind (place_after form listed place us) (unit_block form listed (place_after form listed place us) u)
place-more form listed place [] u = refl
place-more form listed place (v ∷ us) u = place-more form listed (place_behind place (unit_block form listed place v)) us u

pub rejected-more : (listed : BlockKind) (us : List UnitLines) (u : UnitLines) → rejected_units listed (us ++ u ∷ []) ≡ rejected_units listed us + one_if (is_rejected_unit listed u)
rejected-more listed us u =
    let one = sum_by-cons (λ v. cond (is_rejected_unit listed v) 1 0) u [] in
    sum_by-append (λ v. cond (is_rejected_unit listed v) 1 0) us (u ∷ []) ∙ (let e : rejected_units listed us + rejected_units listed (u ∷ []) ≡ rejected_units listed us + one_if (is_rejected_unit listed u) = omega (arith, one) in e)

-- the blocks of lines, one by one
spots_units : (form : Form) (has : SpotKind) (place number : ℕ) (ls : List (List ℕ)) → unit_blocks form (Spots has) place (each_from number ls) ≡ spots_from form has place number ls
spots_units form has place number [] = refl
spots_units form has place number (l ∷ ls) =
    let block = line_block form has place number l in
    elim (is_blank l) as (λ b. before (cond b None (Some block)) (unit_blocks form (Spots has) (place_behind place (cond b None (Some block))) (each_from (number + 1) ls))
    ≡ cond b (spots_from form has place (number + 1) ls) (block ∷ spots_from form has (place + 1) (number + 1) ls)) [
      | true ↦ spots_units form has place (number + 1) ls
      | false ↦ ap (λ bs. block ∷ bs) (spots_units form has (place + 1) (number + 1) ls)
    ]

rejected_lines : (has : SpotKind) (number : ℕ) (ls : List (List ℕ)) → rejected_units (Spots has) (each_from number ls) ≡ count_by (is_rejected_spot has) ls
rejected_lines has number [] = refl
rejected_lines has number (l ∷ ls) =
    let u : UnitLines = record { first = number; lines = l ∷ [] } in
    sum_by-cons (λ v. cond (is_rejected_unit (Spots has) v) 1 0) u (each_from (number + 1) ls)
    ∙ ap (λ n. cond (is_rejected_spot has l) 1 0 + n) (rejected_lines has (number + 1) ls)
    ∙ sym (sum_by-cons (λ x. cond (is_rejected_spot has x) 1 0) l ls)

-- and of hands
hands_units : (form : Form) (told : Detail) (place : ℕ) (us : List UnitLines) → unit_blocks form (Hands told) place us ≡ map (hand_block form told) us
hands_units form told place [] = refl
hands_units form told place (u ∷ us) = ap (λ bs. hand_block form told u ∷ bs) (hands_units form told (place + 1) us)

rejected_all : (told : Detail) (us : List UnitLines) → rejected_units (Hands told) us ≡ count_by is_rejected_hand us
rejected_all told [] = refl
rejected_all told (u ∷ us) =
    sum_by-cons (λ v. cond (is_rejected_unit (Hands told) v) 1 0) u us
    ∙ ap (λ n. cond (is_rejected_hand u) 1 0 + n) (rejected_all told us)
    ∙ sym (sum_by-cons (λ x. cond (is_rejected_hand x) 1 0) u us)

-- the units of what is reported
pub hands_reported : (m : Mode) (ending : Ending) (bytes : List ℕ) → closed m bytes ≡ closed_hands bytes → units_in cut.Hands (is_whole ending) 1 bytes ≡ hands_from 1 (lines (reported m ending bytes))
unfolding units_in
hands_reported m Whole bytes e = refl
hands_reported m Failed bytes e = closed_hands_by_bytes 1 bytes ∙ ap (λ xs. hands_from 1 (lines xs)) (sym e)
hands_reported m TooLong bytes e = closed_hands_by_bytes 1 bytes ∙ ap (λ xs. hands_from 1 (lines xs)) (sym e)
hands_reported m Open bytes e = closed_hands_by_bytes 1 bytes ∙ ap (λ xs. hands_from 1 (lines xs)) (sym e)

lines_reported : (m : Mode) (ending : Ending) (bytes : List ℕ) → closed m bytes ≡ closed_lines bytes → units_in cut.Lines (is_whole ending) 1 bytes ≡ each_from 1 (lines (reported m ending bytes))
unfolding units_in
lines_reported m Whole bytes e = refl
lines_reported m Failed bytes e = ap (λ xs. each_from 1 (lines xs)) (sym e)
lines_reported m TooLong bytes e = ap (λ xs. each_from 1 (lines xs)) (sym e)
lines_reported m Open bytes e = ap (λ xs. each_from 1 (lines xs)) (sym e)

some_same : (a b : BlockKind) → Some a ≡ Some b → a ≡ b
some_same a b e = cc

none_some : {P : Type 0} (a : BlockKind) → (let n : Option BlockKind = None in n) ≡ Some a → P
none_some a e = absurd (cc)

-- a plan that prints blocks of a kind
listed_plan : (p : Plan) (listed : BlockKind) → listed_in p ≡ Some listed → p ≡ Reads (Blocks listed)
listed_plan (Reads (Blocks kind)) listed e = ap (λ (k : BlockKind). Reads (Blocks k)) (some_same kind listed e)
listed_plan (Reads (Sums kind)) listed e = none_some listed e
listed_plan Makes listed e = none_some listed e

-- the blocks of what is reported are those of its units
units_blocks : (form : Form) (m : Mode) (listed : BlockKind) (ending : Ending) (bytes : List ℕ) → closed m bytes ≡ closed_units (listed_kind listed) bytes
    → unit_blocks form listed 1 (units_in (listed_kind listed) (is_whole ending) 1 bytes) ≡ blocks_of listed form (reported m ending bytes)
units_blocks form m (Spots has) ending bytes is = ap (unit_blocks form (Spots has) 1) (lines_reported m ending bytes is) ∙ spots_units form has 1 1 (lines (reported m ending bytes))
units_blocks form m (Hands told) ending bytes is =
    ap (unit_blocks form (Hands told) 1) (hands_reported m ending bytes is) ∙ hands_units form told 1 (hands_from 1 (lines (reported m ending bytes)))

pub blocks_by_units : (asked : Command) (m : Mode) (listed : BlockKind) (ending : Ending) (bytes : List ℕ) → block_kind_in m ≡ Some listed
    → blocks_in m asked (reported m ending bytes) ≡ unit_blocks asked.form listed 1 (units_in (listed_kind listed) (is_whole ending) 1 bytes)
blocks_by_units asked m listed ending bytes e =
    let plan = listed_plan (plan_of m) listed e in
    ap (λ (p : Plan). blocks_by p asked (reported m ending bytes)) plan ∙ sym (units_blocks asked.form m listed ending bytes (ap (λ (p : Plan). closed_by p bytes) plan))

units_rejected : (m : Mode) (listed : BlockKind) (ending : Ending) (bytes : List ℕ) → closed m bytes ≡ closed_units (listed_kind listed) bytes
    → rejected_units listed (units_in (listed_kind listed) (is_whole ending) 1 bytes) ≡ rejected_of listed (reported m ending bytes)
units_rejected m (Spots has) ending bytes is = ap (rejected_units (Spots has)) (lines_reported m ending bytes is) ∙ rejected_lines has 1 (lines (reported m ending bytes))
units_rejected m (Hands told) ending bytes is = ap (rejected_units (Hands told)) (hands_reported m ending bytes is) ∙ rejected_all told (hands_from 1 (lines (reported m ending bytes)))

pub rejects_by_units : (asked : Command) (m : Mode) (listed : BlockKind) (ending : Ending) (bytes : List ℕ) → block_kind_in m ≡ Some listed
    → rejects_in m asked (reported m ending bytes) ≡ rejected_units listed (units_in (listed_kind listed) (is_whole ending) 1 bytes)
rejects_by_units asked m listed ending bytes e =
    let plan = listed_plan (plan_of m) listed e in
    ap (λ (p : Plan). rejects_by p asked (reported m ending bytes)) plan ∙ sym (units_rejected m listed ending bytes (ap (λ (p : Plan). closed_by p bytes) plan))

-- a mode in which something has a block each
pub listed_blocks : (m : Mode) (listed : BlockKind) → block_kind_in m ≡ Some listed → has_blocks m ≡ true
listed_blocks mode.Spots listed e = refl
listed_blocks mode.Ranges listed e = refl
listed_blocks mode.Check listed e = refl
listed_blocks mode.Audit listed e = refl
listed_blocks mode.Streets listed e = refl
listed_blocks mode.Results listed e = refl
listed_blocks mode.Settle listed e = refl
listed_blocks mode.Totals listed e = none_some listed e
listed_blocks mode.Balance listed e = none_some listed e
listed_blocks mode.Made listed e = none_some listed e
