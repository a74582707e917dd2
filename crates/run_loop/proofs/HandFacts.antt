-- What is written of a hand, part by part.
use Rattle.std.proofs.Common.{◌≡◌, ℕ, Bool, true, false, if◌then◌else◌, List, [], ◌++◌, Some, refl, ap, sym, ◌∙◌, append_assoc}
use Rattle.std.specs.List.{flat_map}
use Rattle.hand_audit.specs.Streets.{states_in, streets_of}
use Rattle.hand_verdict.specs.declared.streets.StreetState.{StreetState}
use Rattle.hand_verdict.specs.declared.verdicts.HandAudit.TheVariants.{Rejected, Accepted}
use Rattle.hand_verdict.specs.declared.verdicts.HandAudit.{HandAudit}
use Rattle.hand_cuts.specs.Units.{UnitLines}
use Rattle.hand_blocks.specs.HandEquities.{hand_block as audit_block}
use Rattle.hand_blocks.specs.Streets.{has_counted, street_block, street_blocks}
use Rattle.report_sheet.specs.declared.form.Form.{Form}
use Rattle.run_loop.specs.Histories.{block_by, hand_block, number_text, verdict_of, verdict_told}
use Rattle.run_loop.specs.declared.block_kinds.Detail.TheVariants.{AllIn, LaterStreets, Verdict}

-- a hand whose all-in isn't counted has no street after it
pub streets_none : (form : Form) (audit : HandAudit) (states : List StreetState) → has_counted audit ≡ false → [] ≡ street_blocks form audit states
unfolding street_blocks
streets_none form audit states none = sym (ap (λ (b : Bool). if b then flat_map (street_block form audit) states else []) none)

-- and one whose all-in is counted has each
pub streets_some : (form : Form) (audit : HandAudit) (states : List StreetState) → has_counted audit ≡ true →
    flat_map (street_block form audit) states ≡ street_blocks form audit states
unfolding street_blocks
streets_some form audit states some = sym (ap (λ (b : Bool). if b then flat_map (street_block form audit) states else []) some)

-- the later streets of a verdict are written as those of the hand's lines: of a rejected hand there are none either way
streets_by_lines : (form : Form) (audit : HandAudit) (lines : List (List ℕ)) →
    street_blocks form audit (streets_of audit lines) ≡ street_blocks form audit (states_in lines)
unfolding street_blocks
streets_by_lines form (Rejected line cause hundredths) lines = refl
streets_by_lines form (Accepted settlement all_in names players) lines = refl

-- the verdict on a hand, with or without the equity of its all-in, is a block of the hand
pub verdict_lines : (form : Form) (asked : Bool) (hand : UnitLines) (audit : HandAudit) → verdict_of hand ≡ Some audit
    → audit_block form asked (number_text hand.lines) audit ≡ hand_block form (verdict_told asked) hand
unfolding hand_block
verdict_lines form true hand audit verdict = ap (block_by form AllIn hand) (sym verdict)
verdict_lines form false hand audit verdict = ap (block_by form Verdict hand) (sym verdict)

-- and so are the verdict with the equity and what is told of each later street
pub street_lines : (form : Form) (hand : UnitLines) (audit : HandAudit) (states : List StreetState) (items : List ℕ) → verdict_of hand ≡ Some audit → states ≡ streets_of audit hand.lines
    → (items ++ audit_block form true (number_text hand.lines) audit) ++ street_blocks form audit states ≡ items ++ hand_block form LaterStreets hand
unfolding hand_block
street_lines form hand audit states items verdict same =
    let first = audit_block form true (number_text hand.lines) audit in
    ap (λ ss. (items ++ first) ++ street_blocks form audit ss) same
    ∙ ap (λ later. (items ++ first) ++ later) (streets_by_lines form audit hand.lines)
    ∙ append_assoc items first (street_blocks form audit (states_in hand.lines))
    ∙ ap (λ v. items ++ block_by form LaterStreets hand v) (sym verdict)
