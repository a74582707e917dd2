use Rattle.std.proofs.Common.{◌∙◌, sym, subst}
use Rattle.std.specs.Prelude.{slice_range, drop}
use Rattle.line_text.specs.Lines.{lines}
use Rattle.hand_audit.specs.Keeping.{Follows}
use Rattle.hand_audit.specs.Lines.{nothing}
use Rattle.hand_audit.specs.Verdict.{read_all}
use Rattle.hand_audit.proofs.lemmas.chips.TableChips.{within_kept}
use Rattle.hand_audit.proofs.lemmas.lines.ReadHands.{read_departs, read_ends, read_fault}
use Rattle.hand_audit.proofs.read.read_hand.Goals as goal

pub returns-in-Err : goal.returns-in-Err
returns-in-Err c =
    let text = slice_range c.args.bytes.now c.in-Some.head.first c.in-Some.head.end in
    record { read = read_fault (lines c.args.bytes.now) text (lines (drop c.in-Some.head.next c.args.bytes.now)) c.in-Err.fault c.in-Some.ensures.texts (sym c.read_header.ensures ∙ c.in-Err.is) }

pub returns-in-Departs : goal.returns-in-Departs
returns-in-Departs c =
    let text = slice_range c.args.bytes.now c.in-Some.head.first c.in-Some.head.end in
    let rest = lines (drop c.in-Some.head.next c.args.bytes.now) in
    let g = c.in-Ok.header in
    let players = c.in_ok-found.found.players in
    let follows = subst (Follows g players rest) c.in-Departs.is c.in_ok-count.ensures in
    record { read = read_departs (lines c.args.bytes.now) text rest g players c.in-Departs.count c.in-Departs.cause c.in-Some.ensures.texts (sym c.read_header.ensures ∙ c.in-Ok.is) c.in_ok-found.ensures.players follows }

pub invariant_of-result : goal.invariant_of-result
invariant_of-result c =
    let rest = lines (drop c.in-Some.head.next c.args.bytes.now) in
    let g = c.in-Ok.header in
    let players = c.in_ok-found.found.players in
    let ends = subst (Follows g players rest) c.in-Ends.is c.in_ok-count.ensures in
    record { within = within_kept c.in-Ends.state.value g players (read_all g nothing rest) ends.2 }

pub returns-in-Ends : goal.returns-in-Ends
returns-in-Ends c =
    let text = slice_range c.args.bytes.now c.in-Some.head.first c.in-Some.head.end in
    let rest = lines (drop c.in-Some.head.next c.args.bytes.now) in
    let g = c.in-Ok.header in
    let players = c.in_ok-found.found.players in
    let ends = subst (Follows g players rest) c.in-Ends.is c.in_ok-count.ensures in
    record { read = read_ends (lines c.args.bytes.now) text rest c.in-Ends.count _ c.in-Some.ensures.texts (sym c.read_header.ensures ∙ c.in-Ok.is) c.in_ok-found.ensures.players ends }
