use Rattle.hand_cuts.proofs.ScanSteps.{head_found, no_head}
use Rattle.hand_cuts.proofs.hands.find_head.Goals as goal

pub returns-clause-scan : goal.returns-clause-scan
returns-clause-scan c =
    head_found c.args.bytes.now c.args.scan.now c.next_head-scan.new.scan c.next_head-scan.result (no_head c.args.scan.now.head c.if-is_some.ensures)
    c.next_head-scan.ensures.none c.next_head-scan.ensures.some
