use Rattle.hand_cuts.proofs.ScanSteps.{begin_head}
use Rattle.hand_cuts.proofs.HandScans.{hands_out_found}
use Rattle.hand_cuts.proofs.hands.cut_hand.Goals as goal

pub returns-clause-scan : goal.returns-clause-scan
returns-clause-scan c = rw c.begin.ensures (begin_head c.args.bytes.now c.find_head.new.scan c.next_head.new.scan c.in-Some-next_head.next c.in-Some-next_head.ensures.some)

pub returns-clause-some : goal.returns-clause-some
returns-clause-some c =
    rw c.begin.ensures (hands_out_found c.args.closed c.args.bytes.now c.args.scan.now c.find_head.new.scan c.next_head.new.scan c.in-Some.head c.in-Some-next_head.next
    c.find_head.ensures.head.at c.find_head.ensures.head.line c.in-Some.is c.in-Some-next_head.ensures.some)
