use Rattle.std.proofs.Common.{◌≡◌, refl, drop, true, false, arith}
use Rattle.history_text.specs.Headers.{is_header}
use Rattle.line_text.specs.Lines.{text_of, front_line}
use Rattle.hand_cuts.proofs.LineParts.{line_at}
use Rattle.hand_cuts.proofs.ScanSteps.{fewer_passed, pass_other, read_text}
use Rattle.hand_cuts.proofs.hands.next_head.Goals as goal

pub returns-then-is_head-clause-some : goal.returns-then-is_head-clause-some
returns-then-is_head-clause-some c =
    let s = c.lines.scan in
    let bytes = c.args.bytes.now in
    record {
      between = s;
      scan = c.lines.invariant.scan;
      at = c.lines.invariant.at;
      line = c.lines.invariant.line;
      same = c.lines.invariant.head;
      here = refl;
      next = c.in-Some.next;
      text = text_of (front_line (drop s.looked bytes));
      found = line_at bytes s.looked c.in-Some.next c.in-Some.ensures;
      header = read_text bytes _ s.looked c.in-Some.next true c.in-Some.ensures refl c.if-is_head.ensures;
      after = c.pass.ensures;
    }

pub lines-preserved : goal.lines-preserved
lines-preserved c =
    let s = c.lines.scan in
    let bytes = c.args.bytes.now in
    let line = line_at bytes s.looked c.in-Some.next c.in-Some.ensures in
    let other : is_header (text_of (front_line (drop s.looked bytes))) ≡ false = read_text bytes _ s.looked c.in-Some.next false c.in-Some.ensures refl c.if-is_head.ensures in
    let step = fewer_passed bytes s c.in-Some.next _ line in
    let so_far = c.lines.invariant.fewer in
    rw c.pass.ensures (record {
      scan = pass_other bytes s c.in-Some.next _ c.lines.invariant.scan line other;
      at = c.lines.invariant.at;
      line = c.lines.invariant.line;
      head = c.lines.invariant.head;
      fewer = omega arith;
    })
