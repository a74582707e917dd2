use Rattle.std.proofs.Common.{◌≡◌, refl, true, false, arith}
use Rattle.hand_cuts.proofs.LineParts.{line_at}
use Rattle.hand_cuts.proofs.LineScans.{line_out, line_out_last, line_open, line_none}
use Rattle.hand_cuts.proofs.lines.cut_line.Goals as goal
use Rattle.hand_cuts.proofs.lines.cut_line.Goals.{then-not-closed-via-then-not-closed, then-not-closed-via-else-not-closed+then-scan-bytes}

pub returns-in-Some-clause-some : goal.returns-in-Some-clause-some
returns-in-Some-clause-some c =
    let bytes = c.args.bytes.now in
    let s = c.args.scan.now in
    rw (c.go_on.ensures, c.pass.ensures) (line_out c.args.closed bytes s c.in-Some.next _ c.requires.scan c.requires.none (line_at bytes s.looked c.in-Some.next c.in-Some.ensures))

pub returns-then-not-closed-clause-none : goal.returns-then-not-closed-clause-none
returns-then-not-closed-clause-none c =
    let bytes = c.args.bytes.now in
    let s = c.args.scan.now in
    record {
      none = elim c.then-not-closed.branch [
        | then-not-closed-via-then-not-closed w ↦ (let e : c.args.closed ≡ false = w.if-not-closed.true in rw e (line_open bytes s c.requires.none c.in_default.ensures))
        | then-not-closed-via-else-not-closed+then-scan-bytes w ↦ line_none c.args.closed bytes s c.requires.none w.if-scan-bytes.true
      ];
      at = refl;
      line = refl;
    }

pub returns-clause-some : goal.returns-clause-some
returns-clause-some c =
    let bytes = c.args.bytes.now in
    let s = c.args.scan.now in
    let e : c.args.closed ≡ true = c.if-not-closed.false in
    rw (c.finish.ensures, e) (line_out_last bytes s c.requires.scan c.requires.none c.in_default.ensures (let a = c.requires.scan.ahead in let w = c.requires.scan.within in let n = c.if-scan-bytes.false in omega arith))
