use Rattle.std.proofs.Common.{◌≡◌, refl, drop, true, false, arith}
use Rattle.history_text.specs.Headers.{is_header}
use Rattle.line_text.specs.Lines.{text_of}
use Rattle.hand_cuts.proofs.ScanSteps.{head_of, none_left, read_last, scan_goes_on}
use Rattle.hand_cuts.proofs.HandScans.{hands_out_later, none_open}
use Rattle.hand_cuts.proofs.LastHands.{begins_last, hands_out_last, hands_out_only, none_whole}
use Rattle.hand_cuts.proofs.hands.last_hand.Goals as goal

pub returns-then-not-closed-clause-none : goal.returns-then-not-closed-clause-none
returns-then-not-closed-clause-none c =
    let bytes = c.args.bytes.now in
    let s = c.args.scan.now in
    let e : c.args.closed ≡ false = c.if-not-closed.true in
    record { none = rw e (none_open bytes s c.requires.scan (none_left bytes s c.requires.scan c.requires.all)); at = refl; line = refl }

pub returns-in_default-clause-some : goal.returns-in_default-clause-some
returns-in_default-clause-some c =
    let bytes = c.args.bytes.now in
    let s = c.args.scan.now in
    let e : c.args.closed ≡ true = c.if-not-closed.false in
    let none = none_left bytes s c.requires.scan c.requires.all in
    let header : is_header (text_of (drop s.looked bytes)) ≡ true = read_last bytes c.text_of.result.now s.looked true c.text_of.ensures c.if-is_header.ensures in
    rw (c.finish.ensures, e) (hands_out_only bytes s c.requires.scan c.in_default.is none header)

pub returns-then-is_header-clause-scan : goal.returns-then-is_header-clause-scan
returns-then-is_header-clause-scan c = rw c.go_on.ensures (scan_goes_on c.args.bytes.now c.args.scan.now c.requires.scan)

pub returns-then-is_header-clause-some : goal.returns-then-is_header-clause-some
returns-then-is_header-clause-some c =
    let bytes = c.args.bytes.now in
    let s = c.args.scan.now in
    let scan = c.requires.scan in
    let e : c.args.closed ≡ true = c.if-not-closed.false in
    let none = none_left bytes s scan c.requires.all in
    let header : is_header (text_of (drop s.looked bytes)) ≡ true = read_last bytes c.text_of.result.now s.looked true c.text_of.ensures c.if-is_header.ensures in
    let head = head_of bytes s.at s.line s.looked s.head c.in-Some.head c.in-Some.is scan.head in
    rw (c.go_on.ensures, e) (hands_out_later true bytes s _ _ c.in-Some.head _ scan.counted (let a = scan.ahead in let w = scan.within in omega arith) head
    (begins_last bytes s.looked none header) header refl refl refl)

pub returns-in_default-head-clause-none : goal.returns-in_default-head-clause-none
returns-in_default-head-clause-none c =
    let bytes = c.args.bytes.now in
    let s = c.args.scan.now in
    let e : c.args.closed ≡ true = c.if-not-closed.false in
    let none = none_left bytes s c.requires.scan c.requires.all in
    let other : is_header (text_of (drop s.looked bytes)) ≡ false = read_last bytes c.text_of.result.now s.looked false c.text_of.ensures c.if-is_header.ensures in
    record { none = rw e (none_whole bytes s c.requires.scan c.in_default-head.is none other); at = refl; line = refl }

pub returns-clause-some : goal.returns-clause-some
returns-clause-some c =
    let bytes = c.args.bytes.now in
    let s = c.args.scan.now in
    let e : c.args.closed ≡ true = c.if-not-closed.false in
    let none = none_left bytes s c.requires.scan c.requires.all in
    let other : is_header (text_of (drop s.looked bytes)) ≡ false = read_last bytes c.text_of.result.now s.looked false c.text_of.ensures c.if-is_header.ensures in
    let head = head_of bytes s.at s.line s.looked s.head c.in-Some-head.head c.in-Some-head.is c.requires.scan.head in
    rw (c.finish-2.ensures, e) (hands_out_last bytes s c.in-Some-head.head c.requires.scan head none other)
