use Rattle.std.proofs.Common.{◌≡◌, ◌∷◌, List, refl, sym, subst, arith, length, ap}
use Rattle.std.specs.Prelude.{Option, Result, slice_range, drop}
use Rattle.line_text.specs.Lines.{lines}
use Rattle.hand_events.specs.declared.events.Event.{Event}
use Rattle.hand_events.specs.declared.events.TextFault.{TextFault}
use Rattle.hand_verdict.specs.declared.cause.Cause.{Cause}
use Rattle.hand_audit.specs.Keeping.{Goes}
use Rattle.hand_audit.specs.Lines.{read_at}
use Rattle.hand_audit.proofs.lemmas.lines.FollowWalk.{AmongReads, going_departs, reads_none, next_read, next_is_said, reads_on, others_none, none_counted, other_is_said, others_on}
use Rattle.hand_audit.proofs.follow.follow.Goals as goal

pub reads-init : goal.reads-init
reads-init c = record {
  sound = c.new-state.ensures.sound;
  among = subst (λ (xs : List (Result Event TextFault)). AmongReads c.new-state.result c.args.header.now c.args.found.players (lines (drop c.args.start c.args.bytes.now)) c.args.bytes.now xs c.args.found.names c.args.found.read.next 0) (sym c.as_slice-left.ensures.value)
      (reads_none c.new-state.result c.args.header.now c.args.found.players c.args.bytes.now c.args.start c.args.found.read.said.items c.args.found.names c.args.found.read.next c.new-state.ensures.keeps c.requires);
}

pub overflow_add-count : goal.overflow_add-count
overflow_add-count c =
    let r = next_read c.reads.state c.args.header.now c.args.found.players (lines (drop c.args.start c.args.bytes.now)) c.args.bytes.now c.in-Some.said.now c.in-Some.others.now c.args.found.names c.args.found.read.next c.reads.count
    (subst (λ (xs : List (Result Event TextFault)). AmongReads c.reads.state c.args.header.now c.args.found.players (lines (drop c.args.start c.args.bytes.now)) c.args.bytes.now xs c.args.found.names c.args.found.read.next c.reads.count) c.in-Some.ensures.cases.0 c.reads.invariant.among) in
    let f = r.few in let w = c.requires.within in omega (arith, f, w)

pub take_read-requires-clause-said : goal.take_read-requires-clause-said
take_read-requires-clause-said c =
    (next_read c.reads.state c.args.header.now c.args.found.players (lines (drop c.args.start c.args.bytes.now)) c.args.bytes.now c.in-Some.said.now c.in-Some.others.now c.args.found.names c.args.found.read.next c.reads.count
    (subst (λ (xs : List (Result Event TextFault)). AmongReads c.reads.state c.args.header.now c.args.found.players (lines (drop c.args.start c.args.bytes.now)) c.args.bytes.now xs c.args.found.names c.args.found.read.next c.reads.count) c.in-Some.ensures.cases.0 c.reads.invariant.among)).ahead.0.is

pub returns-in-Some-2 : goal.returns-in-Some-2
returns-in-Some-2 c =
    let r = next_read c.reads.state c.args.header.now c.args.found.players (lines (drop c.args.start c.args.bytes.now)) c.args.bytes.now c.in-Some.said.now c.in-Some.others.now c.args.found.names c.args.found.read.next c.reads.count
    (subst (λ (xs : List (Result Event TextFault)). AmongReads c.reads.state c.args.header.now c.args.found.players (lines (drop c.args.start c.args.bytes.now)) c.args.bytes.now xs c.args.found.names c.args.found.read.next c.reads.count) c.in-Some.ensures.cases.0 c.reads.invariant.among) in
    going_departs c.reads.state c.take_read.new.self c.args.header.now c.args.found.players (lines (drop c.args.start c.args.bytes.now)) r.line r.left (r.line ∷ r.left) c.reads.count c.in-Some-2.cause r.going refl r.counted
    (subst (λ (o : Option Cause). Goes c.take_read.new.self c.args.header.now c.args.found.players r.going.so_far r.line (read_at c.args.header.now r.going.so_far r.line) o) c.in-Some-2.is
    (c.in_ok-cause.ensures.goes c.args.found.players r.going.so_far r.line r.going.keeps (next_is_said c.reads.state c.args.header.now c.args.found.players (lines (drop c.args.start c.args.bytes.now)) c.args.bytes.now c.in-Some.said.now c.in-Some.others.now c.args.found.names c.args.found.read.next c.reads.count r)))

pub reads-preserved : goal.reads-preserved
reads-preserved c =
    let r = next_read c.reads.state c.args.header.now c.args.found.players (lines (drop c.args.start c.args.bytes.now)) c.args.bytes.now c.in-Some.said.now c.in-Some.others.now c.args.found.names c.args.found.read.next c.reads.count
    (subst (λ (xs : List (Result Event TextFault)). AmongReads c.reads.state c.args.header.now c.args.found.players (lines (drop c.args.start c.args.bytes.now)) c.args.bytes.now xs c.args.found.names c.args.found.read.next c.reads.count) c.in-Some.ensures.cases.0 c.reads.invariant.among) in
    record {
      sound = c.in_ok-cause.ensures.sound;
      among = reads_on c.reads.state c.take_read.new.self c.args.header.now c.args.found.players (lines (drop c.args.start c.args.bytes.now)) c.args.bytes.now c.in-Some.said.now c.in-Some.others.now c.args.found.names c.args.found.read.next c.reads.count r
          (subst (λ (o : Option Cause). Goes c.take_read.new.self c.args.header.now c.args.found.players r.going.so_far r.line (read_at c.args.header.now r.going.so_far r.line) o) c.in_default-2.is
          (c.in_ok-cause.ensures.goes c.args.found.players r.going.so_far r.line r.going.keeps (next_is_said c.reads.state c.args.header.now c.args.found.players (lines (drop c.args.start c.args.bytes.now)) c.args.bytes.now c.in-Some.said.now c.in-Some.others.now c.args.found.names c.args.found.read.next c.reads.count r)));
    }

pub lines-init : goal.lines-init
lines-init c =
    let n = none_counted c.reads.state c.args.header.now c.args.found.players (lines (drop c.args.start c.args.bytes.now)) c.args.bytes.now c.reads.left.now c.args.found.names c.args.found.read.next c.reads.count c.reads.invariant.among c.in_default.ensures.cases in
    record {
      within = c.requires.within;
      few = n.0;
      counted = n.1;
      sound = c.reads.invariant.sound;
      among = others_none c.reads.state c.args.header.now c.args.found.players (lines (drop c.args.start c.args.bytes.now)) c.args.bytes.now c.reads.left.now c.args.found.names c.args.found.read.next c.reads.count c.reads.invariant.among c.in_default.ensures.cases;
    }

pub returns-in-Some-3 : goal.returns-in-Some-3
returns-in-Some-3 c =
    let all = lines (drop c.args.start c.args.bytes.now) in
    let line = c.in-Some-next_line.line in
    let text = slice_range c.args.bytes.now line.first line.end in
    let left = lines (drop c.lines.at c.args.bytes.now) in
    let r = c.lines.invariant.among in
    going_departs c.lines.state c.take_read-in-Some-next_line.new.self c.args.header.now c.args.found.players all text (lines (drop line.next c.args.bytes.now)) left c.lines.count c.in-Some-3.cause r.going c.in-Some-next_line.ensures.texts
    c.lines.invariant.counted
    (subst (λ (o : Option Cause). Goes c.take_read-in-Some-next_line.new.self c.args.header.now c.args.found.players r.going.so_far text (read_at c.args.header.now r.going.so_far text) o) c.in-Some-3.is
    (c.in_ok-cause-2.ensures.goes c.args.found.players r.going.so_far text r.going.keeps (other_is_said c.lines.state c.args.header.now c.args.found.players all left c.lines.names c.lines.count text c.read-said.result r c.read-said.ensures)))

pub lines-preserved : goal.lines-preserved
lines-preserved c =
    let all = lines (drop c.args.start c.args.bytes.now) in
    let line = c.in-Some-next_line.line in
    let text = slice_range c.args.bytes.now line.first line.end in
    let left = lines (drop c.lines.at c.args.bytes.now) in
    let r = c.lines.invariant.among in
    let count : length left ≡ length (text ∷ lines (drop line.next c.args.bytes.now)) = ap length c.in-Some-next_line.ensures.texts in
    record {
      within = c.in-Some-next_line.ensures.within.inside;
      few = (let f = c.lines.invariant.few in let n = c.in-Some-next_line.ensures.within in omega (arith, f, n.forward));
      counted = (let n = c.lines.invariant.counted in omega (arith, count, n));
      sound = c.in_ok-cause-2.ensures.sound;
      among = others_on c.lines.state c.take_read-in-Some-next_line.new.self c.args.header.now c.args.found.players all text (lines (drop line.next c.args.bytes.now)) left c.lines.names _ c.lines.count c.read-said.result r
          c.in-Some-next_line.ensures.texts c.read-said.ensures c.in_ok-seat_name_said.ensures
          (subst (λ (o : Option Cause). Goes c.take_read-in-Some-next_line.new.self c.args.header.now c.args.found.players r.going.so_far text (read_at c.args.header.now r.going.so_far text) o) c.in_default-3.is
          (c.in_ok-cause-2.ensures.goes c.args.found.players r.going.so_far text r.going.keeps (other_is_said c.lines.state c.args.header.now c.args.found.players all left c.lines.names c.lines.count text c.read-said.result r c.read-said.ensures)));
    }
