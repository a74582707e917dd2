use Rattle.std.proofs.Common.{◌≡◌, ◌≤◌, [], not, None, Ok, ap, ◌∙◌, arith, rules}
use Rattle.hand_audit.specs.Departs.{begins_hand}
use Rattle.hand_cuts.specs.Units.{UnitLines}
use Rattle.hand_cuts.specs.declared.limits.TheConstants.{INPUT_MAX}
use Rattle.run_loop.specs.UnitBlocks.{listed_kind}
use Rattle.run_loop.specs.Gathering.{AsksOne}
use Rattle.run_loop.specs.Units.{is_whole}
use Rattle.run_loop.specs.Writing.{one_if}
use Rattle.run_loop.proofs.WriteFacts.{bool_byte-one, one_small}
use Rattle.run_loop.proofs.GatherFacts.{gathered_ended, gathered_start, gathered_stops, taken_failed, taken_more, taken_next, taken_passed, taken_short}
use Rattle.run_loop.proofs.run.Run.write_blocks.Goals as goal

pub each-init : goal.each-init
each-init g c =
    let empty : c.new-ready.result.items ≡ [] = search rules in
    (rw c.requires.start (gathered_start g.S.Source.reads g.K.Sink.writes INPUT_MAX c.args.self.now.asked c.args.listed _ _ _ empty), λ _. empty)

pub next_written-requires : goal.next_written-requires
next_written-requires g c =
    let o = c.each.invariant.0 in
    λ e. o.cuts.closed_is ∙ ap is_whole e

pub text_of-text-requires : goal.text_of-text-requires
text_of-text-requires g c =
    let t = taken_next g.S.Source.reads g.K.Sink.writes INPUT_MAX c.args.self.now.asked c.args.listed _ _ _ _ _ _ c.each.self.input c.next_written.new.input c.each.place c.each.rejects _ c.in-Some.unit _ _ c.requires.listed c.each.invariant.0 c.in-Some.is (c.in-Ok.ensures.order (listed_kind c.args.listed) _ _ c.each.invariant.0.cuts) in
    record { unit = (listed_kind c.args.listed, t.unit_is) }

pub write_unit-requires-clause-header : goal.write_unit-requires-clause-header
write_unit-requires-clause-header g c =
    let t = taken_next g.S.Source.reads g.K.Sink.writes INPUT_MAX c.args.self.now.asked c.args.listed _ _ _ _ _ _ c.each.self.input c.next_written.new.input c.each.place c.each.rejects _ c.in-Some.unit _ _ c.requires.listed c.each.invariant.0 c.in-Some.is (c.in-Ok.ensures.order (listed_kind c.args.listed) _ _ c.each.invariant.0.cuts) in
    λ hands. ap (λ (u : UnitLines). begins_hand u.lines) c.text_of-text.ensures ∙ t.unit_is.begins hands

pub each-smaller-in_default-told : goal.each-smaller-in_default-told
each-smaller-in_default-told g c =
    let t = taken_next g.S.Source.reads g.K.Sink.writes INPUT_MAX c.args.self.now.asked c.args.listed _ _ _ _ _ _ c.each.self.input c.next_written.new.input c.each.place c.each.rejects _ c.in-Some.unit _ _ c.requires.listed c.each.invariant.0 c.in-Some.is (c.in-Ok.ensures.order (listed_kind c.args.listed) _ _ c.each.invariant.0.cuts) in
    t.less

pub each-smaller : goal.each-smaller
each-smaller g c =
    let t = taken_next g.S.Source.reads g.K.Sink.writes INPUT_MAX c.args.self.now.asked c.args.listed _ _ _ _ _ _ c.each.self.input c.next_written.new.input c.each.place c.each.rejects _ c.in-Some.unit _ _ c.requires.listed c.each.invariant.0 c.in-Some.is (c.in-Ok.ensures.order (listed_kind c.args.listed) _ _ c.each.invariant.0.cuts) in
    t.less

pub each-preserved-in_default-told : goal.each-preserved-in_default-told
each-preserved-in_default-told g c =
    let t = taken_next g.S.Source.reads g.K.Sink.writes INPUT_MAX c.args.self.now.asked c.args.listed _ _ _ _ _ _ c.each.self.input c.next_written.new.input c.each.place c.each.rejects _ c.in-Some.unit _ _ c.requires.listed c.each.invariant.0 c.in-Some.is (c.in-Ok.ensures.order (listed_kind c.args.listed) _ _ c.each.invariant.0.cuts) in
    let made = rw (c.text_of-text.ensures, c.in_default-told.is) at c.in-Ok-write_unit.ensures in (
      taken_passed g.S.Source.reads g.K.Sink.writes INPUT_MAX c.args.self.now.asked c.args.listed _ _ _ _ c.each.self.input c.next_written.new.input c.each.place c.each.rejects c.in-Some.unit _ t made.0 made.1,
      λ counts. c.in-Ok.ensures.none (c.each.invariant.1 counts),
    )

pub overflow_add-place : goal.overflow_add-place
overflow_add-place g c =
    let t = taken_next g.S.Source.reads g.K.Sink.writes INPUT_MAX c.args.self.now.asked c.args.listed _ _ _ _ _ _ c.each.self.input c.next_written.new.input c.each.place c.each.rejects _ c.in-Some.unit _ _ c.requires.listed c.each.invariant.0 c.in-Some.is (c.in-Ok.ensures.order (listed_kind c.args.listed) _ _ c.each.invariant.0.cuts) in
    let room = t.room in omega arith

pub overflow_add-rejects : goal.overflow_add-rejects
overflow_add-rejects g c =
    let t = taken_next g.S.Source.reads g.K.Sink.writes INPUT_MAX c.args.self.now.asked c.args.listed _ _ _ _ _ _ c.each.self.input c.next_written.new.input c.each.place c.each.rejects _ c.in-Some.unit _ _ c.requires.listed c.each.invariant.0 c.in-Some.is (c.in-Ok.ensures.order (listed_kind c.args.listed) _ _ c.each.invariant.0.cuts) in
    let one : c.from-rejects.result ≡ one_if c.in-Some-told.rejected = c.from-rejects.ensures ∙ bool_byte-one c.in-Some-told.rejected in
    let small : one_if c.in-Some-told.rejected ≤ 1 = one_small c.in-Some-told.rejected in
    let room = t.room in let fewer = t.fewer in omega arith

pub each-preserved : goal.each-preserved
each-preserved g c =
    let t = taken_next g.S.Source.reads g.K.Sink.writes INPUT_MAX c.args.self.now.asked c.args.listed _ _ _ _ _ _ c.each.self.input c.next_written.new.input c.each.place c.each.rejects _ c.in-Some.unit _ _ c.requires.listed c.each.invariant.0 c.in-Some.is (c.in-Ok.ensures.order (listed_kind c.args.listed) _ _ c.each.invariant.0.cuts) in
    let made = rw (c.text_of-text.ensures, c.in-Some-told.is) at c.in-Ok-write_unit.ensures in
    let one : c.from-rejects.result ≡ one_if c.in-Some-told.rejected = c.from-rejects.ensures ∙ bool_byte-one c.in-Some-told.rejected in (
      rw one (taken_more g.S.Source.reads g.K.Sink.writes INPUT_MAX c.args.self.now.asked c.args.listed _ _ _ _ _ c.each.self.input c.next_written.new.input c.each.place c.each.rejects c.in-Some.unit _ _ c.write_unit.new.self.block.items c.in-Some-told.rejected c.requires.listed t made.0 made.1
          (rw c.deref-in-each.ensures.value at c.in-Ok-gather.ensures.order)),
      λ counts. c.in-Ok-gather.ensures.none (c.may_wait-waits.ensures ∙ ap not counts),
    )

pub returns-in-Err : goal.returns-in-Err
returns-in-Err g c =
    let o = c.each.invariant.0 in
    gathered_stops g.S.Source.reads g.K.Sink.writes INPUT_MAX c.args.self.now.asked c.args.listed _ _ _ _ _ _ c.each.self.input c.next_written.new.input c.each.place c.each.rejects _ c.next_written.new.ready.items c.next_written.new.input.ending _ c.requires.listed o (c.in-Err.ensures.order (listed_kind c.args.listed) o.bytes o.done o.cuts)

pub returns-in_default : goal.returns-in_default
returns-in_default g c =
    let o = c.each.invariant.0 in
    let a : AsksOne g.S.Source.reads g.K.Sink.writes INPUT_MAX c.each.source c.next_written.new.source c.each.sink c.next_written.new.sink (listed_kind c.args.listed) c.each.self.input c.next_written.new.input o.bytes o.done c.each.ready.items c.next_written.new.ready.items (Ok None) = rw c.in_default.is at (c.in-Ok.ensures.order (listed_kind c.args.listed) o.bytes o.done o.cuts) in
    gathered_ended g.S.Source.reads g.K.Sink.writes INPUT_MAX c.args.self.now.asked c.args.listed _ _ _ _ _ _ c.each.self.input c.next_written.new.input c.each.place c.each.rejects _ c.next_written.new.ready.items c.requires.listed o a

pub returns-in-Err-write_unit : goal.returns-in-Err-write_unit
returns-in-Err-write_unit g c =
    let t = taken_next g.S.Source.reads g.K.Sink.writes INPUT_MAX c.args.self.now.asked c.args.listed _ _ _ _ _ _ c.each.self.input c.next_written.new.input c.each.place c.each.rejects _ c.in-Some.unit _ _ c.requires.listed c.each.invariant.0 c.in-Some.is (c.in-Ok.ensures.order (listed_kind c.args.listed) _ _ c.each.invariant.0.cuts) in
    taken_short g.S.Source.reads g.K.Sink.writes INPUT_MAX c.args.self.now.asked c.args.listed _ _ _ _ _ c.each.self.input c.next_written.new.input c.each.place c.each.rejects c.in-Some.unit _ c.next_written.new.input.ending _ c.requires.listed t (rw c.deref-in-Err-write_unit.ensures.value at c.write_rest.ensures)

pub returns-in-Err-gather : goal.returns-in-Err-gather
returns-in-Err-gather g c =
    let t = taken_next g.S.Source.reads g.K.Sink.writes INPUT_MAX c.args.self.now.asked c.args.listed _ _ _ _ _ _ c.each.self.input c.next_written.new.input c.each.place c.each.rejects _ c.in-Some.unit _ _ c.requires.listed c.each.invariant.0 c.in-Some.is (c.in-Ok.ensures.order (listed_kind c.args.listed) _ _ c.each.invariant.0.cuts) in
    let made = rw (c.text_of-text.ensures, c.in-Some-told.is) at c.in-Ok-write_unit.ensures in
    taken_failed g.S.Source.reads g.K.Sink.writes INPUT_MAX c.args.self.now.asked c.args.listed _ _ _ _ _ c.each.self.input c.next_written.new.input c.each.place c.each.rejects c.in-Some.unit _ c.write_unit.new.self.block.items _ c.requires.listed t made.0
    (rw c.deref-in-each.ensures.value at c.in-Err-gather.ensures.order)
