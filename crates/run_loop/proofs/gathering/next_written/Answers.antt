use Rattle.std.proofs.Common.{Ok, Err, refl, inl, arith}
use Rattle.hand_cuts.specs.declared.limits.TheConstants.{INPUT_MAX}
use Rattle.run_loop.proofs.AskedUnits.{hands_over}
use Rattle.run_loop.proofs.GatherFacts.{asks_read, asks_short, pulls_same}
use Rattle.run_loop.proofs.gathering.next_written.Goals as goal

pub returns-in-Some-clause-order : goal.returns-in-Some-clause-order
returns-in-Some-clause-order g c kind bytes done s =
    inl (refl, refl, refl, refl, hands_over INPUT_MAX kind c.args.input.now c.args.input.now.cutter c.next_unit.new.self c.args.input.now.ending c.in-Some.unit bytes done s (omega arith) c.in-Some.ensures.some c.in-Some.ensures.few)

pub returns-in-Ok-next_unit-clause-order : goal.returns-in-Ok-next_unit-clause-order
returns-in-Ok-next_unit-clause-order g c kind bytes done s =
    asks_read g.S.Source.reads g.K.Sink.writes INPUT_MAX _ _ _ _ kind c.args.input.now _ bytes done _ _ c.in-Ok-next_unit.next c.in-Ok.ensures.none c.in-Ok.ensures.order
    (pulls_same g.S.Source.reads INPUT_MAX _ _ kind c.args.input.now _ c.next_unit.new.self bytes done (Ok c.in-Ok-next_unit.next) (c.in_default.ensures.same refl) s (c.in-Ok-next_unit.ensures kind bytes done))

pub returns-in-Err-next_unit-clause-order : goal.returns-in-Err-next_unit-clause-order
returns-in-Err-next_unit-clause-order g c kind bytes done s =
    asks_short g.S.Source.reads g.K.Sink.writes INPUT_MAX _ _ _ _ kind c.args.input.now _ bytes done _ c.write_ready.new.ready.items _ c.in-Ok.ensures.order
    (pulls_same g.S.Source.reads INPUT_MAX _ _ kind c.args.input.now _ c.next_unit.new.self bytes done (Err _) (c.in_default.ensures.same refl) s (c.in-Err-next_unit.ensures kind bytes done))
