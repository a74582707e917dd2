use Rattle.std.proofs.Common.{◌≡◌, ◌++◌, [], rules, ap, ◌∙◌}
use Rattle.hand_cuts.specs.declared.limits.TheConstants.{INPUT_MAX}
use Rattle.run_loop.proofs.OrderFacts.{sums_stuck, sums_unmade, sums_written}
use Rattle.run_loop.proofs.run.Run.write_sums.Goals as goal

pub returns-in-Err : goal.returns-in-Err
returns-in-Err g c = sums_unmade g.S.Source.reads g.K.Sink.writes INPUT_MAX c.args.self.now.asked _ _ _ c.requires.one _ _ _ _ _ _ c.in-Err.ensures

pub returns-in-Err-write_block : goal.returns-in-Err-write_block
returns-in-Err-write_block g c = sums_unmade g.S.Source.reads g.K.Sink.writes INPUT_MAX c.args.self.now.asked _ _ _ c.requires.one _ _ _ _ _ _ c.in-Ok.ensures

pub returns-in-Ok-write_all : goal.returns-in-Ok-write_all
returns-in-Ok-write_all g c =
    let block = g.B.BlockSums.block c.args.self.now.asked.form c.add_units.new.sums in
    let empty : c.new-block.result.items ≡ [] = search rules in
    let made : c.write_block.new.out.items ≡ block = c.in-Ok-write_block.ensures ∙ ap (λ items. items ++ block) empty in
    rw (c.rejected_hands.ensures) (sums_written g.S.Source.reads g.K.Sink.writes INPUT_MAX c.args.self.now.asked _ _ _ c.requires.one _ _ _ _ _ _ c.in-Ok.ensures
    (rw (c.deref.ensures.value, made) at c.in-Ok-write_all.ensures.order))

pub returns : goal.returns
returns g c =
    let block = g.B.BlockSums.block c.args.self.now.asked.form c.add_units.new.sums in
    let empty : c.new-block.result.items ≡ [] = search rules in
    let made : c.write_block.new.out.items ≡ block = c.in-Ok-write_block.ensures ∙ ap (λ items. items ++ block) empty in
    sums_stuck g.S.Source.reads g.K.Sink.writes INPUT_MAX c.args.self.now.asked _ _ _ c.requires.one _ _ _ _ _ _ _ c.in-Ok.ensures
    (rw (c.deref.ensures.value, made) at c.in-Err-write_all.ensures.order)
