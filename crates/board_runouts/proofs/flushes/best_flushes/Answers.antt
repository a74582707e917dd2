use Rattle.std.proofs.Common.{◌<◌, length, take, arith}
use Rattle.std.proofs.Math.ListN.{length-set}
use Rattle.std.proofs.lemmas.List.{length-map, length-take}
use Rattle.card_sets.specs.PlayerSets.{hands_of}
use Rattle.card_sets.specs.State.{state_of}
use Rattle.showdown_tally.specs.Deals.{deal_of}
use Rattle.board_runouts.specs.Highs.{flush_of}
use Rattle.board_runouts.proofs.RiverFacts.{few_set}
use Rattle.board_runouts.proofs.RowSets.{flush_set}
use Rattle.board_runouts.proofs.flushes.best_flushes.Goals as goal

pub loop-pot-preserved : goal.loop-pot-preserved
loop-pot-preserved c =
    let was = c.loop-pot.invariant in
    let inside : c.loop-pot.pot < length c.loop-pot.tops = (let t = c.loop-pot-test.true in let s = was.tops_size in let e = c.ten_places.ensures.pots in omega arith) in
    let inside_too : c.loop-pot.pot < length c.loop-pot.sets = (let t = c.loop-pot-test.true in let s = was.sets_size in omega arith) in
    let best = c.pot_best-best.ensures.best (flush_of (state_of c.args.table.now.known) c.args.part.now.cards c.args.part.now.suit) c.hand_flushes-values.ensures in
    record {
      tops_size = rw length-set was.tops_size;
      sets_size = rw length-set was.sets_size;
      few = λ p. few_set c.loop-pot.sets c.from-in-loop-pot.result c.pot_best-best.result.set 1024 p was.few c.pot_best-best.ensures.small (omega (arith, inside_too, c.from-in-loop-pot.ensures));
      best = λ p lt.
          flush_set (deal_of c.args.table.now) c.args.part.now.cards c.args.part.now.suit c.loop-pot.tops c.loop-pot.sets c.loop-pot.pot c.from.result c.from-in-loop-pot.result c.pot_best-best.result.top c.pot_best-best.result.set p c.from.ensures c.from-in-loop-pot.ensures inside inside_too
          (λ less. was.best p less)
          (record { greatest = best.0; winners = λ some. best.1 })
          lt;
    }

pub returns-clause-best : goal.returns-clause-best
returns-clause-best c = λ pot lt.
    c.loop-pot.invariant.best pot (let t = c.loop-pot-test.false in omega (arith, lt, length-map (take c.args.table.now.pots c.args.table.now.eligible) hands_of, length-take c.args.table.now.pots c.args.table.now.eligible))
