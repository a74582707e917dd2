use Rattle.std.proofs.Common.{◌≡◌, ◌<◌, false, length, arith, get_or-set_same}
use Rattle.std.proofs.lemmas.List.{length-set}
use Rattle.card_sets.specs.Games.{has_side}
use Rattle.card_sets.specs.declared.games.Side.TheVariants.{High, Low}
use Rattle.board_runouts.specs.Fronts.{front_deal}
use Rattle.board_runouts.proofs.PairCounts.{board_high, only_pot}
use Rattle.board_runouts.proofs.board_leaf.count_each.Goals as goal

pub count_one_pot-requires-clause-fits : goal.count_one_pot-requires-clause-fits
count_one_pot-requires-clause-fits g c = λ place l.
    let n = c.args.front.now.spot.now.pots in
    let t = c.if-spot-eq1.true in
    c.requires.room.fits 0 place High (omega arith) (board_high c.args.front.now.spot.now.table.known.game c.args.front.now.spot.now.dealt) l

pub returns-then-not-has_side-clause-counts : goal.returns-then-not-has_side-clause-counts
returns-then-not-has_side-clause-counts g c =
    let n = c.args.front.now.spot.now.pots in
    let t = c.if-spot-eq1.true in
    let inside : 0 < length c.args.counts.now = (let q = c.requires.room.rows in omega arith) in
    let no_low : has_side Low c.args.front.now.spot.now.table.known.game ≡ false = grind (arith, c.has_side.ensures, c.if-not-has_side.true) in
    record {
      counted = only_pot (front_deal c.args.front.now) c.args.front.now.taken c.args.pairs.now c.args.counts.now _ (omega arith) no_low (λ place l. rw get_or-set_same (c.count_one_pot.ensures.cells place l));
      rows = length-set c.args.counts.now 0 _;
    }
