use Rattle.std.proofs.Common.{arith}
use Rattle.board_ranks.proofs.SieveLists.{AreInOrder, in_order, plain_range}
use Rattle.board_ranks.proofs.sieve.Sieve.plain.Goals as goal

pub returns : goal.returns
returns c = plain_range c.args.self.now.suits c.args.pairs.now c.args.self.now.plain c.args.self.now.flush c.args.self.now.before c.args.start c.args.end c.from-from.result c.from-to.result c.requires.parted c.requires.order c.requires.inside c.from-from.ensures c.from-to.ensures

pub slice_bounds-result-count : goal.slice_bounds-result-count
slice_bounds-result-count c =
    let o : AreInOrder c.args.self.now.before c.args.start c.args.end = in_order c.args.self.now.suits c.args.pairs.now c.args.self.now.plain c.args.self.now.flush c.args.self.now.before c.args.start c.args.end c.requires.parted c.requires.order c.requires.inside in
    omega (arith, o.of_plain, c.from-from.ensures, c.from-to.ensures)

pub slice_bounds-result-start : goal.slice_bounds-result-start
slice_bounds-result-start c =
    let o : AreInOrder c.args.self.now.before c.args.start c.args.end = in_order c.args.self.now.suits c.args.pairs.now c.args.self.now.plain c.args.self.now.flush c.args.self.now.before c.args.start c.args.end c.requires.parted c.requires.order c.requires.inside in
    omega (arith, o.of_plain, o.from_end, c.from-from.ensures, c.from-to.ensures)
