use Rattle.std.proofs.Common.{◌-◌, ap, arith}
use Rattle.board_ranks.proofs.SieveLists.{AreInOrder, flush_range, in_order}
use Rattle.board_ranks.proofs.sieve.Sieve.flush.Goals as goal

pub returns : goal.returns
returns c = flush_range c.args.self.now.suits c.args.pairs.now c.args.self.now.plain c.args.self.now.flush c.args.self.now.before c.args.start c.args.end (c.args.start - c.from.result) (c.args.end - c.from-2.result) c.requires.parted c.requires.order c.requires.inside (ap (λ n. c.args.start - n) c.from.ensures) (ap (λ n. c.args.end - n) c.from-2.ensures)

pub overflow_sub-from : goal.overflow_sub-from
overflow_sub-from c =
    let o : AreInOrder c.args.self.now.before c.args.start c.args.end = in_order c.args.self.now.suits c.args.pairs.now c.args.self.now.plain c.args.self.now.flush c.args.self.now.before c.args.start c.args.end c.requires.parted c.requires.order c.requires.inside in
    omega (arith, o.from_start, c.from.ensures)

pub overflow_sub-to : goal.overflow_sub-to
overflow_sub-to c =
    let o : AreInOrder c.args.self.now.before c.args.start c.args.end = in_order c.args.self.now.suits c.args.pairs.now c.args.self.now.plain c.args.self.now.flush c.args.self.now.before c.args.start c.args.end c.requires.parted c.requires.order c.requires.inside in
    omega (arith, o.from_end, c.from-2.ensures)

pub slice_bounds-result-count : goal.slice_bounds-result-count
slice_bounds-result-count c =
    let o : AreInOrder c.args.self.now.before c.args.start c.args.end = in_order c.args.self.now.suits c.args.pairs.now c.args.self.now.plain c.args.self.now.flush c.args.self.now.before c.args.start c.args.end c.requires.parted c.requires.order c.requires.inside in
    omega (arith, o.of_flush, c.from.ensures, c.from-2.ensures)

pub slice_bounds-result-start : goal.slice_bounds-result-start
slice_bounds-result-start c =
    let o : AreInOrder c.args.self.now.before c.args.start c.args.end = in_order c.args.self.now.suits c.args.pairs.now c.args.self.now.plain c.args.self.now.flush c.args.self.now.before c.args.start c.args.end c.requires.parted c.requires.order c.requires.inside in
    omega (arith, o.of_flush, o.from_end, c.from.ensures, c.from-2.ensures)
