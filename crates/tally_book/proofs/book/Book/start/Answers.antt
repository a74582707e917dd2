use Rattle.std.proofs.Common.{◌≤◌, length, arith, ap, subst, ◌∙◌}
use Rattle.showdown_tally.specs.CountLaws.{Counts-none}
use Rattle.showdown_tally.specs.Showdown.{Showdown}
use Rattle.showdown_tally.specs.Tallies.{runouts_after}
use Rattle.job_blocks.specs.Blocks.{blocks_of}
use Rattle.runout_ranges.specs.declared.limits.TheConstants.{RUNOUT_MAX}
use Rattle.tally_book.proofs.PageFacts.{blank_page}
use Rattle.tally_book.proofs.book.Book.start.Goals as goal

pub invariant_of-book : goal.invariant_of-book
invariant_of-book g c =
    let blocks = c.blocks-2.ensures ∙ ap (λ (d : Showdown). blocks_of (length (runouts_after d.state))) c.requires.named in
    let few = subst (λ (d : Showdown). length (runouts_after d.state) ≤ RUNOUT_MAX) c.requires.named (let e = c.args.job.now.counted in let f = c.args.job.now.few in omega arith) in
    rw c.open-posts.ensures.total (blank_page g.N.Naming.deal _ _ _ c.in_ok-marks.ensures blocks few (Counts-none g.N.Naming.deal _ c.zero.ensures.runouts c.zero.ensures.cells c.zero.ensures.units))
