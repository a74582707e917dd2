use Rattle.std.proofs.Common.{◌≡◌, ◌+◌, ◌-◌, ◌≤◌, ℕ, List, [], ap, ◌∙◌, arith, sym, subst}
use Rattle.std.specs.List.{slice_range}
use Rattle.showdown_tally.specs.Deals.{deal_of}
use Rattle.showdown_tally.specs.Showdown.{Showdown}
use Rattle.showdown_tally.specs.SideCounts.{AreSideCounts, CountsFit, CountsGrow, count_at}
use Rattle.showdown_tally.specs.Tallies.{runouts_after}
use Rattle.job_blocks.specs.declared.limits.TheConstants.{BLOCK}
use Rattle.equity_job.proofs.blocks.count_span.Goals as goal

cleared_fit : (deal : Showdown) (counts : List (List ℕ)) (more : ℕ) → more ≤ BLOCK → AreSideCounts deal [] counts → CountsFit deal counts more
cleared_fit deal counts more few none = λ pot place side l has m.
    let zero : count_at counts pot side place ≡ 0 = none pot place side l has m in
    omega (arith, zero, few)

grown_from_none : (deal : Showdown) (all : List (List (List ℕ))) (old new : List (List ℕ)) → AreSideCounts deal [] old → CountsGrow deal all old new → AreSideCounts deal all new
grown_from_none deal all old new none grown = λ pot place side l has m.
    let zero : count_at old pot side place ≡ 0 = none pot place side l has m in
    omega (arith, zero, grown pot place side l has m)

pub count_runouts_of-requires-clause-fits : goal.count_runouts_of-requires-clause-fits
count_runouts_of-requires-clause-fits g c =
    let span = c.args.span.now in
    let P : Showdown → Type 0 = λ deal. CountsFit deal c.clear_counts.new.counts (span.end - span.first) in
    subst P (sym c.requires.deal) (cleared_fit (deal_of span.job.now.table) c.clear_counts.new.counts (span.end - span.first) span.few c.clear_counts.ensures.none)

pub returns : goal.returns
returns g c =
    let span = c.args.span.now in
    let deal = deal_of span.job.now.table in
    let P : Showdown → Type 0 = λ d. CountsGrow d (slice_range (runouts_after d.state) span.first span.end) c.clear_counts.new.counts c.count_runouts_of.new.counts in
    let R : List (List (List ℕ)) → Type 0 = λ all. AreSideCounts deal all c.count_runouts_of.new.counts in
    record {
      right = subst R span.block (grown_from_none deal (slice_range (runouts_after deal.state) span.first span.end) c.clear_counts.new.counts c.count_runouts_of.new.counts c.clear_counts.ensures.none
          (subst P c.requires.deal c.count_runouts_of.ensures.counts));
      rows = c.count_runouts_of.ensures.places ∙ c.clear_counts.ensures.places;
      steps = c.count_runouts_of.ensures.steps ∙ ap (λ n. c.args.steps.now + n) (sym span.size);
    }
