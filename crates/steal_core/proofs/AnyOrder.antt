-- Whatever the events, each block is there once.
use Rattle.std.proofs.Common.{◌≡◌, ◌+◌, ℕ, cond, eqb, List, [], ◌++◌, take, sym, ap, ◌∙◌, arith}
use Rattle.std.specs.List.{sum_by, flat_map, range_with_len}
use Rattle.std.proofs.lemmas.List.Sums.{sum_by-append}
use Rattle.std.proofs.lemmas.List.Sorted.{sum_by-IsPermutation}
use Rattle.showdown_tally.specs.Showdown.{Showdown}
use Rattle.showdown_tally.specs.Tallies.{runouts_after}
use Rattle.job_blocks.specs.Blocks.{block_of}
use Rattle.steal_core.specs.declared.events.CoreEvent.{CoreEvent}
use Rattle.steal_core.specs.declared.state.State.{State}
use Rattle.steal_core.specs.Machine.{run}
use Rattle.steal_core.specs.Interleavings.{every_block, queued, in_hands, pushed_by, deal_blocks, IsFair, IsInterleaved}
use Rattle.job_blocks.proofs.CallerLemmas.{sum_flat, all_blocks}
use Rattle.steal_core.proofs.BlockSums.{same_sums}
use Rattle.steal_core.proofs.NumberRanges.{range_times}
use Rattle.steal_core.proofs.BlockWeights.{run_weight, pushed_front}

-- all blocks, however they are weighed
fair_weight : (deal : Showdown) (start : State) (events : List CoreEvent) (h : ℕ → ℕ) → IsFair deal start events
    → sum_by h (every_block start) + sum_by h (pushed_by start events) ≡ sum_by h (range_with_len 0 (deal_blocks deal))
fair_weight deal start events h fair =
    let p = sum_by-IsPermutation h (range_with_len 0 (deal_blocks deal)) (queued start ++ pushed_by start events) fair.blocks in
    let a = sum_by-append h (queued start) (pushed_by start events) in
    let held : sum_by h (in_hands start) ≡ 0 = ap (sum_by h) fair.hands in
    let booked : sum_by h start.booked ≡ 0 = ap (sum_by h) fair.booked in
    omega (arith, sum_by-append h (queued start ++ in_hands start) start.booked, sum_by-append h (queued start) (in_hands start))

booked_weight : (deal : Showdown) (start : State) (events : List CoreEvent) (h : ℕ → ℕ) → IsFair deal start events
    → queued (run start events) ≡ [] → in_hands (run start events) ≡ []
    → sum_by h (run start events).booked ≡ sum_by h (range_with_len 0 (deal_blocks deal))
booked_weight deal start events h fair queues hands =
    let end = run start events in
    let r = run_weight h start events in
    let f = fair_weight deal start events h fair in
    let q : sum_by h (queued end) ≡ 0 = ap (sum_by h) queues in
    let k : sum_by h (in_hands end) ≡ 0 = ap (sum_by h) hands in
    omega (arith, sum_by-append h (queued end ++ in_hands end) end.booked, sum_by-append h (queued end) (in_hands end))

pub interleaved : (deal : Showdown) (start : State) (events : List CoreEvent) → IsFair deal start events → IsInterleaved deal start events
interleaved deal start events fair = record {
  at_most_once = λ n block.
      (let h : ℕ → ℕ = λ b. cond {A = ℕ} (eqb b block) 1 0 in
      let r = run_weight h start (take n events) in
      let p = pushed_front h start events n in
      let f = fair_weight deal start events h fair in
      let t = range_times block (deal_blocks deal) in
      omega arith);
  exactly_once = λ block.
      (let h : ℕ → ℕ = λ b. cond {A = ℕ} (eqb b block) 1 0 in
      run_weight h start events ∙ fair_weight deal start events h fair ∙ range_times block (deal_blocks deal));
  booked_once = λ queues hands block. booked_weight deal start events (λ b. cond {A = ℕ} (eqb b block) 1 0) fair queues hands ∙ range_times block (deal_blocks deal);
  booked_sums = λ queues hands sums counts. same_sums deal (flat_map (block_of all) end.booked) all sums counts (λ f. sym (booked_is f queues hands));
}
  where
    all : List (List (List ℕ))
    all = runouts_after deal.state

    end : State
    end = run start events

    booked_is : (f : List (List ℕ) → ℕ) → queued end ≡ [] → in_hands end ≡ [] → sum_by f (flat_map (block_of all) end.booked) ≡ sum_by f all
    booked_is f queues hands =
        sum_flat f (block_of all) end.booked ∙ booked_weight deal start events (λ b. sum_by f (block_of all b)) fair queues hands
        ∙ sym (sum_flat f (block_of all) (range_with_len 0 (deal_blocks deal))) ∙ ap (sum_by f) (all_blocks all)
