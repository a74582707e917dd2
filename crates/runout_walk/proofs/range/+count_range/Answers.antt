use Rattle.std.proofs.Common.{◌≡◌, ◌+◌, ◌-◌, ◌<◌, ◌≤◌, ◌∷◌, ◌++◌, [], ℕ, suc, List, sym, ap, ◌∙◌, arith, length, take, drop, map, set, subst}
use Rattle.std.specs.List.{slice_range}
use Rattle.std.proofs.Math.ListN.{length-set}
use Rattle.std.proofs.lemmas.List.{length-map}
use Rattle.card_sets.specs.Choose.{choose}
use Rattle.runout_ranges.specs.Slots.{counts_of}
use Rattle.runout_ranges.specs.Ways.{ways}
use Rattle.runout_ranges.specs.declared.shapes.Receiver.TheVariants.{Board}
use Rattle.runout_ranges.specs.declared.shapes.Slot.{Slot}
use Rattle.runout_ranges.proofs.CallerLemmas.{nothing}
use Rattle.showdown_tally.specs.Showdown.{Showdown}
use Rattle.showdown_tally.specs.SideCounts.{CountsFit, CountsGrow}
use Rattle.runout_walk.specs.Branches.{IsAt}
use Rattle.runout_walk.specs.Listing.{going_on}
use Rattle.runout_walk.proofs.GrowingCounts.{room_left, room_less}
use Rattle.runout_walk.proofs.ListingMembers.{length-range}
use Rattle.runout_walk.proofs.WalkSteps.{enough_cards, few_with, front_again, grown_both, grown_last, grown_next, grown_with, grown_without, last_length, not_last, yes_last, last_slot, longer_rest, next_slot, positive, step_at, take_set}
use Rattle.runout_walk.proofs.range.+count_range.Goals as goal

pub unreachable-requires-in_default-first : goal.unreachable-requires-in_default-first
unreachable-requires-in_default-first g t c =
    let b = c.args.branch.now in
    let none : length b.tail.rest ≡ 0 = nothing b.tail.rest (sym c.first.ensures.value ∙ c.in_default-first.is) in
    let enough = enough_cards b.unseen b.tail.taken b.tail.rest (counts_of b.later.now) b.tail.left b.each c.args.between.lo c.args.between.hi c.rising.ensures.set c.requires.at.branch c.requires.order c.requires.inside in
    let some : 0 < b.tail.left = positive b.tail.left c.if-tail-eq0.false in
    omega arith

pub count_first-with_card-requires-clause-within : goal.count_first-with_card-requires-clause-within
count_first-with_card-requires-clause-within g t c =
    let b = c.args.branch.now in
    let longer = longer_rest b.tail.taken b.tail.rest c.without-others.result c.in-Some.card c.first.result c.requires.at.branch.above c.first.ensures.set c.first.ensures.value c.in-Some.is c.without-others.ensures in
    let enough = enough_cards b.unseen b.tail.taken b.tail.rest (counts_of b.later.now) b.tail.left b.each c.args.between.lo c.args.between.hi c.rising.ensures.set c.requires.at.branch c.requires.order c.requires.inside in
    omega (arith, longer, c.count-2.ensures.value)

pub count_first-with_card-requires-clause-fits : goal.count_first-with_card-requires-clause-fits
count_first-with_card-requires-clause-fits g t c =
    let b = c.args.branch.now in
    let few = few_with (g.F.Leaf.deal c.args.leaf.now) (g.F.Leaf.depth (g.F.Leaf.deal c.args.leaf.now)) (take b.slot c.args.sets.now) b.unseen b.tail.taken b.tail.rest c.without-others.result b.tail.left b.later.now b.each c.count-2.result c.in-Some.card c.first.result c.rising.ensures.set c.if-tail-eq0.false c.requires.at
    c.first.ensures.set c.first.ensures.value c.in-Some.is c.without-others.ensures c.count-2.ensures.value in
    few

pub count_range-requires-then-hi-with_card : goal.count_range-requires-then-hi-with_card
count_range-requires-then-hi-with_card g t c =
    let b = c.args.branch.now in
    let s = step_at (g.F.Leaf.deal c.args.leaf.now) (g.F.Leaf.depth (g.F.Leaf.deal c.args.leaf.now)) (take b.slot c.args.sets.now) b.unseen b.tail.taken c.with-more.result b.tail.rest c.without-others.result b.tail.left b.later.now b.each c.count_first-with_card.result c.count-2.result c.in-Some.card c.first.result c.rising.ensures.set c.if-tail-eq0.false (λ none same. not_last (length b.later.now) b.tail.left (g.F.Leaf.depth (g.F.Leaf.deal c.args.leaf.now)) c.depth.result c.is_last.result c.is_last.ensures c.if-is_last.false c.depth.ensures none same) c.requires.at
    c.first.ensures.set c.first.ensures.value c.in-Some.is c.with-more.ensures c.without-others.ensures c.count-2.ensures.value c.count_first-with_card.ensures in
    let A = going_on b.unseen c.with-more.result c.without-others.result (b.tail.left - 1) (counts_of b.later.now) in
    let w : c.count_first-with_card.result ≡ length A = s.weighed in
    let shorter : length b.tail.rest ≡ suc (length c.without-others.result) = s.shorter in
    λ κs lives. (omega arith, (lives.0, (lives.1, (s.has, (c.requires.room, (c.requires.order, (omega arith, (c.requires.places, c.requires.fits))))))))

pub returns-then-hi-with_card-clause-counts : goal.returns-then-hi-with_card-clause-counts
returns-then-hi-with_card-clause-counts g t c =
    let b = c.args.branch.now in
    let deal = g.F.Leaf.deal c.args.leaf.now in
    let front = take b.slot c.args.sets.now in
    let s = step_at (g.F.Leaf.deal c.args.leaf.now) (g.F.Leaf.depth (g.F.Leaf.deal c.args.leaf.now)) (take b.slot c.args.sets.now) b.unseen b.tail.taken c.with-more.result b.tail.rest c.without-others.result b.tail.left b.later.now b.each c.count_first-with_card.result c.count-2.result c.in-Some.card c.first.result c.rising.ensures.set c.if-tail-eq0.false (λ none same. not_last (length b.later.now) b.tail.left (g.F.Leaf.depth (g.F.Leaf.deal c.args.leaf.now)) c.depth.result c.is_last.result c.is_last.ensures c.if-is_last.false c.depth.ensures none same) c.requires.at
    c.first.ensures.set c.first.ensures.value c.in-Some.is c.with-more.ensures c.without-others.ensures c.count-2.ensures.value c.count_first-with_card.ensures in
    let all = going_on b.unseen b.tail.taken b.tail.rest b.tail.left (counts_of b.later.now) in
    let A = going_on b.unseen c.with-more.result c.without-others.result (b.tail.left - 1) (counts_of b.later.now) in
    let B = going_on b.unseen b.tail.taken c.without-others.result b.tail.left (counts_of b.later.now) in
    let w : c.count_first-with_card.result ≡ length A = s.weighed in
    grown_with deal front all A B c.args.between.lo c.args.between.hi c.args.counts.now c.count_range-then-hi-with_card.new.counts s.parts (omega arith) c.count_range-then-hi-with_card.ensures.counts

pub count_range-requires-then-with_card-lo : goal.count_range-requires-then-with_card-lo
count_range-requires-then-with_card-lo g t c =
    let b = c.args.branch.now in
    let deal = g.F.Leaf.deal c.args.leaf.now in
    let s = step_at (g.F.Leaf.deal c.args.leaf.now) (g.F.Leaf.depth (g.F.Leaf.deal c.args.leaf.now)) (take b.slot c.args.sets.now) b.unseen b.tail.taken c.with-more.result b.tail.rest c.without-others.result b.tail.left b.later.now b.each c.count_first-with_card.result c.count-2.result c.in-Some.card c.first.result c.rising.ensures.set c.if-tail-eq0.false (λ none same. not_last (length b.later.now) b.tail.left (g.F.Leaf.depth (g.F.Leaf.deal c.args.leaf.now)) c.depth.result c.is_last.result c.is_last.ensures c.if-is_last.false c.depth.ensures none same) c.requires.at
    c.first.ensures.set c.first.ensures.value c.in-Some.is c.with-more.ensures c.without-others.ensures c.count-2.ensures.value c.count_first-with_card.ensures in
    let all = going_on b.unseen b.tail.taken b.tail.rest b.tail.left (counts_of b.later.now) in
    let A = going_on b.unseen c.with-more.result c.without-others.result (b.tail.left - 1) (counts_of b.later.now) in
    let B = going_on b.unseen b.tail.taken c.without-others.result b.tail.left (counts_of b.later.now) in
    let w : c.count_first-with_card.result ≡ length A = s.weighed in
    let whole : length all ≡ length A + length B = s.whole in
    let shorter : length b.tail.rest ≡ suc (length c.without-others.result) = s.shorter in
    let order = c.requires.order in
    let inside = c.requires.inside in
    λ κs lives. (omega arith, (lives.0, (lives.1, (s.hasnt, (c.requires.room, (omega arith, (omega arith, (c.requires.places, room_less deal c.args.counts.now (c.args.between.hi - c.args.between.lo) _ (omega arith) c.requires.fits))))))))

pub returns-then-with_card-lo-clause-counts : goal.returns-then-with_card-lo-clause-counts
returns-then-with_card-lo-clause-counts g t c =
    let b = c.args.branch.now in
    let deal = g.F.Leaf.deal c.args.leaf.now in
    let front = take b.slot c.args.sets.now in
    let s = step_at (g.F.Leaf.deal c.args.leaf.now) (g.F.Leaf.depth (g.F.Leaf.deal c.args.leaf.now)) (take b.slot c.args.sets.now) b.unseen b.tail.taken c.with-more.result b.tail.rest c.without-others.result b.tail.left b.later.now b.each c.count_first-with_card.result c.count-2.result c.in-Some.card c.first.result c.rising.ensures.set c.if-tail-eq0.false (λ none same. not_last (length b.later.now) b.tail.left (g.F.Leaf.depth (g.F.Leaf.deal c.args.leaf.now)) c.depth.result c.is_last.result c.is_last.ensures c.if-is_last.false c.depth.ensures none same) c.requires.at
    c.first.ensures.set c.first.ensures.value c.in-Some.is c.with-more.ensures c.without-others.ensures c.count-2.ensures.value c.count_first-with_card.ensures in
    let all = going_on b.unseen b.tail.taken b.tail.rest b.tail.left (counts_of b.later.now) in
    let A = going_on b.unseen c.with-more.result c.without-others.result (b.tail.left - 1) (counts_of b.later.now) in
    let B = going_on b.unseen b.tail.taken c.without-others.result b.tail.left (counts_of b.later.now) in
    let w : c.count_first-with_card.result ≡ length A = s.weighed in
    grown_without deal front all A B c.args.between.lo c.args.between.hi c.count_first-with_card.result c.args.counts.now c.count_range-then-with_card-lo.new.counts s.parts w (omega arith) c.count_range-then-with_card-lo.ensures.counts

pub count_range-requires-2 : goal.count_range-requires-2
count_range-requires-2 g t c =
    let b = c.args.branch.now in
    let deal = g.F.Leaf.deal c.args.leaf.now in
    let s = step_at (g.F.Leaf.deal c.args.leaf.now) (g.F.Leaf.depth (g.F.Leaf.deal c.args.leaf.now)) (take b.slot c.args.sets.now) b.unseen b.tail.taken c.with-more.result b.tail.rest c.without-others.result b.tail.left b.later.now b.each c.count_first-with_card.result c.count-2.result c.in-Some.card c.first.result c.rising.ensures.set c.if-tail-eq0.false (λ none same. not_last (length b.later.now) b.tail.left (g.F.Leaf.depth (g.F.Leaf.deal c.args.leaf.now)) c.depth.result c.is_last.result c.is_last.ensures c.if-is_last.false c.depth.ensures none same) c.requires.at
    c.first.ensures.set c.first.ensures.value c.in-Some.is c.with-more.ensures c.without-others.ensures c.count-2.ensures.value c.count_first-with_card.ensures in
    let A = going_on b.unseen c.with-more.result c.without-others.result (b.tail.left - 1) (counts_of b.later.now) in
    let w : c.count_first-with_card.result ≡ length A = s.weighed in
    let shorter : length b.tail.rest ≡ suc (length c.without-others.result) = s.shorter in
    λ κs lives. (omega arith, (lives.0, (lives.1, (s.has, (c.requires.room, (omega arith, (omega arith, (c.requires.places, room_less deal c.args.counts.now (c.args.between.hi - c.args.between.lo) _ (omega arith) c.requires.fits))))))))

pub count_range-requires-3 : goal.count_range-requires-3
count_range-requires-3 g t c =
    let b = c.args.branch.now in
    let deal = g.F.Leaf.deal c.args.leaf.now in
    let front = take b.slot c.args.sets.now in
    let s = step_at (g.F.Leaf.deal c.args.leaf.now) (g.F.Leaf.depth (g.F.Leaf.deal c.args.leaf.now)) (take b.slot c.args.sets.now) b.unseen b.tail.taken c.with-more.result b.tail.rest c.without-others.result b.tail.left b.later.now b.each c.count_first-with_card.result c.count-2.result c.in-Some.card c.first.result c.rising.ensures.set c.if-tail-eq0.false (λ none same. not_last (length b.later.now) b.tail.left (g.F.Leaf.depth (g.F.Leaf.deal c.args.leaf.now)) c.depth.result c.is_last.result c.is_last.ensures c.if-is_last.false c.depth.ensures none same) c.requires.at
    c.first.ensures.set c.first.ensures.value c.in-Some.is c.with-more.ensures c.without-others.ensures c.count-2.ensures.value c.count_first-with_card.ensures in
    let all = going_on b.unseen b.tail.taken b.tail.rest b.tail.left (counts_of b.later.now) in
    let A = going_on b.unseen c.with-more.result c.without-others.result (b.tail.left - 1) (counts_of b.later.now) in
    let B = going_on b.unseen b.tail.taken c.without-others.result b.tail.left (counts_of b.later.now) in
    let w : c.count_first-with_card.result ≡ length A = s.weighed in
    let whole : length all ≡ length A + length B = s.whole in
    let shorter : length b.tail.rest ≡ suc (length c.without-others.result) = s.shorter in
    let order = c.requires.order in
    let inside = c.requires.inside in
    let same : g.F.Leaf.deal c.count_range-2.new.leaf ≡ deal = c.count_range-2.ensures.deal in
    let again : take b.slot c.count_range-2.new.sets ≡ front = c.count_range-2.ensures.front in
    let here = map (λ more. front ++ more) (slice_range A c.args.between.lo c.count_first-with_card.result) in
    let few : length here ≡ c.count_first-with_card.result - c.args.between.lo = length-map (slice_range A c.args.between.lo c.count_first-with_card.result) (λ more. front ++ more) ∙ length-range A c.args.between.lo c.count_first-with_card.result (omega arith) (omega arith) in
    let left : CountsFit deal c.count_range-2.new.counts (c.args.between.hi - c.count_first-with_card.result - 0) = room_left deal here c.args.counts.now c.count_range-2.new.counts (c.args.between.hi - c.args.between.lo) _ (omega arith) c.requires.fits c.count_range-2.ensures.counts in
    let P : Showdown → Type 0 = λ d. IsAt d (g.F.Leaf.depth d) (take b.slot c.count_range-2.new.sets) b.unseen b.tail.taken c.without-others.result b.tail.left b.later.now b.each in
    let Q : List (List ℕ) → Type 0 = λ f. IsAt deal (g.F.Leaf.depth deal) f b.unseen b.tail.taken c.without-others.result b.tail.left b.later.now b.each in
    let R : Showdown → Type 0 = λ d. CountsFit d c.count_range-2.new.counts (c.args.between.hi - c.count_first-with_card.result - 0) in
    let pots : length (g.F.Leaf.deal c.count_range-2.new.leaf).pots ≡ length deal.pots = ap (λ (d : Showdown). length d.pots) same in
    λ κs lives. (omega arith, (lives.0, (lives.1, (subst P (sym same) (subst Q (sym again) s.hasnt), ((let r = c.requires.room in omega (arith, c.count_range-2.ensures.room)), (omega arith, (omega arith, ((let q = c.requires.places in omega (arith, c.count_range-2.ensures.places)), subst R (sym same) left))))))))

pub returns-clause-counts : goal.returns-clause-counts
returns-clause-counts g t c =
    let b = c.args.branch.now in
    let deal = g.F.Leaf.deal c.args.leaf.now in
    let front = take b.slot c.args.sets.now in
    let s = step_at (g.F.Leaf.deal c.args.leaf.now) (g.F.Leaf.depth (g.F.Leaf.deal c.args.leaf.now)) (take b.slot c.args.sets.now) b.unseen b.tail.taken c.with-more.result b.tail.rest c.without-others.result b.tail.left b.later.now b.each c.count_first-with_card.result c.count-2.result c.in-Some.card c.first.result c.rising.ensures.set c.if-tail-eq0.false (λ none same. not_last (length b.later.now) b.tail.left (g.F.Leaf.depth (g.F.Leaf.deal c.args.leaf.now)) c.depth.result c.is_last.result c.is_last.ensures c.if-is_last.false c.depth.ensures none same) c.requires.at
    c.first.ensures.set c.first.ensures.value c.in-Some.is c.with-more.ensures c.without-others.ensures c.count-2.ensures.value c.count_first-with_card.ensures in
    let all = going_on b.unseen b.tail.taken b.tail.rest b.tail.left (counts_of b.later.now) in
    let A = going_on b.unseen c.with-more.result c.without-others.result (b.tail.left - 1) (counts_of b.later.now) in
    let B = going_on b.unseen b.tail.taken c.without-others.result b.tail.left (counts_of b.later.now) in
    let w : c.count_first-with_card.result ≡ length A = s.weighed in
    let same : g.F.Leaf.deal c.count_range-2.new.leaf ≡ deal = c.count_range-2.ensures.deal in
    let again : take b.slot c.count_range-2.new.sets ≡ front = c.count_range-2.ensures.front in
    let P : Showdown → Type 0 = λ d. CountsGrow d (map (λ more. take b.slot c.count_range-2.new.sets ++ more) (slice_range B 0 (c.args.between.hi - c.count_first-with_card.result))) c.count_range-2.new.counts c.count_range-3.new.counts in
    let Q : List (List ℕ) → Type 0 = λ f. CountsGrow deal (map (λ more. f ++ more) (slice_range B 0 (c.args.between.hi - c.count_first-with_card.result))) c.count_range-2.new.counts c.count_range-3.new.counts in
    grown_both deal front all A B c.args.between.lo c.args.between.hi c.count_first-with_card.result c.args.counts.now c.count_range-2.new.counts c.count_range-3.new.counts s.parts w (omega arith) (omega arith) c.count_range-2.ensures.counts (subst Q again (subst P same c.count_range-3.ensures.counts))

pub overflow_sub-count : goal.overflow_sub-count
overflow_sub-count g t c =
    let b = c.args.branch.now in
    let s = next_slot (g.F.Leaf.deal c.args.leaf.now) (g.F.Leaf.depth (g.F.Leaf.deal c.args.leaf.now)) (take b.slot c.args.sets.now) b.unseen b.tail.taken b.tail.rest c.minus-cards.result b.later.now record { receiver = Board; count = 0 } b.tail.left c.from-count.result b.each c.rising.ensures.set c.if-tail-eq0.true (omega arith) c.from-count.ensures c.minus-cards.ensures.value c.requires.at in
    let last : List Slot = take (length b.later.now - 1) (drop 1 b.later.now) in
    omega (arith, s.within, c.count-then-tail-eq0.ensures.value)

pub count_ways-requires-clause-enough : goal.count_ways-requires-clause-enough
count_ways-requires-clause-enough g t c =
    let b = c.args.branch.now in
    let s = next_slot (g.F.Leaf.deal c.args.leaf.now) (g.F.Leaf.depth (g.F.Leaf.deal c.args.leaf.now)) (take b.slot c.args.sets.now) b.unseen b.tail.taken b.tail.rest c.minus-cards.result b.later.now record { receiver = Board; count = 0 } b.tail.left c.from-count.result b.each c.rising.ensures.set c.if-tail-eq0.true (omega arith) c.from-count.ensures c.minus-cards.ensures.value c.requires.at in
    let last : List Slot = take (length b.later.now - 1) (drop 1 b.later.now) in
    omega (arith, s.enough, c.count-then-tail-eq0.ensures.value)

pub count_ways-requires-clause-fits : goal.count_ways-requires-clause-fits
count_ways-requires-clause-fits g t c =
    let b = c.args.branch.now in
    let s = next_slot (g.F.Leaf.deal c.args.leaf.now) (g.F.Leaf.depth (g.F.Leaf.deal c.args.leaf.now)) (take b.slot c.args.sets.now) b.unseen b.tail.taken b.tail.rest c.minus-cards.result b.later.now record { receiver = Board; count = 0 } b.tail.left c.from-count.result b.each c.rising.ensures.set c.if-tail-eq0.true (omega arith) c.from-count.ensures c.minus-cards.ensures.value c.requires.at in
    let last : List Slot = take (length b.later.now - 1) (drop 1 b.later.now) in
    rw c.count-then-tail-eq0.ensures.value s.fewer

pub count_range-requires : goal.count_range-requires
count_range-requires g t c =
    let b = c.args.branch.now in
    let deal = g.F.Leaf.deal c.args.leaf.now in
    let front = take b.slot c.args.sets.now in
    let s = next_slot (g.F.Leaf.deal c.args.leaf.now) (g.F.Leaf.depth (g.F.Leaf.deal c.args.leaf.now)) (take b.slot c.args.sets.now) b.unseen b.tail.taken b.tail.rest c.minus-cards.result b.later.now record { receiver = Board; count = 0 } b.tail.left c.from-count.result b.each c.rising.ensures.set c.if-tail-eq0.true (omega arith) c.from-count.ensures c.minus-cards.ensures.value c.requires.at in
    let last : List Slot = take (length b.later.now - 1) (drop 1 b.later.now) in
    let room = c.requires.room in
    let fewer : length last + 1 ≡ length b.later.now = last_length b.later.now (omega arith) in
    let few : length c.minus-cards.result ≤ 52 = (let n = c.count-then-tail-eq0.ensures.bound in omega (arith, c.count-then-tail-eq0.ensures.value)) in
    let filled : c.count_ways.result ≡ ways (length c.minus-cards.result - c.from-count.result) (counts_of last) = c.count_ways.ensures ∙ ap (λ n. ways (n - c.from-count.result) (counts_of last)) c.count-then-tail-eq0.ensures.value in
    let at = s.at c.empty.result c.count_ways.result c.empty.ensures filled in
    let put : take (b.slot + 1) (set c.args.sets.now b.slot b.tail.taken) ≡ front ++ b.tail.taken ∷ [] = take_set b.slot c.args.sets.now b.tail.taken (omega arith) in
    let P : List (List ℕ) → Type 0 = λ f. IsAt deal (g.F.Leaf.depth deal) f c.minus-cards.result c.empty.result c.minus-cards.result c.from-count.result last c.count_ways.result in
    let same : length (going_on b.unseen b.tail.taken b.tail.rest b.tail.left (counts_of b.later.now)) ≡ length (going_on c.minus-cards.result c.empty.result c.minus-cards.result c.from-count.result (counts_of last)) =
    s.same ∙ ap (λ e. length (going_on c.minus-cards.result e c.minus-cards.result c.from-count.result (counts_of last))) (sym c.empty.ensures) in
    λ κs lives. (omega arith, (lives.0, (lives.1, (subst P (sym put) at, ((let q = length-set c.args.sets.now b.slot b.tail.taken in omega arith), (c.requires.order, ((let i = c.requires.inside in omega arith), (c.requires.places, c.requires.fits))))))))

pub returns-then-tail-eq0-clause-counts : goal.returns-then-tail-eq0-clause-counts
returns-then-tail-eq0-clause-counts g t c =
    let b = c.args.branch.now in
    let deal = g.F.Leaf.deal c.args.leaf.now in
    let front = take b.slot c.args.sets.now in
    let s = next_slot (g.F.Leaf.deal c.args.leaf.now) (g.F.Leaf.depth (g.F.Leaf.deal c.args.leaf.now)) (take b.slot c.args.sets.now) b.unseen b.tail.taken b.tail.rest c.minus-cards.result b.later.now record { receiver = Board; count = 0 } b.tail.left c.from-count.result b.each c.rising.ensures.set c.if-tail-eq0.true (omega arith) c.from-count.ensures c.minus-cards.ensures.value c.requires.at in
    let last : List Slot = take (length b.later.now - 1) (drop 1 b.later.now) in
    let room = c.requires.room in
    let put : take (b.slot + 1) (set c.args.sets.now b.slot b.tail.taken) ≡ front ++ b.tail.taken ∷ [] = take_set b.slot c.args.sets.now b.tail.taken (omega arith) in
    let here = going_on c.minus-cards.result c.empty.result c.minus-cards.result c.from-count.result (counts_of last) in
    let whole = s.parts ∙ ap (λ e. map (λ sets. b.tail.taken ∷ sets) (going_on c.minus-cards.result e c.minus-cards.result c.from-count.result (counts_of last))) (sym c.empty.ensures) in
    grown_next deal front (take (b.slot + 1) (set c.args.sets.now b.slot b.tail.taken)) b.tail.taken (going_on b.unseen b.tail.taken b.tail.rest b.tail.left (counts_of b.later.now)) here c.args.between.lo c.args.between.hi c.args.counts.now c.count_range.new.counts put whole c.count_range.ensures.counts

pub returns-then-tail-eq0-clause-front : goal.returns-then-tail-eq0-clause-front
returns-then-tail-eq0-clause-front g t c =
    let b = c.args.branch.now in
    let room = c.requires.room in
    front_again b.slot c.args.sets.now c.count_range.new.sets b.tail.taken (omega arith) c.count_range.ensures.front

pub count-requires-clause-deep : goal.count-requires-clause-deep
count-requires-clause-deep g t c =
    let b = c.args.branch.now in
    let last = yes_last (length b.later.now) b.tail.left c.depth.result c.is_last.result c.is_last.ensures c.if-is_last.true in
    let s = last_slot (g.F.Leaf.deal c.args.leaf.now) (g.F.Leaf.depth (g.F.Leaf.deal c.args.leaf.now)) (take b.slot c.args.sets.now) b.unseen b.tail.taken b.tail.rest b.tail.left b.later.now b.each last.0 c.requires.at in
    last.1 ∙ c.depth.ensures

pub count-requires-clause-last : goal.count-requires-clause-last
count-requires-clause-last g t c =
    let b = c.args.branch.now in
    let last = yes_last (length b.later.now) b.tail.left c.depth.result c.is_last.result c.is_last.ensures c.if-is_last.true in
    let s = last_slot (g.F.Leaf.deal c.args.leaf.now) (g.F.Leaf.depth (g.F.Leaf.deal c.args.leaf.now)) (take b.slot c.args.sets.now) b.unseen b.tail.taken b.tail.rest b.tail.left b.later.now b.each last.0 c.requires.at in
    s.place

pub count-requires-clause-end : goal.count-requires-clause-end
count-requires-clause-end g t c =
    let b = c.args.branch.now in
    let last = yes_last (length b.later.now) b.tail.left c.depth.result c.is_last.result c.is_last.ensures c.if-is_last.true in
    let s = last_slot (g.F.Leaf.deal c.args.leaf.now) (g.F.Leaf.depth (g.F.Leaf.deal c.args.leaf.now)) (take b.slot c.args.sets.now) b.unseen b.tail.taken b.tail.rest b.tail.left b.later.now b.each last.0 c.requires.at in
    s.end

pub count-requires-clause-members : goal.count-requires-clause-members
count-requires-clause-members g t c =
    let b = c.args.branch.now in
    let last = yes_last (length b.later.now) b.tail.left c.depth.result c.is_last.result c.is_last.ensures c.if-is_last.true in
    let s = last_slot (g.F.Leaf.deal c.args.leaf.now) (g.F.Leaf.depth (g.F.Leaf.deal c.args.leaf.now)) (take b.slot c.args.sets.now) b.unseen b.tail.taken b.tail.rest b.tail.left b.later.now b.each last.0 c.requires.at in
    s.members

pub count-requires-clause-inside : goal.count-requires-clause-inside
count-requires-clause-inside g t c =
    let b = c.args.branch.now in
    let last = yes_last (length b.later.now) b.tail.left c.depth.result c.is_last.result c.is_last.ensures c.if-is_last.true in
    let s = last_slot (g.F.Leaf.deal c.args.leaf.now) (g.F.Leaf.depth (g.F.Leaf.deal c.args.leaf.now)) (take b.slot c.args.sets.now) b.unseen b.tail.taken b.tail.rest b.tail.left b.later.now b.each last.0 c.requires.at in
    let i = c.requires.inside in
    omega (arith, s.same)

pub returns-then-is_last-clause-counts : goal.returns-then-is_last-clause-counts
returns-then-is_last-clause-counts g t c =
    let b = c.args.branch.now in
    let last = yes_last (length b.later.now) b.tail.left c.depth.result c.is_last.result c.is_last.ensures c.if-is_last.true in
    let deal = g.F.Leaf.deal c.args.leaf.now in
    let front = take b.slot c.args.sets.now in
    let s = last_slot (g.F.Leaf.deal c.args.leaf.now) (g.F.Leaf.depth (g.F.Leaf.deal c.args.leaf.now)) (take b.slot c.args.sets.now) b.unseen b.tail.taken b.tail.rest b.tail.left b.later.now b.each last.0 c.requires.at in
    grown_last deal front b.tail.taken (going_on b.unseen b.tail.taken b.tail.rest b.tail.left (counts_of b.later.now)) (choose b.tail.left b.tail.rest) c.args.between.lo c.args.between.hi c.args.counts.now c.count.new.counts s.parts c.count.ensures.counts

pub returns-then-with_card-lo-clause-steps : goal.returns-then-with_card-lo-clause-steps
returns-then-with_card-lo-clause-steps g t c = omega (arith, c.count_range-then-with_card-lo.ensures.steps, c.if-with_card-lo.true)

pub returns-clause-places : goal.returns-clause-places
returns-clause-places g t c = c.count_range-3.ensures.places ∙ c.count_range-2.ensures.places

pub returns-clause-front : goal.returns-clause-front
returns-clause-front g t c = c.count_range-3.ensures.front ∙ c.count_range-2.ensures.front

pub returns-clause-room : goal.returns-clause-room
returns-clause-room g t c = c.count_range-3.ensures.room ∙ c.count_range-2.ensures.room

pub returns-clause-deal : goal.returns-clause-deal
returns-clause-deal g t c = c.count_range-3.ensures.deal ∙ c.count_range-2.ensures.deal

pub returns-clause-steps : goal.returns-clause-steps
returns-clause-steps g t c = omega (arith, c.count_range-3.ensures.steps, c.count_range-2.ensures.steps, c.if-hi-with_card.false, c.if-with_card-lo.false)

pub returns-then-tail-eq0-clause-room : goal.returns-then-tail-eq0-clause-room
returns-then-tail-eq0-clause-room g t c = c.count_range.ensures.room ∙ length-set c.args.sets.now c.args.branch.now.slot c.args.branch.now.tail.taken
