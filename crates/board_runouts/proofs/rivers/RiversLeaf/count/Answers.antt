use Rattle.std.proofs.Common.{◌≡◌, ◌∷◌, ◌-◌, ◌≤◌, [], List, ℕ, length, map, sym, ap, ◌∙◌, arith, subst}
use Rattle.std.specs.List.{slice_range}
use Rattle.card_sets.specs.Choose.{choose}
use Rattle.runout_ranges.specs.Runouts.{HasMember}
use Rattle.showdown_tally.specs.Deals.{deal_of}
use Rattle.showdown_tally.specs.SideCounts.{CountsFit, CountsGrow}
use Rattle.showdown_tally.specs.declared.table.Table.{Table}
use Rattle.runout_walk.proofs.CallerLemmas.{one_length, in_range, length-range}
use Rattle.board_runouts.proofs.RiverFacts.{IsRiver, grow_rivers, river_of}
use Rattle.board_runouts.proofs.rivers.RiversLeaf.count.Goals as goal

pub slice_bounds-some-end : goal.slice_bounds-some-end
slice_bounds-some-end g c =
    let all : c.as_slice-all.result.now ≡ c.args.span.now.tail.rest = c.as_slice-all.ensures ∙ c.of-cards.ensures.cards in
    let more : length (choose c.args.span.now.tail.left c.args.span.now.tail.rest) ≡ length c.args.span.now.tail.rest = ap (λ n. length (choose n c.args.span.now.tail.rest)) c.requires.deep ∙ one_length c.args.span.now.tail.rest in
    let end : c.args.span.now.hi ≤ length c.as_slice-all.result.now = (let i = c.requires.inside in omega (arith, more, ap length all)) in
    let order : c.args.span.now.lo ≤ c.args.span.now.hi = (let o = c.requires.order in omega arith) in
    omega (arith, end, order)

pub count_cards-requires-clause-members : goal.count_cards-requires-clause-members
count_cards-requires-clause-members g c = λ card m.
    let river : IsRiver c.args.self.now.spot c.args.span.now.front.now c.args.span.now.tail.taken c.args.span.now.tail.rest =
    river_of c.args.self.now.spot c.args.self.now.table c.args.span.now.front.now c.args.span.now.tail.taken c.args.span.now.tail.rest c.args.span.now.tail.left c.args.span.now.lo c.args.span.now.hi c.args.self.now.same c.args.self.now.one c.requires.last c.requires.deep c.requires.members c.requires.order c.requires.inside in
    let all : c.as_slice-all.result.now ≡ c.args.span.now.tail.rest = c.as_slice-all.ensures ∙ c.of-cards.ensures.cards in
    let P : List ℕ → Type 0 = λ l. HasMember l card in
    river.members card (subst P all (in_range c.as_slice-all.result.now c.args.span.now.lo c.args.span.now.hi card m))

pub count_cards-requires-clause-fits : goal.count_cards-requires-clause-fits
count_cards-requires-clause-fits g c =
    let all : c.as_slice-all.result.now ≡ c.args.span.now.tail.rest = c.as_slice-all.ensures ∙ c.of-cards.ensures.cards in
    let more : length (choose c.args.span.now.tail.left c.args.span.now.tail.rest) ≡ length c.args.span.now.tail.rest = ap (λ n. length (choose n c.args.span.now.tail.rest)) c.requires.deep ∙ one_length c.args.span.now.tail.rest in
    let end : c.args.span.now.hi ≤ length c.as_slice-all.result.now = (let i = c.requires.inside in omega (arith, more, ap length all)) in
    let order : c.args.span.now.lo ≤ c.args.span.now.hi = (let o = c.requires.order in omega arith) in
    let size : length (slice_range c.as_slice-all.result.now c.args.span.now.lo c.args.span.now.hi) ≡ c.args.span.now.hi - c.args.span.now.lo = length-range c.as_slice-all.result.now c.args.span.now.lo c.args.span.now.hi order end in
    let P : Table → Type 0 = λ t. CountsFit (deal_of t) c.args.counts.now (c.args.span.now.hi - c.args.span.now.lo) in
    let Q : ℕ → Type 0 = λ n. CountsFit (deal_of c.args.self.now.spot.table) c.args.counts.now n in
    subst Q (sym size) (subst P (sym c.args.self.now.same) c.requires.fits)

pub returns-clause-counts : goal.returns-clause-counts
returns-clause-counts g c =
    let river : IsRiver c.args.self.now.spot c.args.span.now.front.now c.args.span.now.tail.taken c.args.span.now.tail.rest =
    river_of c.args.self.now.spot c.args.self.now.table c.args.span.now.front.now c.args.span.now.tail.taken c.args.span.now.tail.rest c.args.span.now.tail.left c.args.span.now.lo c.args.span.now.hi c.args.self.now.same c.args.self.now.one c.requires.last c.requires.deep c.requires.members c.requires.order c.requires.inside in
    let all : c.as_slice-all.result.now ≡ c.args.span.now.tail.rest = c.as_slice-all.ensures ∙ c.of-cards.ensures.cards in
    let part : List ℕ = slice_range c.as_slice-all.result.now c.args.span.now.lo c.args.span.now.hi in
    let T : Table → Type 0 = λ t. CountsGrow (deal_of t) (map (λ card. (card ∷ []) ∷ []) part) c.args.counts.now c.count_cards.new.counts in
    grow_rivers (deal_of c.args.self.now.table) c.args.span.now.front.now c.args.span.now.tail.taken c.args.span.now.tail.rest c.as_slice-all.result.now c.args.span.now.tail.left c.args.span.now.lo c.args.span.now.hi c.args.counts.now c.count_cards.new.counts c.requires.deep river.none river.first all
    (subst T c.args.self.now.same c.count_cards.ensures.counts)

pub returns-clause-steps : goal.returns-clause-steps
returns-clause-steps g c =
    let all : c.as_slice-all.result.now ≡ c.args.span.now.tail.rest = c.as_slice-all.ensures ∙ c.of-cards.ensures.cards in
    let more : length (choose c.args.span.now.tail.left c.args.span.now.tail.rest) ≡ length c.args.span.now.tail.rest = ap (λ n. length (choose n c.args.span.now.tail.rest)) c.requires.deep ∙ one_length c.args.span.now.tail.rest in
    let end : c.args.span.now.hi ≤ length c.as_slice-all.result.now = (let i = c.requires.inside in omega (arith, more, ap length all)) in
    let order : c.args.span.now.lo ≤ c.args.span.now.hi = (let o = c.requires.order in omega arith) in
    let size : length (slice_range c.as_slice-all.result.now c.args.span.now.lo c.args.span.now.hi) ≡ c.args.span.now.hi - c.args.span.now.lo = length-range c.as_slice-all.result.now c.args.span.now.lo c.args.span.now.hi order end in
    omega (arith, c.count_cards.ensures.steps, size)
