use Rattle.std.proofs.Common.{◌≡◌, ◌-◌, ◌≤◌, List, length, map, sym, ap, ◌∙◌, arith, subst}
use Rattle.std.specs.Prelude.{slice_index}
use Rattle.std.specs.List.{slice_range}
use Rattle.card_sets.specs.Choose.{choose}
use Rattle.card_sets.specs.State.{state_of}
use Rattle.runout_ranges.specs.Slots.{unseen}
use Rattle.showdown_tally.specs.Deals.{deal_of}
use Rattle.board_ranks.specs.declared.pair.Pair.{Pair}
use Rattle.board_ranks.specs.declared.sieve.Sieve.{Sieve}
use Rattle.board_runouts.specs.Codes.{AreAllCodes}
use Rattle.board_runouts.specs.KeptRows.{AreRows}
use Rattle.board_runouts.specs.Pairs.{cards_of_pair}
use Rattle.board_runouts.specs.declared.spot.BoardSpot.{BoardSpot}
use Rattle.board_runouts.proofs.BoardLeaf.{IsLeafOf, end_of_all, flushes_back, front_flushes, front_grow, front_members, front_room, leaf_grow, leaf_of}
use Rattle.board_runouts.proofs.BoardRunouts.{stretch-length}
use Rattle.board_runouts.proofs.CodedPairs.{codes_for, right_as}
use Rattle.board_runouts.proofs.boards.BoardsLeaf.count.Goals as goal

pub of-start-requires-clause-first : goal.of-start-requires-clause-first
of-start-requires-clause-first g c =
    (leaf_of c.args.self.now.spot c.args.self.now.table c.args.span.now.front.now c.args.span.now.tail.taken c.args.span.now.tail.rest c.args.span.now.tail.left c.args.span.now.lo c.args.span.now.hi c.args.self.now.same c.requires.last c.requires.deep c.requires.members c.requires.order c.requires.inside).first

pub of-start-requires-clause-own : goal.of-start-requires-clause-own
of-start-requires-clause-own g c =
    (leaf_of c.args.self.now.spot c.args.self.now.table c.args.span.now.front.now c.args.span.now.tail.taken c.args.span.now.tail.rest c.args.span.now.tail.left c.args.span.now.lo c.args.span.now.hi c.args.self.now.same c.requires.last c.requires.deep c.requires.members c.requires.order c.requires.inside).own

pub ready-base-requires : goal.ready-base-requires
ready-base-requires g c = let R : BoardSpot → Type 0 = λ it. AreRows (deal_of it.table) c.args.self.now.rows.rows.items in record { right = subst R (sym c.of-start.ensures.spot) c.args.self.now.right }

pub ready-place-requires-clause-rows : goal.ready-place-requires-clause-rows
ready-place-requires-clause-rows g c = λ pot row at.
    let r = c.stretch-rows.ensures.rows pot row at in
    let named = c.ready-base.ensures.ready.names pot row r.0 r.1 in
    right_as (deal_of c.of-start.result.spot.now.table) pot c.of-start.result.ranks c.of-start.result.least row named (c.ready-base.ensures.ready.rows pot row r.0 r.1).right

pub ready-place-requires-clause-right : goal.ready-place-requires-clause-right
ready-place-requires-clause-right g c = let R : BoardSpot → Type 0 = λ it. AreAllCodes (deal_of it.table) c.args.self.now.codes.list.items in subst R (sym c.of-start.ensures.spot) c.args.self.now.coded

pub of-front-requires-clause-rows : goal.of-front-requires-clause-rows
of-front-requires-clause-rows g c = λ pot row at. let r = c.stretch-rows.ensures.rows pot row at in c.ready-base.ensures.ready.rows pot row r.0 r.1

pub of-front-requires-2-clause-rows : goal.of-front-requires-2-clause-rows
of-front-requires-2-clause-rows g c = λ pot row at. let r = c.stretch-rows.ensures.rows pot row at in c.ready-base.ensures.ready.rows pot row r.0 r.1

pub of-front-requires-2-clause-codes : goal.of-front-requires-2-clause-codes
of-front-requires-2-clause-codes g c = λ codes is.
    let at = c.enough_at-codes.ensures.codes codes is in
    let place = c.ready-place.ensures in
    let start = c.of-start.result in
    codes_for (deal_of start.spot.now.table) start.taken start.ranks start.least codes.now (place.right c.ready-place.result codes.now at) (place.ranks codes.now at) (place.least codes.now at) start.ranks_are start.from_least

pub stretch-stretch-requires-clause-end : goal.stretch-stretch-requires-clause-end
stretch-stretch-requires-clause-end g c =
    let leaf : IsLeafOf c.args.self.now.spot c.args.span.now.front.now c.args.span.now.tail.taken c.args.span.now.tail.rest =
    leaf_of c.args.self.now.spot c.args.self.now.table c.args.span.now.front.now c.args.span.now.tail.taken c.args.span.now.tail.rest c.args.span.now.tail.left c.args.span.now.lo c.args.span.now.hi c.args.self.now.same c.requires.last c.requires.deep c.requires.members c.requires.order c.requires.inside in
    end_of_all c.args.span.now.front.now c.args.span.now.tail.rest c.serve.new.self.cards (unseen (state_of c.args.self.now.table.known)) leaf.none (c.serve.ensures ∙ c.args.self.now.all) c.requires.end

pub stretch-stretch-requires-clause-inside : goal.stretch-stretch-requires-clause-inside
stretch-stretch-requires-clause-inside g c =
    let inside : c.args.span.now.hi ≤ length (choose 2 c.args.span.now.tail.rest) = (let more : length (choose c.args.span.now.tail.left c.args.span.now.tail.rest) ≡ length (choose 2 c.args.span.now.tail.rest) = ap (λ n. length (choose n c.args.span.now.tail.rest)) c.requires.deep in let i = c.requires.inside in omega arith) in
    inside

pub count_each-requires-clause-pairs : goal.count_each-requires-clause-pairs
count_each-requires-clause-pairs g c =
    let leaf : IsLeafOf c.args.self.now.spot c.args.span.now.front.now c.args.span.now.tail.taken c.args.span.now.tail.rest =
    leaf_of c.args.self.now.spot c.args.self.now.table c.args.span.now.front.now c.args.span.now.tail.taken c.args.span.now.tail.rest c.args.span.now.tail.left c.args.span.now.lo c.args.span.now.hi c.args.self.now.same c.requires.last c.requires.deep c.requires.members c.requires.order c.requires.inside in
    let some : List Pair = c.between-some.result.now in
    let is : map cards_of_pair some ≡ slice_range (choose 2 c.args.span.now.tail.rest) c.args.span.now.lo c.args.span.now.hi = ap (map cards_of_pair) c.between-some.ensures ∙ c.stretch-stretch.ensures.pairs in
    front_members c.of-front.result c.args.self.now.spot c.args.span.now.tail.taken c.args.span.now.tail.rest some c.args.span.now.lo c.args.span.now.hi (c.of-front.ensures.spot ∙ c.of-start.ensures.spot) (c.of-front.ensures.taken ∙ c.of-start.ensures.taken) is leaf.members

pub count_each-requires-clause-room : goal.count_each-requires-clause-room
count_each-requires-clause-room g c =
    let inside : c.args.span.now.hi ≤ length (choose 2 c.args.span.now.tail.rest) = (let more : length (choose c.args.span.now.tail.left c.args.span.now.tail.rest) ≡ length (choose 2 c.args.span.now.tail.rest) = ap (λ n. length (choose n c.args.span.now.tail.rest)) c.requires.deep in let i = c.requires.inside in omega arith) in
    let some : List Pair = c.between-some.result.now in
    let is : map cards_of_pair some ≡ slice_range (choose 2 c.args.span.now.tail.rest) c.args.span.now.lo c.args.span.now.hi = ap (map cards_of_pair) c.between-some.ensures ∙ c.stretch-stretch.ensures.pairs in
    front_room c.of-front.result c.args.self.now.spot c.args.self.now.table c.args.counts.now some (c.args.span.now.hi - c.args.span.now.lo) (c.of-front.ensures.spot ∙ c.of-start.ensures.spot) c.args.self.now.same
    (stretch-length some c.args.span.now.tail.rest c.args.span.now.lo c.args.span.now.hi is c.requires.order inside) c.requires.places c.requires.fits

pub count_each-requires-clause-flushes : goal.count_each-requires-clause-flushes
count_each-requires-clause-flushes g c = front_flushes c.of-front.result c.args.self.now.spot c.args.self.now.flushes (c.of-front.ensures.spot ∙ c.of-start.ensures.spot) c.args.self.now.best

pub returns-then-eq-clause-counts : goal.returns-then-eq-clause-counts
returns-then-eq-clause-counts g c =
    let leaf : IsLeafOf c.args.self.now.spot c.args.span.now.front.now c.args.span.now.tail.taken c.args.span.now.tail.rest =
    leaf_of c.args.self.now.spot c.args.self.now.table c.args.span.now.front.now c.args.span.now.tail.taken c.args.span.now.tail.rest c.args.span.now.tail.left c.args.span.now.lo c.args.span.now.hi c.args.self.now.same c.requires.last c.requires.deep c.requires.members c.requires.order c.requires.inside in
    let some : List Pair = c.between-some.result.now in
    let is : map cards_of_pair some ≡ slice_range (choose 2 c.args.span.now.tail.rest) c.args.span.now.lo c.args.span.now.hi = ap (map cards_of_pair) c.between-some.ensures ∙ c.stretch-stretch.ensures.pairs in
    leaf_grow c.args.self.now.spot c.args.self.now.table c.args.span.now.front.now c.args.span.now.tail.taken c.args.span.now.tail.rest c.args.span.now.tail.left c.args.span.now.lo c.args.span.now.hi c.args.counts.now c.count_each.new.counts c.args.self.now.same leaf.none c.requires.deep
    (front_grow c.of-front.result c.args.self.now.spot c.args.span.now.tail.taken c.args.span.now.tail.rest some c.args.span.now.lo c.args.span.now.hi c.args.counts.now c.count_each.new.counts (c.of-front.ensures.spot ∙ c.of-start.ensures.spot) (c.of-front.ensures.taken ∙ c.of-start.ensures.taken) is c.count_each.ensures.counts)

pub returns-then-eq-clause-steps : goal.returns-then-eq-clause-steps
returns-then-eq-clause-steps g c =
    let inside : c.args.span.now.hi ≤ length (choose 2 c.args.span.now.tail.rest) = (let more : length (choose c.args.span.now.tail.left c.args.span.now.tail.rest) ≡ length (choose 2 c.args.span.now.tail.rest) = ap (λ n. length (choose n c.args.span.now.tail.rest)) c.requires.deep in let i = c.requires.inside in omega arith) in
    let some : List Pair = c.between-some.result.now in
    let is : map cards_of_pair some ≡ slice_range (choose 2 c.args.span.now.tail.rest) c.args.span.now.lo c.args.span.now.hi = ap (map cards_of_pair) c.between-some.ensures ∙ c.stretch-stretch.ensures.pairs in
    let size : length some ≡ c.args.span.now.hi - c.args.span.now.lo = stretch-length some c.args.span.now.tail.rest c.args.span.now.lo c.args.span.now.hi is c.requires.order inside in
    omega (arith, c.count_each.ensures.steps, size)

pub stretch-stretch-requires-2-clause-end : goal.stretch-stretch-requires-2-clause-end
stretch-stretch-requires-2-clause-end g c =
    let leaf : IsLeafOf c.args.self.now.spot c.args.span.now.front.now c.args.span.now.tail.taken c.args.span.now.tail.rest =
    leaf_of c.args.self.now.spot c.args.self.now.table c.args.span.now.front.now c.args.span.now.tail.taken c.args.span.now.tail.rest c.args.span.now.tail.left c.args.span.now.lo c.args.span.now.hi c.args.self.now.same c.requires.last c.requires.deep c.requires.members c.requires.order c.requires.inside in
    end_of_all c.args.span.now.front.now c.args.span.now.tail.rest c.ready-sieve.new.self.cards (unseen (state_of c.args.self.now.table.known)) leaf.none (c.ready-sieve.ensures.cards ∙ c.serve.ensures ∙ c.args.self.now.all) c.requires.end

pub stretch-stretch-requires-2-clause-inside : goal.stretch-stretch-requires-2-clause-inside
stretch-stretch-requires-2-clause-inside g c =
    let inside : c.args.span.now.hi ≤ length (choose 2 c.args.span.now.tail.rest) = (let more : length (choose c.args.span.now.tail.left c.args.span.now.tail.rest) ≡ length (choose 2 c.args.span.now.tail.rest) = ap (λ n. length (choose n c.args.span.now.tail.rest)) c.requires.deep in let i = c.requires.inside in omega arith) in
    inside

pub count_parts-requires-clause-pairs : goal.count_parts-requires-clause-pairs
count_parts-requires-clause-pairs g c =
    let leaf : IsLeafOf c.args.self.now.spot c.args.span.now.front.now c.args.span.now.tail.taken c.args.span.now.tail.rest =
    leaf_of c.args.self.now.spot c.args.self.now.table c.args.span.now.front.now c.args.span.now.tail.taken c.args.span.now.tail.rest c.args.span.now.tail.left c.args.span.now.lo c.args.span.now.hi c.args.self.now.same c.requires.last c.requires.deep c.requires.members c.requires.order c.requires.inside in
    let some : List Pair = c.parts-parts.result.pairs.now in
    let is : map cards_of_pair some ≡ slice_range (choose 2 c.args.span.now.tail.rest) c.args.span.now.lo c.args.span.now.hi = ap (map cards_of_pair) c.parts-parts.ensures.pairs ∙ c.stretch-stretch-2.ensures.pairs in
    front_members c.of-front-2.result c.args.self.now.spot c.args.span.now.tail.taken c.args.span.now.tail.rest some c.args.span.now.lo c.args.span.now.hi (c.of-front-2.ensures.spot ∙ c.of-start.ensures.spot) (c.of-front-2.ensures.taken ∙ c.of-start.ensures.taken) is leaf.members

pub count_parts-requires-clause-room : goal.count_parts-requires-clause-room
count_parts-requires-clause-room g c =
    let inside : c.args.span.now.hi ≤ length (choose 2 c.args.span.now.tail.rest) = (let more : length (choose c.args.span.now.tail.left c.args.span.now.tail.rest) ≡ length (choose 2 c.args.span.now.tail.rest) = ap (λ n. length (choose n c.args.span.now.tail.rest)) c.requires.deep in let i = c.requires.inside in omega arith) in
    let some : List Pair = c.parts-parts.result.pairs.now in
    let is : map cards_of_pair some ≡ slice_range (choose 2 c.args.span.now.tail.rest) c.args.span.now.lo c.args.span.now.hi = ap (map cards_of_pair) c.parts-parts.ensures.pairs ∙ c.stretch-stretch-2.ensures.pairs in
    front_room c.of-front-2.result c.args.self.now.spot c.args.self.now.table c.args.counts.now some (c.args.span.now.hi - c.args.span.now.lo) (c.of-front-2.ensures.spot ∙ c.of-start.ensures.spot) c.args.self.now.same
    (stretch-length some c.args.span.now.tail.rest c.args.span.now.lo c.args.span.now.hi is c.requires.order inside) c.requires.places c.requires.fits

pub count_parts-requires-clause-flushes : goal.count_parts-requires-clause-flushes
count_parts-requires-clause-flushes g c = front_flushes c.of-front-2.result c.args.self.now.spot c.args.self.now.flushes (c.of-front-2.ensures.spot ∙ c.of-start.ensures.spot) c.args.self.now.best

pub returns-clause-counts : goal.returns-clause-counts
returns-clause-counts g c =
    let leaf : IsLeafOf c.args.self.now.spot c.args.span.now.front.now c.args.span.now.tail.taken c.args.span.now.tail.rest =
    leaf_of c.args.self.now.spot c.args.self.now.table c.args.span.now.front.now c.args.span.now.tail.taken c.args.span.now.tail.rest c.args.span.now.tail.left c.args.span.now.lo c.args.span.now.hi c.args.self.now.same c.requires.last c.requires.deep c.requires.members c.requires.order c.requires.inside in
    let some : List Pair = c.parts-parts.result.pairs.now in
    let is : map cards_of_pair some ≡ slice_range (choose 2 c.args.span.now.tail.rest) c.args.span.now.lo c.args.span.now.hi = ap (map cards_of_pair) c.parts-parts.ensures.pairs ∙ c.stretch-stretch-2.ensures.pairs in
    leaf_grow c.args.self.now.spot c.args.self.now.table c.args.span.now.front.now c.args.span.now.tail.taken c.args.span.now.tail.rest c.args.span.now.tail.left c.args.span.now.lo c.args.span.now.hi c.args.counts.now c.count_parts.new.counts c.args.self.now.same leaf.none c.requires.deep
    (front_grow c.of-front-2.result c.args.self.now.spot c.args.span.now.tail.taken c.args.span.now.tail.rest some c.args.span.now.lo c.args.span.now.hi c.args.counts.now c.count_parts.new.counts (c.of-front-2.ensures.spot ∙ c.of-start.ensures.spot) (c.of-front-2.ensures.taken ∙ c.of-start.ensures.taken) is c.count_parts.ensures.counts)

pub returns-clause-steps : goal.returns-clause-steps
returns-clause-steps g c =
    let inside : c.args.span.now.hi ≤ length (choose 2 c.args.span.now.tail.rest) = (let more : length (choose c.args.span.now.tail.left c.args.span.now.tail.rest) ≡ length (choose 2 c.args.span.now.tail.rest) = ap (λ n. length (choose n c.args.span.now.tail.rest)) c.requires.deep in let i = c.requires.inside in omega arith) in
    let some : List Pair = c.parts-parts.result.pairs.now in
    let is : map cards_of_pair some ≡ slice_range (choose 2 c.args.span.now.tail.rest) c.args.span.now.lo c.args.span.now.hi = ap (map cards_of_pair) c.parts-parts.ensures.pairs ∙ c.stretch-stretch-2.ensures.pairs in
    let size : length some ≡ c.args.span.now.hi - c.args.span.now.lo = stretch-length some c.args.span.now.tail.rest c.args.span.now.lo c.args.span.now.hi is c.requires.order inside in
    omega (arith, c.count_parts.ensures.steps, size)

pub of-front-requires-2-clause-fives : goal.of-front-requires-2-clause-fives
of-front-requires-2-clause-fives g c = λ a b suit la lb at big s ls.
    let sieve : Sieve = c.parts-parts.result.sieve.now in
    let same : sieve.counts ≡ c.most_with-most.result = c.ready-sieve.ensures.counts sieve c.parts-parts.ensures.sieve in
    omega (arith, sieve.fives a b suit la lb at big s ls, ap (λ l. slice_index l s) same, c.most_with-most.ensures.value s ls)

pub invariant_of-self : goal.invariant_of-self
invariant_of-self g c =
    let R : BoardSpot → Type 0 = λ it. AreRows (deal_of it.table) c.ready-base.new.self.rows.items in
    record {
      same = c.args.self.now.same;
      all = c.args.self.now.all;
      right = subst R c.of-start.ensures.spot c.ready-base.ensures.ready.right;
      coded = c.args.self.now.coded;
      best = flushes_back c.of-front.result c.args.self.now.spot _ (c.of-front.ensures.spot ∙ c.of-start.ensures.spot) c.count_each.ensures.flushes;
    }

pub invariant_of-self-2 : goal.invariant_of-self-2
invariant_of-self-2 g c =
    let R : BoardSpot → Type 0 = λ it. AreRows (deal_of it.table) c.ready-base.new.self.rows.items in
    let C : BoardSpot → Type 0 = λ it. AreAllCodes (deal_of it.table) c.ready-place.new.self.list.items in
    record {
      same = c.args.self.now.same;
      all = c.args.self.now.all;
      right = subst R c.of-start.ensures.spot c.ready-base.ensures.ready.right;
      coded = subst C c.of-start.ensures.spot c.ready-place.ensures.right;
      best = flushes_back c.of-front-2.result c.args.self.now.spot _ (c.of-front-2.ensures.spot ∙ c.of-start.ensures.spot) c.count_parts.ensures.flushes;
    }
