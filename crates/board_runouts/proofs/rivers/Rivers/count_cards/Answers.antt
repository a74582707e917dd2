use Rattle.std.proofs.Common.{◌≡◌, ◌+◌, ◌≤◌, ◌∷◌, ◌∙◌, [], List, ℕ, length, map, take, sym, arith, subst}
use Rattle.std.proofs.lemmas.List.{length-map, length-take, take_all}
use Rattle.card_sets.specs.State.{state_of}
use Rattle.runout_ranges.specs.Runouts.{HasMember}
use Rattle.showdown_tally.specs.Deals.{deal_of}
use Rattle.showdown_tally.specs.SideCounts.{CountsFit, CountsGrow}
use Rattle.showdown_tally.specs.Tallies.{runouts_after}
use Rattle.board_runouts.specs.declared.spot.BoardSpot.{BoardSpot}
use Rattle.runout_walk.proofs.CallerLemmas.{room_left, member_at}
use Rattle.board_runouts.proofs.RiverFacts.{river_more}
use Rattle.board_runouts.proofs.rivers.Rivers.count_cards.Goals as goal

pub keep-requires : goal.keep-requires
keep-requires g c =
    let cards : List ℕ = c.args.cards.now in
    let card : ℕ = c.card-item.result in
    let M : List ℕ → ℕ → Type 0 = λ l k. HasMember l k in
    let here : HasMember cards card = subst (M cards) (sym c.card-item.is) (member_at cards c.loop-card.card-index card c.loop-card-test.true) in
    let P : BoardSpot → Type 0 = λ spot. HasMember (runouts_after (state_of spot.table.known)) ((card ∷ []) ∷ []) in
    let inv = c.loop-card.invariant in
    let member : P c.loop-card.self.spot = subst P (sym inv.spot) (c.requires.members card here) in
    record { member = member }

pub count_river-requires-clause-member : goal.count_river-requires-clause-member
count_river-requires-clause-member g c =
    let cards : List ℕ = c.args.cards.now in
    let card : ℕ = c.card-item.result in
    let M : List ℕ → ℕ → Type 0 = λ l k. HasMember l k in
    let here : HasMember cards card = subst (M cards) (sym c.card-item.is) (member_at cards c.loop-card.card-index card c.loop-card-test.true) in
    let P : BoardSpot → Type 0 = λ spot. HasMember (runouts_after (state_of spot.table.known)) ((card ∷ []) ∷ []) in
    let inv = c.loop-card.invariant in
    let member : P c.loop-card.self.spot = subst P (sym inv.spot) (c.requires.members card here) in
    subst P (sym c.keep.ensures.spot) member

pub count_river-requires-clause-won : goal.count_river-requires-clause-won
count_river-requires-clause-won g c = λ pot l.
    let cards : List ℕ = c.args.cards.now in
    let card : ℕ = c.card-item.result in
    let M : List ℕ → ℕ → Type 0 = λ l k. HasMember l k in
    let here : HasMember cards card = subst (M cards) (sym c.card-item.is) (member_at cards c.loop-card.card-index card c.loop-card-test.true) in
    let P : BoardSpot → Type 0 = λ spot. HasMember (runouts_after (state_of spot.table.known)) ((card ∷ []) ∷ []) in
    let inv = c.loop-card.invariant in
    let member : P c.loop-card.self.spot = subst P (sym inv.spot) (c.requires.members card here) in
    c.keep.new.self.kept pot card l (sym c.keep.ensures.rank) (subst P (sym c.keep.ensures.spot) member)

pub count_river-requires-clause-fits : goal.count_river-requires-clause-fits
count_river-requires-clause-fits g c =
    let cards : List ℕ = c.args.cards.now in
    let inv = c.loop-card.invariant in
    let so_far : List (List (List ℕ)) = map (λ card. (card ∷ []) ∷ []) (take c.loop-card.card-index cards) in
    let size : length so_far + 1 ≤ length cards = (let t = c.loop-card-test.true in omega (arith, length-map (take c.loop-card.card-index cards) (λ (card : ℕ). (card ∷ []) ∷ []), length-take c.loop-card.card-index cards)) in
    let F : BoardSpot → Type 0 = λ spot. CountsFit (deal_of spot.table) c.loop-card.counts 1 in
    subst F (sym (c.keep.ensures.spot ∙ inv.spot)) (room_left (deal_of c.args.self.now.spot.table) so_far c.args.counts.now c.loop-card.counts (length cards) 1 size c.requires.fits inv.counts)

pub loop-card-preserved : goal.loop-card-preserved
loop-card-preserved g c =
    let cards : List ℕ = c.args.cards.now in
    let card : ℕ = c.card-item.result in
    let inv = c.loop-card.invariant in
    let spot : c.keep.new.self.spot ≡ c.args.self.now.spot = c.keep.ensures.spot ∙ inv.spot in
    let G : BoardSpot → Type 0 = λ spot. CountsGrow (deal_of spot.table) (((card ∷ []) ∷ []) ∷ []) c.loop-card.counts c.count_river.new.counts in
    record {
      counts = river_more (deal_of c.args.self.now.spot.table) cards c.loop-card.card-index card c.args.counts.now c.loop-card.counts c.count_river.new.counts c.loop-card-test.true c.card-item.is inv.counts (subst G spot c.count_river.ensures.counts);
      places = c.count_river.ensures.places ∙ inv.places;
      steps = (let s = inv.steps in omega (arith, s, c.tick.ensures));
      spot = spot;
      table = c.keep.ensures.table ∙ inv.table;
    }

pub returns-clause-counts : goal.returns-clause-counts
returns-clause-counts g c =
    let cards : List ℕ = c.args.cards.now in
    let P : List ℕ → Type 0 = λ l. CountsGrow (deal_of c.args.self.now.spot.table) (map (λ card. (card ∷ []) ∷ []) l) c.args.counts.now c.loop-card.counts in
    let all : take c.loop-card.card-index cards ≡ cards = take_all c.loop-card.card-index cards (let f = c.loop-card-test.false in f) in
    subst P all c.loop-card.invariant.counts
