use Rattle.std.proofs.Common.{◌≡◌, ◌+◌, ◌≤◌, List, length, sym, ap, ◌∙◌, arith, subst}
use Rattle.runout_ranges.specs.Runouts.{HasMember}
use Rattle.board_ranks.specs.Sieves.{flush_pairs, plain_pairs, plain_ranks}
use Rattle.board_ranks.specs.declared.pair.Pair.{Pair}
use Rattle.board_runouts.specs.Fronts.{front_deal}
use Rattle.board_runouts.specs.KeptRows.{PairsGrow}
use Rattle.runout_walk.proofs.CallerLemmas.{room_less}
use Rattle.board_runouts.proofs.PlainPairs.{flush_member, parts_grow, parts_size, plain_size, room_after}
use Rattle.board_runouts.proofs.parts.count_parts.Goals as goal

pub count_plain-requires-clause-ranks : goal.count_plain-requires-clause-ranks
count_plain-requires-clause-ranks g c = c.args.parts.now.plain_are ∙ ap (λ suits. plain_ranks suits c.args.parts.now.pairs.now) (sym c.requires.suits)

pub count_plain-requires-clause-room : goal.count_plain-requires-clause-room
count_plain-requires-clause-room g c =
    let plain : c.args.parts.now.plain.now ≡ plain_ranks c.args.front.now.suits.now c.args.parts.now.pairs.now = c.args.parts.now.plain_are ∙ ap (λ suits. plain_ranks suits c.args.parts.now.pairs.now) (sym c.requires.suits) in
    let few : length c.args.parts.now.plain.now ≤ length c.args.parts.now.pairs.now = omega (arith, ap length plain, parts_size c.args.front.now.suits.now c.args.parts.now.pairs.now) in
    record {
      rows = c.requires.room.rows;
      fits = room_less (front_deal c.args.front.now) c.args.counts.now (length c.args.parts.now.pairs.now) (length c.args.parts.now.plain.now) few c.requires.room.fits;
    }

pub count_each-requires-clause-pairs : goal.count_each-requires-clause-pairs
count_each-requires-clause-pairs g c = λ pair m.
    let flush : c.args.parts.now.flush.now ≡ flush_pairs c.args.front.now.suits.now c.args.parts.now.pairs.now = c.args.parts.now.flush_are ∙ ap (λ suits. flush_pairs suits c.args.parts.now.pairs.now) (sym c.requires.suits) in
    let M : List Pair → Type 0 = λ pairs. HasMember pairs pair in
    c.requires.pairs pair (flush_member c.args.front.now.suits.now c.args.parts.now.pairs.now pair (subst M flush m))

pub count_each-requires-clause-room : goal.count_each-requires-clause-room
count_each-requires-clause-room g c =
    let flush : c.args.parts.now.flush.now ≡ flush_pairs c.args.front.now.suits.now c.args.parts.now.pairs.now = c.args.parts.now.flush_are ∙ ap (λ suits. flush_pairs suits c.args.parts.now.pairs.now) (sym c.requires.suits) in
    let sizes : length (plain_pairs c.args.front.now.suits.now c.args.parts.now.pairs.now) + length c.args.parts.now.flush.now ≤ length c.args.parts.now.pairs.now = omega (arith, ap length flush, plain_size c.args.front.now.suits.now c.args.parts.now.pairs.now, parts_size c.args.front.now.suits.now c.args.parts.now.pairs.now) in
    record {
      rows = (let r = c.requires.room.rows in let s = c.count_plain.ensures.counts.rows in omega arith);
      fits = room_after (front_deal c.args.front.now) c.args.front.now.taken (plain_pairs c.args.front.now.suits.now c.args.parts.now.pairs.now) c.args.counts.now c.count_plain.new.counts (length c.args.parts.now.pairs.now) (length c.args.parts.now.flush.now) c.requires.room.fits sizes c.count_plain.ensures.counts.counted;
    }

pub returns-clause-counts : goal.returns-clause-counts
returns-clause-counts g c =
    let flush : c.args.parts.now.flush.now ≡ flush_pairs c.args.front.now.suits.now c.args.parts.now.pairs.now = c.args.parts.now.flush_are ∙ ap (λ suits. flush_pairs suits c.args.parts.now.pairs.now) (sym c.requires.suits) in
    let G : List Pair → Type 0 = λ pairs. PairsGrow (front_deal c.args.front.now) c.args.front.now.taken pairs c.count_plain.new.counts c.count_each.new.counts in
    record {
      counted = parts_grow (front_deal c.args.front.now) c.args.front.now.taken c.args.front.now.suits.now c.args.parts.now.pairs.now c.args.counts.now c.count_plain.new.counts c.count_each.new.counts c.count_plain.ensures.counts.counted (subst G flush c.count_each.ensures.counts.counted);
      rows = c.count_each.ensures.counts.rows ∙ c.count_plain.ensures.counts.rows;
    }

pub returns-clause-steps : goal.returns-clause-steps
returns-clause-steps g c =
    let plain : c.args.parts.now.plain.now ≡ plain_ranks c.args.front.now.suits.now c.args.parts.now.pairs.now = c.args.parts.now.plain_are ∙ ap (λ suits. plain_ranks suits c.args.parts.now.pairs.now) (sym c.requires.suits) in
    let flush : c.args.parts.now.flush.now ≡ flush_pairs c.args.front.now.suits.now c.args.parts.now.pairs.now = c.args.parts.now.flush_are ∙ ap (λ suits. flush_pairs suits c.args.parts.now.pairs.now) (sym c.requires.suits) in
    omega (arith, c.count_plain.ensures.steps, c.count_each.ensures.steps, ap length plain, ap length flush, parts_size c.args.front.now.suits.now c.args.parts.now.pairs.now)
