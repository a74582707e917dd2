use Rattle.std.proofs.Common.{◌≡◌, ◌<◌, false, length, refl, arith, get_or-set_same}
use Rattle.std.proofs.lemmas.List.{length-set}
use Rattle.card_sets.specs.Games.{has_side}
use Rattle.card_sets.specs.declared.games.Side.TheVariants.{High, Low}
use Rattle.board_ranks.specs.Sieves.{plain_pairs}
use Rattle.board_runouts.specs.Fronts.{front_deal}
use Rattle.board_runouts.proofs.FrontFacts.{row_of}
use Rattle.board_runouts.proofs.PairCounts.{board_high, only_pot}
use Rattle.board_runouts.proofs.PlainPairs.{plain_all, plain_coded, plain_codes, plain_inside, plain_mains, plain_rows}
use Rattle.board_runouts.proofs.plain_ranks.count_plain.Goals as goal

pub count_codes-requires-clause-inside : goal.count_codes-requires-clause-inside
count_codes-requires-clause-inside g c =
    plain_inside c.args.front.now.spot.now c.args.front.now.taken (plain_pairs c.args.front.now.suits.now c.args.pairs.now) c.args.all.now (plain_all c.args.front.now.spot.now c.args.front.now.taken c.args.front.now.suits.now c.args.pairs.now c.args.front.now.fives c.args.front.now.places c.requires.pairs) c.requires.ranks

pub count_codes-requires-clause-coded : goal.count_codes-requires-clause-coded
count_codes-requires-clause-coded g c =
    plain_coded c.args.front.now.spot.now c.args.front.now.taken c.in-Some.codes.now (plain_pairs c.args.front.now.suits.now c.args.pairs.now) c.args.all.now (plain_all c.args.front.now.spot.now c.args.front.now.taken c.args.front.now.suits.now c.args.pairs.now c.args.front.now.fives c.args.front.now.places c.requires.pairs) c.requires.ranks c.law_values_keep_order.ensures (λ pot p. c.all_are_hands.ensures pot (let n = c.args.front.now.spot.now.pots in omega arith)) (c.args.front.now.codes_are c.in-Some.codes c.in-Some.is) (c.args.front.now.enough c.in-Some.codes c.in-Some.is)

pub returns-in-Some-clause-counts : goal.returns-in-Some-clause-counts
returns-in-Some-clause-counts g c = record {
  counted = plain_codes c.args.front.now.spot.now c.args.front.now.taken c.in-Some.codes.now (plain_pairs c.args.front.now.suits.now c.args.pairs.now) c.args.all.now c.args.counts.now c.count_codes.new.counts (plain_all c.args.front.now.spot.now c.args.front.now.taken c.args.front.now.suits.now c.args.pairs.now c.args.front.now.fives c.args.front.now.places c.requires.pairs) c.requires.ranks c.law_values_keep_order.ensures (λ pot p. c.all_are_hands.ensures pot (let n = c.args.front.now.spot.now.pots in omega arith)) (c.args.front.now.codes_are c.in-Some.codes c.in-Some.is) (c.args.front.now.enough c.in-Some.codes c.in-Some.is) c.count_codes.ensures.counts;
  rows = c.count_codes.ensures.same;
}

pub count_mains-requires-clause-inside : goal.count_mains-requires-clause-inside
count_mains-requires-clause-inside g c =
    plain_inside c.args.front.now.spot.now c.args.front.now.taken (plain_pairs c.args.front.now.suits.now c.args.pairs.now) c.args.all.now (plain_all c.args.front.now.spot.now c.args.front.now.taken c.args.front.now.suits.now c.args.pairs.now c.args.front.now.fives c.args.front.now.places c.requires.pairs) c.requires.ranks

pub count_mains-requires-clause-fits : goal.count_mains-requires-clause-fits
count_mains-requires-clause-fits g c = λ place l.
    let n = c.args.front.now.spot.now.pots in
    let t = c.if-spot-eq1.true in
    c.requires.room.fits 0 place High (omega arith) (board_high c.args.front.now.spot.now.table.known.game c.args.front.now.spot.now.dealt) l

pub returns-then-not-has_side-clause-counts : goal.returns-then-not-has_side-clause-counts
returns-then-not-has_side-clause-counts g c =
    let n = c.args.front.now.spot.now.pots in
    let t = c.if-spot-eq1.true in
    let here : 0 < length c.args.counts.now = (let q = c.requires.room.rows in omega arith) in
    let no_low : has_side Low c.args.front.now.spot.now.table.known.game ≡ false = grind (arith, c.has_side.ensures, c.if-not-has_side.true) in
    let cells = plain_mains c.args.front.now.spot.now c.args.front.now.taken c.index-rows-0.result (plain_pairs c.args.front.now.suits.now c.args.pairs.now) c.args.all.now _ _ (plain_all c.args.front.now.spot.now c.args.front.now.taken c.args.front.now.suits.now c.args.pairs.now c.args.front.now.fives c.args.front.now.places c.requires.pairs) c.requires.ranks c.law_values_keep_order.ensures (c.all_are_hands.ensures 0 (omega arith)) (c.args.front.now.rows_are 0 c.index-rows-0.result (row_of c.args.front.now 0 0 c.index-rows-0.result refl (omega arith) c.index-rows-0.is)) c.count_mains.ensures.cells in
    record {
      counted = only_pot (front_deal c.args.front.now) c.args.front.now.taken (plain_pairs c.args.front.now.suits.now c.args.pairs.now) c.args.counts.now _ (omega arith) no_low (λ place l. rw get_or-set_same (cells place l));
      rows = length-set c.args.counts.now 0 _;
    }

pub count_rows-requires-clause-inside : goal.count_rows-requires-clause-inside
count_rows-requires-clause-inside g c =
    plain_inside c.args.front.now.spot.now c.args.front.now.taken (plain_pairs c.args.front.now.suits.now c.args.pairs.now) c.args.all.now (plain_all c.args.front.now.spot.now c.args.front.now.taken c.args.front.now.suits.now c.args.pairs.now c.args.front.now.fives c.args.front.now.places c.requires.pairs) c.requires.ranks

pub returns-clause-counts : goal.returns-clause-counts
returns-clause-counts g c = record {
  counted = plain_rows c.args.front.now.spot.now c.args.front.now.taken c.args.front.now.rows.now (plain_pairs c.args.front.now.suits.now c.args.pairs.now) c.args.all.now c.args.counts.now c.count_rows.new.counts (plain_all c.args.front.now.spot.now c.args.front.now.taken c.args.front.now.suits.now c.args.pairs.now c.args.front.now.fives c.args.front.now.places c.requires.pairs) c.requires.ranks c.law_values_keep_order.ensures (λ pot p. c.all_are_hands.ensures pot (let n = c.args.front.now.spot.now.pots in omega arith)) c.args.front.now.rows_are c.args.front.now.pots c.count_rows.ensures.counts;
  rows = c.count_rows.ensures.same;
}
