use Rattle.std.proofs.Common.{◌≡◌, true, false, ◌-◌, ◌<◌, ◌≤◌, ◌+◌, ◌*◌, ◌==◌, ◌++◌, [], ℕ, List, length, map, suc, take, refl, sym, ap, ◌∙◌, arith, subst}
use Rattle.std.specs.Prelude.{slice_index, slice_index_or}
use Rattle.std.specs.List.{count_by, slice_range}
use Rattle.std.proofs.lemmas.List.{length-map, length-take}
use Rattle.card_sets.specs.Choose.{choose}
use Rattle.card_sets.specs.Games.{only_side}
use Rattle.card_sets.specs.PlayerSets.{AreBelow, hands_below, hands_of}
use Rattle.card_sets.specs.PlayerSetLaws.{AreBelow-hands_below}
use Rattle.card_sets.specs.State.{State, state_of}
use Rattle.card_sets.specs.declared.games.Side.{Side}
use Rattle.card_sets.specs.declared.games.Side.TheVariants.{Low}
use Rattle.runout_ranges.specs.Runouts.{HasMember}
use Rattle.runout_ranges.specs.Slots.{slots}
use Rattle.showdown_tally.proofs.CallerLemmas.{hand_of, eligible_pot}
use Rattle.showdown_tally.specs.Cells.{side_place}
use Rattle.showdown_tally.specs.Deals.{deal_of}
use Rattle.showdown_tally.specs.Showdown.{eligible_in, has_two_sides}
use Rattle.showdown_tally.specs.SideCounts.{count_at}
use Rattle.runout_walk.specs.Bests.{best_set}
use Rattle.draw_runouts.specs.Draws.{last_hand}
use Rattle.runout_walk.specs.Listing.{last_count}
use Rattle.draw_runouts.specs.LastHand.{value_with}
use Rattle.draw_runouts.specs.Worth.{number_of, worth}
use Rattle.draw_runouts.proofs.DrawLeaf.{AreOthers, IsLeafDraw, last_inside, leaf_counts, leaf_draw, leaf_sides, leaf_values}
use Rattle.runout_walk.proofs.CallerLemmas.{in_range, taken_none}
use Rattle.draw_runouts.proofs.DrawLists.{few_draws, few_twos}
use Rattle.draw_runouts.proofs.DrawWinners.{only_one}
use Rattle.draw_runouts.proofs.draws.DrawsLeaf.count.Goals as goal

pub write_draws-requires-clause-some : goal.write_draws-requires-clause-some
write_draws-requires-clause-some g c =
    let leaf = c.args.self.now in
    let st : State = state_of leaf.table.known in
    let size : suc (length c.args.span.now.front.now) ≡ length (slots st) = c.requires.last in
    let inside = last_inside st leaf.no_board (omega arith) in
    let deep : leaf.numbers.count ≡ last_count (slots st) = leaf.deep in
    omega (arith, inside.1, deep)

pub write_draws-requires-clause-room : goal.write_draws-requires-clause-room
write_draws-requires-clause-room g c =
    let leaf = c.args.self.now in
    let st : State = state_of leaf.table.known in
    let size : suc (length c.args.span.now.front.now) ≡ length (slots st) = c.requires.last in
    let inside = last_inside st leaf.no_board (omega arith) in
    let deep : leaf.numbers.count ≡ last_count (slots st) = leaf.deep in
    let left : c.args.span.now.tail.left ≡ last_count (slots st) = c.requires.deep in
    let few = leaf.few in
    let short : length c.args.span.now.tail.rest ≤ 52 = c.of-cards.ensures.few in
    let most = few_draws c.args.span.now.tail.rest c.args.span.now.tail.left short (omega (arith, inside.1, left)) (omega (arith, few, left, deep)) in
    let end = c.requires.inside in
    omega (arith, most, end, leaf.room)

pub count_pots-requires-clause-last : goal.count_pots-requires-clause-last
count_pots-requires-clause-last g c =
    let leaf = c.args.self.now in
    let known = leaf.table.known in
    let st : State = state_of known in
    let size : suc (length c.args.span.now.front.now) ≡ length (slots st) = c.requires.last in
    let inside = last_inside st leaf.no_board (omega arith) in
    let at : leaf.last ≡ last_hand (slots st) = leaf.last_is in
    omega (arith, inside.0, at, length-take known.count known.hands)

pub returns-else-has_two_sides-clause-counts : goal.returns-else-has_two_sides-clause-counts
returns-else-has_two_sides-clause-counts g c = λ pot place side p has m.
    let leaf = c.args.self.now in
    let table = leaf.table in
    let known = table.known in
    let st : State = state_of known in
    let deal = deal_of table in
    let front : List (List ℕ) = c.args.span.now.front.now in
    let taken : List ℕ = c.args.span.now.tail.taken in
    let rest : List ℕ = c.args.span.now.tail.rest in
    let left : ℕ = c.args.span.now.tail.left in
    let lo : ℕ = c.args.span.now.lo in
    let hi : ℕ = c.args.span.now.hi in
    let last : ℕ = leaf.last in
    let only : Side = only_side known.game in
    let count : ℕ = leaf.numbers.count in
    let rows : List (List ℕ) = leaf.numbers.rows.items in
    let planes : List (List ℕ) = leaf.numbers.planes.items in
    let numbers : List ℕ = c.numbers_with-numbers.result in
    let values : List ℕ = take (hi - lo) c.as_slice-all.result.now in
    let size : suc (length front) ≡ length (slots st) = c.requires.last in
    let inside = last_inside st leaf.no_board (omega arith) in
    let at : last ≡ last_hand (slots st) = leaf.last_is in
    let deep : count ≡ last_count (slots st) = leaf.deep in
    let left_is : left ≡ last_count (slots st) = c.requires.deep in
    let count_is : count ≡ left = deep ∙ sym left_is in
    let each : (more : List ℕ) → HasMember (choose left rest) more → IsLeafDraw st front (taken ++ more) = (λ more m.
    leaf_draw known.game known.count known.hands known.board known.dead front (taken ++ more) known.disjoint known.fitting leaf.no_board c.numbers_with-numbers.ensures.cards c.numbers_with-numbers.ensures.board size (c.requires.members more m)) in
    let empty : taken ≡ [] = taken_none taken rest left (last_count (slots st)) lo hi left_is c.requires.order c.requires.inside (λ more m. (each more m).size) in
    let M : List ℕ → ℕ → Type 0 = λ more n. HasMember (choose n rest) more in
    let cards_is : c.as_slice.result.now ≡ rest = c.as_slice.ensures ∙ c.of-cards.ensures.cards in
    let side_is : c.only_side-side.result ≡ only = c.only_side-side.ensures in
    let Others : Side → Type 0 = λ s. AreOthers s st front numbers in
    let others : Others only = subst Others side_is c.numbers_with-numbers.ensures.numbers in
    let values_is : values ≡ map (worth only known.game (hand_of st last)) (slice_range (choose left rest) lo hi) =
    ap (take (hi - lo)) c.as_slice-all.ensures.value
    ∙ c.write_draws.ensures.numbers
    ∙ ap (λ l. map (number_of rows planes) (slice_range (choose count l) lo hi)) cards_is
    ∙ leaf_values only st front rows planes taken rest count last lo hi deep at (omega (arith, inside.1, deep)) leaf.right empty (λ more m. each more (subst (M more) count_is m))
    ∙ ap (λ n. map (worth only known.game (hand_of st last)) (slice_range (choose n rest) lo hi)) count_is in
    let one : has_two_sides known.game ≡ false = sym c.has_two_sides.ensures ∙ c.if-has_two_sides.false in
    let row_is : c.side_row.result ≡ side_place side = c.side_row.ensures.value ∙ ap side_place (side_is ∙ sym (only_one known.game side one has)) in
    let pots = table.few_pots in
    let there : pot < table.pots = omega (arith, p, length-map (take table.pots table.eligible) hands_of, length-take table.pots table.eligible) in
    let among : pot < length (take table.pots table.eligible) = omega (arith, p, length-map (take table.pots table.eligible) hands_of) in
    let hands : eligible_in deal pot ≡ hands_below (slice_index_or table.eligible pot 0) known.count = eligible_pot deal table.pots table.eligible known.count pot refl among table.in_hands known.few in
    let all : known.count ≡ length st.hands = (let f = known.few in omega (arith, length-take known.count known.hands, c.ten_places.ensures.hands)) in
    let A : List ℕ → Type 0 = λ l. AreBelow (length st.hands) l in
    let B : ℕ → Type 0 = λ n. AreBelow n (hands_below (slice_index_or table.eligible pot 0) known.count) in
    let below : AreBelow (length st.hands) (eligible_in deal pot) = subst A (sym hands) (subst B all (AreBelow-hands_below (slice_index_or table.eligible pot 0) known.count)) in
    let won = leaf_counts side deal pot place last front taken numbers values (slice_range (choose left rest) lo hi) leaf.no_board one has below at empty others (λ more m. each more (in_range (choose left rest) lo hi more m)) values_is in
    let P : ℕ → Type 0 = λ r. slice_index (slice_index_or c.count_pots.new.counts (2 * pot + r) []) place ≡ slice_index (slice_index_or c.args.counts.now (2 * pot + r) []) place
    + count_by (λ value. best_set (value_with numbers last value) (eligible_in deal pot) == place) values in
    let counted : P (side_place side) = subst P row_is (c.count_pots.ensures.counts pot place there m) in
    counted ∙ ap (λ n. count_at c.args.counts.now pot side place + n) won

pub returns-then-has_two_sides-clause-counts : goal.returns-then-has_two_sides-clause-counts
returns-then-has_two_sides-clause-counts g c = λ pot place side p has m.
    let leaf = c.args.self.now in
    let table = leaf.table in
    let known = table.known in
    let st : State = state_of known in
    let deal = deal_of table in
    let front : List (List ℕ) = c.args.span.now.front.now in
    let taken : List ℕ = c.args.span.now.tail.taken in
    let rest : List ℕ = c.args.span.now.tail.rest in
    let left : ℕ = c.args.span.now.tail.left in
    let lo : ℕ = c.args.span.now.lo in
    let hi : ℕ = c.args.span.now.hi in
    let last : ℕ = leaf.last in
    let only : Side = only_side known.game in
    let count : ℕ = leaf.numbers.count in
    let rows : List (List ℕ) = leaf.numbers.rows.items in
    let planes : List (List ℕ) = leaf.numbers.planes.items in
    let numbers : List ℕ = c.numbers_with-numbers.result in
    let values : List ℕ = take (hi - lo) c.as_slice-all_highs.result.now in
    let size : suc (length front) ≡ length (slots st) = c.requires.last in
    let inside = last_inside st leaf.no_board (omega arith) in
    let at : last ≡ last_hand (slots st) = leaf.last_is in
    let deep : count ≡ last_count (slots st) = leaf.deep in
    let left_is : left ≡ last_count (slots st) = c.requires.deep in
    let count_is : count ≡ left = deep ∙ sym left_is in
    let each : (more : List ℕ) → HasMember (choose left rest) more → IsLeafDraw st front (taken ++ more) = (λ more m.
    leaf_draw known.game known.count known.hands known.board known.dead front (taken ++ more) known.disjoint known.fitting leaf.no_board c.numbers_with-numbers.ensures.cards c.numbers_with-numbers.ensures.board size (c.requires.members more m)) in
    let empty : taken ≡ [] = taken_none taken rest left (last_count (slots st)) lo hi left_is c.requires.order c.requires.inside (λ more m. (each more m).size) in
    let M : List ℕ → ℕ → Type 0 = λ more n. HasMember (choose n rest) more in
    let cards_is : c.as_slice.result.now ≡ rest = c.as_slice.ensures ∙ c.of-cards.ensures.cards in
    let side_is : c.only_side-side.result ≡ only = c.only_side-side.ensures in
    let Others : Side → Type 0 = λ s. AreOthers s st front numbers in
    let others : Others only = subst Others side_is c.numbers_with-numbers.ensures.numbers in
    let values_is : values ≡ map (worth only known.game (hand_of st last)) (slice_range (choose left rest) lo hi) =
    ap (take (hi - lo)) c.as_slice-all_highs.ensures.value
    ∙ c.write_draws.ensures.numbers
    ∙ ap (λ l. map (number_of rows planes) (slice_range (choose count l) lo hi)) cards_is
    ∙ leaf_values only st front rows planes taken rest count last lo hi deep at (omega (arith, inside.1, deep)) leaf.right empty (λ more m. each more (subst (M more) count_is m))
    ∙ ap (λ n. map (worth only known.game (hand_of st last)) (slice_range (choose n rest) lo hi)) count_is in
    let two : has_two_sides known.game ≡ true = sym c.has_two_sides.ensures ∙ c.if-has_two_sides.true in
    let lows : List ℕ = c.numbers_with-lows.result in
    let low_rows : List (List ℕ) = leaf.lows.rows.items in
    let low_planes : List (List ℕ) = leaf.lows.planes.items in
    let low_values : List ℕ = take (hi - lo) c.as_slice-all_lows.result.now in
    let low_count : leaf.lows.count ≡ last_count (slots st) = leaf.low_deep two ∙ deep in
    let low_is : leaf.lows.count ≡ left = low_count ∙ sym left_is in
    let low_cards_is : c.as_slice-then-has_two_sides.result.now ≡ rest = c.as_slice-then-has_two_sides.ensures ∙ c.of-cards.ensures.cards in
    let low_values_is : low_values ≡ map (worth Low known.game (hand_of st last)) (slice_range (choose left rest) lo hi) =
    ap (take (hi - lo)) c.as_slice-all_lows.ensures.value
    ∙ c.write_draws-then-has_two_sides.ensures.numbers
    ∙ ap (λ l. map (number_of low_rows low_planes) (slice_range (choose leaf.lows.count l) lo hi)) low_cards_is
    ∙ leaf_values Low st front low_rows low_planes taken rest leaf.lows.count last lo hi low_count at (omega (arith, inside.1, low_count)) (leaf.low_right two) empty (λ more m. each more (subst (M more) low_is m))
    ∙ ap (λ n. map (worth Low known.game (hand_of st last)) (slice_range (choose n rest) lo hi)) low_is in
    let low_others : AreOthers Low st front lows = c.numbers_with-lows.ensures.numbers in
    let pots = table.few_pots in
    let there : pot < table.pots = omega (arith, p, length-map (take table.pots table.eligible) hands_of, length-take table.pots table.eligible) in
    let among : pot < length (take table.pots table.eligible) = omega (arith, p, length-map (take table.pots table.eligible) hands_of) in
    let hands : eligible_in deal pot ≡ hands_below (slice_index_or table.eligible pot 0) known.count = eligible_pot deal table.pots table.eligible known.count pot refl among table.in_hands known.few in
    let all : known.count ≡ length st.hands = (let f = known.few in omega (arith, length-take known.count known.hands, c.ten_places.ensures.hands)) in
    let A : List ℕ → Type 0 = λ l. AreBelow (length st.hands) l in
    let B : ℕ → Type 0 = λ n. AreBelow n (hands_below (slice_index_or table.eligible pot 0) known.count) in
    let below : AreBelow (length st.hands) (eligible_in deal pot) = subst A (sym hands) (subst B all (AreBelow-hands_below (slice_index_or table.eligible pot 0) known.count)) in
    let range : List (List ℕ) = slice_range (choose left rest) lo hi in
    let reached : (more : List ℕ) → HasMember range more → IsLeafDraw st front (taken ++ more) = (λ more m. each more (in_range (choose left rest) lo hi more m)) in
    let won = leaf_sides side deal pot place last front taken numbers lows values low_values range leaf.no_board two below at empty others low_others reached values_is low_values_is in
    c.count_sides.ensures.counts pot place side there has ∙ ap (λ n. count_at c.args.counts.now pot side place + n) won

pub write_draws-requires-clause-short : goal.write_draws-requires-clause-short
write_draws-requires-clause-short g c =
    let few = c.of-cards.ensures.few in
    omega (arith, ap length c.as_slice.ensures, ap length c.of-cards.ensures.cards, few)

pub write_draws-requires-then-has_two_sides-clause-some : goal.write_draws-requires-then-has_two_sides-clause-some
write_draws-requires-then-has_two_sides-clause-some g c =
    let leaf = c.args.self.now in
    let st : State = state_of leaf.table.known in
    let size : suc (length c.args.span.now.front.now) ≡ length (slots st) = c.requires.last in
    let inside = last_inside st leaf.no_board (omega arith) in
    let two : has_two_sides leaf.table.known.game ≡ true = sym c.has_two_sides.ensures ∙ c.if-has_two_sides.true in
    let deep : leaf.numbers.count ≡ last_count (slots st) = leaf.deep in
    omega (arith, inside.1, deep, leaf.low_deep two)

pub count_sides-requires-clause-last : goal.count_sides-requires-clause-last
count_sides-requires-clause-last g c =
    let leaf = c.args.self.now in
    let known = leaf.table.known in
    let st : State = state_of known in
    let size : suc (length c.args.span.now.front.now) ≡ length (slots st) = c.requires.last in
    let inside = last_inside st leaf.no_board (omega arith) in
    let at : leaf.last ≡ last_hand (slots st) = leaf.last_is in
    omega (arith, inside.0, at, length-take known.count known.hands)

pub count_sides-requires-clause-fits : goal.count_sides-requires-clause-fits
count_sides-requires-clause-fits g c = λ pot place side l has m.
    let table = c.args.self.now.table in
    let pots = table.few_pots in
    let among : pot < length (deal_of table).pots = omega (arith, l, pots, length-map (take table.pots table.eligible) hands_of, length-take table.pots table.eligible, c.ten_places.ensures.pots) in
    omega (arith, c.requires.fits pot place side among has m, length-take (c.args.span.now.hi - c.args.span.now.lo) c.as_slice-all_highs.result.now)

pub write_draws-requires-then-has_two_sides-clause-few : goal.write_draws-requires-then-has_two_sides-clause-few
write_draws-requires-then-has_two_sides-clause-few g c =
    let leaf = c.args.self.now in
    let two : has_two_sides leaf.table.known.game ≡ true = sym c.has_two_sides.ensures ∙ c.if-has_two_sides.true in
    omega (arith, leaf.low_few two, leaf.low_deep two)

pub write_draws-requires-then-has_two_sides-clause-room : goal.write_draws-requires-then-has_two_sides-clause-room
write_draws-requires-then-has_two_sides-clause-room g c =
    let leaf = c.args.self.now in
    let st : State = state_of leaf.table.known in
    let two : has_two_sides leaf.table.known.game ≡ true = sym c.has_two_sides.ensures ∙ c.if-has_two_sides.true in
    let size : suc (length c.args.span.now.front.now) ≡ length (slots st) = c.requires.last in
    let inside = last_inside st leaf.no_board (omega arith) in
    let deep : leaf.numbers.count ≡ last_count (slots st) = leaf.deep in
    let left : c.args.span.now.tail.left ≡ last_count (slots st) = c.requires.deep in
    let few = leaf.low_few two in
    let short : length c.args.span.now.tail.rest ≤ 52 = c.of-cards.ensures.few in
    let most = few_twos c.args.span.now.tail.rest c.args.span.now.tail.left short (omega (arith, inside.1, left)) (omega (arith, few, left, deep)) in
    let end = c.requires.inside in
    omega (arith, most, end, leaf.low_room)

pub slice_bounds-low_values-length : goal.slice_bounds-low_values-length
slice_bounds-low_values-length g c =
    let leaf = c.args.self.now in
    let st : State = state_of leaf.table.known in
    let two : has_two_sides leaf.table.known.game ≡ true = sym c.has_two_sides.ensures ∙ c.if-has_two_sides.true in
    let size : suc (length c.args.span.now.front.now) ≡ length (slots st) = c.requires.last in
    let inside = last_inside st leaf.no_board (omega arith) in
    let deep : leaf.numbers.count ≡ last_count (slots st) = leaf.deep in
    let left : c.args.span.now.tail.left ≡ last_count (slots st) = c.requires.deep in
    let few = leaf.low_few two in
    let short : length c.args.span.now.tail.rest ≤ 52 = c.of-cards.ensures.few in
    let most = few_twos c.args.span.now.tail.rest c.args.span.now.tail.left short (omega (arith, inside.1, left)) (omega (arith, few, left, deep)) in
    let end = c.requires.inside in
    let span : ℕ = c.args.span.now.hi - c.args.span.now.lo in
    let lows : span ≤ length c.as_slice-all_lows.result.now = omega (arith, most, end, leaf.low_room, c.write_draws-then-has_two_sides.ensures.room, ap length c.as_slice-all_lows.ensures.value) in
    omega (arith, lows, length-take span c.as_slice-all_lows.result.now)

pub count_sides-requires-clause-each : goal.count_sides-requires-clause-each
count_sides-requires-clause-each g c =
    let leaf = c.args.self.now in
    let st : State = state_of leaf.table.known in
    let two : has_two_sides leaf.table.known.game ≡ true = sym c.has_two_sides.ensures ∙ c.if-has_two_sides.true in
    let size : suc (length c.args.span.now.front.now) ≡ length (slots st) = c.requires.last in
    let inside = last_inside st leaf.no_board (omega arith) in
    let deep : leaf.numbers.count ≡ last_count (slots st) = leaf.deep in
    let left : c.args.span.now.tail.left ≡ last_count (slots st) = c.requires.deep in
    let few = leaf.low_few two in
    let short : length c.args.span.now.tail.rest ≤ 52 = c.of-cards.ensures.few in
    let most = few_twos c.args.span.now.tail.rest c.args.span.now.tail.left short (omega (arith, inside.1, left)) (omega (arith, few, left, deep)) in
    let end = c.requires.inside in
    let draws = few_draws c.args.span.now.tail.rest c.args.span.now.tail.left short (omega (arith, inside.1, left)) (omega (arith, leaf.few, left, deep)) in
    let span : ℕ = c.args.span.now.hi - c.args.span.now.lo in
    let lows : span ≤ length c.as_slice-all_lows.result.now = omega (arith, most, end, leaf.low_room, c.write_draws-then-has_two_sides.ensures.room, ap length c.as_slice-all_lows.ensures.value) in
    let values : span ≤ length c.as_slice-all_highs.result.now = omega (arith, draws, end, leaf.room, c.write_draws.ensures.room, ap length c.as_slice-all_highs.ensures.value) in
    omega (arith, lows, values, length-take span c.as_slice-all_lows.result.now, length-take span c.as_slice-all_highs.result.now)

pub returns-else-has_two_sides-clause-steps : goal.returns-else-has_two_sides-clause-steps
returns-else-has_two_sides-clause-steps g c =
    let leaf = c.args.self.now in
    let st : State = state_of leaf.table.known in
    let size : suc (length c.args.span.now.front.now) ≡ length (slots st) = c.requires.last in
    let inside = last_inside st leaf.no_board (omega arith) in
    let deep : leaf.numbers.count ≡ last_count (slots st) = leaf.deep in
    let left : c.args.span.now.tail.left ≡ last_count (slots st) = c.requires.deep in
    let few = leaf.few in
    let short : length c.args.span.now.tail.rest ≤ 52 = c.of-cards.ensures.few in
    let most = few_draws c.args.span.now.tail.rest c.args.span.now.tail.left short (omega (arith, inside.1, left)) (omega (arith, few, left, deep)) in
    let end = c.requires.inside in
    let span : ℕ = c.args.span.now.hi - c.args.span.now.lo in
    let values : span ≤ length c.as_slice-all.result.now = omega (arith, most, end, leaf.room, c.write_draws.ensures.room, ap length c.as_slice-all.ensures.value) in
    omega (arith, c.count_pots.ensures.steps, values, length-take span c.as_slice-all.result.now)

pub returns-then-has_two_sides-clause-steps : goal.returns-then-has_two_sides-clause-steps
returns-then-has_two_sides-clause-steps g c =
    let leaf = c.args.self.now in
    let st : State = state_of leaf.table.known in
    let size : suc (length c.args.span.now.front.now) ≡ length (slots st) = c.requires.last in
    let inside = last_inside st leaf.no_board (omega arith) in
    let deep : leaf.numbers.count ≡ last_count (slots st) = leaf.deep in
    let left : c.args.span.now.tail.left ≡ last_count (slots st) = c.requires.deep in
    let few = leaf.few in
    let short : length c.args.span.now.tail.rest ≤ 52 = c.of-cards.ensures.few in
    let most = few_draws c.args.span.now.tail.rest c.args.span.now.tail.left short (omega (arith, inside.1, left)) (omega (arith, few, left, deep)) in
    let end = c.requires.inside in
    let span : ℕ = c.args.span.now.hi - c.args.span.now.lo in
    let values : span ≤ length c.as_slice-all_highs.result.now = omega (arith, most, end, leaf.room, c.write_draws.ensures.room, ap length c.as_slice-all_highs.ensures.value) in
    omega (arith, c.count_sides.ensures.steps, values, length-take span c.as_slice-all_highs.result.now)
