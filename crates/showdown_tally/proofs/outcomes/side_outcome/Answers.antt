use Rattle.std.proofs.Common.{◌≡◌, ◌<◌, ◌≤◌, ◌^◌, ap, sym, ◌∙◌, arith, length, take, refl}
use Rattle.std.specs.Prelude.{slice_index_or}
use Rattle.std.proofs.Math.Nat.{pow-le-pow_right}
use Rattle.std.proofs.lemmas.List.{length-take}
use Rattle.card_sets.specs.State.{state_of}
use Rattle.showdown_tally.specs.Deals.{deal_of}
use Rattle.showdown_tally.specs.Numbers.{side_number}
use Rattle.card_sets.specs.PlayerSets.{set_of_players, hands_below}
use Rattle.showdown_tally.specs.Settling.{tops_of}
use Rattle.showdown_tally.specs.Showdown.{eligible_in, own_after, board_after, value_after, winners}
use Rattle.showdown_tally.proofs.SideWinners.{KeptSide, kept_side}
use Rattle.showdown_tally.proofs.PotFacts.{eligible_pot, pot_winners}
use Rattle.showdown_tally.proofs.outcomes.side_outcome.Goals as goal

pub returns-clause-value : goal.returns-clause-value
returns-clause-value c = λ runout after.
    let st = state_of c.args.table.now.known in
    let game = c.args.table.now.known.game in
    let side = c.args.side in
    let count = c.args.table.now.known.count in
    let mask = slice_index_or c.args.table.now.eligible c.args.pot 0 in
    let all : length (take c.args.table.now.known.count c.args.table.now.known.hands) ≡ c.args.table.now.known.count = omega (arith, length-take c.args.table.now.known.count c.args.table.now.known.hands, c.ten_places.ensures.hands, c.args.table.now.known.few) in
    let inside : c.args.pot < length (take c.args.table.now.pots c.args.table.now.eligible) = omega (arith, length-take c.args.table.now.pots c.args.table.now.eligible, c.ten_places.ensures.pots, c.requires, c.args.table.now.few_pots) in
    let hands : eligible_in (deal_of c.args.table.now) c.args.pot ≡ hands_below mask count =
    eligible_pot (deal_of c.args.table.now) c.args.table.now.pots c.args.table.now.eligible c.args.table.now.known.count c.args.pot refl inside c.args.table.now.in_hands c.args.table.now.known.few in
    let kept : KeptSide side (value_after side st runout) c.args.values.now count =
    kept_side side (side_number side game) (value_after side st runout) c.args.values.now count
    (λ h l. after.numbers h (omega arith))
    (λ i j x y l m e f. c.law_values_keep_order.ensures side game (own_after st runout i) (board_after st runout) x (own_after st runout j) (board_after st runout) y (after.full i (omega arith)) e (after.full j (omega arith)) f) in
    let win : winners (deal_of c.args.table.now) c.args.pot side runout ≡ tops_of c.args.values.now mask count = pot_winners side (deal_of c.args.table.now) c.args.pot runout c.args.values.now mask count hands kept in
    c.bits.ensures ∙ c.winner_set.ensures.value ∙ rw c.of-hands.ensures (ap set_of_players (sym win))

pub returns-clause-small : goal.returns-clause-small
returns-clause-small c =
    let power : 2 ^ c.args.table.now.known.count ≤ 2 ^ 10 = pow-le-pow_right (let z : 0 < 2 = omega arith in z) c.args.table.now.known.few in
    let small = c.winner_set.ensures.small in
    let bits = c.bits.ensures in
    omega arith

pub returns-clause-few : goal.returns-clause-few
returns-clause-few c = λ few.
    let power : 2 ^ c.args.table.now.known.count ≤ 2 ^ 5 = pow-le-pow_right (let z : 0 < 2 = omega arith in z) few in
    let small = c.winner_set.ensures.small in
    let bits = c.bits.ensures in
    omega arith
