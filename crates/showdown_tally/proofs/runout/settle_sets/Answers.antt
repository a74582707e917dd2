use Rattle.std.proofs.Common.{◌≡◌, ◌<◌, ◌≤◌, length, sym, ap, refl, ◌∙◌, arith, take, []}
use Rattle.std.specs.Prelude.{slice_index_or}
use Rattle.std.proofs.lemmas.List.{length-map, length-take, get_or-take}
use Rattle.card_sets.specs.State.{state_of}
use Rattle.card_sets.specs.Rising.{IsRising-cards_where}
use Rattle.card_sets.specs.declared.games.Side.TheVariants.{High, Low}
use Rattle.runout_ranges.specs.Slots.{slots, unseen, counts_of}
use Rattle.showdown_tally.specs.Cells.{Grows}
use Rattle.showdown_tally.specs.Deals.{deal_of}
use Rattle.showdown_tally.specs.Settling.{tops_of}
use Rattle.showdown_tally.specs.Showdown.{own_after, board_after}
use Rattle.showdown_tally.proofs.DealtCards.{Deals, deals-length, runout_deals}
use Rattle.showdown_tally.proofs.PotSteps.{IsPot, pots_step, pots_units_step}
use Rattle.showdown_tally.proofs.PotScene.{kept_on, is_pot, pot_cells_fit, pot_units_fit, all_settled}
use Rattle.showdown_tally.proofs.GrownSums.{Grows-join}
use Rattle.showdown_tally.specs.Pots.{pots_cells, pots_units}
use Rattle.showdown_tally.proofs.runout.settle_sets.Goals as goal

pub dealt_in-requires : goal.dealt_in-requires
dealt_in-requires c =
    let st = state_of c.args.table.now.known in
    let deals : Deals (unseen st) (counts_of (slots st)) c.args.sets.now = runout_deals (unseen st) (counts_of (slots st)) c.args.sets.now (IsRising-cards_where _) c.requires.runout in
    let same : length (counts_of (slots st)) ≡ length (slots st) = simp length-map in
    deals-length (unseen st) (counts_of (slots st)) c.args.sets.now deals ∙ same ∙ ap length (sym c.requires.shape.lacking)

pub side_values-highs-requires-clause-full : goal.side_values-highs-requires-clause-full
side_values-highs-requires-clause-full c h l =
    let table = c.args.table.now in
    let st = state_of c.args.table.now.known in
    let few = c.args.table.now.known.few in
    let inside : h < c.args.table.now.known.count = omega (arith, length-take c.args.table.now.known.count c.hands_after-full.result) in
    let within : h < length (take c.args.table.now.known.count c.args.table.now.known.hands) = omega (arith, length-take c.args.table.now.known.count c.args.table.now.known.hands, c.ten_places.ensures.hands, few) in
    let board : c.union-board.result ≡ board_after st c.args.sets.now = rw (c.union-board.ensures, c.dealt_in.ensures, c.requires.shape.lacking) refl in
    let own : slice_index_or (take c.args.table.now.known.count c.hands_after-full.result) h [] ≡ own_after st c.args.sets.now h = get_or-take c.args.table.now.known.count c.hands_after-full.result h [] inside ∙ c.hands_after-full.ensures.hands h within in
    rw (own, board) (c.hands_after-full.ensures.full h within)

pub side_values-lows-requires-clause-full : goal.side_values-lows-requires-clause-full
side_values-lows-requires-clause-full c h l =
    let table = c.args.table.now in
    let st = state_of c.args.table.now.known in
    let few = c.args.table.now.known.few in
    let inside : h < c.args.table.now.known.count = omega (arith, length-take c.args.table.now.known.count c.hands_after-full.result) in
    let within : h < length (take c.args.table.now.known.count c.args.table.now.known.hands) = omega (arith, length-take c.args.table.now.known.count c.args.table.now.known.hands, c.ten_places.ensures.hands, few) in
    let board : c.union-board.result ≡ board_after st c.args.sets.now = rw (c.union-board.ensures, c.dealt_in.ensures, c.requires.shape.lacking) refl in
    let own : slice_index_or (take c.args.table.now.known.count c.hands_after-full.result) h [] ≡ own_after st c.args.sets.now h = get_or-take c.args.table.now.known.count c.hands_after-full.result h [] inside ∙ c.hands_after-full.ensures.hands h within in
    rw (own, board) (c.hands_after-full.ensures.full h within)

pub settle_pot-requires-clause-cells : goal.settle_pot-requires-clause-cells
settle_pot-requires-clause-cells c h s l bit =
    let table = c.args.table.now in
    let st = state_of c.args.table.now.known in
    let mask = slice_index_or c.args.table.now.eligible c.loop-pot.pot 0 in
    let highs = tops_of c.side_values-highs.result (slice_index_or c.args.table.now.eligible c.loop-pot.pot 0) c.args.table.now.known.count in
    let lows = tops_of c.side_values-lows.result (slice_index_or c.args.table.now.eligible c.loop-pot.pot 0) c.args.table.now.known.count in
    let few = c.args.table.now.known.few in
    let all : length (take c.args.table.now.known.count c.args.table.now.known.hands) ≡ c.args.table.now.known.count = omega (arith, length-take c.args.table.now.known.count c.args.table.now.known.hands, c.ten_places.ensures.hands, few) in
    let board : c.union-board.result ≡ board_after st c.args.sets.now = rw (c.union-board.ensures, c.dealt_in.ensures, c.requires.shape.lacking) refl in
    let ten : c.args.table.now.known.count ≤ length c.hands_after-full.result = omega (arith, c.hands_after-full.ensures.ten, few) in
    let high = kept_on High st c.args.sets.now c.hands_after-full.result c.union-board.result c.side_values-highs.result c.args.table.now.known.count all ten board c.hands_after-full.ensures.hands c.hands_after-full.ensures.full c.side_values-highs.ensures c.law_values_keep_order.ensures in
    let low = kept_on Low st c.args.sets.now c.hands_after-full.result c.union-board.result c.side_values-lows.result c.args.table.now.known.count all ten board c.hands_after-full.ensures.hands c.hands_after-full.ensures.full c.side_values-lows.ensures c.law_values_keep_order.ensures in
    let scene : IsPot (deal_of c.args.table.now) c.args.sets.now c.loop-pot.pot mask c.args.table.now.known.count highs lows =
    is_pot st c.args.sets.now c.args.table.now.pots c.args.table.now.eligible c.args.table.now.known.count c.loop-pot.pot c.side_values-highs.result c.side_values-lows.result few c.loop-pot-test.true c.args.table.now.few_pots c.ten_places.ensures.pots c.args.table.now.in_hands high low in
    rw c.of-eligible.ensures (pot_cells_fit (deal_of c.args.table.now) c.args.sets.now c.loop-pot.pot mask c.args.table.now.known.count highs lows c.args.tally.now c.loop-pot.tally scene c.requires.fits c.loop-pot.invariant (let pots = c.args.table.now.few_pots in let m = c.loop-pot-test.true in omega arith) h s (omega arith))

pub settle_pot-requires-clause-units : goal.settle_pot-requires-clause-units
settle_pot-requires-clause-units c h l bit =
    let table = c.args.table.now in
    let st = state_of c.args.table.now.known in
    let mask = slice_index_or c.args.table.now.eligible c.loop-pot.pot 0 in
    let highs = tops_of c.side_values-highs.result (slice_index_or c.args.table.now.eligible c.loop-pot.pot 0) c.args.table.now.known.count in
    let lows = tops_of c.side_values-lows.result (slice_index_or c.args.table.now.eligible c.loop-pot.pot 0) c.args.table.now.known.count in
    let few = c.args.table.now.known.few in
    let all : length (take c.args.table.now.known.count c.args.table.now.known.hands) ≡ c.args.table.now.known.count = omega (arith, length-take c.args.table.now.known.count c.args.table.now.known.hands, c.ten_places.ensures.hands, few) in
    let board : c.union-board.result ≡ board_after st c.args.sets.now = rw (c.union-board.ensures, c.dealt_in.ensures, c.requires.shape.lacking) refl in
    let ten : c.args.table.now.known.count ≤ length c.hands_after-full.result = omega (arith, c.hands_after-full.ensures.ten, few) in
    let high = kept_on High st c.args.sets.now c.hands_after-full.result c.union-board.result c.side_values-highs.result c.args.table.now.known.count all ten board c.hands_after-full.ensures.hands c.hands_after-full.ensures.full c.side_values-highs.ensures c.law_values_keep_order.ensures in
    let low = kept_on Low st c.args.sets.now c.hands_after-full.result c.union-board.result c.side_values-lows.result c.args.table.now.known.count all ten board c.hands_after-full.ensures.hands c.hands_after-full.ensures.full c.side_values-lows.ensures c.law_values_keep_order.ensures in
    let scene : IsPot (deal_of c.args.table.now) c.args.sets.now c.loop-pot.pot mask c.args.table.now.known.count highs lows =
    is_pot st c.args.sets.now c.args.table.now.pots c.args.table.now.eligible c.args.table.now.known.count c.loop-pot.pot c.side_values-highs.result c.side_values-lows.result few c.loop-pot-test.true c.args.table.now.few_pots c.ten_places.ensures.pots c.args.table.now.in_hands high low in
    rw c.of-eligible.ensures (pot_units_fit (deal_of c.args.table.now) c.args.sets.now c.loop-pot.pot mask c.args.table.now.known.count highs lows c.args.tally.now c.loop-pot.tally scene c.requires.fits c.loop-pot.invariant (let pots = c.args.table.now.few_pots in let m = c.loop-pot-test.true in omega arith) h (omega arith))

pub loop-pot-preserved : goal.loop-pot-preserved
loop-pot-preserved c =
    let table = c.args.table.now in
    let st = state_of c.args.table.now.known in
    let mask = slice_index_or c.args.table.now.eligible c.loop-pot.pot 0 in
    let highs = tops_of c.side_values-highs.result (slice_index_or c.args.table.now.eligible c.loop-pot.pot 0) c.args.table.now.known.count in
    let lows = tops_of c.side_values-lows.result (slice_index_or c.args.table.now.eligible c.loop-pot.pot 0) c.args.table.now.known.count in
    let few = c.args.table.now.known.few in
    let all : length (take c.args.table.now.known.count c.args.table.now.known.hands) ≡ c.args.table.now.known.count = omega (arith, length-take c.args.table.now.known.count c.args.table.now.known.hands, c.ten_places.ensures.hands, few) in
    let board : c.union-board.result ≡ board_after st c.args.sets.now = rw (c.union-board.ensures, c.dealt_in.ensures, c.requires.shape.lacking) refl in
    let ten : c.args.table.now.known.count ≤ length c.hands_after-full.result = omega (arith, c.hands_after-full.ensures.ten, few) in
    let high = kept_on High st c.args.sets.now c.hands_after-full.result c.union-board.result c.side_values-highs.result c.args.table.now.known.count all ten board c.hands_after-full.ensures.hands c.hands_after-full.ensures.full c.side_values-highs.ensures c.law_values_keep_order.ensures in
    let low = kept_on Low st c.args.sets.now c.hands_after-full.result c.union-board.result c.side_values-lows.result c.args.table.now.known.count all ten board c.hands_after-full.ensures.hands c.hands_after-full.ensures.full c.side_values-lows.ensures c.law_values_keep_order.ensures in
    let scene : IsPot (deal_of c.args.table.now) c.args.sets.now c.loop-pot.pot mask c.args.table.now.known.count highs lows =
    is_pot st c.args.sets.now c.args.table.now.pots c.args.table.now.eligible c.args.table.now.known.count c.loop-pot.pot c.side_values-highs.result c.side_values-lows.result few c.loop-pot-test.true c.args.table.now.few_pots c.ten_places.ensures.pots c.args.table.now.in_hands high low in
    Grows-join c.args.tally.now c.loop-pot.tally c.settle_pot.new.tally _ _ _ _ _ _ c.loop-pot.invariant c.settle_pot.ensures
    (λ p h s l m. rw c.of-eligible.ensures (pots_step (deal_of c.args.table.now) c.args.sets.now c.loop-pot.pot mask c.args.table.now.known.count highs lows scene p h s))
    (λ p h l m. rw c.of-eligible.ensures (pots_units_step (deal_of c.args.table.now) c.args.sets.now c.loop-pot.pot mask c.args.table.now.known.count highs lows scene p h))

pub returns : goal.returns
returns c =
    let end : c.loop-pot.pot ≡ c.args.table.now.pots = (let l = c.loop-pot-test.false in let m = c.loop-pot.auto.pot-end in omega arith) in
    let size : length (take c.args.table.now.pots c.args.table.now.eligible) ≡ c.args.table.now.pots = omega (arith, length-take c.args.table.now.pots c.args.table.now.eligible, c.ten_places.ensures.pots, c.args.table.now.few_pots) in
    let grown : Grows c.args.tally.now c.loop-pot.tally (pots_cells (deal_of c.args.table.now) c.args.sets.now c.args.table.now.pots) (pots_units (deal_of c.args.table.now) c.args.sets.now c.args.table.now.pots) = rw end at c.loop-pot.invariant in
    all_settled (state_of c.args.table.now.known) c.args.sets.now c.args.table.now.pots c.args.table.now.eligible c.args.tally.now c.loop-pot.tally c.end_runouts.new.self size grown c.end_runouts.ensures
