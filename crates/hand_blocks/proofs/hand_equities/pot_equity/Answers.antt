use Rattle.std.proofs.Common.{◌≡◌, ◌<◌, ◌≤◌, ◌∷◌, [], refl, List, ℕ, length, ap, sym, subst, ◌∙◌, rules, arith}
use Rattle.std.specs.List.{flat_map}
use Rattle.card_sets.specs.PlayerSets.{AreBelow, players_in}
use Rattle.hand_blocks.specs.HandEquities.{player_lines, pot_hand_lines}
use Rattle.even_luck.specs.Figures.{tally_figures}
use Rattle.report_sheet.specs.Sheets.{with_lines}
use Rattle.report_sheet.specs.declared.form.Form.{Form}
use Rattle.hand_blocks.proofs.EquityFacts.{pot_alone, pot_contested}
use Rattle.report_sheet.proofs.CallerLemmas.{left_more, no_lines, still_between}
use Rattle.showdown_tally.specs.Deals.{deal_of}
use Rattle.showdown_tally.specs.Showdown.{eligible_in}
use Rattle.hand_blocks.proofs.hand_equities.pot_equity.Goals as goal

pub returns-then-count-lt2 : goal.returns-then-count-lt2
returns-then-count-lt2 c =
    let shown = c.args.shown.now in
    let few : length (eligible_in (deal_of shown.table.now) c.args.k) < 2 = omega (arith, ap length c.pot_hands-hands.ensures.hands, c.count.ensures.value, c.if-count-lt2.true) in
    let none = pot_alone c.args.sheet.now.form (deal_of shown.table.now) (tally_figures c.args.tally.now) shown.names.now shown.seats.now c.args.k few in
    sym (ap (λ lines. with_lines c.args.sheet.now lines) none ∙ no_lines c.args.sheet.now)

pub loop-hand-init : goal.loop-hand-init
loop-hand-init c =
    let shown = c.args.shown.now in
    let text = player_lines c.args.sheet.now.form shown.table.now.known.game (tally_figures c.args.tally.now) shown.names.now shown.seats.now c.args.k in
    let rest : c.into_iter-hand-iterator.result.rest ≡ c.pot_hands-hands.result = search rules in
    let all : players_in c.into_iter-hand-iterator.result.rest ≡ eligible_in (deal_of shown.table.now) c.args.k = ap players_in rest ∙ sym c.pot_hands-hands.ensures.hands in
    record {
      written = ap (λ hands. with_lines c.args.sheet.now (flat_map text hands)) all;
      form = refl;
      between = c.requires.between;
      below = subst (λ (set : ℕ). AreBelow 10 (players_in set)) (sym rest) c.pot_hands-hands.ensures.few;
    }

pub loop-hand-preserved : goal.loop-hand-preserved
loop-hand-preserved c =
    let shown = c.args.shown.now in
    let figures = tally_figures c.args.tally.now in
    let game = shown.table.now.known.game in
    let now = c.loop-hand.sheet in
    let hand = c.in-Some.hand in
    let text = player_lines c.args.sheet.now.form game figures shown.names.now shown.seats.now c.args.k in
    let step : players_in c.loop-hand.hand-iterator.rest ≡ hand ∷ players_in c.next.new.self.rest = c.in-Some.ensures.steps in
    let wrote : c.pot_hand.new.sheet ≡ with_lines now (text hand) =
    c.in_ok-pot_hand.ensures ∙ ap (λ (form : Form). with_lines now (pot_hand_lines form game figures c.args.k c.player_name.result.now hand)) c.loop-hand.invariant.form
    ∙ ap (λ (name : List ℕ). with_lines now (pot_hand_lines c.args.sheet.now.form game figures c.args.k name hand)) c.player_name.ensures in
    let left = ap (λ hands. with_lines now (flat_map text hands)) (sym step) ∙ c.loop-hand.invariant.written in
    record {
      written = left_more c.args.sheet.now now c.pot_hand.new.sheet text (eligible_in (deal_of shown.table.now) c.args.k) (players_in c.next.new.self.rest) hand left wrote;
      form = ap (λ w. w.form) wrote ∙ c.loop-hand.invariant.form;
      between = still_between now c.pot_hand.new.sheet (text hand) wrote c.loop-hand.invariant.between;
      below = (subst (λ (hands : List ℕ). AreBelow 10 hands) step c.loop-hand.invariant.below).1;
    }

pub returns : goal.returns
returns c =
    let shown = c.args.shown.now in
    let figures = tally_figures c.args.tally.now in
    let text = player_lines c.args.sheet.now.form shown.table.now.known.game figures shown.names.now shown.seats.now c.args.k in
    let some : 2 ≤ length (eligible_in (deal_of shown.table.now) c.args.k) = omega (arith, ap length c.pot_hands-hands.ensures.hands, c.count.ensures.value, c.if-count-lt2.false) in
    let none : players_in c.loop-hand.hand-iterator.rest ≡ [] = c.in-None.ensures.steps.0 in
    sym (ap (λ hands. with_lines c.loop-hand.sheet (flat_map text hands)) none ∙ no_lines c.loop-hand.sheet) ∙ c.loop-hand.invariant.written
    ∙ ap (λ lines. with_lines c.args.sheet.now lines) (sym (pot_contested c.args.sheet.now.form (deal_of shown.table.now) figures shown.names.now shown.seats.now c.args.k some))
