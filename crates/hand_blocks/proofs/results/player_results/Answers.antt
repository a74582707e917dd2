use Rattle.std.proofs.Common.{◌≡◌, ◌+◌, ◌-◌, ap, sym, ◌∙◌, true, false, arith}
use Rattle.std.specs.List.{flat_map}
use Rattle.card_sets.specs.PlayerSets.{has_player, players_from, seats_in}
use Rattle.hand_blocks.specs.Results.{player_result}
use Rattle.report_sheet.specs.Sheets.{with_lines}
use Rattle.report_sheet.specs.declared.form.Form.{Form}
use Rattle.hand_blocks.proofs.ResultFacts.{player_first, player_passed}
use Rattle.report_sheet.proofs.CallerLemmas.{left_more, no_lines, still_between}
use Rattle.hand_blocks.proofs.results.player_results.Goals as goal

pub loop-seat-preserved-then-not-has : goal.loop-seat-preserved-then-not-has
loop-seat-preserved-then-not-has c =
    let played = c.args.played.now in
    let now = c.loop-seat.sheet in
    let seat = c.loop-seat.seat in
    let text = player_result c.args.sheet.now.form played.settlement.now played.all_in.all_in.now played.names.now played.chips.now in
    let none : has_player c.args.players seat ≡ false = grind (arith, c.has.ensures, c.if-not-has.true) in
    record {
      written = ap (λ seats. with_lines now (flat_map text seats)) (sym (player_passed c.args.players seat none c.loop-seat-test.true)) ∙ c.loop-seat.invariant.written;
      form = c.loop-seat.invariant.form;
      between = c.loop-seat.invariant.between;
    }

pub loop-seat-preserved : goal.loop-seat-preserved
loop-seat-preserved c =
    let played = c.args.played.now in
    let now = c.loop-seat.sheet in
    let seat = c.loop-seat.seat in
    let text = player_result c.args.sheet.now.form played.settlement.now played.all_in.all_in.now played.names.now played.chips.now in
    let some : has_player c.args.players seat ≡ true = grind (arith, c.has.ensures, c.if-not-has.false) in
    let wrote : c.player_result.new.sheet ≡ with_lines now (text seat) =
    c.in_ok-player_result.ensures ∙ ap (λ (form : Form). with_lines now (player_result form played.settlement.now played.all_in.all_in.now played.names.now played.chips.now seat)) c.loop-seat.invariant.form in
    let left = ap (λ seats. with_lines now (flat_map text seats)) (sym (player_first c.args.players seat some c.loop-seat-test.true)) ∙ c.loop-seat.invariant.written in
    record {
      written = left_more c.args.sheet.now now c.player_result.new.sheet text (seats_in c.args.players) (players_from c.args.players (seat + 1) (11 - (seat + 1))) seat left wrote;
      form = ap (λ w. w.form) wrote ∙ c.loop-seat.invariant.form;
      between = still_between now c.player_result.new.sheet (text seat) wrote c.loop-seat.invariant.between;
    }

pub returns : goal.returns
returns c =
    let played = c.args.played.now in
    let now = c.loop-seat.sheet in
    let text = player_result c.args.sheet.now.form played.settlement.now played.all_in.all_in.now played.names.now played.chips.now in
    let end : 11 - c.loop-seat.seat ≡ 0 = (let t = c.loop-seat-test.false in omega (arith, t)) in
    sym (ap (λ n. with_lines now (flat_map text (players_from c.args.players c.loop-seat.seat n))) end ∙ no_lines now) ∙ c.loop-seat.invariant.written
