use Rattle.std.proofs.Common.{◌≡◌, ◌∙◌, Some, sym, ap}
use Rattle.std.specs.Prelude.{option_map}
use Rattle.hand_cuts.specs.Units.{UnitLines}
use Rattle.hand_audit.specs.SeatChips.{chips_of}
use Rattle.hand_verdict.specs.declared.seat_chips.AuditedChips.{AuditedChips}
use Rattle.std.specs.List.{filter_map}
use Rattle.run_loop.specs.Units.{unit_lines}
use Rattle.run_loop.specs.Histories.{chips_hand, verdict_of, with_chips}
use Rattle.run_loop.proofs.SumOrder.{told_more}
use Rattle.run_loop.proofs.sums.BalanceHandSums.add_lines.Goals as goal

pub returns : goal.returns
unfolding verdict_of chips_hand
returns g c = λ hands e.
    let hand : UnitLines = unit_lines c.args.text.now in
    let both = c.in_ok-hand.hand in
    let chips : chips_of both.audit hand.lines ≡ both.chips = sym c.in_ok-hand.ensures.chips in
    let told : chips_hand hand ≡ Some both =
    ap (option_map (with_chips hand.lines)) c.in_ok-hand.ensures.verdict ∙ (λ i. Some (let one : AuditedChips = record { audit = both.audit; chips = chips i } in one)) in
    rw (told_more chips_hand hands hand both told) at (c.add.ensures.added (filter_map chips_hand hands) e)
