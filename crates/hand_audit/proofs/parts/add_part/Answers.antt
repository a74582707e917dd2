use Rattle.std.proofs.Common.{ap, ◌∙◌}
use Rattle.std.specs.Prelude.{slice_index_or}
use Rattle.hand_audit.specs.Settle.{first_side, second_side}
use Rattle.hand_audit.proofs.lemmas.splits.SideShares.{first_wins, second_wins, part_is}
use Rattle.hand_audit.proofs.parts.add_part.Goals as goal

pub returns-clause-parts : goal.returns-clause-parts
returns-clause-parts c s cards t d more =
    let on = (d more).tells in
    part_is s c.args.eligible c.args.board c.args.units cards _ _ _ _ _ _ _ _ c.args.all.now.items c.add_side.new.all.items c.add_side-2.new.all.items
    (c.first_side.ensures ∙ ap first_side t.game) (c.second_side.ensures ∙ ap second_side t.game)
    (c.winners-first.ensures.value ∙ first_wins c.args.on.now s cards c.args.eligible d more) (c.winners-second.ensures.value ∙ second_wins c.args.on.now s cards c.args.eligible d more)
    (c.order-first_order.ensures.value s (first_side s.game) cards t on.first) (c.order-second_order.ensures.value s (second_side s.game) cards t on.second)
    (ap (λ xs. slice_index_or xs 0 0) c.side_units.ensures.halves) (ap (λ xs. slice_index_or xs 1 0) c.side_units.ensures.halves)
    c.in_ok-add_side.ensures.parts c.in_ok-add_side-2.ensures.parts
