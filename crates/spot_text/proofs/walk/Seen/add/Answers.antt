use Rattle.std.proofs.Common.{◌∙◌, ap, cond, Some, None, arith}
use Rattle.spot_text.specs.Collected.{twice_or}
use Rattle.spot_text.proofs.SeenCards.{seen_next}
use Rattle.spot_text.proofs.walk.Seen.add.Goals as goal

pub returns : goal.returns
returns c left all seen =
    seen_next _ _ _ left all seen (omega (arith, c.number-in_deck.ensures.value, c.number-in_deck.ensures.in_deck)) c.with-self.ensures
    (c.first_twice-self.ensures ∙ ap (λ again. twice_or c.args.self.now.twice (cond again (Some c.args.card) None)) c.has.ensures)
