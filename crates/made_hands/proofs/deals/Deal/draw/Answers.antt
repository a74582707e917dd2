use Rattle.std.proofs.Common.{length, rules, ap, arith, subst, sym}
use Rattle.made_hands.specs.declared.deals.Deal.{Deal}
use Rattle.made_hands.specs.Deals.{deal_of, IsWhole}
use Rattle.made_hands.proofs.DifferentCards.{length-deck}
use Rattle.made_hands.proofs.DrawnNumbers.{whole-deal_of}
use Rattle.made_hands.proofs.deals.Deal.draw.Goals as goal

pub hole_cards-first-requires : goal.hole_cards-first-requires
hole_cards-first-requires c = omega (arith, ap length c.deck-left.ensures, length-deck)

pub hole_cards-second-requires : goal.hole_cards-second-requires
hole_cards-second-requires c = omega (arith, ap length c.deck-left.ensures, length-deck)

pub board-board-requires : goal.board-board-requires
board-board-requires c = omega (arith, ap length c.deck-left.ensures, length-deck)

pub returns-clause-deal : goal.returns-clause-deal
unfolding deal_of
returns-clause-deal c = search rules

pub returns-clause-whole : goal.returns-clause-whole
returns-clause-whole c =
    let P : Deal → Type 0 = λ d. IsWhole d in
    subst P (sym (returns-clause-deal c)) (whole-deal_of c.args.generator.now.state)
