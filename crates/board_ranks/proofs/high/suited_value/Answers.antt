use Rattle.std.proofs.Common.{◌∙◌, ap, sym, arith}
use Rattle.rank_high.specs.Parts.{suited}
use Rattle.omaha_ranks.specs.Omaha.{ArePlaced}
use Rattle.board_ranks.proofs.HighCalls.{any_suited, as_omaha, four_own, not_omaha}
use Rattle.board_ranks.proofs.HighLaws.{omaha_suited_is}
use Rattle.board_ranks.proofs.high.suited_value.Goals as goal

pub omaha_suited_value-requires-clause-own : goal.omaha_suited_value-requires-clause-own
omaha_suited_value-requires-clause-own c = omega (arith, c.requires.own, four_own c.args.game c.in-Omaha.is)

pub returns-in-Omaha : goal.returns-in-Omaha
returns-in-Omaha c = c.omaha_suited_value.ensures ∙ sym (omaha_suited_is c.args.game (as_omaha c.args.game c.in-Omaha.is) c.args.own c.args.cards c.args.suit)

pub returns-in-Holdem : goal.returns-in-Holdem
returns-in-Holdem c =
    let placed : ArePlaced c.args.own c.args.cards = record { own_cards = c.rising.ensures.set; board_cards = c.rising-2.ensures.set; apart = c.requires.apart } in
    c.number.ensures ∙ c.high_of_suit.ensures ∙ ap (λ l. suited l c.args.suit) c.union.ensures
    ∙ sym (any_suited c.args.game c.args.own c.args.cards c.args.suit c.requires.game (not_omaha c.args.game c.in-Holdem.is) placed)
