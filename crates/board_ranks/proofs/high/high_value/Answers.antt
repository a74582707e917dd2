use Rattle.std.proofs.Common.{◌∙◌, ap, sym, arith, length}
use Rattle.rank_high.specs.High.{value_of, best_high}
use Rattle.omaha_ranks.specs.Omaha.{ArePlaced, omaha_high}
use Rattle.board_ranks.proofs.HighCalls.{any_high, as_omaha, not_omaha, together, two_own}
use Rattle.board_ranks.proofs.HighLaws.{omaha_high_is}
use Rattle.board_ranks.proofs.high.high_value.Goals as goal

pub high_of_set-requires-clause-least : goal.high_of_set-requires-clause-least
high_of_set-requires-clause-least c =
    let placed : ArePlaced c.args.own c.args.board = record { own_cards = c.rising.ensures.set; board_cards = c.rising-2.ensures.set; apart = c.requires.apart } in
    omega (arith, ap length c.union.ensures, together c.args.own c.args.board placed, c.requires.board)

pub high_of_set-requires-clause-most : goal.high_of_set-requires-clause-most
high_of_set-requires-clause-most c =
    let placed : ArePlaced c.args.own c.args.board = record { own_cards = c.rising.ensures.set; board_cards = c.rising-2.ensures.set; apart = c.requires.apart } in
    omega (arith, ap length c.union.ensures, together c.args.own c.args.board placed, c.requires.board, c.requires.own, two_own c.args.game c.requires.game (not_omaha c.args.game c.in-Holdem.is))

pub returns-in-Omaha : goal.returns-in-Omaha
unfolding omaha_high
returns-in-Omaha c = c.omaha_high.ensures ∙ sym (omaha_high_is c.args.game (as_omaha c.args.game c.in-Omaha.is) c.args.own c.args.board)

pub returns-in-Holdem : goal.returns-in-Holdem
returns-in-Holdem c =
    c.number.ensures ∙ c.high_of_set.ensures ∙ ap (λ l. value_of (best_high l)) c.union.ensures
    ∙ sym (any_high c.args.game c.args.own c.args.board c.requires.game (not_omaha c.args.game c.in-Holdem.is))
