use Rattle.std.proofs.Common.{◌∙◌, ap, sym, arith, length}
use Rattle.rank_high.specs.High.{value_of}
use Rattle.rank_high.specs.Parts.{best_plain}
use Rattle.omaha_ranks.specs.Omaha.{ArePlaced}
use Rattle.board_ranks.proofs.HighCalls.{any_plain, as_omaha, not_omaha, together}
use Rattle.board_ranks.proofs.HighLaws.{omaha_plain_is}
use Rattle.board_ranks.proofs.high.plain_value.Goals as goal

pub high_by_ranks-requires : goal.high_by_ranks-requires
high_by_ranks-requires c =
    let placed : ArePlaced c.args.own c.args.board = record { own_cards = c.rising.ensures.set; board_cards = c.rising-2.ensures.set; apart = c.requires.apart } in
    omega (arith, ap length c.union.ensures, together c.args.own c.args.board placed, c.requires.board)

pub returns-in-Omaha : goal.returns-in-Omaha
returns-in-Omaha c = c.omaha_plain_value.ensures ∙ sym (omaha_plain_is c.args.game (as_omaha c.args.game c.in-Omaha.is) c.args.own c.args.board)

pub returns-in-Holdem : goal.returns-in-Holdem
returns-in-Holdem c =
    c.number.ensures ∙ c.high_by_ranks.ensures ∙ ap (λ l. value_of (best_plain l)) c.union.ensures
    ∙ sym (any_plain c.args.game c.args.own c.args.board c.requires.game (not_omaha c.args.game c.in-Holdem.is))
