use Rattle.std.proofs.Common.{◌∙◌, ap}
use Rattle.card_sets.specs.Games.{own_size}
use Rattle.omaha_ranks.specs.Omaha.{ArePlaced}
use Rattle.board_ranks.proofs.ThreeCards.{low_from}
use Rattle.board_ranks.proofs.threes.Threes.low_value.Goals as goal

pub returns-in-Omaha8 : goal.returns-in-Omaha8
returns-in-Omaha8 c =
    let placed : ArePlaced c.args.own c.args.board = record { own_cards = c.rising.ensures.set; board_cards = c.rising-2.ensures.set; apart = c.requires.apart } in
    c.some_low.ensures ∙ low_from c.args.game c.args.own c.args.board c.worth.result c.in-Omaha8.is placed c.worth.ensures

pub worth-requires-clause-own : goal.worth-requires-clause-own
worth-requires-clause-own c = c.requires.own ∙ ap own_size c.in-Omaha8.is
