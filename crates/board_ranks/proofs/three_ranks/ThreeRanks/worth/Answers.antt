use Rattle.std.proofs.Common.{List, ℕ, ap, sym, ◌∙◌, subst}
use Rattle.card_sets.specs.declared.games.Side.{Side}
use Rattle.omaha_ranks.specs.Omaha.{ArePlaced, best_three}
use Rattle.board_ranks.specs.Threes.{AreThrees, three_number}
use Rattle.board_ranks.proofs.ThreeCards.{best_is}
use Rattle.board_ranks.proofs.three_ranks.ThreeRanks.worth.Goals as goal

pub returns : goal.returns
returns c =
    let placed : ArePlaced c.args.own c.args.board = record { own_cards = c.rising.ensures.set; board_cards = c.rising-2.ensures.set; apart = c.requires.apart } in
    let P : Side → Type 0 = λ side. AreThrees side c.args.self.now.own c.args.self.now.values in
    let Q : List ℕ → Type 0 = λ own. AreThrees c.args.side own c.args.self.now.values in
    let right : AreThrees c.args.side c.args.own c.args.self.now.values = subst Q c.requires.same_own (subst P c.requires.same_side c.args.self.now.right) in
    c.best_of_ten.ensures
    ∙ ap (best_three (three_number c.args.self.now.values)) (sym c.five_cards-cards.ensures)
    ∙ best_is c.args.side c.args.own c.args.self.now.values c.args.board right c.requires.own placed
