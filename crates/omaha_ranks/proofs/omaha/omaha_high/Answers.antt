use Rattle.std.proofs.Common.{◌≡◌, ◌∙◌, ap, sym, [], arith}
use Rattle.card_sets.specs.declared.games.Side.TheVariants.{High}
use Rattle.rank_high.specs.High.{value_of}
use Rattle.omaha_ranks.specs.Omaha.{ArePlaced, omaha_high, omaha_plain}
use Rattle.omaha_ranks.specs.Worth.{best_own}
use Rattle.omaha_ranks.proofs.BestFives.{plain-five}
use Rattle.omaha_ranks.proofs.TwoParts.{own-is}
use Rattle.omaha_ranks.proofs.omaha.omaha_high.Goals as goal

pub returns : goal.returns
unfolding omaha_high
returns c =
    let placed : ArePlaced c.args.own c.args.board = record { own_cards = c.rising.ensures.set; board_cards = c.rising-2.ensures.set; apart = c.requires.apart } in
    let plain : best_own High [] 2 c.args.own c.args.board ≡ value_of (omaha_plain c.args.own c.args.board) = own-is High c.args.own c.args.board placed ∙ sym (plain-five c.args.own c.args.board placed) in
    let none : best_own High c.empty.result 2 c.args.own c.args.board ≡ best_own High [] 2 c.args.own c.args.board = ap (λ l. best_own High l 2 c.args.own c.args.board) c.empty.ensures in
    let whole : c.best_own.result ≡ value_of (omaha_high c.args.own c.args.board) = omega (arith, c.law_ranks_or_a_suit.ensures c.args.own c.args.board placed, plain, none, c.best_own.ensures, c.omaha_suited_value.ensures, c.omaha_suited_value-2.ensures, c.omaha_suited_value-3.ensures, c.omaha_suited_value-4.ensures, c.max.ensures, c.max-2.ensures, c.max-flush.ensures) in
    whole
