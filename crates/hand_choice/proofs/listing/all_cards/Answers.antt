use Rattle.std.proofs.Common.{◌≡◌, ◌+◌, length, arith, ap}
use Rattle.card_sets.specs.Cards.{union}
use Rattle.card_sets.proofs.CallerLemmas.{length-union, Apart-apart}
use Rattle.hand_choice.proofs.listing.all_cards.Goals as goal

pub returns-clause-few : goal.returns-clause-few
returns-clause-few c =
    let size : length (union c.args.own c.args.board) ≡ length c.args.own + length c.args.board = length-union c.args.own c.args.board c.rising.ensures.set c.rising-2.ensures.set (Apart-apart c.args.own c.args.board c.requires.apart) in
    omega (arith, size, ap length c.union.ensures, c.requires.seven)
