use Rattle.std.proofs.Common.{◌≡◌, ◌+◌, length, arith, refl}
use Rattle.card_sets.specs.Cards.{union}
use Rattle.rank_high.specs.High.{best_high}
use Rattle.card_sets.proofs.CallerLemmas.{length-union, Apart-apart}
use Rattle.showdown_tally.proofs.values.high_of_all.Goals as goal

pub high_of_set-requires-clause-least : goal.high_of_set-requires-clause-least
high_of_set-requires-clause-least c =
    let size : length (union c.args.own c.args.board) ≡ length c.args.own + length c.args.board = length-union c.args.own c.args.board c.rising.ensures.set c.rising-2.ensures.set (Apart-apart c.args.own c.args.board c.requires.apart) in
    rw c.union.ensures (omega (arith, size, c.requires.least))

pub high_of_set-requires-clause-most : goal.high_of_set-requires-clause-most
high_of_set-requires-clause-most c =
    let size : length (union c.args.own c.args.board) ≡ length c.args.own + length c.args.board = length-union c.args.own c.args.board c.rising.ensures.set c.rising-2.ensures.set (Apart-apart c.args.own c.args.board c.requires.apart) in
    rw c.union.ensures (omega (arith, size, c.requires.most))

pub returns : goal.returns
unfolding best_high
returns c = rw (c.number.ensures, c.high_of_set.ensures, c.union.ensures) refl
