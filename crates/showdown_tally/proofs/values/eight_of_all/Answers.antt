use Rattle.std.proofs.Common.{◌≡◌, ◌+◌, ◌∙◌, ap, Some, length, arith}
use Rattle.std.specs.Option.{option_map}
use Rattle.card_sets.specs.Cards.{union}
use Rattle.card_sets.proofs.CallerLemmas.{length-union, Apart-apart}
use Rattle.rank_low.specs.Low.{best_eight, ace_number}
use Rattle.showdown_tally.proofs.values.eight_of_all.Goals as goal

pub eight_or_better-requires-clause-least : goal.eight_or_better-requires-clause-least
eight_or_better-requires-clause-least c =
    let size : length (union c.args.own c.args.board) ≡ length c.args.own + length c.args.board = length-union c.args.own c.args.board c.rising.ensures.set c.rising-2.ensures.set (Apart-apart c.args.own c.args.board c.requires.apart) in
    rw c.union.ensures (omega (arith, size, c.requires.seven))

pub eight_or_better-requires-clause-most : goal.eight_or_better-requires-clause-most
eight_or_better-requires-clause-most c =
    let size : length (union c.args.own c.args.board) ≡ length c.args.own + length c.args.board = length-union c.args.own c.args.board c.rising.ensures.set c.rising-2.ensures.set (Apart-apart c.args.own c.args.board c.requires.apart) in
    rw c.union.ensures (omega (arith, size, c.requires.seven))

pub returns-in-Some : goal.returns-in-Some
unfolding best_eight
returns-in-Some c = ap Some c.number.ensures ∙ c.in-Some.ensures ∙ ap (λ cards. option_map ace_number (best_eight cards)) c.union.ensures

pub returns-in-None : goal.returns-in-None
unfolding best_eight
returns-in-None c = c.in-None.ensures ∙ ap (λ cards. option_map ace_number (best_eight cards)) c.union.ensures
