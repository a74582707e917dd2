use Rattle.std.proofs.Common.{◌≡◌, ◌∙◌, ap, sym, Some, None}
use Rattle.omaha_ranks.specs.Omaha.{eight_number, fives}
use Rattle.omaha_ranks.specs.Worth.{low_worth}
use Rattle.board_ranks.specs.Threes.{two_own_worth}
use Rattle.board_ranks.proofs.three_ranks.two_own_worth.Goals as goal

pub returns-in-High : goal.returns-in-High
returns-in-High c = c.omaha_plain_value.ensures ∙ sym (ap (λ side. two_own_worth side c.args.own c.args.board) c.in-High.is)

pub returns-in-Some : goal.returns-in-Some
returns-in-Some c =
    let low : Some c.in-Some.low ≡ eight_number (fives c.args.own c.args.board) = sym c.in-Some.is ∙ c.omaha_low.ensures in
    ap low_worth low ∙ sym (ap (λ side. two_own_worth side c.args.own c.args.board) c.in-Low.is)

pub returns-in-None : goal.returns-in-None
returns-in-None c =
    let low : None ≡ eight_number (fives c.args.own c.args.board) = sym c.in-None.is ∙ c.omaha_low.ensures in
    ap low_worth low ∙ sym (ap (λ side. two_own_worth side c.args.own c.args.board) c.in-Low.is)
