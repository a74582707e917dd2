use Rattle.std.proofs.Common.{◌≡◌, ◌-◌, ◌∙◌, ap, sym, Some, None}
use Rattle.std.specs.Option.{option_map}
use Rattle.rank_low.specs.Low.{ace_number, best_eight}
use Rattle.omaha_ranks.specs.Worth.{worth, low_worth}
use Rattle.omaha_ranks.proofs.best_choice.worth.Goals as goal

pub returns-in-High : goal.returns-in-High
unfolding worth
returns-in-High c = c.number.ensures ∙ c.high_by_ranks.ensures ∙ sym (ap (λ s. worth s c.args.cards) c.in-High.is)

pub returns-in-Some : goal.returns-in-Some
unfolding worth
returns-in-Some c =
    let low : Some c.in-Some.low ≡ option_map ace_number (best_eight c.args.cards) = sym c.in-Some.is ∙ c.eight_or_better.ensures in
    ap (λ n. 4294967295 - n) c.number-in-Some.ensures ∙ ap low_worth low ∙ sym (ap (λ s. worth s c.args.cards) c.in-Low.is)

pub returns-in-None : goal.returns-in-None
unfolding worth
returns-in-None c =
    let low : None ≡ option_map ace_number (best_eight c.args.cards) = sym c.in-None.is ∙ c.eight_or_better.ensures in
    ap low_worth low ∙ sym (ap (λ s. worth s c.args.cards) c.in-Low.is)
