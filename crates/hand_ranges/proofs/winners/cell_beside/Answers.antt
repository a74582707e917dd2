use Rattle.std.proofs.Common.{◌≡◌, length, sym, ap, ◌∙◌}
use Rattle.card_sets.specs.PlayerSets.{hands_below}
use Rattle.showdown_tally.proofs.CallerLemmas.{set_loses, set_wins, set_ties}
use Rattle.hand_ranges.proofs.winners.cell_beside.Goals as goal

pub returns-then-not-has : goal.returns-then-not-has
returns-then-not-has c = set_loses c.args.winners c.args.count c.args.hand c.requires.hand (sym c.has.ensures ∙ c.if-not-has.true)

pub returns-then-count-eq1 : goal.returns-then-count-eq1
returns-then-count-eq1 c =
    let size : c.count.result ≡ length (hands_below c.args.winners c.args.count) = c.count.ensures.value ∙ ap length c.below.ensures.hands in
    set_wins c.args.winners c.args.count c.args.hand c.requires.hand (sym c.has.ensures ∙ c.if-not-has.false) (sym size ∙ c.if-count-eq1.true)

pub returns-else-count-eq1 : goal.returns-else-count-eq1
returns-else-count-eq1 c =
    let size : c.count.result ≡ length (hands_below c.args.winners c.args.count) = c.count.ensures.value ∙ ap length c.below.ensures.hands in
    set_ties c.args.winners c.args.count c.args.hand c.requires.hand (sym c.has.ensures ∙ c.if-not-has.false) (λ one. c.if-count-eq1.false (size ∙ one))
