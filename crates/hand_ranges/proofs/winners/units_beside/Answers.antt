use Rattle.std.proofs.Common.{◌≡◌, ◌<◌, ◌/◌, length, sym, ap, subst, ◌∙◌}
use Rattle.card_sets.specs.PlayerSets.{hands_below}
use Rattle.showdown_tally.proofs.CallerLemmas.{among_set, set_gives, set_gives_none, some_among}
use Rattle.hand_ranges.proofs.winners.units_beside.Goals as goal

pub nonzero_div-result : goal.nonzero_div-result
nonzero_div-result c =
    let size : c.from.result ≡ length (hands_below c.args.winners c.args.count) = c.from.ensures ∙ c.count.ensures.value ∙ ap length c.below.ensures.hands in
    subst (λ n. 0 < n) (sym size) (some_among c.args.hand (hands_below c.args.winners c.args.count) (among_set c.args.winners c.args.count c.args.hand c.requires.hand ∙ sym c.has.ensures ∙ c.if-has.true))

pub returns-then-has : goal.returns-then-has
returns-then-has c =
    let size : c.from.result ≡ length (hands_below c.args.winners c.args.count) = c.from.ensures ∙ c.count.ensures.value ∙ ap length c.below.ensures.hands in
    ap (λ n. 5040 / n) size ∙ set_gives 5040 c.args.winners c.args.count c.args.hand c.requires.hand (sym c.has.ensures ∙ c.if-has.true)

pub returns-else-has : goal.returns-else-has
returns-else-has c = set_gives_none 5040 c.args.winners c.args.count c.args.hand c.requires.hand (sym c.has.ensures ∙ c.if-has.false)
