use Rattle.std.proofs.Common.{◌≡◌, length, sym, ap, ◌∙◌}
use Rattle.card_sets.specs.PlayerSets.{has_player, hands_below, players_in}
use Rattle.showdown_tally.proofs.SetFacts.{set_loses, set_wins, set_ties}
use Rattle.showdown_tally.proofs.SetMasks.{count_length}
use Rattle.showdown_tally.proofs.counts.ending.Goals as goal

pub returns-then-not-has : goal.returns-then-not-has
returns-then-not-has c = set_loses c.args.set c.args.count c.args.hand c.requires.hand (sym (c.has.ensures ∙ ap (λ set. has_player set c.args.hand) c.of-winners.ensures) ∙ c.if-not-has.true)

pub returns-then-count-eq1 : goal.returns-then-count-eq1
returns-then-count-eq1 c =
    let size : c.count.result ≡ length (hands_below c.args.set c.args.count) = c.count.ensures.value ∙ ap (λ set. length (players_in set)) c.of-winners.ensures ∙ count_length c.args.set c.args.count c.requires.set c.requires.few in
    set_wins c.args.set c.args.count c.args.hand c.requires.hand (sym (c.has.ensures ∙ ap (λ set. has_player set c.args.hand) c.of-winners.ensures) ∙ c.if-not-has.false) (sym size ∙ c.if-count-eq1.true)

pub returns-else-count-eq1 : goal.returns-else-count-eq1
returns-else-count-eq1 c =
    let size : c.count.result ≡ length (hands_below c.args.set c.args.count) = c.count.ensures.value ∙ ap (λ set. length (players_in set)) c.of-winners.ensures ∙ count_length c.args.set c.args.count c.requires.set c.requires.few in
    set_ties c.args.set c.args.count c.args.hand c.requires.hand (sym (c.has.ensures ∙ ap (λ set. has_player set c.args.hand) c.of-winners.ensures) ∙ c.if-not-has.false) (λ one. c.if-count-eq1.false (size ∙ one))
