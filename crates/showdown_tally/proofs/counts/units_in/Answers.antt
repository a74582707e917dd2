use Rattle.std.proofs.Common.{◌≡◌, ◌/◌, sym, ap, ◌∙◌, arith, length}
use Rattle.showdown_tally.specs.Settling.{whole_of}
use Rattle.card_sets.specs.PlayerSets.{has_player, hands_below, players_in}
use Rattle.showdown_tally.proofs.SetFacts.{among_set, set_gives, set_gives_none, length_few}
use Rattle.showdown_tally.proofs.SetMasks.{count_length}
use Rattle.showdown_tally.proofs.MaskWinners.{some_among}
use Rattle.showdown_tally.proofs.counts.units_in.Goals as goal

pub part-requires-clause-some : goal.part-requires-clause-some
part-requires-clause-some c =
    let size : c.count.result ≡ length (hands_below c.args.set c.args.count) = c.count.ensures.value ∙ ap (λ set. length (players_in set)) c.of-winners.ensures ∙ count_length c.args.set c.args.count c.requires.set c.requires.few in
    rw size (some_among c.args.hand (hands_below c.args.set c.args.count) (among_set c.args.set c.args.count c.args.hand c.requires.hand ∙ sym (c.has.ensures ∙ ap (λ set. has_player set c.args.hand) c.of-winners.ensures) ∙ c.if-has.true))

pub part-requires-clause-few : goal.part-requires-clause-few
part-requires-clause-few c =
    let size : c.count.result ≡ length (hands_below c.args.set c.args.count) = c.count.ensures.value ∙ ap (λ set. length (players_in set)) c.of-winners.ensures ∙ count_length c.args.set c.args.count c.requires.set c.requires.few in
    rw size (let few = length_few c.args.set c.args.count in omega arith)

pub returns-then-has-clause-value : goal.returns-then-has-clause-value
returns-then-has-clause-value c =
    let size : c.count.result ≡ length (hands_below c.args.set c.args.count) = c.count.ensures.value ∙ ap (λ set. length (players_in set)) c.of-winners.ensures ∙ count_length c.args.set c.args.count c.requires.set c.requires.few in
    c.part.ensures ∙ ap (λ n. whole_of c.args.halved / n) size ∙ set_gives (whole_of c.args.halved) c.args.set c.args.count c.args.hand c.requires.hand (sym (c.has.ensures ∙ ap (λ set. has_player set c.args.hand) c.of-winners.ensures) ∙ c.if-has.true)

pub returns-else-has-clause-value : goal.returns-else-has-clause-value
returns-else-has-clause-value c = set_gives_none (whole_of c.args.halved) c.args.set c.args.count c.args.hand c.requires.hand (sym (c.has.ensures ∙ ap (λ set. has_player set c.args.hand) c.of-winners.ensures) ∙ c.if-has.false)
