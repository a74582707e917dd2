use Rattle.std.proofs.Common.{rules, ◌≡◌, ◌==◌, ◌&&◌, ◌∙◌, refl}
use Rattle.std.specs.Int.{bit_at}
use Rattle.card_sets.specs.PlayerSets.{players_where}
use Rattle.card_sets.specs.PlayerSetLaws.{players_where-small}
use Rattle.showdown_tally.specs.Settling.{is_top, number_of}
use Rattle.showdown_tally.proofs.SetMasks.{tops_set}
use Rattle.showdown_tally.proofs.outcomes.winner_set.Goals as goal

pub returns-clause-value : goal.returns-clause-value
returns-clause-value c =
    c.passing.ensures (λ hand. (bit_at c.args.hands hand == 1) && is_top (number_of c.args.values.now hand) c.top_value-top.result) (λ hand pass inside post. search rules)
    ∙ tops_set c.args.values.now c.top_value-top.result c.args.hands c.args.count ∙ rw c.top_value-top.ensures refl

pub returns-clause-small : goal.returns-clause-small
returns-clause-small c =
    let is : c.passing.result ≡ players_where (λ hand. (bit_at c.args.hands hand == 1) && is_top (number_of c.args.values.now hand) c.top_value-top.result) c.args.count =
    c.passing.ensures (λ hand. (bit_at c.args.hands hand == 1) && is_top (number_of c.args.values.now hand) c.top_value-top.result) (λ hand pass inside post. search rules) in
    rw is (players_where-small _ c.args.count)
