use Rattle.std.proofs.Common.{rules, ◌-◌, ◌^◌, ◌==◌, ◌&&◌, ◌∙◌, ap}
use Rattle.std.specs.Int.{bit_at}
use Rattle.card_sets.specs.PlayerSetLaws.{players_where-same}
use Rattle.card_sets.specs.PlayerSets.{set_of_players}
use Rattle.showdown_tally.specs.Settling.{is_top, number_of, tops_below}
use Rattle.showdown_tally.proofs.CallerLemmas.{tops_set}
use Rattle.hand_ranges.proofs.FullBoards.{all_bits}
use Rattle.hand_ranges.proofs.winners.tops.Goals as goal

pub returns : goal.returns
returns c =
    let values = c.args.values.now in
    let n = c.args.count in
    let top = c.top_of-top.result in
    c.passing.ensures (λ hand. is_top (number_of values hand) top) (λ hand pass inside post. search rules)
    ∙ players_where-same (λ hand. is_top (number_of values hand) top) (λ hand. (bit_at (2 ^ n - 1) hand == 1) && is_top (number_of values hand) top) n (λ hand l. all_bits n hand (is_top (number_of values hand) top) l)
    ∙ tops_set values top (2 ^ n - 1) n
    ∙ ap (λ t. set_of_players (tops_below values t (2 ^ n - 1) n)) c.top_of-top.ensures
