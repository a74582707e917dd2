use Rattle.std.proofs.Common.{◌≡◌, ◌∙◌, ap, rules}
use Rattle.std.specs.Prelude.{is_some}
use Rattle.card_sets.specs.PlayerSetLaws.{has_player-where}
use Rattle.card_sets.specs.PlayerSets.{has_player, players_where}
use Rattle.betting_replay.specs.TableAfter.{final_at}
use Rattle.hand_audit.proofs.standings.known.Goals as goal

pub returns : goal.returns
returns c p l =
    let known : c.passing.result ≡ players_where (λ q. is_some (final_at c.args.replay.now q)) 11 = c.passing.ensures (λ q. is_some (final_at c.args.replay.now q)) (λ q pass inside post. search rules) in
    ap (λ set. has_player set p) known ∙ has_player-where (λ q. is_some (final_at c.args.replay.now q)) 11 p l
