use Rattle.std.proofs.Common.{◌∙◌, sym, ap, ◌≡◌, ◌+◌, ℕ, ◌∷◌, length, arith, rules}
use Rattle.card_sets.specs.PlayerSets.{players_in}
use Rattle.card_sets.specs.PlayerSetLaws.{players_in-first}
use Rattle.card_sets.proofs.player_sets.PlayersIterator.next.Goals as goal

pub returns-clause-steps : goal.returns-clause-steps
returns-clause-steps c = players_in-first c.args.self.now.rest c.in_ok-player.player c.first.ensures.set (sym c.first.ensures.value ∙ c.in_ok-player.was) ∙ ap (λ (r : ℕ). c.in_ok-player.player ∷ players_in r) (sym c.without-self.ensures)

pub returns-clause-goes : goal.returns-clause-goes
returns-clause-goes c =
    let step : players_in c.args.self.now.rest ≡ c.in_ok-player.player ∷ players_in c.without-self.result = players_in-first c.args.self.now.rest c.in_ok-player.player c.first.ensures.set (sym c.first.ensures.value ∙ c.in_ok-player.was) ∙ ap (λ (r : ℕ). c.in_ok-player.player ∷ players_in r) (sym c.without-self.ensures) in
    let shorter : length (players_in c.args.self.now.rest) ≡ length (players_in c.without-self.result) + 1 = omega (arith, ap length step) in
    search rules
