use Rattle.std.proofs.Common.{◌≡◌, ◌+◌, ◌^◌, ap, ◌∙◌, arith}
use Rattle.player_totals.specs.Totals.{RunTotals}
use Rattle.player_totals.specs.TotalsSeen.{totals_are_sums}
use Rattle.player_totals.proofs.LineupFacts.{small_more}
use Rattle.player_totals.proofs.RunFacts.{accepted_more}
use Rattle.player_totals.proofs.totals.Totals.add.Goals as goal

pub add_hand-requires : goal.add_hand-requires
add_hand-requires c =
    let few = c.self.invariant.0 in
    record { sums = small_more totals_are_sums c.self.inside.accepted (2 ^ 32) c.self.inside.players (omega arith) c.self.invariant.1 }

pub invariant_of-self-2 : goal.invariant_of-self-2
invariant_of-self-2 c =
    let seen : c.self.inside.accepted + c.self.inside.rejected ≡ c.args.self.now.hands = ap (λ (t : RunTotals). t.hands) c.self.view_is in
    let few = c.requires.few in
    (omega arith, c.in_ok-add_hand.ensures.small c.self.inside.accepted c.self.invariant.1)

pub returns-clause-added : goal.returns-clause-added
returns-clause-added c = λ hands stands.
    rw c.in-Accepted.is
    (accepted_more hands c.in-Accepted.settlement c.in-Accepted.all_in c.in-Accepted.names c.in-Accepted.players c.self.inside.accepted c.self.inside.rejected c.self.inside.players _
    (c.self.view_is ∙ stands) c.in_ok-add_hand.ensures.added)
