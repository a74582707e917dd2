use Rattle.std.proofs.Common.{◌≡◌, ◌+◌, ◌^◌, ◌∷◌, [], ◌++◌, ap, subst, sym, ◌∙◌, arith}
use Rattle.hand_verdict.specs.declared.verdicts.HandAudit.{HandAudit}
use Rattle.player_totals.specs.Balance.{RunBalance, balance_of}
use Rattle.player_totals.specs.BalanceSeen.{balance_is_sums}
use Rattle.player_totals.proofs.BalanceFacts.{accepted_more, hand_of}
use Rattle.player_totals.proofs.LineupFacts.{small_more}
use Rattle.player_totals.proofs.balance.Balance.add.Goals as goal

pub add_hand-requires : goal.add_hand-requires
add_hand-requires c =
    let few = c.self.invariant.0 in
    record { sums = small_more balance_is_sums c.self.inside.accepted (2 ^ 32) c.self.inside.players (omega arith) c.self.invariant.1 }

pub invariant_of-self-2 : goal.invariant_of-self-2
invariant_of-self-2 c =
    let seen : c.self.inside.accepted + c.self.inside.rejected ≡ c.args.self.now.hands = ap (λ (b : RunBalance). b.hands) c.self.view_is in
    let few = c.requires.few in
    (omega arith, c.in_ok-add_hand.ensures.small c.self.inside.accepted c.self.invariant.1)

pub returns-clause-added : goal.returns-clause-added
returns-clause-added c = λ hands stands.
    let s = c.in-Accepted.settlement in
    let chips = c.args.hand.now.chips in
    let now : RunBalance = record {
      hands = c.self.inside.accepted + 1 + c.self.inside.rejected;
      accepted = c.self.inside.accepted + 1;
      rejected = c.self.inside.rejected;
      players = c.add_hand.new.players;
    } in
    subst (λ (audit : HandAudit). now ≡ balance_of (hands ++ hand_of audit chips ∷ [])) (sym c.in-Accepted.is)
    (accepted_more hands s c.in-Accepted.all_in c.in-Accepted.names c.in-Accepted.players chips c.self.inside.accepted c.self.inside.rejected c.self.inside.players c.add_hand.new.players
    (c.self.view_is ∙ stands) c.in_ok-add_hand.ensures.added)
