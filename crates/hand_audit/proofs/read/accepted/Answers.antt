use Rattle.std.proofs.Common.{◌≡◌, ℕ, List, sym, ap, ◌∙◌, refl}
use Rattle.pot_layers.specs.declared.paid.Paid.{Paid}
use Rattle.pot_layers.specs.Pots.{pots}
use Rattle.betting_replay.specs.Table.{ReplayState}
use Rattle.hand_verdict.specs.declared.verdicts.AllIn.{AllIn}
use Rattle.hand_verdict.specs.declared.verdicts.HandAudit.TheVariants.{Accepted}
use Rattle.hand_verdict.specs.declared.settlement.Settlement.{Settlement}
use Rattle.hand_audit.specs.AllIns.{eligible_in, all_in_by}
use Rattle.hand_audit.specs.PotSeats.{eligible_of}
use Rattle.hand_audit.specs.Settle.{Settled}
use Rattle.hand_audit.specs.Showings.{paid_in, showing_of}
use Rattle.hand_audit.proofs.lemmas.tables.SettlementPots.{settled_same, paid_shown}
use Rattle.hand_audit.proofs.read.accepted.Goals as goal

same_accepted : (a b : Settlement) (x y : AllIn) (m n : List (ℕ × List ℕ)) (p q : ℕ) → a ≡ b → x ≡ y → m ≡ n → p ≡ q → Accepted a x m p ≡ Accepted b y n q
same_accepted a b x y m n p q e f g h = rw (e, f, g, h) refl

pub returns : goal.returns
returns c so_far k named made =
    let g = c.args.header.now in
    let h = so_far.events in
    let s = showing_of g c.args.players h in
    let pots_same : eligible_of c.args.settled.pots ≡ eligible_in (pots (paid_in c.args.state.now.replay))
    = ap (λ (x : Settled). eligible_of x.pots) made.settled ∙ settled_same s ∙ ap (λ (ps : List Paid). eligible_in (pots ps)) (paid_shown g c.args.players h)
    ∙ ap (λ (t : ReplayState). eligible_in (pots (paid_in t))) (sym k.stands.is) in
    same_accepted _ _ _ _ _ _ _ _ (c.settlement_of.ensures c.args.players so_far k made)
    (c.all_in_by-all_in.ensures pots_same ∙ ap (all_in_by g.game) k.stands.is) named c.bits.ensures
