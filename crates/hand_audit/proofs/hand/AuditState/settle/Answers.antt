use Rattle.std.proofs.Common.{◌≤◌, ◌∙◌, List, length, sym, subst}
use Rattle.std.proofs.lemmas.Result.{IfOk-weaker}
use Rattle.hand_audit.specs.Showings.{showing_at}
use Rattle.pot_layers.specs.declared.paid.Pot.{Pot}
use Rattle.hand_audit.specs.Winning.{AreDecided}
use Rattle.hand_audit.proofs.lemmas.splits.ShownHand.{collections_shown, pots_shown}
use Rattle.hand_audit.proofs.lemmas.tables.FewPots.{few_pots}
use Rattle.hand_audit.proofs.hand.AuditState.settle.Goals as goal

pub returns : goal.returns
returns c =
    let items = c.args.self.now.collections.items in
    let s = showing_at c.args.game c.args.self.now.replay items in
    let coll = collections_shown c.args.game c.args.self.now.replay items ∙ sym c.deref.ensures.value in
    let all = pots_shown c.args.game c.args.self.now.replay items ∙ sym c.in_ok-all.ensures ∙ sym c.items.ensures in
    IfOk-weaker c.settle.result _ _ (λ settled made d. made s (c.of_replay-standings.ensures.tells items) (subst (λ (xs : List Pot). AreDecided s xs) (sym c.in_ok-all.ensures ∙ sym c.items.ensures) d) coll all) c.settle.ensures

pub settle-requires-clause-few : goal.settle-requires-clause-few
settle-requires-clause-few c = subst (λ (ps : List Pot). length ps ≤ 10) (sym (c.items.ensures ∙ c.in_ok-all.ensures)) (few_pots c.args.self.now.replay)
