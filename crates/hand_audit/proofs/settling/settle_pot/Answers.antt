use Rattle.std.proofs.Common.{◌≡◌, ℕ, ◌≤◌, ◌∙◌, ap, sym, subst, refl}
use Rattle.hand_audit.specs.PotNames.{counts_from}
use Rattle.hand_audit.specs.Settle.{beyond_among}
use Rattle.hand_audit.specs.SettlementAnswers.{AreDues, payment_by, sides_by}
use Rattle.hand_audit.specs.Winning.{IsDecided}
use Rattle.hand_audit.proofs.lemmas.splits.PaymentWalk.{first_among}
use Rattle.hand_audit.proofs.lemmas.splits.SettledPots.{one_pot}
use Rattle.hand_audit.proofs.settling.settle_pot.Goals as goal

pub returns : goal.returns
returns c s t d same =
    let source = c.args.source in
    let all = c.args.all.now in
    let dues = c.in_ok-dues.dues in
    let net = c.taken_from-net.result in
    let set : c.of.result ≡ c.args.pot.eligible = c.of.ensures in
    let are = subst (λ (n : ℕ). AreDues dues s n net) set (c.in_ok-dues.ensures.dues s t (subst (λ (n : ℕ). IsDecided s n) (sym set) d)) in
    let within : net ≤ c.args.pot.units = subst (λ (n : ℕ). n ≤ c.args.pot.units) (sym c.taken_from-net.ensures.value) c.requires.taken in
    one_pot s source c.args.pot dues net c.of-2.result c.first_beyond-beyond.result all same c.taken_from-net.ensures.value within are
    (c.of-2.ensures ∙ c.in_ok-paid.ensures)
    (c.first_beyond-beyond.ensures ∙ ap (beyond_among (sides_by dues)) (c.deref.ensures.value ∙ c.in_ok-paid.ensures) ∙ first_among (payment_by dues (counts_from source) all) (sides_by dues) 1 10 (λ q. refl))
