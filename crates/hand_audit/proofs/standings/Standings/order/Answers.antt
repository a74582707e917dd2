use Rattle.std.proofs.Common.{◌∙◌, ℕ, List, sym, subst}
use Rattle.std.specs.Prelude.{slice_index_or}
use Rattle.pot_layers.specs.Split.{IsOrder}
use Rattle.hand_audit.specs.Settle.{mark_at}
use Rattle.hand_audit.proofs.lemmas.splits.OddOrder.{ordered}
use Rattle.hand_audit.proofs.lemmas.splits.MarkOrder.{marked_ordered, same_marks, order_marked, order_seated}
use Rattle.hand_audit.proofs.standings.Standings.order.Goals as goal

pub returns-then-has_marks : goal.returns-then-has_marks
returns-then-has_marks c =
    let m : ℕ → ℕ = λ p. slice_index_or c.args.on.now.marks p 0 in
    let winners = c.args.winners in
    record {
      value = λ s side board t on. c.by_marks.ensures ∙ same_marks m (mark_at side s board) winners on.marks ∙ order_marked side s board c.args.self.now.game winners (sym c.has_marks.ensures ∙ c.if-has_marks.true) t.game;
      order = subst (λ (order : List ℕ). IsOrder winners order) (sym c.by_marks.ensures) (marked_ordered m winners c.requires.marks c.requires.seats);
    }

pub returns-else-has_marks : goal.returns-else-has_marks
returns-else-has_marks c =
    let winners = c.args.winners in
    record {
      value = λ s side board t on. c.odd_order.ensures ∙ order_seated side s board c.args.self.now.game winners c.args.self.now.button (sym c.has_marks.ensures ∙ c.if-has_marks.false) t.game t.button;
      order = subst (λ (order : List ℕ). IsOrder winners order) (sym c.odd_order.ensures) (ordered c.args.self.now.button winners c.requires.ready.button c.requires.seats);
    }
