use Rattle.std.proofs.Common.{arith, rules, sym, ◌∙◌}
use Rattle.tally_book.proofs.PageFacts.{room_for, posted}
use Rattle.tally_book.proofs.book.Book.post.Goals as goal

pub hand_in-requires : goal.hand_in-requires
hand_in-requires g c = let few = c.self.invariant.few in let low = c.requires.block in omega arith

pub add-requires-clause-runouts : goal.add-requires-clause-runouts
add-requires-clause-runouts g c =
    (room_for g.N.Naming.deal _ _ _ _ c.args.block _ c.self.invariant (search rules) (sym c.index-already.ensures ∙ c.if-already.false) c.requires.tally).runouts

pub add-requires-clause-cells : goal.add-requires-clause-cells
add-requires-clause-cells g c =
    (room_for g.N.Naming.deal _ _ _ _ c.args.block _ c.self.invariant (search rules) (sym c.index-already.ensures ∙ c.if-already.false) c.requires.tally).cells

pub add-requires-clause-units : goal.add-requires-clause-units
add-requires-clause-units g c =
    (room_for g.N.Naming.deal _ _ _ _ c.args.block _ c.self.invariant (search rules) (sym c.index-already.ensures ∙ c.if-already.false) c.requires.tally).units

pub invariant_of-self : goal.invariant_of-self
invariant_of-self g c =
    rw c.add-2.ensures.total (posted g.N.Naming.deal _ _ _ _ _ c.args.block _ c.self.invariant (search rules) (sym c.index-already.ensures ∙ c.if-already.false) c.requires.tally c.add.ensures)
