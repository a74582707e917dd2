use Rattle.std.proofs.Common.{◌≡◌, ◌<◌, ℕ, true, false, length, get_or, arith, sym, ap, subst, ◌∙◌}
use Rattle.tally_book.specs.Pages.{Page}
use Rattle.tally_book.specs.Parts.{Hand}
use Rattle.tally_book.proofs.PageFacts.{whole_page}
use Rattle.tally_book.proofs.book.Book.close.Goals as goal

pub returns-clause-total : goal.returns-clause-total
returns-clause-total g c = (whole_page g.N.Naming.deal _ _ _ c.self.invariant (subst (λ (p : Page). (b : ℕ) → b < length p.marks → get_or p.marks b false ≡ true) (sym c.self.view_is) c.requires.all)).0

pub returns-clause-amount : goal.returns-clause-amount
returns-clause-amount g c =
    let whole = (whole_page g.N.Naming.deal _ _ _ c.self.invariant (subst (λ (p : Page). (b : ℕ) → b < length p.marks → get_or p.marks b false ≡ true) (sym c.self.view_is) c.requires.all)).1 in
    let shown = c.audit.ensures.whole (ap (λ (h : Hand). h.parts) c.whole.view_is ∙ c.requires.whole) in
    let amount = ap (λ (h : Hand). h.amount) c.whole.view_is in
    let len = c.len.ensures in
    omega arith
