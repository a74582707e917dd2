use Rattle.std.proofs.Common.{◌≡◌, ◌++◌, ◌&&◌, ◌∙◌, ap, sym, true}
use Rattle.hand_audit.specs.Parts.{is_contested, part_shares_if, shares_on_boards}
use Rattle.hand_audit.specs.Settle.{parts_of}
use Rattle.hand_audit.proofs.lemmas.splits.SideShares.{contested_more}
use Rattle.hand_audit.proofs.parts.part_shares.Goals as goal

pub returns-clause-parts : goal.returns-clause-parts
returns-clause-parts c s t d =
    let eligible = c.args.eligible in
    let more : is_contested eligible ≡ true = sym c.is_contested.ensures ∙ c.if-not-is_contested.false in
    let some : (c.args.checked && is_contested eligible) ≡ true = ap (λ b. b && is_contested eligible) c.if-not-checked.false ∙ more in
    c.of-2.ensures ∙ c.in_ok-add_parts.ensures.parts s t d (contested_more eligible more)
    ∙ ap (λ xs. xs ++ shares_on_boards s eligible 1 (parts_of s c.args.units)) c.new-parts.ensures.items
    ∙ ap (λ b. part_shares_if b s eligible c.args.units) (sym some)
