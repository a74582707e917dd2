-- The shares of the parts of a pot give each seat what it is due: `law_parts_give_what_is_due`.
use Rattle.std.proofs.Common.{◌≡◌, ℕ, ◌-◌, ap, ◌∙◌, sym, refl, true, false, ◌==◌, ◌&&◌, length, arith}
use Rattle.std.specs.Prelude.{nat_lt}
use Rattle.card_sets.specs.PlayerSets.{seats_in}
use Rattle.pot_layers.specs.declared.paid.Pot.{Pot}
use Rattle.hand_laws.specs.Dues.{PartsGiveDues}
use Rattle.hand_audit.specs.Parts.{is_contested, part_shares_if, part_shares, units_of}
use Rattle.hand_audit.specs.Settle.{Showing, due_of_seat, is_alone, is_checked, net_of, parts_of, shares_if, shares_of_pot}
use Rattle.hand_audit.specs.declared.pot_names.Source.{Source}
use Rattle.hand_audit.proofs.CallerLemmas.{of_units, parts_get}

-- a pot that two players or more may win is nobody's alone
not_one : (n : ℕ) → nat_lt 1 n ≡ true → (n == 1) ≡ false
not_one n more = grind (arith, more)

not_alone : (eligible : ℕ) → is_contested eligible ≡ true → is_alone eligible ≡ false
not_alone eligible more = not_one (length (seats_in eligible)) more

due_checked : (p : ℕ) (s : Showing) (source : Source) (pot : Pot) → is_checked s pot.eligible ≡ true → is_contested pot.eligible ≡ true
    → units_of p (part_shares_if true s pot.eligible (net_of s source)) ≡ due_of_seat p (shares_of_pot s source pot)
unfolding shares_of_pot
due_checked p s source pot checked more =
    parts_get (λ units sides. units) p s pot.eligible 1 (parts_of s (net_of s source)) of_units (not_alone pot.eligible more)
    ∙ ap (λ b. due_of_seat p (shares_if b s pot.eligible (parts_of s (net_of s source)))) (sym checked)

pub give_dues : PartsGiveDues
unfolding part_shares
give_dues s source pot p checked more within =
    let net : pot.units - (pot.units - net_of s source) ≡ net_of s source = omega (arith, within) in
    let both : (is_checked s pot.eligible && is_contested pot.eligible) ≡ true = rw (checked, more) refl in
    ap (λ b. units_of p (part_shares_if b s pot.eligible (pot.units - (pot.units - net_of s source)))) both
    ∙ ap (λ n. units_of p (part_shares_if true s pot.eligible n)) net
    ∙ due_checked p s source pot checked more
