-- The settlement of one pot, and of a hand.
use Rattle.std.proofs.Common.{◌≡◌, ℕ, ◌-◌, ◌≤◌, List, [], ◌∷◌, refl, sym, ap, ◌∙◌, Bool, true, false, ◌&&◌, map, length, arith}
use Rattle.std.specs.Prelude.{Option, None, if◌then◌else◌}
use Rattle.pot_layers.specs.declared.paid.Pot.{Pot}
use Rattle.pot_layers.specs.Pots.{pots}
use Rattle.hand_audit.specs.declared.collections.Collection.{Collection}
use Rattle.hand_audit.specs.declared.dues.Dues.{Dues}
use Rattle.hand_audit.specs.declared.pot_names.Source.{Source}
use Rattle.hand_audit.specs.declared.pot_names.Source.TheVariants.{Any}
use Rattle.hand_audit.specs.declared.settling.HandSettled.{HandSettled}
use Rattle.hand_verdict.specs.declared.parts.PartShare.{PartShare}
use Rattle.hand_verdict.specs.declared.settlement.Payment.{Payment}
use Rattle.hand_verdict.specs.declared.settlement.PotLine.{PotLine}
use Rattle.hand_audit.specs.Collections.{taken_from, got_from}
use Rattle.hand_audit.specs.PotNames.{counts_from, fits, each_taken}
use Rattle.hand_audit.specs.Parts.{is_contested, part_shares, part_shares_if}
use Rattle.hand_audit.specs.Settle.{Showing, Settled, settled, settled_of, beyond, beyond_if, is_checked, net_of, parts_of, pay_of, shares_if, shares_of_pot, payment, payments_from, beyond_from, due_of_seat, sides_of_seat, pot_line, pot_lines, beyond_in, unfit_line}
use Rattle.hand_audit.specs.SettlementAnswers.{AreDues, IsOfPot, IsOfHand, due_by, payment_by, sides_by}
use Rattle.hand_audit.proofs.lemmas.splits.PaymentWalk.{same_beyond, same_payments}

-- what the code gives of a pot by these dues is what the rules give of it
given_are : (s : Showing) (source : Source) (pot : Pot) (net : ℕ) → net ≡ net_of s source → shares_if (is_checked s pot.eligible) s pot.eligible (parts_of s net) ≡ shares_of_pot s source pot
unfolding shares_of_pot
given_are s source pot net taken = ap (λ n. shares_if (is_checked s pot.eligible) s pot.eligible (parts_of s n)) taken

parts_are : (s : Showing) (source : Source) (pot : Pot) (net : ℕ) → net ≡ net_of s source → net ≤ pot.units
    → part_shares_if (is_checked s pot.eligible && is_contested pot.eligible) s pot.eligible net ≡ part_shares s (pot_line s source pot)
unfolding part_shares
parts_are s source pot net taken within =
    let left : net ≡ pot.units - (pot.units - net) = omega (arith, within) in
    ap (λ n. part_shares_if (is_checked s pot.eligible && is_contested pot.eligible) s pot.eligible n) (left ∙ ap (λ n. pot.units - (pot.units - n)) taken)

abbrev pay : ℕ → Bool → ℕ → ℕ → Payment
pay p checked got due = record { seat = p; got = got; due = if checked then due else got }

pays_are : (s : Showing) (source : Source) (pot : Pot) (dues : Dues) (net : ℕ) (all : List Collection) → s.collections ≡ all → net ≡ net_of s source → AreDues dues s pot.eligible net
    → (p : ℕ) → 1 ≤ p → p ≤ 10 → payment_by dues (counts_from source) all p ≡ pay_of s source pot p
pays_are s source pot dues net all same taken are p low high =
    ap (λ (xs : List Collection). pay p dues.checked (got_from (counts_from source) p xs) (due_by dues p)) (sym same)
    ∙ ap (λ b. pay p b (got_from (counts_from source) p s.collections) (due_by dues p)) are.checked
    ∙ ap (pay p (is_checked s pot.eligible) (got_from (counts_from source) p s.collections)) (are.units p low high ∙ ap (due_of_seat p) (given_are s source pot net taken))

line_is : (pot : Pot) (net net' : ℕ) (checked checked' : Bool) (paid paid' : List Payment) → net ≡ net' → checked ≡ checked' → paid ≡ paid'
    → let line : PotLine = record { gross = pot.units; rake = pot.units - net; eligible = pot.eligible; checked = checked; paid = paid } in
    let line' : PotLine = record { gross = pot.units; rake = pot.units - net'; eligible = pot.eligible; checked = checked'; paid = paid' } in line ≡ line'
line_is pot net net' checked checked' paid paid' a b c = rw (a, b, c) refl

pub one_pot : (s : Showing) (source : Source) (pot : Pot) (dues : Dues) (net : ℕ) (paid : List Payment) (first : Option Payment) (all : List Collection)
    → s.collections ≡ all → net ≡ taken_from (counts_from source) all → net ≤ pot.units → AreDues dues s pot.eligible net
    → paid ≡ payments_from (payment_by dues (counts_from source) all) 1 10 → first ≡ beyond_from (payment_by dues (counts_from source) all) (sides_by dues) 1 10
    → IsOfPot s source pot (record { line = record { gross = pot.units; rake = pot.units - net; eligible = pot.eligible; checked = dues.checked; paid = paid }; parts = dues.parts; beyond = first })
one_pot s source pot dues net paid first all same taken within are pays away =
    let net_is : net ≡ net_of s source = taken ∙ ap (taken_from (counts_from source)) (sym same) in
    let each = pays_are s source pot dues net all same net_is are in
    record {
      line = line_is pot net _ dues.checked _ paid _ net_is are.checked (pays ∙ same_payments (payment_by dues (counts_from source) all) (pay_of s source pot) 1 10 (omega arith) (omega arith) each);
      parts = are.parts ∙ parts_are s source pot net net_is within;
      beyond = away ∙ same_beyond (payment_by dues (counts_from source) all) (pay_of s source pot) (sides_by dues) (λ p. sides_of_seat p (shares_of_pot s source pot)) 1 10 (omega arith) (omega arith) each
          (λ p low high. are.sides p low high ∙ ap (sides_of_seat p) (given_are s source pot net net_is));
    }

-- names that fit, or don't
second : (a b : Bool) → (a && b) ≡ true → b ≡ true
second true b h = h
second false b h = cc

pub each_of_fits : (all : List Pot) (collected : List Collection) → fits all collected ≡ true → each_taken (length all) 0 all collected ≡ true
unfolding fits
each_of_fits all collected h = second _ _ h

fits_are : (s : Showing) (all : List Pot) (collected : List Collection) (b : Bool) → s.collections ≡ collected → pots s.paid ≡ all → fits all collected ≡ b → fits (pots s.paid) s.collections ≡ b
fits_are s all collected b same are is = ap (λ xs. fits xs s.collections) are ∙ ap (fits all) same ∙ is

settled_are : (s : Showing) (all : List Pot) (collected : List Collection) (b : Bool) → s.collections ≡ collected → pots s.paid ≡ all → fits all collected ≡ b → settled s ≡ settled_of b s all
unfolding settled
settled_are s all collected b same are is = ap (λ x. settled_of x s (pots s.paid)) (fits_are s all collected b same are is) ∙ ap (settled_of b s) are

beyond_are : (s : Showing) (all : List Pot) (collected : List Collection) (b : Bool) → s.collections ≡ collected → pots s.paid ≡ all → fits all collected ≡ b → beyond s ≡ beyond_if b s all
unfolding beyond
beyond_are s all collected b same are is = ap (λ x. beyond_if x s (pots s.paid)) (fits_are s all collected b same are is) ∙ ap (beyond_if b s) are

-- where the winners aren't known each seat is due what it got
pub unknown_payments : (dues : Dues) (source : Source) (all : List Collection) → dues.checked ≡ false
    → payments_from (payment_by dues (counts_from source) all) 1 10 ≡ payments_from (λ p. payment false (got_from (counts_from source) p all) [] p) 1 10
unknown_payments dues source all unknown =
    same_payments (payment_by dues (counts_from source) all) (λ p. payment false (got_from (counts_from source) p all) [] p) 1 10 (omega arith) (omega arith)
    (λ p low high. ap (λ b. pay p b (got_from (counts_from source) p all) (due_by dues p)) unknown)

unfit_parts : (s : Showing) (all : List Pot) → map (λ (pot : Pot). []) all ≡ map (part_shares s) (map unfit_line all)
unfolding part_shares
unfit_parts s [] = refl
unfit_parts s (pot ∷ all) = ap (λ (xs : List (List PartShare)). [] ∷ xs) (unfit_parts s all)

pub unfit_hand : (s : Showing) (all : List Pot) (collected : List Collection) (one : HandSettled) → s.collections ≡ collected → pots s.paid ≡ all → fits all collected ≡ false
    → one.fits ≡ false → one.pots ≡ map unfit_line all → one.parts.items ≡ map (λ (pot : Pot). []) all → one.paid ≡ payments_from (λ p. payment false (got_from (counts_from Any) p collected) [] p) 1 10 → one.beyond ≡ None
    → IsOfHand s one
unfit_hand s all collected one same are is fit lines_are parts_given paid_are none =
    let pays : one.paid ≡ payments_from (λ p. payment false (got_from (counts_from Any) p s.collections) [] p) 1 10 = paid_are ∙ ap (λ (xs : List Collection). payments_from (λ p. payment false (got_from (counts_from Any) p xs) [] p) 1 10) (sym same) in
    let done : settled s ≡ settled_of false s all = settled_are s all collected false same are is in
    record {
      settled = rw (fit, lines_are, pays) (sym done);
      parts = parts_given ∙ unfit_parts s all ∙ ap (λ (x : Settled). map (part_shares s) x.pots) (sym done);
      beyond = none ∙ sym (beyond_are s all collected false same are is);
    }

pub fit_hand : (s : Showing) (all : List Pot) (collected : List Collection) (one : HandSettled) → s.collections ≡ collected → pots s.paid ≡ all → fits all collected ≡ true
    → one.fits ≡ true → one.pots ≡ pot_lines s (length all) 0 all → one.parts.items ≡ map (part_shares s) (pot_lines s (length all) 0 all) → one.paid ≡ [] → one.beyond ≡ beyond_in s (length all) 0 all
    → IsOfHand s one
fit_hand s all collected one same are is fit lines_are parts_given none first_is =
    let done : settled s ≡ settled_of true s all = settled_are s all collected true same are is in
    record {
      settled = rw (fit, lines_are, none) (sym done);
      parts = parts_given ∙ ap (λ (x : Settled). map (part_shares s) x.pots) (sym done);
      beyond = first_is ∙ sym (beyond_are s all collected true same are is);
    }
