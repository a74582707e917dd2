-- All seats are due what they got together: `law_dues_add_up_to_what_was_paid`.
use Rattle.std.proofs.Common.{◌≡◌, ℕ, zero, suc, ◌+◌, ◌<◌, ◌≤◌, List, [], ◌∷◌, refl, sym, ap, ◌∙◌, subst, Bool, true, length, arith}
use Rattle.std.specs.Prelude.{All, Ok, Some, sum_by}
use Rattle.std.proofs.lemmas.List.Sums.{sum_by-cons}
use Rattle.history_text.specs.Headers.{header_of}
use Rattle.hand_events.specs.declared.events.Event.{Event}
use Rattle.hand_events.specs.declared.events.Header.{Header}
use Rattle.hand_choice.specs.AllowedFives.{AllowsFives}
use Rattle.betting_replay.specs.Accepted.{ShowsSeats}
use Rattle.betting_replay.specs.CardLaws.{PlacesAreApart, CardsBelongAfter, WholeBoards}
use Rattle.betting_replay.specs.Sums.{runs_twice}
use Rattle.pot_layers.specs.Eligible.{ExcludesFolded}
use Rattle.pot_layers.specs.Pots.{pots}
use Rattle.pot_layers.specs.Split.{OrdersItsSeats}
use Rattle.pot_layers.specs.declared.paid.Pot.{Pot}
use Rattle.hand_laws.specs.Chips.{over_seats, sum_from}
use Rattle.hand_laws.specs.Dues.{DuesAddUp}
use Rattle.hand_verdict.specs.SeatSums.{due_by, due_of, got_by, got_of}
use Rattle.hand_laws.specs.PotSums.{IsPaidOut, PotsAddUp, all_due, all_got}
use Rattle.hand_audit.specs.Settle.{Settled, Showing, pay_of, payments_from, pot_line, pot_lines, settled, settled_of}
use Rattle.hand_audit.specs.Showings.{rake, showing_of}
use Rattle.hand_audit.specs.Verdict.{audit_of, events_of, settlement_by, settlement_of}
use Rattle.hand_audit.specs.declared.pot_names.Source.TheVariants.{Numbered}
use Rattle.hand_verdict.specs.declared.settlement.Payment.{Payment}
use Rattle.hand_verdict.specs.declared.settlement.PotLine.{PotLine}
use Rattle.hand_verdict.specs.declared.settlement.Settlement.{Settlement}
use Rattle.hand_verdict.specs.declared.verdicts.AllIn.{AllIn}
use Rattle.hand_verdict.specs.declared.verdicts.HandAudit.TheVariants.{Accepted}
use Rattle.hand_audit.proofs.CallerLemmas.{accepted_is, KeepsOrder}
use Rattle.hand_laws.proofs.lemmas.nets.GotPayments.{OwnSeats, paid_at}
use Rattle.hand_laws.proofs.lemmas.pot_sums.AddedPots.{accepted_adds, settled_fits}
use Rattle.hand_laws.proofs.lemmas.splits.RightSplits.{fit_of}
use Rattle.hand_laws.proofs.lemmas.pot_sums.PaymentSums.{due_by_all, got_by_all, nothing}
use Rattle.hand_laws.proofs.lemmas.chips.SeatSums.{sum_plus}

-- term by term, over the seats that are summed
pub sum_in : (f g : ℕ → ℕ) (p n : ℕ) → ((q : ℕ) → p ≤ q → q < p + n → f q ≡ g q) → sum_from f p n ≡ sum_from g p n
sum_in f g p zero h = refl
sum_in f g p (suc n) h =
    let here : f p ≡ g p = h p (omega arith) (omega arith) in
    let rest : sum_from f (p + 1) n ≡ sum_from g (p + 1) n = sum_in f g (p + 1) n (λ q l m. h q (omega (arith, l)) (omega (arith, m))) in
    omega (arith, here, rest)

-- over all seats the dues of a pot, and its payments
due_seats : (pay : ℕ → Payment) → OwnSeats pay → over_seats (due_by (payments_from pay 1 10)) ≡ all_due (payments_from pay 1 10)
due_seats pay own =
    sum_in (due_by (payments_from pay 1 10)) (λ q. (pay q).due) 1 10 (λ q l h. paid_at (λ x. x.due) (λ x none. (nothing x none).due) pay own 1 10 q l h)
    ∙ sym (due_by_all pay 1 10)

got_seats : (pay : ℕ → Payment) → OwnSeats pay → over_seats (got_by (payments_from pay 1 10)) ≡ all_got (payments_from pay 1 10)
got_seats pay own =
    sum_in (got_by (payments_from pay 1 10)) (λ q. (pay q).got) 1 10 (λ q l h. paid_at (λ x. x.got) (λ x none. (nothing x none).got) pay own 1 10 q l h)
    ∙ sym (got_by_all pay 1 10)

-- so of some pots
each_sum : (f : List Payment → ℕ → ℕ) (line : PotLine) (lines : List PotLine)
    → over_seats (λ p. sum_by (λ (pot : PotLine). f pot.paid p) (line ∷ lines)) ≡ over_seats (f line.paid) + over_seats (λ p. sum_by (λ (pot : PotLine). f pot.paid p) lines)
each_sum f line lines =
    sum_in (λ p. sum_by (λ (pot : PotLine). f pot.paid p) (line ∷ lines)) (λ p. f line.paid p + sum_by (λ (pot : PotLine). f pot.paid p) lines) 1 10 (λ q l h. sum_by-cons (λ (pot : PotLine). f pot.paid q) line lines)
    ∙ sum_plus (f line.paid) (λ p. sum_by (λ (pot : PotLine). f pot.paid p) lines) 1 10

lines_add : (s : Showing) (count k : ℕ) (all : List Pot) → All IsPaidOut (pot_lines s count k all)
    → over_seats (λ p. sum_by (λ (pot : PotLine). due_by pot.paid p) (pot_lines s count k all)) ≡ over_seats (λ p. sum_by (λ (pot : PotLine). got_by pot.paid p) (pot_lines s count k all))
lines_add s count k [] each = refl
lines_add s count k (pot ∷ all) each =
    let line = pot_line s (Numbered count k) pot in
    let pay = pay_of s (Numbered count k) pot in
    let lines = pot_lines s count (k + 1) all in
    let out = (each 0 line (omega arith)).due in
    let here : over_seats (due_by line.paid) ≡ over_seats (got_by line.paid) = due_seats pay (λ r. refl) ∙ out ∙ sym (got_seats pay (λ r. refl)) in
    let rest = lines_add s count (k + 1) all (λ i d l. each (suc i) d (omega (arith, l))) in
    let dues = each_sum due_by line lines in
    let gots = each_sum got_by line lines in
    omega (arith, here, rest, dues, gots)

no_more : (n : ℕ) → n + 0 ≡ n
no_more n = omega arith

-- so of a hand whose names fit
hand_adds : (g : Header) (stated : ℕ) (s : Showing) (all : List Pot) (twice : Bool) → All IsPaidOut (pot_lines s (length all) 0 all) → DuesAddUp (settlement_by g stated twice (settled_of true s all))
hand_adds g stated s all twice each =
    let lines = pot_lines s (length all) 0 all in
    let x : Settlement = settlement_by g stated twice (settled_of true s all) in
    sum_in (due_of x) (λ p. sum_by (λ (pot : PotLine). due_by pot.paid p) lines) 1 10 (λ q l h. no_more (sum_by (λ (pot : PotLine). due_by pot.paid q) lines))
    ∙ lines_add s (length all) 0 all each
    ∙ sym (sum_in (got_of x) (λ p. sum_by (λ (pot : PotLine). got_by pot.paid p) lines) 1 10 (λ q l h. no_more (sum_by (λ (pot : PotLine). got_by pot.paid q) lines)))

pub dues_add : (g : Header) (players : ℕ) (h : List Event) (settlement : Settlement) → settlement_of g players h ≡ settlement → settlement.fits ≡ true → PotsAddUp settlement → DuesAddUp settlement
dues_add g players h settlement made fit adds =
    let s = showing_of g players h in
    let fit_settled : (settled s).fits ≡ true = ap (λ (x : Settlement). x.fits) made ∙ fit in
    let same : settled_of true s (pots s.paid) ≡ settled s = settled_fits s (fit_of s fit_settled) in
    let lines : settlement.pots ≡ (settled_of true s (pots s.paid)).pots = sym (ap (λ (x : Settlement). x.pots) made) ∙ sym (ap (λ (x : Settled). x.pots) same) in
    let each = subst (λ (xs : List PotLine). All IsPaidOut xs) lines adds.each in
    subst DuesAddUp made (subst (λ (x : Settled). DuesAddUp (settlement_by g (rake h) (runs_twice h) x)) same (hand_adds g (rake h) s (pots s.paid) (runs_twice h) each))

-- of a hand that is accepted
pub accepted_dues : OrdersItsSeats → KeepsOrder → AllowsFives → PlacesAreApart → CardsBelongAfter → WholeBoards → ShowsSeats → ExcludesFolded → (number : ℕ) (line : List ℕ) (lines : List (List ℕ)) (g : Header) → header_of line ≡ Ok g
    → (settlement : Settlement) (all_in : AllIn) (names : List (ℕ × List ℕ)) (players : ℕ)
    → audit_of number (line ∷ lines) ≡ Some (Accepted settlement all_in names players) → settlement.fits ≡ true → DuesAddUp settlement
accepted_dues orders law fives apart belong boards shows folded number line lines g read settlement all_in names players is fit =
    let a = accepted_is number line lines g settlement all_in names players read is in
    dues_add g players (events_of g lines) settlement a.made fit
    (accepted_adds orders law fives apart belong boards shows folded number line lines g read settlement all_in names players is fit)
