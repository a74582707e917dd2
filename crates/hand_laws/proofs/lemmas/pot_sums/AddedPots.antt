-- The pots of an accepted hand add up: `law_pots_add_up`.
use Rattle.std.proofs.Common.{◌≡◌, ℕ, zero, suc, ◌+◌, ◌-◌, ◌<◌, ◌≤◌, List, [], ◌∷◌, refl, sym, ap, ◌∙◌, subst, Bool, true, false, ◌⊎◌, inl, inr, length, arith}
use Rattle.std.specs.Prelude.{Option, Some, None, All, slice_get, slice_index_or, Ok}
use Rattle.std.proofs.lemmas.Option.{slice_get-get_or}
use Rattle.card_sets.specs.PlayerSets.{seats_in}
use Rattle.hand_events.specs.declared.events.Header.{Header}
use Rattle.hand_events.specs.declared.events.Event.{Event}
use Rattle.history_text.specs.Headers.{header_of}
use Rattle.hand_choice.specs.AllowedFives.{AllowsFives}
use Rattle.pot_layers.specs.declared.paid.Pot.{Pot}
use Rattle.pot_layers.specs.declared.paid.Share.{Share}
use Rattle.pot_layers.specs.Pots.{pots, put_in_all}
use Rattle.pot_layers.specs.Split.{OrdersItsSeats}
use Rattle.pot_layers.specs.Eligible.{ExcludesFolded}
use Rattle.pot_layers.specs.declared.paid.Paid.{Paid}
use Rattle.betting_replay.specs.Accepted.{IsAccepted, ShowsSeats}
use Rattle.betting_replay.specs.Sums.{button, runs_twice}
use Rattle.betting_replay.specs.TableAfter.{table_of}
use Rattle.betting_replay.specs.CardLaws.{PlacesAreApart, CardsBelongAfter, WholeBoards}
use Rattle.hand_audit.specs.declared.pot_names.Source.{Source}
use Rattle.hand_audit.specs.declared.pot_names.Source.TheVariants.{Numbered}
use Rattle.hand_audit.specs.Chips.{IsBalanced}
use Rattle.hand_laws.specs.Chips.{over_seats}
use Rattle.hand_audit.specs.Collections.{collections, taken, got_from}
use Rattle.hand_audit.specs.Departs.{put_in_by, collected}
use Rattle.hand_laws.specs.MarkLaws.{MarksAreCards}
use Rattle.hand_audit.specs.PotNames.{counts_from, fits}
use Rattle.hand_laws.specs.PotSums.{IsPaidOut, PotsAddUp}
use Rattle.hand_audit.specs.Settle.{Showing, Part, IsBoardOf, is_checked, first_winners, net_of, parts_by, parts_of, shares_if, shares_of_pot, due_of_seat, payment, pay_of, pot_line, pot_lines, settled, settled_of}
use Rattle.hand_audit.specs.Showings.{rake, showing_at, showing_of}
use Rattle.hand_laws.specs.Splits.{IsWonBySomebody}
use Rattle.hand_audit.specs.Verdict.{settlement_by, audit_of, events_of}
use Rattle.hand_audit.specs.Winning.{AreDecided}
use Rattle.hand_verdict.specs.declared.verdicts.AllIn.{AllIn}
use Rattle.hand_verdict.specs.declared.verdicts.HandAudit.TheVariants.{Accepted}
use Rattle.hand_verdict.specs.declared.settlement.Settlement.{Settlement}
use Rattle.hand_audit.specs.Lines.{nothing}
use Rattle.hand_laws.proofs.lemmas.pot_sums.PotDues.{IsGiven, IsWon, parts_given, small_marks}
use Rattle.hand_laws.proofs.lemmas.pot_sums.OpenPots.{IsOpen, AreOpen, open_in, pots_open}
use Rattle.hand_laws.proofs.lemmas.pot_sums.PaymentSums.{got_by_all, due_by_all, due_is_given}
use Rattle.hand_laws.proofs.lemmas.pot_sums.Rakes.{net_within, rakes_add_up}
use Rattle.hand_audit.proofs.CallerLemmas.{each_of_fits, button_few, AreSeats, paid_shown, sound_all, start, has_total, decided, KeepsOrder, accepted_is}
use Rattle.hand_laws.proofs.lemmas.chips.Collected.{got_is_taken_from}
use Rattle.hand_laws.proofs.lemmas.splits.PotsWon.{decided_at, won_pots}
use Rattle.hand_laws.proofs.lemmas.splits.MarkCards.{marks_are_cards}
use Rattle.hand_laws.proofs.lemmas.splits.RightSplits.{fit_of}

-- all seats are due what was taken: by the shares where it is known who wins, and else because they got it
due_by : (b : Bool) (got : ℕ → ℕ) (all : List Share) (net : ℕ) → over_seats got ≡ net → (b ≡ true → over_seats (λ p. due_of_seat p all) ≡ net) → over_seats (λ p. (payment b (got p) all p).due) ≡ net
due_by true got all net is given = given refl
due_by false got all net is given = is

shares_known : (s : Showing) (source : Source) (pot : Pot) (units : ℕ) → is_checked s pot.eligible ≡ true → IsGiven (shares_if true s pot.eligible (parts_of s (net_of s source))) units → IsGiven (shares_of_pot s source pot) units
unfolding shares_of_pot
shares_known s source pot units known given = subst (λ (b : Bool). IsGiven (shares_if b s pot.eligible (parts_of s (net_of s source))) units) (sym known) given

paid_out : OrdersItsSeats → (s : Showing) (source : Source) (pot : Pot) → AreSeats s.collections → IsOpen pot.eligible → s.button ≤ 10
    → (is_checked s pot.eligible ≡ true → 2 ≤ length (seats_in pot.eligible) → (board : List ℕ) → IsBoardOf s board → IsWon s board pot.eligible)
    → net_of s source + (pot.units - net_of s source) ≡ pot.units → IsPaidOut (pot_line s source pot)
paid_out law s source pot seats some button won rest =
    let got : over_seats (λ p. got_from (counts_from source) p s.collections) ≡ net_of s source = got_is_taken_from (counts_from source) s.collections seats in
    let given : is_checked s pot.eligible ≡ true → over_seats (λ p. due_of_seat p (shares_of_pot s source pot)) ≡ net_of s source
    = (λ known. let all = shares_known s source pot (net_of s source) known (parts_given law s pot.eligible (net_of s source) some button (won known)) in due_is_given (shares_of_pot s source pot) all.table ∙ all.whole) in
    let all_got = got_by_all (pay_of s source pot) 1 10 ∙ got in
    let all_due = due_by_all (pay_of s source pot) 1 10 ∙ due_by (is_checked s pot.eligible) (λ p. got_from (counts_from source) p s.collections) (shares_of_pot s source pot) (net_of s source) got given in
    record { collected = omega (arith, all_got, rest); due = all_due ∙ sym all_got }

-- where each part of a pot is won, so is each board's
won_on : (s : Showing) (eligible units : ℕ) (second : Option (List ℕ)) (board : List ℕ) → All (λ (part : Part). 0 < first_winners s part.board eligible) (parts_by second s.board units)
    → (board ≡ s.board) ⊎ (second ≡ Some board) → 0 < first_winners s board eligible
won_on s eligible units None board won (inl is) = subst (λ (b : List ℕ). 0 < first_winners s b eligible) (sym is) (won 0 (record { units = units; board = s.board }) (omega arith))
won_on s eligible units None board won (inr is) = cc
won_on s eligible units (Some other) board won (inl is) = subst (λ (b : List ℕ). 0 < first_winners s b eligible) (sym is) (won 0 (record { units = units; board = s.board }) (omega arith))
won_on s eligible units (Some other) board won (inr is) =
    let same : other ≡ board = cc in
    subst (λ (b : List ℕ). 0 < first_winners s b eligible) same (won 1 (record { units = units; board = s.board }) (omega arith))

-- so of each of some pots
each_out : (s : Showing) (count k : ℕ) (all : List Pot) → ((i : ℕ) (d : Pot) → i < length all → IsPaidOut (pot_line s (Numbered count (k + i)) (slice_index_or all i d))) → All IsPaidOut (pot_lines s count k all)
each_out s count k [] each i d l = absurd (omega arith)
each_out s count k (pot ∷ all) each zero d l = let same : k + 0 ≡ k = omega arith in subst (λ (n : ℕ). IsPaidOut (pot_line s (Numbered count n) pot)) same (each 0 pot (omega arith))
each_out s count k (pot ∷ all) each (suc i) d l =
    each_out s count (k + 1) all (λ j e m. let same : k + suc j ≡ (k + 1) + j = omega arith in subst (λ (n : ℕ). IsPaidOut (pot_line s (Numbered count n) (slice_index_or all j e))) same (each (suc j) e (omega (arith, m)))) i d (omega (arith, l))

pub lines_long : (s : Showing) (count k : ℕ) (all : List Pot) → length (pot_lines s count k all) ≡ length all
lines_long s count k [] = refl
lines_long s count k (pot ∷ all) = ap suc (lines_long s count (k + 1) all)

-- the button is a seat or none
button_small : (g : Header) (players : ℕ) (h : List Event) → IsAccepted g players h → button h ≤ 10
button_small g players [] ok = omega arith
button_small g players (e ∷ h) ok = button_few e (button h) ok.0 (button_small g players h ok.2)

button_shown : (g : Header) (players : ℕ) (h : List Event) → (showing_of g players h).button ≡ button h
unfolding showing_of showing_at
button_shown g players h = refl

pub all_shown : (g : Header) (players : ℕ) (h : List Event) → (showing_of g players h).collections ≡ collections h
unfolding showing_of showing_at
all_shown g players h = refl

pub put_shown : (g : Header) (players : ℕ) (h : List Event) → put_in_all (showing_of g players h).paid ≡ put_in_by g players h
unfolding put_in_by
put_shown g players h = ap put_in_all (paid_shown g players h)

taken_shown : (g : Header) (players : ℕ) (h : List Event) → collected h ≡ taken (showing_of g players h).collections
unfolding collected
taken_shown g players h = ap taken (sym (all_shown g players h))

pub settled_fits : (s : Showing) → fits (pots s.paid) s.collections ≡ true → settled_of true s (pots s.paid) ≡ settled s
unfolding settled
settled_fits s fit = ap (λ b. settled_of b s (pots s.paid)) (sym fit)

pub add_up : OrdersItsSeats → (g : Header) (players : ℕ) (h : List Event) → IsAccepted g players h → AreSeats (collections h) → IsBalanced g players h
    → AreDecided (showing_of g players h) (pots (showing_of g players h).paid) → IsWonBySomebody (showing_of g players h) → MarksAreCards (showing_of g players h)
    → fits (pots (showing_of g players h).paid) (showing_of g players h).collections ≡ true → PotsAddUp (settlement_by g (rake h) (runs_twice h) (settled (showing_of g players h)))
add_up law g players h ok seats balanced decided won marks fit =
    let s = showing_of g players h in
    let all = pots s.paid in
    let count = length all in
    let collectors : AreSeats s.collections = subst AreSeats (sym (all_shown g players h)) seats in
    let opened : AreOpen all = subst (λ (ps : _). AreOpen (pots ps)) (sym (paid_shown g players h)) (pots_open (table_of g players h)) in
    let few : s.button ≤ 10 = subst (λ (n : ℕ). n ≤ 10) (sym (button_shown g players h)) (button_small g players h ok) in
    let put : put_in_all s.paid ≡ taken s.collections + rake h = put_shown g players h ∙ balanced.whole ∙ ap (λ n. n + rake h) (taken_shown g players h) in
    let each : (i : ℕ) (d : Pot) → i < count → IsPaidOut (pot_line s (Numbered count (0 + i)) (slice_index_or all i d))
    = (λ i d l.
    let pot = slice_index_or all i d in
    let at : slice_get all i ≡ Some pot = slice_get-get_or all i d l in
    let same : 0 + i ≡ i = omega arith in
    paid_out law s (Numbered count (0 + i)) pot collectors (open_in all i d opened l) few
    (λ known more board on. record {
      marks = small_marks s board i pot marks on at more (decided_at s all i pot decided at more board on);
      some = won_on s pot.eligible (net_of s (Numbered count i)) s.second board (won i pot at known more) on;
    })
    (net_within s count 0 all i d (each_of_fits all s.collections fit) l)) in
    subst (λ (x : _). PotsAddUp (settlement_by g (rake h) (runs_twice h) x)) (settled_fits s fit)
    (record {
      each = each_out s count 0 all each;
      rakes = λ some. rakes_add_up s (rake h) fit put (let long = lines_long s count 0 all in omega (arith, some, long));
    })

-- of a hand that is accepted
pub accepted_adds : OrdersItsSeats → KeepsOrder → AllowsFives → PlacesAreApart → CardsBelongAfter → WholeBoards → ShowsSeats → ExcludesFolded → (number : ℕ) (line : List ℕ) (lines : List (List ℕ)) (g : Header) → header_of line ≡ Ok g
    → (settlement : Settlement) (all_in : AllIn) (names : List (ℕ × List ℕ)) (players : ℕ)
    → audit_of number (line ∷ lines) ≡ Some (Accepted settlement all_in names players) → settlement.fits ≡ true → PotsAddUp settlement
accepted_adds orders law fives apart belong boards shows folded number line lines g read settlement all_in names players is fit =
    let a = accepted_is number line lines g settlement all_in names players read is in
    let end = sound_all g players number lines nothing (start g players) a.none in
    let h = events_of g lines in
    let s = showing_of g players h in
    let total = has_total g players h end.1 in
    let fit_settled : (settled s).fits ≡ true = ap (λ (x : Settlement). x.fits) a.made ∙ fit in
    let all = decided apart belong boards shows folded g players h end.0.accepted end.0.markers (end.0.part total) in
    let decided_all = subst (λ (paid : List Paid). AreDecided s (pots paid)) (sym (paid_shown g players h)) all in
    subst PotsAddUp a.made (add_up orders g players h end.0.accepted end.0.collectors (end.0.chips total) decided_all (won_pots law shows g players h (belong g players h end.0.accepted) all) (marks_are_cards fives s decided_all) (fit_of s fit_settled))
