-- The players of a hand are due what they got together, also of one that is rejected for its payments alone: `law_players_are_due_what_they_got`.
use Rattle.std.proofs.Common.{◌≡◌, ℕ, zero, suc, ◌+◌, ◌<◌, ◌≤◌, List, [], ◌∷◌, refl, sym, ap, ◌∙◌, subst, Bool, true, false, ◌==◌, ◌&&◌, length, arith}
use Rattle.std.specs.Prelude.{All, Err, Ok, Result, Some, if◌then◌else◌, sum_by}
use Rattle.std.proofs.lemmas.List.Sums.{sum_by-cons}
use Rattle.card_sets.specs.PlayerSets.{has_player, seats_in}
use Rattle.history_text.specs.Headers.{header_of}
use Rattle.hand_events.specs.declared.events.Event.{Event}
use Rattle.hand_events.specs.declared.events.Header.{Header}
use Rattle.hand_events.specs.declared.events.PotName.{PotName}
use Rattle.hand_events.specs.declared.events.TextFault.{TextFault}
use Rattle.hand_choice.specs.AllowedFives.{AllowsFives}
use Rattle.betting_replay.specs.Accepted.{IsAccepted, ShowsSeats}
use Rattle.betting_replay.specs.CardLaws.{CardsBelongAfter, PlacesAreApart, WholeBoards}
use Rattle.betting_replay.specs.TableAfter.{table_of}
use Rattle.pot_layers.specs.Eligible.{ExcludesFolded}
use Rattle.pot_layers.specs.Pots.{pots}
use Rattle.pot_layers.specs.Split.{OrdersItsSeats}
use Rattle.pot_layers.specs.declared.paid.Paid.{Paid}
use Rattle.pot_layers.specs.declared.paid.Pot.{Pot}
use Rattle.hand_laws.specs.Chips.{collected_at, over_seats}
use Rattle.hand_audit.specs.Collections.{got_from}
use Rattle.hand_audit.specs.Departs.{departs_from, is_split}
use Rattle.hand_laws.specs.Dues.{DuesAddUp, SplitAddsUp}
use Rattle.hand_verdict.specs.SeatSums.{PlayersAreDue, due_by, due_of, got_of}
use Rattle.hand_audit.specs.Lines.{nothing, players_of}
use Rattle.hand_audit.specs.PotNames.{counts_from, fits}
use Rattle.hand_laws.specs.PotSums.{PotsAddUp}
use Rattle.hand_audit.specs.Settle.{Settled, Showing, due_of_seat, is_checked, pay_of, payments_from, pot_line, pot_lines, settled, shares_of_pot}
use Rattle.hand_audit.specs.Showings.{showing_of}
use Rattle.hand_audit.specs.SplitHands.{split_behind, split_by, split_of}
use Rattle.hand_audit.specs.Verdict.{audit_of, events_of, read_all, settlement_of}
use Rattle.hand_audit.specs.Winning.{AreDecided}
use Rattle.hand_verdict.specs.declared.cause.Cause.{Cause}
use Rattle.hand_verdict.specs.declared.cause.Cause.TheVariants.{Bet, Chips, Split, Text, Unfinished}
use Rattle.hand_audit.specs.declared.collections.Collection.{Collection}
use Rattle.hand_verdict.specs.declared.parts.SplitHand.{SplitHand}
use Rattle.hand_audit.specs.declared.pot_names.Source.{Source}
use Rattle.hand_audit.specs.declared.pot_names.Source.TheVariants.{Numbered}
use Rattle.hand_verdict.specs.declared.settlement.PotLine.{PotLine}
use Rattle.hand_verdict.specs.declared.settlement.Settlement.{Settlement}
use Rattle.hand_verdict.specs.declared.verdicts.AllIn.{AllIn}
use Rattle.hand_verdict.specs.declared.verdicts.HandAudit.{HandAudit}
use Rattle.hand_verdict.specs.declared.verdicts.HandAudit.TheVariants.{Accepted, Rejected}
use Rattle.hand_laws.proofs.lemmas.dues.DueSums.{accepted_dues, dues_add, sum_in}
use Rattle.hand_laws.proofs.lemmas.dues.OtherSeats.{no_due, no_pot}
use Rattle.hand_audit.proofs.CallerLemmas.{accepted_is, sound_all, start, KeepsOrder, paid_shown, decided}
use Rattle.hand_laws.proofs.lemmas.lines.SplitLines.{ends_split, rejected_is, sound_split}
use Rattle.hand_laws.proofs.lemmas.splits.MarkCards.{marks_are_cards}
use Rattle.hand_laws.proofs.lemmas.nets.Collectors.{others_collect, over_players}
use Rattle.hand_laws.proofs.lemmas.nets.GotPayments.{got_collected, paid_at, paid_none}
use Rattle.hand_laws.proofs.lemmas.pot_sums.AddedPots.{add_up, all_shown, settled_fits}
use Rattle.hand_laws.proofs.lemmas.pot_sums.PaymentSums.{nothing as nothing_paid}
use Rattle.hand_laws.proofs.lemmas.splits.RightSplits.{fit_of}
use Rattle.hand_laws.proofs.lemmas.splits.PotsWon.{won_pots}

-- who collected nothing got nothing from a pot
got_less : (test : PotName → Bool) (q : ℕ) (all : List Collection) → got_from (λ pot. true) q all ≡ 0 → got_from test q all ≡ 0
got_less test q [] none = refl
got_less test q (c ∷ all) none =
    let some = sum_by-cons (λ (d : Collection). if test d.pot && (d.seat == q) then d.units else 0) c all in
    let any = sum_by-cons (λ (d : Collection). if d.seat == q then d.units else 0) c all in
    let rest = got_less test q all (omega (arith, any, none)) in
    let here : (if test c.pot && (c.seat == q) then c.units else 0) ≡ 0 = by (test c.pot) (c.seat == q) (omega (arith, any, none)) in
    omega (arith, some, rest, here)
  where
    by : (a b : Bool) → (if b then c.units else 0) ≡ 0 → (if a && b then c.units else 0) ≡ 0
    by true true e = e
    by true false e = refl
    by false b e = refl

-- who isn't eligible in a pot and got nothing is due nothing of it
pot_none : (s : Showing) (source : Source) (pot : Pot) (q : ℕ) → q < 11 → has_player pot.eligible q ≡ false → got_from (λ pot. true) q s.collections ≡ 0 → due_by (payments_from (pay_of s source pot) 1 10) q ≡ 0
pot_none s source pot zero l none took = paid_none (λ x. x.due) (pay_of s source pot) (λ r. refl) 1 10 0 (omega arith)
pot_none s source pot (suc p) l none took =
    let q = suc p in
    paid_at (λ x. x.due) (λ x nil. (nothing_paid x nil).due) (pay_of s source pot) (λ r. refl) 1 10 q (omega arith) (omega (arith, l))
    ∙ by (is_checked s pot.eligible) (no_due s source pot q l none) (got_less (counts_from source) q s.collections took)
  where
    by : (b : Bool) → due_of_seat (suc p) (shares_of_pot s source pot) ≡ 0 → got_from (counts_from source) (suc p) s.collections ≡ 0
        → (if b then due_of_seat (suc p) (shares_of_pot s source pot) else got_from (counts_from source) (suc p) s.collections) ≡ 0
    by true due got = due
    by false due got = got

lines_none : (s : Showing) (count k : ℕ) (all : List Pot) (q : ℕ) → q < 11 → All (λ (pot : Pot). has_player pot.eligible q ≡ false) all → got_from (λ pot. true) q s.collections ≡ 0
    → sum_by (λ (line : PotLine). due_by line.paid q) (pot_lines s count k all) ≡ 0
lines_none s count k [] q l none took = refl
lines_none s count k (pot ∷ all) q l none took =
    let here = pot_none s (Numbered count k) pot q l (none 0 pot (omega arith)) took in
    let rest = lines_none s count (k + 1) all q l (λ i d m. none (suc i) d (omega (arith, m))) took in
    omega (arith, here, rest, sum_by-cons (λ (line : PotLine). due_by line.paid q) (pot_line s (Numbered count k) pot) (pot_lines s count (k + 1) all))

-- so who isn't a player is due nothing of a hand whose names fit
others_due : ExcludesFolded → (g : Header) (players : ℕ) (h : List Event) → IsAccepted g players h → fits (pots (showing_of g players h).paid) (showing_of g players h).collections ≡ true
    → (q : ℕ) → q < 11 → has_player players q ≡ false → due_of (settlement_of g players h) q ≡ 0
others_due folded g players h ok fit q l other =
    let s = showing_of g players h in
    let shown : All (λ (pot : Pot). has_player pot.eligible q ≡ false) (pots s.paid) = subst (λ (paid : List Paid). All (λ (pot : Pot). has_player pot.eligible q ≡ false) (pots paid)) (sym (paid_shown g players h)) (no_pot folded (table_of g players h) q other) in
    let took : got_from (λ pot. true) q s.collections ≡ 0 = ap (got_from (λ pot. true) q) (all_shown g players h) ∙ others_collect g players h q ok other in
    let lines = lines_none s (length (pots s.paid)) 0 (pots s.paid) q l shown took in
    ap (λ (x : Settled). sum_by (λ (line : PotLine). due_by line.paid q) x.pots + due_by x.paid q) (sym (settled_fits s fit)) ∙ (let whole : sum_by (λ (line : PotLine). due_by line.paid q) (pot_lines s (length (pots s.paid)) 0 (pots s.paid)) + 0 ≡ 0 = omega (arith, lines) in whole)

players_due : ExcludesFolded → (g : Header) (players : ℕ) (h : List Event) → IsAccepted g players h → fits (pots (showing_of g players h).paid) (showing_of g players h).collections ≡ true
    → DuesAddUp (settlement_of g players h) → PlayersAreDue (settlement_of g players h) players
players_due folded g players h ok fit adds =
    let x = settlement_of g players h in
    let got : (p : ℕ) → 1 ≤ p → p ≤ 10 → got_of x p ≡ collected_at h p = (λ p low high. got_collected (showing_of g players h) p low high ∙ ap (got_from (λ pot. true) p) (all_shown g players h)) in
    let dues : sum_by (due_of x) (seats_in players) ≡ over_seats (due_of x) = over_players (due_of x) (due_of x) players (λ p low high. refl) (others_due folded g players h ok fit) in
    let gots : sum_by (got_of x) (seats_in players) ≡ over_seats (collected_at h) = over_players (got_of x) (collected_at h) players got (λ p small other. others_collect g players h p ok other) in
    let all : over_seats (got_of x) ≡ over_seats (collected_at h) = sum_in (got_of x) (collected_at h) 1 10 (λ q low l. got q low (omega (arith, l))) in
    dues ∙ adds ∙ all ∙ sym gots

-- of a hand that is accepted
pub accepted_players : OrdersItsSeats → KeepsOrder → AllowsFives → PlacesAreApart → CardsBelongAfter → WholeBoards → ShowsSeats → ExcludesFolded → (number : ℕ) (line : List ℕ) (lines : List (List ℕ)) (g : Header) → header_of line ≡ Ok g
    → (settlement : Settlement) (all_in : AllIn) (names : List (ℕ × List ℕ)) (players : ℕ)
    → audit_of number (line ∷ lines) ≡ Some (Accepted settlement all_in names players) → settlement.fits ≡ true → PlayersAreDue settlement players
accepted_players orders law fives apart belong boards shows folded number line lines g read settlement all_in names players is fit =
    let a = accepted_is number line lines g settlement all_in names players read is in
    let h = events_of g lines in
    let end = sound_all g players number lines nothing (start g players) a.none in
    let fit_settled : (settled (showing_of g players h)).fits ≡ true = ap (λ (x : Settlement). x.fits) a.made ∙ fit in
    let dues = accepted_dues orders law fives apart belong boards shows folded number line lines g read settlement all_in names players is fit in
    subst (λ (x : Settlement). PlayersAreDue x players) a.made
    (players_due folded g players h end.0.accepted (fit_of (showing_of g players h) fit_settled) (subst DuesAddUp (sym a.made) dues))

-- of one that is rejected for a payment
made_split : OrdersItsSeats → KeepsOrder → AllowsFives → PlacesAreApart → CardsBelongAfter → WholeBoards → ShowsSeats → ExcludesFolded → (number : ℕ) (lines : List (List ℕ)) (g : Header) (n : ℕ) (c : Cause) → is_split c ≡ true
    → departs_from g (players_of g lines) number nothing lines ≡ Some (n, c) → SplitAddsUp (split_by g (players_of g lines) (read_all g nothing lines))
made_split orders law fives apart belong boards shows folded number lines g n c split at =
    let players = players_of g lines in
    let h = events_of g lines in
    let s = showing_of g players h in
    let end = sound_split g players number lines nothing n c (start g players) split at in
    let ends = ends_split g players h c split end.1 in
    let all = decided apart belong boards shows folded g players h end.0.accepted end.0.markers (end.0.part ends.total) in
    let decided_all = subst (λ (paid : List Paid). AreDecided s (pots paid)) (sym (paid_shown g players h)) all in
    let adds : PotsAddUp (settlement_of g players h) = add_up orders g players h end.0.accepted end.0.collectors (end.0.chips ends.total) decided_all (won_pots law shows g players h (belong g players h end.0.accepted) all) (marks_are_cards fives s decided_all) ends.fit in
    let fit : (settlement_of g players h).fits ≡ true = sym (ap (λ (x : Settled). x.fits) (settled_fits s ends.fit)) in
    let dues = dues_add g players h (settlement_of g players h) refl fit adds in
    record { fits = fit; dues = dues; players = players_due folded g players h end.0.accepted ends.fit dues }

same_hand : (a b : SplitHand) → Some a ≡ Some b → a ≡ b
same_hand a b h = cc

pub split_adds : OrdersItsSeats → KeepsOrder → AllowsFives → PlacesAreApart → CardsBelongAfter → WholeBoards → ShowsSeats → ExcludesFolded → (number : ℕ) (lines : List (List ℕ)) (audit : HandAudit) (split : SplitHand)
    → audit_of number lines ≡ Some audit → split_of audit lines ≡ Some split → SplitAddsUp split
split_adds orders law fives apart belong boards shows folded number [] audit split is some = cc
split_adds orders law fives apart belong boards shows folded number (line ∷ lines) (Accepted settlement all_in names players) split is some = cc
split_adds orders law fives apart belong boards shows folded number (line ∷ lines) (Rejected n (Split seat due got) hundredths) split is some = by (header_of line) refl some
  where
    by : (r : Result Header TextFault) → header_of line ≡ r → split_behind lines r ≡ Some split → SplitAddsUp split
    by (Err f) read h = cc
    by (Ok g) read h =
        let at = rejected_is number line lines g n (Split seat due got) hundredths read is in
        subst SplitAddsUp (same_hand _ split h) (made_split orders law fives apart belong boards shows folded number lines g n (Split seat due got) refl at)
split_adds orders law fives apart belong boards shows folded number (line ∷ lines) (Rejected n (Text f) hundredths) split is some = cc
split_adds orders law fives apart belong boards shows folded number (line ∷ lines) (Rejected n (Bet f) hundredths) split is some = cc
split_adds orders law fives apart belong boards shows folded number (line ∷ lines) (Rejected n (Chips stated counted) hundredths) split is some = cc
split_adds orders law fives apart belong boards shows folded number (line ∷ lines) (Rejected n Unfinished hundredths) split is some = cc
