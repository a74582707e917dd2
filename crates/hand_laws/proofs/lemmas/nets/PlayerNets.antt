-- What the players of an accepted hand put in is what they got and the rake: `law_nets_add_up_to_the_rake`.
use Rattle.std.proofs.Common.{◌≡◌, ℕ, ◌+◌, ◌≤◌, List, [], ◌∷◌, refl, sym, ap, ◌∙◌, subst, Bool, true, false, length, map, arith}
use Rattle.std.specs.Prelude.{Ok, Result, Some, sum_by}
use Rattle.std.proofs.lemmas.List.{length-map}
use Rattle.std.proofs.lemmas.List.Sums.{sum_by-cons}
use Rattle.card_sets.specs.PlayerSets.{seats_in}
use Rattle.hand_events.specs.declared.events.Header.{Header}
use Rattle.hand_events.specs.declared.events.Event.{Event}
use Rattle.hand_events.specs.declared.events.TextFault.{TextFault}
use Rattle.history_text.specs.Headers.{header_of}
use Rattle.pot_layers.specs.declared.paid.Pot.{Pot}
use Rattle.pot_layers.specs.Pots.{held, pots, put_in_all}
use Rattle.pot_layers.proofs.CallerLemmas.{pots_hold_all}
use Rattle.betting_replay.specs.Accepted.{IsAccepted, opening}
use Rattle.betting_replay.specs.Sums.{paid, dead}
use Rattle.betting_replay.proofs.CallerLemmas.{at_by_seat, chips_stay}
use Rattle.hand_audit.specs.Chips.{IsBalanced}
use Rattle.hand_laws.specs.Chips.{collected_at, over_seats}
use Rattle.hand_audit.specs.Collections.{collections, got_from, taken}
use Rattle.hand_audit.specs.Departs.{collected, departs_from, put_in_by}
use Rattle.hand_audit.specs.Lines.{nothing}
use Rattle.hand_laws.specs.Nets.{NetsAddUp}
use Rattle.hand_verdict.specs.SeatSums.{chips_at, got_of}
use Rattle.hand_audit.specs.PotNames.{fits}
use Rattle.hand_audit.specs.SeatChips.{chips_after, chips_behind, chips_of, seat_chips}
use Rattle.hand_audit.specs.Settle.{Showing, pot_line, pot_lines, settled, settled_of, unfit_line}
use Rattle.hand_audit.specs.Showings.{rake, showing_of}
use Rattle.hand_audit.specs.Verdict.{audit_of, events_of, settlement_of}
use Rattle.hand_audit.specs.declared.pot_names.Source.TheVariants.{Numbered}
use Rattle.hand_verdict.specs.declared.seat_chips.SeatChips.{SeatChips}
use Rattle.hand_verdict.specs.declared.settlement.PotLine.{PotLine}
use Rattle.hand_verdict.specs.declared.settlement.Settlement.{Settlement}
use Rattle.hand_verdict.specs.declared.verdicts.AllIn.{AllIn}
use Rattle.hand_verdict.specs.declared.verdicts.HandAudit.TheVariants.{Accepted}
use Rattle.hand_laws.proofs.lemmas.chips.AllPutIn.{Idle, put_is_sum}
use Rattle.hand_audit.proofs.CallerLemmas.{AreSeats, accepted_is, has_total, sound_all, start}
use Rattle.hand_laws.proofs.lemmas.chips.Collected.{got_is_taken}
use Rattle.hand_laws.proofs.lemmas.chips.WholePass.{others_idle}
use Rattle.hand_laws.proofs.lemmas.nets.Collectors.{others_collect, over_players}
use Rattle.hand_laws.proofs.lemmas.nets.GotPayments.{got_collected}
use Rattle.hand_laws.proofs.lemmas.pot_sums.AddedPots.{all_shown, lines_long, put_shown}
use Rattle.hand_laws.proofs.lemmas.pot_sums.Rakes.{contender_of}

-- what the pots of a settlement hold
record HoldsAll (lines : List PotLine) (all : List Pot) : Type 0 where
  gross : sum_by (λ (line : PotLine). line.gross) lines ≡ held all
  many : length lines ≡ length all

lines_hold : (s : Showing) (count k : ℕ) (all : List Pot) → sum_by (λ (line : PotLine). line.gross) (pot_lines s count k all) ≡ held all
lines_hold s count k [] = refl
lines_hold s count k (pot ∷ all) =
    omega (arith, sum_by-cons (λ (line : PotLine). line.gross) (pot_line s (Numbered count k) pot) (pot_lines s count (k + 1) all), lines_hold s count (k + 1) all, sum_by-cons (λ (p : Pot). p.units) pot all)

unfit_hold : (all : List Pot) → sum_by (λ (line : PotLine). line.gross) (map unfit_line all) ≡ held all
unfit_hold [] = refl
unfit_hold (pot ∷ all) = omega (arith, sum_by-cons (λ (line : PotLine). line.gross) (unfit_line pot) (map unfit_line all), unfit_hold all, sum_by-cons (λ (p : Pot). p.units) pot all)

either_holds : (b : Bool) (s : Showing) (all : List Pot) → HoldsAll (settled_of b s all).pots all
either_holds true s all = record { gross = lines_hold s (length all) 0 all; many = lines_long s (length all) 0 all }
either_holds false s all = record { gross = unfit_hold all; many = length-map all unfit_line }

settled_hold : (s : Showing) → HoldsAll (settled s).pots (pots s.paid)
unfolding settled
settled_hold s = either_holds (fits (pots s.paid) s.collections) s (pots s.paid)

collected_is : (h : List Event) → collected h ≡ taken (collections h)
unfolding collected
collected_is h = refl

seat_has : (g : Header) (h : List Event) (p : ℕ) → p ≤ 10 → chips_at (chips_after g h) p ≡ seat_chips g h p
seat_has g h p few = at_by_seat (seat_chips g h) p (record { had = 0; put = 0 }) (omega (arith, few))

put_by : (g : Header) (h : List Event) (p : ℕ) → p ≤ 10 → (chips_at (chips_after g h) p).put ≡ paid g h p + dead g h p
put_by g h p few = ap (λ (c : SeatChips). c.put) (seat_has g h p few)

had_by : (g : Header) (h : List Event) (p : ℕ) → p ≤ 10 → (chips_at (chips_after g h) p).had ≡ opening h p
had_by g h p few = ap (λ (c : SeatChips). c.had) (seat_has g h p few)

nets : (g : Header) (players : ℕ) (h : List Event) → IsAccepted g players h → AreSeats (collections h) → IsBalanced g players h → Idle g players h → NetsAddUp g h (settlement_of g players h) players (chips_after g h)
nets g players h ok seats balanced others =
    let s = showing_of g players h in
    let got : (p : ℕ) → 1 ≤ p → p ≤ 10 → got_of (settlement_of g players h) p ≡ collected_at h p = (λ p low high. got_collected s p low high ∙ ap (got_from (λ pot. true) p) (all_shown g players h)) in
    let covered : (p : ℕ) → p ≤ 10 → paid g h p + dead g h p ≤ opening h p = (λ p few. let w = chips_stay g players h p ok in omega (arith, w)) in
    let puts : sum_by (λ p. (chips_at (chips_after g h) p).put) (seats_in players) ≡ over_seats (λ p. paid g h p + dead g h p) = over_players _ _ players (λ p low high. put_by g h p high) others in
    let gots : sum_by (λ p. got_of (settlement_of g players h) p) (seats_in players) ≡ over_seats (collected_at h) = over_players _ _ players got (λ p small other. others_collect g players h p ok other) in
    let put : put_in_by g players h ≡ over_seats (λ p. paid g h p + dead g h p) = put_is_sum g players h others in
    let all : over_seats (collected_at h) ≡ taken (collections h) = got_is_taken (collections h) seats in
    let whole : put_in_by g players h ≡ collected h + rake h = balanced.whole in
    let holds = settled_hold s in
    record {
      got = got;
      covered = λ p few. let a = put_by g h p few in let b = had_by g h p few in let l = covered p few in omega (arith, a, b, l);
      left = λ p low high. let a = put_by g h p high in let b = had_by g h p high in let c = got p low high in omega (arith, a, b, c);
      whole = omega (arith, puts, gots, put, all, whole, collected_is h);
      held = λ some.
          let many = holds.many in
          let gross = holds.gross in
          let kept : held (pots s.paid) ≡ put_in_all s.paid = pots_hold_all s.paid (contender_of s.paid (omega (arith, some, many))) in
          let shown = put_shown g players h in
          omega (arith, gross, kept, shown, put, puts);
    }

-- of a hand that is accepted
pub accepted_nets : (number : ℕ) (line : List ℕ) (lines : List (List ℕ)) (g : Header) → header_of line ≡ Ok g → (settlement : Settlement) (all_in : AllIn) (names : List (ℕ × List ℕ)) (players : ℕ)
    → audit_of number (line ∷ lines) ≡ Some (Accepted settlement all_in names players) → NetsAddUp g (events_of g lines) settlement players (chips_of (Accepted settlement all_in names players) (line ∷ lines))
accepted_nets number line lines g read settlement all_in names players is =
    let a = accepted_is number line lines g settlement all_in names players read is in
    let h = events_of g lines in
    let end = sound_all g players number lines nothing (start g players) a.none in
    let total = has_total g players h end.1 in
    let others : Idle g players h = subst (λ (n : ℕ). Idle g n h) a.all_play (others_idle g number lines (ap (λ n. departs_from g n number nothing lines) a.all_play ∙ a.none)) in
    let made = subst (λ (x : Settlement). NetsAddUp g h x players (chips_after g h)) a.made (nets g players h end.0.accepted end.0.collectors (end.0.chips total) others) in
    subst (λ (r : Result Header TextFault). NetsAddUp g h settlement players (chips_behind lines r)) (sym read) made
