-- Each pot of an accepted hand of which it is known who wins is won: `law_checked_pots_are_won`.
use Rattle.std.proofs.Common.{◌≡◌, ◌==◌, ℕ, zero, suc, ◌<◌, ◌≤◌, List, [], ◌∷◌, refl, sym, ap, ◌∙◌, subst, Bool, true, false, inl, inr, length, arith}
use Rattle.std.specs.Prelude.{Option, Some, None, IfSome, slice_get, All, Ok}
use Rattle.std.specs.Option.{option_map}
use Rattle.card_sets.specs.PlayerSets.{seats_in}
use Rattle.card_sets.specs.Cards.{IsCardSet, cards_where}
use Rattle.card_sets.specs.Bits.{IsCardSet-cards_where}
use Rattle.card_sets.specs.declared.games.Game.{Game}
use Rattle.hand_events.specs.declared.events.Header.{Header}
use Rattle.hand_events.specs.declared.events.Event.{Event}
use Rattle.history_text.specs.Headers.{header_of}
use Rattle.pot_layers.specs.declared.paid.Paid.{Paid}
use Rattle.pot_layers.specs.declared.paid.Pot.{Pot}
use Rattle.pot_layers.specs.Pots.{pots}
use Rattle.pot_layers.specs.Eligible.{ExcludesFolded}
use Rattle.betting_replay.specs.Accepted.{ShowsSeats}
use Rattle.betting_replay.specs.Boards.{second_board}
use Rattle.betting_replay.specs.CardLaws.{CardsBelong, PlacesAreApart, CardsBelongAfter, WholeBoards}
use Rattle.betting_replay.specs.Places.{is_at, place}
use Rattle.betting_replay.specs.Sums.{runs_twice}
use Rattle.betting_replay.specs.Seats.{by_seat}
use Rattle.betting_replay.specs.TableAfter.{table_of}
use Rattle.betting_replay.proofs.CallerLemmas.{at_by_seat}
use Rattle.showdown_tally.specs.Laws.{IsFull}
use Rattle.hand_audit.specs.declared.pot_names.Source.TheVariants.{Numbered}
use Rattle.hand_audit.specs.Settle.{Showing, Part, IsBoardOf, parts_by, parts_of, net_of, hand_of, value_on, worth_on, first_side, first_winners}
use Rattle.hand_audit.specs.Showings.{paid_in, second_if, showing_at, showing_of}
use Rattle.hand_laws.specs.Splits.{IsWonBySomebody}
use Rattle.hand_audit.specs.Winning.{Ranks, number_on, is_full, AreFullOn, AreFull, IsDecided, AreDecided}
use Rattle.hand_verdict.specs.declared.verdicts.AllIn.{AllIn}
use Rattle.hand_verdict.specs.declared.verdicts.HandAudit.TheVariants.{Accepted}
use Rattle.hand_verdict.specs.declared.settlement.Settlement.{Settlement}
use Rattle.hand_audit.specs.Lines.{nothing}
use Rattle.hand_audit.specs.Verdict.{audit_of, events_of}
use Rattle.hand_audit.proofs.CallerLemmas.{KeepsOrder, ranked, full_from, paid_shown, some_win, sound_all, start, has_total, decided, accepted_is}

values_of : Showing → List ℕ → List (Option ℕ)
values_of s board = by_seat (λ p. option_map (number_on (first_side s.game) s.game) (value_on (first_side s.game) s.game board (hand_of s p)))

full_test : (game : Game) (board : List ℕ) (o : Option (List ℕ)) → IfSome o (λ own. IsFull game own board) → IfSome o (λ own. is_full game board own ≡ true)
full_test game board None f = tt
full_test game board (Some own) f = full_from game own board f

set_test : (game : Game) (board : List ℕ) (o : Option (List ℕ)) → IfSome o (λ own. IsFull game own board) → IfSome o (λ own. IsCardSet own)
set_test game board None f = tt
set_test game board (Some own) f = f.own_cards

ranks_of : KeepsOrder → (s : Showing) (board : List ℕ) → AreFullOn s board → IsCardSet board → Ranks (first_side s.game) (values_of s board) (worth_on (first_side s.game) s board)
unfolding values_of
ranks_of law s board full set =
    ranked law (first_side s.game) s.game board s.hands (values_of s board) set (λ p l. full_test s.game board (hand_of s p) (full p l)) (λ p l. set_test s.game board (hand_of s p) (full p l))
    (λ p l. at_by_seat (λ q. option_map (number_on (first_side s.game) s.game) (value_on (first_side s.game) s.game board (hand_of s q))) p None l)

pub decided_at : (s : Showing) (xs : List Pot) (i : ℕ) (pot : Pot) → AreDecided s xs → slice_get xs i ≡ Some pot → IsDecided s pot.eligible
decided_at s [] i pot all is = cc
decided_at s (first ∷ xs) zero pot all is = let same : first ≡ pot = cc in subst (λ (p : Pot). IsDecided s p.eligible) same all.0
decided_at s (first ∷ xs) (suc i) pot all is = decided_at s xs i pot all.1 is

some_number : (n : ℕ) → (n ≡ 0 → ⊥) → 0 < n
some_number zero none = let no : ⊥ = none refl in absurd no
some_number (suc n) none = omega arith

more_than_one : (n : ℕ) → 2 ≤ n → (n == 1) ≡ false
more_than_one n l = grind arith

-- what holds of each board holds of each part
by_boards : (s : Showing) (P : List ℕ → Type 0) (units : ℕ) → ((board : List ℕ) → IsBoardOf s board → P board) → All (λ (part : Part). P part.board) (parts_of s units)
by_boards s P units each = by s.second refl
  where
    by : (o : Option (List ℕ)) → s.second ≡ o → All (λ (part : Part). P part.board) (parts_by o s.board units)
    by None e zero d l = each s.board (inl refl)
    by None e (suc k) d l = absurd (omega arith)
    by (Some board) e zero d l = each s.board (inl refl)
    by (Some board) e (suc zero) d l = each board (inr e)
    by (Some board) e (suc (suc k)) d l = absurd (omega arith)

-- boards are sets of cards
abbrev pub AreSets : Showing → Type 0
AreSets s = (board : List ℕ) → IsBoardOf s board → IsCardSet board

no_cards : IsCardSet []
unfolding cards_where
no_cards = refl

second_set : (g : Header) (players : ℕ) (h : List Event) → CardsBelong g players h → (twice : Bool) (o : Option (List ℕ)) (board : List ℕ) → second_board h ≡ o → second_if twice o ≡ Some board → IsCardSet board
second_set g players h belong false o board come is = cc
second_set g players h belong true None board come is = let same : [] ≡ board = cc in subst (λ (cards : List ℕ). IsCardSet cards) same no_cards
second_set g players h belong true (Some second) board come is = let same : second ≡ board = cc in subst (λ (cards : List ℕ). IsCardSet cards) same (belong.second_set second come)

board_sets : ShowsSeats → (g : Header) (players : ℕ) (h : List Event) → CardsBelong g players h → AreSets (showing_of g players h)
unfolding showing_of showing_at
board_sets shows g players h belong board (inl is) = subst IsCardSet (sym (is ∙ (shows g players h 0 (omega arith)).own)) (IsCardSet-cards_where (λ card. is_at 0 (place g.game h card)))
board_sets shows g players h belong board (inr is) = second_set g players h belong (runs_twice h) (second_board h) board refl is

pub won_pots : KeepsOrder → ShowsSeats → (g : Header) (players : ℕ) (h : List Event) → CardsBelong g players h → AreDecided (showing_of g players h) (pots (paid_in (table_of g players h))) → IsWonBySomebody (showing_of g players h)
won_pots law shows g players h belong all number pot is checked more =
    let s = showing_of g players h in
    let here : slice_get (pots (paid_in (table_of g players h))) number ≡ Some pot = ap (λ (ps : List Paid). slice_get (pots ps) number) (sym (paid_shown g players h)) ∙ is in
    let full : AreFull s = decided_at s (pots (paid_in (table_of g players h))) number pot all here more in
    by_boards s (λ board. 0 < first_winners s board pot.eligible) (net_of s (Numbered (length (pots s.paid)) number))
    (λ board on. some_number (first_winners s board pot.eligible)
    (λ nobody. some_win (values_of s board) s board pot.eligible (ranks_of law s board (full board on) (board_sets shows g players h belong board on)) (full board on) checked (more_than_one (length (seats_in pot.eligible)) more) more nobody))

-- of a hand that is accepted
pub accepted_won : KeepsOrder → PlacesAreApart → CardsBelongAfter → WholeBoards → ShowsSeats → ExcludesFolded → (number : ℕ) (line : List ℕ) (lines : List (List ℕ)) (g : Header) → header_of line ≡ Ok g
    → (settlement : Settlement) (all_in : AllIn) (names : List (ℕ × List ℕ)) (players : ℕ)
    → audit_of number (line ∷ lines) ≡ Some (Accepted settlement all_in names players) → IsWonBySomebody (showing_of g players (events_of g lines))
accepted_won law apart belong boards shows folded number line lines g read settlement all_in names players is =
    let a = accepted_is number line lines g settlement all_in names players read is in
    let end = sound_all g players number lines nothing (start g players) a.none in
    let h = events_of g lines in
    won_pots law shows g players h (belong g players h end.0.accepted) (decided apart belong boards shows folded g players h end.0.accepted end.0.markers (end.0.part (has_total g players h end.1)))
