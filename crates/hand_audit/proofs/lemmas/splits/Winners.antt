-- Who wins by what is kept of the final cards is who wins by the rules.
use Rattle.std.proofs.Common.{◌≡◌, ℕ, zero, suc, length, ◌+◌, ◌<◌, ◌≤◌, List, [], ◌∷◌, refl, sym, ap, ◌∙◌, subst, Bool, true, false, ◌==◌, ◌&&◌, not, arith}
use Rattle.std.specs.Prelude.{Option, Some, None, is_some, nat_lt, if◌then◌else◌, slice_index_or}
use Rattle.std.specs.Int.{bit_at}
use Rattle.std.specs.List.{list_all, list_any}
use Rattle.card_sets.specs.PlayerSetLaws.{players_where-same}
use Rattle.card_sets.specs.PlayerSets.{has_player, players_from, players_where, seats_in}
use Rattle.card_sets.specs.declared.games.Side.{Side}
use Rattle.showdown_tally.specs.Settling.{number_of}
use Rattle.showdown_tally.specs.Showdown.{is_beaten_by, winners_of}
use Rattle.hand_audit.specs.Orders.{OfSeats}
use Rattle.hand_audit.specs.Settle.{Showing, IsBoardOf, set_of, hand_of, value_on, worth_on, first_side, second_side, side_winners, is_alone, is_checked}
use Rattle.hand_audit.specs.Marks.{mark_of}
use Rattle.hand_audit.specs.Winning.{Ranks, Tells, TellsSide, TellsBoard, TellsHands, TellsSecond, IsDecided, Decides, full_with, is_beaten, is_unbeaten, is_seat_in, wins, winners_by}
use Rattle.hand_audit.specs.declared.standings.Standings.{Standings}
use Rattle.hand_audit.specs.declared.worths.OnBoard.{OnBoard}
use Rattle.hand_audit.specs.declared.worths.OnSide.{OnSide}
use Rattle.card_sets.specs.declared.games.Game.{Game}
use Rattle.betting_replay.specs.Seats.{by_seat}
use Rattle.betting_replay.specs.TableAfter.{ReplayState, own_at, final_at}
use Rattle.betting_replay.proofs.CallerLemmas.{at_by_seat}
use Rattle.hand_audit.specs.declared.collections.Collection.{Collection}
use Rattle.hand_audit.specs.Showings.{showing_at, second_at}
use Rattle.hand_audit.proofs.lemmas.seats.FilteredSeats.{among_filter}
use Rattle.hand_audit.proofs.lemmas.seats.SeatSets.{among_seats}
use Rattle.hand_audit.proofs.lemmas.splits.HandNumbers.{same_ranks, same_full}

off : (x : Bool) → (x && false) ≡ false
off true = refl
off false = refl

-- a test of the seats of a set that agrees with another
same_more : (f g : ℕ → Bool) (s p n : ℕ) → f p ≡ g p → list_all f (players_from s (p + 1) n) ≡ list_all g (players_from s (p + 1) n) → (b : Bool)
    → list_all f (if b then p ∷ players_from s (p + 1) n else players_from s (p + 1) n) ≡ list_all g (if b then p ∷ players_from s (p + 1) n else players_from s (p + 1) n)
same_more f g s p n here rest true = rw (here, rest) refl
same_more f g s p n here rest false = rest

same_all_from : (f g : ℕ → Bool) (s p n : ℕ) → p + n ≤ 11 → ((q : ℕ) → q < 11 → f q ≡ g q) → list_all f (players_from s p n) ≡ list_all g (players_from s p n)
same_all_from f g s p zero l h = refl
same_all_from f g s p (suc n) l h = same_more f g s p n (h p (omega arith)) (same_all_from f g s (p + 1) n (omega arith) h) (bit_at s p == 1)

pub same_all : (f g : ℕ → Bool) (s : ℕ) → ((q : ℕ) → q < 11 → f q ≡ g q) → list_all f (seats_in s) ≡ list_all g (seats_in s)
same_all f g s h = same_all_from f g s 1 10 (omega arith) h

-- the winners by numbers are those by values
one_seat : (side : Side) (values : List (Option ℕ)) (v : ℕ → Option (List ℕ)) (s p : ℕ) → Ranks (Some side) values v → p < 11 → wins values s p ≡ list_any (λ q. q == p) (winners_of side v (seats_in s))
unfolding wins
one_seat side values v s p r l =
    let unbeaten : is_unbeaten values s (number_of values p) ≡ list_all (λ q. not (is_beaten_by side (v p) (v q))) (seats_in s) = same_all (λ q. not (is_beaten (number_of values p) (number_of values q))) (λ q. not (is_beaten_by side (v p) (v q))) s (λ q m. ap not (r.order p q l m)) in
    let test : (is_some (number_of values p) && is_unbeaten values s (number_of values p)) ≡ (is_some (v p) && list_all (λ q. not (is_beaten_by side (v p) (v q))) (seats_in s)) = rw (r.some p l, unbeaten) refl in
    assoc (nat_lt 0 p) (bit_at s p == 1) (is_some (number_of values p)) (is_unbeaten values s (number_of values p))
    ∙ ap (λ b. is_seat_in s p && b) test
    ∙ ap (λ b. b && (is_some (v p) && list_all (λ q. not (is_beaten_by side (v p) (v q))) (seats_in s))) (sym (among_seats s p l))
    ∙ sym (among_filter (λ i. is_some (v i) && list_all (λ j. not (is_beaten_by side (v i) (v j))) (seats_in s)) (seats_in s) p)
  where
    assoc : (a b c d : Bool) → (a && b && c && d) ≡ ((a && b) && (c && d))
    assoc true true true d = refl
    assoc true true false d = refl
    assoc true false c d = refl
    assoc false b c d = refl

no_seat : (values : List (Option ℕ)) (v : ℕ → Option (List ℕ)) (s p : ℕ) → Ranks None values v → ((q : ℕ) → q < 11 → v q ≡ None) → p < 11 → wins values s p ≡ false
unfolding wins
no_seat values v s p r none l =
    let no : is_some (number_of values p) ≡ false = r.some p l ∙ ap is_some (none p l) in
    rw no (off (nat_lt 0 p) (bit_at s p == 1))
  where
    off : (a b : Bool) → (a && b && false && is_unbeaten values s (number_of values p)) ≡ false
    off true true = refl
    off true false = refl
    off false b = refl

nobody : (n : ℕ) → players_where (λ p. false) n ≡ 0
nobody zero = refl
nobody (suc n) = let e : players_where (λ p. false) n ≡ 0 = nobody n in rw e refl

pub side_told : (side : Option Side) (values : List (Option ℕ)) (s : Showing) (board : List ℕ) (eligible : ℕ) → Ranks side values (worth_on side s board) → winners_by values eligible ≡ side_winners side s board eligible
unfolding winners_by
side_told (Some side) values s board eligible r = players_where-same (wins values eligible) (λ p. list_any (λ q. q == p) (winners_of side (worth_on (Some side) s board) (seats_in eligible))) 11 (λ p l. one_seat side values (worth_on (Some side) s board) eligible p r l)
side_told None values s board eligible r = players_where-same (wins values eligible) (λ p. false) 11 (λ p l. no_seat values (worth_on None s board) eligible p r (λ q m. refl) l) ∙ nobody 11

-- what is kept answers what the rules ask
pub checked_alone : (s : Showing) (eligible : ℕ) → is_alone eligible ≡ true → true ≡ is_checked s eligible
unfolding is_checked
checked_alone s eligible one = rw one refl

pub checked_told : (w : Standings) (s : Showing) (eligible : ℕ) (known : Bool) → Tells w s → is_alone eligible ≡ false → known ≡ list_all (has_player w.known) (seats_in eligible) → known ≡ is_checked s eligible
unfolding is_checked
checked_told w s eligible known t many are = rw many (are ∙ same_all (has_player w.known) (λ p. is_some (hand_of s p)) eligible t.known)

-- where nobody is eligible nobody wins
not_winning : (values : List (Option ℕ)) (s p : ℕ) → p < 11 → seats_in s ≡ [] → wins values s p ≡ false
unfolding wins
not_winning values s p l none =
    let out : is_seat_in s p ≡ false = sym (among_seats s p l) ∙ ap (list_any (λ q. q == p)) none in
    ap (λ b. b && is_some (number_of values p) && is_unbeaten values s (number_of values p)) out

nobody_wins : (values : List (Option ℕ)) (s : ℕ) → seats_in s ≡ [] → winners_by values s ≡ 0
unfolding winners_by
nobody_wins values s none = players_where-same (wins values s) (λ p. false) 11 (λ p l. not_winning values s p l none) ∙ nobody 11

pub no_winners : (side : Option Side) (s : Showing) (board : List ℕ) (eligible : ℕ) → seats_in eligible ≡ [] → side_winners side s board eligible ≡ 0
no_winners None s board eligible none = refl
no_winners (Some side) s board eligible none = ap (λ xs. set_of (winners_of side (worth_on (Some side) s board) xs)) none ∙ nobody 11

-- a set has no seat, or one, or more
pub data HowMany (eligible : ℕ) : Type 0 where
  none : seats_in eligible ≡ [] → HowMany eligible
  many : 2 ≤ length (seats_in eligible) → HowMany eligible

pub how_many : (eligible : ℕ) → is_alone eligible ≡ false → HowMany eligible
how_many eligible others = by (seats_in eligible) refl
  where
    by : (xs : List ℕ) → seats_in eligible ≡ xs → HowMany eligible
    by [] e = none e
    by (p ∷ []) e = let one : is_alone eligible ≡ true = ap (λ xs. length xs == 1) e in cc
    by (p ∷ q ∷ xs) e = let l : length (seats_in eligible) ≡ suc (suc (length xs)) = ap length e in many (omega (arith, l))

pub no_seats : OfSeats 0
no_seats = record { small = omega arith; first = refl }

-- what is kept of some hands is what is kept of others that are the same seat by seat
AreSame : List (Option (List ℕ)) → List (Option (List ℕ)) → Type 0
AreSame hands others = (p : ℕ) → p < 11 → slice_index_or hands p None ≡ slice_index_or others p None

same_side : (w : OnSide) (side : Option Side) (game : Game) (board : List ℕ) (hands others : List (Option (List ℕ))) → AreSame hands others → TellsSide w side game board hands → TellsSide w side game board others
unfolding AreSame
same_side w side game board hands others same t = record {
  ranks = same_ranks side w.values _ _ (λ p l. ap (value_on side game board) (same p l)) t.ranks;
  marks = λ p l. t.marks p l ∙ ap (mark_of side game board) (same p l);
}

same_board : (w : OnBoard) (game : Game) (board : List ℕ) (hands others : List (Option (List ℕ))) → AreSame hands others → TellsBoard w game board hands → TellsBoard w game board others
same_board w game board hands others same t = record {
  first = same_side w.first (first_side game) game board hands others same t.first;
  second = same_side w.second (second_side game) game board hands others same t.second;
}

-- what is kept of the hands that can be shown down on a board is what is kept of all, where all can
pub tells_hands : (w : OnBoard) (game : Game) (t : ReplayState) (board : List ℕ) (hands : List (Option (List ℕ)))
    → ((p : ℕ) → p < 11 → slice_index_or hands p None ≡ full_with game board (final_at t p))
    → TellsBoard w game board hands → TellsHands w game board (by_seat (final_at t))
unfolding AreSame
tells_hands w game t board hands are tells full =
    let at : (p : ℕ) → p < 11 → slice_index_or (by_seat (final_at t)) p None ≡ final_at t p = (λ p l. at_by_seat (final_at t) p None l) in
    same_board w game board hands (by_seat (final_at t))
    (λ p l. are p l ∙ ap (full_with game board) (sym (at p l)) ∙ same_full game board (slice_index_or (by_seat (final_at t)) p None) (full p l)) tells

-- what is kept of a hand so far tells who wins
pub tells : (w : Standings) (game : Game) (t : ReplayState) (all : List Collection)
    → ((p : ℕ) → p < 11 → has_player w.known p ≡ is_some (final_at t p))
    → TellsHands w.board game (own_at t 0) (by_seat (final_at t)) → TellsSecond w.second game (second_at t) (by_seat (final_at t))
    → w.game ≡ game → w.button ≡ t.button → Tells w (showing_at game t all)
unfolding showing_at
tells w game t all known board other g b =
    let at : (p : ℕ) → p < 11 → slice_index_or (by_seat (final_at t)) p None ≡ final_at t p = (λ p l. at_by_seat (final_at t) p None l) in
    record { game = g; known = λ p l. known p l ∙ ap is_some (sym (at p l)); board = board; second = other; button = b }

-- where nothing is kept of a second board there is none
pub none_told : (kept : Option OnBoard) (game : Game) (second : Option (List ℕ)) (hands : List (Option (List ℕ))) → kept ≡ None → TellsSecond kept game second hands → second ≡ None
none_told None game None hands e t = refl
none_told None game (Some board) hands e t = absurd t
none_told (Some w) game second hands e t = cc

-- and where something is, there is one, and it is kept what the hands are worth on it
pub record SecondTold (w : OnBoard) (game : Game) (second : Option (List ℕ)) (hands : List (Option (List ℕ))) : Type 0 where
  pub board : List ℕ
  pub is : second ≡ Some board
  pub tells : TellsHands w game board hands

pub some_told : (kept : Option OnBoard) (w : OnBoard) (game : Game) (second : Option (List ℕ)) (hands : List (Option (List ℕ))) → kept ≡ Some w → TellsSecond kept game second hands → SecondTold w game second hands
some_told None w game second hands some t = cc
some_told (Some v) w game None hands some t = absurd t
some_told (Some v) w game (Some board) hands some t =
    let same : v ≡ w = cc in
    record { board = board; is = refl; tells = subst (λ (x : OnBoard). TellsHands x game board hands) same t }

-- so in a pot that is decided what is kept of each board tells who wins
pub decides : (w : OnBoard) (s : Showing) (board : List ℕ) (eligible : ℕ) → IsBoardOf s board → TellsHands w s.game board s.hands → IsDecided s eligible → Decides w s board eligible
decides w s board eligible is tells decided more = let full = decided more board is in record { full = full; tells = tells full }
