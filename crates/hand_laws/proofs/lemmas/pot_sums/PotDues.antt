-- All of a pot of which it is known who wins is due to somebody.
use Rattle.std.proofs.Common.{◌≡◌, ℕ, ◌+◌, ◌<◌, ◌≤◌, List, [], ◌∷◌, ◌++◌, refl, sym, ap, ◌∙◌, subst, Bool, true, false, ◌==◌, ◌&&◌, not, inl, inr, length, arith, append-nil}
use Rattle.std.specs.Prelude.{Option, Some, None, is_some, IfSome, slice_get, filter, if◌then◌else◌}
use Rattle.std.specs.List.{list_all, list_any}
use Rattle.card_sets.specs.PlayerSets.{seats_in}
use Rattle.card_sets.specs.Cards.{IsCardSet, has_card}
use Rattle.card_sets.specs.declared.games.Game.{Game}
use Rattle.card_sets.specs.declared.games.Game.TheVariants.{Holdem, Omaha, Omaha8, Stud, Stud8, Razz, Draw5, Lowball27, Triple27}
use Rattle.card_sets.specs.declared.games.Side.{Side}
use Rattle.card_sets.specs.declared.games.Side.TheVariants.{High, Low}
use Rattle.card_sets.specs.Games.{allowed, has_marks}
use Rattle.rank_low.specs.Low.{ace_low}
use Rattle.showdown_tally.specs.Laws.{IsFull}
use Rattle.showdown_tally.specs.Showdown.{is_beaten_by, winners_of}
use Rattle.pot_layers.specs.declared.paid.Pot.{Pot}
use Rattle.pot_layers.specs.declared.paid.Share.{Share}
use Rattle.pot_layers.specs.Pots.{pots}
use Rattle.pot_layers.specs.Split.{IsOrder, OrdersItsSeats, first_half, second_half, given_in_all}
use Rattle.card_sets.proofs.CallerLemmas.{in_where}
use Rattle.pot_layers.proofs.CallerLemmas.{shares_whole}
use Rattle.hand_audit.specs.Marks.{height, mark_of}
use Rattle.hand_laws.specs.MarkLaws.{IsMarkOf, MarksAreCards}
use Rattle.hand_audit.specs.Orders.{OfSeats, by_marks, odd_order}
use Rattle.hand_audit.specs.Settle.{Showing, Part, IsBoardOf, parts_by, parts_of, hand_of, worth_on, set_of, is_alone, first_side, second_side, side_winners, first_winners, second_winners, mark_at, order_of, shares_alone, shares_by, shares_among, shares_of_parts}
use Rattle.hand_audit.specs.Winning.{AreFullOn}
use Rattle.hand_audit.proofs.CallerLemmas.{among_filter, marked_ordered, ordered, among_seats, of_seats, no_seats, some_alone, order_alone, order_nobody}
use Rattle.hand_laws.proofs.lemmas.pot_sums.PaymentSums.{OfTable, of_shares, of_both, given_both}

-- a mark is below 52
low_height : (card : ℕ) → ace_low card < 52
low_height card = omega arith

small_height : (side : Side) (card : ℕ) → card < 52 → height side card < 52
small_height High card l = l
small_height Low card l = low_height card

of_deck : (cards : List ℕ) (card : ℕ) → IsCardSet cards → has_card cards card ≡ true → card < 52
of_deck cards card set has = (in_where (has_card cards) card (ap (λ xs. has_card xs card) set ∙ has)).0

small_mark : (side : Side) (fives : List (List ℕ)) (own : List ℕ) (mark : ℕ) → IsCardSet own → IsMarkOf side fives own mark → mark < 52
small_mark side fives own mark set is =
    let card = small_height side is.card (of_deck own is.card set is.in_own) in
    let counts = is.counts in
    omega (arith, card, counts)

no_mark : (side : Option Side) (game : Game) (board : List ℕ) (own : Option (List ℕ)) → has_marks game ≡ false → mark_of side game board own < 52
no_mark None game board own none = omega arith
no_mark (Some side) game board None none = omega arith
no_mark (Some side) game board (Some own) none = rw none (omega arith)

-- each mark on a side of a board is a card
abbrev pub AreSmall : Option Side → Showing → List ℕ → Type 0
AreSmall side s board = (p : ℕ) → p < 11 → mark_at side s board p < 52

marks_on : (side : Side) (game : Game) (s : Showing) (board : List ℕ) → s.game ≡ game → AreFullOn s board
    → ((p : ℕ) → p < 11 → (own : List ℕ) → hand_of s p ≡ Some own → IsMarkOf side (allowed game own board) own (mark_at (Some side) s board p)) → AreSmall (Some side) s board
marks_on side game s board is full marks p l = by (hand_of s p) refl
  where
    by : (o : Option (List ℕ)) → hand_of s p ≡ o → mark_at (Some side) s board p < 52
    by None e = subst (λ (o : Option (List ℕ)). mark_of (Some side) s.game board o < 52) (sym e) (omega arith)
    by (Some own) e =
        let mine = subst (λ (o : Option (List ℕ)). IfSome o (λ own. IsFull s.game own board)) e (full p l) in
        small_mark side (allowed game own board) own (mark_at (Some side) s board p) mine.own_cards (marks p l own e)

small_by : (f : Game → Option Side) (s : Showing) (board : List ℕ) (game : Game) → s.game ≡ game → AreSmall (f game) s board → AreSmall (f s.game) s board
small_by f s board game is small = subst (λ (side : Option Side). AreSmall side s board) (ap f (sym is)) small

pub record SmallMarks (s : Showing) (board : List ℕ) : Type 0 where
  pub first : AreSmall (first_side s.game) s board
  pub second : AreSmall (second_side s.game) s board

unmarked : (s : Showing) (board : List ℕ) → has_marks s.game ≡ false → SmallMarks s board
unmarked s board none = record {
  first = λ p l. no_mark (first_side s.game) s.game board (hand_of s p) none;
  second = λ p l. no_mark (second_side s.game) s.game board (hand_of s p) none;
}

pub small_marks : (s : Showing) (board : List ℕ) (number : ℕ) (pot : Pot) → MarksAreCards s → IsBoardOf s board → slice_get (pots s.paid) number ≡ Some pot → 2 ≤ length (seats_in pot.eligible) → AreFullOn s board → SmallMarks s board
small_marks s board number pot marks on at more full = by s.game refl
  where
    by : (game : Game) → s.game ≡ game → SmallMarks s board
    by Holdem e = unmarked s board (ap has_marks e)
    by Omaha e = unmarked s board (ap has_marks e)
    by Omaha8 e = unmarked s board (ap has_marks e)
    by Stud e = record {
      first = small_by first_side s board Stud e (marks_on High Stud s board e full (λ p l own known. marks.stud e number pot at more board on p l own known));
      second = small_by second_side s board Stud e (λ p l. omega arith);
    }
    by Stud8 e = record {
      first = small_by first_side s board Stud8 e (marks_on High Stud8 s board e full (λ p l own known. marks.stud8_high e number pot at more board on p l own known));
      second = small_by second_side s board Stud8 e (marks_on Low Stud8 s board e full (λ p l own known. marks.stud8_low e number pot at more board on p l own known));
    }
    by Razz e = record {
      first = small_by first_side s board Razz e (marks_on Low Razz s board e full (λ p l own known. marks.razz e number pot at more board on p l own known));
      second = small_by second_side s board Razz e (λ p l. omega arith);
    }
    by Draw5 e = unmarked s board (ap has_marks e)
    by Lowball27 e = unmarked s board (ap has_marks e)
    by Triple27 e = unmarked s board (ap has_marks e)

-- the order of a side's winners lists each once
order_is : (side : Option Side) (s : Showing) (board : List ℕ) (winners : ℕ) → OfSeats winners → AreSmall side s board → s.button ≤ 10 → IsOrder winners (order_of side s board winners)
unfolding order_of
order_is side s board winners seats small button = by (has_marks s.game)
  where
    by : (b : Bool) → IsOrder winners (if b then by_marks (mark_at side s board) (seats_in winners) else odd_order s.button winners)
    by true = marked_ordered (mark_at side s board) winners small seats
    by false = ordered s.button winners button seats

-- who wins has a seat of the table
no_zero : (test : ℕ → Bool) (eligible : ℕ) → list_any (λ q. q == 0) (filter test (seats_in eligible)) ≡ false
no_zero test eligible =
    let none : list_any (λ q. q == 0) (seats_in eligible) ≡ false = among_seats eligible 0 (omega arith) in
    among_filter test (seats_in eligible) 0 ∙ ap (λ b. b && test 0) none

pub side_seats : (side : Option Side) (s : Showing) (board : List ℕ) (eligible : ℕ) → OfSeats (side_winners side s board eligible)
side_seats None s board eligible = no_seats
side_seats (Some side) s board eligible =
    let worth = worth_on (Some side) s board in
    of_seats (λ p. list_any (λ q. q == p) (winners_of side (worth_on (Some side) s board) (seats_in eligible)))
    (no_zero (λ i. is_some (worth_on (Some side) s board i) && list_all (λ j. not (is_beaten_by side (worth_on (Some side) s board i) (worth_on (Some side) s board j))) (seats_in eligible)) eligible)

first_seats : (s : Showing) (board : List ℕ) (eligible : ℕ) → OfSeats (first_winners s board eligible)
unfolding first_winners
first_seats s board eligible = side_seats (first_side s.game) s board eligible

second_seats : (s : Showing) (board : List ℕ) (eligible : ℕ) → OfSeats (second_winners s board eligible)
unfolding second_winners
second_seats s board eligible = side_seats (second_side s.game) s board eligible

-- all of a part is given
pub record IsGiven (shares : List Share) (units : ℕ) : Type 0 where
  pub table : OfTable shares
  pub whole : given_in_all shares ≡ units

alone_given : OrdersItsSeats → (eligible units : ℕ) → is_alone eligible ≡ true → IsGiven (shares_alone eligible units) units
unfolding shares_alone
alone_given law eligible units one = record {
  table = of_shares units (set_of (seats_in eligible)) 0 (seats_in eligible) [];
  whole = shares_whole units (set_of (seats_in eligible)) 0 (seats_in eligible) [] (some_alone eligible (set_of (seats_in eligible)) one refl) (order_alone law eligible (set_of (seats_in eligible)) (seats_in eligible) refl refl) (order_nobody [] refl);
}

others_given : (s : Showing) (part : Part) (first second : ℕ) → OfSeats first → OfSeats second → SmallMarks s part.board → s.button ≤ 10 → 0 < first → IsGiven (shares_by s part first second) part.units
unfolding shares_by
others_given s part first second f g small button some = record {
  table = of_shares part.units first second (order_of (first_side s.game) s part.board first) (order_of (second_side s.game) s part.board second);
  whole = shares_whole part.units first second (order_of (first_side s.game) s part.board first) (order_of (second_side s.game) s part.board second) some (order_is (first_side s.game) s part.board first f small.first button) (order_is (second_side s.game) s part.board second g small.second button);
}

at_least : (n : ℕ) → 1 ≤ n → (n == 1) ≡ false → 2 ≤ n
at_least n l e = grind arith

-- where its final cards can be shown down on a board, and somebody wins by it
pub record IsWon (s : Showing) (board : List ℕ) (eligible : ℕ) : Type 0 where
  pub marks : SmallMarks s board
  pub some : 0 < first_winners s board eligible

-- all of a part is given of a pot that somebody may win
part_given : OrdersItsSeats → (s : Showing) (eligible : ℕ) (part : Part) → 1 ≤ length (seats_in eligible) → s.button ≤ 10 → (2 ≤ length (seats_in eligible) → IsWon s part.board eligible)
    → IsGiven (shares_among (is_alone eligible) s eligible part) part.units
part_given law s eligible part some button more = by (is_alone eligible) refl
  where
    by : (b : Bool) → is_alone eligible ≡ b → IsGiven (shares_among b s eligible part) part.units
    by true e = alone_given law eligible part.units e
    by false e =
        let m = more (at_least (length (seats_in eligible)) some e) in
        others_given s part (first_winners s part.board eligible) (second_winners s part.board eligible) (first_seats s part.board eligible) (second_seats s part.board eligible) m.marks button m.some

-- what two parts are given, one after the other
both_given : (some others : List Share) (up down : ℕ) → IsGiven some up → IsGiven others down → IsGiven (some ++ others) (up + down)
both_given some others up down a b = record {
  table = of_both some others a.table b.table;
  whole = given_both some others ∙ (let both : given_in_all some + given_in_all others ≡ up + down = (let first = a.whole in let second = b.whole in omega (arith, first, second)) in both);
}

-- so all of a pot is, on each board by which it goes
pub parts_given : OrdersItsSeats → (s : Showing) (eligible units : ℕ) → 1 ≤ length (seats_in eligible) → s.button ≤ 10
    → (2 ≤ length (seats_in eligible) → (board : List ℕ) → IsBoardOf s board → IsWon s board eligible)
    → IsGiven (shares_of_parts s eligible (parts_of s units)) units
parts_given law s eligible units some button more = by s.second refl
  where
    by : (o : Option (List ℕ)) → s.second ≡ o → IsGiven (shares_of_parts s eligible (parts_by o s.board units)) units
    by None e =
        let part : Part = record { units = units; board = s.board } in
        subst (λ (xs : List Share). IsGiven xs units) (sym (append-nil (shares_among (is_alone eligible) s eligible part))) (part_given law s eligible part some button (λ m. more m s.board (inl refl)))
    by (Some board) e =
        let up : Part = record { units = first_half units; board = s.board } in
        let down : Part = record { units = second_half units; board = board } in
        let first = part_given law s eligible up some button (λ m. more m s.board (inl refl)) in
        let second = part_given law s eligible down some button (λ m. more m board (inr e)) in
        let last = subst (λ (xs : List Share). IsGiven xs (second_half units)) (sym (append-nil (shares_among (is_alone eligible) s eligible down))) second in
        let whole : first_half units + second_half units ≡ units = omega arith in
        subst (λ (n : ℕ). IsGiven (shares_of_parts s eligible (up ∷ down ∷ [])) n) whole
        (both_given (shares_among (is_alone eligible) s eligible up) (shares_of_parts s eligible (down ∷ [])) (first_half units) (second_half units) first last)
