-- What a seat gets by shares, in units and in sides. Of a part it gets what it gets of the part's two sides. A player who alone may win a
-- pot gets all of it and one side of each part.
use Rattle.std.proofs.Common.{◌≡◌, ℕ, zero, suc, ◌+◌, ◌-◌, ◌/◌, ◌%◌, ◌<◌, ◌≤◌, List, [], ◌∷◌, ◌++◌, refl, sym, ap, ◌∙◌, Bool, true, false, ◌==◌, ◌&&◌, ◌||◌, map, length, min, arith, append-nil}
use Rattle.std.specs.Prelude.{Option, Some, None, if◌then◌else◌, nat_lt, sum_by}
use Rattle.std.specs.Int.{bit_at}
use Rattle.std.proofs.lemmas.List.Folds.{list_any-append}
use Rattle.std.proofs.lemmas.List.Sums.{sum_by-cons, sum_by-append}
use Rattle.std.proofs.lemmas.Nat.Bits.{bit_at-zero}
use Rattle.card_sets.specs.PlayerSets.{has_player, players_from, seats_in}
use Rattle.card_sets.specs.Games.{has_marks}
use Rattle.card_sets.specs.declared.games.Side.{Side}
use Rattle.card_sets.specs.declared.games.Side.TheVariants.{High}
use Rattle.pot_layers.specs.declared.paid.Share.{Share}
use Rattle.pot_layers.specs.Split.{IsOrder, first_half, second_half, given, side_share, high_half, low_half, sides_won, shares_from, shares, is_among}
use Rattle.pot_layers.proofs.CallerLemmas.{orders_its_seats}
use Rattle.hand_verdict.specs.declared.parts.PartShare.{PartShare}
use Rattle.hand_audit.specs.Orders.{odd_order, by_marks, by_marks_below}
use Rattle.hand_audit.specs.Parts.{part_share, side_parts, both_sides, shares_on, shares_on_boards, is_contested, part_shares_if}
use Rattle.hand_audit.specs.Settle.{Showing, Part, first_side, second_side, first_winners, second_winners, is_alone, is_checked, mark_at, order_of, parts_by, parts_of, set_of, shares_alone, shares_among, shares_by, shares_if, shares_of_parts, side_winners}
use Rattle.hand_audit.specs.SettlementAnswers.{AreDues, is_lone}
use Rattle.hand_audit.proofs.lemmas.seats.FilteredSeats.{among_filter}
use Rattle.hand_audit.proofs.lemmas.seats.SeatLists.{differ_from, range_from}
use Rattle.hand_audit.proofs.lemmas.seats.SeatSets.{among_seats}
use Rattle.hand_audit.proofs.lemmas.splits.PartShares.{nobody_shares, no_shares, if_others}
use Rattle.hand_audit.proofs.lemmas.splits.Winners.{HowMany, how_many, checked_alone}
use Rattle.hand_audit.proofs.lemmas.splits.Winners.HowMany.{many, none}

-- who isn't in an order gets nothing by it
given_none : (each extra : ℕ) (order : List ℕ) (seat : ℕ) → is_among seat order ≡ false → given each extra order seat ≡ 0
given_none each extra [] seat out = refl
given_none each extra (s ∷ order) seat out = by (s == seat) refl (given_none each (extra - 1) order seat)
  where
    by : (b : Bool) → (s == seat) ≡ b → (is_among seat order ≡ false → given each (extra - 1) order seat ≡ 0) → (if b then each + min extra 1 else given each (extra - 1) order seat) ≡ 0
    by true e rest = let in_it : is_among seat (s ∷ order) ≡ true = rw e refl in cc
    by false e rest = let later : is_among seat (s ∷ order) ≡ is_among seat order = rw e refl in rest (sym later ∙ out)

-- an order lists winners alone
abbrev ListsWinners : ℕ → List ℕ → Type 0
ListsWinners winners order = (seat : ℕ) → has_player winners seat ≡ false → is_among seat order ≡ false

lists_from : (winners p n : ℕ) → ListsWinners winners (players_from winners p n)
lists_from winners p zero seat out = refl
lists_from winners p (suc n) seat out = by (has_player winners p) (p == seat) refl refl (lists_from winners (p + 1) n seat out)
  where
    by : (a b : Bool) → has_player winners p ≡ a → (p == seat) ≡ b → is_among seat (players_from winners (p + 1) n) ≡ false
        → is_among seat (if a then p ∷ players_from winners (p + 1) n else players_from winners (p + 1) n) ≡ false
    by true true ea eb rest =
        let same : p ≡ seat = grind (arith, eb) in
        let on : has_player winners seat ≡ true = ap (has_player winners) (sym same) ∙ ea in cc
    by true false ea eb rest = rw eb rest
    by false b ea eb rest = rest

lists_both : (winners : ℕ) (some others : List ℕ) → ListsWinners winners some → ListsWinners winners others → ListsWinners winners (some ++ others)
lists_both winners some others a b seat out =
    let none : (is_among seat some || is_among seat others) ≡ false = rw (a seat out, b seat out) refl in
    list_any-append (λ s. s == seat) some others ∙ none

lists_odd : (button winners : ℕ) → ListsWinners winners (odd_order button winners)
lists_odd button winners = lists_both winners _ _ (lists_from winners (button + 1) (10 - button)) (lists_from winners 1 button)

lists_marked : (mark : ℕ → ℕ) (winners n : ℕ) → ListsWinners winners (by_marks_below mark (seats_in winners) n)
lists_marked mark winners zero seat out = refl
lists_marked mark winners (suc n) seat out =
    lists_both winners _ _ (λ q none. among_filter (λ p. mark p == n) (seats_in winners) q ∙ ap (λ b. b && (mark q == n)) (lists_from winners 1 10 q none)) (lists_marked mark winners n) seat out

lists_marks : (mark : ℕ → ℕ) (winners : ℕ) → ListsWinners winners (by_marks mark (seats_in winners))
unfolding by_marks
lists_marks mark winners = lists_marked mark winners 52

lists_order : (side : Option Side) (s : Showing) (board : List ℕ) (winners : ℕ) → ListsWinners winners (order_of side s board winners)
unfolding order_of
lists_order side s board winners = by (has_marks s.game)
  where
    by : (b : Bool) → ListsWinners winners (if b then by_marks (mark_at side s board) (seats_in winners) else odd_order s.button winners)
    by true = lists_marks (mark_at side s board) winners
    by false = lists_odd s.button winners

-- an amount of a share, by its units and its sides: the one or the other
pub record AddsUp (w : ℕ → ℕ → ℕ) : Type 0 where
  pub none : w 0 0 ≡ 0
  pub both : (a b x y : ℕ) → w (a + b) (x + y) ≡ w a x + w b y

pub of_units : AddsUp (λ units sides. units)
of_units = record { none = refl; both = λ a b x y. refl }

pub of_sides : AddsUp (λ units sides. sides)
of_sides = record { none = refl; both = λ a b x y. refl }

-- what a seat gets of some shares, and of some shares of sides
abbrev pub pick : Bool → ℕ → ℕ
pick t amount = if t then amount else 0

abbrev pub gets : (ℕ → ℕ → ℕ) → ℕ → List Share → ℕ
gets w p all = sum_by (λ share. if share.seat == p then w share.units share.sides else 0) all

abbrev pub gets_of : (ℕ → ℕ → ℕ) → ℕ → List PartShare → ℕ
gets_of w p all = sum_by (λ share. if share.seat == p then w share.units 1 else 0) all

gets_both : (w : ℕ → ℕ → ℕ) (p : ℕ) (some others : List Share) → gets w p (some ++ others) ≡ gets w p some + gets w p others
gets_both w p some others = sum_by-append (λ (x : Share). if x.seat == p then w x.units x.sides else 0) some others

gets_of_both : (w : ℕ → ℕ → ℕ) (p : ℕ) (some others : List PartShare) → gets_of w p (some ++ others) ≡ gets_of w p some + gets_of w p others
gets_of_both w p some others = sum_by-append (λ (x : PartShare). if x.seat == p then w x.units 1 else 0) some others

pick_none : (t : Bool) → pick t 0 ≡ 0
pick_none true = refl
pick_none false = refl

pick_both : (t : Bool) (a b : ℕ) → pick t (a + b) ≡ pick t a + pick t b
pick_both true a b = refl
pick_both false a b = refl

-- what a seat gets if each of n seats from one on gets an amount
abbrev cells : (ℕ → ℕ) → ℕ → ℕ → ℕ → ℕ
cells f p seat zero = 0
cells f p seat (suc n) = pick (seat == p) (f seat) + cells f p (seat + 1) n

cells_both : (f g h : ℕ → ℕ) (p seat n : ℕ) → ((q : ℕ) → f q ≡ g q + h q) → cells f p seat n ≡ cells g p seat n + cells h p seat n
cells_both f g h p seat zero each = refl
cells_both f g h p seat (suc n) each =
    let here : pick (seat == p) (f seat) ≡ pick (seat == p) (g seat) + pick (seat == p) (h seat) = ap (pick (seat == p)) (each seat) ∙ pick_both (seat == p) (g seat) (h seat) in
    let rest = cells_both f g h p (seat + 1) n each in
    omega (arith, here, rest)

cells_past : (f : ℕ → ℕ) (p seat n : ℕ) → p < seat → cells f p seat n ≡ 0
cells_past f p seat zero l = refl
cells_past f p seat (suc n) l =
    let other : (seat == p) ≡ false = grind arith in
    let here : pick (seat == p) (f seat) ≡ 0 = ap (λ b. pick b (f seat)) other in
    let rest = cells_past f p (seat + 1) n (omega (arith, l)) in
    omega (arith, here, rest)

cells_at : (f : ℕ → ℕ) (p seat n : ℕ) → seat ≤ p → p < seat + n → cells f p seat n ≡ f p
cells_at f p seat zero low high = absurd (omega (arith, low, high))
cells_at f p seat (suc n) low high = by (seat == p) refl (λ later. cells_at f p (seat + 1) n later (omega (arith, high)))
  where
    by : (b : Bool) → (seat == p) ≡ b → (seat + 1 ≤ p → cells f p (seat + 1) n ≡ f p) → pick b (f seat) + cells f p (seat + 1) n ≡ f p
    by true e rest =
        let same : seat ≡ p = grind arith in
        let none_later = cells_past f p (seat + 1) n (omega (arith, same)) in
        let here : f seat ≡ f p = ap f same in
        omega (arith, none_later, here)
    by false e rest =
        let later : seat + 1 ≤ p = grind arith in
        let all = rest later in
        omega (arith, all)

-- what each seat gets of a part, and of a side
abbrev of_part : (ℕ → ℕ → ℕ) → ℕ → ℕ → ℕ → List ℕ → List ℕ → ℕ → ℕ
of_part w units high low high_order low_order seat = w (side_share (high_half units low) high_order seat + side_share (low_half units low) low_order seat) (sides_won high low seat)

abbrev of_side : (ℕ → ℕ → ℕ) → ℕ → ℕ → List ℕ → ℕ → ℕ
of_side w units winners order seat = w (side_share units order seat) (if has_player winners seat then 1 else 0)

-- a seat gets of the shares of n seats from one on its own
walk : (w : ℕ → ℕ → ℕ) (units high low : ℕ) (high_order low_order : List ℕ) (p seat n : ℕ)
    → ((q : ℕ) → (sides_won high low q == 0) ≡ true → of_part w units high low high_order low_order q ≡ 0)
    → gets w p (shares_from units high low high_order low_order seat n) ≡ cells (of_part w units high low high_order low_order) p seat n
walk w units high low high_order low_order p seat zero nothing = refl
walk w units high low high_order low_order p seat (suc n) nothing = by (sides_won high low seat == 0) refl (walk w units high low high_order low_order p (seat + 1) n nothing)
  where
    later : List Share
    later = shares_from units high low high_order low_order (seat + 1) n

    here : Share
    here = record { seat = seat; units = side_share (high_half units low) high_order seat + side_share (low_half units low) low_order seat; sides = sides_won high low seat }

    by : (b : Bool) → (sides_won high low seat == 0) ≡ b → gets w p later ≡ cells (of_part w units high low high_order low_order) p (seat + 1) n
        → gets w p (if b then later else here ∷ later) ≡ pick (seat == p) (of_part w units high low high_order low_order seat) + cells (of_part w units high low high_order low_order) p (seat + 1) n
    by true e rest =
        let zero_here : pick (seat == p) (of_part w units high low high_order low_order seat) ≡ 0 = ap (pick (seat == p)) (nothing seat e) ∙ pick_none (seat == p) in
        omega (arith, zero_here, rest)
    by false e rest =
        sum_by-cons (λ (x : Share). if x.seat == p then w x.units x.sides else 0) here later
        ∙ ap (λ m. pick (seat == p) (of_part w units high low high_order low_order seat) + m) rest

no_player : (seat : ℕ) → has_player 0 seat ≡ false
no_player seat = let z : bit_at 0 seat ≡ 0 = bit_at-zero seat in rw z refl

-- so of the shares of a side
side_walk : (w : ℕ → ℕ → ℕ) (board each : ℕ) (side : Side) (units winners : ℕ) (order : List ℕ) (p seat n : ℕ) → AddsUp w → ListsWinners winners order
    → gets_of w p (map (part_share board side each) (shares_from units winners 0 order [] seat n)) ≡ cells (of_side w units winners order) p seat n
side_walk w board each side units winners order p seat zero adds lists = refl
side_walk w board each side units winners order p seat (suc n) adds lists = by (has_player winners seat) refl (side_walk w board each side units winners order p (seat + 1) n adds lists)
  where
    later : List Share
    later = shares_from units winners 0 order [] (seat + 1) n

    shown : List Share → ℕ
    shown all = gets_of w p (map (part_share board side each) all)

    share : ℕ → Share
    share won = record { seat = seat; units = side_share units order seat + side_share 0 [] seat; sides = won }

    by : (b : Bool) → has_player winners seat ≡ b → shown later ≡ cells (of_side w units winners order) p (seat + 1) n
        → shown (shares_from units winners 0 order [] seat (suc n)) ≡ pick (seat == p) (of_side w units winners order seat) + cells (of_side w units winners order) p (seat + 1) n
    by true e rest =
        let won : sides_won winners 0 seat ≡ 1 = rw (e, no_player seat) refl in
        let one : shown (shares_from units winners 0 order [] seat (suc n)) ≡ shown (share 1 ∷ later) = ap (λ k. shown (if k == 0 then later else share k ∷ later)) won in
        let same : side_share units order seat + 0 ≡ side_share units order seat = omega arith in
        let here : w (side_share units order seat + 0) 1 ≡ of_side w units winners order seat = ap (λ u. w u 1) same ∙ sym (ap (λ b. w (side_share units order seat) (if b then 1 else 0)) e) in
        one ∙ sum_by-cons (λ (x : PartShare). if x.seat == p then w x.units 1 else 0) (part_share board side each (share 1)) (map (part_share board side each) later)
        ∙ ap (λ m. pick (seat == p) m + shown later) here ∙ ap (λ m. pick (seat == p) (of_side w units winners order seat) + m) rest
    by false e rest =
        let won : sides_won winners 0 seat ≡ 0 = rw (e, no_player seat) refl in
        let one : shown (shares_from units winners 0 order [] seat (suc n)) ≡ shown later = ap (λ k. shown (if k == 0 then later else share k ∷ later)) won in
        let no_units : side_share units order seat ≡ 0 = given_none _ _ order seat (lists seat e) in
        let nothing : of_side w units winners order seat ≡ 0 = ap (λ b. w (side_share units order seat) (if b then 1 else 0)) e ∙ ap (λ u. w u 0) no_units ∙ adds.none in
        let zero_here : pick (seat == p) (of_side w units winners order seat) ≡ 0 = ap (pick (seat == p)) nothing ∙ pick_none (seat == p) in
        one ∙ omega (arith, zero_here, rest)

side_gets : (w : ℕ → ℕ → ℕ) (p board winners units : ℕ) (side : Option Side) (order : List ℕ) → AddsUp w → (side ≡ None → winners ≡ 0) → ListsWinners winners order
    → gets_of w p (side_parts board side winners order units) ≡ cells (of_side w units winners order) p 1 10
unfolding shares
side_gets w p board winners units (Some side) order adds no_side lists = side_walk w board (units / length order) side units winners order p 1 10 adds lists
side_gets w p board winners units None order adds no_side lists =
    let nobody : shares units winners 0 order [] ≡ [] = ap (λ n. shares units n 0 order []) (no_side refl) ∙ nobody_shares units order [] in
    sym (ap (λ xs. gets_of w p (map (part_share board High 0) xs)) nobody) ∙ side_walk w board 0 High units winners order p 1 10 adds lists

-- who wins no side gets nothing
nothing_won : (w : ℕ → ℕ → ℕ) (units high low : ℕ) (high_order low_order : List ℕ) → AddsUp w → ListsWinners high high_order → ListsWinners low low_order
    → (q : ℕ) → (sides_won high low q == 0) ≡ true → of_part w units high low high_order low_order q ≡ 0
nothing_won w units high low high_order low_order adds first second q won = by (has_player high q) (has_player low q) refl refl
  where
    by : (x y : Bool) → has_player high q ≡ x → has_player low q ≡ y → of_part w units high low high_order low_order q ≡ 0
    by true true ex ey = let some : (sides_won high low q == 0) ≡ false = rw (ex, ey) refl in cc
    by true false ex ey = let some : (sides_won high low q == 0) ≡ false = rw (ex, ey) refl in cc
    by false true ex ey = let some : (sides_won high low q == 0) ≡ false = rw (ex, ey) refl in cc
    by false false ex ey =
        let mine : side_share (high_half units low) high_order q ≡ 0 = given_none _ _ high_order q (first q ex) in
        let other : side_share (low_half units low) low_order q ≡ 0 = given_none _ _ low_order q (second q ey) in
        let sides : sides_won high low q ≡ 0 = rw (ex, ey) refl in
        ap (λ u. w (u + side_share (low_half units low) low_order q) (sides_won high low q)) mine ∙ ap (λ u. w (0 + u) (sides_won high low q)) other ∙ ap (w 0) sides ∙ adds.none

-- what a seat gets of a part is what it gets of its two sides
part_gets : (w : ℕ → ℕ → ℕ) (p : ℕ) (s : Showing) (board : ℕ) (part : Part) (first second : ℕ) → AddsUp w → (first_side s.game ≡ None → first ≡ 0) → (second_side s.game ≡ None → second ≡ 0)
    → gets_of w p (both_sides s board part first second) ≡ gets w p (shares_by s part first second)
unfolding shares_by shares
part_gets w p s board part first second adds no_first no_second =
    let order = order_of (first_side s.game) s part.board first in
    let other = order_of (second_side s.game) s part.board second in
    let high = high_half part.units second in
    let low = low_half part.units second in
    let lists = lists_order (first_side s.game) s part.board first in
    let lists_other = lists_order (second_side s.game) s part.board second in
    gets_of_both w p (side_parts board (first_side s.game) first order high) (side_parts board (second_side s.game) second other low)
    ∙ ap (λ m. m + gets_of w p (side_parts board (second_side s.game) second other low)) (side_gets w p board first high (first_side s.game) order adds no_first lists)
    ∙ ap (λ m. cells (of_side w high first order) p 1 10 + m) (side_gets w p board second low (second_side s.game) other adds no_second lists_other)
    ∙ sym (cells_both (of_part w part.units first second order other) (of_side w high first order) (of_side w low second other) p 1 10 (λ q. adds.both (side_share high order q) (side_share low other q) (if has_player first q then 1 else 0) (if has_player second q then 1 else 0)))
    ∙ sym (walk w part.units first second order other p 1 10 (nothing_won w part.units first second order other adds lists lists_other))

-- nobody wins a side that the game hasn't
no_first : (s : Showing) (board : List ℕ) (eligible : ℕ) → first_side s.game ≡ None → first_winners s board eligible ≡ 0
unfolding first_winners
no_first s board eligible no_side = ap (λ (o : Option Side). side_winners o s board eligible) no_side

no_second : (s : Showing) (board : List ℕ) (eligible : ℕ) → second_side s.game ≡ None → second_winners s board eligible ≡ 0
unfolding second_winners
no_second s board eligible no_side = ap (λ (o : Option Side). side_winners o s board eligible) no_side

-- so of the parts of a pot that nobody alone may win
pub parts_get : (w : ℕ → ℕ → ℕ) (p : ℕ) (s : Showing) (eligible board : ℕ) (parts : List Part) → AddsUp w → is_alone eligible ≡ false → gets_of w p (shares_on_boards s eligible board parts) ≡ gets w p (shares_of_parts s eligible parts)
parts_get w p s eligible board [] adds others = refl
parts_get w p s eligible board (part ∷ parts) adds others =
    gets_of_both w p (shares_on s eligible board part) (shares_on_boards s eligible (board + 1) parts)
    ∙ ap (λ m. m + gets_of w p (shares_on_boards s eligible (board + 1) parts))
    (part_gets w p s board part (first_winners s part.board eligible) (second_winners s part.board eligible) adds (no_first s part.board eligible) (no_second s part.board eligible)
    ∙ ap (λ b. gets w p (shares_among b s eligible part)) (sym others))
    ∙ ap (λ m. gets w p (shares_among (is_alone eligible) s eligible part) + m) (parts_get w p s eligible (board + 1) parts adds others)
    ∙ sym (gets_both w p (shares_among (is_alone eligible) s eligible part) (shares_of_parts s eligible parts))

-- where nobody is eligible there are no shares
none_parts : (s : Showing) (eligible : ℕ) (parts : List Part) → is_alone eligible ≡ false → seats_in eligible ≡ [] → shares_of_parts s eligible parts ≡ []
none_parts s eligible [] others nowhere = refl
none_parts s eligible (part ∷ parts) others nowhere =
    ap (λ xs. xs ++ shares_of_parts s eligible parts) (sym (no_shares s part eligible nowhere ∙ if_others s eligible part others)) ∙ none_parts s eligible parts others nowhere

-- one player has all units of a side
one_share : (units q : ℕ) (xs : List ℕ) → (length xs == 1) ≡ true → side_share units xs q ≡ pick (is_among q xs) units
one_share units q [] one = cc
one_share units q (p ∷ []) one = by (p == q)
  where
    by : (b : Bool) → (if b then units / 1 + min (units % 1) 1 else 0) ≡ pick (b || false) units
    by true = omega arith
    by false = refl
one_share units q (p ∷ r ∷ xs) one = let more : (length (p ∷ r ∷ xs) == 1) ≡ false = grind arith in cc

-- so who alone may win a pot gets all of a part, and nobody else anything
lone_part : (w : ℕ → ℕ → ℕ) (eligible q units : ℕ) → AddsUp w → is_alone eligible ≡ true → 1 ≤ q → q ≤ 10 → gets w q (shares_alone eligible units) ≡ pick (is_among q (seats_in eligible)) (w units 1)
unfolding shares_alone shares
lone_part w eligible q units adds alone low high =
    walk w units (set_of (seats_in eligible)) 0 (seats_in eligible) [] q 1 10 nothing
    ∙ cells_at (of_part w units (set_of (seats_in eligible)) 0 (seats_in eligible) []) q 1 10 low (omega (arith, high))
    ∙ by (is_among q (seats_in eligible)) refl
  where
    order : IsOrder (set_of (seats_in eligible)) (seats_in eligible)
    order = orders_its_seats (seats_in eligible) (differ_from eligible 1 10) (range_from eligible 1 10 (omega arith) (omega arith))

    nothing : (r : ℕ) → (sides_won (set_of (seats_in eligible)) 0 r == 0) ≡ true → of_part w units (set_of (seats_in eligible)) 0 (seats_in eligible) [] r ≡ 0
    nothing = nothing_won w units (set_of (seats_in eligible)) 0 (seats_in eligible) [] adds (λ seat out. order.each seat ∙ out) (λ seat out. refl)

    by : (b : Bool) → is_among q (seats_in eligible) ≡ b → of_part w units (set_of (seats_in eligible)) 0 (seats_in eligible) [] q ≡ pick b (w units 1)
    by true e =
        let mine : side_share units (seats_in eligible) q ≡ units = one_share units q (seats_in eligible) alone ∙ ap (λ b. pick b units) e in
        let all : side_share units (seats_in eligible) q + 0 ≡ units = omega (arith, mine) in
        let wins : has_player (set_of (seats_in eligible)) q ≡ true = sym (order.each q) ∙ e in
        let won : sides_won (set_of (seats_in eligible)) 0 q ≡ 1 = rw (wins, no_player q) refl in
        ap (λ u. w u (sides_won (set_of (seats_in eligible)) 0 q)) all ∙ ap (w units) won
    by false e =
        let loses : has_player (set_of (seats_in eligible)) q ≡ false = sym (order.each q) ∙ e in
        let won : (sides_won (set_of (seats_in eligible)) 0 q == 0) ≡ true = rw (loses, no_player q) refl in
        nothing q won

lone_among : (w : ℕ → ℕ → ℕ) (s : Showing) (eligible q : ℕ) (part : Part) → AddsUp w → is_alone eligible ≡ true → 1 ≤ q → q ≤ 10
    → gets w q (shares_among (is_alone eligible) s eligible part) ≡ pick (is_among q (seats_in eligible)) (w part.units 1)
lone_among w s eligible q part adds alone low high = ap (λ b. gets w q (shares_among b s eligible part)) alone ∙ lone_part w eligible q part.units adds alone low high

pub lone_parts : (w : ℕ → ℕ → ℕ) (s : Showing) (eligible q units : ℕ) (o : Option (List ℕ)) → AddsUp w → is_alone eligible ≡ true → 1 ≤ q → q ≤ 10
    → gets w q (shares_of_parts s eligible (parts_by o s.board units)) ≡ pick (is_among q (seats_in eligible)) (w units (length (parts_by o s.board units)))
lone_parts w s eligible q units None adds alone low high =
    let part : Part = record { units = units; board = s.board } in
    ap (gets w q) (append-nil (shares_among (is_alone eligible) s eligible part)) ∙ lone_among w s eligible q part adds alone low high
lone_parts w s eligible q units (Some second) adds alone low high =
    let up : Part = record { units = first_half units; board = s.board } in
    let down : Part = record { units = second_half units; board = second } in
    let mine = is_among q (seats_in eligible) in
    let whole : first_half units + second_half units ≡ units = omega arith in
    gets_both w q (shares_among (is_alone eligible) s eligible up) (shares_of_parts s eligible (down ∷ []))
    ∙ ap (λ m. m + gets w q (shares_of_parts s eligible (down ∷ []))) (lone_among w s eligible q up adds alone low high)
    ∙ ap (λ m. pick mine (w (first_half units) 1) + m) (ap (gets w q) (append-nil (shares_among (is_alone eligible) s eligible down)) ∙ lone_among w s eligible q down adds alone low high)
    ∙ sym (pick_both mine (w (first_half units) 1) (w (second_half units) 1))
    ∙ ap (pick mine) (sym (adds.both (first_half units) (second_half units) 1 1) ∙ ap (λ u. w u 2) whole)

-- what the code gives a seat is what the rules give it
lone_is : (eligible q : ℕ) → is_alone eligible ≡ true → 1 ≤ q → q ≤ 10 → is_lone eligible q ≡ is_among q (seats_in eligible)
lone_is eligible q alone low high =
    let some : nat_lt 0 q ≡ true = grind arith in
    let few : nat_lt q 11 ≡ true = grind arith in
    ap (λ b. b && nat_lt q 11 && has_player eligible q) alone ∙ ap (λ b. b && has_player eligible q) few
    ∙ sym (ap (λ b. b && has_player eligible q) some) ∙ sym (among_seats eligible q (omega (arith, high)))

not_more : (n : ℕ) → (n == 1) ≡ true → nat_lt 1 n ≡ false
not_more n one = grind (arith, one)

two_more : (n : ℕ) → 2 ≤ n → nat_lt 1 n ≡ true
two_more n more = grind (arith, more)

others_get : (w : ℕ → ℕ → ℕ) (s : Showing) (eligible units q : ℕ) (parts : List PartShare) → AddsUp w → is_alone eligible ≡ false → (checked : Bool) → parts ≡ part_shares_if (checked && is_contested eligible) s eligible units
    → gets_of w q parts ≡ gets w q (shares_if checked s eligible (parts_of s units))
others_get w s eligible units q parts adds others false is = ap (gets_of w q) is
others_get w s eligible units q parts adds others true is = by (how_many eligible others)
  where
    by : HowMany eligible → gets_of w q parts ≡ gets w q (shares_of_parts s eligible (parts_of s units))
    by (none e) =
        let no : is_contested eligible ≡ false = ap (λ xs. nat_lt 1 (length xs)) e in
        ap (gets_of w q) (is ∙ ap (λ b. part_shares_if b s eligible units) no) ∙ sym (ap (gets w q) (none_parts s eligible (parts_of s units) others e))
    by (many more) =
        let some : is_contested eligible ≡ true = two_more (length (seats_in eligible)) more in
        ap (gets_of w q) (is ∙ ap (λ b. part_shares_if b s eligible units) some) ∙ parts_get w q s eligible 1 (parts_of s units) adds others

dues_get : (w : ℕ → ℕ → ℕ) (s : Showing) (eligible units boards q : ℕ) (parts : List PartShare) → AddsUp w → boards ≡ length (parts_of s units)
    → parts ≡ part_shares_if (is_checked s eligible && is_contested eligible) s eligible units → 1 ≤ q → q ≤ 10
    → (if is_lone eligible q then w units boards else gets_of w q parts) ≡ gets w q (shares_if (is_checked s eligible) s eligible (parts_of s units))
dues_get w s eligible units boards q parts adds count is low high = by (is_alone eligible) refl
  where
    mine : Bool
    mine = is_among q (seats_in eligible)

    by : (b : Bool) → is_alone eligible ≡ b → (if is_lone eligible q then w units boards else gets_of w q parts) ≡ gets w q (shares_if (is_checked s eligible) s eligible (parts_of s units))
    by true alone =
        let known : true ≡ is_checked s eligible = checked_alone s eligible alone in
        let no : is_contested eligible ≡ false = not_more (length (seats_in eligible)) alone in
        let nothing : parts ≡ [] = is ∙ ap (λ b. part_shares_if (b && is_contested eligible) s eligible units) (sym known) ∙ ap (λ b. part_shares_if b s eligible units) no in
        ap (λ b. if b then w units boards else gets_of w q parts) (lone_is eligible q alone low high)
        ∙ ap (λ xs. if mine then w units boards else gets_of w q xs) nothing
        ∙ ap (λ n. pick mine (w units n)) count
        ∙ sym (lone_parts w s eligible q units s.second adds alone low high)
        ∙ ap (λ b. gets w q (shares_if b s eligible (parts_of s units))) known
    by false others =
        ap (λ b. if b && nat_lt q 11 && has_player eligible q then w units boards else gets_of w q parts) others
        ∙ others_get w s eligible units q parts adds others (is_checked s eligible) is

pub dues_are : (s : Showing) (eligible units boards : ℕ) (checked : Bool) (parts : List PartShare) → checked ≡ is_checked s eligible → boards ≡ length (parts_of s units)
    → parts ≡ part_shares_if (checked && is_contested eligible) s eligible units
    → AreDues (record { checked = checked; eligible = eligible; units = units; boards = boards; parts = parts }) s eligible units
dues_are s eligible units boards checked parts known count is =
    let are = is ∙ ap (λ b. part_shares_if (b && is_contested eligible) s eligible units) known in
    record {
      checked = known;
      parts = are;
      units = λ p low high. dues_get (λ u k. u) s eligible units boards p parts of_units count are low high;
      sides = λ p low high. dues_get (λ u k. k) s eligible units boards p parts of_sides count are low high;
    }
