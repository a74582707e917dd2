-- The order by marks lists the winners, each once.
use Rattle.std.proofs.Common.{◌≡◌, ◌≢◌, ℕ, zero, suc, length, length-append, ◌+◌, ◌-◌, ◌<◌, ◌≤◌, List, [], ◌∷◌, ◌++◌, refl, sym, ap, ◌∙◌, Bool, true, false, ◌==◌, ◌&&◌, ◌||◌, arith}
use Rattle.std.specs.Prelude.{count_by, nat_le, nat_lt, filter, if◌then◌else◌, Option}
use Rattle.std.proofs.lemmas.List.Sums.{count_by-le-length, length-filter}
use Rattle.std.specs.Int.{bit_at}
use Rattle.std.proofs.lemmas.List.Folds.{list_any-append}
use Rattle.std.proofs.lemmas.Nat.Bits.{bit_at-lt, bit_at-zero, same_from_bits}
use Rattle.card_sets.specs.PlayerSetLaws.{among-players_from}
use Rattle.card_sets.specs.PlayerSets.{seats_in}
use Rattle.card_sets.specs.Games.{has_marks}
use Rattle.pot_layers.specs.Split.{is_among, Differ, InRange, IsOrder}
use Rattle.card_sets.specs.declared.games.Game.{Game}
use Rattle.card_sets.specs.declared.games.Side.{Side}
use Rattle.hand_audit.specs.Settle.{Showing, mark_at, order_of}
use Rattle.hand_audit.specs.Orders.{odd_order, by_marks_below, by_marks, OfSeats}
use Rattle.hand_audit.proofs.lemmas.seats.SeatLists.{differ_from, range_from, differ_both, range_both, seat_of_bit}
use Rattle.hand_audit.proofs.lemmas.seats.FilteredSeats.{among_filter}
use Rattle.hand_audit.proofs.lemmas.seats.SeatSets.{few_seats}

by_part : (a b c d : Bool) → (a || b) ≡ c → ((d && a) || (d && b)) ≡ (d && c)
by_part a b c true e = e
by_part a b c false e = refl

up_to : (m n : ℕ) → ((m == n) || nat_lt m n) ≡ nat_lt m (suc n)
up_to m n = grind arith

-- a seat is in the order where it is among the seats and its mark is below
pub among_marks : (m : ℕ → ℕ) (xs : List ℕ) (n s : ℕ) → is_among s (by_marks_below m xs n) ≡ (is_among s xs && nat_lt (m s) n)
among_marks m xs zero s = let e : nat_lt (m s) 0 ≡ false = grind arith in rw e (off (is_among s xs))
  where
    off : (b : Bool) → false ≡ (b && false)
    off true = refl
    off false = refl
among_marks m xs (suc n) s =
    list_any-append (λ q. q == s) (filter (λ p. m p == n) xs) (by_marks_below m xs n)
    ∙ ap (λ b. b || is_among s (by_marks_below m xs n)) (among_filter (λ p. m p == n) xs s)
    ∙ ap (λ b. (is_among s xs && (m s == n)) || b) (among_marks m xs n s)
    ∙ by_part (m s == n) (nat_lt (m s) n) (nat_lt (m s) (suc n)) (is_among s xs) (up_to (m s) n)

range_filter : (f : ℕ → Bool) (xs : List ℕ) → InRange xs → InRange (filter f xs)
range_filter f [] r = tt
range_filter f (x ∷ xs) r = by (f x) (range_filter f xs r.2)
  where
    by : (b : Bool) → InRange (filter f xs) → InRange (if b then x ∷ filter f xs else filter f xs)
    by true rest = (r.0, r.1, rest)
    by false rest = rest

differ_filter : (f : ℕ → Bool) (xs : List ℕ) → Differ xs → Differ (filter f xs)
differ_filter f [] d = tt
differ_filter f (x ∷ xs) d = by (f x) (differ_filter f xs d.1)
  where
    by : (b : Bool) → Differ (filter f xs) → Differ (if b then x ∷ filter f xs else filter f xs)
    by true rest = (among_filter f xs x ∙ ap (λ b. b && f x) d.0, rest)
    by false rest = rest

range_marks : (m : ℕ → ℕ) (xs : List ℕ) (n : ℕ) → InRange xs → InRange (by_marks_below m xs n)
range_marks m xs zero r = tt
range_marks m xs (suc n) r = range_both _ _ (range_filter (λ p. m p == n) xs r) (range_marks m xs n r)

second_true : (a b : Bool) → (a && b) ≡ true → b ≡ true
second_true true b e = e
second_true false b e = cc

differ_marks : (m : ℕ → ℕ) (xs : List ℕ) (n : ℕ) → Differ xs → Differ (by_marks_below m xs n)
differ_marks m xs zero d = tt
differ_marks m xs (suc n) d = differ_both _ _ (differ_filter (λ p. m p == n) xs d) (differ_marks m xs n d) (λ s here. among_marks m xs n s ∙ other s (second_true (is_among s xs) (m s == n) (sym (among_filter (λ p. m p == n) xs s) ∙ here)))
  where
    off : (b : Bool) → (b && false) ≡ false
    off true = refl
    off false = refl

    other : (s : ℕ) → (m s == n) ≡ true → (is_among s xs && nat_lt (m s) n) ≡ false
    other s e = let f : nat_lt (m s) n ≡ false = grind arith in rw f (off (is_among s xs))

pub marked_ordered : (m : ℕ → ℕ) (w : ℕ) → ((p : ℕ) → p < 11 → m p < 52) → OfSeats w → IsOrder w (by_marks m (seats_in w))
unfolding by_marks
marked_ordered m w small of = record {
  once = differ_marks m (seats_in w) 52 (differ_from w 1 10);
  seats = range_marks m (seats_in w) 52 (range_from w 1 10 (omega arith) (omega arith));
  each = each;
  none = λ e. same_from_bits w 0 (λ i.
      let no : (bit_at w i == 1) ≡ false = sym (each i) ∙ ap (is_among i) e in
      let l = bit_at-lt w i in let z : bit_at w i ≡ 0 = grind (arith, l) in z ∙ sym (bit_at-zero i));
}
  where
    off : (a b c : Bool) → (a && b && false && c) ≡ false
    off true true c = refl
    off true false c = refl
    off false b c = refl

    by : (s : ℕ) (bit : Bool) → (bit_at w s == 1) ≡ bit → is_among s (by_marks_below m (seats_in w) 52) ≡ bit
    by s false e = among_marks m (seats_in w) 52 s ∙ ap (λ b. b && nat_lt (m s) 52) (among-players_from w 1 10 s) ∙ rw e (off (nat_le 1 s) (nat_lt s (1 + 10)) (nat_lt (m s) 52))
    by s true e =
        let seat = seat_of_bit w s of e in
        let low : nat_le 1 s ≡ true = (let l = seat.0 in grind arith) in
        let high : nat_lt s (1 + 10) ≡ true = (let l : s < 1 + 10 = omega (arith, seat.1) in grind arith) in
        let card : nat_lt (m s) 52 ≡ true = (let l : m s < 52 = small s seat.1 in grind arith) in
        among_marks m (seats_in w) 52 s ∙ ap (λ b. b && nat_lt (m s) 52) (among-players_from w 1 10 s) ∙ rw (e, low, high, card) refl

    each : (s : ℕ) → is_among s (by_marks_below m (seats_in w) 52) ≡ (bit_at w s == 1)
    each s = by s (bit_at w s == 1) refl

-- marks that are the same for each seat give the same order
same_filter : (f g : ℕ → Bool) (xs : List ℕ) → InRange xs → ((p : ℕ) → p < 11 → f p ≡ g p) → filter f xs ≡ filter g xs
same_filter f g [] r h = refl
same_filter f g (x ∷ xs) r h =
    let here : f x ≡ g x = h x (omega (arith, r.1)) in
    let rest : filter f xs ≡ filter g xs = same_filter f g xs r.2 h in
    rw (here, rest) refl

same_below : (m o : ℕ → ℕ) (xs : List ℕ) (n : ℕ) → InRange xs → ((p : ℕ) → p < 11 → m p ≡ o p) → by_marks_below m xs n ≡ by_marks_below o xs n
same_below m o xs zero r h = refl
same_below m o xs (suc n) r h =
    let here : filter (λ p. m p == n) xs ≡ filter (λ p. o p == n) xs = same_filter (λ p. m p == n) (λ p. o p == n) xs r (λ p l. ap (λ k. k == n) (h p l)) in
    let rest : by_marks_below m xs n ≡ by_marks_below o xs n = same_below m o xs n r h in
    rw (here, rest) refl

pub same_marks : (m o : ℕ → ℕ) (w : ℕ) → ((p : ℕ) → p < 11 → m p ≡ o p) → by_marks m (seats_in w) ≡ by_marks o (seats_in w)
unfolding by_marks
same_marks m o w h = same_below m o (seats_in w) 52 (range_from w 1 10 (omega arith) (omega arith)) h

pub room_left : (old new rest all : List ℕ) (p : ℕ) → new ++ p ∷ rest ≡ old ++ all → length old + length all ≤ 10 → length new < 10
room_left old new rest all p e room =
    let l : length new + suc (length rest) ≡ length old + length all = sym (length-append new (p ∷ rest)) ∙ ap length e ∙ length-append old all in
    omega (arith, l, room)

-- the order one mark further
pub marks_step : (m : ℕ → ℕ) (xs : List ℕ) (n : ℕ) → (n ≡ 0 → ⊥) → by_marks_below m xs n ≡ filter (λ p. m p == n - 1) xs ++ by_marks_below m xs (n - 1)
marks_step m xs zero some = absurd (some refl)
marks_step m xs (suc n) some = let e : suc n - 1 ≡ n = omega arith in rw e refl

pub room_first : (old a b all : List ℕ) → all ≡ a ++ b → length old + length all ≤ 10 → length old + length a ≤ 10
room_first old a b all e room = let l : length all ≡ length a + length b = ap length e ∙ length-append a b in omega (arith, l, room)

pub room_then : (old new a b all : List ℕ) → all ≡ a ++ b → new ≡ old ++ a → length old + length all ≤ 10 → length new + length b ≤ 10
room_then old new a b all e is room =
    let l : length all ≡ length a + length b = ap length e ∙ length-append a b in
    let k : length new ≡ length old + length a = ap length is ∙ length-append old a in omega (arith, l, k, room)

-- no more are in it than there are seats
passed : (m : ℕ → ℕ) (n x : ℕ) (a b c : ℕ) → a + b ≡ c → (f g h : Bool) → (m x == n) ≡ f → nat_lt (m x) n ≡ g → nat_lt (m x) (suc n) ≡ h → (if f then suc a else a) + (if g then suc b else b) ≡ (if h then suc c else c)
passed m n x a b c e true true h ef eg eh = let i : m x ≡ n = grind arith in let l : m x < n = grind arith in absurd (omega (arith, i, l))
passed m n x a b c e true false true ef eg eh = omega (arith, e)
passed m n x a b c e true false false ef eg eh = let i : m x ≡ n = grind arith in let l : suc n ≤ m x = grind arith in absurd (omega (arith, i, l))
passed m n x a b c e false true true ef eg eh = omega (arith, e)
passed m n x a b c e false true false ef eg eh = let i : m x < n = grind arith in let l : suc n ≤ m x = grind arith in absurd (omega (arith, i, l))
passed m n x a b c e false false true ef eg eh = let i : m x < suc n = grind arith in let l : n ≤ m x = grind arith in let ne : m x ≢ n = grind arith in absurd (omega (arith, i, l, ne))
passed m n x a b c e false false false ef eg eh = e

one_more : (b : Bool) (x : ℕ) (xs : List ℕ) → length (if b then x ∷ xs else xs) ≡ (if b then suc (length xs) else length xs)
one_more true x xs = refl
one_more false x xs = refl

split_filter : (m : ℕ → ℕ) (n : ℕ) (xs : List ℕ) → length (filter (λ p. m p == n) xs) + length (filter (λ p. nat_lt (m p) n) xs) ≡ length (filter (λ p. nat_lt (m p) (suc n)) xs)
split_filter m n [] = refl
split_filter m n (x ∷ xs) =
    rw (one_more (m x == n) x (filter (λ p. m p == n) xs), one_more (nat_lt (m x) n) x (filter (λ p. nat_lt (m p) n) xs), one_more (nat_lt (m x) (suc n)) x (filter (λ p. nat_lt (m p) (suc n)) xs))
    (passed m n x _ _ _ (split_filter m n xs) (m x == n) (nat_lt (m x) n) (nat_lt (m x) (suc n)) refl refl refl)

none_below : (m : ℕ → ℕ) (xs : List ℕ) → length (filter (λ p. nat_lt (m p) 0) xs) ≡ 0
none_below m [] = refl
none_below m (x ∷ xs) = let e : nat_lt (m x) 0 ≡ false = grind arith in rw e (none_below m xs)

length_marks : (m : ℕ → ℕ) (xs : List ℕ) (n : ℕ) → length (by_marks_below m xs n) ≡ length (filter (λ p. nat_lt (m p) n) xs)
length_marks m xs zero = sym (none_below m xs)
length_marks m xs (suc n) = length-append (filter (λ p. m p == n) xs) (by_marks_below m xs n) ∙ ap (λ k. length (filter (λ p. m p == n) xs) + k) (length_marks m xs n) ∙ split_filter m n xs

pub few_marked : (m : ℕ → ℕ) (w n : ℕ) → length (by_marks_below m (seats_in w) n) ≤ 10
few_marked m w n =
    let a : length (by_marks_below m (seats_in w) n) ≡ count_by (λ p. nat_lt (m p) n) (seats_in w) = length_marks m (seats_in w) n ∙ length-filter (λ p. nat_lt (m p) n) (seats_in w) in
    omega (arith, a, count_by-le-length (λ p. nat_lt (m p) n) (seats_in w), few_seats w)

pub by_marks_is : (m : ℕ → ℕ) (w : ℕ) (order : List ℕ) → order ≡ by_marks_below m (seats_in w) 52 → order ≡ by_marks m (seats_in w)
unfolding by_marks
by_marks_is m w order is = is

-- the order that the rules ask for
pub order_marked : (side : Option Side) (s : Showing) (board : List ℕ) (game : Game) (winners : ℕ) → has_marks game ≡ true → game ≡ s.game → by_marks (mark_at side s board) (seats_in winners) ≡ order_of side s board winners
unfolding order_of
order_marked side s board game winners marked same = let yes : has_marks s.game ≡ true = ap has_marks (sym same) ∙ marked in rw yes refl

pub order_seated : (side : Option Side) (s : Showing) (board : List ℕ) (game : Game) (winners button : ℕ) → has_marks game ≡ false → game ≡ s.game → button ≡ s.button → odd_order button winners ≡ order_of side s board winners
unfolding order_of
order_seated side s board game winners button marked same is = let not_so : has_marks s.game ≡ false = ap has_marks (sym same) ∙ marked in rw not_so (ap (λ b. odd_order b winners) is)
