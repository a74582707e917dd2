-- The cards known at the all-in of an accepted hand make a table.
use Rattle.std.proofs.Common.{◌≡◌, ℕ, zero, suc, ◌+◌, ◌-◌, ◌^◌, ◌<◌, ◌≤◌, List, [], ◌∷◌, ◌++◌, refl, sym, ap, ◌∙◌, Bool, true, false, ◌==◌, ◌&&◌, length, map, drop, arith}
use Rattle.std.specs.Prelude.{Some, replicate, nat_le, nat_lt, if◌then◌else◌}
use Rattle.std.proofs.lemmas.Nat.{pow_pos}
use Rattle.std.specs.Int.{bit_at}
use Rattle.std.specs.List.{list_all}
use Rattle.card_sets.specs.PlayerSets.{all_within, players_from, seats_in}
use Rattle.card_sets.specs.Disjoint.{apart, all_apart, all_empty}
use Rattle.card_sets.specs.Games.{own_size, board_size, all_fit}
use Rattle.card_sets.specs.declared.games.Game.{Game}
use Rattle.card_sets.specs.declared.streets.Street.{Street}
use Rattle.hand_events.specs.declared.events.Header.{Header}
use Rattle.hand_events.specs.declared.events.Event.{Event}
use Rattle.betting_replay.specs.declared.points.Point.{Point}
use Rattle.betting_replay.specs.Boards.{board_up_to}
use Rattle.betting_replay.specs.CardLaws.{PlacesAreApart, CardsBelong, Among, HasBoard}
use Rattle.betting_replay.specs.Known.{cards_at}
use Rattle.betting_replay.specs.Places.{owned}
use Rattle.betting_replay.specs.TableAfter.{point, dead_cards}
use Rattle.card_sets.proofs.CallerLemmas.{apart-Apart, from_apart}
use Rattle.betting_replay.proofs.CallerLemmas.{apart_among}
use Rattle.hand_audit.specs.KnownTables.{ten, places_in}
use Rattle.hand_audit.proofs.CallerLemmas.{places_small}

-- of the seats of a set
walked : (w p n : ℕ) (known test : ℕ → Bool) → 1 ≤ p → p + n ≤ 11 → ((q : ℕ) → p ≤ q → q ≤ 10 → (bit_at w q == 1) ≡ true → known q ≡ true → test q ≡ true)
    → list_all known (players_from w p n) ≡ true → list_all test (players_from w p n) ≡ true
walked w p zero known test low high each all = refl
walked w p (suc n) known test low high each all = by (bit_at w p == 1) refl all (walked w (p + 1) n known test (omega arith) (omega arith) (λ q l m. each q (omega (arith, l)) m))
  where
    here : (b : Bool) → known p ≡ b → (bit_at w p == 1) ≡ true → (b && list_all known (players_from w (p + 1) n)) ≡ true
        → (list_all known (players_from w (p + 1) n) ≡ true → list_all test (players_from w (p + 1) n) ≡ true) → (test p && list_all test (players_from w (p + 1) n)) ≡ true
    here true k set rest later = let t : test p ≡ true = each p (omega arith) (omega (arith, high)) set k in rw t (later rest)
    here false k set rest later = cc

    by : (b : Bool) → (bit_at w p == 1) ≡ b → list_all known (if b then p ∷ players_from w (p + 1) n else players_from w (p + 1) n) ≡ true
        → (list_all known (players_from w (p + 1) n) ≡ true → list_all test (players_from w (p + 1) n) ≡ true) → list_all test (if b then p ∷ players_from w (p + 1) n else players_from w (p + 1) n) ≡ true
    by true set all later = here (known p) refl set all later
    by false set all later = later all

all_mapped : (f : ℕ → List ℕ) (test : List ℕ → Bool) (xs : List ℕ) → list_all (λ q. test (f q)) xs ≡ list_all test (map f xs)
all_mapped f test [] = refl
all_mapped f test (x ∷ xs) = ap (λ b. test (f x) && b) (all_mapped f test xs)

-- and in ten places
all_none : {A : Type 0} → (none : A) (test : A → Bool) (n : ℕ) → test none ≡ true → list_all test (replicate n none) ≡ true
all_none none test zero t = refl
all_none none test (suc n) t = rw t (all_none none test n t)

all_with : {A : Type 0} → (none : A) (test : A → Bool) (xs : List A) (n : ℕ) → test none ≡ true → list_all test xs ≡ true → list_all test (xs ++ replicate n none) ≡ true
all_with none test [] n t all = all_none none test n t
all_with none test (x ∷ xs) n t all = by (test x) all (all_with none test xs n t)
  where
    by : (b : Bool) → (b && list_all test xs) ≡ true → (list_all test xs ≡ true → list_all test (xs ++ replicate n none) ≡ true) → (b && list_all test (xs ++ replicate n none)) ≡ true
    by true rest later = later rest
    by false rest later = cc

all_ten : {A : Type 0} → (none : A) (test : A → Bool) (xs : List A) → test none ≡ true → list_all test xs ≡ true → list_all test (ten none xs) ≡ true
unfolding ten
all_ten none test xs t all = all_with none test xs (10 - length xs) t all

apart_none : (cards : List ℕ) → apart cards [] ≡ true
apart_none cards = apart-Apart cards [] (λ k a b. cc)

none_apart : (n : ℕ) → all_apart (replicate n []) ≡ true
none_apart zero = refl
none_apart (suc n) = let a : list_all (apart []) (replicate n []) ≡ true = all_none [] (apart []) n refl in rw a (none_apart n)

apart_with : (xs : List (List ℕ)) (n : ℕ) → all_apart xs ≡ true → all_apart (xs ++ replicate n []) ≡ true
apart_with [] n all = none_apart n
apart_with (x ∷ xs) n all = by (list_all (apart x) xs) refl all (apart_with xs n)
  where
    by : (b : Bool) → list_all (apart x) xs ≡ b → (b && all_apart xs) ≡ true → (all_apart xs ≡ true → all_apart (xs ++ replicate n []) ≡ true) → (list_all (apart x) (xs ++ replicate n []) && all_apart (xs ++ replicate n [])) ≡ true
    by true e rest later = let a : list_all (apart x) (xs ++ replicate n []) ≡ true = all_with [] (apart x) xs n (apart_none x) e in rw a (later rest)
    by false e rest later = cc

pub apart_ten : (xs : List (List ℕ)) → all_apart xs ≡ true → all_apart (ten [] xs) ≡ true
unfolding ten
apart_ten xs all = apart_with xs (10 - length xs) all

-- the hands of different seats share no card
seats_apart : (f : ℕ → List ℕ) (w p n : ℕ) (known : ℕ → Bool) → 1 ≤ p → p + n ≤ 11
    → ((q r : ℕ) → 1 ≤ q → q < r → r ≤ 10 → known q ≡ true → known r ≡ true → apart (f q) (f r) ≡ true)
    → list_all known (players_from w p n) ≡ true → all_apart (map f (players_from w p n)) ≡ true
seats_apart f w p zero known low high each all = refl
seats_apart f w p (suc n) known low high each all =
    by (bit_at w p == 1) all (seats_apart f w (p + 1) n known (omega arith) (omega arith) each)
    (λ k. walked w (p + 1) n known (λ q. apart (f p) (f q)) (omega arith) (omega arith) (λ q l m set kq. each p q low (omega (arith, l)) m k kq))
  where
    here : (b : Bool) → known p ≡ b → (b && list_all known (players_from w (p + 1) n)) ≡ true
        → (list_all known (players_from w (p + 1) n) ≡ true → all_apart (map f (players_from w (p + 1) n)) ≡ true)
        → (known p ≡ true → list_all known (players_from w (p + 1) n) ≡ true → list_all (λ q. apart (f p) (f q)) (players_from w (p + 1) n) ≡ true)
        → (list_all (apart (f p)) (map f (players_from w (p + 1) n)) && all_apart (map f (players_from w (p + 1) n))) ≡ true
    here true k rest later first = let a : list_all (apart (f p)) (map f (players_from w (p + 1) n)) ≡ true = sym (all_mapped f (apart (f p)) (players_from w (p + 1) n)) ∙ first k rest in rw a (later rest)
    here false k rest later first = cc

    by : (b : Bool) → list_all known (if b then p ∷ players_from w (p + 1) n else players_from w (p + 1) n) ≡ true
        → (list_all known (players_from w (p + 1) n) ≡ true → all_apart (map f (players_from w (p + 1) n)) ≡ true)
        → (known p ≡ true → list_all known (players_from w (p + 1) n) ≡ true → list_all (λ q. apart (f p) (f q)) (players_from w (p + 1) n) ≡ true)
        → all_apart (map f (if b then p ∷ players_from w (p + 1) n else players_from w (p + 1) n)) ≡ true
    by true all later first = here (known p) refl all later first
    by false all later first = later all

-- after them there are none
drop_all : {A : Type 0} (xs ys : List A) → drop (length xs) (xs ++ ys) ≡ ys
drop_all [] ys = refl
drop_all (x ∷ xs) ys = drop_all xs ys

pub empty_behind : (xs : List (List ℕ)) → all_empty (drop (length xs) (ten [] xs)) ≡ true
unfolding ten
empty_behind xs = ap all_empty (drop_all xs (replicate (10 - length xs) [])) ∙ all_none [] (λ s. nat_le (length s) 0) (10 - length xs) refl

-- no hand is eligible that there isn't
within_mapped : (seats : List ℕ) (all : List ℕ) → list_all (λ mask. nat_lt mask (2 ^ length seats)) (map (places_in seats) all) ≡ true
within_mapped seats [] = refl
within_mapped seats (set ∷ all) =
    let small : places_in seats set < 2 ^ length seats = places_small seats set in
    let t : nat_lt (places_in seats set) (2 ^ length seats) ≡ true = grind arith in rw t (within_mapped seats all)

pub within_ten : (seats all : List ℕ) → all_within (length seats) (ten 0 (map (places_in seats) all)) ≡ true
within_ten seats all =
    let none : nat_lt 0 (2 ^ length seats) ≡ true = (let l : 0 < 2 ^ length seats = positive (length seats) in grind arith) in
    all_ten 0 (λ mask. nat_lt mask (2 ^ length seats)) (map (places_in seats) all) none (within_mapped seats all)
  where
    positive : (n : ℕ) → 0 < 2 ^ n
    positive n = pow_pos n

lower : (q r : ℕ) → q < r → (q == r) ≡ false
lower q r less = grind arith

at_most : (m n : ℕ) → m ≤ n → nat_le m n ≡ true
at_most m n l = grind arith

-- what is known at a point is apart, and no more than there may be
pub record Stands (game : Game) (hands : List (List ℕ)) (board dead : List ℕ) : Type 0 where
  pub disjoint : all_apart (board ∷ dead ∷ ten [] hands) ≡ true
  pub fitting : all_fit game board (ten [] hands) ≡ true

pub stands : PlacesAreApart → (g : Header) (players : ℕ) (h : List Event) (found : Point) (street : Street) (f : ℕ → List ℕ) (known : ℕ → Bool) → CardsBelong g players h → HasBoard g players h → point g players h ≡ Some found
    → ((p : ℕ) → 1 ≤ p → p ≤ 10 → known p ≡ true → cards_at g h p street ≡ Some (f p)) → list_all known (seats_in found.contenders) ≡ true
    → Stands g.game (map f (seats_in found.contenders)) (board_up_to h street) (dead_cards g players h)
stands places g players h found street f known belong boards at each all = record {
  disjoint = rw (board_dead, board_hands, dead_hands) (apart_ten (map f (seats_in found.contenders)) (seats_apart f found.contenders 1 10 known (omega arith) (omega arith) two all));
  fitting = rw (board_few, hands_few) refl;
}
  where
    board : List ℕ
    board = board_up_to h street

    out : List ℕ
    out = dead_cards g players h

    on_board : Among (board_up_to h street) (owned g.game h 0)
    on_board = belong.board street

    of_seat : (p : ℕ) → 1 ≤ p → p ≤ 10 → known p ≡ true → Among (f p) (owned g.game h p)
    of_seat p l m k = belong.known p street (f p) (each p l m k)

    two : (q r : ℕ) → 1 ≤ q → q < r → r ≤ 10 → known q ≡ true → known r ≡ true → apart (f q) (f r) ≡ true
    two q r l less m kq kr = let ne : (q == r) ≡ false = lower q r less in apart_among (f q) (f r) (owned g.game h q) (owned g.game h r) (of_seat q l (omega (arith, less, m)) kq) (of_seat r (omega (arith, l, less)) m kr) (places g.game h q r ne)

    board_dead : apart (board_up_to h street) (dead_cards g players h) ≡ true
    board_dead = apart-Apart (board_up_to h street) (dead_cards g players h) (λ k b d. from_apart (dead_cards g players h) (owned g.game h 0) k belong.dead_and_board d (on_board.each k b))

    board_hands : list_all (apart (board_up_to h street)) (ten [] (map f (seats_in found.contenders))) ≡ true
    board_hands = all_ten [] (apart (board_up_to h street)) (map f (seats_in found.contenders)) (apart_none (board_up_to h street))
        (sym (all_mapped f (apart (board_up_to h street)) (seats_in found.contenders)) ∙ walked found.contenders 1 10 known (λ q. apart (board_up_to h street) (f q)) (omega arith) (omega arith)
        (λ q l m set k. let ne : (0 == q) ≡ false = lower 0 q (omega (arith, l)) in apart_among (board_up_to h street) (f q) (owned g.game h 0) (owned g.game h q) on_board (of_seat q l m k) (places g.game h 0 q ne)) all)

    dead_hands : list_all (apart (dead_cards g players h)) (ten [] (map f (seats_in found.contenders))) ≡ true
    dead_hands = all_ten [] (apart (dead_cards g players h)) (map f (seats_in found.contenders)) (apart_none (dead_cards g players h))
        (sym (all_mapped f (apart (dead_cards g players h)) (seats_in found.contenders)) ∙ walked found.contenders 1 10 known (λ q. apart (dead_cards g players h) (f q)) (omega arith) (omega arith)
        (λ q l m set k. belong.dead_and_known found at q set street (f q) (each q l m k)) all)

    board_few : nat_le (length (board_up_to h street)) (board_size g.game) ≡ true
    board_few = at_most (length (board_up_to h street)) (board_size g.game) (boards.few street)

    few : (q : ℕ) → 1 ≤ q → q ≤ 10 → known q ≡ true → nat_le (length (f q)) (own_size g.game) ≡ true
    few q l m k = at_most (length (f q)) (own_size g.game) (belong.few q street (f q) (each q l m k))

    hands_few : list_all (λ hand. nat_le (length hand) (own_size g.game)) (ten [] (map f (seats_in found.contenders))) ≡ true
    hands_few = all_ten [] (λ hand. nat_le (length hand) (own_size g.game)) (map f (seats_in found.contenders)) (at_most 0 (own_size g.game) (omega arith))
        (sym (all_mapped f (λ hand. nat_le (length hand) (own_size g.game)) (seats_in found.contenders)) ∙ walked found.contenders 1 10 known (λ q. nat_le (length (f q)) (own_size g.game)) (omega arith) (omega arith) (λ q l m set k. few q l m k) all)
