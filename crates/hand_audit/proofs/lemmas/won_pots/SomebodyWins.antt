-- Where it is known who wins a part and somebody is eligible, somebody wins it: one hand has the greatest value.
use Rattle.std.proofs.Common.{◌≡◌, ℕ, ◌+◌, ◌<◌, ◌≤◌, List, [], ◌∷◌, refl, sym, ap, ◌∙◌, Bool, true, false, ◌==◌, ◌&&◌, ◌||◌, not, length, arith}
use Rattle.std.specs.Prelude.{Option, Some, None, is_some, unwrap_or, IfSome, map, nat_le, nat_lt}
use Rattle.std.specs.List.{list_all}
use Rattle.std.proofs.lemmas.List.{length-map}
use Rattle.card_sets.specs.PlayerSets.{seats_in}
use Rattle.card_sets.specs.Cards.{union}
use Rattle.card_sets.specs.Choose.{choose}
use Rattle.card_sets.specs.declared.games.Game.{Game}
use Rattle.card_sets.specs.declared.games.Game.TheVariants.{Holdem, Omaha, Omaha8, Stud, Stud8, Razz, Draw5, Lowball27, Triple27}
use Rattle.rank_low.specs.Low.{low_a5, low_27, least_of}
use Rattle.card_sets.proofs.CallerLemmas.{length-union, Apart-apart}
use Rattle.rank_low.proofs.CallerLemmas.{some-choice}
use Rattle.pot_layers.specs.Split.{InRange, is_among}
use Rattle.showdown_tally.specs.Laws.{IsFull}
use Rattle.showdown_tally.specs.Settling.{number_of}
use Rattle.hand_audit.specs.Settle.{Showing, value_on, worth_on, is_alone, is_checked, are_known, hand_of, first_winners, first_side}
use Rattle.hand_audit.specs.Winning.{AreFullOn, Ranks, is_beaten, is_unbeaten, is_seat_in, wins, winners_by}
use Rattle.hand_audit.proofs.lemmas.seats.SeatLists.{range_from}
use Rattle.hand_audit.proofs.lemmas.seats.SeatSets.{among_seats}
use Rattle.hand_audit.proofs.lemmas.splits.Winners.{side_told}
use Rattle.hand_audit.proofs.lemmas.splits.PartShares.{has_some}

-- whole hands have a value on the first side of their game
least_some : (ls : List (List ℕ)) → 0 < length ls → is_some (least_of ls) ≡ true
least_some [] h = absurd (omega arith)
least_some (l ∷ ls) h = refl

some_five : (n : ℕ) (game : Game) (own board : List ℕ) (f : List ℕ → List ℕ) → IsFull game own board → 5 ≤ length own + length board → is_some (least_of (map f (choose 5 (union own board)))) ≡ true
some_five n game own board f full enough =
    let size : length (union own board) ≡ length own + length board = length-union own board full.own_cards full.board_cards (Apart-apart own board full.apart) in
    let more : 0 < length (choose 5 (union own board)) = some-choice 5 (union own board) (omega (arith, size, enough)) in
    let mapped : length (map f (choose 5 (union own board))) ≡ length (choose 5 (union own board)) = length-map (choose 5 (union own board)) f in
    least_some (map f (choose 5 (union own board))) (omega (arith, more, mapped))

first_some : (game : Game) (own board : List ℕ) → IsFull game own board → is_some (value_on (first_side game) game board (Some own)) ≡ true
first_some Holdem own board full = refl
first_some Omaha own board full = refl
first_some Omaha8 own board full = refl
first_some Stud own board full = refl
first_some Draw5 own board full = refl
first_some Stud8 own board full = refl
first_some Razz own board full = some_five 5 Razz own board low_a5 full (omega (arith, full.own_size))
first_some Lowball27 own board full = some_five 5 Lowball27 own board low_27 full (omega (arith, full.own_size))
first_some Triple27 own board full = some_five 5 Triple27 own board low_27 full (omega (arith, full.own_size))

hand_some : (s : Showing) (board : List ℕ) (o : Option (List ℕ)) → is_some o ≡ true → IfSome o (λ own. IsFull s.game own board) → is_some (value_on (first_side s.game) s.game board o) ≡ true
hand_some s board None known full = cc
hand_some s board (Some own) known full = first_some s.game own board full

-- of some numbers one is the greatest
all_up : (f : ℕ → ℕ) (m n : ℕ) (xs : List ℕ) → m ≤ n → list_all (λ j. nat_le (f j) m) xs ≡ true → list_all (λ j. nat_le (f j) n) xs ≡ true
all_up f m n [] l all = refl
all_up f m n (x ∷ xs) l all = by (nat_le (f x) m) refl all (λ rest. all_up f m n xs l rest)
  where
    by : (b : Bool) → nat_le (f x) m ≡ b → (b && list_all (λ j. nat_le (f j) m) xs) ≡ true → (list_all (λ j. nat_le (f j) m) xs ≡ true → list_all (λ j. nat_le (f j) n) xs ≡ true)
        → (nat_le (f x) n && list_all (λ j. nat_le (f j) n) xs) ≡ true
    by true e rest later = let k : f x ≤ m = grind arith in let up : nat_le (f x) n ≡ true = (let u : f x ≤ n = omega (arith, k, l) in grind arith) in rw up (later rest)
    by false e rest later = cc

record Top (f : ℕ → ℕ) (xs : List ℕ) : Type 0 where
  seat : ℕ
  among : is_among seat xs ≡ true
  above : list_all (λ j. nat_le (f j) (f seat)) xs ≡ true

top_of : (f : ℕ → ℕ) (x : ℕ) (xs : List ℕ) → Top f (x ∷ xs)
top_of f x [] = record { seat = x; among = (let same : (x == x) ≡ true = grind arith in rw same refl); above = (let self : nat_le (f x) (f x) ≡ true = grind arith in rw self refl) }
top_of f x (y ∷ ys) = by (top_of f y ys) (nat_le (f x) (f (top_of f y ys).seat)) refl
  where
    or_true : (a b : Bool) → b ≡ true → (a || b) ≡ true
    or_true true b e = refl
    or_true false b e = e

    by : (rest : Top f (y ∷ ys)) (b : Bool) → nat_le (f x) (f rest.seat) ≡ b → Top f (x ∷ y ∷ ys)
    by rest true e = record { seat = rest.seat; among = or_true (x == rest.seat) (is_among rest.seat (y ∷ ys)) rest.among; above = rw e rest.above }
    by rest false e =
        let l : f rest.seat ≤ f x = grind arith in
        let same : (x == x) ≡ true = grind arith in
        let self : nat_le (f x) (f x) ≡ true = grind arith in
        record { seat = x; among = rw same refl; above = rw self (all_up f (f rest.seat) (f x) (y ∷ ys) l rest.above) }

-- what holds of all holds of one among them
all_at : (f : ℕ → Bool) (xs : List ℕ) (p : ℕ) → list_all f xs ≡ true → is_among p xs ≡ true → f p ≡ true
all_at f [] p all among = cc
all_at f (x ∷ xs) p all among = by (f x) (x == p) refl refl all among (λ rest here. all_at f xs p rest here)
  where
    by : (a b : Bool) → f x ≡ a → (x == p) ≡ b → (a && list_all f xs) ≡ true → (b || is_among p xs) ≡ true → (list_all f xs ≡ true → is_among p xs ≡ true → f p ≡ true) → f p ≡ true
    by true true e same rest here later = let i : x ≡ p = grind arith in ap f (sym i) ∙ e
    by true false e other rest here later = later rest here
    by false b e other rest here later = cc

range_at : (xs : List ℕ) (p : ℕ) → InRange xs → is_among p xs ≡ true → p < 11
range_at [] p r among = cc
range_at (x ∷ xs) p r among = by (x == p) refl among (λ here. range_at xs p r.2 here)
  where
    by : (b : Bool) → (x == p) ≡ b → (b || is_among p xs) ≡ true → (is_among p xs ≡ true → p < 11) → p < 11
    by true e here later = let i : x ≡ p = grind arith in omega (arith, i, r.1)
    by false e here later = later here

-- the number of a seat, 0 for none
kept : List (Option ℕ) → ℕ → ℕ
kept values p = unwrap_or (number_of values p) 0

not_beaten : (mine other : Option ℕ) → nat_le (unwrap_or other 0) (unwrap_or mine 0) ≡ true → not (is_beaten mine other) ≡ true
not_beaten None other l = refl
not_beaten (Some mine) None l = refl
not_beaten (Some mine) (Some other) l = let no_less : nat_lt mine other ≡ false = grind arith in ap not no_less

unbeaten : (values : List (Option ℕ)) (p : ℕ) (xs : List ℕ) → list_all (λ j. nat_le (kept values j) (kept values p)) xs ≡ true → list_all (λ q. not (is_beaten (number_of values p) (number_of values q))) xs ≡ true
unfolding kept
unbeaten values p [] all = refl
unbeaten values p (x ∷ xs) all = by (nat_le (kept values x) (kept values p)) refl all (λ rest. unbeaten values p xs rest)
  where
    by : (b : Bool) → nat_le (kept values x) (kept values p) ≡ b → (b && list_all (λ j. nat_le (kept values j) (kept values p)) xs) ≡ true
        → (list_all (λ j. nat_le (kept values j) (kept values p)) xs ≡ true → list_all (λ q. not (is_beaten (number_of values p) (number_of values q))) xs ≡ true)
        → (not (is_beaten (number_of values p) (number_of values x)) && list_all (λ q. not (is_beaten (number_of values p) (number_of values q))) xs) ≡ true
    by true e rest later = let here : not (is_beaten (number_of values p) (number_of values x)) ≡ true = not_beaten (number_of values p) (number_of values x) e in rw here (later rest)
    by false e rest later = cc

-- the seat with the greatest number wins
top_wins : (values : List (Option ℕ)) (eligible : ℕ) (top : Top (kept values) (seats_in eligible)) → is_some (number_of values top.seat) ≡ true → wins values eligible top.seat ≡ true
unfolding wins
top_wins values eligible top some =
    let p = top.seat in
    let l : p < 11 = range_at (seats_in eligible) p (range_from eligible 1 10 (omega arith) (omega arith)) top.among in
    let here : is_seat_in eligible p ≡ true = sym (among_seats eligible p l) ∙ top.among in
    ap (λ b. b && is_some (number_of values p) && is_unbeaten values eligible (number_of values p)) here
    ∙ ap (λ b. b && is_unbeaten values eligible (number_of values p)) some
    ∙ unbeaten values p (seats_in eligible) top.above

known_all : (s : Showing) (eligible : ℕ) → is_checked s eligible ≡ true → is_alone eligible ≡ false → are_known s eligible ≡ true
unfolding is_checked
known_all s eligible checked others = sym (ap (λ b. b || are_known s eligible) others) ∙ checked

top_among : (f : ℕ → ℕ) (xs : List ℕ) → 2 ≤ length xs → Top f xs
top_among f [] more = absurd (omega arith)
top_among f (x ∷ xs) more = top_of f x xs

winners_some : (values : List (Option ℕ)) (eligible p : ℕ) → p < 11 → wins values eligible p ≡ true → 0 < winners_by values eligible
unfolding winners_by
winners_some values eligible p l won = has_some (wins values eligible) p l won

-- somebody wins a part of a pot of which it is known who wins, where somebody is eligible
pub some_win : (values : List (Option ℕ)) (s : Showing) (board : List ℕ) (eligible : ℕ) → Ranks (first_side s.game) values (worth_on (first_side s.game) s board) → AreFullOn s board
    → is_checked s eligible ≡ true → is_alone eligible ≡ false → 2 ≤ length (seats_in eligible) → first_winners s board eligible ≡ 0 → ⊥
unfolding first_winners
some_win values s board eligible ranks full checked others more nobody =
    let xs = seats_in eligible in
    let top = top_among (kept values) xs more in
    let p = top.seat in
    let l : p < 11 = range_at xs p (range_from eligible 1 10 (omega arith) (omega arith)) top.among in
    let known : is_some (hand_of s p) ≡ true = all_at (λ q. is_some (hand_of s q)) xs p (known_all s eligible checked others) top.among in
    let some : is_some (number_of values p) ≡ true = ranks.some p l ∙ hand_some s board (hand_of s p) known (full p l) in
    let won : 0 < winners_by values eligible = winners_some values eligible p l (top_wins values eligible top some) in
    let same : winners_by values eligible ≡ 0 = side_told (first_side s.game) values s board eligible ranks ∙ nobody in
    omega (arith, won, same)
