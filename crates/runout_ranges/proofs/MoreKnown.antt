-- Where no less is known there are no more runouts: `law_no_more_runouts`.
use Rattle.std.proofs.Common.{◌≡◌, ℕ, zero, suc, ◌+◌, ◌-◌, ◌*◌, ◌<◌, ◌≤◌, ◌||◌, ◌&&◌, not, Bool, true, false, List, [], ◌∷◌, ◌++◌, refl, sym, ap, ◌∙◌, subst, inl, inr, length, length-append, sum, take, arith}
use Rattle.std.specs.Prelude.{nat_le, slice_index_or}
use Rattle.std.specs.List.{list_all, list_any}
use Rattle.std.proofs.lemmas.Bool.{and_parts, cases_lt}
use Rattle.std.proofs.lemmas.List.Sums.{sum_by-cons}
use Rattle.std.proofs.lemmas.Nat.{mul-le}
use mathlib.Core.Bool.{true≢false}
use Rattle.card_sets.specs.Bits.{cards_where_same, has-cards_where, IsCardSet-cards_where}
use Rattle.card_sets.specs.Cards.{cards_where, cards_below, has_card, union, IsCardSet, IsRising}
use Rattle.card_sets.specs.Disjoint.{all_apart, apart}
use Rattle.card_sets.specs.Games.{all_fit, board_size, own_size}
use Rattle.card_sets.specs.Rising.{IsCardSet-rising, IsRising-cards_where}
use Rattle.card_sets.specs.State.{State}
use Rattle.card_sets.specs.declared.games.Game.{Game}
use Rattle.card_sets.proofs.CallerLemmas.{from_apart, has_card-bound, length-union}
use Rattle.runout_ranges.specs.MoreKnown.{IsEnough, HasNoMoreRunouts, KnowsNoLess}
use Rattle.runout_ranges.specs.Slots.{counts_of, hand_slots, slot_of, slots, unseen}
use Rattle.runout_ranges.specs.Ways.{binomial, ways}
use Rattle.runout_ranges.specs.declared.shapes.Receiver.{Receiver}
use Rattle.runout_ranges.specs.declared.shapes.Receiver.TheVariants.{Board, Hand}
use Rattle.runout_ranges.specs.declared.shapes.Slot.{Slot}
use Rattle.runout_ranges.proofs.ListingLength.{binomial_none, length_runouts}

-- choices of one card more out of one card more are no fewer
binomial_up : (k n m : ℕ) → binomial n m ≤ binomial (k + n) (k + m)
binomial_up zero n m =
    let a : 0 + n ≡ n = omega arith in
    let b : 0 + m ≡ m = omega arith in
    rw (a, b) (omega arith)
binomial_up (suc k) n m =
    let a : suc k + n ≡ suc (k + n) = omega arith in
    let b : suc k + m ≡ suc (k + m) = omega arith in
    rw (a, b) (omega (arith, binomial_up k n m))

-- nor are those out of more cards
binomial_wider : (n m k : ℕ) → n ≤ m → binomial n k ≤ binomial m k
binomial_wider n m zero h = omega arith
binomial_wider zero m (suc k) h = omega arith
binomial_wider (suc n) zero (suc k) h = absurd (omega arith)
binomial_wider (suc n) (suc m) (suc k) h = omega (arith, binomial_wider n m k (omega arith), binomial_wider n m (suc k) (omega arith))

binomial_fewer : (u v n m : ℕ) → m ≤ n → v + n ≤ u + m → binomial v m ≤ binomial u n
binomial_fewer u v n m less h =
    let size : (n - m) + m ≡ n = omega arith in
    let up : binomial v m ≤ binomial ((n - m) + v) ((n - m) + m) = binomial_up (n - m) v m in
    let wider : binomial ((n - m) + v) n ≤ binomial u n = binomial_wider ((n - m) + v) u n (omega arith) in
    omega (arith, up, wider, ap (λ k. binomial ((n - m) + v) k) size)

-- how many cards hands lack, and how many they have
abbrev lacks : ℕ → List (List ℕ) → ℕ
lacks size [] = 0
lacks size (x ∷ xs) = (size - length x) + lacks size xs

abbrev has : List (List ℕ) → ℕ
has [] = 0
has (x ∷ xs) = length x + has xs

sum_slot : (r : Receiver) (n : ℕ) (rest : List Slot) → sum (counts_of (slot_of r n ++ rest)) ≡ n + sum (counts_of rest)
sum_slot r zero rest = omega arith
sum_slot r (suc n) rest = sum_by-cons (λ k. k) (suc n) (counts_of rest)

sum_hands : (size number : ℕ) (xs : List (List ℕ)) → sum (counts_of (hand_slots size number xs)) ≡ lacks size xs
sum_hands size number [] = refl
sum_hands size number (x ∷ xs) = omega (arith, sum_slot (Hand number) (size - length x) (hand_slots size (number + 1) xs), sum_hands size (number + 1) xs)

ways_slot : (u : ℕ) (r : Receiver) (n : ℕ) (rest : List Slot) → ways u (counts_of (slot_of r n ++ rest)) ≡ binomial u n * ways (u - n) (counts_of rest)
ways_slot u r zero rest =
    let none : u - 0 ≡ u = omega arith in
    rw none (omega arith)
ways_slot u r (suc n) rest = refl

-- one slot and those after it, where the other state lacks no more in the slot or after it
fewer_ways : (u v n m more less : ℕ) (before after : List Slot) → m ≤ n → less ≤ more → v + (n + more) ≤ u + (m + less)
    → ((v - m) + more ≤ (u - n) + less → ways (v - m) (counts_of after) ≤ ways (u - n) (counts_of before))
    → binomial v m * ways (v - m) (counts_of after) ≤ binomial u n * ways (u - n) (counts_of before)
fewer_ways u v n m more less before after a b h rest = elim (cases_lt v m) [
  | inl short ↦
      let none : binomial v m ≡ 0 = binomial_none v m short in
      rw none (omega arith)
  | inr enough ↦ mul-le (binomial v m) (ways (v - m) (counts_of after)) (binomial u n) (ways (u - n) (counts_of before)) (binomial_fewer u v n m a (omega arith)) (rest (omega arith))
]

-- what each of some hands has, as the lists have it
abbrev AreNoShorter : List (List ℕ) → List (List ℕ) → Type 0
AreNoShorter xs ys = (h : ℕ) → length (slice_index_or xs h []) ≤ length (slice_index_or ys h [])

later_hands : (x y : List ℕ) (xs ys : List (List ℕ)) → AreNoShorter (x ∷ xs) (y ∷ ys) → AreNoShorter xs ys
later_hands x y xs ys more h = more (suc h)

lacks_less : (size : ℕ) (xs ys : List (List ℕ)) → length ys ≡ length xs → AreNoShorter xs ys → lacks size ys ≤ lacks size xs
lacks_less size [] [] e more = omega arith
lacks_less size [] (y ∷ ys) e more = absurd (omega (arith, e))
lacks_less size (x ∷ xs) [] e more = absurd (omega (arith, e))
lacks_less size (x ∷ xs) (y ∷ ys) e more =
    let first : length x ≤ length y = more zero in
    omega (arith, first, lacks_less size xs ys (omega (arith, e)) (later_hands x y xs ys more))

hands_fewer : (size number u v : ℕ) (xs ys : List (List ℕ)) → length ys ≡ length xs → AreNoShorter xs ys → v + lacks size xs ≤ u + lacks size ys
    → ways v (counts_of (hand_slots size number ys)) ≤ ways u (counts_of (hand_slots size number xs))
hands_fewer size number u v [] [] e more h = omega arith
hands_fewer size number u v [] (y ∷ ys) e more h = absurd (omega (arith, e))
hands_fewer size number u v (x ∷ xs) [] e more h = absurd (omega (arith, e))
hands_fewer size number u v (x ∷ xs) (y ∷ ys) e more h =
    let first : length x ≤ length y = more zero in
    let same : length ys ≡ length xs = omega (arith, e) in
    let later = later_hands x y xs ys more in
    let a = ways_slot u (Hand number) (size - length x) (hand_slots size (number + 1) xs) in
    let b = ways_slot v (Hand number) (size - length y) (hand_slots size (number + 1) ys) in
    let c = fewer_ways u v (size - length x) (size - length y) (lacks size xs) (lacks size ys) (hand_slots size (number + 1) xs) (hand_slots size (number + 1) ys)
    (omega (arith, first)) (lacks_less size xs ys same later) h
    (λ l. hands_fewer size (number + 1) (u - (size - length x)) (v - (size - length y)) xs ys same later l) in
    omega (arith, a, b, c)

-- the cards in none of some sets
abbrev in_none : List (List ℕ) → ℕ → Bool
in_none sets c = not (list_any (λ s. has_card s c) sets)

abbrev all_sets : List (List ℕ) → Type 0
all_sets [] = Unit {0}
all_sets (s ∷ sets) = IsCardSet s × all_sets sets

beside : (s : List ℕ) (sets : List (List ℕ)) (k : ℕ) → list_all (apart s) sets ≡ true → has_card s k ≡ true → in_none sets k ≡ true
beside s [] k h here = refl
beside s (t ∷ sets) k h here =
    let parts = and_parts (apart s t) (list_all (apart s) sets) h in
    by (has_card t k) refl parts.0 (beside s sets k parts.1 here)
  where
    by : (b : Bool) → has_card t k ≡ b → apart s t ≡ true → in_none sets k ≡ true → not (b || list_any (λ s. has_card s k) sets) ≡ true
    by true held off rest = absurd (from_apart s t k off here held)
    by false held off rest = rest

joined : (x y : Bool) → (x ≡ true → y ≡ true) → (x || (not x && y)) ≡ y
joined true y h = sym (h refl)
joined false true h = refl
joined false false h = refl

off : (x y : Bool) → not (x || y) ≡ (not x && not y)
off true y = refl
off false y = refl

whole_deck : (n : ℕ) → length (cards_below (λ k. true) n) ≡ n
whole_deck zero = refl
whole_deck (suc n) = omega (arith, length-append (cards_below (λ k. true) n) (n ∷ []), whole_deck n)

no_set : length (cards_where (in_none [])) ≡ 52
unfolding cards_where
no_set = whole_deck 52

-- all cards are in one of some sets that are apart, or in none
parted : (sets : List (List ℕ)) → all_sets sets → all_apart sets ≡ true → length (cards_where (in_none sets)) + has sets ≡ 52
parted [] all h = omega (arith, no_set)
parted (s ∷ sets) all h =
    let parts = and_parts (list_all (apart s) sets) (all_apart sets) h in
    let left : List ℕ = cards_where (in_none (s ∷ sets)) in
    let is : (k : ℕ) → k < 52 → has_card left k ≡ (not (has_card s k) && in_none sets k)
    = (λ k l. has-cards_where (in_none (s ∷ sets)) k l ∙ off (has_card s k) (list_any (λ t. has_card t k) sets)) in
    let same : union s left ≡ cards_where (in_none sets) = cards_where_same _ _ (λ k l.
    ap (λ b. has_card s k || b) (is k l) ∙ joined (has_card s k) (in_none sets k) (λ here. beside s sets k parts.0 here)) in
    let both : length (union s left) ≡ length s + length left = length-union s left all.0 (IsCardSet-cards_where (in_none (s ∷ sets))) (λ k here there. split (has_card s k) (in_none sets k) here (sym (is k (has_card-bound 0 s k (IsCardSet-rising s all.0) here)) ∙ there)) in
    omega (arith, ap length same, both, parted sets all.1 parts.1)
  where
    split : (b y : Bool) → b ≡ true → (not b && y) ≡ true → ⊥
    split true y here there = true≢false (sym there)
    split false y here there = true≢false (sym here)

-- of the hands of a state the board and the dead cards are apart too
few_hands : (board dead : List ℕ) (hands : List (List ℕ)) → length (cards_where (λ c. not (has_card board c) && not (has_card dead c) && not (list_any (λ hand. has_card hand c) hands))) ≡ length (cards_where (in_none (board ∷ dead ∷ hands)))
few_hands board dead hands = ap length (cards_where_same _ _ (λ k l. grouped (has_card board k) (has_card dead k) (list_any (λ s. has_card s k) hands)))
  where
    grouped : (a b c : Bool) → (not a && not b && not c) ≡ not (a || (b || c))
    grouped true b c = refl
    grouped false true c = refl
    grouped false false c = refl

all_take : (p : List ℕ → Bool) (n : ℕ) (xs : List (List ℕ)) → list_all p xs ≡ true → list_all p (take n xs) ≡ true
all_take p zero xs h = refl
all_take p (suc n) [] h = refl
all_take p (suc n) (x ∷ xs) h =
    let parts = and_parts (p x) (list_all p xs) h in
    rw (parts.0, all_take p n xs parts.1) refl

apart_take : (n : ℕ) (xs : List (List ℕ)) → all_apart xs ≡ true → all_apart (take n xs) ≡ true
apart_take zero xs h = refl
apart_take (suc n) [] h = refl
apart_take (suc n) (x ∷ xs) h =
    let parts = and_parts (list_all (apart x) xs) (all_apart xs) h in
    rw (all_take (apart x) n xs parts.0, apart_take n xs parts.1) refl

-- what hands have and lack together
full : (size : ℕ) (xs : List (List ℕ)) → list_all (λ hand. nat_le (length hand) size) xs ≡ true → lacks size xs + has xs ≡ size * length xs
full size [] h = omega arith
full size (x ∷ xs) h =
    let parts = and_parts (nat_le (length x) size) (list_all (λ hand. nat_le (length hand) size) xs) h in
    let fits : length x ≤ size = grind (arith, parts.0) in
    omega (arith, full size xs parts.1, fits)

-- what holds of the sets of a state
pub record AreSound (s : State) : Type 0 where
  pub board : IsCardSet s.board
  pub dead : IsCardSet s.dead
  pub hands : (h : ℕ) → h < length s.hands → IsCardSet (slice_index_or s.hands h [])
  pub disjoint : all_apart (s.board ∷ s.dead ∷ s.hands) ≡ true
  pub fitting : all_fit s.game s.board s.hands ≡ true

sets_of : (xs : List (List ℕ)) → ((h : ℕ) → h < length xs → IsCardSet (slice_index_or xs h [])) → all_sets xs
sets_of [] all = tt
sets_of (x ∷ xs) all = (all zero (omega arith), sets_of xs (λ h l. all (suc h) (omega (arith, l))))

-- the cards that may come, and those that are known
seen : (s : State) → AreSound s → length (unseen s) + (length s.board + (length s.dead + has s.hands)) ≡ 52
seen s ok =
    omega (arith, few_hands s.board s.dead s.hands, parted (s.board ∷ s.dead ∷ s.hands) (ok.board, (ok.dead, sets_of s.hands ok.hands)) ok.disjoint)

lacking : (s : State) → sum (counts_of (slots s)) ≡ (board_size s.game - length s.board) + lacks (own_size s.game) s.hands
lacking s = omega (arith, sum_slot Board (board_size s.game - length s.board) (hand_slots (own_size s.game) 0 s.hands), sum_hands (own_size s.game) 0 s.hands)

fitted : (s : State) → AreSound s → ((board_size s.game - length s.board) + length s.board ≡ board_size s.game) × (lacks (own_size s.game) s.hands + has s.hands ≡ own_size s.game * length s.hands)
fitted s ok =
    let parts = and_parts (nat_le (length s.board) (board_size s.game)) (list_all (λ hand. nat_le (length hand) (own_size s.game)) s.hands) ok.fitting in
    let fits : length s.board ≤ board_size s.game = grind (arith, parts.0) in
    (omega (arith, fits), full (own_size s.game) s.hands parts.1)

unseen_rising : (s : State) → IsRising (unseen s)
unseen_rising s = IsRising-cards_where (λ c. not (has_card s.board c) && not (has_card s.dead c) && not (list_any (λ hand. has_card hand c) s.hands))

-- what is left beside what is lacking is the same in both
balance : (a b : State) → AreSound a → AreSound b → KnowsNoLess a b
    → length (unseen b) + ((board_size a.game - length a.board) + lacks (own_size a.game) a.hands) ≡ length (unseen a) + ((board_size b.game - length b.board) + lacks (own_size b.game) b.hands)
balance a b x y more =
    let boards : board_size b.game ≡ board_size a.game = ap board_size more.game in
    let size : own_size b.game * length b.hands ≡ own_size a.game * length a.hands = ap (λ g. own_size g * length b.hands) more.game ∙ ap (λ n. own_size a.game * n) more.hands in
    let fa = fitted a x in
    let fb = fitted b y in
    omega (arith, boards, size, fa.0, fa.1, fb.0, fb.1, seen a x, seen b y, more.dead)

pub no_more_runouts : (a b : State) → AreSound a → AreSound b → KnowsNoLess a b → IsEnough a → HasNoMoreRunouts a b
no_more_runouts a b x y more enough =
    record {
      enough = omega (arith, lacking a, lacking b, enough, same);
      few = omega (arith, length_runouts (counts_of (slots a)) (unseen a) (unseen_rising a), length_runouts (counts_of (slots b)) (unseen b) (unseen_rising b), ways_less);
    }
  where
    same : length (unseen b) + ((board_size a.game - length a.board) + lacks (own_size a.game) a.hands) ≡ length (unseen a) + ((board_size b.game - length b.board) + lacks (own_size b.game) b.hands)
    same = balance a b x y more

    size : own_size b.game ≡ own_size a.game
    size = ap own_size more.game

    boards : board_size b.game ≡ board_size a.game
    boards = ap board_size more.game

    hands : (u v : ℕ) → v + lacks (own_size a.game) a.hands ≤ u + lacks (own_size b.game) b.hands → ways v (counts_of (hand_slots (own_size b.game) 0 b.hands)) ≤ ways u (counts_of (hand_slots (own_size a.game) 0 a.hands))
    hands u v l =
        subst (λ (n : ℕ). ways v (counts_of (hand_slots n 0 b.hands)) ≤ ways u (counts_of (hand_slots (own_size a.game) 0 a.hands))) (sym size)
        (hands_fewer (own_size a.game) 0 u v a.hands b.hands more.hands more.cards (omega (arith, l, ap (λ n. lacks n b.hands) size)))

    less_hands : lacks (own_size b.game) b.hands ≤ lacks (own_size a.game) a.hands
    less_hands = omega (arith, ap (λ n. lacks n b.hands) size, lacks_less (own_size a.game) a.hands b.hands more.hands more.cards)

    ways_less : ways (length (unseen b)) (counts_of (slots b)) ≤ ways (length (unseen a)) (counts_of (slots a))
    ways_less =
        omega (
          arith,
          ways_slot (length (unseen a)) Board (board_size a.game - length a.board) (hand_slots (own_size a.game) 0 a.hands),
          ways_slot (length (unseen b)) Board (board_size b.game - length b.board) (hand_slots (own_size b.game) 0 b.hands),
          fewer_ways (length (unseen a)) (length (unseen b)) (board_size a.game - length a.board) (board_size b.game - length b.board) (lacks (own_size a.game) a.hands) (lacks (own_size b.game) b.hands)
              (hand_slots (own_size a.game) 0 a.hands) (hand_slots (own_size b.game) 0 b.hands) (omega (arith, boards, more.board)) less_hands (omega (arith, same))
              (λ l. hands (length (unseen a) - (board_size a.game - length a.board)) (length (unseen b) - (board_size b.game - length b.board)) l),
        )

-- the facts of what is known, with the hands in use
pub sound_known : (game : Game) (count : ℕ) (hands : List (List ℕ)) (board dead : List ℕ) → IsCardSet board → IsCardSet dead → ((h : ℕ) → h < length (take count hands) → IsCardSet (slice_index_or (take count hands) h []))
    → all_apart (board ∷ dead ∷ hands) ≡ true → all_fit game board hands ≡ true → AreSound (record { game = game; hands = take count hands; board = board; dead = dead })
sound_known game count hands board dead x y z disjoint fitting =
    let parts = and_parts (nat_le (length board) (board_size game)) (list_all (λ hand. nat_le (length hand) (own_size game)) hands) fitting in
    let rest = all_take (λ hand. nat_le (length hand) (own_size game)) count hands parts.1 in
    record {
      board = x;
      dead = y;
      hands = z;
      disjoint = apart_take (suc (suc count)) (board ∷ dead ∷ hands) disjoint;
      fitting = rw (parts.0, rest) refl;
    }
