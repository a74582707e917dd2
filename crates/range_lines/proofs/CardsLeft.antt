-- How many cards are left, and how many runouts that makes, where no card is in two places.
use Rattle.std.proofs.Common.{◌≡◌, ℕ, zero, suc, ◌+◌, ◌*◌, ◌-◌, ◌≤◌, List, [], ◌∷◌, ◌++◌, length, sum, refl, sym, ap, ◌∙◌, arith, Bool, true, false, cond, not, ◌&&◌, ◌||◌, length-append}
use Rattle.std.specs.List.{list_any, list_all, sum_by}
use Rattle.std.proofs.lemmas.List.Sums.{sum_by-cons}
use Rattle.card_sets.specs.Cards.{has_card, cards_below, cards_where, IsCardSet}
use Rattle.card_sets.specs.Disjoint.{apart, all_apart}
use Rattle.card_sets.specs.Rising.{IsRising-cards_where}
use Rattle.card_sets.specs.State.{State}
use Rattle.card_sets.specs.declared.games.Game.TheVariants.{Holdem}
use Rattle.runout_ranges.specs.Slots.{slots, unseen, slot_of, hand_slots, counts_of}
use Rattle.runout_ranges.specs.Ways.{binomial, ways}
use Rattle.runout_ranges.specs.declared.shapes.Receiver.TheVariants.{Board}
use Rattle.card_sets.proofs.CallerLemmas.{Apart-apart}
use Rattle.std.proofs.lemmas.Bool.{and_parts}
use Rattle.runout_ranges.proofs.CallerLemmas.{length_runouts}
use Rattle.showdown_tally.specs.Tallies.{runouts_after}
use Rattle.runout_ranges.specs.Jobs.{IsDeckShort}

abbrev bit : Bool → ℕ
bit true = 1
bit false = 0

-- the sum of a number over the numbers below n
below : (ℕ → ℕ) → ℕ → ℕ
below f zero = 0
below f (suc n) = below f n + f n

below_same : (f g : ℕ → ℕ) (n : ℕ) → ((k : ℕ) → f k ≡ g k) → below f n ≡ below g n
unfolding below
below_same f g zero h = refl
below_same f g (suc n) h = omega (arith, h n, below_same f g n h)

below_both : (f g : ℕ → ℕ) (n : ℕ) → below (λ k. f k + g k) n ≡ below f n + below g n
unfolding below
below_both f g zero = refl
below_both f g (suc n) = omega (arith, below_both f g n)

below_one : (n : ℕ) → below (λ k. 1) n ≡ n
unfolding below
below_one zero = refl
below_one (suc n) = omega (arith, below_one n)

below_none : (n : ℕ) → below (λ k. 0) n ≡ 0
unfolding below
below_none zero = refl
below_none (suc n) = omega (arith, below_none n)

one_more : (b : Bool) (n : ℕ) → length (cond b (n ∷ []) []) ≡ bit b
one_more true n = refl
one_more false n = refl

length_below : (p : ℕ → Bool) (n : ℕ) → length (cards_below p n) ≡ below (λ k. bit (p k)) n
unfolding below
length_below p zero = refl
length_below p (suc n) = omega (arith, length_below p n, length-append (cards_below p n) (cond (p n) (n ∷ []) []), one_more (p n) n)

length_where : (p : ℕ → Bool) → length (cards_where p) ≡ below (λ k. bit (p k)) 52
unfolding cards_where
length_where p = length_below p 52

length_set : (s : List ℕ) → IsCardSet s → length s ≡ below (λ k. bit (has_card s k)) 52
length_set s h = ap length (sym h) ∙ length_where (has_card s)

-- how many of the sets have a card
abbrev holders : ℕ → List (List ℕ) → ℕ
holders k [] = 0
holders k (set ∷ sets) = bit (has_card set k) + holders k sets

-- each of some sets is a set of cards
abbrev pub AreSets : List (List ℕ) → Type 0
AreSets [] = Unit {0}
AreSets (set ∷ sets) = IsCardSet set × AreSets sets

length_held : (sets : List (List ℕ)) → AreSets sets → sum_by length sets ≡ below (λ k. holders k sets) 52
length_held [] h = sym (below_none 52)
length_held (set ∷ sets) h =
    sum_by-cons length set sets
    ∙ ap (λ n. n + sum_by length sets) (length_set set h.0) ∙ ap (λ n. below (λ k. bit (has_card set k)) 52 + n) (length_held sets h.1)
    ∙ sym (below_both (λ k. bit (has_card set k)) (λ k. holders k sets) 52)

is_false : (b : Bool) → (b ≡ true → ⊥) → b ≡ false
is_false true h = absurd (h refl)
is_false false h = refl

none_hold : (s : List ℕ) (sets : List (List ℕ)) (k : ℕ) → list_all (apart s) sets ≡ true → has_card s k ≡ true → holders k sets ≡ 0
none_hold s [] k h x = refl
none_hold s (t ∷ sets) k h x =
    let hs = and_parts (apart s t) (list_all (apart s) sets) h in
    let out : bit (has_card t k) ≡ 0 = ap bit (is_false (has_card t k) (λ y. Apart-apart s t hs.0 k x y)) in
    omega (arith, out, none_hold s sets k hs.1 x)

-- a card is free or in one of the sets
free_or_held : (sets : List (List ℕ)) (k : ℕ) → all_apart sets ≡ true → bit (not (list_any (λ set. has_card set k) sets)) + holders k sets ≡ 1
free_or_held [] k h = refl
free_or_held (s ∷ sets) k h =
    let hs = and_parts (list_all (apart s) sets) (all_apart sets) h in
    elim (has_card s k) as (λ b. has_card s k ≡ b → bit (not (b || list_any (λ set. has_card set k) sets)) + (bit b + holders k sets) ≡ 1) [
      | true ↦ λ e. omega (arith, none_hold s sets k hs.0 e)
      | false ↦ λ e. omega (arith, free_or_held sets k hs.1)
    ] refl

one_test : (a b c : Bool) → (not a && not b && not c) ≡ not (a || (b || c))
one_test true b c = refl
one_test false true c = refl
one_test false false c = refl

-- the cards that may come and those of all places are the deck
pub deck_length : (s : State) → AreSets (s.board ∷ s.dead ∷ s.hands) → all_apart (s.board ∷ s.dead ∷ s.hands) ≡ true
    → length (unseen s) + (length s.board + (length s.dead + sum_by length s.hands)) ≡ 52
deck_length s are h =
    let places = s.board ∷ s.dead ∷ s.hands in
    let free : ℕ → ℕ = λ k. bit (not (has_card s.board k) && not (has_card s.dead k) && not (list_any (λ hand. has_card hand k) s.hands)) in
    let a : length (unseen s) ≡ below free 52 = length_where _ in
    let b : sum_by length places ≡ below (λ k. holders k places) 52 = length_held places are in
    let one : below (λ k. free k + holders k places) 52 ≡ 52 =
    below_same _ (λ k. 1) 52 (λ k. ap (λ t. bit t + holders k places) (one_test (has_card s.board k) (has_card s.dead k) (list_any (λ hand. has_card hand k) s.hands)) ∙ free_or_held places k h) ∙ below_one 52 in
    let parts = below_both free (λ k. holders k places) 52 in
    omega (arith, a, b, one, parts, sum_by-cons length s.board (s.dead ∷ s.hands), sum_by-cons length s.dead s.hands)

-- each of some hands has two cards
abbrev pub AreTwos : List (List ℕ) → Type 0
AreTwos [] = Unit {0}
AreTwos (hand ∷ hands) = (length hand ≡ 2) × AreTwos hands

sum_twos : (hands : List (List ℕ)) → AreTwos hands → sum_by length hands ≡ 2 * length hands
sum_twos [] h = omega arith
sum_twos (hand ∷ hands) h = omega (arith, sum_by-cons length hand hands, h.0, sum_twos hands h.1)

-- hands of two cards lack none
no_slots : (number : ℕ) (hands : List (List ℕ)) → AreTwos hands → hand_slots 2 number hands ≡ []
no_slots number [] h = refl
no_slots number (hand ∷ hands) h =
    let none : 2 - length hand ≡ 0 = omega (arith, h.0) in
    rw none (no_slots (number + 1) hands h.1)

-- the ways to fill the board alone
board_ways : (left lacks : ℕ) → ways left (counts_of (slot_of Board lacks ++ [])) ≡ binomial left lacks
board_ways left zero = refl
board_ways left (suc n) = omega arith

board_sum : (lacks : ℕ) → sum (counts_of (slot_of Board lacks ++ [])) ≡ lacks
board_sum zero = refl
board_sum (suc n) = omega (arith, sum_by-cons (λ k. k) (suc n) [])

-- the deal of hands of two cards
abbrev pub of_twos : List ℕ → List ℕ → List (List ℕ) → State
of_twos board dead hands = record { game = Holdem; hands = hands; board = board; dead = dead }

pub slots_twos : (board dead : List ℕ) (hands : List (List ℕ)) → AreTwos hands → slots (of_twos board dead hands) ≡ slot_of Board (5 - length board) ++ []
slots_twos board dead hands twos = ap (λ l. slot_of Board (5 - length board) ++ l) (no_slots 0 hands twos)

left_twos : (board dead : List ℕ) (hands : List (List ℕ)) → AreSets (board ∷ dead ∷ hands) → all_apart (board ∷ dead ∷ hands) ≡ true → AreTwos hands
    → length (unseen (of_twos board dead hands)) ≡ 52 - (length board + length dead + 2 * length hands)
left_twos board dead hands are h twos =
    let all = deck_length (of_twos board dead hands) are h in
    omega (arith, all, sum_twos hands twos)

pub runouts_twos : (board dead : List ℕ) (hands : List (List ℕ)) → AreSets (board ∷ dead ∷ hands) → all_apart (board ∷ dead ∷ hands) ≡ true → AreTwos hands
    → length (runouts_after (of_twos board dead hands)) ≡ binomial (52 - (length board + length dead + 2 * length hands)) (5 - length board)
runouts_twos board dead hands are h twos =
    let s = of_twos board dead hands in
    length_runouts (counts_of (slots s)) (unseen s) (IsRising-cards_where _)
    ∙ ap (λ some. ways (length (unseen s)) (counts_of some)) (slots_twos board dead hands twos)
    ∙ board_ways (length (unseen s)) (5 - length board)
    ∙ ap (λ n. binomial n (5 - length board)) (left_twos board dead hands are h twos)

pub enough_twos : (board dead : List ℕ) (hands : List (List ℕ)) → AreSets (board ∷ dead ∷ hands) → all_apart (board ∷ dead ∷ hands) ≡ true → AreTwos hands
    → length board + length dead + 2 * length hands + (5 - length board) ≤ 52 → ¬ IsDeckShort (of_twos board dead hands)
enough_twos board dead hands are h twos enough short =
    let lacks : sum (counts_of (slots (of_twos board dead hands))) ≡ 5 - length board = ap (λ some. sum (counts_of some)) (slots_twos board dead hands twos) ∙ board_sum (5 - length board) in
    let left = left_twos board dead hands are h twos in
    omega (arith, lacks, left, short, enough)
