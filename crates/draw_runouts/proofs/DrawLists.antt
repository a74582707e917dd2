-- Lists of cards, of draws and of their numbers.
use Rattle.std.proofs.Common.{◌≡◌, ℕ, zero, suc, ◌+◌, ◌-◌, ◌<◌, ◌≤◌, ◌==◌, ◌||◌, Bool, true, false, List, [], ◌∷◌, ◌++◌, length, length-append, map, take, drop, set, get_or, refl, sym, ap, ◌∙◌, arith, append_assoc, append-nil, inl, inr}
use Rattle.std.specs.Prelude.{min, slice_index, slice_index_or}
use Rattle.std.specs.List.{slice_range}
use Rattle.std.proofs.lemmas.Bool.{cases_eq, cases_lt}
use Rattle.std.proofs.lemmas.List.{length-map, map-append, take_all, take_more_set}
use Rattle.card_sets.specs.Cards.{has_card, with_card, union}
use Rattle.card_sets.specs.Bits.{cards_where_same, has-cards_where}
use Rattle.card_sets.specs.Choose.{choose}
use Rattle.card_sets.specs.Disjoint.{apart}
use Rattle.runout_ranges.specs.Runouts.{HasMember}
use Rattle.runout_ranges.specs.Ways.{binomial}
use Rattle.runout_ranges.proofs.CallerLemmas.{length_choose, choose_length}
use Rattle.draw_runouts.specs.Worth.{number_at, number_of, plane_base}
use Rattle.runout_walk.proofs.CallerLemmas.{choose-one, grows, in_range, length-range, map-map, map_take, range-append, range-empty, range-map, two-first}

-- no card is in no cards
pub apart_none : (cards : List ℕ) → apart cards [] ≡ true
apart_none [] = refl
apart_none (card ∷ cards) = apart_none cards

same_eq : (a b : ℕ) → (a == b) ≡ (b == a)
same_eq a b = elim (cases_eq a b) [
  | inl e ↦ (let t : (a == b) ≡ true = grind arith in let u : (b == a) ≡ true = grind arith in t ∙ sym u)
  | inr ne ↦ (let t : (a == b) ≡ false = grind arith in let u : (b == a) ≡ false = grind arith in t ∙ sym u)
]

turn_one : (x z : Bool) → (x || z) ≡ (z || (x || false))
turn_one true true = refl
turn_one true false = refl
turn_one false true = refl
turn_one false false = refl

turn_or : (x y z : Bool) → (x || (y || z)) ≡ (z || (y || (x || false)))
turn_or true true true = refl
turn_or true true false = refl
turn_or true false true = refl
turn_or true false false = refl
turn_or false true true = refl
turn_or false true false = refl
turn_or false false true = refl
turn_or false false false = refl

-- one card more, and two
pub with_one : (own : List ℕ) (card : ℕ) → with_card own card ≡ union own (card ∷ [])
with_one own card = cards_where_same _ _ (λ k h. rw (same_eq k card) (turn_one (card == k) (has_card own k)))

pub with_two : (own : List ℕ) (low high : ℕ) → with_card (with_card own low) high ≡ union own (low ∷ high ∷ [])
with_two own low high = cards_where_same _ _ (λ k h. rw (has-cards_where (λ k. (k == low) || has_card own k) k h, same_eq k high, same_eq k low) (turn_or (high == k) (low == k) (has_card own k)))

or_move : (x y z : Bool) → ((x || y) || z) ≡ (y || (x || z))
or_move true true z = refl
or_move true false z = refl
or_move false true z = refl
or_move false false z = refl

pub with_three : (own : List ℕ) (low mid high : ℕ) → with_card (with_card (with_card own low) mid) high ≡ union own (low ∷ mid ∷ high ∷ [])
with_three own low mid high =
    with_two (with_card own low) mid high
    ∙ cards_where_same _ _ (λ k h. rw (has-cards_where (λ k. (k == low) || has_card own k) k h, same_eq k low) (or_move (low == k) (has_card own k) ((mid == k) || ((high == k) || false))))

-- images of the members alone matter
pub map_same : {X Y : Type 0} (f g : X → Y) (xs : List X) → ((x : X) → HasMember xs x → f x ≡ g x) → map f xs ≡ map g xs
map_same f g [] h = refl
map_same f g (x ∷ xs) h =
    ap (λ v. v ∷ map f xs) (h x ([], xs, refl)) ∙ ap (λ l. g x ∷ l) (map_same f g xs (λ y m. h y (x ∷ m.0, m.1, ap (λ l. x ∷ l) m.2)))

-- no more draws than of the whole deck
few_of : (cards : List ℕ) (count most : ℕ) → length cards ≤ 52 → binomial 52 count ≤ most → length (choose count cards) ≤ most
few_of cards count most h size =
    let all : length cards + (52 - length cards) ≡ 52 = omega arith in
    let grown : binomial (length cards) count ≤ binomial (length cards + (52 - length cards)) count = grows (length cards) (52 - length cards) count in
    omega (arith, length_choose count cards, ap (λ n. binomial n count) all, grown, size)

pub few_draws : (cards : List ℕ) (count : ℕ) → length cards ≤ 52 → 1 ≤ count → count ≤ 3 → length (choose count cards) ≤ 22100
few_draws cards zero h l m = absurd (omega arith)
few_draws cards (suc zero) h l m = let size : binomial 52 1 ≡ 52 = refl in few_of cards 1 22100 h (omega arith)
few_draws cards (suc (suc zero)) h l m = let size : binomial 52 2 ≡ 1326 = refl in few_of cards 2 22100 h (omega arith)
few_draws cards (suc (suc (suc zero))) h l m = let size : binomial 52 3 ≡ 22100 = refl in few_of cards 3 22100 h (omega arith)
few_draws cards (suc (suc (suc (suc n)))) h l m = absurd (omega arith)

pub few_twos : (cards : List ℕ) (count : ℕ) → length cards ≤ 52 → 1 ≤ count → count ≤ 2 → length (choose count cards) ≤ 1326
few_twos cards zero h l m = absurd (omega arith)
few_twos cards (suc zero) h l m = let size : binomial 52 1 ≡ 52 = refl in few_of cards 1 1326 h (omega arith)
few_twos cards (suc (suc zero)) h l m = let size : binomial 52 2 ≡ 1326 = refl in few_of cards 2 1326 h (omega arith)
few_twos cards (suc (suc (suc n))) h l m = absurd (omega arith)

-- ends that are moved to the end of the list where they are after it
clipped : {X : Type 0} (xs : List X) (lo hi : ℕ) → slice_range xs (min lo (length xs)) (min hi (length xs)) ≡ slice_range xs lo (min hi (length xs))
clipped xs lo hi = elim (cases_lt lo (length xs)) [
  | inl l ↦ (let m : min lo (length xs) ≡ lo = omega arith in ap (λ n. slice_range xs n (min hi (length xs))) m)
  | inr ge ↦ range-empty xs (min lo (length xs)) (min hi (length xs)) (omega arith) ∙ sym (range-empty xs lo (min hi (length xs)) (omega arith))
]

-- the draws of a card with each of some others
abbrev pub pairs_with : ℕ → List ℕ → List (List ℕ)
pairs_with low highs = map (λ high. low ∷ high ∷ []) highs

-- a range of the draws of two: those with the first card, and then the others
range_of_two : (low : ℕ) (cards highs : List ℕ) (lo hi : ℕ) → cards ≡ low ∷ highs → slice_range (choose 2 cards) lo hi
    ≡ pairs_with low (slice_range highs (min lo (length highs)) (min hi (length highs))) ++ slice_range (choose 2 highs) (lo - length highs) (hi - length highs)
range_of_two low cards highs lo hi first =
    ap (λ l. slice_range (choose 2 l) lo hi) first
    ∙ ap (λ l. slice_range l lo hi) (two-first low highs)
    ∙ range-append (pairs_with low highs) (choose 2 highs) lo hi
    ∙ ap (λ n. slice_range (pairs_with low highs) lo (min hi n) ++ slice_range (choose 2 highs) (lo - n) (hi - n)) (length-map highs (λ high. low ∷ high ∷ []))
    ∙ ap (λ l. l ++ slice_range (choose 2 highs) (lo - length highs) (hi - length highs)) (range-map (λ high. low ∷ high ∷ []) highs lo (min hi (length highs)) ∙ ap (pairs_with low) (sym (clipped highs lo hi)))

-- the same with ends that the code has
pub pairs_split : (low : ℕ) (cards highs : List ℕ) (lo hi start end later_lo later_hi : ℕ) → cards ≡ low ∷ highs → start ≡ min lo (length highs) → end ≡ min hi (length highs) → later_lo ≡ lo - length highs → later_hi ≡ hi - length highs
    → slice_range (choose 2 cards) lo hi ≡ pairs_with low (slice_range highs start end) ++ slice_range (choose 2 highs) later_lo later_hi
pairs_split low cards highs lo hi start end later_lo later_hi first a b c d =
    range_of_two low cards highs lo hi first
    ∙ ap (λ n. pairs_with low (slice_range highs n (min hi (length highs))) ++ slice_range (choose 2 highs) (lo - length highs) (hi - length highs)) (sym a)
    ∙ ap (λ n. pairs_with low (slice_range highs start n) ++ slice_range (choose 2 highs) (lo - length highs) (hi - length highs)) (sym b)
    ∙ ap (λ n. pairs_with low (slice_range highs start end) ++ slice_range (choose 2 highs) n (hi - length highs)) (sym c)
    ∙ ap (λ n. pairs_with low (slice_range highs start end) ++ slice_range (choose 2 highs) later_lo n) (sym d)

-- a list by its first member and the others, as a pattern has them
pub first_split : (cards : List ℕ) (low d : ℕ) → 1 ≤ length cards → low ≡ get_or cards 0 d → cards ≡ low ∷ take (length cards - 1) (drop 1 cards)
first_split [] low d h e = absurd (omega arith)
first_split (x ∷ xs) low d h e =
    let n : suc (length xs) - 1 ≡ length xs = omega arith in
    ap (λ v. v ∷ xs) (sym e) ∙ ap (λ l. low ∷ l) (sym (ap (λ k. take k xs) n ∙ take_all (length xs) xs (omega arith)))

-- a range of the draws of some cards: those with the first card, and then the others
pub choices_split : (k low : ℕ) (cards others : List ℕ) (count lo hi start end later_lo later_hi : ℕ) → cards ≡ low ∷ others → count ≡ length (choose k others) → start ≡ min lo count → end ≡ min hi count → later_lo ≡ lo - count → later_hi ≡ hi - count
    → slice_range (choose (suc k) cards) lo hi ≡ map (λ draw. low ∷ draw) (slice_range (choose k others) start end) ++ slice_range (choose (suc k) others) later_lo later_hi
choices_split k low cards others count lo hi start end later_lo later_hi first size a b c d =
    let with : List (List ℕ) = map (λ draw. low ∷ draw) (choose k others) in
    let later : List (List ℕ) = choose (suc k) others in
    let l : length with ≡ count = length-map (choose k others) (λ draw. low ∷ draw) ∙ sym size in
    let s : start ≡ min lo (length (choose k others)) = a ∙ ap (min lo) size in
    let e : end ≡ min hi (length (choose k others)) = b ∙ ap (min hi) size in
    ap (λ l. slice_range (choose (suc k) l) lo hi) first
    ∙ range-append with later lo hi
    ∙ ap (λ n. slice_range with lo (min hi n) ++ slice_range later (lo - n) (hi - n)) l
    ∙ ap (λ n. slice_range with lo (min hi n) ++ slice_range later (lo - count) (hi - count)) size
    ∙ ap (λ l. l ++ slice_range later (lo - count) (hi - count)) (range-map (λ draw. low ∷ draw) (choose k others) lo (min hi (length (choose k others))) ∙ ap (map (λ draw. low ∷ draw)) (sym (clipped (choose k others) lo hi)))
    ∙ ap (λ n. map (λ draw. low ∷ draw) (slice_range (choose k others) n (min hi (length (choose k others)))) ++ slice_range later (lo - count) (hi - count)) (sym s)
    ∙ ap (λ n. map (λ draw. low ∷ draw) (slice_range (choose k others) start n) ++ slice_range later (lo - count) (hi - count)) (sym e)
    ∙ ap (λ n. map (λ draw. low ∷ draw) (slice_range (choose k others) start end) ++ slice_range later n (hi - count)) (sym c)
    ∙ ap (λ n. map (λ draw. low ∷ draw) (slice_range (choose k others) start end) ++ slice_range later later_lo n) (sym d)

pub choices_length : (k low : ℕ) (cards others : List ℕ) → cards ≡ low ∷ others → length (choose (suc k) cards) ≡ length (choose k others) + length (choose (suc k) others)
choices_length k low cards others first =
    ap (λ l. length (choose (suc k) l)) first ∙ length-append (map (λ draw. low ∷ draw) (choose k others)) (choose (suc k) others) ∙ ap (λ n. n + length (choose (suc k) others)) (length-map (choose k others) (λ draw. low ∷ draw))

pub no_pairs : (xs : List ℕ) → length xs < 2 → length (choose 2 xs) ≡ 0
no_pairs [] h = refl
no_pairs (x ∷ []) h = refl
no_pairs (x ∷ y ∷ xs) h = absurd (omega arith)

-- after the first numbers some draws of a range have theirs, one after the other
pub record IsFilling (f : List ℕ → ℕ) (first : List ℕ) (whole todo : List (List ℕ)) (used : ℕ) (values : List ℕ) : Type 0 where
  pub done : List (List ℕ)
  pub split : whole ≡ done ++ todo
  pub size : used ≡ length first + length done
  pub filled : take used values ≡ first ++ map f done

pub filling_begins : (f : List ℕ → ℕ) (first : List ℕ) (whole : List (List ℕ)) (used : ℕ) (values : List ℕ) → used ≡ length first → take used values ≡ first → IsFilling f first whole whole used values
filling_begins f first whole used values size front = record { done = []; split = refl; size = omega (arith, size); filled = front ∙ sym (append-nil first) }

pub filling_goes_on : (f : List ℕ → ℕ) (first : List ℕ) (whole todo part later : List (List ℕ)) (used more next : ℕ) (old new numbers : List ℕ)
    → IsFilling f first whole todo used old → todo ≡ part ++ later → more ≡ length part → numbers ≡ map f part → take (used + more) new ≡ take used old ++ numbers → next ≡ used + more → IsFilling f first whole later next new
filling_goes_on f first whole todo part later used more next old new numbers way split count is put now = record {
  done = way.done ++ part;
  split = way.split ∙ ap (λ l. way.done ++ l) split ∙ sym (append_assoc way.done part later);
  size = (let s = way.size in omega (arith, length-append way.done part));
  filled = ap (λ n. take n new) now ∙ put ∙ ap (λ l. l ++ numbers) way.filled ∙ ap (λ l. (first ++ map f way.done) ++ l) is ∙ append_assoc first (map f way.done) (map f part) ∙ ap (λ l. first ++ l) (sym (map-append f way.done part));
}

pub filling_ends : (f : List ℕ → ℕ) (first : List ℕ) (whole todo : List (List ℕ)) (used : ℕ) (values : List ℕ) → IsFilling f first whole todo used values → todo ≡ [] → (used ≡ length first + length whole) × (take used values ≡ first ++ map f whole)
filling_ends f first whole todo used values way none =
    let all : whole ≡ way.done = way.split ∙ ap (λ l. way.done ++ l) none ∙ append-nil way.done in
    (way.size ∙ ap (λ l. length first + length l) (sym all), way.filled ∙ ap (λ l. first ++ map f l) (sym all))

-- the next part has room where all have
pub filling_room : (f : List ℕ → ℕ) (first : List ℕ) (whole todo part later : List (List ℕ)) (used : ℕ) (values : List ℕ) → IsFilling f first whole todo used values → todo ≡ part ++ later → used + length part ≤ length first + length whole
filling_room f first whole todo part later used values way split =
    let s = way.size in
    omega (arith, ap length way.split, length-append way.done todo, ap length split, length-append part later)

-- the numbers of the draws with a card
pub pair_numbers : (rows : List (List ℕ)) (base low from : ℕ) (part : List ℕ) → from ≡ low → map (slice_index (slice_index_or rows (base + from) [])) part ≡ map (number_at rows base) (pairs_with low part)
pair_numbers rows base low from part same = ap (λ k. map (slice_index (slice_index_or rows (base + k) [])) part) same ∙ sym (map-map (number_at rows base) (λ high. low ∷ high ∷ []) part)

-- the numbers of the draws of one card, of two and of three
pub single_numbers : (rows : List (List ℕ)) (planes : List (List ℕ)) (cards new : List ℕ) (lo hi : ℕ) → lo ≤ hi → hi ≤ length cards → take (0 + length (slice_range cards lo hi)) new ≡ map (slice_index (slice_index_or rows 0 [])) (slice_range cards lo hi)
    → take (hi - lo) new ≡ map (number_of rows planes) (slice_range (choose 1 cards) lo hi)
single_numbers rows planes cards new lo hi order inside put =
    let size : hi - lo ≡ 0 + length (slice_range cards lo hi) = omega (arith, length-range cards lo hi order inside) in
    ap (λ n. take n new) size ∙ put
    ∙ sym (ap (λ l. map (number_of rows planes) (slice_range l lo hi)) (choose-one cards) ∙ ap (map (number_of rows planes)) (range-map (λ x. x ∷ []) cards lo hi) ∙ map-map (number_of rows planes) (λ x. x ∷ []) (slice_range cards lo hi))

two_same : (rows planes : List (List ℕ)) (draw : List ℕ) → length draw ≡ 2 → number_at rows 0 draw ≡ number_of rows planes draw
two_same rows planes [] e = absurd (omega arith)
two_same rows planes (a ∷ []) e = absurd (omega arith)
two_same rows planes (a ∷ b ∷ []) e = refl
two_same rows planes (a ∷ b ∷ c ∷ draw) e = absurd (omega arith)

three_same : (rows planes : List (List ℕ)) (low : ℕ) (draw : List ℕ) → length draw ≡ 2 → number_at planes (plane_base low) draw ≡ number_of rows planes (low ∷ draw)
three_same rows planes low [] e = absurd (omega arith)
three_same rows planes low (a ∷ []) e = absurd (omega arith)
three_same rows planes low (a ∷ b ∷ draw) e = refl

two_long : (cards : List ℕ) (lo hi : ℕ) (draw : List ℕ) → HasMember (slice_range (choose 2 cards) lo hi) draw → length draw ≡ 2
two_long cards lo hi draw m = let n = in_range (choose 2 cards) lo hi draw m in choose_length 2 cards draw n.0 n.1 n.2

pub two_numbers : (rows : List (List ℕ)) (planes : List (List ℕ)) (cards new : List ℕ) (lo hi : ℕ) → take (0 + (hi - lo)) new ≡ map (number_at rows 0) (slice_range (choose 2 cards) lo hi) → take (hi - lo) new ≡ map (number_of rows planes) (slice_range (choose 2 cards) lo hi)
two_numbers rows planes cards new lo hi put =
    let size : hi - lo ≡ 0 + (hi - lo) = omega arith in
    ap (λ n. take n new) size ∙ put ∙ map_same (number_at rows 0) (number_of rows planes) (slice_range (choose 2 cards) lo hi) (λ draw m. two_same rows planes draw (two_long cards lo hi draw m))

pub three_numbers : (rows planes : List (List ℕ)) (low base : ℕ) (cards : List ℕ) (lo hi : ℕ) → base ≡ plane_base low
    → map (number_at planes base) (slice_range (choose 2 cards) lo hi) ≡ map (number_of rows planes) (map (λ draw. low ∷ draw) (slice_range (choose 2 cards) lo hi))
three_numbers rows planes low base cards lo hi same =
    ap (λ k. map (number_at planes k) (slice_range (choose 2 cards) lo hi)) same
    ∙ map_same (number_at planes (plane_base low)) (λ draw. number_of rows planes (low ∷ draw)) (slice_range (choose 2 cards) lo hi) (λ draw m. three_same rows planes low draw (two_long cards lo hi draw m))
    ∙ sym (map-map (number_of rows planes) (λ draw. low ∷ draw) (slice_range (choose 2 cards) lo hi))

pub no_list : {X : Type 0} (xs : List X) → length xs < 1 → xs ≡ []
no_list [] h = refl
no_list (x ∷ xs) h = absurd (omega arith)
