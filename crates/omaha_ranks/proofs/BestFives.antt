-- The numbers of the best of the fives of two own cards and three of the board, and of some of their cards.
use Rattle.std.proofs.Common.{◌≡◌, ℕ, ◌<◌, ◌≤◌, ◌==◌, List, [], ◌∷◌, ◌++◌, refl, sym, ap, ◌∙◌, arith, Bool, true, false, cond, length, map, max, inl, inr}
use Rattle.std.specs.Prelude.{filter}
use Rattle.std.specs.List.{flat_map}
use Rattle.std.proofs.lemmas.List.Sums.{length-filter, count_by-le-length}
use Rattle.card_sets.specs.Cards.{suit_of, union}
use Rattle.card_sets.specs.Choose.{choose}
use Rattle.card_sets.specs.declared.games.Game.TheVariants.{Omaha8}
use Rattle.rank_high.specs.High.{best_high, value_of}
use Rattle.rank_high.specs.Parts.{of_suit}
use Rattle.hand_choice.specs.AllowedFives.{AreFives}
use Rattle.card_sets.proofs.CallerLemmas.{greatest, choose-all, choose-short, Apart-apart, apart-Apart, length-union, set-part, Apart-parts, IsPart}
use Rattle.rank_high.proofs.CallerLemmas.{best_high-five, value_of-none, number, plain_number}
use Rattle.hand_choice.proofs.CallerLemmas.{allowed-AreFives}
use Rattle.omaha_ranks.specs.Omaha.{fives, omaha_high, omaha_plain, omaha_suited, ArePlaced}
use Rattle.omaha_ranks.proofs.BestNumbers.{high_number-greatest, plain_high_number-greatest}

pub fives-are : (own board : List ℕ) → ArePlaced own board → AreFives (fives own board)
fives-are own board placed = allowed-AreFives Omaha8 own board placed.own_cards placed.board_cards placed.apart

-- the cards that pass are a part
pub passing : (test : ℕ → Bool) (xs : List ℕ) → IsPart (filter test xs) xs
passing test [] = refl
passing test (x ∷ xs) = one (test x) (passing test xs)
  where
    one : (b : Bool) → IsPart (filter test xs) xs → IsPart (cond b (x ∷ filter test xs) (filter test xs)) (x ∷ xs)
    one true p = inr (filter test xs, refl, p)
    one false p = inl p

pub placed-passing : (test : ℕ → Bool) (own board : List ℕ) → ArePlaced own board → ArePlaced (filter test own) (filter test board)
placed-passing test own board placed =
    let p = passing test own in
    let q = passing test board in
    record {
      own_cards = set-part _ own p placed.own_cards;
      board_cards = set-part _ board q placed.board_cards;
      apart = apart-Apart _ _ (Apart-parts _ own _ board p q (Apart-apart own board placed.apart));
    }

pub fewer : (test : ℕ → Bool) (xs : List ℕ) → length (filter test xs) ≤ length xs
fewer test xs = omega (arith, length-filter test xs, count_by-le-length test xs)

pub high-number : (own board : List ℕ) → ArePlaced own board → value_of (omaha_high own board) ≡ greatest (map number (fives own board))
unfolding omaha_high
high-number own board placed = high_number-greatest (fives own board) (fives-are own board placed)

pub plain-five : (own board : List ℕ) → ArePlaced own board → value_of (omaha_plain own board) ≡ greatest (map plain_number (fives own board))
unfolding omaha_plain
plain-five own board placed = plain_high_number-greatest (fives own board) (fives-are own board placed)

pub suit-number : (own board : List ℕ) (suit : ℕ) → ArePlaced own board → omaha_suited own board suit ≡ greatest (map number (fives (of_suit own suit) (of_suit board suit)))
suit-number own board suit placed = high-number (of_suit own suit) (of_suit board suit) (placed-passing (λ c. suit_of c == suit) own board placed)

-- too few cards make no five
none_with : (twos : List (List ℕ)) (board : List ℕ) → choose 3 board ≡ [] → flat_map (λ two. map (λ three. union two three) (choose 3 board)) twos ≡ []
none_with [] board none = refl
none_with (two ∷ twos) board none = ap (λ ls. map (λ three. union two three) ls ++ flat_map (λ two. map (λ three. union two three) (choose 3 board)) twos) none ∙ none_with twos board none

pub few_own : (own board : List ℕ) → length own < 2 → value_of (omaha_high own board) ≡ 0
unfolding omaha_high
few_own own board few = rw (choose-short 2 own few) value_of-none

pub few_board : (own board : List ℕ) → length board < 3 → value_of (omaha_high own board) ≡ 0
unfolding omaha_high
few_board own board few = rw (none_with (choose 2 own) board (choose-short 3 board few)) value_of-none

pub no-five : (own board : List ℕ) → length board < 3 → fives own board ≡ []
no-five own board few = none_with (choose 2 own) board (choose-short 3 board few)

-- two own cards and three of the board are one five
pub only-five : (own board : List ℕ) → ArePlaced own board → length own ≡ 2 → length board ≡ 3 → value_of (best_high (union own board)) ≡ value_of (omaha_high own board)
only-five own board placed two three =
    let size : length (union own board) ≡ 5 = length-union own board placed.own_cards placed.board_cards (Apart-apart own board placed.apart) ∙ omega (arith, two, three) in
    let twos : choose 2 own ≡ own ∷ [] = ap (λ k. choose k own) (sym two) ∙ choose-all own in
    let threes : choose 3 board ≡ board ∷ [] = ap (λ k. choose k board) (sym three) ∙ choose-all board in
    let only : fives own board ≡ union own board ∷ [] = ap (λ ts. flat_map (λ t. map (λ u. union t u) (choose 3 board)) ts) twos ∙ ap (λ us. map (λ u. union own u) us ++ []) threes in
    ap value_of (best_high-five (union own board) size) ∙ sym (high-number own board placed ∙ ap (λ ls. greatest (map number ls)) only ∙ alone (number (union own board)))
  where
    alone : (n : ℕ) → max n 0 ≡ n
    alone n = omega arith
