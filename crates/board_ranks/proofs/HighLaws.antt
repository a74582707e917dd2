-- What own cards and a board are worth as a high, by ranks alone and as a flush, in the games with a board.
use Rattle.std.proofs.Common.{◌≡◌, ℕ, ◌+◌, ◌≤◌, ◌<◌, ◌==◌, List, [], ◌∷◌, refl, sym, ap, ◌∙◌, arith, length, map, max, cond, inl, inr, Bool, true, false}
use Rattle.std.specs.Prelude.{nat_lt, filter}
use Rattle.std.specs.Option.{option_map}
use mathlib.Core.Bool.{true≢false}
use Rattle.std.proofs.lemmas.Bool.{cases_lt}
use Rattle.card_sets.specs.Cards.{suit_of, union}
use Rattle.card_sets.specs.Games.{has_board, own_size, board_size}
use Rattle.card_sets.specs.declared.games.Game.{Game}
use Rattle.card_sets.specs.declared.games.Game.TheVariants.{Holdem, Omaha, Omaha8, Stud, Stud8, Razz, Draw5, Lowball27, Triple27}
use Rattle.rank_high.specs.High.{value_of, best_high}
use Rattle.rank_high.specs.Parts.{of_suit, count_of_suit, best_plain, suited}
use Rattle.omaha_ranks.specs.Omaha.{ArePlaced, SameRanks, omaha_high, omaha_plain, omaha_suited}
use Rattle.card_sets.proofs.CallerLemmas.{board_games, greatest, choose-short, union-IsCardSet, Apart-apart}
use Rattle.rank_high.proofs.CallerLemmas.{best_high-IsByRanksOrSuit, suited-short, best_high-number, number, ranks_decide as seven_decide, count-union}
use Rattle.omaha_ranks.proofs.CallerLemmas.{few_own, few_board, low_ranks_decide, ranks_or_a_suit, ranks_decide}
use Rattle.board_ranks.specs.BoardWith.{low_number, turned}
use Rattle.board_ranks.specs.HighParts.{high_number, plain_number, suited_number, flush_part}
use Rattle.board_ranks.proofs.SuitParts.{suit_count, suit_fewer, suit_union, suit_both, union_most}

-- a game with a board has five cards on it
pub board_is_five : (game : Game) → has_board game ≡ true → board_size game ≡ 5
board_is_five = board_games (λ game. board_size game ≡ 5) refl refl refl

-- the games in which two own cards and three of the board make a hand
abbrev pub is_omaha : Game → Bool
is_omaha Holdem = false
is_omaha Omaha = true
is_omaha Omaha8 = true
is_omaha Stud = false
is_omaha Stud8 = false
is_omaha Razz = false
is_omaha Draw5 = false
is_omaha Lowball27 = false
is_omaha Triple27 = false

-- what holds of both of these holds of each of them
omaha_games : (P : Game → Type 0) → P Omaha → P Omaha8 → (game : Game) → is_omaha game ≡ true → P game
omaha_games P four eight Holdem is = absurd (true≢false (sym is))
omaha_games P four eight Omaha is = four
omaha_games P four eight Omaha8 is = eight
omaha_games P four eight Stud is = absurd (true≢false (sym is))
omaha_games P four eight Stud8 is = absurd (true≢false (sym is))
omaha_games P four eight Razz is = absurd (true≢false (sym is))
omaha_games P four eight Draw5 is = absurd (true≢false (sym is))
omaha_games P four eight Lowball27 is = absurd (true≢false (sym is))
omaha_games P four eight Triple27 is = absurd (true≢false (sym is))

-- what holds of hold'em holds of each other game with a board
pub holdem_alone : (P : Game → Type 0) → P Holdem → (game : Game) → has_board game ≡ true → is_omaha game ≡ false → P game
holdem_alone P two = board_games (λ game. is_omaha game ≡ false → P game) (λ _. two) (λ not. absurd (true≢false not)) (λ not. absurd (true≢false not))

-- in hold'em any five of the own cards and the board, in Omaha and Omaha Hi/Lo two and three
pub holdem_high : (own board : List ℕ) → high_number Holdem own board ≡ value_of (best_high (union own board))
unfolding high_number best_high
holdem_high own board = refl

pub holdem_plain : (own board : List ℕ) → plain_number Holdem own board ≡ value_of (best_plain (union own board))
unfolding plain_number best_plain
holdem_plain own board = refl

pub holdem_suited : (own board : List ℕ) (suit : ℕ) → ArePlaced own board → suited_number Holdem own board suit ≡ suited (union own board) suit
holdem_suited own board suit placed =
    holdem_high (of_suit own suit) (of_suit board suit) ∙ ap (λ l. value_of (best_high l)) (sym (suit_union own board suit placed.own_cards placed.board_cards))

pub omaha_high_is : (game : Game) → is_omaha game ≡ true → (own board : List ℕ) → high_number game own board ≡ value_of (omaha_high own board)
unfolding high_number omaha_high
omaha_high_is game is own board = omaha_games (λ g. high_number g own board ≡ value_of (omaha_high own board)) refl refl game is

pub omaha_plain_is : (game : Game) → is_omaha game ≡ true → (own board : List ℕ) → plain_number game own board ≡ value_of (omaha_plain own board)
unfolding plain_number omaha_plain
omaha_plain_is game is own board = omaha_games (λ g. plain_number g own board ≡ value_of (omaha_plain own board)) refl refl game is

pub omaha_suited_is : (game : Game) → is_omaha game ≡ true → (own board : List ℕ) (suit : ℕ) → suited_number game own board suit ≡ omaha_suited own board suit
omaha_suited_is game is own board suit = omaha_high_is game is (of_suit own suit) (of_suit board suit)

-- the best high is the best by ranks alone, or the best of one suit
pub high_parts : (game : Game) (own board : List ℕ) → has_board game ≡ true → length own ≡ own_size game → ArePlaced own board
    → high_number game own board ≡ max (plain_number game own board) (max (max (suited_number game own board 0) (suited_number game own board 1)) (max (suited_number game own board 2) (suited_number game own board 3)))
high_parts Holdem own board is size placed =
    omega (
      arith,
      holdem_high own board,
      holdem_plain own board,
      best_high-IsByRanksOrSuit (union own board),
      holdem_suited own board 0 placed,
      holdem_suited own board 1 placed,
      holdem_suited own board 2 placed,
      holdem_suited own board 3 placed,
    )
high_parts Omaha own board is size placed =
    omega (
      arith,
      omaha_high_is Omaha refl own board,
      omaha_plain_is Omaha refl own board,
      ranks_or_a_suit own board placed,
      omaha_suited_is Omaha refl own board 0,
      omaha_suited_is Omaha refl own board 1,
      omaha_suited_is Omaha refl own board 2,
      omaha_suited_is Omaha refl own board 3,
    )
high_parts Omaha8 own board is size placed =
    omega (
      arith,
      omaha_high_is Omaha8 refl own board,
      omaha_plain_is Omaha8 refl own board,
      ranks_or_a_suit own board placed,
      omaha_suited_is Omaha8 refl own board 0,
      omaha_suited_is Omaha8 refl own board 1,
      omaha_suited_is Omaha8 refl own board 2,
      omaha_suited_is Omaha8 refl own board 3,
    )
high_parts Stud own board is size placed = absurd (true≢false (sym is))
high_parts Stud8 own board is size placed = absurd (true≢false (sym is))
high_parts Razz own board is size placed = absurd (true≢false (sym is))
high_parts Draw5 own board is size placed = absurd (true≢false (sym is))
high_parts Lowball27 own board is size placed = absurd (true≢false (sym is))
high_parts Triple27 own board is size placed = absurd (true≢false (sym is))

-- with four cards for a flush of a suit there is none
pub few_suited : (game : Game) (own board : List ℕ) (suit : ℕ) → has_board game ≡ true → ArePlaced own board → flush_part game (count_of_suit own suit) + count_of_suit board suit ≤ 4 → suit < 4 → suited_number game own board suit ≡ 0
few_suited Holdem own board suit is placed few l =
    holdem_suited own board suit placed ∙ suited-short (union own board) suit (omega (arith, suit_both own board suit placed, few))
few_suited Omaha own board suit is placed few l = elim (cases_lt (count_of_suit own suit) 2) [
  | inl short ↦ omaha_suited_is Omaha refl own board suit ∙ few_own (of_suit own suit) (of_suit board suit) (omega (arith, suit_count own suit, short))
  | inr enough ↦
      let f : nat_lt (count_of_suit own suit) 2 ≡ false = grind arith in
      let two : flush_part Omaha (count_of_suit own suit) ≡ 2 = rw f refl in
      omaha_suited_is Omaha refl own board suit ∙ few_board (of_suit own suit) (of_suit board suit) (omega (arith, suit_count board suit, two, few))
]
few_suited Omaha8 own board suit is placed few l = elim (cases_lt (count_of_suit own suit) 2) [
  | inl short ↦ omaha_suited_is Omaha8 refl own board suit ∙ few_own (of_suit own suit) (of_suit board suit) (omega (arith, suit_count own suit, short))
  | inr enough ↦
      let f : nat_lt (count_of_suit own suit) 2 ≡ false = grind arith in
      let two : flush_part Omaha8 (count_of_suit own suit) ≡ 2 = rw f refl in
      omaha_suited_is Omaha8 refl own board suit ∙ few_board (of_suit own suit) (of_suit board suit) (omega (arith, suit_count board suit, two, few))
]
few_suited Stud own board suit is placed few l = absurd (true≢false (sym is))
few_suited Stud8 own board suit is placed few l = absurd (true≢false (sym is))
few_suited Razz own board suit is placed few l = absurd (true≢false (sym is))
few_suited Draw5 own board suit is placed few l = absurd (true≢false (sym is))
few_suited Lowball27 own board suit is placed few l = absurd (true≢false (sym is))
few_suited Triple27 own board suit is placed few l = absurd (true≢false (sym is))

-- fewer than five cards are worth nothing
best_of_few : (cards : List ℕ) → length cards < 5 → value_of (best_high cards) ≡ 0
best_of_few cards few = best_high-number cards ∙ ap (λ ls. greatest (map number ls)) (choose-short 5 cards few)

-- nor with two cards of the suit on the board
pub thin_suited : (game : Game) (own board : List ℕ) (suit : ℕ) → has_board game ≡ true → length own ≡ own_size game → length (of_suit board suit) ≤ 2 → suited_number game own board suit ≡ 0
thin_suited Holdem own board suit is size thin =
    let two : length own ≡ 2 = size in
    let few : length (union (of_suit own suit) (of_suit board suit)) < 5 = omega (arith, union_most (of_suit own suit) (of_suit board suit), suit_fewer own suit, two, thin) in
    holdem_high (of_suit own suit) (of_suit board suit) ∙ best_of_few (union (of_suit own suit) (of_suit board suit)) few
thin_suited Omaha own board suit is size thin = omaha_suited_is Omaha refl own board suit ∙ few_board (of_suit own suit) (of_suit board suit) (omega (arith, thin))
thin_suited Omaha8 own board suit is size thin = omaha_suited_is Omaha8 refl own board suit ∙ few_board (of_suit own suit) (of_suit board suit) (omega (arith, thin))
thin_suited Stud own board suit is size thin = absurd (true≢false (sym is))
thin_suited Stud8 own board suit is size thin = absurd (true≢false (sym is))
thin_suited Razz own board suit is size thin = absurd (true≢false (sym is))
thin_suited Draw5 own board suit is size thin = absurd (true≢false (sym is))
thin_suited Lowball27 own board suit is size thin = absurd (true≢false (sym is))
thin_suited Triple27 own board suit is size thin = absurd (true≢false (sym is))

-- where nobody has five cards for a flush the ranks alone count
pub high_of_few : (game : Game) (own board : List ℕ) → has_board game ≡ true → length own ≡ own_size game → ArePlaced own board → ((suit : ℕ) → suit < 4 → flush_part game (count_of_suit own suit) + count_of_suit board suit ≤ 4) → high_number game own board ≡ plain_number game own board
high_of_few game own board is size placed few =
    omega (
      arith,
      high_parts game own board is size placed,
      few_suited game own board 0 is placed (few 0 (omega arith)) (omega arith),
      few_suited game own board 1 is placed (few 1 (omega arith)) (omega arith),
      few_suited game own board 2 is placed (few 2 (omega arith)) (omega arith),
      few_suited game own board 3 is placed (few 3 (omega arith)) (omega arith),
    )

filter_twice : (p : ℕ → Bool) (xs : List ℕ) → filter p (filter p xs) ≡ filter p xs
filter_twice p [] = refl
filter_twice p (x ∷ xs) = one (p x) refl (filter_twice p xs)
  where
    one : (b : Bool) → p x ≡ b → filter p (filter p xs) ≡ filter p xs → filter p (cond b (x ∷ filter p xs) (filter p xs)) ≡ cond b (x ∷ filter p xs) (filter p xs)
    one true e ih = ap (λ t. cond t (x ∷ filter p (filter p xs)) (filter p (filter p xs))) e ∙ ap (λ l. x ∷ l) ih
    one false e ih = ih

-- a flush goes by the cards of the suit alone
pub suited_again : (game : Game) (own board : List ℕ) (suit : ℕ) → suited_number game own (of_suit board suit) suit ≡ suited_number game own board suit
suited_again game own board suit = ap (λ l. high_number game (of_suit own suit) l) (filter_twice (λ c. suit_of c == suit) board)

-- boards with the same ranks are worth the same by ranks alone
pub same_plain : (game : Game) (own board other : List ℕ) → has_board game ≡ true → ArePlaced own board → ArePlaced own other → SameRanks board other → plain_number game own board ≡ plain_number game own other
same_plain Holdem own board other is placed also same =
    holdem_plain own board
    ∙ seven_decide (union own board) (union own other) (union-IsCardSet own board) (union-IsCardSet own other) (λ rank l.
    omega (arith, same rank l, count-union own board rank placed.own_cards placed.board_cards (Apart-apart own board placed.apart), count-union own other rank also.own_cards also.board_cards (Apart-apart own other also.apart)))
    ∙ sym (holdem_plain own other)
same_plain Omaha own board other is placed also same = omaha_plain_is Omaha refl own board ∙ ranks_decide own board own other placed also (λ rank l. refl) same ∙ sym (omaha_plain_is Omaha refl own other)
same_plain Omaha8 own board other is placed also same = omaha_plain_is Omaha8 refl own board ∙ ranks_decide own board own other placed also (λ rank l. refl) same ∙ sym (omaha_plain_is Omaha8 refl own other)
same_plain Stud own board other is placed also same = absurd (true≢false (sym is))
same_plain Stud8 own board other is placed also same = absurd (true≢false (sym is))
same_plain Razz own board other is placed also same = absurd (true≢false (sym is))
same_plain Draw5 own board other is placed also same = absurd (true≢false (sym is))
same_plain Lowball27 own board other is placed also same = absurd (true≢false (sym is))
same_plain Triple27 own board other is placed also same = absurd (true≢false (sym is))

-- and have the same low
pub same_low : (game : Game) (own board other : List ℕ) → has_board game ≡ true → ArePlaced own board → ArePlaced own other → SameRanks board other → low_number game own board ≡ low_number game own other
same_low Holdem own board other is placed also same = refl
same_low Omaha own board other is placed also same = refl
same_low Omaha8 own board other is placed also same =
    ap (option_map turned) (low_ranks_decide own board own other placed also (λ rank l. refl) same)
same_low Stud own board other is placed also same = absurd (true≢false (sym is))
same_low Stud8 own board other is placed also same = absurd (true≢false (sym is))
same_low Razz own board other is placed also same = absurd (true≢false (sym is))
same_low Draw5 own board other is placed also same = absurd (true≢false (sym is))
same_low Lowball27 own board other is placed also same = absurd (true≢false (sym is))
same_low Triple27 own board other is placed also same = absurd (true≢false (sym is))
