-- What the calls of a crate below find, in the words of the games with a board.
use Rattle.std.proofs.Common.{◌≡◌, ℕ, ◌+◌, ◌<◌, ◌≤◌, List, refl, ap, ◌∙◌, arith, length, inl, inr, true, false, ◌⊎◌}
use Rattle.std.specs.Prelude.{nat_lt}
use mathlib.Core.Bool.{true≢false}
use Rattle.card_sets.specs.Cards.{union}
use Rattle.card_sets.specs.Games.{has_board, own_size}
use Rattle.card_sets.specs.declared.games.Game.{Game}
use Rattle.card_sets.specs.declared.games.Game.TheVariants.{Holdem, Omaha, Omaha8, Stud, Stud8, Razz, Draw5, Lowball27, Triple27}
use Rattle.rank_high.specs.High.{value_of, best_high}
use Rattle.rank_high.specs.Parts.{best_plain, suited}
use Rattle.card_sets.proofs.CallerLemmas.{Apart-apart, length-union}
use Rattle.omaha_ranks.specs.Omaha.{ArePlaced}
use Rattle.board_ranks.specs.HighParts.{high_number, plain_number, suited_number, flush_part}
use Rattle.board_ranks.proofs.HighLaws.{is_omaha, holdem_alone, holdem_high, holdem_plain, holdem_suited}

-- the games in which any five make a hand, and those in which two own cards and three of the board do
abbrev pub IsAnyFive : Game → Type 0
IsAnyFive game = (game ≡ Holdem) ⊎ ((game ≡ Stud) ⊎ ((game ≡ Stud8) ⊎ ((game ≡ Razz) ⊎ ((game ≡ Draw5) ⊎ ((game ≡ Lowball27) ⊎ (game ≡ Triple27))))))

abbrev pub IsTwoAndThree : Game → Type 0
IsTwoAndThree game = (game ≡ Omaha) ⊎ (game ≡ Omaha8)

pub not_omaha : (game : Game) → IsAnyFive game → is_omaha game ≡ false
not_omaha game (inl e) = ap is_omaha e
not_omaha game (inr (inl e)) = ap is_omaha e
not_omaha game (inr (inr (inl e))) = ap is_omaha e
not_omaha game (inr (inr (inr (inl e)))) = ap is_omaha e
not_omaha game (inr (inr (inr (inr (inl e))))) = ap is_omaha e
not_omaha game (inr (inr (inr (inr (inr (inl e)))))) = ap is_omaha e
not_omaha game (inr (inr (inr (inr (inr (inr e)))))) = ap is_omaha e

pub as_omaha : (game : Game) → IsTwoAndThree game → is_omaha game ≡ true
as_omaha game (inl e) = ap is_omaha e
as_omaha game (inr e) = ap is_omaha e

pub four_own : (game : Game) → IsTwoAndThree game → own_size game ≡ 4
four_own game (inl e) = ap own_size e
four_own game (inr e) = ap own_size e

-- in a game with a board that isn't Omaha or Omaha Hi/Lo a player has two cards, and any five of the seven may make a hand
pub two_own : (game : Game) → has_board game ≡ true → is_omaha game ≡ false → own_size game ≡ 2
two_own = holdem_alone (λ game. own_size game ≡ 2) refl

pub any_plain : (game : Game) (own board : List ℕ) → has_board game ≡ true → is_omaha game ≡ false → plain_number game own board ≡ value_of (best_plain (union own board))
any_plain game own board = holdem_alone (λ g. plain_number g own board ≡ value_of (best_plain (union own board))) (holdem_plain own board) game

pub any_suited : (game : Game) (own board : List ℕ) (suit : ℕ) → has_board game ≡ true → is_omaha game ≡ false → ArePlaced own board → suited_number game own board suit ≡ suited (union own board) suit
any_suited game own board suit is not placed = holdem_alone (λ g. suited_number g own board suit ≡ suited (union own board) suit) (holdem_suited own board suit placed) game is not

pub any_high : (game : Game) (own board : List ℕ) → has_board game ≡ true → is_omaha game ≡ false → high_number game own board ≡ value_of (best_high (union own board))
any_high game own board = holdem_alone (λ g. high_number g own board ≡ value_of (best_high (union own board))) (holdem_high own board) game

-- how many own cards of a suit a flush may have
pub any_part : (game : Game) (own : ℕ) → is_omaha game ≡ false → flush_part game own ≡ own
any_part Holdem own not = refl
any_part Omaha own not = absurd (true≢false not)
any_part Omaha8 own not = absurd (true≢false not)
any_part Stud own not = refl
any_part Stud8 own not = refl
any_part Razz own not = refl
any_part Draw5 own not = refl
any_part Lowball27 own not = refl
any_part Triple27 own not = refl

pub none_part : (game : Game) (own : ℕ) → IsTwoAndThree game → own < 2 → flush_part game own ≡ 0
none_part game own (inl is) few = let t : nat_lt own 2 ≡ true = grind arith in ap (λ g. flush_part g own) is ∙ rw t refl
none_part game own (inr is) few = let t : nat_lt own 2 ≡ true = grind arith in ap (λ g. flush_part g own) is ∙ rw t refl

pub two_part : (game : Game) (own : ℕ) → IsTwoAndThree game → 2 ≤ own → flush_part game own ≡ 2
two_part game own (inl is) enough = let f : nat_lt own 2 ≡ false = grind arith in ap (λ g. flush_part g own) is ∙ rw f refl
two_part game own (inr is) enough = let f : nat_lt own 2 ≡ false = grind arith in ap (λ g. flush_part g own) is ∙ rw f refl

pub together : (own board : List ℕ) → ArePlaced own board → length (union own board) ≡ length own + length board
together own board placed = length-union own board placed.own_cards placed.board_cards (Apart-apart own board placed.apart)
