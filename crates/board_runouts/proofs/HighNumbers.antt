-- The number that a low is kept as, and highs of boards that have three cards of one suit at the most.
use Rattle.std.proofs.Common.{◌≡◌, ℕ, zero, suc, ◌<◌, List, refl, ap, ◌∙◌, arith, length, max, true, Option, Some, None}
use Rattle.std.specs.Option.{option_map}
use Rattle.card_sets.proofs.CallerLemmas.{board_games}
use Rattle.card_sets.specs.Games.{has_board, own_size}
use Rattle.card_sets.specs.declared.games.Game.{Game}
use Rattle.card_sets.specs.declared.games.Game.TheVariants.{Omaha8}
use Rattle.card_sets.specs.declared.games.Side.TheVariants.{Low}
use Rattle.rank_low.specs.Low.{ace_number}
use Rattle.omaha_ranks.specs.Omaha.{ArePlaced}
use Rattle.board_ranks.specs.BoardWith.{low_number, turned}
use Rattle.board_ranks.specs.HighParts.{high_number, plain_number, suited_number}
use Rattle.board_ranks.proofs.CallerLemmas.{high_parts, thin_suited}
use Rattle.showdown_tally.specs.Flushes.{IsOnlySuit}
use Rattle.showdown_tally.specs.Numbers.{side_number}
use Rattle.showdown_tally.specs.Showdown.{best}

-- where the board has no three of a suit the ranks alone count
pub high_no_suit : (game : Game) (own board : List ℕ) → has_board game ≡ true → length own ≡ own_size game → ArePlaced own board → IsOnlySuit board None → high_number game own board ≡ plain_number game own board
high_no_suit game own board is size placed only =
    omega (
      arith,
      high_parts game own board is size placed,
      thin_suited game own board 0 is size (only 0 (omega arith)),
      thin_suited game own board 1 is size (only 1 (omega arith)),
      thin_suited game own board 2 is size (only 2 (omega arith)),
      thin_suited game own board 3 is size (only 3 (omega arith)),
    )

only_one : (f : ℕ → ℕ) (only : ℕ) → only < 4 → ((k : ℕ) → k < 4 → (k ≡ only → ⊥) → f k ≡ 0) → max (max (f 0) (f 1)) (max (f 2) (f 3)) ≡ f only
only_one f zero l none = omega (arith, none 1 (omega arith) (λ e. omega arith), none 2 (omega arith) (λ e. omega arith), none 3 (omega arith) (λ e. omega arith))
only_one f (suc zero) l none = omega (arith, none 0 (omega arith) (λ e. omega arith), none 2 (omega arith) (λ e. omega arith), none 3 (omega arith) (λ e. omega arith))
only_one f (suc (suc zero)) l none = omega (arith, none 0 (omega arith) (λ e. omega arith), none 1 (omega arith) (λ e. omega arith), none 3 (omega arith) (λ e. omega arith))
only_one f (suc (suc (suc zero))) l none = omega (arith, none 0 (omega arith) (λ e. omega arith), none 1 (omega arith) (λ e. omega arith), none 2 (omega arith) (λ e. omega arith))
only_one f (suc (suc (suc (suc n)))) l none = absurd (omega arith)

-- where it has three of one suit alone, the flush of it counts too
pub high_one_suit : (game : Game) (own board : List ℕ) (suit : ℕ) → has_board game ≡ true → length own ≡ own_size game → ArePlaced own board → IsOnlySuit board (Some suit) → high_number game own board ≡ max (plain_number game own board) (suited_number game own board suit)
high_one_suit game own board suit is size placed only =
    high_parts game own board is size placed
    ∙ ap (λ n. max (plain_number game own board) n) (only_one (suited_number game own board) suit only.0 (λ k l other. thin_suited game own board k is size (only.1 k l other)))

composed : (f : ℕ → ℕ) (h : List ℕ → ℕ) (o : Option (List ℕ)) → option_map f (option_map h o) ≡ option_map (λ x. f (h x)) o
composed f h None = refl
composed f h (Some x) = refl

-- the number that a low is kept as
pub low_is : (game : Game) (own board : List ℕ) → has_board game ≡ true → low_number game own board ≡ option_map (side_number Low game) (best Low game own board)
low_is game own board = board_games (λ g. low_number g own board ≡ option_map (side_number Low g) (best Low g own board)) refl refl (composed turned ace_number (best Low Omaha8 own board)) game
