-- What a hand is worth with the cards that it draws, in the games without a board.
use Rattle.std.specs.Prelude.{◌≡◌, ℕ, zero, suc, ◌+◌, ◌-◌, ◌<◌, ◌≤◌, List, [], ◌∷◌, length, Option, Some, None, slice_index, slice_index_or}
use Rattle.std.specs.Option.{option_map}
use Rattle.card_sets.specs.Cards.{union, with_card, IsRising}
use Rattle.card_sets.specs.Games.{own_size}
use Rattle.card_sets.specs.State.{State}
use Rattle.card_sets.specs.declared.games.Game.{Game}
use Rattle.card_sets.specs.declared.games.Side.{Side}
use Rattle.showdown_tally.specs.Numbers.{side_number}
use Rattle.showdown_tally.specs.Showdown.{best, own_after}

-- a number that there may be, or else 0
abbrev pub or_zero : Option ℕ → ℕ
or_zero None = 0
or_zero (Some n) = n

-- the number that a full hand's value on a side is kept as, 0 for none
abbrev pub full_worth : Side → Game → List ℕ → ℕ
full_worth side game full = or_zero (option_map (side_number side game) (best side game full []))

-- what a hand is worth with the cards that it draws
abbrev pub worth : Side → Game → List ℕ → List ℕ → ℕ
worth side game own draw = full_worth side game (union own draw)

-- what a hand is worth after a runout
abbrev pub worth_after : Side → State → List (List ℕ) → ℕ → ℕ
worth_after side state runout h = full_worth side state.game (own_after state runout h)

-- cards that make a hand full
pub record IsDraw (game : Game) (own draw : List ℕ) : Type 0 where
  pub rising : IsRising draw
  pub full : length (union own draw) ≡ own_size game

-- the number of a draw of two cards, in a table by the lower card and the higher one, where the rows of the table begin at one
abbrev pub number_at : List (List ℕ) → ℕ → List ℕ → ℕ
number_at rows base [] = 0
number_at rows base (card ∷ []) = 0
number_at rows base (low ∷ high ∷ more) = slice_index (slice_index_or rows (base + low) []) high

-- where the table of two cards above a lowest card begins among the tables of three cards, which share the rows that they don't use
unfoldable pub plane_base : ℕ → ℕ
plane_base zero = 0
plane_base (suc n) = plane_base n + (50 - n)

-- the number of a draw of one to three cards: those of one card have the first row, and of three there is a table for each lowest card
abbrev pub number_of : List (List ℕ) → List (List ℕ) → List ℕ → ℕ
number_of rows planes [] = 0
number_of rows planes (card ∷ []) = slice_index (slice_index_or rows 0 []) card
number_of rows planes (low ∷ high ∷ []) = number_at rows 0 (low ∷ high ∷ [])
number_of rows planes (low ∷ mid ∷ high ∷ more) = number_at planes (plane_base low) (mid ∷ high ∷ more)

-- the tables have what a hand is worth on a side with each draw of `count` cards
abbrev pub AreNumbers : ℕ → Side → Game → List ℕ → List (List ℕ) → List (List ℕ) → Type 0
AreNumbers count side game own rows planes = (draw : List ℕ) → 0 < count → length draw ≡ count → IsDraw game own draw → number_of rows planes draw ≡ worth side game own draw

-- the table has what a hand is worth on a side with two cards, of which the lower isn't below one
abbrev pub ArePairsFrom : ℕ → Side → Game → List ℕ → List (List ℕ) → ℕ → Type 0
ArePairsFrom least side game own rows base = (low high : ℕ) → least ≤ low → low + 1 ≤ high → high < 52 → length (with_card (with_card own low) high) ≡ own_size game
    → slice_index (slice_index_or rows (base + low) []) high ≡ full_worth side game (with_card (with_card own low) high)
