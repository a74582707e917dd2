-- Sets of players, as numbers: bit p for player p. A player's number is their seat, 1 to 10, or their hand in a deal, 0
-- to 9.
use Rattle.std.specs.Prelude.{ℕ, zero, suc, ◌+◌, ◌^◌, ◌<◌, ◌==◌, ◌||◌, ◌&&◌, not, Bool, if◌then◌else◌, List, [], ◌∷◌, nat_lt}
use Rattle.std.specs.List.{list_all, sum_by}
use Rattle.std.specs.Int.{bit_at}
use Rattle.card_sets.specs.Cards.{cards_below}

-- the player is in the set
abbrev pub has_player : ℕ → ℕ → Bool
has_player set player = bit_at set player == 1

-- the set of the players below n that pass a test
abbrev pub players_where : (ℕ → Bool) → ℕ → ℕ
players_where test zero = 0
players_where test (suc n) = players_where test n + (if test n then 2 ^ n else 0)

-- the set with one more player
unfoldable pub with_player : ℕ → ℕ → ℕ
with_player set player = players_where (λ p. (p == player) || has_player set p) 16

-- the set without a player
unfoldable pub without_player : ℕ → ℕ → ℕ
without_player set player = players_where (λ p. not (p == player) && has_player set p) 16

-- the players of a set among the n numbers from p on, rising
abbrev pub players_from : ℕ → ℕ → ℕ → List ℕ
players_from set p zero = []
players_from set p (suc n) = if has_player set p then p ∷ players_from set (p + 1) n else players_from set (p + 1) n

-- all players of a set, rising
unfoldable pub players_in : ℕ → List ℕ
players_in set = players_from set 0 16

-- the seats of a set, 1 to 10, rising
abbrev pub seats_in : ℕ → List ℕ
seats_in set = players_from set 1 10

-- the hands of a set below n, rising
abbrev pub hands_below : ℕ → ℕ → List ℕ
hands_below set n = cards_below (has_player set) n

-- the hands of a set, rising; there are at most ten
abbrev pub hands_of : ℕ → List ℕ
hands_of set = hands_below set 10

-- some players, each once, as a set
abbrev pub set_of_players : List ℕ → ℕ
set_of_players players = sum_by (λ player. 2 ^ player) players

-- every hand of each set is below a count
abbrev pub all_within : ℕ → List ℕ → Bool
all_within count sets = list_all (λ set. nat_lt set (2 ^ count)) sets

-- each of some players has a number below n
abbrev pub AreBelow : ℕ → List ℕ → Type 0
AreBelow n [] = Unit {0}
AreBelow n (player ∷ players) = (player < n) × AreBelow n players
