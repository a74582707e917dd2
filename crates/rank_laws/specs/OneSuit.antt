-- The worth of cards of one suit.
use Rattle.std.specs.Prelude.{true, ◌≤◌, length, ◌≡◌, ℕ, ◌==◌, List}
use Rattle.std.specs.List.{list_all}
use Rattle.card_sets.specs.Cards.{suit_of, IsRising}
use Rattle.rank_high.specs.High.{best_high, value_of}
use Rattle.rank_high.specs.Parts.{as_flush, best_plain}

-- the worth of cards of one suit by ranks alone follows from that of their straights and flushes
abbrev pub FlushesByRanks : Type 0
FlushesByRanks = (suit : ℕ) (cards : List ℕ) → IsRising cards → list_all (λ c. suit_of c == suit) cards ≡ true → 5 ≤ length cards
    → value_of (best_high cards) ≡ as_flush (value_of (best_plain cards))
