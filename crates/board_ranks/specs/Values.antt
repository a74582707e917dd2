-- What some cards are worth with two more, by the ranks of the two alone.
use Rattle.std.specs.Prelude.{◌≡◌, ℕ, ◌+◌, ◌<◌, ◌==◌, if◌then◌else◌, List}
use Rattle.card_sets.specs.Cards.{IsCardSet}
use Rattle.rank_high.specs.High.{count_of_rank, value_of}
use Rattle.rank_high.specs.Parts.{best_plain}

-- one card of a rank or of a suit, or none
abbrev pub one_of : ℕ → ℕ → ℕ
one_of kind k = if kind == k then 1 else 0

-- the full set has the ranks of the cards, and one card of each of two ranks more
abbrev pub IsWith : List ℕ → ℕ → ℕ → List ℕ → Type 0
IsWith cards low high full = (r : ℕ) → r < 13 → count_of_rank full r ≡ count_of_rank cards r + one_of low r + one_of high r

-- a number is what the cards with two more of these ranks are worth, if there were no flushes, whichever cards they are
abbrev pub IsValueWith : List ℕ → ℕ → ℕ → ℕ → Type 0
IsValueWith cards low high value = (full : List ℕ) → IsCardSet full → IsWith cards low high full → value ≡ value_of (best_plain full)
