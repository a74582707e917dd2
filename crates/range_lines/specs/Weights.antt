-- The weights of all hands in a table by their two cards, and which hands an item may name.
use Rattle.std.specs.Prelude.{ℕ, Bool, ◌+◌, ◌*◌, ◌<◌, ◌≤◌, ◌==◌, ◌||◌, ◌≡◌, if◌then◌else◌, List, length, map, slice_index}
use Rattle.card_sets.specs.Cards.{rank_of}
use Rattle.range_lines.specs.declared.items.Item.{Item}
use Rattle.range_lines.specs.declared.items.Item.TheVariants.{Pairs, Ranks, Cards}
use Rattle.range_lines.specs.declared.items.Entry.{Entry}
use Rattle.range_lines.specs.declared.pairs.Pair.{Pair}
use Rattle.range_lines.specs.Hands.{all_pairs, amount}
use Rattle.range_lines.specs.Items.{is_rank_from}

-- the weight of the hand of two cards, the lower first, in a table of 52 weights for each lower card
abbrev pub weight_at : List ℕ → ℕ → ℕ → ℕ
weight_at cells low high = slice_index cells (52 * low + high)

-- a hand with its weight in a table, and all hands with theirs
abbrev pub with_weight : List ℕ → Pair → Pair
with_weight cells p = record { low = p.low; high = p.high; weight = weight_at cells p.low p.high }

abbrev pub pairs_in : List ℕ → List Pair
pairs_in cells = map (with_weight cells) all_pairs

-- whether a card is the lower card of a hand that an item may name
abbrev pub has_low : Item → ℕ → Bool
has_low (Pairs from to) low = is_rank_from from to (rank_of low)
has_low (Ranks top from to suits) low = is_rank_from from to (rank_of low)
has_low (Cards a b) low = (low == a) || (low == b)

-- the rank of the higher card of each hand that an item names with a lower card
abbrev pub rank_beside : Item → ℕ → ℕ
rank_beside (Pairs from to) low = rank_of low
rank_beside (Ranks top from to suits) low = top
rank_beside (Cards a b) low = if low == a then rank_of b else rank_of a

-- a table in which no hand weighs more than 100
pub record IsTable (cells : List ℕ) : Type 0 where
  pub room : length cells ≡ 52 * 52
  pub light : (low high : ℕ) → low < high → high < 52 → weight_at cells low high ≤ 100

-- the hands that pass a test by their cards weigh more in a table than in the one before, by as much as an item adds
abbrev pub AddedWhere : Entry → (ℕ → ℕ → Bool) → List ℕ → List ℕ → Type 0
AddedWhere entry test old new =
    (low high : ℕ) → low < high → high < 52
    → weight_at new low high ≡ weight_at old low high + (if test low high then amount entry low high else 0)

-- a hand with a lower card that would weigh more than 100 with an item, and any such hand
pub record HeavyBeside (entry : Entry) (cells : List ℕ) (low : ℕ) : Type 0 where
  pub high : ℕ
  pub order : low < high
  pub deck : high < 52
  pub heavy : 100 < weight_at cells low high + amount entry low high

abbrev pub Heavy : Entry → List ℕ → Type 0
Heavy entry cells = (low : ℕ) × HeavyBeside entry cells low
