-- The hands of a range and their weights.
use Rattle.std.specs.Prelude.{ℕ, Bool, ◌&&◌, ◌+◌, if◌then◌else◌, nat_le, nat_lt, List, [], ◌∷◌, map, Option, Some, None, is_some}
use Rattle.std.specs.List.{list_all, filter_map, flat_map, sum_by}
use Rattle.card_sets.specs.Cards.{deck, cards_above}
use Rattle.card_sets.specs.Disjoint.{apart}
use Rattle.spot_text.specs.Parts.{set_of}
use Rattle.range_lines.specs.declared.items.Entry.{Entry}
use Rattle.range_lines.specs.declared.pairs.Pair.{Pair}
use Rattle.range_lines.specs.declared.spot.Weighted.{Weighted}
use Rattle.range_lines.specs.Items.{names, entry_of}
use Rattle.range_lines.specs.Texts.{texts_of}

-- two cards with no weight
abbrev pub pair : ℕ → ℕ → Pair
pair low high = record { low = low; high = high; weight = 0 }

-- all hands of two cards, rising: by the lower card, and then by the higher one
abbrev pub pairs_of : ℕ → List Pair
pairs_of low = map (λ high. pair low high) (cards_above deck low)

unfoldable pub all_pairs : List Pair
all_pairs = flat_map pairs_of deck

-- how much an item adds to the weight of a hand
abbrev pub amount : Entry → ℕ → ℕ → ℕ
amount entry low high = if names entry.item low high then entry.weight else 0

-- the weight of a hand is what the items add up to
abbrev pub weight_in : List Entry → ℕ → ℕ → ℕ
weight_in entries low high = sum_by (λ entry. amount entry low high) entries

-- a hand with its weight
abbrev pub weighed : List Entry → Pair → Pair
weighed entries p = record { low = p.low; high = p.high; weight = weight_in entries p.low p.high }

-- a hand with no weight; with the weight of one item more; and whether it then weighs at most 100
abbrev pub cleared : Pair → Pair
cleared p = pair p.low p.high

abbrev pub added : Entry → Pair → Pair
added entry p = record { low = p.low; high = p.high; weight = p.weight + amount entry p.low p.high }

abbrev pub has_room : Entry → Pair → Bool
has_room entry p = nat_le (p.weight + amount entry p.low p.high) 100

-- the items of a word
abbrev pub entries_of : List ℕ → List Entry
entries_of word = filter_map entry_of (texts_of word)

-- whether a word is a range: each of its texts is an item, and no hand weighs more than 100
abbrev pub are_items : List ℕ → Bool
are_items word = list_all (λ text. is_some (entry_of text)) (texts_of word)

abbrev pub are_light : List Entry → Bool
are_light entries = list_all (λ p. nat_le (weight_in entries p.low p.high) 100) all_pairs

abbrev pub is_range : List ℕ → Bool
is_range word = are_items word && are_light (entries_of word)

-- a hand of a range, if it has a weight and meets neither the board nor the dead cards
abbrev pub hand_of : List ℕ → List ℕ → Pair → Option Weighted
hand_of board dead p =
    let hand = set_of (p.low ∷ p.high ∷ []) in
    if nat_lt 0 p.weight && (apart hand board && apart hand dead)
    then Some (record { hand = hand; weight = p.weight }) else None

-- the hands of a range, rising
abbrev pub hands_of : List ℕ → List ℕ → List ℕ → List Weighted
hands_of board dead word =
    filter_map (hand_of board dead) (map (weighed (entries_of word)) all_pairs)
