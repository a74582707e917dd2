-- The items of a range: which hands each names, and how much it adds to their weight.
use Rattle.std.specs.Prelude.{ℕ, Bool, true, false, ◌==◌, ◌-◌, ◌&&◌, ◌||◌, not, if◌then◌else◌, nat_le, nat_lt, List, [], ◌∷◌, length, position, take, drop, Option, Some, None, option_and_then}
use Rattle.card_sets.specs.Cards.{rank_of, suit_of}
use Rattle.card_sets.specs.CardText.{rank_letters, card_of_letters}
use Rattle.line_text.specs.Amounts.{digit_count, number_of}
use Rattle.range_lines.specs.declared.items.Suits.{Suits}
use Rattle.range_lines.specs.declared.items.Suits.TheVariants.{One, Two, Any}
use Rattle.range_lines.specs.declared.items.Item.{Item}
use Rattle.range_lines.specs.declared.items.Item.TheVariants.{Pairs, Ranks, Cards}
use Rattle.range_lines.specs.declared.items.Entry.{Entry}

-- the rank that a letter names
unfoldable pub rank_named : ℕ → Option ℕ
rank_named letter = position (λ c. c == letter) rank_letters

-- whether two cards are of one suit, or of two, as is asked
abbrev pub suits_fit : Suits → ℕ → ℕ → Bool
suits_fit One low high = suit_of low == suit_of high
suits_fit Two low high = not (suit_of low == suit_of high)
suits_fit Any low high = true

-- whether a rank is from one on to another
abbrev pub is_rank_from : ℕ → ℕ → ℕ → Bool
is_rank_from from to rank = nat_le from rank && nat_le rank to

-- whether an item names the hand of two cards, the lower first
abbrev pub names : Item → ℕ → ℕ → Bool
names (Pairs from to) low high = (rank_of low == rank_of high) && is_rank_from from to (rank_of low)
names (Ranks top from to suits) low high =
    (rank_of high == top) && (is_rank_from from to (rank_of low) && suits_fit suits low high)
names (Cards a b) low high = ((low == a) && (high == b)) || ((low == b) && (high == a))

-- the item of two ranks, the higher first: with `up` the pairs from one on, or each second rank from one on to that below the first
abbrev pub ranks_item : ℕ → ℕ → Suits → Bool → Option Item
ranks_item top low suits up =
    if nat_lt low top then Some (Ranks top low (if up then top - 1 else low) suits) else None

-- the item of two letters of ranks, with no suits
abbrev pub plain_item : ℕ → ℕ → Bool → Option Item
plain_item a b up =
    option_and_then (λ top. option_and_then (λ low.
    if top == low then Some (Pairs low (if up then 12 else low))
    else ranks_item top low Any up) (rank_named b)) (rank_named a)

-- how a letter says that the suits are: `s` for one suit, `o` for two
abbrev pub suits_named : ℕ → Option Suits
suits_named letter = if letter == 115 then Some One else (if letter == 111 then Some Two else None)

-- the item of two letters of ranks and one of suits
abbrev pub suited_item : ℕ → ℕ → ℕ → Bool → Option Item
suited_item a b c up =
    option_and_then (λ top. option_and_then (λ low. option_and_then (λ suits.
    ranks_item top low suits up) (suits_named c)) (rank_named b)) (rank_named a)

-- the item of two cards, which are different
abbrev pub cards_item : ℕ → ℕ → ℕ → ℕ → Option Item
cards_item a b c d =
    option_and_then (λ first. option_and_then (λ second.
    if first == second then None else Some (Cards first second)) (card_of_letters c d))
    (card_of_letters a b)

-- the item of a text without a weight; a plus after it is a 43
abbrev pub item_of : List ℕ → Option Item
item_of (a ∷ b ∷ []) = plain_item a b false
item_of (a ∷ b ∷ c ∷ []) = if c == 43 then plain_item a b true else suited_item a b c false
item_of (a ∷ b ∷ c ∷ d ∷ []) = if d == 43 then suited_item a b c true else cards_item a b c d
item_of text = None

-- the weight that digits say, from 1 to 100
abbrev pub weight_named : List ℕ → Option ℕ
weight_named text =
    if (digit_count text == length text)
    && (nat_le 1 (number_of text) && nat_le (number_of text) 100)
    then Some (number_of text) else None

-- a colon
abbrev pub is_colon : ℕ → Bool
is_colon byte = byte == 58

-- an item with its weight
abbrev pub entry_with : Option ℕ → Option Item → Option Entry
entry_with weight item =
    option_and_then (λ w. option_and_then (λ i. Some (record { item = i; weight = w })) item) weight

-- what a text says: an item, with the weight after the first colon, or else 1
abbrev pub entry_at : Option ℕ → List ℕ → Option Entry
entry_at None text = entry_with (Some 1) (item_of text)
entry_at (Some place) text =
    entry_with (weight_named (drop 1 (drop place text))) (item_of (take place text))

abbrev pub entry_of : List ℕ → Option Entry
entry_of text = entry_at (position is_colon text) text
