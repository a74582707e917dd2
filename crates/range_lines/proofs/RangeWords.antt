-- The words of the ranges, word by word.
use Rattle.std.proofs.Common.{◌≡◌, ℕ, true, false, ◌||◌, ◌&&◌, List, [], ◌∷◌, refl, ap, ◌∙◌}
use Rattle.std.specs.List.{flat_map, list_all, onto_first}
use Rattle.spot_text.specs.Parts.{is_slash, is_dashes, is_dash, hand_words, board_words, dead_words, all_cards, cards_of, in_form}
use Rattle.spot_text.proofs.CallerLemmas.{hands_end, hands_dash, hands_card, none_first, cards_split, parts_same}
use Rattle.spot_text.specs.Spot.{repeated_after}
use Rattle.range_lines.specs.RangeSpot.{range_words, table_cards}

pub ranges_end : (w : List ℕ) (ws left : List (List ℕ)) → left ≡ w ∷ ws → (is_slash w || is_dashes w) ≡ true → range_words left ≡ []
ranges_end w ws left more end = ap range_words more ∙ ap (flat_map (λ hand. hand)) (hands_end w ws end)

pub ranges_all : (left : List (List ℕ)) → left ≡ [] → range_words left ≡ []
ranges_all left none = ap range_words none ∙ ap (flat_map (λ hand. hand)) none_first.0

pub ranges_dash : (w : List ℕ) (ws left : List (List ℕ)) → left ≡ w ∷ ws → (is_slash w || is_dashes w) ≡ false → is_dash w ≡ true → range_words left ≡ range_words ws
ranges_dash w ws left more on dash = ap range_words more ∙ ap (flat_map (λ hand. hand)) (hands_dash w ws on dash)

onto_flat : (w : List ℕ) (hands : List (List (List ℕ))) → flat_map (λ hand. hand) (onto_first w hands) ≡ w ∷ flat_map (λ hand. hand) hands
onto_flat w [] = refl
onto_flat w (hand ∷ hands) = refl

pub ranges_word : (w : List ℕ) (ws left : List (List ℕ)) → left ≡ w ∷ ws → (is_slash w || is_dashes w) ≡ false → is_dash w ≡ false → range_words left ≡ w ∷ range_words ws
ranges_word w ws left more on dash = ap range_words more ∙ ap (flat_map (λ hand. hand)) (hands_card w ws on dash) ∙ onto_flat w (hand_words ws)

-- words without a hand: the words that are cards are those of the board and the dead cards
pub table_form : (table others : List (List ℕ)) → hand_words table ≡ [] ∷ [] → board_words table ≡ board_words others → dead_words table ≡ dead_words others →
    in_form table ≡ (all_cards (board_words others) && all_cards (dead_words others))
table_form table others hands board dead =
    ap (λ h. list_all all_cards h && (all_cards (board_words table) && all_cards (dead_words table))) hands
    ∙ ap (λ b. all_cards b && all_cards (dead_words table)) board
    ∙ ap (λ d. all_cards (board_words others) && all_cards d) dead

pub table_repeats : (table others : List (List ℕ)) → hand_words table ≡ [] ∷ [] → board_words table ≡ board_words others → dead_words table ≡ dead_words others →
    repeated_after [] (cards_of table) ≡ repeated_after [] (table_cards others)
table_repeats table others hands board dead =
    ap (repeated_after []) (cards_split table ∙ parts_same (hand_words table) ([] ∷ []) (board_words table) (board_words others) (dead_words table) (dead_words others) hands board dead)
