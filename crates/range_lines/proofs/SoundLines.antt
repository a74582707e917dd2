-- What a line says of ranges may be dealt.
use Rattle.std.proofs.Common.{◌≡◌, ℕ, suc, ◌+◌, ◌-◌, ◌*◌, ◌<◌, ◌≤◌, Bool, true, false, cond, ◌&&◌, ◌==◌, List, [], ◌∷◌, map, length, refl, sym, ap, ◌∙◌, subst, length-append, Some, None, arith}
use Rattle.std.specs.Prelude.{Option, Ok, Err, nat_le, nat_lt, is_none}
use Rattle.std.specs.List.{list_all, filter_map, flat_map, cons_option}
use Rattle.std.specs.Str.{bytes_eq}
use Rattle.std.proofs.lemmas.Bool.{ltb-true, leb-true, and_from}
use Rattle.std.proofs.lemmas.List.{length-map}
use Rattle.card_sets.specs.Bits.{IsCardSet-cards_where}
use Rattle.card_sets.specs.Cards.{has_card}
use Rattle.card_sets.specs.Disjoint.{apart}
use Rattle.card_sets.specs.Games.{game_word}
use Rattle.card_sets.specs.Rising.{rising-IsCardSet}
use Rattle.card_sets.specs.declared.games.Game.TheVariants.{Holdem}
use Rattle.card_sets.proofs.CallerLemmas.{and_first, and_second}
use Rattle.spot_text.proofs.CallerLemmas.{length-set_whole, cards_named, none_repeated}
use Rattle.spot_text.specs.Games.{board_fits}
use Rattle.spot_text.specs.Parts.{hand_words, board_words, dead_words, all_cards, cards_of, set_of}
use Rattle.spot_text.specs.Spot.{all_differ, repeated_after}
use Rattle.spot_text.specs.Words.{words}
use Rattle.range_lines.specs.declared.faults.RangeFault.TheVariants.{UnknownWord, BadCard, BadRange, BoardSize, PlayerCount, DeckShort}
use Rattle.range_lines.specs.declared.items.Entry.{Entry}
use Rattle.range_lines.specs.declared.pairs.Pair.{Pair}
use Rattle.range_lines.specs.declared.spot.Weighted.{Weighted}
use Rattle.range_lines.specs.Hands.{all_pairs, weight_in, weighed, entries_of, are_items, are_light, is_range, hand_of, hands_of}
use Rattle.range_lines.specs.Sound.{IsHand, AreHands, place_of, are_rising, IsRangeBeside, AreRanges, IsSound}
use Rattle.range_lines.specs.RangeSpot.{Ranges, is_one_word, is_form, range_words, table_cards, are_few, is_dealt_out, ranges_of_words, unless_dealt_out, ranges_of_sizes, unless_repeated, ranges_behind, ranges_of_line_words, ranges_of}
use Rattle.range_lines.proofs.PairOrder.{InOrder, pairs_in_order, pairs_few}
use Rattle.range_lines.proofs.SetsOfCards.{differ_append, sets_apart}

-- a set of two cards is these two
set_two : (low high : ℕ) → low < high → high < 52 → set_of (low ∷ high ∷ []) ≡ low ∷ high ∷ []
set_two low high l h = rising-IsCardSet (low ∷ high ∷ []) (omega arith, omega (arith, l, h), (omega (arith, l), h, tt))

-- hands in their order, none before a place
abbrev RisesFrom : ℕ → List Weighted → Type 0
RisesFrom from [] = Unit {0}
RisesFrom from (w ∷ hands) = (from ≤ place_of w.hand) × RisesFrom (place_of w.hand + 1) hands

rises_lower : (from to : ℕ) (hands : List Weighted) → to ≤ from → RisesFrom from hands → RisesFrom to hands
rises_lower from to [] h r = tt
rises_lower from to (w ∷ hands) h r = (omega (arith, h, r.0), r.1)

-- the hands that some items name
hands_stand : (board dead : List ℕ) (entries : List Entry) (from : ℕ) (ps : List Pair) → InOrder from ps → list_all (λ p. nat_le (weight_in entries p.low p.high) 100) ps ≡ true →
    AreHands board dead (filter_map (hand_of board dead) (map (weighed entries) ps)) × RisesFrom from (filter_map (hand_of board dead) (map (weighed entries) ps))
hands_stand board dead entries from [] o light = (tt, tt)
hands_stand board dead entries from (p ∷ ps) o light =
    one (nat_lt 0 (weight_in entries p.low p.high) && (apart (set_of (p.low ∷ p.high ∷ [])) board && apart (set_of (p.low ∷ p.high ∷ [])) dead)) refl
    (hands_stand board dead entries (52 * p.low + p.high + 1) ps o.3 (and_second (nat_le (weight_in entries p.low p.high) 100) (list_all (λ q. nat_le (weight_in entries q.low q.high) 100) ps) light))
  where
    one : (b : Bool) → (nat_lt 0 (weight_in entries p.low p.high) && (apart (set_of (p.low ∷ p.high ∷ [])) board && apart (set_of (p.low ∷ p.high ∷ [])) dead)) ≡ b →
        AreHands board dead (filter_map (hand_of board dead) (map (weighed entries) ps)) × RisesFrom (52 * p.low + p.high + 1) (filter_map (hand_of board dead) (map (weighed entries) ps)) →
        AreHands board dead (cons_option (cond b (Some (record { hand = set_of (p.low ∷ p.high ∷ []); weight = weight_in entries p.low p.high })) None) (filter_map (hand_of board dead) (map (weighed entries) ps)))
        × RisesFrom from (cons_option (cond b (Some (record { hand = set_of (p.low ∷ p.high ∷ []); weight = weight_in entries p.low p.high })) None) (filter_map (hand_of board dead) (map (weighed entries) ps)))
    one true e rest =
        let hand = set_of (p.low ∷ p.high ∷ []) in
        let two : hand ≡ p.low ∷ p.high ∷ [] = set_two p.low p.high o.0 o.1 in
        let place : place_of hand ≡ 52 * p.low + p.high = ap place_of two in
        let off = and_second (nat_lt 0 (weight_in entries p.low p.high)) (apart hand board && apart hand dead) e in
        let here : IsHand board dead (record { hand = hand; weight = weight_in entries p.low p.high }) = record {
          set = IsCardSet-cards_where (has_card (p.low ∷ p.high ∷ []));
          two = ap length two;
          off_board = and_first (apart hand board) (apart hand dead) off;
          off_dead = and_second (apart hand board) (apart hand dead) off;
          some = ltb-true 0 (weight_in entries p.low p.high) (and_first (nat_lt 0 (weight_in entries p.low p.high)) (apart hand board && apart hand dead) e);
          light = leb-true (weight_in entries p.low p.high) 100 (and_first (nat_le (weight_in entries p.low p.high) 100) (list_all (λ q. nat_le (weight_in entries q.low q.high) 100) ps) light);
        } in
        ((here, rest.0), (omega (arith, place, o.2), rises_lower (52 * p.low + p.high + 1) (place_of hand + 1) _ (omega (arith, place)) rest.1))
    one false e rest = (rest.0, rises_lower (52 * p.low + p.high + 1) from _ (omega (arith, o.2)) rest.1)

-- they stand each before those after it
all_later : (from n : ℕ) (hands : List Weighted) → n < from → RisesFrom from hands → list_all (λ later. nat_lt n (place_of later.hand)) hands ≡ true
all_later from n [] l r = refl
all_later from n (w ∷ hands) l r =
    let below : n < place_of w.hand = omega (arith, l, r.0) in
    let here : nat_lt n (place_of w.hand) ≡ true = grind arith in
    and_from _ _ here (all_later (place_of w.hand + 1) n hands (omega (arith, below)) r.1)

rising_of : (from : ℕ) (hands : List Weighted) → RisesFrom from hands → are_rising hands ≡ true
rising_of from [] r = refl
rising_of from (w ∷ hands) r = and_from _ _ (all_later (place_of w.hand + 1) (place_of w.hand) hands (omega arith) r.1) (rising_of (place_of w.hand + 1) hands r.1)

filter_few : (f : Pair → Option Weighted) (ps : List Pair) → length (filter_map f ps) ≤ length ps
filter_few f [] = omega arith
filter_few f (p ∷ ps) = at (f p) (filter_few f ps)
  where
    at : (o : Option Weighted) → length (filter_map f ps) ≤ length ps → length (cons_option o (filter_map f ps)) ≤ suc (length ps)
    at None h = omega (arith, h)
    at (Some w) h = omega (arith, h)

range_sound : (board dead word : List ℕ) → is_range word ≡ true → IsRangeBeside board dead (hands_of board dead word)
range_sound board dead word h =
    let light : are_light (entries_of word) ≡ true = and_second (are_items word) (are_light (entries_of word)) h in
    let stand = hands_stand board dead (entries_of word) 0 all_pairs pairs_in_order light in
    record {
      each = stand.0;
      rising = rising_of 0 (hands_of board dead word) stand.1;
      few = omega (arith, filter_few (hand_of board dead) (map (weighed (entries_of word)) all_pairs), length-map all_pairs (weighed (entries_of word)), pairs_few);
    }

ranges_sound : (board dead : List ℕ) (ws : List (List ℕ)) → list_all is_range ws ≡ true → AreRanges board dead (map (hands_of board dead) ws)
ranges_sound board dead [] h = tt
ranges_sound board dead (w ∷ ws) h =
    (range_sound board dead w (and_first (is_range w) (list_all is_range ws) h), ranges_sound board dead ws (and_second (is_range w) (list_all is_range ws) h))

-- hands of one word each have as many words as they are
pub one_each : (hands : List (List (List ℕ))) → list_all is_one_word hands ≡ true → length (flat_map (λ hand. hand) hands) ≡ length hands
one_each [] h = refl
one_each (hand ∷ hands) h =
    let one : (length hand == 1) ≡ true = and_first (is_one_word hand) (list_all is_one_word hands) h in
    let is : length hand ≡ 1 = grind arith in
    omega (arith, length-append hand (flat_map (λ w. w) hands), is, one_each hands (and_second (is_one_word hand) (list_all is_one_word hands) h))

-- what the words of a line say that has no fault
sound_words : (others : List (List ℕ)) → is_form others ≡ true → list_all is_range (range_words others) ≡ true → repeated_after [] (table_cards others) ≡ None →
    board_fits Holdem (length (board_words others)) ≡ true → are_few (length (hand_words others)) ≡ true →
    is_dealt_out (length (ranges_of_words others).board) (length (ranges_of_words others).dead) (length (ranges_of_words others).ranges) ≡ false →
    IsSound (ranges_of_words others)
sound_words others form ranges once board few left =
    let words_one = and_first (list_all is_one_word (hand_words others)) (all_cards (board_words others) && all_cards (dead_words others)) form in
    let table = and_second (list_all is_one_word (hand_words others)) (all_cards (board_words others) && all_cards (dead_words others)) form in
    let on_board = cards_named (board_words others) (and_first (all_cards (board_words others)) (all_cards (dead_words others)) table) in
    let differ : all_differ (table_cards others) ≡ true = sym (none_repeated (table_cards others)) ∙ ap is_none once in
    let parts = differ_append (cards_of (board_words others)) (cards_of (dead_words others)) differ in
    let count : length (set_of (cards_of (board_words others))) ≡ length (board_words others) = length-set_whole (cards_of (board_words others)) parts.0 on_board.1 ∙ on_board.0 in
    let spot = ranges_of_words others in
    let players : length spot.ranges ≡ length (hand_words others) = length-map (range_words others) (hands_of spot.board spot.dead) ∙ one_each (hand_words others) words_one in
    let two : 2 ≤ length (hand_words others) = leb-true 2 (length (hand_words others)) (and_first (nat_le 2 (length (hand_words others))) (nat_le (length (hand_words others)) 4) few) in
    let four : length (hand_words others) ≤ 4 = leb-true (length (hand_words others)) 4 (and_second (nat_le 2 (length (hand_words others))) (nat_le (length (hand_words others)) 4) few) in
    record {
      board_set = IsCardSet-cards_where (has_card (cards_of (board_words others)));
      dead_set = IsCardSet-cards_where (has_card (cards_of (dead_words others)));
      off_dead = sets_apart (cards_of (board_words others)) (cards_of (dead_words others)) parts.1;
      fits = ap (board_fits Holdem) count ∙ board;
      two = omega (arith, players, two);
      four = omega (arith, players, four);
      enough = not_above 52 (length spot.board + length spot.dead + 2 * length spot.ranges + (5 - length spot.board)) left;
      each = ranges_sound spot.board spot.dead (range_words others) ranges;
    }
  where
    not_above : (a b : ℕ) → nat_lt a b ≡ false → b ≤ a
    not_above a b h = grind arith

-- the tests, in their order
sound_dealt : (others : List (List ℕ)) (spot : Ranges) → is_form others ≡ true → list_all is_range (range_words others) ≡ true → repeated_after [] (table_cards others) ≡ None →
    board_fits Holdem (length (board_words others)) ≡ true → are_few (length (hand_words others)) ≡ true → unless_dealt_out (ranges_of_words others) ≡ Ok spot → IsSound spot
sound_dealt others spot form ranges once board few h =
    at (is_dealt_out (length (ranges_of_words others).board) (length (ranges_of_words others).dead) (length (ranges_of_words others).ranges)) refl h
  where
    at : (b : Bool) → is_dealt_out (length (ranges_of_words others).board) (length (ranges_of_words others).dead) (length (ranges_of_words others).ranges) ≡ b →
        cond b (Err DeckShort) (Ok (ranges_of_words others)) ≡ Ok spot → IsSound spot
    at true e g = absurd (cc g)
    at false e g = let same : ranges_of_words others ≡ spot = cc g in subst IsSound same (sound_words others form ranges once board few e)

sound_sizes : (others : List (List ℕ)) (spot : Ranges) → is_form others ≡ true → list_all is_range (range_words others) ≡ true → repeated_after [] (table_cards others) ≡ None →
    ranges_of_sizes others ≡ Ok spot → IsSound spot
sound_sizes others spot form ranges once h = at (board_fits Holdem (length (board_words others))) (are_few (length (hand_words others))) refl refl h
  where
    at : (b c : Bool) → board_fits Holdem (length (board_words others)) ≡ b → are_few (length (hand_words others)) ≡ c →
        cond b (cond c (unless_dealt_out (ranges_of_words others)) (Err PlayerCount)) (Err BoardSize) ≡ Ok spot → IsSound spot
    at true true e f g = sound_dealt others spot form ranges once e f g
    at true false e f g = absurd (cc g)
    at false c e f g = absurd (cc g)

sound_behind : (others : List (List ℕ)) (spot : Ranges) → ranges_behind others ≡ Ok spot → IsSound spot
sound_behind others spot h = at (is_form others) (list_all is_range (range_words others)) (repeated_after [] (table_cards others)) refl refl refl h
  where
    at : (b c : Bool) (o : Option ℕ) → is_form others ≡ b → list_all is_range (range_words others) ≡ c → repeated_after [] (table_cards others) ≡ o →
        cond b (cond c (unless_repeated o others) (Err BadRange)) (Err BadCard) ≡ Ok spot → IsSound spot
    at true true None e f once g = sound_sizes others spot e f once g
    at true true (Some card) e f twice g = absurd (cc g)
    at true false o e f t g = absurd (cc g)
    at false c o e f t g = absurd (cc g)

sound_line : (ws : List (List ℕ)) (spot : Ranges) → ranges_of_line_words ws ≡ Ok spot → IsSound spot
sound_line [] spot h = absurd (cc h)
sound_line (word ∷ others) spot h = at (bytes_eq word (game_word Holdem)) h
  where
    at : (b : Bool) → cond b (ranges_behind others) (Err UnknownWord) ≡ Ok spot → IsSound spot
    at true g = sound_behind others spot g
    at false g = absurd (cc g)

pub line_sound : (line : List ℕ) (spot : Ranges) → ranges_of line ≡ Ok spot → IsSound spot
line_sound line spot h = sound_line (words line) spot h
