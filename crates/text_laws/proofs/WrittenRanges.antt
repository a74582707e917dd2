-- A line with ranges that is written is read as the ranges, or refused for its numbers.
use Rattle.std.proofs.Common.{◌≡◌, ℕ, ◌+◌, ◌*◌, ◌-◌, ◌≤◌, ◌==◌, Bool, true, false, cond, ◌&&◌, not, List, [], ◌∷◌, ◌++◌, length, map, refl, sym, ap, ◌∙◌, None, Ok, Err, inl, inr, arith}
use Rattle.std.specs.Prelude.{nat_lt, nat_le, codes, ◌||◌, ◌⊎◌}
use Rattle.std.specs.List.{list_all, flat_map, onto_first}
use Rattle.std.specs.Str.{bytes_eq}
use Rattle.std.proofs.lemmas.Bool.{and_from, cases_eq, cases_lt, not-true}
use Rattle.std.proofs.lemmas.Slice.Eq.{bytes_eq-Decides}
use mathlib.Core.Bool.{true≢false}
use Rattle.card_sets.specs.Cards.{has_card}
use Rattle.card_sets.specs.Games.{game_word}
use Rattle.card_sets.specs.declared.games.Game.TheVariants.{Holdem}
use Rattle.card_sets.proofs.CallerLemmas.{and_first, and_second}
use Rattle.spot_text.specs.Parts.{hand_words, board_words, dead_words, all_cards, cards_of, set_of}
use Rattle.spot_text.specs.Games.{board_fits}
use Rattle.spot_text.specs.Spot.{all_differ, repeated_after}
use Rattle.spot_text.proofs.CallerLemmas.{hand_first, length-set_whole}
use Rattle.range_lines.specs.declared.faults.RangeFault.TheVariants.{BadCard, BadRange, BoardSize, PlayerCount, DeckShort}
use Rattle.range_lines.specs.Hands.{is_range, hands_of}
use Rattle.range_lines.specs.Items.{rank_named}
use Rattle.range_lines.specs.RangeSpot.{is_one_word, is_form, range_words, table_cards, are_few, is_dealt_out, ranges_of_words, unless_dealt_out, unless_repeated, ranges_behind, ranges_of_line_words, ranges_of}
use Rattle.text_laws.specs.WrittenSpots.{is_word, texts}
use Rattle.text_laws.specs.WrittenRanges.{ranges_text, ranges_line, ranges_of_cards, AreWritten, cards_needed, RangesAreRead, WrongBoardsAreRefused, WrongPlayersAreRefused, ShortDecksAreRefused}
use Rattle.text_laws.proofs.FirstRepeated.{none_where_all_differ}
use Rattle.text_laws.proofs.WrittenWords.{words-joined}
use Rattle.text_laws.proofs.WrittenSpots.{tail, tail_parts, texts_words, texts_form, cards_texts, length-texts, words_append}

-- no mark is a range
slash_no_range : is_range (codes "/") ≡ false
unfolding rank_named
slash_no_range = refl

dashes_no_range : is_range (codes "--") ≡ false
unfolding rank_named
dashes_no_range = refl

dash_no_range : is_range (codes "-") ≡ false
unfolding rank_named
dash_no_range = refl

no_mark : (mark w : List ℕ) → is_range mark ≡ false → is_range w ≡ true → bytes_eq w mark ≡ false
no_mark mark w none good = elim (bytes_eq w mark) as (λ b. bytes_eq w mark ≡ b → b ≡ false) [
  | true ↦ λ same. absurd (true≢false (sym good ∙ ap is_range (equal same) ∙ none))
  | false ↦ λ other. refl
] refl
  where
    equal : bytes_eq w mark ≡ true → w ≡ mark
    equal same = (bytes_eq-Decides w mark).0 same

-- a range as the one word of its player
abbrev alone : List ℕ → List (List ℕ)
alone range = range ∷ []

-- ranges before other words are the players, where none of these is of them
ranges_parts : (first : List ℕ) (ranges : List (List ℕ)) (ws : List (List ℕ)) → list_all is_range (first ∷ ranges) ≡ true → hand_words ws ≡ [] ∷ [] →
    (hand_words (ranges_text (first ∷ ranges) ++ ws) ≡ map alone (first ∷ ranges)) × (board_words (ranges_text (first ∷ ranges) ++ ws) ≡ board_words ws) × (dead_words (ranges_text (first ∷ ranges) ++ ws) ≡ dead_words ws)
ranges_parts first [] ws h none =
    let good = and_first (is_range first) true h in
    let p = hand_first first ws (no_mark (codes "/") first slash_no_range good) (no_mark (codes "--") first dashes_no_range good) in (
      p.0 ∙ ap (λ b. cond b ([] ∷ hand_words ws) (onto_first first (hand_words ws))) (no_mark (codes "-") first dash_no_range good) ∙ ap (onto_first first) none,
      p.1,
      p.2,
    )
ranges_parts first (next ∷ ranges) ws h none =
    let good = and_first (is_range first) (list_all is_range (next ∷ ranges)) h in
    let others = ranges_text (next ∷ ranges) ++ ws in
    let q = hand_first (codes "-") others refl refl in
    let rest = ranges_parts next ranges ws (and_second (is_range first) (list_all is_range (next ∷ ranges)) h) none in
    let p = hand_first first (codes "-" ∷ others) (no_mark (codes "/") first slash_no_range good) (no_mark (codes "--") first dashes_no_range good) in (
      p.0 ∙ ap (λ b. cond b ([] ∷ hand_words (codes "-" ∷ others)) (onto_first first (hand_words (codes "-" ∷ others)))) (no_mark (codes "-") first dash_no_range good)
          ∙ ap (onto_first first) (q.0 ∙ ap (λ l. [] ∷ l) rest.0),
      p.1 ∙ q.1 ∙ rest.1,
      p.2 ∙ q.2 ∙ rest.2,
    )

ranges_words : (ranges : List (List ℕ)) → list_all is_word ranges ≡ true → list_all is_word (ranges_text ranges) ≡ true
ranges_words [] h = refl
ranges_words (range ∷ []) h = h
ranges_words (range ∷ next ∷ ranges) h =
    and_from (is_word range) (list_all is_word (ranges_text (next ∷ ranges))) (and_first (is_word range) (list_all is_word (next ∷ ranges)) h)
    (ranges_words (next ∷ ranges) (and_second (is_word range) (list_all is_word (next ∷ ranges)) h))

one_word : (ranges : List (List ℕ)) → list_all is_one_word (map alone ranges) ≡ true
one_word [] = refl
one_word (range ∷ ranges) = one_word ranges

flat_alone : (ranges : List (List ℕ)) → flat_map (λ hand. hand) (map alone ranges) ≡ ranges
flat_alone [] = refl
flat_alone (range ∷ ranges) = ap (λ l. range ∷ l) (flat_alone ranges)

length-alone : (ranges : List (List ℕ)) → length (map alone ranges) ≡ length ranges
length-alone [] = refl
length-alone (range ∷ ranges) = omega (arith, length-alone ranges)

length-hands : (board dead : List ℕ) (ranges : List (List ℕ)) → length (map (hands_of board dead) ranges) ≡ length ranges
length-hands board dead [] = refl
length-hands board dead (range ∷ ranges) = omega (arith, length-hands board dead ranges)

no_card : (xs ys : List ℕ) (c : ℕ) → has_card (xs ++ ys) c ≡ false → has_card xs c ≡ false
no_card [] ys c h = refl
no_card (x ∷ xs) ys c h = one (x == c) (has_card xs c) (has_card (xs ++ ys) c) h (no_card xs ys c)
  where
    one : (same some more : Bool) → (same || more) ≡ false → (more ≡ false → some ≡ false) → (same || some) ≡ false
    one true some more h k = h
    one false some more h k = k h

both_differ : (xs ys : List ℕ) → all_differ (xs ++ ys) ≡ true → (all_differ xs ≡ true) × (all_differ ys ≡ true)
both_differ [] ys h = (refl, h)
both_differ (x ∷ xs) ys h =
    let out : has_card (xs ++ ys) x ≡ false = not-true (has_card (xs ++ ys) x) (and_first (not (has_card (xs ++ ys) x)) (all_differ (xs ++ ys)) h) in
    let rest = both_differ xs ys (and_second (not (has_card (xs ++ ys) x)) (all_differ (xs ++ ys)) h) in
    (and_from (not (has_card xs x)) (all_differ xs) (ap not (no_card xs ys x out)) rest.0, rest.1)

-- the words after the game's
abbrev written : List (List ℕ) → List ℕ → List ℕ → List (List ℕ)
written ranges board dead = ranges_text ranges ++ tail board dead

-- the words of a line that is written
record Says (ranges : List (List ℕ)) (board dead : List ℕ) (others : List (List ℕ)) : Type 0 where
  form : is_form others ≡ true
  items : list_all is_range (range_words others) ≡ true
  once : repeated_after [] (table_cards others) ≡ None
  table : length (board_words others) ≡ length board
  players : length (hand_words others) ≡ length ranges
  is : ranges_of_words others ≡ ranges_of_cards ranges board dead

written_says : (ranges : List (List ℕ)) (board dead : List ℕ) → AreWritten ranges board dead → Says ranges board dead (written ranges board dead)
written_says [] board dead h = absurd (let some = h.some in omega arith)
written_says (first ∷ ranges) board dead h =
    let others = written (first ∷ ranges) board dead in
    let t = tail_parts board dead h.board_in_deck in
    let p = ranges_parts first ranges (tail board dead) h.items t.0 in
    let is_ranges : hand_words others ≡ map alone (first ∷ ranges) = p.0 in
    let is_board : board_words others ≡ texts board = p.1 ∙ t.1 in
    let is_dead : dead_words others ≡ texts dead = p.2 ∙ t.2 in
    let on_board : cards_of (board_words others) ≡ board = ap cards_of is_board ∙ cards_texts board h.board_in_deck in
    let gone : cards_of (dead_words others) ≡ dead = ap cards_of is_dead ∙ cards_texts dead h.dead_in_deck in
    let named : range_words others ≡ first ∷ ranges = ap (λ l. flat_map (λ hand. hand) l) is_ranges ∙ flat_alone (first ∷ ranges) in
    record {
      form =
          ap (λ l. list_all is_one_word l && (all_cards (board_words others) && all_cards (dead_words others))) is_ranges
          ∙ ap (λ l. list_all is_one_word (map alone (first ∷ ranges)) && (all_cards l && all_cards (dead_words others))) is_board
          ∙ ap (λ l. list_all is_one_word (map alone (first ∷ ranges)) && (all_cards (texts board) && all_cards l)) is_dead
          ∙ and_from (list_all is_one_word (map alone (first ∷ ranges))) (all_cards (texts board) && all_cards (texts dead)) (one_word (first ∷ ranges))
          (and_from (all_cards (texts board)) (all_cards (texts dead)) (texts_form board h.board_in_deck) (texts_form dead h.dead_in_deck));
      items = ap (list_all is_range) named ∙ h.items;
      once =
          ap (λ l. repeated_after [] (l ++ cards_of (dead_words others))) on_board ∙ ap (λ l. repeated_after [] (board ++ l)) gone
          ∙ none_where_all_differ (board ++ dead) h.differ;
      table = ap length is_board ∙ length-texts board;
      players = ap length is_ranges ∙ length-alone (first ∷ ranges);
      is =
          ap (λ b. ranges_of_cards (range_words others) b (cards_of (dead_words others))) on_board ∙ ap (λ d. ranges_of_cards (range_words others) board d) gone
          ∙ ap (λ l. ranges_of_cards l board dead) named;
    }

-- the answer goes by the numbers alone
behind : (ranges : List (List ℕ)) (board dead : List ℕ) (others : List (List ℕ)) → Says ranges board dead others →
    ranges_behind others ≡ cond (board_fits Holdem (length board)) (cond (are_few (length ranges)) (unless_dealt_out (ranges_of_cards ranges board dead)) (Err PlayerCount)) (Err BoardSize)
behind ranges board dead others h =
    ap (λ b. cond b (cond (list_all is_range (range_words others)) (unless_repeated (repeated_after [] (table_cards others)) others) (Err BadRange)) (Err BadCard)) h.form
    ∙ ap (λ b. cond b (unless_repeated (repeated_after [] (table_cards others)) others) (Err BadRange)) h.items
    ∙ ap (λ o. unless_repeated o others) h.once
    ∙ ap (λ n. cond (board_fits Holdem n) (cond (are_few (length (hand_words others))) (unless_dealt_out (ranges_of_words others)) (Err PlayerCount)) (Err BoardSize)) h.table
    ∙ ap (λ n. cond (board_fits Holdem (length board)) (cond (are_few n) (unless_dealt_out (ranges_of_words others)) (Err PlayerCount)) (Err BoardSize)) h.players
    ∙ ap (λ s. cond (board_fits Holdem (length board)) (cond (are_few (length ranges)) (unless_dealt_out s) (Err PlayerCount)) (Err BoardSize)) h.is

said : (ranges : List (List ℕ)) (board dead : List ℕ) → AreWritten ranges board dead →
    ranges_of (ranges_line ranges board dead)
    ≡ cond (board_fits Holdem (length board)) (cond (are_few (length ranges)) (unless_dealt_out (ranges_of_cards ranges board dead)) (Err PlayerCount)) (Err BoardSize)
said ranges board dead h =
    let all_words : list_all is_word (game_word Holdem ∷ written ranges board dead) ≡ true =
    words_append (ranges_text ranges) (tail board dead) (ranges_words ranges h.words)
    (words_append (texts board) (codes "/" ∷ texts dead) (texts_words board h.board_in_deck) (texts_words dead h.dead_in_deck)) in
    ap ranges_of_line_words (words-joined (game_word Holdem ∷ written ranges board dead) all_words)
    ∙ behind ranges board dead (written ranges board dead) (written_says ranges board dead h)

-- the numbers that pass
fits_board : (n : ℕ) → (n ≡ 0) ⊎ ((3 ≤ n) × (n ≤ 5)) → board_fits Holdem n ≡ true
fits_board n (inl e) = rw e refl
fits_board n (inr (a, b)) =
    let no : (n == 0) ≡ false = grind arith in
    let low : nat_le 3 n ≡ true = grind arith in
    let high : nat_le n 5 ≡ true = grind arith in
    rw (no, low, high) refl

fits_no_board : (n : ℕ) → ((n ≡ 0) ⊎ ((3 ≤ n) × (n ≤ 5)) → ⊥) → board_fits Holdem n ≡ false
fits_no_board n h = elim (cases_eq n 0) [
  | inl e ↦ absurd (h (inl e))
  | inr some ↦
      let no : (n == 0) ≡ false = grind arith in
      elim (cases_lt n 3) [
        | inl l ↦ (let low : nat_le 3 n ≡ false = grind arith in rw (no, low) refl)
        | inr three ↦ elim (cases_lt 5 n) [
          | inl l ↦
              let low : nat_le 3 n ≡ true = grind arith in
              let high : nat_le n 5 ≡ false = grind arith in
              rw (no, low, high) refl
          | inr five ↦ absurd (h (inr (omega arith, omega arith)))
        ]
      ]
]

few : (n : ℕ) → 2 ≤ n → n ≤ 4 → are_few n ≡ true
few n a b =
    let low : nat_le 2 n ≡ true = grind arith in
    let high : nat_le n 4 ≡ true = grind arith in
    rw (low, high) refl

not_few : (n : ℕ) → ((2 ≤ n) × (n ≤ 4) → ⊥) → are_few n ≡ false
not_few n h = elim (cases_lt n 2) [
  | inl l ↦ (let low : nat_le 2 n ≡ false = grind arith in rw low refl)
  | inr two ↦ elim (cases_lt 4 n) [
    | inl l ↦
        let low : nat_le 2 n ≡ true = grind arith in
        let high : nat_le n 4 ≡ false = grind arith in
        rw (low, high) refl
    | inr four ↦ absurd (h (omega arith, omega arith))
  ]
]

at_most : (n : ℕ) → (n ≡ 0) ⊎ ((3 ≤ n) × (n ≤ 5)) → n ≤ 5
at_most n (inl e) = omega arith
at_most n (inr (a, b)) = b

-- the cards that a deal needs, by its sets
needed : (ranges : List (List ℕ)) (board dead : List ℕ) → AreWritten ranges board dead → length board ≤ 5 →
    is_dealt_out (length (set_of board)) (length (set_of dead)) (length (map (hands_of (set_of board) (set_of dead)) ranges)) ≡ nat_lt 52 (cards_needed ranges dead)
needed ranges board dead h small =
    let differ = both_differ board dead h.differ in
    let b : length (set_of board) ≡ length board = length-set_whole board differ.0 h.board_in_deck in
    let d : length (set_of dead) ≡ length dead = length-set_whole dead differ.1 h.dead_in_deck in
    let n : length (map (hands_of (set_of board) (set_of dead)) ranges) ≡ length ranges = length-hands (set_of board) (set_of dead) ranges in
    let sum : length (set_of board) + length (set_of dead) + 2 * length (map (hands_of (set_of board) (set_of dead)) ranges) + (5 - length (set_of board)) ≡ cards_needed ranges dead = omega arith in
    ap (λ k. nat_lt 52 k) sum

pub ranges_are_read : RangesAreRead
ranges_are_read ranges board dead h table players enough =
    let left : nat_lt 52 (cards_needed ranges dead) ≡ false = grind arith in
    said ranges board dead h
    ∙ ap (λ b. cond b (cond (are_few (length ranges)) (unless_dealt_out (ranges_of_cards ranges board dead)) (Err PlayerCount)) (Err BoardSize)) (fits_board (length board) table)
    ∙ ap (λ b. cond b (unless_dealt_out (ranges_of_cards ranges board dead)) (Err PlayerCount)) (few (length ranges) players.0 players.1)
    ∙ ap (λ b. cond b (Err DeckShort) (Ok (ranges_of_cards ranges board dead))) (needed ranges board dead h (at_most (length board) table) ∙ left)

pub wrong_boards_are_refused : WrongBoardsAreRefused
wrong_boards_are_refused ranges board dead h wrong =
    said ranges board dead h
    ∙ ap (λ b. cond b (cond (are_few (length ranges)) (unless_dealt_out (ranges_of_cards ranges board dead)) (Err PlayerCount)) (Err BoardSize)) (fits_no_board (length board) wrong)

pub wrong_players_are_refused : WrongPlayersAreRefused
wrong_players_are_refused ranges board dead h table wrong =
    said ranges board dead h
    ∙ ap (λ b. cond b (cond (are_few (length ranges)) (unless_dealt_out (ranges_of_cards ranges board dead)) (Err PlayerCount)) (Err BoardSize)) (fits_board (length board) table)
    ∙ ap (λ b. cond b (unless_dealt_out (ranges_of_cards ranges board dead)) (Err PlayerCount)) (not_few (length ranges) wrong)

pub short_decks_are_refused : ShortDecksAreRefused
short_decks_are_refused ranges board dead h table players short =
    let left : nat_lt 52 (cards_needed ranges dead) ≡ true = grind arith in
    said ranges board dead h
    ∙ ap (λ b. cond b (cond (are_few (length ranges)) (unless_dealt_out (ranges_of_cards ranges board dead)) (Err PlayerCount)) (Err BoardSize)) (fits_board (length board) table)
    ∙ ap (λ b. cond b (unless_dealt_out (ranges_of_cards ranges board dead)) (Err PlayerCount)) (few (length ranges) players.0 players.1)
    ∙ ap (λ b. cond b (Err DeckShort) (Ok (ranges_of_cards ranges board dead))) (needed ranges board dead h (at_most (length board) table) ∙ left)
