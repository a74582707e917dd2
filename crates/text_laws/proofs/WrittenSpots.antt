-- A spot that is written is read as that spot.
use Rattle.std.proofs.Common.{◌≡◌, ℕ, ◌<◌, Bool, true, false, cond, ◌&&◌, not, List, [], ◌∷◌, ◌++◌, length, map, get_or, refl, sym, ap, ◌∙◌, None, Some, Ok, Err, append_assoc, arith}
use Rattle.std.specs.Prelude.{is_some, nat_lt, codes}
use Rattle.std.specs.List.{concat, list_all, range_with_len, onto_first, before_first, after_first, cons_option}
use Rattle.std.proofs.lemmas.List.Sums.{AllPass-from_list_all}
use Rattle.std.proofs.lemmas.List.FromFn.{get_or-range_with_len}
use mathlib.Core.Bool.{true≢false}
use Rattle.card_sets.specs.CardText.{card_of_text, text_of_card}
use Rattle.card_sets.specs.CardTextLaws.{card_of_text-text_of_card}
use Rattle.card_sets.specs.State.{State}
use Rattle.card_sets.specs.declared.games.Game.{Game}
use Rattle.card_sets.specs.declared.games.Game.TheVariants.{Holdem, Omaha, Omaha8, Stud, Stud8, Razz, Draw5, Lowball27, Triple27}
use Rattle.spot_text.specs.declared.faults.SpotFault.TheVariants.{BadCard, HandSize, BoardSize, PlayerCount, DeckShort}
use Rattle.spot_text.specs.Parts.{is_slash, is_dashes, is_dash, hand_words, board_words, dead_words, all_cards, in_form, cards_of, set_of}
use Rattle.card_sets.specs.Games.{game_word}
use Rattle.spot_text.specs.Games.{game_named, hand_fits, board_fits}
use Rattle.spot_text.specs.Spot.{all_in_deck, repeated_after, hands_fit, players_fit, state_of_words, is_short, unless_short, unless_repeated, spot_behind, spot_of_game, spot_of_words, spot_of}
use Rattle.text_laws.specs.WrittenSpots.{is_word, texts, hands_text, spot_line, state_of_cards, MayBeWritten}
use Rattle.card_sets.proofs.CallerLemmas.{and_first, and_second}
use Rattle.std.proofs.lemmas.Bool.{and_from, not-true}
use Rattle.spot_text.proofs.CallerLemmas.{before_yes, before_no, after_yes, after_no, dashes_first, hand_first, hands_cards, parts_same, cards_split}
use Rattle.text_laws.proofs.FirstRepeated.{none_where_all_differ}
use Rattle.text_laws.proofs.WrittenWords.{words-joined}

-- the letters of a card are a word, and no mark
abbrev is_plain : List ℕ → Bool
is_plain w = is_word w && (not (is_slash w) && (not (is_dashes w) && not (is_dash w)))

texts_are_plain : list_all (λ c. is_plain (text_of_card c)) (range_with_len 0 52) ≡ true
unfolding text_of_card
texts_are_plain = refl

text_is_plain : (card : ℕ) → card < 52 → is_plain (text_of_card card) ≡ true
text_is_plain card inside =
    let there : get_or (range_with_len 0 52) card 0 ≡ card = get_or-range_with_len 0 52 card 0 inside ∙ omega arith in
    ap (λ c. is_plain (text_of_card c)) (sym there)
    ∙ AllPass-from_list_all (λ c. is_plain (text_of_card c)) (range_with_len 0 52) texts_are_plain card 0 inside

record Plain (w : List ℕ) : Type 0 where
  word : is_word w ≡ true
  slash : is_slash w ≡ false
  dashes : is_dashes w ≡ false
  dash : is_dash w ≡ false

plain : (card : ℕ) → nat_lt card 52 ≡ true → Plain (text_of_card card)
plain card inside = from (text_of_card card) (text_is_plain card (let lt : card < 52 = grind arith in lt))
  where
    from : (w : List ℕ) → is_plain w ≡ true → Plain w
    from w h =
        let marks = and_second (is_word w) (not (is_slash w) && (not (is_dashes w) && not (is_dash w))) h in
        let others = and_second (not (is_slash w)) (not (is_dashes w) && not (is_dash w)) marks in
        record {
          word = and_first (is_word w) (not (is_slash w) && (not (is_dashes w) && not (is_dash w))) h;
          slash = not-true (is_slash w) (and_first (not (is_slash w)) (not (is_dashes w) && not (is_dash w)) marks);
          dashes = not-true (is_dashes w) (and_first (not (is_dashes w)) (not (is_dash w)) others);
          dash = not-true (is_dash w) (and_second (not (is_dashes w)) (not (is_dash w)) others);
        }

-- cards before other words are the first hand, where none of these is of it
texts_parts : (cards : List ℕ) (ws : List (List ℕ)) (hands : List (List (List ℕ))) → all_in_deck cards ≡ true → hand_words ws ≡ [] ∷ hands →
    (hand_words (texts cards ++ ws) ≡ texts cards ∷ hands) × (board_words (texts cards ++ ws) ≡ board_words ws) × (dead_words (texts cards ++ ws) ≡ dead_words ws)
texts_parts [] ws hands h none = (none, refl, refl)
texts_parts (card ∷ cards) ws hands h none =
    let is = plain card (and_first (nat_lt card 52) (all_in_deck cards) h) in
    let rest = texts_parts cards ws hands (and_second (nat_lt card 52) (all_in_deck cards) h) none in
    let p = hand_first (text_of_card card) (texts cards ++ ws) is.slash is.dashes in (
      p.0 ∙ ap (λ b. cond b ([] ∷ hand_words (texts cards ++ ws)) (onto_first (text_of_card card) (hand_words (texts cards ++ ws)))) is.dash ∙ ap (onto_first (text_of_card card)) rest.0,
      p.1 ∙ rest.1,
      p.2 ∙ rest.2,
    )

before_texts : (cards : List ℕ) (ws : List (List ℕ)) → all_in_deck cards ≡ true →
    (before_first is_slash (texts cards ++ codes "/" ∷ ws) ≡ texts cards) × (after_first is_slash (texts cards ++ codes "/" ∷ ws) ≡ ws)
before_texts [] ws h = (before_yes is_slash (codes "/") ws refl, after_yes is_slash (codes "/") ws refl)
before_texts (card ∷ cards) ws h =
    let is = plain card (and_first (nat_lt card 52) (all_in_deck cards) h) in
    let rest = before_texts cards ws (and_second (nat_lt card 52) (all_in_deck cards) h) in (
      before_no is_slash (text_of_card card) (texts cards ++ codes "/" ∷ ws) is.slash ∙ ap (λ l. text_of_card card ∷ l) rest.0,
      after_no is_slash (text_of_card card) (texts cards ++ codes "/" ∷ ws) is.slash ∙ rest.1,
    )

-- the words after the hands
abbrev pub tail : List ℕ → List ℕ → List (List ℕ)
tail board dead = codes "--" ∷ (texts board ++ codes "/" ∷ texts dead)

pub tail_parts : (board dead : List ℕ) → all_in_deck board ≡ true →
    (hand_words (tail board dead) ≡ [] ∷ []) × (board_words (tail board dead) ≡ texts board) × (dead_words (tail board dead) ≡ texts dead)
tail_parts board dead h =
    let p = dashes_first (codes "--") (texts board ++ codes "/" ∷ texts dead) refl refl in
    let q = before_texts board (texts dead) h in
    (p.0, p.1 ∙ q.0, p.2 ∙ q.1)

hands_parts : (first : List ℕ) (hands : List (List ℕ)) (ws : List (List ℕ)) → list_all all_in_deck (first ∷ hands) ≡ true → hand_words ws ≡ [] ∷ [] →
    (hand_words (hands_text (first ∷ hands) ++ ws) ≡ map texts (first ∷ hands)) × (board_words (hands_text (first ∷ hands) ++ ws) ≡ board_words ws) × (dead_words (hands_text (first ∷ hands) ++ ws) ≡ dead_words ws)
hands_parts first [] ws h none =
    texts_parts first ws [] (and_first (all_in_deck first) true h) none
hands_parts first (next ∷ hands) ws h none =
    let others = hands_text (next ∷ hands) ++ ws in
    let deck = and_first (all_in_deck first) (list_all all_in_deck (next ∷ hands)) h in
    let q = hand_first (codes "-") others refl refl in
    let rest = hands_parts next hands ws (and_second (all_in_deck first) (list_all all_in_deck (next ∷ hands)) h) none in
    let p = texts_parts first (codes "-" ∷ others) (map texts (next ∷ hands)) deck (q.0 ∙ ap (λ l. [] ∷ l) rest.0) in
    let same : (texts first ++ codes "-" ∷ hands_text (next ∷ hands)) ++ ws ≡ texts first ++ codes "-" ∷ others =
    append_assoc (texts first) (codes "-" ∷ hands_text (next ∷ hands)) ws in (
      ap hand_words same ∙ p.0,
      ap board_words same ∙ p.1 ∙ q.1 ∙ rest.1,
      ap dead_words same ∙ p.2 ∙ q.2 ∙ rest.2,
    )

-- what the words of cards say
pub cards_texts : (cards : List ℕ) → all_in_deck cards ≡ true → cards_of (texts cards) ≡ cards
cards_texts [] h = refl
cards_texts (card ∷ cards) h =
    let inside : card < 52 = below card (and_first (nat_lt card 52) (all_in_deck cards) h) in
    ap (λ o. cons_option o (cards_of (texts cards))) (card_of_text-text_of_card card inside)
    ∙ ap (λ l. card ∷ l) (cards_texts cards (and_second (nat_lt card 52) (all_in_deck cards) h))
  where
    below : (n : ℕ) → nat_lt n 52 ≡ true → n < 52
    below n t = grind arith

pub texts_form : (cards : List ℕ) → all_in_deck cards ≡ true → all_cards (texts cards) ≡ true
texts_form [] h = refl
texts_form (card ∷ cards) h =
    let inside : card < 52 = below card (and_first (nat_lt card 52) (all_in_deck cards) h) in
    and_from (is_some (card_of_text (text_of_card card))) (all_cards (texts cards)) (ap is_some (card_of_text-text_of_card card inside))
    (texts_form cards (and_second (nat_lt card 52) (all_in_deck cards) h))
  where
    below : (n : ℕ) → nat_lt n 52 ≡ true → n < 52
    below n t = grind arith

pub length-texts : (cards : List ℕ) → length (texts cards) ≡ length cards
length-texts [] = refl
length-texts (card ∷ cards) = omega (arith, length-texts cards)

record HandsWritten (hands : List (List ℕ)) : Type 0 where
  form : list_all all_cards (map texts hands) ≡ true
  sets : map (λ hand. set_of (cards_of hand)) (map texts hands) ≡ map set_of hands
  own : (game : Game) → hands_fit game (map texts hands) ≡ list_all (λ hand. hand_fits game (length hand)) hands
  count : length (map texts hands) ≡ length hands
  cards : hands_cards (map texts hands) ≡ concat hands

hands_written : (hands : List (List ℕ)) → list_all all_in_deck hands ≡ true → HandsWritten hands
hands_written [] h = record { form = refl; sets = refl; own = λ game. refl; count = refl; cards = refl }
hands_written (hand ∷ hands) h =
    let deck = and_first (all_in_deck hand) (list_all all_in_deck hands) h in
    let rest = hands_written hands (and_second (all_in_deck hand) (list_all all_in_deck hands) h) in
    record {
      form = and_from (all_cards (texts hand)) (list_all all_cards (map texts hands)) (texts_form hand deck) rest.form;
      sets = ap (λ c. set_of c ∷ map (λ x. set_of (cards_of x)) (map texts hands)) (cards_texts hand deck) ∙ ap (λ l. set_of hand ∷ l) rest.sets;
      own = λ game. ap (λ n. hand_fits game n && hands_fit game (map texts hands)) (length-texts hand) ∙ ap (λ b. hand_fits game (length hand) && b) (rest.own game);
      count = omega (arith, rest.count);
      cards = ap (λ c. c ++ hands_cards (map texts hands)) (cards_texts hand deck) ∙ ap (λ l. hand ++ l) rest.cards;
    }

-- each word is a word
pub words_append : (xs ys : List (List ℕ)) → list_all is_word xs ≡ true → list_all is_word ys ≡ true → list_all is_word (xs ++ ys) ≡ true
words_append [] ys h k = k
words_append (x ∷ xs) ys h k =
    and_from (is_word x) (list_all is_word (xs ++ ys)) (and_first (is_word x) (list_all is_word xs) h)
    (words_append xs ys (and_second (is_word x) (list_all is_word xs) h) k)

pub texts_words : (cards : List ℕ) → all_in_deck cards ≡ true → list_all is_word (texts cards) ≡ true
texts_words [] h = refl
texts_words (card ∷ cards) h =
    let is = plain card (and_first (nat_lt card 52) (all_in_deck cards) h) in
    and_from (is_word (text_of_card card)) (list_all is_word (texts cards)) is.word (texts_words cards (and_second (nat_lt card 52) (all_in_deck cards) h))

hands_words : (hands : List (List ℕ)) → list_all all_in_deck hands ≡ true → list_all is_word (hands_text hands) ≡ true
hands_words [] h = refl
hands_words (hand ∷ []) h = texts_words hand (and_first (all_in_deck hand) true h)
hands_words (hand ∷ next ∷ hands) h =
    words_append (texts hand) (codes "-" ∷ hands_text (next ∷ hands)) (texts_words hand (and_first (all_in_deck hand) (list_all all_in_deck (next ∷ hands)) h))
    (hands_words (next ∷ hands) (and_second (all_in_deck hand) (list_all all_in_deck (next ∷ hands)) h))

-- a spot whose words pass each test
record Passes (game : Game) (others : List (List ℕ)) (state : State) : Type 0 where
  form : in_form others ≡ true
  once : repeated_after [] (cards_of others) ≡ None
  own : hands_fit game (hand_words others) ≡ true
  table : board_fits game (length (board_words others)) ≡ true
  players : players_fit (length (hand_words others)) ≡ true
  is : state_of_words game others ≡ state
  enough : is_short state ≡ false

passes_all : (game : Game) (others : List (List ℕ)) (state : State) → Passes game others state → spot_behind game others ≡ Ok state
passes_all game others state h =
    ap (λ b. cond b (unless_repeated (repeated_after [] (cards_of others)) game others) (Err BadCard)) h.form
    ∙ ap (λ o. unless_repeated o game others) h.once
    ∙ ap (λ b. cond b (cond (board_fits game (length (board_words others))) (cond (players_fit (length (hand_words others))) (unless_short (state_of_words game others)) (Err PlayerCount)) (Err BoardSize)) (Err HandSize)) h.own
    ∙ ap (λ b. cond b (cond (players_fit (length (hand_words others))) (unless_short (state_of_words game others)) (Err PlayerCount)) (Err BoardSize)) h.table
    ∙ ap (λ b. cond b (unless_short (state_of_words game others)) (Err PlayerCount)) h.players
    ∙ ap unless_short h.is ∙ ap (λ b. cond b (Err DeckShort) (Ok state)) h.enough

-- the words after the game's
abbrev written : List (List ℕ) → List ℕ → List ℕ → List (List ℕ)
written hands board dead = hands_text hands ++ tail board dead

same_form : (hands hands' : List (List (List ℕ))) (board board' dead dead' : List (List ℕ)) → hands ≡ hands' → board ≡ board' → dead ≡ dead' →
    (list_all all_cards hands && (all_cards board && all_cards dead)) ≡ (list_all all_cards hands' && (all_cards board' && all_cards dead'))
same_form hands hands' board board' dead dead' e f g = rw (e, f, g) refl

same_state : (game : Game) (hands hands' : List (List ℕ)) (board board' dead dead' : List ℕ) → hands ≡ hands' → board ≡ board' → dead ≡ dead' →
    (let s : State = record { game = game; hands = hands; board = board; dead = dead } in s)
    ≡ (let s : State = record { game = game; hands = hands'; board = board'; dead = dead' } in s)
same_state game hands hands' board board' dead dead' e f g = rw (e, f, g) refl

written_passes : (game : Game) (first : List ℕ) (hands : List (List ℕ)) (board dead : List ℕ) → MayBeWritten game (first ∷ hands) board dead →
    Passes game (written (first ∷ hands) board dead) (state_of_cards game (first ∷ hands) board dead)
written_passes game first hands board dead h =
    let others = written (first ∷ hands) board dead in
    let t = tail_parts board dead h.board_in_deck in
    let p = hands_parts first hands (tail board dead) h.hands_in_deck t.0 in
    let is_hands : hand_words others ≡ map texts (first ∷ hands) = p.0 in
    let is_board : board_words others ≡ texts board = p.1 ∙ t.1 in
    let is_dead : dead_words others ≡ texts dead = p.2 ∙ t.2 in
    let w = hands_written (first ∷ hands) h.hands_in_deck in
    let all : cards_of others ≡ concat (first ∷ hands) ++ (board ++ dead) =
    cards_split others ∙ parts_same _ _ _ _ _ _ is_hands is_board is_dead
    ∙ ap (λ c. c ++ (cards_of (texts board) ++ cards_of (texts dead))) w.cards
    ∙ ap (λ c. concat (first ∷ hands) ++ (c ++ cards_of (texts dead))) (cards_texts board h.board_in_deck)
    ∙ ap (λ c. concat (first ∷ hands) ++ (board ++ c)) (cards_texts dead h.dead_in_deck) in
    record {
      form =
          same_form _ _ _ _ _ _ is_hands is_board is_dead
          ∙ and_from (list_all all_cards (map texts (first ∷ hands))) (all_cards (texts board) && all_cards (texts dead)) w.form
          (and_from (all_cards (texts board)) (all_cards (texts dead)) (texts_form board h.board_in_deck) (texts_form dead h.dead_in_deck));
      once = ap (repeated_after []) all ∙ none_where_all_differ (concat (first ∷ hands) ++ (board ++ dead)) h.differ;
      own = ap (hands_fit game) is_hands ∙ w.own game ∙ h.own;
      table = ap (λ b. board_fits game (length b)) is_board ∙ ap (board_fits game) (length-texts board) ∙ h.table;
      players = ap (λ l. players_fit (length l)) is_hands ∙ ap players_fit w.count ∙ h.players;
      is =
          same_state game _ _ _ _ _ _ (ap (map (λ hand. set_of (cards_of hand))) is_hands ∙ w.sets)
          (ap (λ b. set_of (cards_of b)) is_board ∙ ap set_of (cards_texts board h.board_in_deck))
          (ap (λ b. set_of (cards_of b)) is_dead ∙ ap set_of (cards_texts dead h.dead_in_deck));
      enough = not-true (is_short (state_of_cards game (first ∷ hands) board dead)) h.enough;
    }

named_word : (game : Game) → (is_word (game_word game) ≡ true) × (game_named (game_word game) ≡ Some game)
named_word Holdem = (refl, refl)
named_word Omaha = (refl, refl)
named_word Omaha8 = (refl, refl)
named_word Stud = (refl, refl)
named_word Stud8 = (refl, refl)
named_word Razz = (refl, refl)
named_word Draw5 = (refl, refl)
named_word Lowball27 = (refl, refl)
named_word Triple27 = (refl, refl)

pub written_is_read : (game : Game) (hands : List (List ℕ)) (board dead : List ℕ) → MayBeWritten game hands board dead →
    spot_of (spot_line game hands board dead) ≡ Ok (state_of_cards game hands board dead)
written_is_read game [] board dead h = absurd (true≢false (sym h.players))
written_is_read game (first ∷ hands) board dead h =
    let others = written (first ∷ hands) board dead in
    let word = named_word game in
    let all_words : list_all is_word (game_word game ∷ others) ≡ true =
    and_from (is_word (game_word game)) (list_all is_word others) word.0
    (words_append (hands_text (first ∷ hands)) (tail board dead) (hands_words (first ∷ hands) h.hands_in_deck)
    (words_append (texts board) (codes "/" ∷ texts dead) (texts_words board h.board_in_deck) (texts_words dead h.dead_in_deck))) in
    ap spot_of_words (words-joined (game_word game ∷ others) all_words)
    ∙ ap (λ o. spot_of_game o others) word.1
    ∙ passes_all game others (state_of_cards game (first ∷ hands) board dead) (written_passes game first hands board dead h)
