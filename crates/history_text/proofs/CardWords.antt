-- The cards of a bracket, read word after word: the loop of `cards_of`.
use Rattle.std.proofs.Common.{◌≡◌, ℕ, ◌+◌, ◌<◌, ◌≤◌, Bool, true, false, cond, eqb, List, [], ◌∷◌, ◌++◌, length, drop, get_or, Option, Some, None, refl, ap, sym, ◌∙◌, arith, append_assoc, length-append}
use Rattle.std.specs.Prelude.{nat_le, option_map, option_and_then}
use Rattle.card_sets.specs.CardText.{card_of_letters}
use Rattle.history_text.specs.Brackets.{card_words, at_most_ten, first_card}

-- the cards that were read, and then those of the words that are left
abbrev pub behind_cards : List ℕ → Option (List ℕ) → Option (List ℕ)
behind_cards cards words = option_map (λ others. cards ++ others) words

-- the words after a card
abbrev pub words_behind : ℕ → List ℕ → Option (List ℕ)
words_behind card [] = Some (card ∷ [])
words_behind card (gap ∷ rest) = cond (eqb gap 32) (option_map (λ cards. card ∷ cards) (card_words rest)) None

-- and all the words, by the card that they begin with
abbrev pub words_by : Option (ℕ × List ℕ) → Option (List ℕ)
words_by None = None
words_by (Some read) = words_behind read.0 read.1

nothing : (b : Bool) → ◌≡◌ {A = Option (List ℕ)} (cond b None None) None
nothing true = refl
nothing false = refl

long_step : (card : Option ℕ) (gap : ℕ) (rest : List ℕ)
    → cond (eqb gap 32) (option_and_then (λ c. option_map (λ cards. c ∷ cards) (card_words rest)) card) None
    ≡ words_by (option_map (λ c. (c, gap ∷ rest)) card)
long_step None gap rest = nothing (eqb gap 32)
long_step (Some c) gap rest = refl

short_step : (card : Option ℕ) → option_map (λ c. c ∷ []) card ≡ words_by (option_map (λ c. (c, [])) card)
short_step None = refl
short_step (Some c) = refl

pub words_step : (text : List ℕ) → card_words text ≡ words_by (first_card text)
words_step [] = refl
words_step (rank ∷ []) = refl
words_step (rank ∷ suit ∷ []) = short_step (card_of_letters rank suit)
words_step (rank ∷ suit ∷ gap ∷ rest) = long_step (card_of_letters rank suit) gap rest

-- one card more
one_more : (cards : List ℕ) (card : ℕ) (words : Option (List ℕ))
    → behind_cards cards (option_map (λ others. card ∷ others) words) ≡ behind_cards (cards ++ card ∷ []) words
one_more cards card None = refl
one_more cards card (Some others) = ap Some (sym (append_assoc cards (card ∷ []) others))

pub words_more : (cards text rest : List ℕ) (card gap : ℕ) → first_card text ≡ Some (card, gap ∷ rest) → eqb gap 32 ≡ true
    → behind_cards (cards ++ card ∷ []) (card_words rest) ≡ behind_cards cards (card_words text)
words_more cards text rest card gap first space =
    let e : card_words text ≡ option_map (λ others. card ∷ others) (card_words rest) =
    words_step text ∙ ap words_by first ∙ ap (λ v. cond v (option_map (λ others. card ∷ others) (card_words rest)) None) space in
    sym (ap (behind_cards cards) e ∙ one_more cards card (card_words rest))

-- after a card that ends the words there is none
pub words_end : (cards text : List ℕ) (card : ℕ) → first_card text ≡ Some (card, []) → Some (cards ++ card ∷ []) ≡ behind_cards cards (card_words text)
words_end cards text card first = sym (ap (behind_cards cards) (words_step text ∙ ap words_by first))

-- another byte than a space after a card
pub words_gap : (text rest : List ℕ) (card gap : ℕ) → first_card text ≡ Some (card, gap ∷ rest) → eqb gap 32 ≡ false → card_words text ≡ None
words_gap text rest card gap first other =
    words_step text ∙ ap words_by first ∙ ap (λ v. cond v (option_map (λ others. card ∷ others) (card_words rest)) None) other

pub words_none : (text : List ℕ) → first_card text ≡ None → card_words text ≡ None
words_none text none = words_step text ∙ ap words_by none

-- words are at least one
left_in : (card : ℕ) (b : Bool) (others : Option (List ℕ)) (words : List ℕ)
    → cond b (option_map (λ cards. card ∷ cards) others) None ≡ Some words → 1 ≤ length words
left_in card false others words h = absurd (cc)
left_in card true None words h = absurd (cc)
left_in card true (Some others) words h = let e : card ∷ others ≡ words = cc in omega (arith, ap length e)

some_left : (card : ℕ) (rest words : List ℕ) → words_behind card rest ≡ Some words → 1 ≤ length words
some_left card [] words h = let e : card ∷ [] ≡ words = cc in omega (arith, ap length e)
some_left card (gap ∷ rest) words h = left_in card (eqb gap 32) (card_words rest) words h

words_some : (read : Option (ℕ × List ℕ)) (words : List ℕ) → words_by read ≡ Some words → 1 ≤ length words
words_some None words h = absurd (cc)
words_some (Some read) words h = some_left read.0 read.1 words h

too_long : (count : ℕ) → 11 ≤ count → nat_le count 10 ≡ false
too_long count h = grind arith

-- so after ten cards they are too many
many : (cards text : List ℕ) (words : Option (List ℕ)) → length cards ≡ 10 → words_by (first_card text) ≡ words
    → option_and_then (λ all. at_most_ten all) (behind_cards cards words) ≡ None
many cards text None ten e = refl
many cards text (Some words) ten e =
    let some : 1 ≤ length words = words_some (first_card text) words e in
    let long : length (cards ++ words) ≡ length cards + length words = length-append cards words in
    rw (too_long (length (cards ++ words)) (omega arith)) refl

pub too_many : (cards text : List ℕ) → length cards ≡ 10
    → option_and_then (λ all. at_most_ten all) (behind_cards cards (card_words text)) ≡ None
too_many cards text ten = many cards text (card_words text) ten (sym (words_step text))

-- the first card by the places of its letters
pub first_by_place : (text : List ℕ) → 2 ≤ length text
    → first_card text ≡ option_map (λ card. (card, drop 2 text)) (card_of_letters (get_or text 0 0) (get_or text 1 0))
first_by_place [] h = absurd (omega arith)
first_by_place (rank ∷ []) h = absurd (omega arith)
first_by_place (rank ∷ suit ∷ rest) h = refl

pub first_short : (text : List ℕ) → length text < 2 → first_card text ≡ None
first_short [] h = refl
first_short (rank ∷ []) h = refl
first_short (rank ∷ suit ∷ rest) h = absurd (omega arith)

-- what the code has read of the first card, and after it
pub first_found : (text behind : List ℕ) (card : ℕ) (read : Option ℕ) → 2 ≤ length text
    → read ≡ card_of_letters (get_or text 0 0) (get_or text 1 0) → read ≡ Some card → behind ≡ drop 2 text
    → first_card text ≡ Some (card, behind)
first_found text behind card read long letters some back =
    first_by_place text long ∙ ap (option_map (λ c. (c, drop 2 text))) (sym letters ∙ some) ∙ ap (λ b. Some (card, b)) (sym back)

pub first_none : (text : List ℕ) (read : Option ℕ) → 2 ≤ length text
    → read ≡ card_of_letters (get_or text 0 0) (get_or text 1 0) → read ≡ None → first_card text ≡ None
first_none text read long letters none = first_by_place text long ∙ ap (option_map (λ c. (c, drop 2 text))) (sym letters ∙ none)

-- with one card more they are at most ten
pub few_cards : (cards : List ℕ) (card : ℕ) → length cards < 10 → Some (cards ++ card ∷ []) ≡ option_and_then (λ all. at_most_ten all) (Some (cards ++ card ∷ []))
few_cards cards card fewer =
    let longer : length (cards ++ card ∷ []) ≡ length cards + 1 = length-append cards (card ∷ []) in
    let few : nat_le (length (cards ++ card ∷ [])) 10 ≡ true = ten_at_most (length (cards ++ card ∷ [])) (omega (arith, longer)) in
    rw few refl
  where
    ten_at_most : (count : ℕ) → count ≤ 10 → nat_le count 10 ≡ true
    ten_at_most count h = grind arith

pub nothing_left : (text : List ℕ) → length text ≡ 0 → text ≡ []
nothing_left [] h = refl
nothing_left (byte ∷ text) h = absurd (omega arith)
