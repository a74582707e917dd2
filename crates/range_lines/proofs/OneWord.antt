-- Ranges of one word each, word by word.
use Rattle.std.proofs.Common.{◌≡◌, ℕ, suc, ◌+◌, ◌≤◌, Bool, true, false, not, cond, ◌||◌, ◌&&◌, ◌==◌, List, [], ◌∷◌, length, refl, sym, ap, ◌∙◌, arith}
use Rattle.std.specs.List.{list_all, onto_first}
use Rattle.spot_text.specs.Parts.{is_slash, is_dashes, is_dash, hand_words, board_words, dead_words}
use Rattle.spot_text.proofs.CallerLemmas.{hand_first, some_hand, none_first, hands_end, hands_dash, hands_card}
use Rattle.range_lines.specs.RangeSpot.{is_one_word}

-- whether hands are of one word each, where the first has its word already
abbrev pub one_from : Bool → List (List (List ℕ)) → Bool
one_from full [] = full
one_from full (hand ∷ hands) = (cond full 1 0 + length hand == 1) && list_all is_one_word hands

pub one_all : (hands : List (List (List ℕ))) → 1 ≤ length hands → one_from false hands ≡ list_all is_one_word hands
one_all [] h = absurd (omega arith)
one_all (hand ∷ hands) h = ap (λ n. (n == 1) && list_all is_one_word hands) (let e : 0 + length hand ≡ length hand = omega arith in e)

-- after a mark the word must be there
pub one_end : (full : Bool) (w : List ℕ) (ws : List (List ℕ)) → (is_slash w || is_dashes w) ≡ true → one_from full (hand_words (w ∷ ws)) ≡ full
one_end true w ws h = ap (one_from true) (hands_end w ws h)
one_end false w ws h = ap (one_from false) (hands_end w ws h)

pub one_none : (full : Bool) → one_from full (hand_words []) ≡ full
one_none true = ap (one_from true) none_first.0
one_none false = ap (one_from false) none_first.0

-- a dash needs the word before it, and begins a hand without
pub one_dash : (full : Bool) (w : List ℕ) (ws : List (List ℕ)) → (is_slash w || is_dashes w) ≡ false → is_dash w ≡ true → one_from full (hand_words (w ∷ ws)) ≡ cond full (one_from false (hand_words ws)) false
one_dash true w ws h dash = ap (one_from true) (hands_dash w ws h dash) ∙ sym (one_all (hand_words ws) (some_hand ws))
one_dash false w ws h dash = ap (one_from false) (hands_dash w ws h dash)

onto : (full : Bool) (w : List ℕ) (hands : List (List (List ℕ))) → 1 ≤ length hands → one_from full (onto_first w hands) ≡ cond full false (one_from true hands)
onto full w [] h = absurd (omega arith)
onto true w (hand ∷ hands) h = let no : (1 + suc (length hand) == 1) ≡ false = grind arith in ap (λ b. b && list_all is_one_word hands) no
onto false w (hand ∷ hands) h = ap (λ n. (n == 1) && list_all is_one_word hands) (let e : 0 + suc (length hand) ≡ 1 + length hand = omega arith in e)

-- another word is the hand's, which mustn't have one
pub one_card : (full : Bool) (w : List ℕ) (ws : List (List ℕ)) → (is_slash w || is_dashes w) ≡ false → is_dash w ≡ false → one_from full (hand_words (w ∷ ws)) ≡ cond full false (one_from true (hand_words ws))
one_card full w ws h dash = ap (one_from full) (hands_card w ws h dash) ∙ onto full w (hand_words ws) (some_hand ws)

pub one_step : (full : Bool) (w : List ℕ) (ws : List (List ℕ)) → (is_slash w || is_dashes w) ≡ false → is_dash w ≡ full → one_from full (hand_words (w ∷ ws)) ≡ one_from (not full) (hand_words ws)
one_step true w ws h d = one_dash true w ws h d
one_step false w ws h d = one_card false w ws h d

pub one_not : (full : Bool) (w : List ℕ) (ws : List (List ℕ)) → (is_slash w || is_dashes w) ≡ false → is_dash w ≡ not full → one_from full (hand_words (w ∷ ws)) ≡ false
one_not true w ws h d = one_card true w ws h d
one_not false w ws h d = one_dash false w ws h d

either_no : (a b : Bool) → (a || b) ≡ false → (a ≡ false) × (b ≡ false)
either_no true b h = cc
either_no false b h = (refl, h)

-- the board and the dead cards are those after any word of a hand
pub table_later : (w : List ℕ) (ws : List (List ℕ)) → (is_slash w || is_dashes w) ≡ false → (board_words (w ∷ ws) ≡ board_words ws) × (dead_words (w ∷ ws) ≡ dead_words ws)
table_later w ws h =
    let no = either_no (is_slash w) (is_dashes w) h in
    let first = hand_first w ws no.0 no.1 in
    (first.1, first.2)
