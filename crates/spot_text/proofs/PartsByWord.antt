-- The parts of a spot, word by word.
use Rattle.std.proofs.Common.{◌≡◌, ℕ, suc, ◌+◌, ◌≤◌, Bool, true, false, cond, ◌||◌, List, [], ◌∷◌, length, take, drop, refl, ap, ◌∙◌, arith}
use Rattle.std.specs.List.{slice_split, onto_first, position_or_len, before_first, after_first}
use Rattle.std.proofs.lemmas.List.Splits.{length-slice_split}
use Rattle.spot_text.specs.Parts.{is_slash, is_dashes, is_dash, hand_words, board_words, dead_words}

-- what stands before and after the first element that passes
pub before_yes : {X : Type 0} (p : X → Bool) (x : X) (xs : List X) → p x ≡ true → before_first p (x ∷ xs) ≡ []
before_yes p x xs h = let none : position_or_len p (x ∷ xs) ≡ 0 = rw h refl in ap (λ n. take n (x ∷ xs)) none

pub after_yes : {X : Type 0} (p : X → Bool) (x : X) (xs : List X) → p x ≡ true → after_first p (x ∷ xs) ≡ xs
after_yes p x xs h = let none : position_or_len p (x ∷ xs) ≡ 0 = rw h refl in ap (λ n. drop (n + 1) (x ∷ xs)) none

pub before_no : {X : Type 0} (p : X → Bool) (x : X) (xs : List X) → p x ≡ false → before_first p (x ∷ xs) ≡ x ∷ before_first p xs
before_no p x xs h =
    let n = position_or_len p xs in
    let one : position_or_len p (x ∷ xs) ≡ 1 + n = rw h refl in
    let more : position_or_len p (x ∷ xs) ≡ suc n = one ∙ omega arith in
    ap (λ k. take k (x ∷ xs)) more

pub after_no : {X : Type 0} (p : X → Bool) (x : X) (xs : List X) → p x ≡ false → after_first p (x ∷ xs) ≡ after_first p xs
after_no p x xs h =
    let n = position_or_len p xs in
    let one : position_or_len p (x ∷ xs) ≡ 1 + n = rw h refl in
    let more : position_or_len p (x ∷ xs) + 1 ≡ suc (n + 1) = omega (arith, one) in
    ap (λ k. drop k (x ∷ xs)) more

pub slash_first : (w : List ℕ) (ws : List (List ℕ)) → is_slash w ≡ true →
    (hand_words (w ∷ ws) ≡ [] ∷ []) × (board_words (w ∷ ws) ≡ []) × (dead_words (w ∷ ws) ≡ ws)
unfolding hand_words board_words dead_words
slash_first w ws h =
    let none = before_yes is_slash w ws h in
    (ap (λ l. slice_split is_dash (before_first is_dashes l)) none, ap (after_first is_dashes) none, after_yes is_slash w ws h)

pub dashes_first : (w : List ℕ) (ws : List (List ℕ)) → is_slash w ≡ false → is_dashes w ≡ true →
    (hand_words (w ∷ ws) ≡ [] ∷ []) × (board_words (w ∷ ws) ≡ before_first is_slash ws) × (dead_words (w ∷ ws) ≡ after_first is_slash ws)
unfolding hand_words board_words dead_words
dashes_first w ws h k =
    let live = before_no is_slash w ws h in (
      ap (λ l. slice_split is_dash (before_first is_dashes l)) live ∙ ap (slice_split is_dash) (before_yes is_dashes w (before_first is_slash ws) k),
      ap (after_first is_dashes) live ∙ after_yes is_dashes w (before_first is_slash ws) k,
      after_no is_slash w ws h,
    )

-- the hands, where neither the board nor the dead cards begin
abbrev pub hands_behind : Bool → List ℕ → List (List (List ℕ)) → List (List (List ℕ))
hands_behind dash w hands = cond dash ([] ∷ hands) (onto_first w hands)

pub hand_first : (w : List ℕ) (ws : List (List ℕ)) → is_slash w ≡ false → is_dashes w ≡ false →
    (hand_words (w ∷ ws) ≡ hands_behind (is_dash w) w (hand_words ws)) × (board_words (w ∷ ws) ≡ board_words ws) × (dead_words (w ∷ ws) ≡ dead_words ws)
unfolding hand_words board_words dead_words
hand_first w ws h k =
    let live = before_no is_slash w ws h in (
      ap (λ l. slice_split is_dash (before_first is_dashes l)) live ∙ ap (slice_split is_dash) (before_no is_dashes w (before_first is_slash ws) k),
      ap (after_first is_dashes) live ∙ after_no is_dashes w (before_first is_slash ws) k,
      after_no is_slash w ws h,
    )

-- after no word stand one empty hand, no board and no dead cards
pub none_first : (hand_words [] ≡ [] ∷ []) × (board_words [] ≡ []) × (dead_words [] ≡ [])
unfolding hand_words board_words dead_words
none_first = (refl, refl, refl)

-- there is always a hand
pub some_hand : (ws : List (List ℕ)) → 1 ≤ length (hand_words ws)
unfolding hand_words
some_hand ws = omega (arith, length-slice_split is_dash (before_first is_dashes (before_first is_slash ws)))

-- words before the first hand
unfoldable pub onto_words : List (List ℕ) → List (List (List ℕ)) → List (List (List ℕ))
onto_words [] hands = hands
onto_words (w ∷ ws) hands = onto_first w (onto_words ws hands)

pub onto_empty : (ws : List (List ℕ)) (hands : List (List (List ℕ))) → onto_words ws ([] ∷ hands) ≡ ws ∷ hands
unfolding onto_words
onto_empty [] hands = refl
onto_empty (w ∷ ws) hands = ap (onto_first w) (onto_empty ws hands)

-- the hands end at a mark after them
pub hands_end : (w : List ℕ) (ws : List (List ℕ)) → (is_slash w || is_dashes w) ≡ true → hand_words (w ∷ ws) ≡ [] ∷ []
hands_end w ws h = at (is_slash w) (is_dashes w) refl refl h
  where
    at : (a b : Bool) → is_slash w ≡ a → is_dashes w ≡ b → (a || b) ≡ true → hand_words (w ∷ ws) ≡ [] ∷ []
    at true b e f g = (slash_first w ws e).0
    at false true e f g = (dashes_first w ws e f).0
    at false false e f g = cc

either_no : (a b : Bool) → (a || b) ≡ false → (a ≡ false) × (b ≡ false)
either_no true b h = cc
either_no false b h = (refl, h)

pub hands_dash : (w : List ℕ) (ws : List (List ℕ)) → (is_slash w || is_dashes w) ≡ false → is_dash w ≡ true → hand_words (w ∷ ws) ≡ [] ∷ hand_words ws
hands_dash w ws h dash =
    let no = either_no (is_slash w) (is_dashes w) h in
    (hand_first w ws no.0 no.1).0 ∙ ap (λ b. cond b ([] ∷ hand_words ws) (onto_first w (hand_words ws))) dash

pub hands_card : (w : List ℕ) (ws : List (List ℕ)) → (is_slash w || is_dashes w) ≡ false → is_dash w ≡ false → hand_words (w ∷ ws) ≡ onto_first w (hand_words ws)
hands_card w ws h dash =
    let no = either_no (is_slash w) (is_dashes w) h in
    (hand_first w ws no.0 no.1).0 ∙ ap (λ b. cond b ([] ∷ hand_words ws) (onto_first w (hand_words ws))) dash
