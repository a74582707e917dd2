-- How many cards of a rank a set has, with a card more.
use Rattle.std.proofs.Common.{◌≡◌, ℕ, zero, suc, ◌+◌, ◌*◌, ◌%◌, ◌<◌, ◌≤◌, List, [], ◌∷◌, length, length-append, append-nil, refl, sym, ap, ◌∙◌, Bool, true, false, cond, arith, ◌==◌, ◌||◌, inl, inr, ◌⊎◌}
use Rattle.std.proofs.lemmas.Bool.{cases_eq}
use Rattle.card_sets.specs.Cards.{cards_where, cards_below, has_card, with_card, rank_of, IsCardSet, cards_of_rank}
use Rattle.card_sets.specs.RankBits.{of_rank-bits}
use Rattle.board_ranks.specs.Values.{one_of}

pub of_rank-four : (cards : List ℕ) (r : ℕ) → IsCardSet cards → r < 13
    → cards_of_rank cards r ≡ cond (has_card cards (4 * r)) 1 0 + cond (has_card cards (4 * r + 1)) 1 0 + cond (has_card cards (4 * r + 2)) 1 0 + cond (has_card cards (4 * r + 3)) 1 0
of_rank-four cards r set h = ap (λ l. cards_of_rank l r) (sym set) ∙ of_rank-bits (has_card cards) r h

pub all_four : (cards : List ℕ) (r : ℕ) → IsCardSet cards → r < 13 → ((s : ℕ) → s < 4 → has_card cards (4 * r + s) ≡ true) → cards_of_rank cards r ≡ 4
all_four cards r set h all =
    let z : 4 * r + 0 ≡ 4 * r = omega arith in
    let first : has_card cards (4 * r) ≡ true = ap (has_card cards) (sym z) ∙ all 0 (omega arith) in
    of_rank-four cards r set h ∙ rw (first, all 1 (omega arith), all 2 (omega arith), all 3 (omega arith)) refl

at_most_one : (b : Bool) → cond b 1 0 ≤ 1
at_most_one true = omega arith
at_most_one false = omega arith

-- no set has more than four cards of a rank
pub few_of_rank : (cards : List ℕ) (r : ℕ) → IsCardSet cards → r < 13 → cards_of_rank cards r ≤ 4
few_of_rank cards r set h =
    omega (arith, of_rank-four cards r set h, at_most_one (has_card cards (4 * r)), at_most_one (has_card cards (4 * r + 1)), at_most_one (has_card cards (4 * r + 2)), at_most_one (has_card cards (4 * r + 3)))

other_card : (cards : List ℕ) (card k : ℕ) → (k ≡ card → ⊥) → ◌≡◌ {A = ℕ} (cond ((k == card) || has_card cards k) 1 0) (cond (has_card cards k) 1 0)
other_card cards card k ne = let f : (k == card) ≡ false = grind arith in rw f refl

this_card : (cards : List ℕ) (card k : ℕ) → k ≡ card → has_card cards card ≡ false → cond ((k == card) || has_card cards k) 1 0 ≡ cond (has_card cards k) 1 0 + 1
this_card cards card k e free =
    let t : (k == card) ≡ true = grind arith in
    let f : has_card cards k ≡ false = ap (has_card cards) e ∙ free in
    rw (t, f) refl

-- a card that the set lacks makes one more of its rank, and no more of any other
pub with_of_rank : (cards : List ℕ) (card r : ℕ) → IsCardSet cards → r < 13 → has_card cards card ≡ false → cards_of_rank (with_card cards card) r ≡ cards_of_rank cards r + one_of (rank_of card) r
with_of_rank cards card r set h free =
    of_rank-bits (λ k. (k == card) || has_card cards k) r h ∙ (elim (cases_eq (rank_of card) r) [
      | inl e ↦ (let t : (rank_of card == r) ≡ true = grind arith in rw t (elim (suit (card % 4) (omega arith)) [
        | inl s0 ↦ omega (arith, of_rank-four cards r set h, this_card cards card (4 * r) (omega arith) free, other_card cards card (4 * r + 1) (λ x. omega arith), other_card cards card (4 * r + 2) (λ x. omega arith), other_card cards card (4 * r + 3) (λ x. omega arith))
        | inr m ↦ elim m [
          | inl s1 ↦ omega (arith, of_rank-four cards r set h, this_card cards card (4 * r + 1) (omega arith) free, other_card cards card (4 * r) (λ x. omega arith), other_card cards card (4 * r + 2) (λ x. omega arith), other_card cards card (4 * r + 3) (λ x. omega arith))
          | inr n ↦ elim n [
            | inl s2 ↦ omega (arith, of_rank-four cards r set h, this_card cards card (4 * r + 2) (omega arith) free, other_card cards card (4 * r) (λ x. omega arith), other_card cards card (4 * r + 1) (λ x. omega arith), other_card cards card (4 * r + 3) (λ x. omega arith))
            | inr s3 ↦ omega (arith, of_rank-four cards r set h, this_card cards card (4 * r + 3) (omega arith) free, other_card cards card (4 * r) (λ x. omega arith), other_card cards card (4 * r + 1) (λ x. omega arith), other_card cards card (4 * r + 2) (λ x. omega arith))
          ]
        ]
      ]))
      | inr ne ↦ (let f : (rank_of card == r) ≡ false = grind arith in rw f (omega (arith, of_rank-four cards r set h, other_card cards card (4 * r) (λ x. ne (omega arith)), other_card cards card (4 * r + 1) (λ x. ne (omega arith)), other_card cards card (4 * r + 2) (λ x. ne (omega arith)), other_card cards card (4 * r + 3) (λ x. ne (omega arith)))))
    ])
  where
    suit : (s : ℕ) → s < 4 → (s ≡ 0) ⊎ ((s ≡ 1) ⊎ ((s ≡ 2) ⊎ (s ≡ 3)))
    suit zero h = inl refl
    suit (suc zero) h = inr (inl refl)
    suit (suc (suc zero)) h = inr (inr (inl refl))
    suit (suc (suc (suc zero))) h = inr (inr (inr refl))
    suit (suc (suc (suc (suc n)))) h = absurd (omega arith)

-- and one card more in all
below_same : (p : ℕ → Bool) (c n : ℕ) → n ≤ c → length (cards_below (λ k. (k == c) || p k) n) ≡ length (cards_below p n)
below_same p c zero h = refl
below_same p c (suc n) h =
    let ih : length (cards_below (λ k. (k == c) || p k) n) ≡ length (cards_below p n) = below_same p c n (omega arith) in
    let f : (n == c) ≡ false = grind arith in
    rw f (length-append (cards_below (λ k. (k == c) || p k) n) (cond (p n) (n ∷ []) []) ∙ ap (λ m. m + length (cond (p n) (n ∷ []) [])) ih ∙ sym (length-append (cards_below p n) (cond (p n) (n ∷ []) [])))

below_more : (p : ℕ → Bool) (c n : ℕ) → c < n → p c ≡ false → length (cards_below (λ k. (k == c) || p k) n) ≡ length (cards_below p n) + 1
below_more p c zero h e = absurd (omega arith)
below_more p c (suc n) h e = elim (cases_eq n c) [
  | inl same ↦
      let before : length (cards_below (λ k. (k == c) || p k) n) ≡ length (cards_below p n) = below_same p c n (omega arith) in
      let t : (n == c) ≡ true = grind arith in
      let f : p n ≡ false = ap p same ∙ e in
      rw (t, f) (length-append (cards_below (λ k. (k == c) || p k) n) (n ∷ []) ∙ ap (λ m. m + 1) before ∙ ap (λ m. m + 1) (ap length (sym (append-nil (cards_below p n)))))
  | inr ne ↦
      let ih : length (cards_below (λ k. (k == c) || p k) n) ≡ length (cards_below p n) + 1 = below_more p c n (omega arith) e in
      let f : (n == c) ≡ false = grind arith in
      rw f (omega (arith, ih, length-append (cards_below (λ k. (k == c) || p k) n) (cond (p n) (n ∷ []) []), length-append (cards_below p n) (cond (p n) (n ∷ []) [])))
]

pub length-with : (cards : List ℕ) (card : ℕ) → IsCardSet cards → card < 52 → has_card cards card ≡ false → length (with_card cards card) ≡ length cards + 1
unfolding cards_where
length-with cards card set h free = below_more (has_card cards) card 52 h free ∙ ap (λ l. length l + 1) set
