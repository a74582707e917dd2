-- The winners of a choice with one hand more: those of the choice, they and the hand, or the hand alone.
use Rattle.std.proofs.Common.{◌==◌, ◌≡◌, ℕ, zero, suc, ◌+◌, ◌-◌, ◌<◌, ◌≤◌, ◌^◌, List, [], ◌∷◌, ◌++◌, length, refl, sym, ap, ◌∙◌, arith, inl, inr, true, false, cond, append-nil}
use Rattle.std.specs.Prelude.{Option, None, Some, max, nat_lt, slice_index_or}
use Rattle.std.specs.Int.{bit_at}
use Rattle.std.specs.List.{sum_by}
use Rattle.std.proofs.lemmas.Bool.{cases_lt, cases_order}
use Rattle.std.proofs.lemmas.List.{length-map, map_push, get_or_push, get_or_append_left}
use Rattle.std.proofs.lemmas.List.Sums.{sum_by-append}
use Rattle.card_sets.specs.PlayerSets.{set_of_players}
use Rattle.showdown_tally.specs.Settling.{greater, is_top, number_of, top_below, tops_below, tops_of}
use Rattle.range_lines.specs.declared.spot.Weighted.{Weighted}
use Rattle.hand_ranges.specs.Boards.{level_of, numbers_beside, pick, winners_beside}
use Rattle.range_lines.specs.Choices.{hands_in}
use Rattle.hand_ranges.specs.Taken.{number_beside}
use Rattle.hand_ranges.proofs.FullBoards.{mask_bit}

-- ---- the greatest of numbers that are the same

tops_alike : (xs ys : List (Option ℕ)) (top : Option ℕ) (m k n : ℕ) → ((h : ℕ) → h < n → number_of xs h ≡ number_of ys h) → ((h : ℕ) → h < n → bit_at m h ≡ 1) → ((h : ℕ) → h < n → bit_at k h ≡ 1) → tops_below xs top m n ≡ tops_below ys top k n
tops_alike xs ys top m k zero same a b = refl
tops_alike xs ys top m k (suc n) same a b =
    let before : tops_below xs top m n ≡ tops_below ys top k n = tops_alike xs ys top m k n (λ h l. same h (omega arith)) (λ h l. a h (omega arith)) (λ h l. b h (omega arith)) in
    let here : number_of xs n ≡ number_of ys n = same n (omega arith) in
    let one : bit_at m n ≡ 1 = a n (omega arith) in
    let two : bit_at k n ≡ 1 = b n (omega arith) in
    rw (before, here, one, two) refl

top_alike : (xs ys : List (Option ℕ)) (m k n : ℕ) → ((h : ℕ) → h < n → number_of xs h ≡ number_of ys h) → ((h : ℕ) → h < n → bit_at m h ≡ 1) → ((h : ℕ) → h < n → bit_at k h ≡ 1) → top_below xs m n ≡ top_below ys k n
top_alike xs ys m k zero same a b = refl
top_alike xs ys m k (suc n) same a b =
    let before : top_below xs m n ≡ top_below ys k n = top_alike xs ys m k n (λ h l. same h (omega arith)) (λ h l. a h (omega arith)) (λ h l. b h (omega arith)) in
    let here : number_of xs n ≡ number_of ys n = same n (omega arith) in
    let one : bit_at m n ≡ 1 = a n (omega arith) in
    let two : bit_at k n ≡ 1 = b n (omega arith) in
    rw (before, here, one, two) refl

-- ---- numbers by their levels

level_greater : (a b : Option ℕ) → level_of (greater a b) ≡ max (level_of a) (level_of b)
level_greater None b = omega arith
level_greater (Some a) None = omega arith
level_greater (Some a) (Some b) = omega arith

level_same : (a b : Option ℕ) → level_of a ≡ level_of b → a ≡ b
level_same None None e = refl
level_same None (Some b) e = absurd (omega (arith, e))
level_same (Some a) None e = absurd (omega (arith, e))
level_same (Some a) (Some b) e = let s : a ≡ b = omega (arith, e) in ap Some s

level_most : (xs : List (Option ℕ)) (m n h : ℕ) → ((h : ℕ) → h < n → bit_at m h ≡ 1) → h < n → level_of (number_of xs h) ≤ level_of (top_below xs m n)
level_most xs m zero h bits l = absurd (omega arith)
level_most xs m (suc n) h bits l =
    let one : bit_at m n ≡ 1 = bits n (omega arith) in
    let both : level_of (greater (top_below xs m n) (number_of xs n)) ≡ max (level_of (top_below xs m n)) (level_of (number_of xs n)) = level_greater (top_below xs m n) (number_of xs n) in
    rw one (elim (cases_lt h n) [
      | inl lt ↦ let before = level_most xs m n h (λ i k. bits i (omega arith)) lt in omega (arith, both, before)
      | inr ge ↦
          let same : h ≡ n = omega arith in
          let here : level_of (number_of xs h) ≡ level_of (number_of xs n) = ap (λ i. level_of (number_of xs i)) same in
          omega (arith, both, here)
    ])

not_top : (a top : Option ℕ) → level_of a < level_of top → is_top a top ≡ false
not_top None top l = refl
not_top (Some a) None l = refl
not_top (Some a) (Some t) l = grind arith

top_level : (v : ℕ) (top : Option ℕ) → is_top (Some v) top ≡ (v + 1 == level_of top)
top_level v None = grind arith
top_level v (Some t) = elim (cases_order v t) [
  | inl e ↦ let a : (v == t) ≡ true = grind arith in let b : (v + 1 == t + 1) ≡ true = grind arith in rw (a, b) refl
  | inr o ↦ elim o [
    | inl l ↦ let a : (v == t) ≡ false = grind arith in let b : (v + 1 == t + 1) ≡ false = grind arith in rw (a, b) refl
    | inr g ↦ let a : (v == t) ≡ false = grind arith in let b : (v + 1 == t + 1) ≡ false = grind arith in rw (a, b) refl
  ]
]

no_tops : (xs : List (Option ℕ)) (top : Option ℕ) (m n : ℕ) → ((h : ℕ) → h < n → bit_at m h ≡ 1) → ((h : ℕ) → h < n → level_of (number_of xs h) < level_of top) → tops_below xs top m n ≡ []
no_tops xs top m zero bits less = refl
no_tops xs top m (suc n) bits less =
    let before : tops_below xs top m n ≡ [] = no_tops xs top m n (λ h l. bits h (omega arith)) (λ h l. less h (omega arith)) in
    let one : bit_at m n ≡ 1 = bits n (omega arith) in
    let fails : is_top (number_of xs n) top ≡ false = not_top (number_of xs n) top (less n (omega arith)) in
    rw (before, one, fails) refl

set_push : (xs : List ℕ) (n : ℕ) → set_of_players (xs ++ n ∷ []) ≡ set_of_players xs + 2 ^ n
set_push xs n = sum_by-append (λ player. 2 ^ player) xs (n ∷ []) ∙ (let one : sum_by (λ player. 2 ^ player) (n ∷ []) ≡ 2 ^ n = omega arith in ap (λ k. set_of_players xs + k) one)

-- ---- one number more

set_of_more : (xs : List (Option ℕ)) (n v : ℕ) → (m : ℕ) → ((h : ℕ) → h < n → bit_at m h ≡ 1) → (top : Option ℕ) → top ≡ top_below xs m n → (next : Option ℕ) → level_of next ≡ max (level_of top) (v + 1)
    → set_of_players (tops_below xs next m n ++ cond (is_top (Some v) next) (n ∷ []) []) ≡ pick (level_of top) v (set_of_players (tops_below xs top m n)) (set_of_players (tops_below xs top m n) + 2 ^ n) (2 ^ n)
set_of_more xs n v m bits top is next level = elim (cases_order (level_of top) (v + 1)) [
  | inl e ↦
      let a : nat_lt (level_of top) (v + 1) ≡ false = grind arith in
      let b : (v + 1 == level_of top) ≡ true = grind arith in
      let same : next ≡ top = level_same next top (omega (arith, level, e)) in
      let here : is_top (Some v) top ≡ true = top_level v top ∙ b in
      rw (a, b, same, here) (set_push (tops_below xs top m n) n)
  | inr o ↦ elim o [
    | inl l ↦
        let a : nat_lt (level_of top) (v + 1) ≡ true = grind arith in
        let high : level_of next ≡ v + 1 = omega (arith, level, l) in
        let none : tops_below xs next m n ≡ [] = no_tops xs next m n bits (λ h k. let most = level_most xs m n h bits k in let same : level_of top ≡ level_of (top_below xs m n) = ap level_of is in omega (arith, most, same, high, l)) in
        let b : (v + 1 == level_of next) ≡ true = grind arith in
        let here : is_top (Some v) next ≡ true = top_level v next ∙ b in
        rw (a, none, here) (omega arith)
    | inr g ↦
        let a : nat_lt (level_of top) (v + 1) ≡ false = grind arith in
        let b : (v + 1 == level_of top) ≡ false = grind arith in
        let same : next ≡ top = level_same next top (omega (arith, level, g)) in
        let here : is_top (Some v) top ≡ false = top_level v top ∙ b in
        rw (a, b, same, here) (ap set_of_players (append-nil (tops_below xs top m n)))
  ]
]

-- ---- one hand more

pub winners_push : (full : List ℕ) (taken : List Weighted) (w : Weighted) (values : List (Option ℕ)) (n v : ℕ) → length taken ≡ n
    → ((h : ℕ) → h < length taken → number_of values h ≡ number_beside full (slice_index_or (hands_in taken) h [])) → Some v ≡ number_beside full w.hand
    → winners_beside full (taken ++ w ∷ []) ≡ (let set = set_of_players (tops_of values (2 ^ n - 1) n) in pick (level_of (top_below values (2 ^ n - 1) n)) v set (set + 2 ^ n) (2 ^ n))
unfolding winners_beside
winners_push full taken w values n v long worth here =
    let numbers = numbers_beside full (taken ++ w ∷ []) in
    let size : length (taken ++ w ∷ []) ≡ suc n = omega (arith, long, length_push taken w) in
    let m = 2 ^ n - 1 in
    let more = 2 ^ suc n - 1 in
    let split : numbers ≡ numbers_beside full taken ++ number_beside full w.hand ∷ [] = map_push (λ u. number_beside full u.hand) taken w in
    let many : length (numbers_beside full taken) ≡ n = length-map taken (λ u. number_beside full u.hand) ∙ long in
    let last : number_of numbers n ≡ Some v = ap (λ l. number_of l n) split ∙ get_or_push (numbers_beside full taken) (number_beside full w.hand) None n many ∙ sym here in
    let front : (h : ℕ) → h < n → number_of numbers h ≡ number_of values h =
    λ h l. ap (λ some. number_of some h) split ∙ get_or_append_left (numbers_beside full taken) (number_beside full w.hand ∷ []) None h (omega (arith, many, l)) ∙ beside full taken h (omega (arith, long, l)) ∙ sym (worth h (omega (arith, long, l))) in
    let low : (h : ℕ) → h < n → bit_at m h ≡ 1 = mask_bit n in
    let high : (h : ℕ) → h < n → bit_at more h ≡ 1 = λ h l. mask_bit (suc n) h (omega arith) in
    let one : bit_at more n ≡ 1 = mask_bit (suc n) n (omega arith) in
    let top = top_below values m n in
    let next = greater top (Some v) in
    let best : top_below numbers more n ≡ top = top_alike numbers values more m n front high low in
    let step : top_below numbers more (suc n) ≡ next = rw (one, best, last) refl in
    ap (λ k. set_of_players (tops_of numbers (2 ^ k - 1) k)) size
    ∙ ap (λ t. set_of_players (tops_below numbers t more (suc n))) step
    ∙ (rw (one, last, tops_alike numbers values next more m n front high low) refl)
    ∙ set_of_more values n v m low top refl next (level_greater top (Some v))
  where
    length_push : (taken : List Weighted) (w : Weighted) → length (taken ++ w ∷ []) ≡ length taken + 1
    length_push [] w = refl
    length_push (u ∷ taken) w = omega (arith, length_push taken w)

    beside : (full : List ℕ) (taken : List Weighted) (h : ℕ) → h < length taken → number_of (numbers_beside full taken) h ≡ number_beside full (slice_index_or (hands_in taken) h [])
    beside full [] h l = absurd (omega arith)
    beside full (u ∷ taken) zero l = refl
    beside full (u ∷ taken) (suc h) l = beside full taken h (omega arith)
