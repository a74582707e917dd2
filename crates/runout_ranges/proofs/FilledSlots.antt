-- The first way to fill slots, and the way after one.
use Rattle.std.proofs.Common.{◌≡◌, ℕ, zero, suc, ◌+◌, ◌-◌, ◌<◌, ◌≤◌, List, [], ◌∷◌, ◌++◌, map, refl, sym, ap, ◌∙◌, inl, inr, append-nil, length, take, drop, get_or, arith, true, false, cond, ◌||◌, ◌==◌, not}
use Rattle.std.specs.List.{flat_map}
use borrow.Rule.Slice.PartMut.{put_mid}
use Rattle.std.proofs.lemmas.List.{drop_all, take_all}
use Rattle.std.proofs.lemmas.Bool.{cases_eq}
use mathlib.Core.Bool.{true≢false}
use Rattle.card_sets.specs.Cards.{has_card, RisingFrom}
use Rattle.card_sets.specs.Choose.{choose}
use Rattle.card_sets.specs.Rising.{has_card-low}
use Rattle.runout_ranges.specs.Runouts.{runouts, left_by, Begins, Ends}
use Rattle.runout_ranges.proofs.NextChoice.{place_choice, choose_within, choose_length, first_choice}

-- a list by its first and the part after it
pub first_part : {X : Type 0} (xs : List X) (d : X) → 0 < length xs → xs ≡ get_or xs 0 d ∷ take (length xs - 1) (drop 1 xs)
first_part [] d h = absurd (omega arith)
first_part (x ∷ xs) d h =
    let n : suc (length xs) - 1 ≡ length xs = omega arith in
    ap (λ l. x ∷ l) (sym (ap (λ k. take k xs) n ∙ take_all (length xs) xs (omega arith)))

-- a list whose part after the first was written
pub put_rest : {X : Type 0} (x : X) (xs ys : List X) → put_mid 1 (length (x ∷ xs) - 1) (x ∷ xs) ys ≡ x ∷ ys
put_rest x xs ys =
    let none : drop (suc (length xs) - 1) xs ≡ [] = drop_all (suc (length xs) - 1) xs (omega arith) in
    ap (λ l. x ∷ (ys ++ l)) none ∙ ap (λ l. x ∷ l) (append-nil ys)

-- where the first choice is made, the first runout begins with it
pub begins_runouts : (unseen : List ℕ) (n : ℕ) (counts : List ℕ) (r : List (List ℕ)) → n ≤ length unseen → Begins (runouts (left_by unseen (take n unseen)) counts) r → Begins (runouts unseen (n ∷ counts)) (take n unseen ∷ r)
begins_runouts unseen n counts r enough b =
    let f = first_choice n unseen enough in (
      _,
      ap (λ l. flat_map (λ first. map (λ rest. first ∷ rest) (runouts (left_by unseen first) counts)) l) f.1
          ∙ ap (λ l. map (λ rest. take n unseen ∷ rest) l ++ flat_map (λ first. map (λ rest. first ∷ rest) (runouts (left_by unseen first) counts)) f.0) b.1,
    )

-- a card that isn't there doesn't matter
pub other_left : (c : ℕ) (cs r : List ℕ) → has_card cs c ≡ false → left_by cs (c ∷ r) ≡ left_by cs r
other_left c [] r out = refl
other_left c (x ∷ cs) r out = elim (cases_eq x c) [
  | inl e ↦ let t : (x == c) ≡ true = grind arith in absurd (true≢false (sym (ap (λ b. b || has_card cs c) t) ∙ out))
  | inr ne ↦
      let f : (x == c) ≡ false = grind arith in
      let g : (c == x) ≡ false = grind arith in
      let later : has_card cs c ≡ false = rw f at out in
      rw g (ap (λ l. cond (not (has_card r x)) (x ∷ l) l) (other_left c cs r later))
]

-- a choice leaves the other cards
pub left_length : (low n : ℕ) (xs at : List ℕ) (front back : List (List ℕ)) → RisingFrom low xs → choose n xs ≡ front ++ at ∷ back → length (left_by xs at) + n ≡ length xs
left_length low zero xs at front back r e = none xs at (choose_length zero xs at front back e)
  where
    none : (xs at : List ℕ) → length at ≡ 0 → length (left_by xs at) + 0 ≡ length xs
    none [] [] h = refl
    none (x ∷ xs) [] h = let ih : length (left_by xs []) + 0 ≡ length xs = none xs [] h in omega arith
    none xs (a ∷ at) h = absurd (omega arith)
left_length low (suc n) [] at [] back r e = cc
left_length low (suc n) [] at (z ∷ front) back r e = cc
left_length low (suc n) (c ∷ cs) at front back r e =
    let out : has_card cs c ≡ false = has_card-low (c + 1) cs c r.2 (omega arith) in
    let is : (c == c) ≡ true = grind arith in
    elim (place_choice n c cs at front back e) [
      | inl p ↦
          let ih : length (left_by cs p.0) + n ≡ length cs = left_length (c + 1) n cs p.0 p.1 p.2 r.2 p.4 in
          let here : left_by (c ∷ cs) (c ∷ p.0) ≡ left_by cs p.0 = rw is (other_left c cs p.0 out) in
          let whole : length (left_by (c ∷ cs) at) ≡ length (left_by cs p.0) = ap (λ l. length (left_by (c ∷ cs) l)) p.3 ∙ ap length here in
          omega arith
      | inr p ↦
          let ih : length (left_by cs at) + suc n ≡ length cs = left_length (c + 1) (suc n) cs at p.0 back r.2 p.1 in
          let free : has_card at c ≡ false = elim (has_card at c) as (λ b. has_card at c ≡ b → b ≡ false) [
            | true ↦ λ t. absurd (true≢false (sym (choose_within (suc n) cs at p.0 back p.1 c t) ∙ out))
            | false ↦ λ t. refl
          ] refl in
          let here : length (left_by (c ∷ cs) at) ≡ suc (length (left_by cs at)) = rw free refl in
          omega arith
    ]

-- no slot: one way, which fills nothing
pub no_slot_ends : (unseen : List ℕ) (sets : List (List ℕ)) → Ends (runouts unseen []) sets
no_slot_ends unseen sets [] todo e = cc
no_slot_ends unseen sets (x ∷ []) todo e = cc
no_slot_ends unseen sets (x ∷ y ∷ done) todo e = cc
