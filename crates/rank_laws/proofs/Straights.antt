-- What makes a straight.
use Rattle.std.proofs.Common.{◌≡◌, ℕ, suc, zero, ◌-◌, ◌+◌, ◌≤◌, ◌<◌, ◌==◌, List, ◌∷◌, [], refl, ap, ◌∙◌, sym, arith, true, false, cond, length, inl, inr, subst}
use Rattle.std.specs.Prelude.{nat_lt, nat_le, ◌&&◌, ◌⊎◌}
use Rattle.std.specs.Prelude.{All}
use Rattle.std.proofs.lemmas.Bool.{cases_eq, cases_lt}
use Rattle.rank_high.specs.High.{is_straight, is_wheel, falls_by_one, pips, groups, groups_counted, count_of_rank, ranks_counted}
use Rattle.rank_laws.specs.HighHands.{IsFive, IsUsualStraight, AreInARow, AreFiveToAce, IsStraight}
use Rattle.rank_laws.proofs.GroupsInOrder.{IsCounted, are_counted}
use Rattle.rank_high.proofs.CallerLemmas.{next_falls, pips_plain, pips_wheel, wheel_ranks}
use Rattle.rank_laws.proofs.HandCategories.{straight_falls, wheel_straight, straight_groups, straight_length}
use Rattle.rank_high.proofs.CallerLemmas.{total, total-cards, groups_counted-same}

total-mono : (g f : ℕ → ℕ) (n : ℕ) → ((k : ℕ) → k < n → g k ≤ f k) → total g n ≤ total f n
total-mono g f zero h = omega arith
total-mono g f (suc n) h =
    let ih : total g n ≤ total f n = total-mono g f n (λ k l. h k (omega arith)) in
    omega (arith, h n (omega arith))

-- greater counts of no greater sum are equal
pub squeezed : (g f : ℕ → ℕ) (n : ℕ) → ((k : ℕ) → k < n → g k ≤ f k) → total f n ≤ total g n → (k : ℕ) → k < n → f k ≡ g k
squeezed g f zero h t k l = absurd (omega arith)
squeezed g f (suc n) h t k l =
    let rest : total g n ≤ total f n = total-mono g f n (λ j m. h j (omega arith)) in
    let here : g n ≤ f n = h n (omega arith) in
    elim (cases_eq k n) [
      | inl e ↦ ap f e ∙ (let same : f n ≡ g n = omega arith in same) ∙ ap g (sym e)
      | inr ne ↦ squeezed g f n (λ j m. h j (omega arith)) (omega arith) k (omega arith)
    ]

-- one of each of five ranks in a row
abbrev row : ℕ → ℕ → ℕ
row low k = cond (nat_le low k && nat_lt k (low + 5)) 1 0

abbrev RowOf : ℕ → Type 0
RowOf low = (total (row low) 13 ≡ 5) × (groups_counted (row low) ≡ (low + 4) ∷ (low + 3) ∷ (low + 2) ∷ (low + 1) ∷ low ∷ [])

row_of : (low : ℕ) → low ≤ 8 → RowOf low
unfolding groups_counted ranks_counted
row_of zero h = (refl, refl)
row_of (suc zero) h = (refl, refl)
row_of (suc (suc zero)) h = (refl, refl)
row_of (suc (suc (suc zero))) h = (refl, refl)
row_of (suc (suc (suc (suc zero)))) h = (refl, refl)
row_of (suc (suc (suc (suc (suc zero))))) h = (refl, refl)
row_of (suc (suc (suc (suc (suc (suc zero)))))) h = (refl, refl)
row_of (suc (suc (suc (suc (suc (suc (suc zero))))))) h = (refl, refl)
row_of (suc (suc (suc (suc (suc (suc (suc (suc zero)))))))) h = (refl, refl)
row_of (suc (suc (suc (suc (suc (suc (suc (suc (suc low))))))))) h = absurd (omega arith)

row_within : (f : ℕ → ℕ) (low : ℕ) → ((k : ℕ) → k < 5 → f (low + k) ≡ 1) → (k : ℕ) → row low k ≤ f k
row_within f low h k = elim (cases_lt k low) [
  | inl l ↦ (let no : nat_le low k ≡ false = grind arith in rw no (omega arith))
  | inr ge ↦ elim (cases_lt k (low + 5)) [
    | inl l ↦
        let yes : nat_le low k ≡ true = grind arith in
        let also : nat_lt k (low + 5) ≡ true = grind arith in
        let at : f (low + (k - low)) ≡ 1 = h (k - low) (omega arith) in
        let same : f (low + (k - low)) ≡ f k = ap f (omega arith) in
        rw (yes, also) (omega arith)
    | inr past ↦
        let yes : nat_le low k ≡ true = grind arith in
        let no : nat_lt k (low + 5) ≡ false = grind arith in
        rw (yes, no) (omega arith)
  ]
]

pub row_groups : (five : List ℕ) (low : ℕ) → length five ≡ 5 → AreInARow five low → groups five ≡ (low + 4) ∷ (low + 3) ∷ (low + 2) ∷ (low + 1) ∷ low ∷ []
row_groups five low whole run =
    let concrete = row_of low run.0 in
    groups_counted-same (count_of_rank five) (row low)
    (squeezed (row low) (count_of_rank five) 13 (λ k l. row_within (count_of_rank five) low run.1 k) (omega (arith, total-cards five 13, concrete.0)))
    ∙ concrete.1

-- an ace and the four lowest ranks
abbrev pub low_row : ℕ → ℕ
low_row k = cond (nat_lt k 4) 1 (cond (k == 12) 1 0)

pub low_row_of : (total low_row 13 ≡ 5) × (groups_counted low_row ≡ 12 ∷ 3 ∷ 2 ∷ 1 ∷ 0 ∷ [])
unfolding groups_counted ranks_counted
low_row_of = (refl, refl)

pub low_row_within : (f : ℕ → ℕ) → f 12 ≡ 1 → ((k : ℕ) → k < 4 → f k ≡ 1) → (k : ℕ) → low_row k ≤ f k
low_row_within f ace h k = elim (cases_lt k 4) [
  | inl l ↦ (let yes : nat_lt k 4 ≡ true = grind arith in rw yes (omega (arith, h k l)))
  | inr ge ↦
      let no : nat_lt k 4 ≡ false = grind arith in
      elim (cases_eq k 12) [
        | inl e ↦ (let t : (k == 12) ≡ true = grind arith in rw (no, t) (omega (arith, ap f e)))
        | inr ne ↦ (let u : (k == 12) ≡ false = grind arith in rw (no, u) (omega arith))
      ]
]

pub low_row_groups : (five : List ℕ) → length five ≡ 5 → AreFiveToAce five → groups five ≡ 12 ∷ 3 ∷ 2 ∷ 1 ∷ 0 ∷ []
low_row_groups five whole run =
    groups_counted-same (count_of_rank five) low_row
    (squeezed low_row (count_of_rank five) 13 (λ k l. low_row_within (count_of_rank five) run.0 run.1 k) (omega (arith, total-cards five 13, low_row_of.0)))
    ∙ low_row_of.1

-- five ranks in a row are a straight, and each counts two more
row_straight : (low : ℕ) → is_straight ((low + 4) ∷ (low + 3) ∷ (low + 2) ∷ (low + 1) ∷ low ∷ []) ≡ true
unfolding is_straight
row_straight low =
    let a : (low + 4 == low + 3 + 1) ≡ true = grind arith in
    let b : (low + 3 == low + 2 + 1) ≡ true = grind arith in
    let c : (low + 2 == low + 1 + 1) ≡ true = grind arith in
    let d : (low + 1 == low + 1) ≡ true = grind arith in
    rw (a, b, c, d) refl

row_no_wheel : (low : ℕ) → is_wheel ((low + 4) ∷ (low + 3) ∷ (low + 2) ∷ (low + 1) ∷ low ∷ []) ≡ false
row_no_wheel low = elim (cases_eq low 8) [
  | inl e ↦ (let no : (low + 3 == 3) ≡ false = grind arith in let yes : (low + 4 == 12) ≡ true = grind arith in rw (no, yes) refl)
  | inr ne ↦ (let no : (low + 4 == 12) ≡ false = grind arith in rw no refl)
]

row_pips : (low : ℕ) → pips ((low + 4) ∷ (low + 3) ∷ (low + 2) ∷ (low + 1) ∷ low ∷ []) ≡ (low + 6) ∷ (low + 5) ∷ (low + 4) ∷ (low + 3) ∷ (low + 2) ∷ []
row_pips low =
    let a : low + 4 + 2 ≡ low + 6 = omega arith in
    let b : low + 3 + 2 ≡ low + 5 = omega arith in
    let c : low + 2 + 2 ≡ low + 4 = omega arith in
    let d : low + 1 + 2 ≡ low + 3 = omega arith in
    pips_plain ((low + 4) ∷ (low + 3) ∷ (low + 2) ∷ (low + 1) ∷ low ∷ []) (row_no_wheel low) ∙ cc

-- how five ranks of one card each make a straight
abbrev IsRun : (ℕ → ℕ) → Type 0
IsRun f = ((low : ℕ) × ((low ≤ 8) × ((k : ℕ) → k < 5 → f (low + k) ≡ 1))) ⊎ ((f 12 ≡ 1) × ((k : ℕ) → k < 4 → f k ≡ 1))

in_a_row : (f : ℕ → ℕ) (a b c d e : ℕ) → a < 13 → f a ≡ 1 → f b ≡ 1 → f c ≡ 1 → f d ≡ 1 → f e ≡ 1 → falls_by_one (a ∷ b ∷ c ∷ d ∷ e ∷ []) ≡ true → IsRun f
in_a_row f a b c d e h fa fb fc fd fe falls =
    let one = next_falls a b (c ∷ d ∷ e ∷ []) falls in
    let two = next_falls b c (d ∷ e ∷ []) one.1 in
    let three = next_falls c d (e ∷ []) two.1 in
    let four = next_falls d e [] three.1 in
    inl (
      e,
      (
        omega arith,
        λ k l. elim (cases_eq k 0) [
          | inl i ↦ ap f (let at : e + k ≡ e = omega arith in at) ∙ fe
          | inr not_zero ↦ elim (cases_eq k 1) [
            | inl i ↦ ap f (let at : e + k ≡ d = omega arith in at) ∙ fd
            | inr not_one ↦ elim (cases_eq k 2) [
              | inl i ↦ ap f (let at : e + k ≡ c = omega arith in at) ∙ fc
              | inr not_two ↦ elim (cases_eq k 3) [
                | inl i ↦ ap f (let at : e + k ≡ b = omega arith in at) ∙ fb
                | inr not_three ↦ ap f (let at : e + k ≡ a = omega arith in at) ∙ fa
              ]
            ]
          ]
        ],
      ),
    )

five_to_ace : (f : ℕ → ℕ) (a b c d e : ℕ) → f a ≡ 1 → f b ≡ 1 → f c ≡ 1 → f d ≡ 1 → f e ≡ 1 → is_wheel (a ∷ b ∷ c ∷ d ∷ e ∷ []) ≡ true → IsRun f
five_to_ace f a b c d e fa fb fc fd fe wheel =
    let is = wheel_ranks a b c d e wheel in
    inr (
      ap f (sym is.ace) ∙ fa,
      λ k l. elim (cases_eq k 0) [
        | inl i ↦ ap f (i ∙ sym is.two) ∙ fe
        | inr not_zero ↦ elim (cases_eq k 1) [
          | inl i ↦ ap f (i ∙ sym is.three) ∙ fd
          | inr not_one ↦ elim (cases_eq k 2) [
            | inl i ↦ ap f (i ∙ sym is.four) ∙ fc
            | inr not_two ↦ ap f (let at : k ≡ b = omega (arith, is.five) in at) ∙ fb
          ]
        ]
      ],
    )

ranks_run : (f : ℕ → ℕ) (ranks : List ℕ) → length ranks ≡ 5 → All (IsCounted f 1 13) ranks → is_straight ranks ≡ true → IsRun f
ranks_run f [] h all s = absurd (omega arith)
ranks_run f (a ∷ []) h all s = absurd (omega arith)
ranks_run f (a ∷ b ∷ []) h all s = absurd (omega arith)
ranks_run f (a ∷ b ∷ c ∷ []) h all s = absurd (omega arith)
ranks_run f (a ∷ b ∷ c ∷ d ∷ []) h all s = absurd (omega arith)
ranks_run f (a ∷ b ∷ c ∷ d ∷ e ∷ []) h all s =
    let at_a = all 0 0 (omega arith) in
    let at_b = all 1 0 (omega arith) in
    let at_c = all 2 0 (omega arith) in
    let at_d = all 3 0 (omega arith) in
    let at_e = all 4 0 (omega arith) in
    elim (is_wheel (a ∷ b ∷ c ∷ d ∷ e ∷ [])) as (λ w. is_wheel (a ∷ b ∷ c ∷ d ∷ e ∷ []) ≡ w → IsRun f) [
      | true ↦ λ wheel. five_to_ace f a b c d e at_a.1 at_b.1 at_c.1 at_d.1 at_e.1 wheel
      | false ↦ λ plain. in_a_row f a b c d e at_a.0 at_a.1 at_b.1 at_c.1 at_d.1 at_e.1 (straight_falls a b c d e s plain)
    ] refl
ranks_run f (a ∷ b ∷ c ∷ d ∷ e ∷ g ∷ rest) h all s = absurd (omega arith)

nothing : (xs : List ℕ) → length xs ≡ 0 → xs ≡ []
nothing [] h = refl
nothing (x ∷ xs) h = absurd (omega arith)

all_counted : (f : ℕ → ℕ) → All (IsCounted f 1 13) (ranks_counted f 1)
unfolding ranks_counted
all_counted f = are_counted f 1 13

single_groups : (f : ℕ → ℕ) → length (ranks_counted f 4) ≡ 0 → length (ranks_counted f 3) ≡ 0 → length (ranks_counted f 2) ≡ 0 → groups_counted f ≡ ranks_counted f 1
unfolding groups_counted
single_groups f a b c = rw (nothing (ranks_counted f 4) a, nothing (ranks_counted f 3) b, nothing (ranks_counted f 2) c) refl

straight_run : (five : List ℕ) → length five ≡ 5 → IsStraight five → IsRun (count_of_rank five)
straight_run five whole s =
    let none = straight_groups five whole s in
    let single : groups five ≡ ranks_counted (count_of_rank five) 1 = single_groups (count_of_rank five) none.0 none.1 none.2 in
    let P : List ℕ → Type 0 = λ ranks. All (IsCounted (count_of_rank five) 1 13) ranks in
    ranks_run (count_of_rank five) (groups five) (straight_length (groups five) s) (subst P (sym single) (all_counted (count_of_rank five))) s

pub straight-IsUsual : (five : List ℕ) → IsFive five → IsUsualStraight five
straight-IsUsual five whole = record {
  in_a_row = λ low run.
      let is : groups five ≡ (low + 4) ∷ (low + 3) ∷ (low + 2) ∷ (low + 1) ∷ low ∷ [] = row_groups five low whole.1 run in
      (ap is_straight is ∙ row_straight low, ap pips is ∙ row_pips low);
  five_to_ace = λ run.
      let is : groups five ≡ 12 ∷ 3 ∷ 2 ∷ 1 ∷ 0 ∷ [] = low_row_groups five whole.1 run in
      (ap is_straight is ∙ wheel_straight (12 ∷ 3 ∷ 2 ∷ 1 ∷ 0 ∷ []) refl, ap pips is ∙ pips_wheel (12 ∷ 3 ∷ 2 ∷ 1 ∷ 0 ∷ []) refl);
  no_other = λ s. straight_run five whole.1 s;
}
