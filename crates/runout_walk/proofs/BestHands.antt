-- The best of some hands by numbers, and who wins where numbers keep the order of values.
use Rattle.std.proofs.Common.{◌≡◌, ℕ, zero, suc, ◌<◌, ◌≤◌, ◌==◌, ◌&&◌, not, List, [], ◌∷◌, ◌++◌, refl, ap, ◌∙◌, Bool, true, false, cond, max, arith, inl, inr, nat_lt}
use Rattle.std.specs.Prelude.{filter, is_some}
use Rattle.std.specs.Int.{bit_at}
use Rattle.std.specs.List.{list_all}
use Rattle.std.proofs.lemmas.Bool.{cases_lt}
use Rattle.card_sets.specs.State.{State}
use Rattle.card_sets.specs.declared.games.Side.{Side}
use Rattle.card_sets.specs.PlayerSets.{AreBelow, set_of_players, hands_below}
use Rattle.showdown_tally.specs.Showdown.{Showdown, is_beaten_by, winners, value_after, eligible_in}
use Rattle.showdown_tally.specs.Sides.{side_outcome}
use Rattle.runout_walk.specs.Bests.{best_value, best_set}

Below-more : (n m : ℕ) (hands : List ℕ) → n ≤ m → AreBelow n hands → AreBelow m hands
Below-more n m [] l b = tt
Below-more n m (h ∷ hands) l b = (let x = b.0 in omega arith, Below-more n m hands l b.1)

Below-append : (n : ℕ) (xs ys : List ℕ) → AreBelow n xs → AreBelow n ys → AreBelow n (xs ++ ys)
Below-append n [] ys a b = b
Below-append n (x ∷ xs) ys a b = (a.0, Below-append n xs ys a.1 b)

pub below_hands : (mask n : ℕ) → AreBelow n (hands_below mask n)
below_hands mask zero = tt
below_hands mask (suc n) = Below-append (suc n) (hands_below mask n) _ (Below-more n (suc n) (hands_below mask n) (omega arith) (below_hands mask n)) (one (bit_at mask n == 1))
  where
    one : (b : Bool) → AreBelow (suc n) (cond b (n ∷ []) [])
    one true = (omega arith, tt)
    one false = tt

pub best_value-append : (v : ℕ → ℕ) (xs ys : List ℕ) → best_value v (xs ++ ys) ≡ max (best_value v xs) (best_value v ys)
best_value-append v [] ys = omega arith
best_value-append v (x ∷ xs) ys = let ih : best_value v (xs ++ ys) ≡ max (best_value v xs) (best_value v ys) = best_value-append v xs ys in omega arith

-- numbers and tests that agree at the hands that there are
pub value-same : (v w : ℕ → ℕ) (n : ℕ) (hands : List ℕ) → AreBelow n hands → ((h : ℕ) → h < n → v h ≡ w h) → best_value v hands ≡ best_value w hands
value-same v w n [] b e = refl
value-same v w n (h ∷ hands) b e = let ih : best_value v hands ≡ best_value w hands = value-same v w n hands b.1 e in omega (arith, e h b.0, ih)

pub filter-same : (p q : ℕ → Bool) (n : ℕ) (hands : List ℕ) → AreBelow n hands → ((h : ℕ) → h < n → p h ≡ q h) → filter p hands ≡ filter q hands
filter-same p q n [] b e = refl
filter-same p q n (h ∷ hands) b e = ap (λ t. cond t (h ∷ filter p hands) (filter p hands)) (e h b.0) ∙ ap (λ l. cond (q h) (h ∷ l) l) (filter-same p q n hands b.1 e)

pub set-same : (v w : ℕ → ℕ) (n : ℕ) (hands : List ℕ) → AreBelow n hands → ((h : ℕ) → h < n → v h ≡ w h) → best_set v hands ≡ best_set w hands
set-same v w n hands b e = ap set_of_players (filter-same (λ h. v h == best_value v hands) (λ h. w h == best_value w hands) n hands b (λ h l. ap (λ m. m == best_value v hands) (e h l) ∙ ap (λ t. w h == t) (value-same v w n hands b e)))

-- tests of numbers
pub not_less_max : (a b c : ℕ) → (not (nat_lt a b) && not (nat_lt a c)) ≡ not (nat_lt a (max b c))
not_less_max a b c = elim (cases_lt a b) [
  | inl l ↦
      let x : nat_lt a b ≡ true = grind arith in
      let m : a < max b c = omega arith in
      let y : nat_lt a (max b c) ≡ true = grind arith in
      rw (x, y) refl
  | inr g ↦
      let x : nat_lt a b ≡ false = grind arith in
      elim (cases_lt a c) [
        | inl l ↦
            let z : nat_lt a c ≡ true = grind arith in
            let m : a < max b c = omega arith in
            let y : nat_lt a (max b c) ≡ true = grind arith in
            rw (x, z, y) refl
        | inr h ↦
            let z : nat_lt a c ≡ false = grind arith in
            let m : max b c ≤ a = omega arith in
            let y : nat_lt a (max b c) ≡ false = grind arith in
            rw (x, z, y) refl
      ]
]

pub at_most : (a t : ℕ) → a ≤ t → not (nat_lt a t) ≡ (a == t)
at_most a t le = elim (cases_lt a t) [
  | inl l ↦
      let x : nat_lt a t ≡ true = grind arith in
      let f : (a == t) ≡ false = grind arith in
      rw (x, f) refl
  | inr g ↦
      let x : nat_lt a t ≡ false = grind arith in
      let e : a ≡ t = omega arith in
      let f : (a == t) ≡ true = grind arith in
      rw (x, f) refl
]

-- the hands that none beats have the greatest number
top_test : (v : ℕ → ℕ) (t : ℕ) (hands : List ℕ) → best_value v hands ≤ t → filter (λ h. not (nat_lt (v h) t)) hands ≡ filter (λ h. v h == t) hands
top_test v t [] l = refl
top_test v t (h ∷ hands) l =
    ap (λ b. cond b (h ∷ filter (λ h. not (nat_lt (v h) t)) hands) (filter (λ h. not (nat_lt (v h) t)) hands)) (at_most (v h) t (omega arith))
    ∙ ap (λ l. cond (v h == t) (h ∷ l) l) (top_test v t hands (omega arith))

-- each hand has a value, and the numbers keep their order
pub record AreOrdered (side : Side) (st : State) (runout : List (List ℕ)) (n : ℕ) (v : ℕ → ℕ) : Type 0 where
  pub some : (h : ℕ) → h < n → is_some (value_after side st runout h) ≡ true
  pub order : (i j : ℕ) → i < n → j < n → is_beaten_by side (value_after side st runout i) (value_after side st runout j) ≡ nat_lt (v i) (v j)

unbeaten : (side : Side) (st : State) (runout : List (List ℕ)) (n i : ℕ) (v : ℕ → ℕ) (hands : List ℕ) → AreOrdered side st runout n v → i < n → AreBelow n hands
    → list_all (λ j. not (is_beaten_by side (value_after side st runout i) (value_after side st runout j))) hands ≡ not (nat_lt (v i) (best_value v hands))
unbeaten side st runout n i v [] ordered l below = let z : nat_lt (v i) 0 ≡ false = grind arith in rw z refl
unbeaten side st runout n i v (j ∷ hands) ordered l below =
    ap (λ b. not b && list_all (λ j. not (is_beaten_by side (value_after side st runout i) (value_after side st runout j))) hands) (ordered.order i j l below.0)
    ∙ ap (λ b. not (nat_lt (v i) (v j)) && b) (unbeaten side st runout n i v hands ordered l below.1)
    ∙ not_less_max (v i) (v j) (best_value v hands)

-- the winners are the hands with the greatest number
pub ordered_outcome : (side : Side) (deal : Showdown) (pot n : ℕ) (runout : List (List ℕ)) (v : ℕ → ℕ) → AreOrdered side deal.state runout n v → AreBelow n (eligible_in deal pot) → side_outcome side deal pot runout ≡ best_set v (eligible_in deal pot)
unfolding winners
ordered_outcome side deal pot n runout v ordered below =
    let st : State = deal.state in
    let hands : List ℕ = eligible_in deal pot in
    ap set_of_players (filter-same (λ i. is_some (value_after side st runout i) && list_all (λ j. not (is_beaten_by side (value_after side st runout i) (value_after side st runout j))) hands) (λ i. not (nat_lt (v i) (best_value v hands))) n hands below (λ i l.
    ap (λ b. b && list_all (λ j. not (is_beaten_by side (value_after side st runout i) (value_after side st runout j))) hands) (ordered.some i l)
    ∙ unbeaten side st runout n i v hands ordered l below)
    ∙ top_test v (best_value v hands) hands (omega arith))

-- one hand more
pub top_more : (v : ℕ → ℕ) (mask n : ℕ) → best_value v (hands_below mask (suc n)) ≡ max (best_value v (hands_below mask n)) (cond (bit_at mask n == 1) (v n) 0)
top_more v mask n = best_value-append v (hands_below mask n) _ ∙ ap (λ m. max (best_value v (hands_below mask n)) m) (one (bit_at mask n == 1))
  where
    one : (b : Bool) → best_value v (cond b (n ∷ []) []) ≡ cond b (v n) 0
    one true = omega arith
    one false = refl
