-- What runouts are worth by the counts of a side: by the set that wins it, with a low and without one.
use Rattle.std.proofs.Common.{◌≡◌, ℕ, zero, suc, ◌+◌, ◌*◌, ◌<◌, ◌≤◌, ◌==◌, ◌&&◌, ◌^◌, Bool, true, false, cond, refl, sym, ap, ◌∙◌, inl, inr, arith, List, [], ◌∷◌}
use Rattle.std.specs.Prelude.{count_by, is_some, not, slice_index}
use Rattle.std.specs.List.{sum_by, list_all}
use Rattle.std.proofs.Math.Nat.{pow-le-pow_right}
use Rattle.std.proofs.lemmas.Bool.{cases_eq}
use Rattle.std.proofs.lemmas.List.Sums.{sum_by-cons}
use Rattle.card_sets.specs.Games.{has_side}
use Rattle.card_sets.specs.PlayerSets.{hands_below}
use Rattle.card_sets.specs.declared.games.Side.{Side}
use Rattle.card_sets.specs.declared.games.Side.TheVariants.{High, Low}
use Rattle.showdown_tally.specs.CountShares.{places_sum}
use Rattle.showdown_tally.specs.SetShares.{sum_below}
use Rattle.showdown_tally.specs.Showdown.{Showdown, eligible_in, is_beaten_by, value_after, winners}
use Rattle.showdown_tally.specs.SideCounts.{count_place}
use Rattle.showdown_tally.specs.Sides.{side_outcome}
use Rattle.showdown_tally.proofs.ClassSums.{by_classes, below_same, by_same}
use Rattle.showdown_tally.proofs.SetMasks.{mask_hands, mask_below}

-- a sum of two sums
below_plus : (f g : ℕ → ℕ) (n : ℕ) → sum_below (λ c. f c + g c) n ≡ sum_below f n + sum_below g n
below_plus f g zero = refl
below_plus f g (suc n) = let ih : sum_below (λ c. f c + g c) n ≡ sum_below f n + sum_below g n = below_plus f g n in omega arith

pub by_plus : {X : Type 0} (f g : X → ℕ) (xs : List X) → sum_by (λ x. f x + g x) xs ≡ sum_by f xs + sum_by g xs
by_plus f g [] = refl
by_plus f g (x ∷ xs) =
    let ih : sum_by (λ x. f x + g x) xs ≡ sum_by f xs + sum_by g xs = by_plus f g xs in
    omega (arith, sum_by-cons (λ x. f x + g x) x xs, sum_by-cons f x xs, sum_by-cons g x xs)

-- what those that pass are worth by their classes, by how many pass in each: a member that doesn't pass is in a class of its own
by_part : {X : Type 0} (class : X → ℕ) (pass : X → Bool) (worth : ℕ → ℕ) (n : ℕ) (xs : List X) → ((x : X) → class x < n)
    → sum_below (λ c. worth c * count_by (λ x. pass x && (class x == c)) xs) n ≡ sum_by (λ x. cond (pass x) (worth (class x)) 0) xs
by_part {X} class pass worth n xs small =
    below_same (λ c. worth c * count_by (λ x. pass x && (class x == c)) xs) (λ c. known c * count_by (λ x. key x == c) xs) n (λ c l. rw (is_known c l) (ap (λ m. worth c * m) (by_same (λ x. cond (pass x && (class x == c)) 1 0) (λ x. cond (key x == c) 1 0) xs (λ x. ap (λ b. cond b 1 0) (same (pass x) (class x) c l)))))
    ∙ last
    ∙ by_classes key known (suc n) xs (λ x. in_range (pass x) (class x) (small x))
    ∙ by_same (λ x. known (key x)) (λ x. cond (pass x) (worth (class x)) 0) xs (λ x. valued (pass x) (class x) (small x))
  where
    key : X → ℕ
    key x = cond (pass x) (class x) n

    known : ℕ → ℕ
    known c = cond (c == n) 0 (worth c)

    is_known : (c : ℕ) → c < n → known c ≡ worth c
    is_known c l = let f : (c == n) ≡ false = grind arith in rw f refl

    same : (b : Bool) (k c : ℕ) → c < n → (b && (k == c)) ≡ (cond b k n == c)
    same true k c l = refl
    same false k c l = sym (let f : (n == c) ≡ false = grind arith in f)

    in_range : (b : Bool) (k : ℕ) → k < n → cond b k n < suc n
    in_range true k l = omega arith
    in_range false k l = omega arith

    valued : (b : Bool) (k : ℕ) → k < n → known (cond b k n) ≡ cond b (worth k) 0
    valued true k l = is_known k l
    valued false k l = let t : (n == n) ≡ true = grind arith in rw t refl

    last : sum_below (λ c. known c * count_by (λ x. key x == c) xs) n ≡ sum_below (λ c. known c * count_by (λ x. key x == c) xs) (suc n)
    last = let t : (n == n) ≡ true = grind arith in rw t (omega arith)

place_none : (b : Bool) (h s : ℕ) → h < 1024 → s < 1024 → (h + cond b 0 1024 == s) ≡ (b && (h == s))
place_none true h s k l = let z : h + 0 ≡ h = omega arith in rw z refl
place_none false h s k l = grind arith

place_some : (b : Bool) (h s : ℕ) → h < 1024 → s < 1024 → (h + cond b 0 1024 == s + 1024) ≡ (not b && (h == s))
place_some true h s k l = grind arith
place_some false h s k l = elim (cases_eq h s) [
  | inl e ↦
      let t : (h == s) ≡ true = grind arith in
      let u : (h + 1024 == s + 1024) ≡ true = grind arith in
      rw (t, u) refl
  | inr ne ↦
      let t : (h == s) ≡ false = grind arith in
      let u : (h + 1024 == s + 1024) ≡ false = grind arith in
      rw (t, u) refl
]

-- the set that wins has the winners, and is one of the first hands
pub set_again : (deal : Showdown) (pot mask count : ℕ) (side : Side) (runout : List (List ℕ)) → eligible_in deal pot ≡ hands_below mask count → hands_below (side_outcome side deal pot runout) count ≡ winners deal pot side runout
unfolding winners
set_again deal pot mask count side runout hands = rw hands (mask_hands (λ i. is_some (value_after side deal.state runout i) && list_all (λ j. not (is_beaten_by side (value_after side deal.state runout i) (value_after side deal.state runout j))) (hands_below mask count)) mask count)

set_below : (deal : Showdown) (pot mask count : ℕ) (side : Side) (runout : List (List ℕ)) → eligible_in deal pot ≡ hands_below mask count → side_outcome side deal pot runout < 2 ^ count
unfolding winners
set_below deal pot mask count side runout hands = rw hands (mask_below (λ i. is_some (value_after side deal.state runout i) && list_all (λ j. not (is_beaten_by side (value_after side deal.state runout i) (value_after side deal.state runout j))) (hands_below mask count)) mask count)

-- whether a runout is counted at the place of its set alone
abbrev pub unmarked : Showdown → ℕ → Side → List (List ℕ) → Bool
unmarked deal pot High runout = side_outcome Low deal pot runout == 0
unmarked deal pot Low runout = true

place_is : (deal : Showdown) (pot : ℕ) (side : Side) (runout : List (List ℕ)) → count_place deal pot side runout ≡ side_outcome side deal pot runout + cond (unmarked deal pot side runout) 0 1024
place_is deal pot High runout = refl
place_is deal pot Low runout = omega arith

-- a side that a pot is played for, whose hands are those of a mask, and how often each set wins it
pub record IsPlayed (deal : Showdown) (all : List (List (List ℕ))) (pot mask count : ℕ) (side : Side) (row : List ℕ) : Type 0 where
  pub few : count ≤ 10
  pub has : has_side side deal.state.game ≡ true
  pub hands : eligible_in deal pot ≡ hands_below mask count
  pub counts : (place : ℕ) → place < 2048 → slice_index row place ≡ count_by (λ runout. count_place deal pot side runout == place) all

either : (b : Bool) (x y : ℕ) → cond b x 0 + cond (not b) y 0 ≡ cond b x y
either true x y = omega arith
either false x y = omega arith

-- what each runout is worth by the set that wins the side, and by whether it has a mark, is summed over the places
pub sum_over : (deal : Showdown) (all : List (List (List ℕ))) (pot mask count : ℕ) (side : Side) (row : List ℕ) → IsPlayed deal all pot mask count side row → (alone beside : ℕ → ℕ) (each : List (List ℕ) → ℕ)
    → ((runout : List (List ℕ)) → cond (unmarked deal pot side runout) (alone (side_outcome side deal pot runout)) (beside (side_outcome side deal pot runout)) ≡ each runout)
    → places_sum row alone beside (2 ^ count) ≡ sum_by each all
sum_over deal all pot mask count side row is alone beside each same =
    below_same (λ s. alone s * slice_index row s + beside s * slice_index row (s + 1024)) (λ s. alone s * plain s + beside s * marked s) n (λ s l. rw (plain_is s l, marked_is s l) refl)
    ∙ below_plus (λ s. alone s * plain s) (λ s. beside s * marked s) n
    ∙ sums
    ∙ by_same (λ r. cond (none r) (alone (set r)) 0 + cond (not (none r)) (beside (set r)) 0) each all (λ r. either (none r) (alone (set r)) (beside (set r)) ∙ same r)
  where
    n : ℕ
    n = 2 ^ count

    set : List (List ℕ) → ℕ
    set r = side_outcome side deal pot r

    none : List (List ℕ) → Bool
    none r = unmarked deal pot side r

    plain : ℕ → ℕ
    plain s = count_by (λ r. none r && (set r == s)) all

    marked : ℕ → ℕ
    marked s = count_by (λ r. not (none r) && (set r == s)) all

    power : n ≤ 1024
    power = pow-le-pow_right (let z : 0 < 2 = omega arith in z) is.few

    set_small : (r : List (List ℕ)) → set r < n
    set_small r = set_below deal pot mask count side r is.hands

    plain_is : (s : ℕ) → s < n → slice_index row s ≡ plain s
    plain_is s l =
        let p = power in
        is.counts s (omega arith) ∙ by_same (λ r. cond (count_place deal pot side r == s) 1 0) (λ r. cond (none r && (set r == s)) 1 0) all
        (λ r. let h = set_small r in ap (λ k. cond (k == s) 1 0) (place_is deal pot side r) ∙ ap (λ b. cond b 1 0) (place_none (none r) (set r) s (omega arith) (omega arith)))

    marked_is : (s : ℕ) → s < n → slice_index row (s + 1024) ≡ marked s
    marked_is s l =
        let p = power in
        is.counts (s + 1024) (omega arith) ∙ by_same (λ r. cond (count_place deal pot side r == s + 1024) 1 0) (λ r. cond (not (none r) && (set r == s)) 1 0) all
        (λ r. let h = set_small r in ap (λ k. cond (k == s + 1024) 1 0) (place_is deal pot side r) ∙ ap (λ b. cond b 1 0) (place_some (none r) (set r) s (omega arith) (omega arith)))

    sums : sum_below (λ s. alone s * plain s) n + sum_below (λ s. beside s * marked s) n ≡ sum_by (λ r. cond (none r) (alone (set r)) 0 + cond (not (none r)) (beside (set r)) 0) all
    sums =
        let a = by_part set none alone n all set_small in
        let b = by_part set (λ r. not (none r)) beside n all set_small in
        rw (a, b) (sym (by_plus (λ r. cond (none r) (alone (set r)) 0) (λ r. cond (not (none r)) (beside (set r)) 0) all))
