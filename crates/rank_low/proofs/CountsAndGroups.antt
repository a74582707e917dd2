-- What the code makes of counts and groups.
use Rattle.std.proofs.Common.{◌≡◌, ℕ, suc, zero, ◌+◌, ◌*◌, ◌^◌, ◌≤◌, ◌<◌, List, ◌∷◌, [], refl, ap, ◌∙◌, sym, arith, Bool, length, map, subst, slice_index, slice_index_or}
use Rattle.rank_high.specs.High.{value_of, digits_from, groups, groups_counted, ranks_counted, count_of_rank, category_of, is_flush, group_count}
use Rattle.rank_high.proofs.CallerLemmas.{AreBelow, AreBelow-groups_counted, each_below, groups_counted-same, ranks_counted-same, length-groups, group_sizes, IsHighList, AreDigits-map, length-map_two, category_of-le}
use Rattle.rank_low.specs.Low.{low_a5, low_27, low_groups, count_of_low, ace_number, ace_low, is_run}
use Rattle.rank_low.proofs.LowCounts.{length-map_low}
use Rattle.rank_low.proofs.AceLists.{other_sizes}
use Rattle.rank_low.proofs.AceShapes.{FewOfEach, Sizes, sizes_by, sizes-groups, number-by, low_a5-IsAceList}
use Rattle.rank_low.proofs.TurnedNumbers.{ace_number-lt}

pub record FirstTwo (f : ℕ → ℕ) (ranks : List ℕ) (a b : ℕ) : Type 0 where
  pub two : 2 ≤ length ranks
  pub first : f (slice_index ranks 0) ≡ a
  pub second : f (slice_index ranks 1) ≡ b

pub first_two : (f : ℕ → ℕ) (ranks : List ℕ) (a b : ℕ) (more : List ℕ) → map f ranks ≡ a ∷ b ∷ more → FirstTwo f ranks a b
first_two f [] a b more e = absurd (omega (arith, ap length e))
first_two f (r ∷ []) a b more e = absurd (omega (arith, ap length e))
first_two f (r ∷ s ∷ rest) a b more e = record { two = omega arith; first = cc; second = cc }

-- groups from counts, for an ace-to-five low
pub record MadeLow (s : List ℕ) (g : ℕ → ℕ) (ranks : List ℕ) : Type 0 where
  pub few : length ranks ≤ 5
  pub two : 2 ≤ length ranks
  pub below : AreBelow 13 ranks
  pub number : value_of ((g (slice_index ranks 0) * 16 + g (slice_index ranks 1)) ∷ map (λ r. r + 1) ranks) ≡ ace_number (low_a5 s)
  pub small : ace_number (low_a5 s) < 268435456

pub made-low : (s : List ℕ) (g : ℕ → ℕ) (ranks : List ℕ) → length s ≡ 5 → FewOfEach s → ((k : ℕ) → k < 13 → g k ≡ count_of_low s k) → ranks ≡ groups_counted g → MadeLow s g ranks
unfolding value_of
made-low s g ranks h few same e =
    let is : ranks ≡ low_groups s = e ∙ groups_counted-same g (count_of_low s) same in
    let P : List ℕ → Type 0 = λ l. AreBelow 13 l in
    let below : AreBelow 13 ranks = subst P (sym is) (AreBelow-groups_counted (count_of_low s)) in
    let sizes : Sizes s = sizes_by s h few in
    let list : map (count_of_low s) ranks ≡ sizes.first ∷ sizes.second ∷ other_sizes sizes.first sizes.second = ap (λ l. map (count_of_low s) l) is ∙ sizes-groups (count_of_low s) ∙ sizes.list in
    let t = first_two (count_of_low s) ranks sizes.first sizes.second (other_sizes sizes.first sizes.second) list in
    let a : g (slice_index ranks 0) ≡ sizes.first = same (slice_index ranks 0) (each_below 13 ranks below 0 0 (omega (arith, t.two))) ∙ t.first in
    let b : g (slice_index ranks 1) ≡ sizes.second = same (slice_index ranks 1) (each_below 13 ranks below 1 0 (omega (arith, t.two))) ∙ t.second in
    let d : digits_from 5 (map (λ r. r + 1) ranks) ≡ digits_from 5 (map (λ r. r + 1) (low_groups s)) = ap (λ l. digits_from 5 (map (λ r. r + 1) l)) is in
    record {
      few = omega (arith, ap length is, length-groups (map ace_low s), length-map_low s);
      two = t.two;
      below = below;
      number = omega (arith, number-by s h sizes);
      small = ace_number-lt (low_a5 s) (low_a5-IsAceList s h few);
    }

-- a deuce-to-seven low is a category, and then at most five ranks
pub low_27-IsHighList : (five : List ℕ) → length five ≤ 5 → IsHighList (low_27 five)
unfolding low_27
low_27-IsHighList five h =
    let few : group_count five 2 ≤ 8 = omega (arith, group_sizes five) in
    let low : category_of (is_run (groups five)) (is_flush five) (group_count five 4) (group_count five 3) (group_count five 2) ≤ 8 = category_of-le (is_run (groups five)) (is_flush five) (group_count five 4) (group_count five 3) (group_count five 2) few in
    let short : length (groups five) ≤ 5 = omega (arith, length-groups five) in
    (omega arith, AreDigits-map (groups five) (AreBelow-groups_counted _), omega (arith, length-map_two (groups five)))

-- the list of five cards, from the counts of their ranks
deuce-counted : (f : ℕ → ℕ) (s : List ℕ) → ((k : ℕ) → k < 13 → f k ≡ count_of_rank s k)
    → category_of (is_run (groups_counted f)) (is_flush s) (length (ranks_counted f 4)) (length (ranks_counted f 3)) (length (ranks_counted f 2)) ∷ map (λ r. r + 2) (groups_counted f) ≡ low_27 s
unfolding low_27
deuce-counted f s same = rw (groups_counted-same f (count_of_rank s) same, ranks_counted-same f (count_of_rank s) 4 same, ranks_counted-same f (count_of_rank s) 3 same, ranks_counted-same f (count_of_rank s) 2 same) refl

-- what the code makes of the counts
pub made-deuce : (f : ℕ → ℕ) (s : List ℕ) → ((k : ℕ) → k < 13 → f k ≡ count_of_rank s k) → (straight flush : Bool) (fours threes pairs category : ℕ) (ranks ranks' ranks'' ps ps' : List ℕ)
    → ranks ≡ groups_counted f → ranks' ≡ ranks → straight ≡ is_run ranks' → flush ≡ is_flush s
    → fours ≡ length (ranks_counted f 4) → threes ≡ length (ranks_counted f 3) → pairs ≡ length (ranks_counted f 2)
    → category ≡ category_of straight flush fours threes pairs → ranks'' ≡ ranks → ps ≡ map (λ r. r + 2) ranks'' → ps' ≡ ps → category ∷ ps' ≡ low_27 s
made-deuce f s same straight flush fours threes pairs category ranks ranks' ranks'' ps ps' a b0 b d e g h i j k l = let all = deuce-counted f s same in cc
