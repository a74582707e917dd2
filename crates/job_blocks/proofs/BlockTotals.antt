-- The sums of all blocks are those of the listing.
use Rattle.std.proofs.Common.{◌≡◌, ℕ, zero, suc, ◌+◌, ◌*◌, ◌≤◌, ◌<◌, List, [], ◌∷◌, ◌++◌, length, length-append, sum, refl, sym, ap, ◌∙◌, arith, cond}
use Rattle.std.specs.List.{sum_by, flat_map, range_with_len}
use Rattle.std.proofs.lemmas.List.{append-nil, append_assoc}
use Rattle.std.proofs.lemmas.List.Sums.{sum_by-append, sum_by-cons}
use Rattle.card_sets.specs.Cards.{IsRising}
use Rattle.card_sets.specs.State.{State}
use Rattle.runout_ranges.specs.Shapes.{IsShapeOf, slots_of}
use Rattle.runout_ranges.specs.Slots.{counts_of}
use Rattle.runout_ranges.specs.declared.shapes.Shape.{Shape}
use Rattle.runout_ranges.proofs.CallerLemmas.{length_runouts, ways_some}
use Rattle.showdown_tally.specs.Cells.{Sums, cell_at, units_at}
use Rattle.showdown_tally.specs.Showdown.{Showdown, wins, ties, loses, units}
use Rattle.showdown_tally.specs.Tallies.{Counts, cell_over, runouts_after}
use Rattle.job_blocks.specs.Blocks.{block_of, blocks_of, blocks_below, sum_below, IsTotal}
use Rattle.job_blocks.specs.declared.limits.TheConstants.{BLOCK}
use Rattle.job_blocks.proofs.BlockLists.{blocks-all}
use Rattle.job_blocks.proofs.OnlyRunout.{of_state}

pub enough_blocks : (runouts : ℕ) → runouts ≤ blocks_of runouts * BLOCK
enough_blocks runouts = omega arith

-- so many blocks as there are hold all
pub enough_below : (runouts block blocks : ℕ) → blocks ≡ blocks_of runouts → blocks ≤ block → runouts ≤ block * BLOCK
enough_below runouts block blocks e l = omega (arith, enough_blocks runouts)

pub some_blocks : (runouts : ℕ) → 0 < runouts → 0 < blocks_of runouts
some_blocks runouts some = omega arith

-- the only block holds all
pub one_block : (all : List (List (List ℕ))) (blocks : ℕ) → blocks ≡ blocks_of (length all) → blocks ≡ 1 → blocks_below all 1 ≡ all
one_block all blocks e one = blocks-all all 1 (enough_below (length all) 1 blocks e (omega (arith, one)))

pub sum_flat : {X Y : Type 0} (h : Y → ℕ) (g : X → List Y) (xs : List X) → sum_by h (flat_map g xs) ≡ sum_by (λ x. sum_by h (g x)) xs
sum_flat h g [] = refl
sum_flat h g (x ∷ xs) = let ih = sum_flat h g xs in omega (arith, sum_by-append h (g x) (flat_map g xs), sum_by-cons (λ y. sum_by h (g y)) x xs)

-- so many blocks from one on, after those before it
blocks_from : {X : Type 0} (all : List X) (k n : ℕ) → blocks_below all k ++ flat_map (block_of all) (range_with_len k n) ≡ blocks_below all (k + n)
blocks_from all k zero = let e : k ≡ k + 0 = omega arith in append-nil (blocks_below all k) ∙ ap (blocks_below all) e
blocks_from all k (suc n) =
    let up : suc k ≡ k + 1 = omega arith in
    let on : k + 1 + n ≡ k + suc n = omega arith in
    let rest = flat_map (block_of all) (range_with_len (k + 1) n) in
    sym (append_assoc (blocks_below all k) (block_of all k) rest) ∙ ap (λ m. blocks_below all m ++ rest) up ∙ blocks_from all (k + 1) n ∙ ap (blocks_below all) on

-- all blocks are the listing
pub all_blocks : (all : List (List (List ℕ))) → flat_map (block_of all) (range_with_len 0 (blocks_of (length all))) ≡ all
all_blocks all =
    let none : 0 + blocks_of (length all) ≡ blocks_of (length all) = omega arith in
    blocks_from all 0 (blocks_of (length all)) ∙ ap (blocks_below all) none ∙ blocks-all all (blocks_of (length all)) (enough_blocks (length all))

-- each counts for one
pub ones : {X : Type 0} (xs : List X) → sum_by (λ _. 1) xs ≡ length xs
ones [] = refl
ones {X} (x ∷ xs) = let ih = ones xs in omega (arith, sum_by-cons (λ (_ : X). 1) x xs)

-- a sum over the blocks put together
sum-blocks : {X : Type 0} (f : X → ℕ) (all : List X) (n : ℕ) → sum_by f (blocks_below all n) ≡ sum_below (λ b. sum_by f (block_of all b)) n
sum-blocks f all zero = refl
sum-blocks f all (suc n) = sum_by-append f (blocks_below all n) (block_of all n) ∙ ap (λ m. m + sum_by f (block_of all n)) (sum-blocks f all n)

length-blocks : {X : Type 0} (all : List X) (n : ℕ) → length (blocks_below all n) ≡ sum_below (λ b. length (block_of all b)) n
length-blocks all zero = refl
length-blocks all (suc n) = length-append (blocks_below all n) (block_of all n) ∙ ap (λ m. m + length (block_of all n)) (length-blocks all n)

sum-same : (f g : ℕ → ℕ) (n : ℕ) → ((k : ℕ) → k < n → f k ≡ g k) → sum_below f n ≡ sum_below g n
sum-same f g zero h = refl
sum-same f g (suc n) h = ap (λ m. m + f n) (sum-same f g n (λ k l. h k (omega arith))) ∙ ap (λ m. sum_below g n + m) (h n (omega arith))

-- a total is a sum over all members
sum-all : (f : List (List ℕ) → ℕ) (all : List (List (List ℕ))) (part : ℕ → ℕ) (total : ℕ) → total ≡ sum_below part (blocks_of (length all)) → ((b : ℕ) → b < blocks_of (length all) → part b ≡ sum_by f (block_of all b)) → total ≡ sum_by f all
sum-all f all part total e h =
    e ∙ sum-same part (λ b. sum_by f (block_of all b)) (blocks_of (length all)) h ∙ sym (sum-blocks f all (blocks_of (length all))) ∙ ap (sum_by f) (blocks-all all (blocks_of (length all)) (enough_blocks (length all)))

pub blocks-add_up : (deal : Showdown) (all : List (List (List ℕ))) (part : ℕ → Sums) (total : Sums) → ((block : ℕ) → block < blocks_of (length all) → Counts deal (block_of all block) (part block)) → IsTotal part (blocks_of (length all)) total → Counts deal all total
blocks-add_up deal all part total each is = record {
  runouts = is.runouts ∙ sum-same (λ b. (part b).runouts) (λ b. length (block_of all b)) (blocks_of (length all)) (λ b l. (each b l).runouts) ∙ sym (length-blocks all (blocks_of (length all))) ∙ ap length (blocks-all all (blocks_of (length all)) (enough_blocks (length all)));
  cells = λ pot hand side p h.
      let won = sum-all (λ r. cond (wins deal pot hand side r) 1 0) all (λ b. (cell_at (part b) pot hand side).win) (cell_at total pot hand side).win (is.wins pot hand side p h) (λ b l. ap (λ c. c.win) ((each b l).cells pot hand side p h)) in
      let tied = sum-all (λ r. cond (ties deal pot hand side r) 1 0) all (λ b. (cell_at (part b) pot hand side).tie) (cell_at total pot hand side).tie (is.ties pot hand side p h) (λ b l. ap (λ c. c.tie) ((each b l).cells pot hand side p h)) in
      let lost = sum-all (λ r. cond (loses deal pot hand side r) 1 0) all (λ b. (cell_at (part b) pot hand side).lose) (cell_at total pot hand side).lose (is.losses pot hand side p h) (λ b l. ap (λ c. c.lose) ((each b l).cells pot hand side p h)) in
      ap (λ n. record { win = n; tie = (cell_at total pot hand side).tie; lose = (cell_at total pot hand side).lose }) won
      ∙ ap (λ n. record { win = (cell_over deal all pot hand side).win; tie = n; lose = (cell_at total pot hand side).lose }) tied
      ∙ ap (λ n. record { win = (cell_over deal all pot hand side).win; tie = (cell_over deal all pot hand side).tie; lose = n }) lost;
  units = λ pot hand p h. sum-all (units deal pot hand) all (λ b. units_at (part b) pot hand) (units_at total pot hand) (is.units pot hand p h) (λ b l. (each b l).units pot hand p h);
}

-- there is a way to deal
pub some_runouts : (state : State) (shape : Shape) → IsShapeOf state shape → IsRising shape.unseen → sum (counts_of (slots_of shape)) ≤ length shape.unseen → 0 < length (runouts_after state)
some_runouts state shape is rising enough =
    of_state (λ all. 0 < length all) state shape is (omega (arith, length_runouts (counts_of (slots_of shape)) shape.unseen rising, ways_some (counts_of (slots_of shape)) (length shape.unseen) enough))
