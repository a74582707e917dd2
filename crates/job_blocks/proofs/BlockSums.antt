-- The sums of two parts of a listing fit, and so do those of one block more.
use Rattle.std.proofs.Common.{◌≡◌, ℕ, suc, ◌+◌, ◌*◌, ◌<◌, ◌≤◌, ◌-◌, ◌^◌, List, [], ◌∷◌, length, length-append, take, drop, arith}
use Rattle.std.specs.List.{sum_by}
use Rattle.std.proofs.lemmas.List.{length-take}
use Rattle.std.proofs.lemmas.List.Sums.{sum_by-cons, count_by-le-length}
use Rattle.card_sets.specs.declared.games.Side.{Side}
use Rattle.showdown_tally.specs.Cells.{Sums, IsSum, CellFits, cell_plus, cell_at, units_at}
use Rattle.showdown_tally.specs.CountLaws.{units_small}
use Rattle.showdown_tally.specs.Showdown.{Showdown, wins, ties, loses, units}
use Rattle.showdown_tally.specs.Tallies.{Counts}
use Rattle.job_blocks.specs.Blocks.{block_of, blocks_below}
use Rattle.job_blocks.specs.declared.limits.TheConstants.{BLOCK}
use Rattle.runout_ranges.specs.declared.limits.TheConstants.{RUNOUT_MAX}
use Rattle.job_blocks.proofs.BlockLists.{Counts-join, below-take}

sum_small : {X : Type 0} (f : X → ℕ) (xs : List X) → ((x : X) → f x ≤ 10080) → sum_by f xs ≤ 10080 * length xs
sum_small f [] h = omega arith
sum_small f (x ∷ xs) h =
    let ih : sum_by f xs ≤ 10080 * length xs = sum_small f xs h in
    rw (sum_by-cons f x xs) (omega (arith, h x))

pub cells_fit : (deal : Showdown) (some more : List (List (List ℕ))) (old other : Sums) → Counts deal some old → Counts deal more other → 10080 * (length some + length more) < 2 ^ 64
    → (pot hand : ℕ) (side : Side) → pot < 10 → hand < 10 → CellFits (cell_plus (cell_at old pot hand side) (cell_at other pot hand side))
cells_fit deal some more old other a b few pot hand side p h = rw (a.cells pot hand side p h, b.cells pot hand side p h) (
  omega (arith, count_by-le-length (wins deal pot hand side) some, count_by-le-length (wins deal pot hand side) more),
  omega (arith, count_by-le-length (ties deal pot hand side) some, count_by-le-length (ties deal pot hand side) more),
  omega (arith, count_by-le-length (loses deal pot hand side) some, count_by-le-length (loses deal pot hand side) more),
)

pub units_fit : (deal : Showdown) (some more : List (List (List ℕ))) (old other : Sums) → Counts deal some old → Counts deal more other → 10080 * (length some + length more) < 2 ^ 64
    → (pot hand : ℕ) → pot < 10 → hand < 10 → units_at old pot hand + units_at other pot hand < 2 ^ 64
units_fit deal some more old other a b few pot hand p h =
    let e = a.units pot hand p h in
    let f = b.units pot hand p h in
    omega (arith, sum_small (units deal pot hand) some (units_small deal pot hand), sum_small (units deal pot hand) more (units_small deal pot hand))

-- the first so many of a list are no more than that, and no more than all
take_few : {X : Type 0} (n : ℕ) (xs : List X) → length (take n xs) ≤ n
take_few n xs = omega (arith, length-take n xs)

take_some : {X : Type 0} (n : ℕ) (xs : List X) → length (take n xs) ≤ length xs
take_some n xs = omega (arith, length-take n xs)

-- neither the blocks so far nor the next are longer than the listing
pub parts_few : (all : List (List (List ℕ))) (block : ℕ) → length all ≤ RUNOUT_MAX → 10080 * (length (blocks_below all block) + length (block_of all block)) < 2 ^ 64
parts_few all block few = small (length (blocks_below all block)) (length (block_of all block)) (rw (below-take all block) (take_some (block * BLOCK) all)) (rw size (take_few BLOCK (drop (block * BLOCK) all)))
  where
    size : block * BLOCK + BLOCK - block * BLOCK ≡ BLOCK
    size = omega arith

    small : (before here : ℕ) → before ≤ length all → here ≤ BLOCK → 10080 * (before + here) < 2 ^ 64
    small before here b h = omega arith

pub more_blocks : (deal : Showdown) (all : List (List (List ℕ))) (block : ℕ) (old other new : Sums) → Counts deal (blocks_below all block) old → Counts deal (block_of all block) other → IsSum old other new → Counts deal (blocks_below all (block + 1)) new
more_blocks deal all block old other new a b sum =
    let up : block + 1 ≡ suc block = omega arith in
    rw up (Counts-join deal (blocks_below all block) (block_of all block) old other new a b sum)

pub length_more_blocks : (all : List (List (List ℕ))) (block before now : ℕ) → now ≡ (before + length (blocks_below all block)) + length (block_of all block) → now ≡ before + length (blocks_below all (block + 1))
length_more_blocks all block before now e =
    let up : block + 1 ≡ suc block = omega arith in
    rw up (omega (arith, e, length-append (blocks_below all block) (block_of all block)))

-- and how many they are fits
pub runouts_fit : (a b some more : ℕ) → a ≡ some → b ≡ more → 10080 * (some + more) < 2 ^ 64 → a + b < 2 ^ 64
runouts_fit a b some more e h few = omega arith

-- the steps of one block more
pub steps_more : (now before first start some more : ℕ) → now ≡ before + more → before + first ≡ start + some → now + first ≡ (start + some) + more
steps_more now before first start some more e h = omega arith
