-- Blocks of a listing, and the sums of two parts of it.
use Rattle.std.proofs.Common.{◌≡◌, ℕ, zero, suc, ◌+◌, ◌-◌, ◌*◌, ◌≤◌, List, [], ◌∷◌, ◌++◌, length, length-append, take, drop, refl, sym, ap, ◌∙◌, arith, cond, inl, inr, length-drop}
use Rattle.std.specs.Prelude.{min}
use Rattle.std.specs.List.{slice_range}
use Rattle.std.proofs.lemmas.Bool.{cases_lt}
use Rattle.std.proofs.lemmas.List.{length-take}
use Rattle.std.proofs.lemmas.List.Sums.{sum_by-append}
use Rattle.card_sets.specs.declared.games.Side.{Side}
use Rattle.showdown_tally.specs.Cells.{Sums, IsSum, cell_plus}
use Rattle.showdown_tally.specs.Showdown.{Showdown, wins, ties, loses, units}
use Rattle.showdown_tally.specs.Tallies.{Counts, cell_over}
use Rattle.job_blocks.specs.Blocks.{block_of, blocks_below}
use Rattle.job_blocks.specs.declared.limits.TheConstants.{BLOCK}

pub take-more : {X : Type 0} (a b : ℕ) (xs : List X) → take (a + b) xs ≡ take a xs ++ take b (drop a xs)
take-more zero b xs = let e : 0 + b ≡ b = omega arith in rw e refl
take-more (suc a) b [] = none (suc a + b) ∙ sym (none b)
  where
    none : {X : Type 0} (n : ℕ) → take n [] ≡ ◌++◌ {A = X} [] []
    none zero = refl
    none (suc n) = refl
take-more (suc a) b (x ∷ xs) = let e : suc a + b ≡ suc (a + b) = omega arith in rw e (ap (λ l. x ∷ l) (take-more a b xs))

pub take-whole : {X : Type 0} (n : ℕ) (xs : List X) → length xs ≤ n → take n xs ≡ xs
take-whole zero [] h = refl
take-whole zero (x ∷ xs) h = absurd (omega arith)
take-whole (suc n) [] h = refl
take-whole (suc n) (x ∷ xs) h = ap (λ l. x ∷ l) (take-whole n xs (omega arith))

pub below-take : {X : Type 0} (all : List X) (blocks : ℕ) → blocks_below all blocks ≡ take (blocks * BLOCK) all
below-take all zero = refl
below-take all (suc blocks) =
    let size : blocks * BLOCK + BLOCK - blocks * BLOCK ≡ BLOCK = omega arith in
    let more : suc blocks * BLOCK ≡ blocks * BLOCK + BLOCK = omega arith in
    rw (size, more) (ap (λ l. l ++ take BLOCK (drop (blocks * BLOCK) all)) (below-take all blocks) ∙ sym (take-more (blocks * BLOCK) BLOCK all))

pub blocks-all : (all : List (List (List ℕ))) (blocks : ℕ) → length all ≤ blocks * BLOCK → blocks_below all blocks ≡ all
blocks-all all blocks h = below-take all blocks ∙ take-whole (blocks * BLOCK) all h

-- a block ends with the listing where that ends first
pub block_to : {X : Type 0} (all : List X) (block end : ℕ) → end ≡ min (block * BLOCK + BLOCK) (length all) → slice_range all (block * BLOCK) end ≡ block_of all block
block_to all block end e = elim (cases_lt (length all) (block * BLOCK + BLOCK)) [
  | inl short ↦
      let last : end ≡ length all = omega arith in
      let few : length (drop (block * BLOCK) all) ≤ end - block * BLOCK = omega (arith, length-drop (block * BLOCK) all) in
      let less : length (drop (block * BLOCK) all) ≤ block * BLOCK + BLOCK - block * BLOCK = omega (arith, length-drop (block * BLOCK) all) in
      take-whole (end - block * BLOCK) (drop (block * BLOCK) all) few ∙ sym (take-whole (block * BLOCK + BLOCK - block * BLOCK) (drop (block * BLOCK) all) less)
  | inr whole ↦ let same : end ≡ block * BLOCK + BLOCK = omega arith in ap (λ n. take (n - block * BLOCK) (drop (block * BLOCK) all)) same
]

-- and has as many members as there are up to its end
pub length-block_to : {X : Type 0} (all : List X) (block end : ℕ) → end ≡ min (block * BLOCK + BLOCK) (length all) → length (block_of all block) ≡ end - block * BLOCK
length-block_to all block end e = omega (arith, length-take (block * BLOCK + BLOCK - block * BLOCK) (drop (block * BLOCK) all), length-drop (block * BLOCK) all)

pub Counts-join : (deal : Showdown) (some more : List (List (List ℕ))) (old other new : Sums) → Counts deal some old → Counts deal more other → IsSum old other new → Counts deal (some ++ more) new
Counts-join deal some more old other new a b sum = record {
  runouts = (let n = sum.runouts in let i = a.runouts in let j = b.runouts in omega (arith, length-append some more));
  cells = λ pot hand side p h. sum.cells pot hand side p h ∙ rw (a.cells pot hand side p h, b.cells pot hand side p h) (sym (joined pot hand side));
  units = λ pot hand p h. sum.units pot hand p h ∙ rw (a.units pot hand p h, b.units pot hand p h) (sym (sum_by-append (units deal pot hand) some more));
}
  where
    joined : (pot hand : ℕ) (side : Side) → cell_over deal (some ++ more) pot hand side ≡ cell_plus (cell_over deal some pot hand side) (cell_over deal more pot hand side)
    joined pot hand side = rw (sum_by-append (λ r. cond (wins deal pot hand side r) 1 0) some more, sum_by-append (λ r. cond (ties deal pot hand side r) 1 0) some more, sum_by-append (λ r. cond (loses deal pot hand side r) 1 0) some more) refl
