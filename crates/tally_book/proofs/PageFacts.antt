-- What a book keeps: with a block posted, with none, and with all.
use Rattle.std.proofs.Common.{◌≡◌, ◌+◌, ◌*◌, ◌<◌, ◌≤◌, ◌^◌, ℕ, Bool, true, false, cond, List, [], length, get_or, set, length-set, replicate, refl, sym, ap, ◌∙◌, subst, arith}
use Rattle.std.specs.List.{sum_by, count_by, flat_map, range_with_len}
use Rattle.std.proofs.lemmas.List.{length-replicate}
use Rattle.std.proofs.lemmas.List.Sums.{sum_by-set}
use Rattle.card_sets.specs.declared.games.Side.{Side}
use Rattle.showdown_tally.specs.Cells.{Sums, cell_at, units_at, cell_plus, CellFits, IsSum}
use Rattle.showdown_tally.specs.Showdown.{Showdown, wins, ties, loses, units}
use Rattle.showdown_tally.specs.Tallies.{Counts, runouts_after}
use Rattle.job_blocks.specs.Blocks.{block_of, blocks_of}
use Rattle.runout_ranges.specs.declared.limits.TheConstants.{RUNOUT_MAX}
use Rattle.job_blocks.proofs.CallerLemmas.{cells_fit, units_fit}
use Rattle.tally_book.specs.Pages.{marked_of, marked_from, IsPage}
use Rattle.job_blocks.proofs.CallerLemmas.{all_blocks, ones}
use Rattle.tally_book.proofs.MarkedBlocks.{marked_more, marked_few, none_marked, all_marked, count_none, count_all}

-- what a sum of two tallies needs to fit 64 bits
pub record BothFit (a b : Sums) : Type 0 where
  pub runouts : a.runouts + b.runouts < 2 ^ 64
  pub cells : (p h : ℕ) (s : Side) → p < 10 → h < 10 → CellFits (cell_plus (cell_at a p h s) (cell_at b p h s))
  pub units : (p h : ℕ) → p < 10 → h < 10 → units_at a p h + units_at b p h < 2 ^ 64

-- the sum of one block more fits
pub room_for : (deal : Showdown) (marks : List Bool) (total tally : Sums) (fresh block : ℕ) (d : Bool) → IsPage deal marks total fresh → block < length marks → get_or marks block d ≡ false
    → Counts deal (block_of (runouts_after deal.state) block) tally → BothFit total tally
room_for deal marks total tally fresh block d page low is of_block =
    let all = runouts_after deal.state in
    let one : List (List ℕ) → ℕ = λ _. 1 in
    let more = marked_more one all marks block d low is in
    let le = marked_few all (set marks block true) (length-set marks block true ∙ page.blocks) in
    let few = page.few in
    let size : length (marked_of all marks) + length (block_of all block) ≤ RUNOUT_MAX = omega (arith, ones (marked_of all (set marks block true)), ones (marked_of all marks), ones (block_of all block)) in
    let room : 10080 * (length (marked_of all marks) + length (block_of all block)) < 2 ^ 64 = omega arith in
    record {
      runouts = (let e = page.sums.runouts in let f = of_block.runouts in omega arith);
      cells = cells_fit deal (marked_of all marks) (block_of all block) total tally page.sums of_block room;
      units = units_fit deal (marked_of all marks) (block_of all block) total tally page.sums of_block room;
    }

-- the sum of two tallies counts the runouts of both
counts_both : (deal : Showdown) (xs ys zs : List (List (List ℕ))) (a b c : Sums) → Counts deal xs a → Counts deal ys b → IsSum a b c
    → ((f : List (List ℕ) → ℕ) → sum_by f zs ≡ sum_by f xs + sum_by f ys) → Counts deal zs c
counts_both deal xs ys zs a b c of_a of_b is sums = record {
  runouts = (let e = of_a.runouts in let f = of_b.runouts in let g = is.runouts in let h = sums (λ _. 1) in omega (arith, ones xs, ones ys, ones zs));
  cells = λ p h s low_p low_h. is.cells p h s low_p low_h ∙ (rw (
    of_a.cells p h s low_p low_h,
    of_b.cells p h s low_p low_h,
    sums (λ r. cond (wins deal p h s r) 1 0),
    sums (λ r. cond (ties deal p h s r) 1 0),
    sums (λ r. cond (loses deal p h s r) 1 0),
  ) refl);
  units = λ p h low_p low_h. is.units p h low_p low_h ∙ (rw (of_a.units p h low_p low_h, of_b.units p h low_p low_h, sums (units deal p h)) refl);
}

-- with one block more it is a page again
pub posted : (deal : Showdown) (marks : List Bool) (total tally new : Sums) (fresh block : ℕ) (d : Bool) → IsPage deal marks total fresh → block < length marks → get_or marks block d ≡ false
    → Counts deal (block_of (runouts_after deal.state) block) tally → IsSum total tally new → IsPage deal (set marks block true) new (fresh + 1)
posted deal marks total tally new fresh block d page low is of_block sum = record {
  blocks = length-set marks block true ∙ page.blocks;
  few = page.few;
  sums = counts_both deal (marked_of (runouts_after deal.state) marks) (block_of (runouts_after deal.state) block) (marked_of (runouts_after deal.state) (set marks block true)) total tally new page.sums of_block sum
      (λ f. marked_more f (runouts_after deal.state) marks block d low is);
  counted =
      (let one = sum_by-set (λ (m : Bool). cond m 1 0) marks block true d low in
      let was : cond {A = ℕ} (get_or marks block d) 1 0 ≡ 0 = ap (λ (m : Bool). cond {A = ℕ} m 1 0) is in
      let c = page.counted in
      omega arith);
}

-- a page with every block marked
pub whole_page : (deal : Showdown) (marks : List Bool) (total : Sums) (fresh : ℕ) → IsPage deal marks total fresh → ((i : ℕ) → i < length marks → get_or marks i false ≡ true)
    → Counts deal (runouts_after deal.state) total × (fresh ≡ length marks)
whole_page deal marks total fresh page each = (
  subst (λ listed. Counts deal listed total) (ap (flat_map (block_of (runouts_after deal.state))) (all_marked 0 marks each ∙ ap (range_with_len 0) page.blocks) ∙ all_blocks (runouts_after deal.state)) page.sums,
  page.counted ∙ count_all marks each,
)

-- a page with no block marked
pub blank_page : (deal : Showdown) (marks : List Bool) (total : Sums) (blocks : ℕ) → marks ≡ replicate blocks false → blocks ≡ blocks_of (length (runouts_after deal.state)) → length (runouts_after deal.state) ≤ RUNOUT_MAX
    → Counts deal [] total → IsPage deal marks total 0
blank_page deal marks total blocks is count few none = record {
  blocks = ap length is ∙ length-replicate blocks false ∙ count;
  few = few;
  sums = subst (λ listed. Counts deal listed total) (sym (ap (flat_map (block_of (runouts_after deal.state))) (ap (marked_from 0) is ∙ none_marked 0 blocks))) none;
  counted = sym (ap (count_by (λ mark. mark)) is ∙ count_none blocks);
}
