-- What sums alike is counted alike.
use Rattle.std.proofs.Common.{◌≡◌, ℕ, cond, List, refl, ◌∙◌, arith}
use Rattle.std.specs.List.{sum_by}
use Rattle.showdown_tally.specs.Cells.{Sums}
use Rattle.showdown_tally.specs.Showdown.{Showdown, wins, ties, loses, units}
use Rattle.showdown_tally.specs.Tallies.{Counts}
use Rattle.job_blocks.proofs.CallerLemmas.{ones}

-- what sums alike is counted alike
pub same_sums : (deal : Showdown) (xs ys : List (List (List ℕ))) (sums : Sums) → Counts deal xs sums → ((f : List (List ℕ) → ℕ) → sum_by f ys ≡ sum_by f xs) → Counts deal ys sums
same_sums deal xs ys sums counts same = record {
  runouts = (let e = counts.runouts in let h = same (λ _. 1) in omega (arith, ones xs, ones ys));
  cells = λ p h s low_p low_h. counts.cells p h s low_p low_h ∙ (rw (same (λ r. cond (wins deal p h s r) 1 0), same (λ r. cond (ties deal p h s r) 1 0), same (λ r. cond (loses deal p h s r) 1 0)) refl);
  units = λ p h low_p low_h. counts.units p h low_p low_h ∙ (rw (same (units deal p h)) refl);
}
