-- A loop that settles each runout of a listing once: where it stands, and that its tally fits and is in the end that of all.
use Rattle.std.proofs.Common.{◌≡◌, ℕ, suc, ◌+◌, ◌<◌, ◌≤◌, List, [], ◌∷◌, ◌++◌, length, length-append, ap, sym, ◌∙◌, arith, subst}
use Rattle.card_sets.specs.State.{State}
use Rattle.card_sets.specs.declared.games.Side.{Side}
use Rattle.runout_ranges.specs.Runouts.{runouts, Begins, Follows, Ends}
use Rattle.runout_ranges.specs.Slots.{counts_of, unseen}
use Rattle.runout_ranges.specs.Shapes.{IsShapeOf, slots_of, runouts_of}
use Rattle.runout_ranges.specs.Walks.{walk_more, walk_all}
use Rattle.runout_ranges.specs.declared.shapes.Shape.{Shape}
use Rattle.showdown_tally.specs.Cells.{Sums, cell_at, units_at, no_runout}
use Rattle.showdown_tally.specs.Showdown.{Showdown}
use Rattle.showdown_tally.specs.Tallies.{Counts, Adds, Fits, runouts_after}
use Rattle.showdown_tally.specs.CountLaws.{Counts-more, Fits-few}
use Rattle.runout_ranges.specs.declared.limits.TheConstants.{RUNOUT_MAX}

-- the loop stands at a runout of the listing: those before it are in the tally, and each took a step
pub record IsWalk (deal : Showdown) (all : List (List (List ℕ))) (at : List (List ℕ)) (sums : Sums) (before now : ℕ) : Type 0 where
  pub done : List (List (List ℕ))
  pub todo : List (List (List ℕ))
  pub split : all ≡ done ++ at ∷ todo
  pub counts : Counts deal done sums
  pub steps : now ≡ before + length done

-- the listing of a shape is that of its known state
runouts_of-shape : (state : State) (shape : Shape) → IsShapeOf state shape → runouts_of shape ≡ runouts_after state
runouts_of-shape state shape is = ap (λ cards. runouts cards (counts_of (slots_of shape))) is.cards ∙ ap (λ some. runouts (unseen state) (counts_of some)) is.lacking

-- what holds of the one holds of the other
pub of_state : (P : List (List (List ℕ)) → Type 0) (state : State) (shape : Shape) → IsShapeOf state shape → P (runouts_of shape) → P (runouts_after state)
of_state P state shape is p = subst P (runouts_of-shape state shape is) p

-- a tally of no runout
pub Counts-none : (deal : Showdown) (sums : Sums) → sums.runouts ≡ 0
    → ((pot hand : ℕ) (side : Side) → pot < 10 → hand < 10 → cell_at sums pot hand side ≡ no_runout)
    → ((pot hand : ℕ) → pot < 10 → hand < 10 → units_at sums pot hand ≡ 0)
    → Counts deal [] sums
Counts-none deal sums none cells units = record { runouts = none; cells = cells; units = units }

pub walk_begins : (deal : Showdown) (all : List (List (List ℕ))) (at : List (List ℕ)) (sums : Sums) (now : ℕ) → Begins all at → Counts deal [] sums → IsWalk deal all at sums now now
walk_begins deal all at sums now begins counts = record { done = []; todo = begins.0; split = begins.1; counts = counts; steps = omega arith }

-- the runouts in the tally, the one where the loop stands, and those after it are all
walk_length : (deal : Showdown) (all : List (List (List ℕ))) (at : List (List ℕ)) (sums : Sums) (before now : ℕ) (walk : IsWalk deal all at sums before now)
    → length all ≡ sums.runouts + (1 + length walk.todo)
walk_length deal all at sums before now walk =
    let parts : length all ≡ length walk.done + suc (length walk.todo) = ap length walk.split ∙ length-append walk.done (at ∷ walk.todo) in
    omega (arith, parts, walk.counts.runouts)

-- where there are at most as many as are counted, the tally has room for the runout
pub walk_fits : (deal : Showdown) (all : List (List (List ℕ))) (at : List (List ℕ)) (sums : Sums) (before now : ℕ) → IsWalk deal all at sums before now → length all ≤ RUNOUT_MAX → Fits deal at sums
walk_fits deal all at sums before now walk few =
    Fits-few deal walk.done at sums walk.counts (let e = walk_length deal all at sums before now walk in let c = walk.counts.runouts in omega arith)

pub walk_goes_on : (deal : Showdown) (all : List (List (List ℕ))) (at next : List (List ℕ)) (old new : Sums) (before now : ℕ)
    → IsWalk deal all at old before now → Adds deal at old new → Follows all at next → IsWalk deal all next new before (now + 1)
walk_goes_on deal all at next old new before now walk adds follows =
    let more = walk_more all walk.done walk.todo at next walk.split follows in
    record {
      done = walk.done ++ at ∷ [];
      todo = more.0;
      split = more.1;
      counts = Counts-more deal walk.done at old new walk.counts adds;
      steps = (let s = walk.steps in omega (arith, length-append walk.done (at ∷ [])));
    }

-- at the last runout all are counted
pub walk_counts_all : (deal : Showdown) (all : List (List (List ℕ))) (at : List (List ℕ)) (old new : Sums) (before now : ℕ)
    → IsWalk deal all at old before now → Adds deal at old new → Ends all at → Counts deal all new
walk_counts_all deal all at old new before now walk adds ends =
    subst (λ some. Counts deal some new) (sym (walk_all all walk.done walk.todo at walk.split ends)) (Counts-more deal walk.done at old new walk.counts adds)
