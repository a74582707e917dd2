-- The listing of a shape is that of its known state, and the only runout of one in which nobody lacks cards.
use Rattle.std.proofs.Common.{◌≡◌, ℕ, suc, ◌<◌, List, [], ◌∷◌, length, take, refl, ap, sym, ◌∙◌, arith, subst}
use Rattle.card_sets.specs.State.{State}
use Rattle.runout_ranges.specs.Runouts.{runouts, Begins, HasMember}
use Rattle.runout_ranges.specs.Slots.{counts_of, unseen}
use Rattle.runout_ranges.specs.Shapes.{IsShapeOf, slots_of, runouts_of}
use Rattle.runout_ranges.specs.declared.shapes.Shape.{Shape}
use Rattle.showdown_tally.specs.Tallies.{runouts_after}
use Rattle.job_blocks.specs.Blocks.{block_of, blocks_of}
use Rattle.job_blocks.specs.declared.limits.TheConstants.{BLOCK}
use Rattle.job_blocks.proofs.BlockLists.{take-whole}

-- the listing of a shape is that of its known state
runouts_of-shape : (state : State) (shape : Shape) → IsShapeOf state shape → runouts_of shape ≡ runouts_after state
runouts_of-shape state shape is = ap (λ cards. runouts cards (counts_of (slots_of shape))) is.cards ∙ ap (λ some. runouts (unseen state) (counts_of some)) is.lacking

-- what holds of the one holds of the other
pub of_state : (P : List (List (List ℕ)) → Type 0) (state : State) (shape : Shape) → IsShapeOf state shape → P (runouts_of shape) → P (runouts_after state)
of_state P state shape is p = subst P (runouts_of-shape state shape is) p

-- where nobody lacks cards there is one runout, with no set
pub none_lacking : (state : State) (shape : Shape) → IsShapeOf state shape → shape.used ≡ 0 → runouts_after state ≡ [] ∷ []
none_lacking state shape is none = sym (runouts_of-shape state shape is) ∙ ap (λ n. runouts shape.unseen (counts_of (take n shape.slots))) none

-- the first of a listing is a member
pub first_member : (all : List (List (List ℕ))) (runout : List (List ℕ)) → Begins all runout → HasMember all runout
first_member all runout begins = ([], begins.0, begins.1)

-- and the only one where there is one
pub only_runout : (all : List (List (List ℕ))) (runout : List (List ℕ)) → all ≡ [] ∷ [] → Begins all runout → all ≡ runout ∷ []
only_runout all runout one begins =
    let size : length all ≡ 1 = ap length one in
    let more : length all ≡ suc (length begins.0) = ap length begins.1 in
    begins.1 ∙ ap (λ rest. runout ∷ rest) (none begins.0 (omega arith))
  where
    none : (rest : List (List (List ℕ))) → length rest ≡ 0 → rest ≡ []
    none [] e = refl
    none (x ∷ rest) e = absurd (omega arith)

-- its block is all
pub only_block : (all : List (List (List ℕ))) (runout : List (List ℕ)) (block : ℕ) → all ≡ runout ∷ [] → block < blocks_of (length all) → block_of all block ≡ runout ∷ []
only_block all runout block one inside =
    let size : length all ≡ 1 = ap length one in
    let first : block ≡ 0 = omega arith in
    ap (block_of all) first ∙ take-whole BLOCK all (omega arith) ∙ one
