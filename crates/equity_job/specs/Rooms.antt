-- Which parts a room for counts has.
use Rattle.std.specs.Prelude.{◌≡◌, ◌*◌, ◌≤◌, ℕ, List, true, length, Option, Some, None, MatchOption, IsSome}
use Rattle.std.proofs.Common.{Vec, Global}
use Rattle.board_runouts.specs.Boards.{are_boards}
use Rattle.draw_runouts.specs.Draws.{are_draws}
use Rattle.job_blocks.specs.declared.jobs.Job.{Job}
use Rattle.equity_job.specs.declared.scratch.Scratch.{Scratch}

-- there are at least `rows` rows of counts
abbrev pub HasRows : ℕ → Option (Vec (List ℕ) Global) → Type 0
HasRows rows counts = MatchOption counts ⊥ (λ some. rows ≤ length some.items)

-- a new part where there is one, and else what was there
abbrev pub newer : {A : Type 0} → Option A → Option A → Option A
newer None old = old
newer (Some new) old = Some new

-- it has what the count of a job uses: two rows of counts a pot, and the room of boards or that of draws
pub record IsReady (scratch : Scratch) (job : Job) : Type 0 where
  pub counts : HasRows (2 * job.table.pots) scratch.counts
  pub boards : are_boards job.table job.shape ≡ true → IsSome scratch.boards
  pub draws : are_draws job.table job.shape ≡ true → IsSome scratch.draws
