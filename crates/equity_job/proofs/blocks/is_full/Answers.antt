use Rattle.std.proofs.Common.{◌≡◌, ◌<◌, ◌==◌, ℕ, zero, suc, false, ap, sym, ◌∙◌, arith, length, take}
use Rattle.card_sets.specs.State.{state_of}
use Rattle.runout_ranges.specs.Slots.{slots}
use Rattle.equity_job.proofs.blocks.is_full.Goals as goal

some : (n : ℕ) → (n == 0) ≡ false → 0 < n
some zero f = absurd cc
some (suc n) f = omega arith

pub returns-clause-lacking : goal.returns-clause-lacking
returns-clause-lacking c = λ f.
    let same : length (take c.from.result c.args.job.now.shape.slots) ≡ length (slots (state_of c.args.job.now.table.known)) = ap (λ n. length (take n c.args.job.now.shape.slots)) c.from.ensures ∙ ap length c.args.job.now.shaped.lacking in
    omega (arith, same, some (length (take c.from.result c.args.job.now.shape.slots)) (sym c.is_empty.ensures ∙ f))
