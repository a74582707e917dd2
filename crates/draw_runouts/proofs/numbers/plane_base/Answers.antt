use Rattle.std.proofs.Common.{◌≡◌, ◌+◌, ◌-◌, ◌<◌, ℕ, sym, ap, ◌∙◌, arith}
use Rattle.draw_runouts.specs.Worth.{plane_base}
use Rattle.draw_runouts.proofs.DrawPlanes.{base_first, base_next, base_small}
use Rattle.draw_runouts.proofs.numbers.plane_base.Goals as goal

pub loop-below-init : goal.loop-below-init
loop-below-init c = sym base_first

pub overflow_add-base : goal.overflow_add-base
overflow_add-base c =
    let below : ℕ = c.loop-below.below in
    let so_far : c.loop-below.base ≡ plane_base below = c.loop-below.invariant in
    let deck = c.number-below-end.ensures.in_deck in
    let test = c.loop-below-test.true in
    let inside : below < 52 = omega (arith, deck, test) in
    omega (arith, so_far, base_small below inside)

pub loop-below-preserved : goal.loop-below-preserved
loop-below-preserved c =
    let below : ℕ = c.loop-below.below in
    let so_far : c.loop-below.base ≡ plane_base below = c.loop-below.invariant in
    ap (λ n. c.loop-below.base + (50 - n)) c.from.ensures ∙ ap (λ n. n + (50 - below)) so_far ∙ sym (base_next below)

pub returns-clause-bound : goal.returns-clause-bound
returns-clause-bound c =
    let below : ℕ = c.loop-below.below in
    let so_far : c.loop-below.base ≡ plane_base below = c.loop-below.invariant in
    let deck = c.number-below-end.ensures.in_deck in
    let end = c.loop-below.auto.below-end in
    let inside : below < 52 = omega (arith, deck, end) in
    omega (arith, so_far, base_small below inside)
