use Rattle.std.proofs.Common.{◌≡◌, ℕ, suc, zero, ◌+◌, ◌<◌, List, [], ◌∷◌, ◌++◌, take, drop, ap, arith, length}
use Rattle.std.specs.Prelude.{slice_index_or, slice_set}
use Rattle.card_sets.specs.declared.games.Game.{Game}
use Rattle.runout_ranges.specs.declared.shapes.Slot.{Slot}
use Rattle.street_walk.specs.Streets.{gets, next_of}
use Rattle.street_walk.proofs.next.give_next.Goals as goal

-- one slot more
one_more : (game : Game) (all : List Slot) (place n : ℕ) (d : Slot) → place < length all → n ≡ gets game (slice_index_or (next_of game (take place all) ++ drop place all) place d).receiver (slice_index_or (next_of game (take place all) ++ drop place all) place d).count
    → slice_set (next_of game (take place all) ++ drop place all) place record { receiver = (slice_index_or (next_of game (take place all) ++ drop place all) place d).receiver; count = n } ≡ next_of game (take (place + 1) all) ++ drop (place + 1) all
one_more game [] place n d l e = absurd (omega arith)
one_more game (s ∷ all) zero n d l e = ap (λ k. record { receiver = s.receiver; count = k } ∷ all) e
one_more game (s ∷ all) (suc place) n d l e =
    let up : suc place + 1 ≡ suc (place + 1) = omega arith in
    rw up (ap (λ l. record { receiver = s.receiver; count = gets game s.receiver s.count } ∷ l) (one_more game all place n d (omega arith) e))

pub loop-place-preserved : goal.loop-place-preserved
loop-place-preserved c = rw c.loop-place.invariant (one_more c.args.game c.args.slots.now c.loop-place.place c.gets.result _ c.loop-place-test.true (rw c.loop-place.invariant at c.gets.ensures))
