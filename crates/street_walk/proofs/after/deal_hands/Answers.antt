use Rattle.std.proofs.Common.{◌≡◌, ℕ, suc, zero, ◌+◌, ◌<◌, List, [], ◌∷◌, ◌++◌, take, drop, sym, ap, ◌∙◌, arith, length}
use Rattle.std.specs.Prelude.{slice_index_or, slice_set}
use Rattle.card_sets.specs.Cards.{union}
use Rattle.runout_ranges.specs.Shapes.{slots_of}
use Rattle.runout_ranges.specs.Slots.{dealt}
use Rattle.runout_ranges.specs.declared.shapes.Receiver.TheVariants.{Hand}
use Rattle.runout_ranges.specs.declared.shapes.Slot.{Slot}
use Rattle.street_walk.specs.Streets.{hands_after}
use Rattle.street_walk.proofs.after.deal_hands.Goals as goal

-- one hand more
one_more : (some : List Slot) (sets : List (List ℕ)) (start : ℕ) (all : List (List ℕ)) (place : ℕ) (d more : List ℕ) → place < length all → more ≡ dealt some sets (Hand (start + place))
    → slice_set (hands_after some sets start (take place all) ++ drop place all) place (union (slice_index_or (hands_after some sets start (take place all) ++ drop place all) place d) more) ≡ hands_after some sets start (take (place + 1) all) ++ drop (place + 1) all
one_more some sets start [] place d more l e = absurd (omega arith)
one_more some sets start (hand ∷ all) zero d more l e =
    let none : start + 0 ≡ start = omega arith in
    ap (λ c. union hand c ∷ all) (e ∙ ap (λ k. dealt some sets (Hand k)) none)
one_more some sets start (hand ∷ all) (suc place) d more l e =
    let up : suc place + 1 ≡ suc (place + 1) = omega arith in
    let next : start + suc place ≡ (start + 1) + place = omega arith in
    rw up (ap (λ l. union hand (dealt some sets (Hand start)) ∷ l) (one_more some sets (start + 1) all place d more (omega arith) (e ∙ ap (λ k. dealt some sets (Hand k)) next)))

pub loop-number-preserved : goal.loop-number-preserved
loop-number-preserved c =
    let some = slots_of c.args.shape.now in
    let place = c.loop-number.number in
    let more = c.dealt_to-more.result in
    let z : 0 + place ≡ place = omega arith in
    let dealt_here : more ≡ dealt some c.args.sets.now (Hand (0 + place)) = c.dealt_to-more.ensures ∙ ap (λ k. dealt some c.args.sets.now (Hand k)) (sym z) in
    let own = c.index-hands-number.result in
    ap (λ u. slice_set c.loop-number.hands place u) (c.union.ensures ∙ ap (λ o. union o more) c.index-hands-number.is)
    ∙ ap (λ hs. slice_set hs place (union (slice_index_or hs place own) more)) c.loop-number.invariant
    ∙ one_more some c.args.sets.now 0 c.args.hands.now place own more c.loop-number-test.true dealt_here
