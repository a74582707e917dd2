-- Where an event may stand its chips are there.
use Rattle.std.proofs.Common.{◌≡◌, ℕ, ◌+◌, ◌≤◌, refl, Bool, true, false, not, arith}
use Rattle.std.specs.Prelude.{None, nat_lt}
use Rattle.std.proofs.lemmas.Bool.Decides.{nat_tests}
use Rattle.hand_events.specs.declared.events.Event.{Event}
use Rattle.hand_events.specs.declared.events.Event.TheVariants.{Seat, Post, Act, Uncalled}
use Rattle.hand_events.specs.declared.events.PostKind.{PostKind}
use Rattle.hand_events.specs.declared.events.PostKind.TheVariants.{Small, Big, Both, Ante, BringIn}
use Rattle.hand_events.specs.declared.faults.BetFault.{BetFault}
use Rattle.betting_replay.specs.Events.{seat_of, live_part, dead_part, ante_part, act_chips}
use Rattle.betting_replay.specs.Limits.{InLimits, Affords, AmountsFit}
use Rattle.betting_replay.specs.TableAfter.{ReplayState, chips_at}
use Rattle.betting_replay.specs.Returns.{return_fits}
use Rattle.betting_replay.specs.Faults.{fault_at, fault_if, above_stack, seat_twice, uncalled_amiss}
use Rattle.betting_replay.proofs.lemmas.steps.PassedTests.{Passed, passed, not_failed}
use Rattle.betting_replay.proofs.lemmas.chips.ReturnedChips.{return_within}

-- the parts of a post are within it
parts : (big : ℕ) (posted : Bool) (kind : PostKind) (units : ℕ) → ante_part kind units + live_part big posted kind units + dead_part big posted kind units ≤ units
parts big true Small units = omega arith
parts big false Small units = omega arith
parts big posted Big units = omega arith
parts big posted Both units = omega arith
parts big posted Ante units = omega arith
parts big posted BringIn units = omega arith

within : (stack units : ℕ) (f : BetFault) → fault_if (nat_lt stack units) f ≡ None → units ≤ stack
within stack units f h = let no : nat_lt stack units ≡ false = not_failed (nat_lt stack units) f h in grind (arith, nat_tests)

pub not_not : (b : Bool) → not b ≡ false → b ≡ true
not_not true h = refl
not_not false h = cc

affords_at : (t : ReplayState) (e : Event) → AmountsFit e → InLimits (chips_at t (seat_of e)) → Passed t e → Affords t.header.big t.course.small_posted e (chips_at t (seat_of e))
unfolding above_stack seat_twice uncalled_amiss
affords_at t (Seat seat units first end) a h p =
    let free : (chips_at t seat).seated ≡ false = not_failed _ _ p.seat in
    let none : (chips_at t seat).stack + (chips_at t seat).paid + (chips_at t seat).dead ≡ 0 = h.empty free in
    record { stack = omega arith; back = omega arith; room = omega (arith, none, a) }
affords_at t (Post seat kind units all_in) a h p =
    let low : units ≤ (chips_at t seat).stack = within _ _ _ p.stack in
    let part : ante_part kind units + live_part t.header.big t.course.small_posted kind units + dead_part t.header.big t.course.small_posted kind units ≤ units = parts t.header.big t.course.small_posted kind units in
    record { stack = omega (arith, low, part); back = omega arith; room = omega (arith, h.sum) }
affords_at t (Act seat act all_in shown) a h p =
    let low : act_chips act (chips_at t seat).live ≤ (chips_at t seat).stack = within _ _ _ p.stack in
    record { stack = omega (arith, low); back = omega arith; room = omega (arith, h.sum) }
affords_at t (Uncalled seat units) a h p =
    let fits : return_fits t seat units ≡ true = not_not _ (not_failed _ _ p.uncalled) in
    let low : units ≤ (chips_at t seat).paid = return_within t seat units fits h.live in
    record { stack = omega arith; back = low; room = omega (arith, h.sum) }
affords_at t _ a h p = record { stack = omega arith; back = omega arith; room = omega (arith, h.sum) }

pub affords : (t : ReplayState) (e : Event) → AmountsFit e → InLimits (chips_at t (seat_of e)) → fault_at t e ≡ None → Affords t.header.big t.course.small_posted e (chips_at t (seat_of e))
affords t e a h f = affords_at t e a h (passed t e f)
