use Rattle.std.proofs.Common.{◌≡◌, ◌-◌, refl, true, false, arith}
use Rattle.card_sets.specs.PlayerSets.{has_player}
use Rattle.hand_audit.specs.Showings.{paid_in, paid_from}
use Rattle.pot_layers.specs.Pots.{put_in_all}
use Rattle.hand_audit.proofs.lemmas.chips.SumOfPaid.{sum_none, sum_some}
use Rattle.hand_audit.proofs.hand.AuditState.put_in.Goals as goal

pub loop-seat-init : goal.loop-seat-init
unfolding paid_in
loop-seat-init c = record { all = omega arith; room = omega arith }

pub overflow_add-units-in-loop-seat : goal.overflow_add-units-in-loop-seat
overflow_add-units-in-loop-seat c = let r = c.loop-seat.invariant.room in let p = c.paid-paid.ensures.room in let t = c.loop-seat-test.true in omega (arith, r, p, t)

pub loop-seat-preserved-then-not-is_player : goal.loop-seat-preserved-then-not-is_player
loop-seat-preserved-then-not-is_player c =
    let none : has_player c.args.self.now.replay.players c.loop-seat.seat ≡ false = grind (arith, c.is_player.ensures, c.if-not-is_player.true) in
    let r = c.loop-seat.invariant.room in
    record { all = sum_none c.args.self.now.replay c.loop-seat.seat c.loop-seat.units _ none c.loop-seat-test.true c.loop-seat.invariant.all; room = omega (arith, r) }

pub loop-seat-preserved : goal.loop-seat-preserved
loop-seat-preserved c =
    let some : has_player c.args.self.now.replay.players c.loop-seat.seat ≡ true = grind (arith, c.is_player.ensures, c.if-not-is_player.false) in
    let r = c.loop-seat.invariant.room in
    let p = c.paid-paid.ensures.room in
    record { all = sum_some c.args.self.now.replay c.loop-seat.seat c.loop-seat.units _ c.paid-paid.result some c.loop-seat-test.true c.paid-paid.ensures.value c.loop-seat.invariant.all; room = omega (arith, r, p) }

pub returns : goal.returns
returns c =
    let end : 11 - c.loop-seat.seat ≡ 0 = (let t = c.loop-seat-test.false in omega (arith, t)) in
    let none : put_in_all (paid_from c.args.self.now.replay c.loop-seat.seat (11 - c.loop-seat.seat)) ≡ 0 = rw end refl in
    let all = c.loop-seat.invariant.all in
    omega (arith, none, all)
