use Rattle.std.proofs.Common.{◌≡◌, ◌+◌, ◌*◌, ◌<◌, ◌≤◌, ◌^◌, true, arith}
use Rattle.std.proofs.Math.Nat.{pow-le-pow_right}
use Rattle.showdown_tally.specs.Cells.{cell_at}
use Rattle.showdown_tally.specs.CountShares.{CellWithin}
use Rattle.showdown_tally.proofs.CountSteps.{places_none, places_units_none, set_grown, set_units_within, set_within, within_wider}
use Rattle.showdown_tally.proofs.GrownSums.{Grows-none}
use Rattle.showdown_tally.proofs.counts.give_row.Goals as goal

pub bounds-row-set : goal.bounds-row-set
bounds-row-set c =
    let power : 2 ^ c.args.stake.now.count ≤ 2 ^ 10 = pow-le-pow_right (let z : 0 < 2 = omega arith in z) c.requires.few in
    omega arith

pub bounds-row-set-in-loop-set : goal.bounds-row-set-in-loop-set
bounds-row-set-in-loop-set c =
    let power : 2 ^ c.args.stake.now.count ≤ 2 ^ 10 = pow-le-pow_right (let z : 0 < 2 = omega arith in z) c.requires.few in
    omega arith

pub loop-set-init : goal.loop-set-init
loop-set-init c =
    let stake = c.args.stake.now in
    record {
      grown = Grows-none c.args.tally.now _ _
          (λ p i s l m. places_none stake.pot stake.side stake.hands stake.count c.args.row.now p i s)
          (λ p i l m. places_units_none stake.pot stake.hands stake.count c.args.halved c.args.row.now p i);
      cells = λ h l. rw (c.requires.cells h l) (omega arith, omega arith, omega arith);
      units = λ h l. omega arith;
    }

pub give_set-requires-clause-cells : goal.give_set-requires-clause-cells
give_set-requires-clause-cells c = λ h l.
    let power : 2 ^ c.args.stake.now.count ≤ 2 ^ 10 = pow-le-pow_right (let z : 0 < 2 = omega arith in z) c.requires.few in
    within_wider (cell_at c.loop-set.tally c.args.stake.now.pot h c.args.stake.now.side) (c.loop-set.set * 8589934592) 1152921504606846976 (c.loop-set.invariant.cells h l) (omega arith)

pub give_set-requires-clause-units : goal.give_set-requires-clause-units
give_set-requires-clause-units c = λ h l.
    let power : 2 ^ c.args.stake.now.count ≤ 2 ^ 10 = pow-le-pow_right (let z : 0 < 2 = omega arith in z) c.requires.few in
    let room = c.requires.units h l in
    let now = c.loop-set.invariant.units h l in
    omega arith

pub give_set-requires-in-loop-set-clause-cells : goal.give_set-requires-in-loop-set-clause-cells
give_set-requires-in-loop-set-clause-cells c = λ h l.
    let stake = c.args.stake.now in
    let power : 2 ^ c.args.stake.now.count ≤ 2 ^ 10 = pow-le-pow_right (let z : 0 < 2 = omega arith in z) c.requires.few in
    let after : CellWithin (cell_at c.give_set.new.tally c.args.stake.now.pot h c.args.stake.now.side) (c.loop-set.set * 8589934592 + 4294967296) =
    set_within c.loop-set.tally c.give_set.new.tally stake.pot stake.side stake.hands stake.count c.loop-set.set c.from-alone.result stake.count h (c.loop-set.set * 8589934592) _ c.give_set.ensures c.requires.pot l (omega arith) (c.loop-set.invariant.cells h l) in
    within_wider (cell_at c.give_set.new.tally c.args.stake.now.pot h c.args.stake.now.side) (c.loop-set.set * 8589934592 + 4294967296) 1152921504606846976 after (omega arith)

pub give_set-requires-in-loop-set-clause-units : goal.give_set-requires-in-loop-set-clause-units
give_set-requires-in-loop-set-clause-units c = λ h l.
    let stake = c.args.stake.now in
    let power : 2 ^ c.args.stake.now.count ≤ 2 ^ 10 = pow-le-pow_right (let z : 0 < 2 = omega arith in z) c.requires.few in
    let room = c.requires.units h l in
    let now = c.loop-set.invariant.units h l in
    let after = set_units_within c.loop-set.tally c.give_set.new.tally stake.pot stake.hands stake.count c.args.halved c.loop-set.set c.from-alone.result stake.count h _ c.give_set.ensures c.requires.pot l (omega arith) in
    omega arith

pub loop-set-preserved : goal.loop-set-preserved
loop-set-preserved c =
    let stake = c.args.stake.now in
    let set = c.loop-set.set in
    record {
      grown = set_grown c.args.tally.now c.loop-set.tally c.give_set.new.tally c.give_set-in-loop-set.new.tally stake.pot stake.side stake.hands stake.count c.args.halved c.args.row.now set c.from-alone.result c.from-beside.result
          c.from-alone.ensures c.from-beside.ensures c.loop-set.invariant.grown c.give_set.ensures c.give_set-in-loop-set.ensures;
      cells = λ h l.
          let one : CellWithin (cell_at c.give_set.new.tally c.args.stake.now.pot h c.args.stake.now.side) (c.loop-set.set * 8589934592 + 4294967296) =
          set_within c.loop-set.tally c.give_set.new.tally stake.pot stake.side stake.hands stake.count set c.from-alone.result stake.count h (c.loop-set.set * 8589934592) _ c.give_set.ensures c.requires.pot l (omega arith) (c.loop-set.invariant.cells h l) in
          let two : CellWithin (cell_at c.give_set-in-loop-set.new.tally c.args.stake.now.pot h c.args.stake.now.side) (c.loop-set.set * 8589934592 + 4294967296 + 4294967296) =
          set_within c.give_set.new.tally c.give_set-in-loop-set.new.tally stake.pot stake.side stake.hands stake.count set c.from-beside.result stake.count h (c.loop-set.set * 8589934592 + 4294967296) _ c.give_set-in-loop-set.ensures c.requires.pot l (omega arith) one in
          within_wider (cell_at c.give_set-in-loop-set.new.tally c.args.stake.now.pot h c.args.stake.now.side) (c.loop-set.set * 8589934592 + 4294967296 + 4294967296) ((c.loop-set.set + 1) * 8589934592) two (omega arith);
      units = λ h l.
          let now = c.loop-set.invariant.units h l in
          let one = set_units_within c.loop-set.tally c.give_set.new.tally stake.pot stake.hands stake.count c.args.halved set c.from-alone.result stake.count h _ c.give_set.ensures c.requires.pot l (omega arith) in
          let two = set_units_within c.give_set.new.tally c.give_set-in-loop-set.new.tally stake.pot stake.hands stake.count true set c.from-beside.result stake.count h _ c.give_set-in-loop-set.ensures c.requires.pot l (omega arith) in
          omega arith;
    }

pub returns-clause-grown : goal.returns-clause-grown
returns-clause-grown c =
    let power : 2 ^ c.args.stake.now.count ≤ 2 ^ 10 = pow-le-pow_right (let z : 0 < 2 = omega arith in z) c.requires.few in
    let end : c.loop-set.set ≡ 2 ^ c.args.stake.now.count = (let l = c.loop-set-test.false in let m = c.loop-set.auto.set-end in omega arith) in
    rw end at c.loop-set.invariant.grown

pub returns-clause-small : goal.returns-clause-small
returns-clause-small c = λ h l.
    let power : 2 ^ c.args.stake.now.count ≤ 2 ^ 10 = pow-le-pow_right (let z : 0 < 2 = omega arith in z) c.requires.few in
    let now = c.loop-set.invariant.units h l in
    omega arith
