use Rattle.std.proofs.Common.{[], ◌∷◌, ◌++◌, refl, ap, ◌∙◌, arith}
use Rattle.hand_cuts.specs.CutterState.{CutterState}
use Rattle.hand_cuts.specs.Cutters.{units_left}
use Rattle.hand_cuts.specs.declared.limits.TheConstants.{INPUT_MAX}
use Rattle.run_loop.specs.Order.{with_read}
use Rattle.run_loop.proofs.InputPieces.{fewer_left}
use Rattle.run_loop.proofs.AskedUnits.{hands_over, left_open}
use Rattle.run_loop.proofs.CuttingFacts.{all_cut, all_cut_open, cuts_open, reads_one_more}
use Rattle.run_loop.proofs.reading.next_unit.Goals as goal

pub read_piece-requires-clause-none : goal.read_piece-requires-clause-none
read_piece-requires-clause-none g c =
    let same = c.in_default.ensures.same refl in
    ap (λ (x : CutterState). units_left x) same ∙ c.in_default.ensures.none.0 refl

pub pieces-init : goal.pieces-init
pieces-init g c = record {
  going = c.requires;
  order = λ kind bytes done s. ([], bytes, (refl, refl, refl), s, omega arith);
}

pub pieces-smaller : goal.pieces-smaller
pieces-smaller g c =
    fewer_left c.pieces.input.ending c.in-Ok.ending c.pieces.input.cutter.given c.next_unit.new.self.given c.read_piece.new.cutter.given c.in-Open.is
    (ap (λ (x : CutterState). x.given) (c.in_default.ensures.same refl)) c.in-Ok.ensures.onward

pub pieces-preserved : goal.pieces-preserved
pieces-preserved g c = record {
  going = c.in-Ok.ensures.closed;
  order = λ kind bytes done s.
      let now = c.pieces.invariant.order kind bytes done s in
      let cutter_same = c.in_default.ensures.same refl in
      let left = left_open INPUT_MAX c.pieces.input c.next_unit.new.self cutter_same in
      let one = c.in-Ok.ensures.order kind now.1 done (cuts_open INPUT_MAX kind c.pieces.input c.next_unit.new.self now.1 done now.3 c.in-Open.is cutter_same) in
      let all = all_cut_open INPUT_MAX kind c.pieces.input now.1 done now.3 (c.in_default.ensures.none.0 refl) c.in-Open.is in
      let onward = now.4 in
      let given = one.4 in
      (now.0 ++ one.0 ∷ [], with_read INPUT_MAX now.1 one.0, reads_one_more g.S.Source.reads INPUT_MAX kind done _ _ bytes now.0 _ _ now.1 one.0 _ _ now.2 c.in-Open.is all one.1 one.2, one.3, omega arith);
}

pub returns-in-Some : goal.returns-in-Some
returns-in-Some g c kind bytes done s =
    let now = c.pieces.invariant.order kind bytes done s in
    record {
      made = now.0;
      ending = c.pieces.input.ending;
      behind = now.1;
      order = now.2;
      hands = (refl, hands_over INPUT_MAX kind c.args.input.now c.pieces.input.cutter c.next_unit.new.self c.pieces.input.ending c.in-Some.unit now.1 done now.3 now.4 c.in-Some.ensures.some c.in-Some.ensures.few);
    }

pub returns-in-Err : goal.returns-in-Err
returns-in-Err g c kind bytes done s =
    let now = c.pieces.invariant.order kind bytes done s in
    let one = c.in-Err.ensures.order kind now.1 done (cuts_open INPUT_MAX kind c.pieces.input c.next_unit.new.self now.1 done now.3 c.in-Open.is (c.in_default.ensures.same refl)) in
    let all = all_cut_open INPUT_MAX kind c.pieces.input now.1 done now.3 (c.in_default.ensures.none.0 refl) c.in-Open.is in
    record {
      made = now.0 ++ one.0 ∷ [];
      ending = one.1;
      behind = with_read INPUT_MAX now.1 one.0;
      order = reads_one_more g.S.Source.reads INPUT_MAX kind done _ _ bytes now.0 _ _ now.1 one.0 _ _ now.2 c.in-Open.is all one.2 one.3;
      hands = one.4;
    }

pub returns-in_default-ending : goal.returns-in_default-ending
returns-in_default-ending g c kind bytes done s =
    let now = c.pieces.invariant.order kind bytes done s in
    record {
      made = now.0;
      ending = c.pieces.input.ending;
      behind = now.1;
      order = now.2;
      hands = (refl, c.in_default-ending.not-Open, all_cut INPUT_MAX kind c.pieces.input now.1 done now.3 (c.in_default.ensures.none.0 refl));
    }
