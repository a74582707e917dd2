use Rattle.std.proofs.Common.{◌≡◌, ◌+◌, ◌-◌, ◌≤◌, ◌<◌, ℕ, List, [], Some, None, take, ap, subst, refl, ◌∙◌, arith, length, le_trans, true, rules}
use Rattle.std.proofs.lemmas.List.{length-replicate, length-take-le}
use Rattle.hand_cuts.specs.CutterState.{CutterState}
use Rattle.hand_cuts.specs.declared.limits.TheConstants.{INPUT_MAX}
use Rattle.run_loop.specs.declared.reading.Ending.TheVariants.{TooLong, Open}
use Rattle.run_loop.proofs.AskedUnits.{over_forget}
use Rattle.run_loop.proofs.CuttingFacts.{begins_cut, begins_more, comes_cut, comes_more, cuts_again, cuts_cut, cuts_failed, cuts_more, cuts_whole}
use Rattle.run_loop.proofs.HeldText.{holds_cut, holds_end, holds_more, holds_none}
use Rattle.run_loop.proofs.InputPieces.{over_given, with_piece}
use Rattle.run_loop.proofs.reading.read_piece.Goals as goal

pub returns-in_default-clause-order : goal.returns-in_default-clause-order
returns-in_default-clause-order g c kind bytes done s0 =
    let s = cuts_again INPUT_MAX kind c.args.cutter.now c.make_room-room.new.cutter bytes done s0 c.make_room-room.ensures.forgets in (
      None,
      c.in_default.ensures.one (omega (arith, length-replicate {A = ℕ})),
      refl,
      cuts_failed INPUT_MAX kind c.make_room-room.new.cutter bytes done s,
      over_forget INPUT_MAX c.args.cutter.now c.make_room-room.new.cutter Open c.make_room-room.ensures.forgets,
      holds_none INPUT_MAX c.args.cutter.now c.make_room-room.new.cutter c.make_room-room.new.cutter c.make_room-room.ensures.forgets refl refl,
    )

pub returns-then-count-eq0-clause-order : goal.returns-then-count-eq0-clause-order
returns-then-count-eq0-clause-order g c kind bytes done s0 =
    let s = cuts_again INPUT_MAX kind c.args.cutter.now c.make_room-room.new.cutter bytes done s0 c.make_room-room.ensures.forgets in
    let none : take c.in-Ok.count c.read.new.piece ≡ [] = ap (λ n. take n c.read.new.piece) c.if-count-eq0.true in
    rw c.close.ensures (
      Some [],
      subst (λ (p : List ℕ). g.S.Source.reads c.args.source.now c.read.new.self (Some p)) none (c.in-Ok.ensures.one (omega (arith, length-replicate {A = ℕ}))),
      refl,
      cuts_whole INPUT_MAX kind c.make_room-room.new.cutter bytes done s,
      over_forget INPUT_MAX c.args.cutter.now c.make_room-room.new.cutter Open c.make_room-room.ensures.forgets,
      holds_end INPUT_MAX c.args.cutter.now c.make_room-room.new.cutter (record c.make_room-room.new.cutter { closed = true }) c.make_room-room.ensures.forgets refl refl,
    )

pub returns-in_default-give-clause-order : goal.returns-in_default-give-clause-order
returns-in_default-give-clause-order g c kind bytes done s0 =
    let s = cuts_again INPUT_MAX kind c.args.cutter.now c.make_room-room.new.cutter bytes done s0 c.make_room-room.ensures.forgets in
    let room : c.make_room-room.result ≡ INPUT_MAX - c.make_room-room.new.cutter.given = c.make_room-room.ensures.room in
    let sized : length c.read.new.piece ≡ 16384 = search rules in
    let short : c.in-Ok.count ≤ 16384 = (let w = c.in-Ok.ensures.within in omega arith) in
    let more : INPUT_MAX - c.make_room-room.new.cutter.given < c.in-Ok.count = (let m = c.if-count-room.true in omega arith) in
    let same : c.give.new.self ≡ c.make_room-room.new.cutter = c.in_default-give.ensures.refused in (
      Some (take c.in-Ok.count c.read.new.piece),
      TooLong,
      c.in-Ok.ensures.one (omega (arith, length-replicate {A = ℕ})),
      comes_cut INPUT_MAX c.in-Ok.count kind c.make_room-room.new.cutter bytes c.read.new.piece done s c.in-Ok.ensures.within short more,
      begins_cut INPUT_MAX c.in-Ok.count kind c.make_room-room.new.cutter bytes c.read.new.piece done s c.in-Ok.ensures.within more,
      holds_none INPUT_MAX c.args.cutter.now c.make_room-room.new.cutter c.give.new.self c.make_room-room.ensures.forgets (ap (λ (x : CutterState). x.held) same) (ap (λ (x : CutterState). x.at) same),
    )

pub returns-then-count-room-clause-order : goal.returns-then-count-room-clause-order
returns-then-count-room-clause-order g c kind bytes done s0 =
    let s = cuts_again INPUT_MAX kind c.args.cutter.now c.make_room-room.new.cutter bytes done s0 c.make_room-room.ensures.forgets in
    let room : c.make_room-room.result ≡ INPUT_MAX - c.make_room-room.new.cutter.given = c.make_room-room.ensures.room in
    let sized : length c.read.new.piece ≡ 16384 = search rules in
    let short : c.in-Ok.count ≤ 16384 = (let w = c.in-Ok.ensures.within in omega arith) in
    let more : INPUT_MAX - c.make_room-room.new.cutter.given < c.in-Ok.count = (let m = c.if-count-room.true in omega arith) in
    let same : c.give.new.self ≡ with_piece c.make_room-room.new.cutter (take (INPUT_MAX - c.make_room-room.new.cutter.given) c.read.new.piece) =
    c.in-Ok-give.ensures.given ∙ ap (λ n. with_piece c.make_room-room.new.cutter (take n c.read.new.piece)) room in
    let less = over_given INPUT_MAX (INPUT_MAX - c.make_room-room.new.cutter.given) c.make_room-room.new.cutter c.give.new.self c.read.new.piece TooLong s.inside (let w = c.in-Ok.ensures.within in omega arith) (let few = s.few in omega arith) same in
    let forgot = over_forget INPUT_MAX c.args.cutter.now c.make_room-room.new.cutter Open c.make_room-room.ensures.forgets in (
      Some (take c.in-Ok.count c.read.new.piece),
      c.in-Ok.ensures.one (omega (arith, length-replicate {A = ℕ})),
      comes_cut INPUT_MAX c.in-Ok.count kind c.make_room-room.new.cutter bytes c.read.new.piece done s c.in-Ok.ensures.within short more,
      cuts_cut INPUT_MAX c.in-Ok.count kind c.make_room-room.new.cutter c.give.new.self bytes c.read.new.piece done s c.in-Ok.ensures.within more same,
      le_trans less forgot,
      holds_cut INPUT_MAX c.in-Ok.count c.args.cutter.now c.make_room-room.new.cutter c.give.new.self c.read.new.piece c.make_room-room.ensures.forgets more same,
    )

pub returns-in_default-give-2-clause-order : goal.returns-in_default-give-2-clause-order
returns-in_default-give-2-clause-order g c kind bytes done s0 =
    let s = cuts_again INPUT_MAX kind c.args.cutter.now c.make_room-room.new.cutter bytes done s0 c.make_room-room.ensures.forgets in
    let room : c.make_room-room.result ≡ INPUT_MAX - c.make_room-room.new.cutter.given = c.make_room-room.ensures.room in
    let fits : c.make_room-room.new.cutter.given + c.in-Ok.count ≤ INPUT_MAX = (let less = c.if-count-room.false in let few = c.make_room-room.ensures.few in omega arith) in
    let sized : length c.read.new.piece ≡ 16384 = search rules in
    let short : c.in-Ok.count ≤ 16384 = (let w = c.in-Ok.ensures.within in omega arith) in
    let some : 0 < c.in-Ok.count = (let z = c.if-count-eq0.false in omega arith) in
    let same : c.give-2.new.self ≡ c.make_room-room.new.cutter = c.in_default-give-2.ensures.refused in (
      Some (take c.in-Ok.count c.read.new.piece),
      Open,
      c.in-Ok.ensures.one (omega (arith, length-replicate {A = ℕ})),
      comes_more INPUT_MAX c.in-Ok.count kind c.make_room-room.new.cutter bytes c.read.new.piece done s c.in-Ok.ensures.within short fits some,
      begins_more INPUT_MAX c.in-Ok.count kind c.make_room-room.new.cutter bytes c.read.new.piece done s c.in-Ok.ensures.within fits,
      holds_none INPUT_MAX c.args.cutter.now c.make_room-room.new.cutter c.give-2.new.self c.make_room-room.ensures.forgets (ap (λ (x : CutterState). x.held) same) (ap (λ (x : CutterState). x.at) same),
    )

pub returns-clause-order : goal.returns-clause-order
returns-clause-order g c kind bytes done s0 =
    let s = cuts_again INPUT_MAX kind c.args.cutter.now c.make_room-room.new.cutter bytes done s0 c.make_room-room.ensures.forgets in
    let room : c.make_room-room.result ≡ INPUT_MAX - c.make_room-room.new.cutter.given = c.make_room-room.ensures.room in
    let fits : c.make_room-room.new.cutter.given + c.in-Ok.count ≤ INPUT_MAX = (let less = c.if-count-room.false in let few = c.make_room-room.ensures.few in omega arith) in
    let sized : length c.read.new.piece ≡ 16384 = search rules in
    let short : c.in-Ok.count ≤ 16384 = (let w = c.in-Ok.ensures.within in omega arith) in
    let some : 0 < c.in-Ok.count = (let z = c.if-count-eq0.false in omega arith) in
    let size : length (take c.in-Ok.count c.read.new.piece) ≡ c.in-Ok.count = length-take-le c.in-Ok.count c.read.new.piece c.in-Ok.ensures.within in
    let less = over_given INPUT_MAX c.in-Ok.count c.make_room-room.new.cutter c.give-2.new.self c.read.new.piece Open s.inside c.in-Ok.ensures.within fits c.in-Ok-give-2.ensures.given in
    let forgot = over_forget INPUT_MAX c.args.cutter.now c.make_room-room.new.cutter Open c.make_room-room.ensures.forgets in (
      Some (take c.in-Ok.count c.read.new.piece),
      c.in-Ok.ensures.one (omega (arith, length-replicate {A = ℕ})),
      comes_more INPUT_MAX c.in-Ok.count kind c.make_room-room.new.cutter bytes c.read.new.piece done s c.in-Ok.ensures.within short fits some,
      cuts_more INPUT_MAX kind c.make_room-room.new.cutter c.give-2.new.self bytes (take c.in-Ok.count c.read.new.piece) done s (omega arith) c.in-Ok-give-2.ensures.given,
      le_trans less forgot,
      holds_more INPUT_MAX c.in-Ok.count c.args.cutter.now c.make_room-room.new.cutter c.give-2.new.self c.read.new.piece c.make_room-room.ensures.forgets c.in-Ok.ensures.within fits c.in-Ok-give-2.ensures.given,
    )
