use Rattle.std.proofs.Common.{ap, ◌∙◌}
use Rattle.betting_replay.specs.Table.{is_twice}
use Rattle.hand_audit.specs.Settle.{Settled, settled}
use Rattle.hand_audit.specs.Showings.{rake, showing_of}
use Rattle.hand_audit.specs.Verdict.{settlement_by}
use Rattle.hand_audit.proofs.read.settlement_of.Goals as goal

pub returns : goal.returns
returns c players so_far k made =
    let g = c.args.header.now in
    let h = so_far.events in
    let s = showing_of g players h in
    ap (λ (x : Settled). settlement_by g c.args.state.now.rake c.is_twice.result x) made.settled ∙ ap (λ stated. settlement_by g stated c.is_twice.result (settled s)) k.rake
    ∙ ap (λ twice. settlement_by g (rake h) twice (settled s)) (c.is_twice.ensures ∙ ap is_twice k.stands.is)
