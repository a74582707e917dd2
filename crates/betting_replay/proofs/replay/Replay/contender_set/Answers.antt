use Rattle.std.proofs.Common.{◌≡◌, ◌<◌, ◌∙◌, ap, sym, arith}
use Rattle.card_sets.specs.PlayerSets.{players_where, with_player}
use Rattle.card_sets.specs.PlayerSetLaws.{with_player-next, players_where-skip}
use Rattle.betting_replay.specs.Accounts.{contenders}
use Rattle.betting_replay.specs.Turns.{is_contender}
use Rattle.betting_replay.proofs.replay.Replay.contender_set.Goals as goal

pub loop-seat-preserved-then-not-is_contender : goal.loop-seat-preserved-then-not-is_contender
loop-seat-preserved-then-not-is_contender c =
    c.loop-seat.invariant ∙ players_where-skip (is_contender c.args.self.now) c.loop-seat.seat (sym c.is_contender.ensures ∙ c.if-not-is_contender.true)

pub loop-seat-preserved : goal.loop-seat-preserved
loop-seat-preserved c =
    let room : c.loop-seat.seat < 16 = (let t = c.loop-seat-test.true in omega (arith, t)) in
    c.with-set.ensures ∙ ap (λ set. with_player set c.loop-seat.seat) c.loop-seat.invariant
    ∙ with_player-next (is_contender c.args.self.now) c.loop-seat.seat room (sym c.is_contender.ensures ∙ c.if-not-is_contender.false)

pub returns : goal.returns
unfolding contenders
returns c =
    let end : c.loop-seat.seat ≡ 11 = (let t = c.loop-seat-test.false in omega (arith, t)) in
    c.loop-seat.invariant ∙ ap (players_where (is_contender c.args.self.now)) end
