use Rattle.std.proofs.Common.{◌≡◌, ◌^◌, length, take, ap, subst, sym, ◌∙◌, arith}
use Rattle.std.proofs.Math.Seq.{take-length}
use Rattle.even_luck.specs.Seats.{Seated}
use Rattle.player_totals.specs.SumsSeen.{seated_share, with_given, with_more}
use Rattle.player_totals.specs.Totals.{Player, playing}
use Rattle.player_totals.proofs.LineupFacts.{all_small, first_key, given_first, given_kept, given_more, more_small, nobody_small}
use Rattle.player_totals.proofs.players.add_sums.Goals as goal
use Rattle.player_totals.proofs.players.add_sums.Goals.{in-Some, in_default}

pub loop-place-init : goal.loop-place-init
loop-place-init g c =
    let m = g.S.Sums in
    let unit = c.args.lineup.now.hundredths in
    let each = g.H.Gives.share c.args.hand.now in
    record {
      sums = given_first m.laws unit each c.args.players.now;
      small = nobody_small m.laws unit each;
    }

pub add-requires-clause-sums : goal.add-requires-clause-sums
add-requires-clause-sums g c =
    rw c.loop-place.invariant.sums (all_small g.S.Sums.laws (2 ^ 32) _ c.args.players.now c.requires.sums c.loop-place.invariant.small)

pub loop-place-preserved : goal.loop-place-preserved
loop-place-preserved g c =
    let m = g.S.Sums in
    let lineup = c.args.lineup.now in
    let unit = lineup.hundredths in
    let each = g.H.Gives.share c.args.hand.now in
    elim c.match-first_at.branch [
      | in-Some w ↦ record {
        sums = given_more m.laws unit each lineup.names.now lineup.players c.loop-place.place _ w.sums-more.result c.args.players.now
            c.loop-place.players _ (sym w.in-Some.ensures) w.sums-more.ensures.value w.add.ensures.distinct c.loop-place.invariant.sums
            (w.players-is ∙ w.add.ensures.added
            ∙ ap (λ player. with_more m.plus c.loop-place.players player w.sums-more.result)
            (first_key _ lineup.names.now lineup.players c.loop-place.place _ c.args.keys.now w.index-keys-place.result c.requires.keys (sym w.in-Some.ensures) w.index-keys-place.is));
        small = more_small m.laws unit each lineup.names.now lineup.players c.loop-place.place _ w.sums-more.result (sym w.in-Some.ensures) w.sums-more.ensures.value
            w.sums-more.ensures.small c.loop-place.invariant.small;
      }
      | in_default w ↦
          let kept = given_kept m.laws unit each lineup.names.now lineup.players c.loop-place.place (sym w.in_default.ensures) in
          record {
            sums = w.players-is ∙ c.loop-place.invariant.sums ∙ ap (λ given. with_given m.plus given c.args.players.now) kept;
            small = λ player. subst (λ (given : Player → _). m.AreOf 1 (given player)) kept (c.loop-place.invariant.small player);
          }
    ]

pub returns-clause-small : goal.returns-clause-small
returns-clause-small g c = λ count small.
    rw c.loop-place.invariant.sums (all_small g.S.Sums.laws count _ c.args.players.now small c.loop-place.invariant.small)

pub returns-clause-added : goal.returns-clause-added
returns-clause-added g c =
    let m = g.S.Sums in
    let lineup = c.args.lineup.now in
    let given = λ (lines : Seated). with_given m.plus (seated_share m.nothing lineup.hundredths (g.H.Gives.share c.args.hand.now) (playing lines lineup.players)) c.args.players.now in
    let end : c.loop-place.place ≡ length lineup.names.now = omega (arith, c.loop-place.auto.place-end, c.loop-place-test.false, c.count-place-end.ensures) in
    c.loop-place.invariant.sums ∙ ap (λ n. given (take n lineup.names.now)) end ∙ ap given (take-length lineup.names.now)
