use Rattle.std.proofs.Common.{List, ℕ, subst, refl}
use Rattle.std.specs.Prelude.{Option}
use Rattle.betting_replay.specs.Seats.{by_seat}
use Rattle.betting_replay.specs.TableAfter.{final_at}
use Rattle.hand_audit.specs.Winning.{TellsHands, TellsSecond}
use Rattle.hand_audit.proofs.lemmas.splits.Winners.{tells}
use Rattle.hand_audit.proofs.standings.Standings.of_replay.Goals as goal

pub returns-clause-tells : goal.returns-clause-tells
returns-clause-tells c all =
    let game = c.args.game in
    let hands = by_seat (final_at c.args.replay.now) in
    tells _ game c.args.replay.now all c.known.ensures
    (subst (λ (board : List ℕ). TellsHands c.on_board.result game board hands) c.board.ensures c.on_board.ensures.tells) (subst (λ (o : Option (List ℕ)). TellsSecond c.on_second.result game o hands) c.second_of.ensures c.on_second.ensures.tells) refl c.button.ensures.value

pub returns-clause-ready : goal.returns-clause-ready
returns-clause-ready c = record { button = c.button.ensures.few; board = c.on_board.ensures.marks; second = c.on_second.ensures.marks }
