use Rattle.betting_replay.specs.TableAfter.{point}
use Rattle.betting_replay.proofs.lemmas.streets.EndedHands.{played_at, played_twice, marked_end}
use Rattle.betting_replay.proofs.lemmas.boards.BoardLaws.{whole_board}
use Rattle.betting_replay.proofs.laws.law_whole_boards.Goals as goal

pub returns : goal.returns
returns c = record {
  boards = whole_board;
  ends = λ header players h ok. record { marker = marked_end header h; played = played_at header players h (point header players h) ok; twice = played_twice header players h (point header players h) ok };
}
