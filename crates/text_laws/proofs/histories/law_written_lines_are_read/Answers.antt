use Rattle.text_laws.proofs.WrittenMoves.{acts_are_read, posts_are_read, returns_are_read, collections_are_read}
use Rattle.text_laws.proofs.WrittenSeats.{seats_are_read}
use Rattle.text_laws.proofs.histories.law_written_lines_are_read.Goals as goal

pub returns : goal.returns
returns c = record {
  acts = acts_are_read;
  posts = posts_are_read;
  returned = returns_are_read;
  collected = collections_are_read;
  seats = seats_are_read;
}
