use Rattle.text_laws.proofs.WrittenSpots.{written_is_read}
use Rattle.text_laws.proofs.spots.law_a_written_spot_is_read.Goals as goal

pub returns : goal.returns
returns c = written_is_read
