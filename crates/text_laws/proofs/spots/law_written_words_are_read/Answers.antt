use Rattle.text_laws.proofs.WrittenWords.{words-joined}
use Rattle.text_laws.proofs.spots.law_written_words_are_read.Goals as goal

pub returns : goal.returns
returns c = words-joined
