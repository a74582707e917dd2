use Rattle.spot_text.proofs.CallerLemmas.{none_repeated}
use Rattle.text_laws.proofs.FirstRepeated.{first_repeated}
use Rattle.text_laws.proofs.spots.law_the_first_repeated_card.Goals as goal

pub returns : goal.returns
returns c = record { none = none_repeated; first = first_repeated }
