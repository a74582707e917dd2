use Rattle.hand_laws.proofs.lemmas.pots.UncalledBets.{comes_back, others_match}
use Rattle.hand_laws.proofs.pots.law_what_is_uncalled_comes_back.Goals as goal

pub returns : goal.returns
returns c = record { accepted = comes_back; matched = others_match }
