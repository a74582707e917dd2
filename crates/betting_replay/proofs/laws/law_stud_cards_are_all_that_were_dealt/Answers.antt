use Rattle.betting_replay.proofs.lemmas.known.StudCards.{street_cards}
use Rattle.betting_replay.proofs.laws.law_stud_cards_are_all_that_were_dealt.Goals as goal

pub returns : goal.returns
returns c = street_cards
