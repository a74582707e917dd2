use Rattle.card_sets.specs.CardTextLaws.{card_of_text-text_of_card}
use Rattle.card_sets.proofs.deck.law_text_is_read.Goals as goal

pub returns : goal.returns
returns c card h = card_of_text-text_of_card card h
