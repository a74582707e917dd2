-- The lemmas on spot lines that crates above may cite.

-- What stands before the first word that passes, and after it.
pub use Rattle.spot_text.proofs.PartsByWord.{before_yes, before_no, after_yes, after_no}
-- What one word more at the front, or some more, does to the hands of a line, and what the hands are where there is no word or the
-- board begins.
pub use Rattle.spot_text.proofs.PartsByWord.{hand_first, none_first, some_hand, dashes_first, onto_words, onto_empty}
pub use Rattle.spot_text.proofs.PartsByWord.{hands_card, hands_dash, hands_end}
-- The set of no card, and the set of some cards and one more.
pub use Rattle.spot_text.proofs.CardsByWord.{set_of-nil, set_of_more}
-- Words that are cards name as many, and the set of cards that differ has as many.
pub use Rattle.spot_text.proofs.SetSizes.{length-set_whole, cards_named}
-- The cards that a whole line names are those of its hands, of its board and of its dead cards.
pub use Rattle.spot_text.proofs.KnownCards.{cards_split, hands_cards, parts_same}
-- A collected board has as many cards as the line has words for it; counted up to more than the most, the players are
-- within the bounds exactly where their number is.
pub use Rattle.spot_text.proofs.CollectedParts.{table_size, within_least, within_two, within_most}
-- There is no repeated card exactly where all cards differ.
pub use Rattle.spot_text.proofs.RepeatedCard.{none_repeated}
