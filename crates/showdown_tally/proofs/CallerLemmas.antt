-- What the proofs of other crates cite of this one. They cite nothing else of its proofs.

-- The hands that win among those of a mask.
pub use Rattle.showdown_tally.proofs.MaskWinners.{some_among}
-- What a runout deals: so many unseen cards to each receiver that lacks cards, no card to two.
pub use Rattle.showdown_tally.proofs.DealtCards.{IsChoice, filtered, Deals, runout_deals, dealt_cards}
-- After a runout each hand and the board are full, and no hand shares a card with the board.
pub use Rattle.showdown_tally.proofs.FullHands.{hand_of, Sound, list_all-index, known_sound, unseen_free, any-index, full_own, full_board, full_apart}
pub use Rattle.showdown_tally.proofs.FullHands.{hand_IsFull, no_earlier}
-- Going through the slots and the sets of a runout together.
pub use Rattle.showdown_tally.proofs.SlotsAndSets.{dealt_here, dealt_on, index_default}
-- The winners of a pot are the hands with the greatest number, where the numbers keep the order of the values.
pub use Rattle.showdown_tally.proofs.Winners.{is_set, hands_short}
-- The winners of either side are the hands with the greatest number, where some hands may have no value.
pub use Rattle.showdown_tally.proofs.SideWinners.{KeptSide, kept_side}
-- What one runout gives in a pot, by the hands that win there.
pub use Rattle.showdown_tally.proofs.PotFacts.{eligible_pot, among_hands, no_side, pot_winners, pot_cell}
-- A pot is given out whole, and each runout ends in one way.
pub use Rattle.showdown_tally.proofs.WholePots.{among_passed}
-- The numbers of two values of a side are in the order of the values: which of two is the greater, and the less.
pub use Rattle.showdown_tally.proofs.KeptOrder.{is-eight, best-KeepOrder, greater_is, less_is}
-- Two own cards and a board make a flush of one suit at most.
pub use Rattle.showdown_tally.proofs.OnlySuits.{only-suit}
-- Some hands as the number with their bits, and back.
pub use Rattle.showdown_tally.proofs.SetMasks.{mask_below, tops_set}
-- What a set of hands that wins is to a hand.
pub use Rattle.showdown_tally.proofs.SetFacts.{among_set, set_loses, set_wins, set_ties, set_gives, set_gives_none}
-- What runouts are worth by the counts of a side: by the set that wins it, with a low and without one.
pub use Rattle.showdown_tally.proofs.CountSums.{set_again}
