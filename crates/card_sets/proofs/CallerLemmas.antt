-- What the proofs of other crates cite of this one. They cite nothing else of its proofs.

-- What `and` and `or` say of their two parts. What std has of them is cited from there.
pub use Rattle.card_sets.proofs.TruthLemmas.{and_first, and_second, or_first, or_second, or_either, false_unless, not_true}
-- Sets of cards: which share no card, what is in a union, a rest or a set by a test, and how many cards that are.
pub use Rattle.card_sets.proofs.SetLemmas.{Apart, Apart-sym, length-union, Apart-apart, apart-Apart, has_card-bound, Apart-union, union-IsCardSet}
pub use Rattle.card_sets.proofs.SetLemmas.{has_all, has_union, all-union, in_where, where_in, in_union, union_left, union_right, in_minus, no_cards}
pub use Rattle.card_sets.proofs.SetLemmas.{no_more, of_deck, fewer_where, length-minus, length-with_card, in_rest, from_apart, has_past, NoneIn}
pub use Rattle.card_sets.proofs.SetLemmas.{apart-NoneIn}
-- Parts of a list: what is left where some members are left out; and parts of sets of cards.
pub use Rattle.card_sets.proofs.PartLemmas.{IsPart, none_part, passing_part, part_of_passing, part_of_image, image_of_part, set-part, has-part}
pub use Rattle.card_sets.proofs.PartLemmas.{Apart-parts}
-- The choices of so many members of a list: how many there are at the edges, that each is a part, and the greatest number of all.
pub use Rattle.card_sets.proofs.ChoiceLemmas.{choose-short, choose-some, choose-all, FirstTaken, first_taken, greatest, greatest-append, greatest_step}
pub use Rattle.card_sets.proofs.ChoiceLemmas.{greatest_most, greatest_least, AreParts, AreParts-choose}
-- Sets of cards that a loop over a bracket adds to or takes from, card by card.
pub use Rattle.card_sets.proofs.BracketLemmas.{union-nil, union_next, union-front, minus-nil, minus_next}
-- The games with a board, one by one.
pub use Rattle.card_sets.proofs.GameLemmas.{board_games}
