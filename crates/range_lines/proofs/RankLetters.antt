-- The rank of a letter, read off the card of that rank and the first suit.
use Rattle.std.proofs.Common.{◌≡◌, ℕ, ◌+◌, ◌*◌, ◌==◌, refl, ap, Some, None, arith}
use Rattle.std.specs.Prelude.{Option, position, option_and_then}
use Rattle.std.specs.Option.{option_map}
use Rattle.card_sets.specs.Cards.{rank_of}
use Rattle.card_sets.specs.CardText.{rank_letters, suit_letters, card_of_letters}
use Rattle.range_lines.specs.Items.{rank_named}

pub rank_of_letters : (letter : ℕ) → option_map rank_of (card_of_letters letter 99) ≡ rank_named letter
unfolding card_of_letters rank_named
rank_of_letters letter = at (position (λ c. c == letter) rank_letters)
  where
    at : (o : Option ℕ) → option_map rank_of (option_and_then (λ rank. option_and_then (λ suit. Some (4 * rank + suit)) (position (λ c. c == 99) suit_letters)) o) ≡ o
    at None = refl
    at (Some r) = let e : rank_of (4 * r + 0) ≡ r = omega arith in ap Some e
