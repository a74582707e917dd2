-- What the generator deals: two cards for each of two players, five for the board, and two stacks.
use Rattle.std.specs.Prelude.{ℕ, zero, suc, ◌+◌, List, [], ◌∷◌, length, slice_index, take, drop, ◌≡◌, ◌≤◌}
use Rattle.card_sets.specs.Cards.{deck, union, without_card}
use Rattle.made_hands.specs.Generator.{next_state, drawn, state_after}
use Rattle.made_hands.specs.declared.deals.Deal.{Deal}

-- the card drawn at a state from the cards left, a rising list; its place, from 0, is drawn
unfoldable pub card_drawn : List ℕ → ℕ → ℕ
card_drawn left x = slice_index left (drawn (length left) x)

-- the cards left without that card
unfoldable pub left_behind : List ℕ → ℕ → List ℕ
left_behind left x = without_card left (card_drawn left x)

-- n cards, each drawn from the cards left
abbrev pub cards_drawn : ℕ → List ℕ → ℕ → List ℕ
cards_drawn zero left x = []
cards_drawn (suc n) left x = card_drawn left x ∷ cards_drawn n (left_behind left x) (next_state x)

-- the cards left without those cards
abbrev pub left_after : ℕ → List ℕ → ℕ → List ℕ
left_after zero left x = left
left_after (suc n) left x = left_after n (left_behind left x) (next_state x)

-- the stack drawn at a state: 10 to 200 whole dollars
unfoldable pub stack_drawn : ℕ → ℕ
stack_drawn x = 10 + drawn 191 x

-- the deal of a state, in eleven draws: nine cards from the whole deck, the first player's before the second's and the
-- board's, and then the first player's stack and the second's
unfoldable pub deal_of : ℕ → Deal
deal_of x =
    let cards = cards_drawn 9 deck x in
    record {
      first = take 2 cards;
      second = take 2 (drop 2 cards);
      board = drop 4 cards;
      first_stack = stack_drawn (state_after 9 x);
      second_stack = stack_drawn (state_after 10 x);
    }

-- each player has seven different cards with the board, and both stacks are in their range
pub record IsWhole (d : Deal) : Type 0 where
  pub first_seven : length (union d.first d.board) ≡ 7
  pub second_seven : length (union d.second d.board) ≡ 7
  pub first_some : 10 ≤ d.first_stack
  pub first_few : d.first_stack ≤ 200
  pub second_some : 10 ≤ d.second_stack
  pub second_few : d.second_stack ≤ 200
