-- Made hands, one after another.
use Rattle.std.specs.Prelude.{ℕ, zero, suc, ◌+◌, List, [], ◌++◌}
use Rattle.made_hands.specs.Generator.{state_after}
use Rattle.made_hands.specs.Deals.{deal_of}
use Rattle.made_hands.specs.Lines.{hand_text}

-- n hands from a state on, the first with the given number; a hand takes eleven draws
unfoldable pub hands_text : ℕ → ℕ → ℕ → List ℕ
hands_text number x zero = []
hands_text number x (suc more) =
    hand_text number (deal_of x) ++ hands_text (number + 1) (state_after 11 x) more

-- n hands from a seed, numbered from 1
abbrev pub made_text : ℕ → ℕ → List ℕ
made_text seed hands = hands_text 1 seed hands
