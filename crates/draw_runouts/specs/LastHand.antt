-- Who wins a pot, by the best of all hands but one and by the number of that one.
use Rattle.std.specs.Prelude.{◌≡◌, ℕ, ◌+◌, ◌<◌, ◌≤◌, ◌^◌, ◌==◌, ◌&&◌, Bool, true, false, not, if◌then◌else◌, List, [], ◌∷◌, filter, length, nat_le, nat_lt, slice_get, slice_index}
use Rattle.std.specs.List.{count_by}
use Rattle.std.specs.Option.{option_map}
use Rattle.showdown_tally.specs.SideCounts.{low_mark}
use Rattle.runout_walk.specs.Bests.{best_set, some_set}
use Rattle.draw_runouts.specs.Worth.{or_zero}
use Rattle.draw_runouts.specs.declared.orders.Orders.{Orders}
use Rattle.draw_runouts.specs.declared.orders.PotSums.{PotSums}
use Rattle.draw_runouts.specs.declared.pairs.PairSums.{PairSums}
use Rattle.draw_runouts.specs.declared.pairs.PairOrders.{PairOrders}
use Rattle.draw_runouts.specs.declared.winners.Winners.{Winners}

-- the hands but one
abbrev pub others_of : ℕ → List ℕ → List ℕ
others_of last hands = filter (λ h. not (h == last)) hands

-- the numbers of the hands, where one hand has another
abbrev pub value_with : List ℕ → ℕ → ℕ → ℕ → ℕ
value_with values last value h = if h == last then value else slice_index values h

-- one of three sets, by whether a number is below another, or the same
abbrev pub pick : ℕ → ℕ → ℕ → Bool → Bool → ℕ
pick below equal above true same = below
pick below equal above false true = equal
pick below equal above false false = above

-- the set that wins where the number of the last hand is below the greatest of the others, the same, or above
abbrev pub winner_by : ℕ → ℕ → ℕ → ℕ → ℕ → ℕ
winner_by top below equal above value = pick below equal above (nat_lt value top) (value == top)

abbrev pub won_by : Winners → ℕ → ℕ
won_by r value = winner_by r.top r.below r.equal r.above value

-- the same in one of some pots
abbrev pub won_at : List Winners → ℕ → ℕ → ℕ
won_at rivals pot value = or_zero (option_map (λ r. won_by r value) (slice_get rivals pot))

-- the greatest number of the others, and in one of some pots
abbrev pub top_of : Winners → ℕ
top_of r = r.top

abbrev pub top_at : List Winners → ℕ → ℕ
top_at rivals pot = or_zero (option_map top_of (slice_get rivals pot))

-- how a number stands to it
abbrev pub is_below : List Winners → ℕ → ℕ → Bool
is_below rivals value pot = nat_lt value (top_at rivals pot)

abbrev pub is_equal : List Winners → ℕ → ℕ → Bool
is_equal rivals value pot = value == top_at rivals pot

abbrev pub is_above : List Winners → ℕ → ℕ → Bool
is_above rivals value pot = nat_lt (top_at rivals pot) value

-- and whether it is no more than that, or no less
abbrev pub is_most : List Winners → ℕ → ℕ → Bool
is_most rivals value pot = nat_le value (top_at rivals pot)

abbrev pub is_least : List Winners → ℕ → ℕ → Bool
is_least rivals value pot = nat_le (top_at rivals pot) value

-- who wins by the numbers of some hands: the best, or where a hand has to qualify, of those that don't have 0
abbrev pub won_set : Bool → (ℕ → ℕ) → List ℕ → ℕ
won_set true value hands = some_set value hands
won_set false value hands = best_set value hands

-- each of the first pots has a sum with room for one more
pub record HaveRoom (pots : ℕ) (sums : List ℕ) : Type 0 where
  pub places : pots ≤ length sums
  pub fits : (pot : ℕ) → pot < pots → slice_index sums pot + 1 < 2 ^ 32

-- the sums of the first pots are greater by one where a test passes, and the others stay
pub record AreStepped (test : ℕ → Bool) (pots : ℕ) (old new : List ℕ) : Type 0 where
  pub done : (pot : ℕ) → pot < pots → slice_index new pot ≡ slice_index old pot + (if test pot then 1 else 0)
  pub later : (pot : ℕ) → pots ≤ pot → slice_index new pot ≡ slice_index old pot
  pub same : length new ≡ length old

-- the sum of each of the first pots is how many numbers pass a test there
pub record AreSums (test : ℕ → ℕ → Bool) (pots : ℕ) (values sums : List ℕ) : Type 0 where
  pub counts : (pot : ℕ) → pot < pots → slice_index sums pot ≡ count_by (λ value. test value pot) values
  pub ten : length sums ≡ 10

-- how many numbers of one list pass with those at their places of another
abbrev pub count_both : (ℕ → ℕ → Bool) → List ℕ → List ℕ → ℕ
count_both p [] lows = 0
count_both p (value ∷ values) [] = 0
count_both p (value ∷ values) (low ∷ lows) = (if p value low then 1 else 0) + count_both p values lows

-- a number of runouts where a set wins, and none elsewhere
abbrev pub times_at : ℕ → ℕ → ℕ → ℕ
times_at winners times set = if winners == set then times else 0

-- the same of three orders, each at a set
abbrev pub times_of : ℕ → ℕ → ℕ → Orders → ℕ → ℕ
times_of below equal above orders set = times_at below orders.below set + times_at equal orders.equal set + times_at above orders.above set

-- how often the three orders come in all
abbrev pub total_of : Orders → ℕ
total_of orders = orders.below + orders.equal + orders.above

-- the same of the low's orders where a set wins the high, each at the place of that set by who wins the low
abbrev pub marked_times : ℕ → Winners → Orders → ℕ → ℕ
marked_times high lows orders place = times_of (high + low_mark lows.below) (high + low_mark lows.equal) (high + low_mark lows.above) orders place

-- a test of a draw's high in a pot, one of its low, and both
abbrev pub on_high : (ℕ → ℕ → Bool) → ℕ → ℕ → ℕ → Bool
on_high test value low pot = test value pot

abbrev pub on_low : (ℕ → ℕ → Bool) → ℕ → ℕ → ℕ → Bool
on_low test value low pot = test low pot

abbrev pub on_both : (ℕ → ℕ → Bool) → (ℕ → ℕ → Bool) → ℕ → ℕ → ℕ → Bool
on_both low_test test value low pot = low_test low pot && test value pot

-- the sum of each of the first pots is how many draws pass a test there
pub record AreCounted (test : ℕ → ℕ → ℕ → Bool) (pots : ℕ) (values lows sums : List ℕ) : Type 0 where
  pub counts : (pot : ℕ) → pot < pots → slice_index sums pot ≡ count_both (λ value low. test value low pot) values lows
  pub ten : length sums ≡ 10

-- the same of two sums for two tests
pub record AreTwoCounted (most least : ℕ → ℕ → ℕ → Bool) (pots : ℕ) (values lows : List ℕ) (sums : PotSums) : Type 0 where
  pub at_most : AreCounted most pots values lows sums.at_most
  pub at_least : AreCounted least pots values lows sums.at_least

-- two sums of each of the first pots have room for one more, and are greater by one where their tests pass
pub record HaveTwoRoom (pots : ℕ) (sums : PotSums) : Type 0 where
  pub at_most : HaveRoom pots sums.at_most
  pub at_least : HaveRoom pots sums.at_least

pub record AreTwoStepped (most least : ℕ → Bool) (pots : ℕ) (old new : PotSums) : Type 0 where
  pub at_most : AreStepped most pots old.at_most new.at_most
  pub at_least : AreStepped least pots old.at_least new.at_least

-- so much is added to each of the two sums of a pot
pub record AddsTwo (pot under over : ℕ) (old new : PotSums) : Type 0 where
  pub at_most : (other : ℕ) → slice_index new.at_most other ≡ slice_index old.at_most other + (if pot == other then under else 0)
  pub at_least : (other : ℕ) → slice_index new.at_least other ≡ slice_index old.at_least other + (if pot == other then over else 0)
  pub same_most : length new.at_most ≡ length old.at_most
  pub same_least : length new.at_least ≡ length old.at_least

-- in each of the first pots the sums are how many draws pass the tests of the high, of the low, and of both
pub record ArePairSums (highs lows : List Winners) (pots : ℕ) (values low_values : List ℕ) (sums : PairSums) : Type 0 where
  pub of_highs : AreTwoCounted (on_high (is_most highs)) (on_high (is_least highs)) pots values low_values sums.highs
  pub of_lows : AreTwoCounted (on_low (is_most lows)) (on_low (is_least lows)) pots values low_values sums.lows
  pub with_most : AreTwoCounted (on_both (is_most lows) (is_most highs)) (on_both (is_most lows) (is_least highs)) pots values low_values sums.low_most
  pub with_least : AreTwoCounted (on_both (is_least lows) (is_most highs)) (on_both (is_least lows) (is_least highs)) pots values low_values sums.low_least

-- they have room for one draw more, and are greater by one where it passes their tests
pub record HavePairRoom (pots : ℕ) (sums : PairSums) : Type 0 where
  pub of_highs : HaveTwoRoom pots sums.highs
  pub of_lows : HaveTwoRoom pots sums.lows
  pub with_most : HaveTwoRoom pots sums.low_most
  pub with_least : HaveTwoRoom pots sums.low_least

pub record ArePairsStepped (highs lows : List Winners) (value low pots : ℕ) (old new : PairSums) : Type 0 where
  pub of_highs : AreTwoStepped (on_high (is_most highs) value low) (on_high (is_least highs) value low) pots old.highs new.highs
  pub of_lows : AreTwoStepped (on_low (is_most lows) value low) (on_low (is_least lows) value low) pots old.lows new.lows
  pub with_most : AreTwoStepped (on_both (is_most lows) (is_most highs) value low) (on_both (is_most lows) (is_least highs) value low) pots old.low_most new.low_most
  pub with_least : AreTwoStepped (on_both (is_least lows) (is_most highs) value low) (on_both (is_least lows) (is_least highs) value low) pots old.low_least new.low_least

-- how often a number stands in each order to another, in the draws that pass a test
pub record AreOrders (passes : ℕ → ℕ → Bool) (number : ℕ → ℕ → ℕ) (top : ℕ) (values lows : List ℕ) (orders : Orders) : Type 0 where
  pub below : orders.below ≡ count_both (λ value low. passes value low && nat_lt (number value low) top) values lows
  pub equal : orders.equal ≡ count_both (λ value low. passes value low && (number value low == top)) values lows
  pub above : orders.above ≡ count_both (λ value low. passes value low && nat_lt top (number value low)) values lows

-- the low's orders in a pot, of all draws and of those in each order of the high
pub record ArePairOrders (highs lows : List Winners) (pot : ℕ) (values low_values : List ℕ) (orders : PairOrders) : Type 0 where
  pub all : AreOrders (λ value low. true) (λ value low. low) (top_at lows pot) values low_values orders.all
  pub below : AreOrders (λ value low. is_below highs value pot) (λ value low. low) (top_at lows pot) values low_values orders.below
  pub equal : AreOrders (λ value low. is_equal highs value pot) (λ value low. low) (top_at lows pot) values low_values orders.equal
  pub above : AreOrders (λ value low. is_above highs value pot) (λ value low. low) (top_at lows pot) values low_values orders.above
