-- What a hand gives a seat, by whether its all-in is counted.
use Rattle.std.proofs.Common.{◌≡◌, ℕ, true, false, List, refl}
use Rattle.std.specs.Option.{option_map_or}
use Rattle.even_luck.specs.Figures.{is_counted}
use Rattle.even_luck.specs.Seats.{hand_at}
use Rattle.hand_verdict.specs.declared.settlement.Settlement.{Settlement}
use Rattle.player_totals.specs.Totals.{hand_all_in, hand_alone, known_sums}
use Rattle.showdown_tally.specs.Showdown.{Showdown}

-- an all-in that isn't counted gives a seat the hand alone
pub known_alone : (s : Settlement) (seats : List ℕ) (deal : Showdown) (seat : ℕ) → is_counted deal ≡ false → hand_alone ≡ known_sums s seats deal seat
unfolding known_sums
known_alone s seats deal seat refused = rw refused refl

-- one that is counted gives it what its hand of the table has
pub known_counted : (s : Settlement) (seats : List ℕ) (deal : Showdown) (seat : ℕ) → is_counted deal ≡ true →
    option_map_or (hand_all_in s deal seat) (hand_at seats deal seat) hand_alone ≡ known_sums s seats deal seat
unfolding known_sums
known_counted s seats deal seat counted = rw counted refl
