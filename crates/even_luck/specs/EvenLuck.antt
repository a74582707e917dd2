-- What a player would have got of a hand with even luck.
use Rattle.std.specs.Prelude.{ℕ, ◌&&◌, if◌then◌else◌, List, map, Option, Some, None}
use Rattle.std.specs.List.{sum_by}
use Rattle.std.specs.Option.{option_map_or}
use Rattle.even_luck.specs.Figures.{expected_by, is_counted}
use Rattle.even_luck.specs.Seats.{contenders, hand_at}
use Rattle.hand_verdict.specs.SeatSums.{got_by, got_of}
use Rattle.hand_verdict.specs.declared.settlement.PotLine.{PotLine}
use Rattle.hand_verdict.specs.declared.settlement.Settlement.{Settlement}
use Rattle.hand_verdict.specs.declared.verdicts.AllIn.{AllIn}
use Rattle.hand_verdict.specs.declared.verdicts.AllIn.TheVariants.{None as NoAllIn, Unknown, Known}
use Rattle.showdown_tally.specs.Deals.{deal_of}
use Rattle.showdown_tally.specs.Showdown.{Showdown}

-- a pot as if it held what the players of some seats got out of it together, and so all pots
abbrev pub shared_pot : List ℕ → PotLine → PotLine
shared_pot seats pot = record pot { gross = sum_by (λ seat. got_by pot.paid seat) seats }

abbrev pub shared_pots : List ℕ → List PotLine → List PotLine
shared_pots seats pots = map (shared_pot seats) pots

-- what a hand of the table would have got with even luck: what it could expect of the pots, if each held what the contenders
-- of the all-in got out of it
abbrev pub even_got : Settlement → List ℕ → Showdown → ℕ → ℕ
even_got s seats deal hand =
    expected_by (record s { pots = shared_pots (contenders seats deal) s.pots }) deal hand

-- what a seat would have got with even luck of a hand with a known all-in. Whoever isn't a contender of the all-in has what he
-- got. None where the all-in isn't counted, or the names of the collections don't fit the pots
unfoldable pub known_even : Settlement → List ℕ → Showdown → ℕ → Option ℕ
known_even s seats deal seat =
    if s.fits && is_counted deal
    then Some (option_map_or (even_got s seats deal) (hand_at seats deal seat) (got_of s seat))
    else None

-- the same of any hand. Without an all-in it is what the seat got
abbrev pub even_of : Settlement → AllIn → ℕ → Option ℕ
even_of s NoAllIn seat = Some (got_of s seat)
even_of s Unknown seat = None
even_of s (Known street seats table) seat = known_even s seats (deal_of table) seat
