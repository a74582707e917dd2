-- What the totals say about all-ins.
use Rattle.std.specs.Prelude.{◌≡◌, ℕ, ◌+◌, if◌then◌else◌, List}
use Rattle.std.specs.Bool.{beq}
use Rattle.std.specs.List.{sum_by}
use Rattle.std.specs.Option.{option_map_or}
use Rattle.even_luck.specs.Figures.{expected_by, is_counted}
use Rattle.even_luck.specs.Seats.{hand_at}
use Rattle.hand_events.specs.Names.{seat_named}
use Rattle.hand_verdict.specs.SeatSums.{got_by}
use Rattle.hand_verdict.specs.declared.settlement.Settlement.{Settlement}
use Rattle.hand_verdict.specs.declared.verdicts.AllIn.{AllIn}
use Rattle.hand_verdict.specs.declared.verdicts.AllIn.TheVariants.{None as NoAllIn, Unknown, Known}
use Rattle.hand_verdict.specs.declared.verdicts.HandAudit.{HandAudit}
use Rattle.hand_verdict.specs.declared.verdicts.HandAudit.TheVariants.{Rejected, Accepted}
use Rattle.player_totals.specs.Totals.{Player, playing, sums_over}
use Rattle.report_laws.specs.ExpectLaws.{got_of_all}
use Rattle.showdown_tally.specs.Deals.{deal_of}
use Rattle.showdown_tally.specs.Showdown.{Showdown}

-- a number of a seat in an all-in, by the seat's hand of the table: 0 if the all-in isn't counted, or the seat isn't a
-- contender
abbrev pub of_contender : (Settlement → Showdown → ℕ → ℕ → ℕ) → Settlement → AllIn → ℕ → ℕ
of_contender number s NoAllIn seat = 0
of_contender number s Unknown seat = 0
of_contender number s (Known street seats table) seat =
    if is_counted (deal_of table)
    then option_map_or (number s (deal_of table) seat) (hand_at seats (deal_of table) seat) 0 else 0

-- the number of a player in the all-in of a hand: 0 if a line of the hand is rejected, if the hand counts in the other
-- unit, or if the player isn't one of its players
abbrev pub of_all_in : (Settlement → Showdown → ℕ → ℕ → ℕ) → HandAudit → Player → ℕ
of_all_in number (Rejected line cause unit) player = 0
of_all_in number (Accepted s all_in names players) player =
    if beq player.hundredths s.hundredths
    then option_map_or (of_contender number s all_in) (seat_named player.name (playing names players)) 0
    else 0

-- one all-in; what the seat received from the pots, or in a hand whose collections don't fit them; and the expectation
-- of its hand
abbrev pub one_all_in : Settlement → Showdown → ℕ → ℕ → ℕ
one_all_in s deal seat hand = 1

abbrev pub got_in_all_in : Settlement → Showdown → ℕ → ℕ → ℕ
got_in_all_in s deal seat hand = got_of_all s.pots deal seat + got_by s.paid seat

abbrev pub expected_in_all_in : Settlement → Showdown → ℕ → ℕ → ℕ
expected_in_all_in s deal seat hand = expected_by s deal hand

-- the figures of a player are sums over the counted all-ins in which the player is a contender, and expectations are
-- rounded hand by hand
pub record SumAllIns (hands : List HandAudit) (player : Player) : Type 0 where
  pub count : (sums_over hands player).all_ins ≡ sum_by (λ hand. of_all_in one_all_in hand player) hands
  pub collected : (sums_over hands player).collected ≡ sum_by (λ hand. of_all_in got_in_all_in hand player) hands
  pub expected : (sums_over hands player).expected ≡ sum_by (λ hand. of_all_in expected_in_all_in hand player) hands
