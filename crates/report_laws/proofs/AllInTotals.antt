-- The figures of all-ins in the totals are sums over the counted all-ins of a player.
use Rattle.std.proofs.Common.{◌≡◌, ℕ, Bool, true, false, cond, List, Option, Some, None, refl}
use Rattle.std.specs.Bool.{beq}
use Rattle.std.specs.List.{sum_by}
use Rattle.std.specs.Option.{option_map_or}
use Rattle.even_luck.specs.Figures.{is_counted}
use Rattle.even_luck.specs.Seats.{hand_at}
use Rattle.hand_events.specs.Names.{seat_named}
use Rattle.hand_verdict.specs.declared.settlement.Settlement.{Settlement}
use Rattle.hand_verdict.specs.declared.verdicts.AllIn.{AllIn}
use Rattle.hand_verdict.specs.declared.verdicts.AllIn.TheVariants.{None as NoAllIn, Unknown, Known}
use Rattle.hand_verdict.specs.declared.verdicts.HandAudit.{HandAudit}
use Rattle.hand_verdict.specs.declared.verdicts.HandAudit.TheVariants.{Rejected, Accepted}
use Rattle.player_totals.specs.Totals.{Player, hand_all_in, hand_alone, known_sums, no_sums, playing, seat_sums, sums_in}
use Rattle.player_totals.specs.declared.player_sums.PlayerSums.{PlayerSums}
use Rattle.report_laws.specs.TotalLaws.{SumAllIns, of_all_in, of_contender}
use Rattle.showdown_tally.specs.Deals.{deal_of}
use Rattle.showdown_tally.specs.Showdown.{Showdown}

-- a figure of a counted all-in
abbrev of_hand : (PlayerSums → ℕ) → Settlement → Showdown → ℕ → ℕ → ℕ
of_hand figure s deal seat hand = figure (hand_all_in s deal seat hand)

known_figure : (figure : PlayerSums → ℕ) → figure hand_alone ≡ 0 → (s : Settlement) (seats : List ℕ) (deal : Showdown) (seat : ℕ) →
    figure (known_sums s seats deal seat) ≡ cond (is_counted deal) (option_map_or (of_hand figure s deal seat) (hand_at seats deal seat) 0) 0
unfolding known_sums
known_figure figure alone s seats deal seat = by (is_counted deal) (hand_at seats deal seat)
  where
    by : (b : Bool) (found : Option ℕ) → figure (option_map_or (hand_all_in s deal seat) (cond b found None) hand_alone) ≡ cond b (option_map_or (of_hand figure s deal seat) found 0) 0
    by true (Some hand) = refl
    by true None = alone
    by false found = alone

seat_figure : (figure : PlayerSums → ℕ) → figure hand_alone ≡ 0 → (s : Settlement) (all_in : AllIn) (seat : ℕ) → figure (seat_sums s all_in seat) ≡ of_contender (of_hand figure) s all_in seat
seat_figure figure alone s NoAllIn seat = alone
seat_figure figure alone s Unknown seat = alone
seat_figure figure alone s (Known street seats table) seat = known_figure figure alone s seats (deal_of table) seat

hand_figure : (figure : PlayerSums → ℕ) → figure no_sums ≡ 0 → figure hand_alone ≡ 0 → (hand : HandAudit) (player : Player) → figure (sums_in hand player) ≡ of_all_in (of_hand figure) hand player
hand_figure figure none alone (Rejected line cause unit) player = none
hand_figure figure none alone (Accepted s all_in names players) player = by (beq player.hundredths s.hundredths) (seat_named player.name (playing names players))
  where
    by : (b : Bool) (found : Option ℕ) → figure (cond b (option_map_or (seat_sums s all_in) found no_sums) no_sums) ≡ cond b (option_map_or (of_contender (of_hand figure) s all_in) found 0) 0
    by true (Some seat) = seat_figure figure alone s all_in seat
    by true None = none
    by false found = none

pub sum_all_ins : (hands : List HandAudit) (player : Player) → SumAllIns hands player
sum_all_ins hands player = record {
  count = λ i. sum_by (λ hand. hand_figure (λ sums. sums.all_ins) refl refl hand player i) hands;
  collected = λ i. sum_by (λ hand. hand_figure (λ sums. sums.collected) refl refl hand player i) hands;
  expected = λ i. sum_by (λ hand. hand_figure (λ sums. sums.expected) refl refl hand player i) hands;
}
