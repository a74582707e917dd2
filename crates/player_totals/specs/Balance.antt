-- What each name in each unit won and lost over the hands of a run: in how many hands it plays, what it got and put in, and what it
-- would have got with even luck.
use Rattle.std.specs.Prelude.{ℕ, Bool, not, if◌then◌else◌, List, [], ◌∷◌, ◌++◌, length, map, count_by, codes, decimal, is_some, unwrap_or}
use Rattle.std.specs.Bool.{beq}
use Rattle.std.specs.List.{flat_map, sum_by}
use Rattle.std.specs.Option.{option_map_or}
use Rattle.hand_verdict.specs.SeatSums.{chips_at, got_of}
use Rattle.hand_verdict.specs.declared.seat_chips.AuditedChips.{AuditedChips}
use Rattle.hand_verdict.specs.declared.seat_chips.SeatChips.{SeatChips}
use Rattle.hand_verdict.specs.declared.settlement.Settlement.{Settlement}
use Rattle.hand_verdict.specs.declared.verdicts.AllIn.{AllIn}
use Rattle.hand_verdict.specs.declared.verdicts.HandAudit.{HandAudit}
use Rattle.hand_verdict.specs.declared.verdicts.HandAudit.TheVariants.{Rejected, Accepted}
use Rattle.hand_events.specs.Names.{seat_named}
use Rattle.even_luck.specs.Seats.{Seated}
use Rattle.report_sheet.specs.Lines.{Line, named, line_in}
use Rattle.report_sheet.specs.Numbers.{difference, money}
use Rattle.even_luck.specs.EvenLuck.{even_of}
use Rattle.player_totals.specs.Totals.{Player, all_players, hands_line, is_accepted, playing, unit_word}
use Rattle.player_totals.specs.declared.balance_sums.BalanceSums.{BalanceSums}
use Rattle.report_sheet.specs.declared.form.Form.{Form}

-- what no hand gives a player
abbrev pub no_balance : BalanceSums
no_balance = record { hands = 0; got = 0; put = 0; even = 0; unknown = 0 }

-- what a hand in which no line departs gives a seat that plays. Where it isn't known what the seat would have got with even
-- luck, that is what it got, and the hand is one of the unknown
abbrev pub seat_balance : Settlement → AllIn → List SeatChips → ℕ → BalanceSums
seat_balance s all_in chips seat = record {
  hands = 1;
  got = got_of s seat;
  put = (chips_at chips seat).put;
  even = unwrap_or (even_of s all_in seat) (got_of s seat);
  unknown = if is_some (even_of s all_in seat) then 0 else 1;
}

-- what it gives a player who has one of these seats, and nothing where he has none
abbrev pub seated_balance : Settlement → AllIn → List SeatChips → Seated → Player → BalanceSums
seated_balance s all_in chips seated player =
    if beq player.hundredths s.hundredths
    then option_map_or (seat_balance s all_in chips) (seat_named player.name seated) no_balance
    else no_balance

-- what a hand with these chips gives a player: nothing where he isn't one of its players
abbrev pub balance_by : HandAudit → List SeatChips → Player → BalanceSums
balance_by (Rejected line cause hundredths) chips player = no_balance
balance_by (Accepted s all_in names players) chips player =
    seated_balance s all_in chips (playing names players) player

abbrev pub balance_in : AuditedChips → Player → BalanceSums
balance_in hand = balance_by hand.audit hand.chips

-- what some hands give a player
abbrev pub balance_over : List AuditedChips → Player → BalanceSums
balance_over hands player = record {
  hands = sum_by (λ hand. (balance_in hand player).hands) hands;
  got = sum_by (λ hand. (balance_in hand player).got) hands;
  put = sum_by (λ hand. (balance_in hand player).put) hands;
  even = sum_by (λ hand. (balance_in hand player).even) hands;
  unknown = sum_by (λ hand. (balance_in hand player).unknown) hands;
}

-- the verdicts on some hands
abbrev pub audits_of : List AuditedChips → List HandAudit
audits_of hands = map (λ hand. hand.audit) hands

-- what a run comes to: how many hands there are, how many of them are accepted and rejected, and the players with their sums
pub record RunBalance : Type 0 where
  pub hands : ℕ
  pub accepted : ℕ
  pub rejected : ℕ
  pub players : List (Player × BalanceSums)

-- what some hands come to; the players are those of the totals, in the same order
abbrev pub balance_of : List AuditedChips → RunBalance
balance_of hands = record {
  hands = length hands;
  accepted = count_by (λ hand. is_accepted hand.audit) hands;
  rejected = count_by (λ hand. not (is_accepted hand.audit)) hands;
  players = map (λ player. (player, balance_over hands player)) (all_players (audits_of hands));
}

-- the first words of the line of a player, as `balance chips hands 2 got 3500`
unfoldable pub balance_title : Bool → BalanceSums → List (List ℕ)
balance_title hundredths sums =
    codes "balance" ∷ unit_word hundredths ∷ codes "hands" ∷ decimal sums.hands ∷ codes "got"
    ∷ money hundredths sums.got ∷ []

-- what he netted, and would have with even luck, as `net -500 even 214 unknown 0`
unfoldable pub balance_nets : Bool → BalanceSums → List (List ℕ)
balance_nets hundredths sums =
    codes "net" ∷ difference hundredths sums.got sums.put ∷ codes "even"
    ∷ difference hundredths sums.even sums.put ∷ codes "unknown" ∷ decimal sums.unknown ∷ []

-- the line of a player, as `balance chips hands 2 got 3500 net -500 even 214 unknown 0 a`
unfoldable pub balance_line : Player → BalanceSums → Line
balance_line player sums =
    named (balance_title player.hundredths sums ++ balance_nets player.hundredths sums) player.name

-- what a run comes to, as the report has it; the first line is as `balance hands 3 accepted 2 rejected 1`
unfoldable pub balance_lines : Form → RunBalance → List ℕ
balance_lines form b =
    line_in form (hands_line (codes "balance") b.hands b.accepted b.rejected)
    ++ flat_map (λ entry. line_in form (balance_line entry.0 entry.1)) b.players

-- the balance of some hands, as the report has it
abbrev pub balance_block : Form → List AuditedChips → List ℕ
balance_block form hands = balance_lines form (balance_of hands)
