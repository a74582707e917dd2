-- What all hands of a run come to: how many there are, and for each name in each unit in how many of them it plays, in how many
-- it is in a counted all-in, and what it collected and could expect in those.
use Rattle.std.specs.Prelude.{ℕ, ◌+◌, ◌==◌, ◌&&◌, not, Bool, true, false, if◌then◌else◌, List, [], ◌∷◌, ◌++◌, length, map, filter, count_by, codes, decimal, None}
use Rattle.std.specs.Bool.{beq}
use Rattle.std.specs.Int.{bit_at}
use Rattle.std.specs.List.{flat_map, sum_by}
use Rattle.std.specs.Option.{option_map_or}
use Rattle.std.specs.Str.{bytes_eq}
use Rattle.hand_verdict.specs.declared.verdicts.AllIn.{AllIn}
use Rattle.hand_verdict.specs.declared.verdicts.AllIn.TheVariants.{None as NoAllIn, Unknown, Known}
use Rattle.hand_verdict.specs.declared.verdicts.HandAudit.{HandAudit}
use Rattle.hand_verdict.specs.declared.verdicts.HandAudit.TheVariants.{Rejected, Accepted}
use Rattle.hand_verdict.specs.declared.settlement.Settlement.{Settlement}
use Rattle.hand_verdict.specs.SeatSums.{got_by}
use Rattle.hand_events.specs.Names.{seat_named}
use Rattle.showdown_tally.specs.Deals.{deal_of}
use Rattle.showdown_tally.specs.Showdown.{Showdown}
use Rattle.even_luck.specs.Figures.{every_pot}
use Rattle.even_luck.specs.Seats.{Seated}
use Rattle.report_sheet.specs.Lines.{Line, plain, named, line_in}
use Rattle.report_sheet.specs.Numbers.{money}
use Rattle.report_sheet.specs.declared.form.Form.{Form}
use Rattle.player_totals.specs.declared.player_sums.PlayerSums.{PlayerSums}
-- what a seat has of a hand and of its all-in
pub use Rattle.even_luck.specs.Figures.{expected_by, is_counted, paid_from}
pub use Rattle.even_luck.specs.Seats.{hand_at}

-- a name, and the unit of the hands that it is summed over: hundredths, or else chips
pub record Player : Type 0 where
  pub hundredths : Bool
  pub name : List ℕ

abbrev pub same_player : Player → Player → Bool
same_player a b = beq a.hundredths b.hundredths && bytes_eq a.name b.name

-- the seats of a hand that play, with their names, in the order of their seat lines
abbrev pub playing : Seated → ℕ → Seated
playing names players = filter (λ who. bit_at players who.0 == 1) names

-- the players of a hand, in that order; a hand with a line that departs has none
abbrev pub players_in : HandAudit → List Player
players_in (Rejected line cause hundredths) = []
players_in (Accepted s all_in names players) =
    map (λ who. record { hundredths = s.hundredths; name = who.1 }) (playing names players)

-- each of some players once, where it first stands
abbrev pub each_once : List Player → List Player
each_once [] = []
each_once (player ∷ later) =
    player ∷ filter (λ other. not (same_player player other)) (each_once later)

-- all players of some hands, in the order of their first seat lines
abbrev pub all_players : List HandAudit → List Player
all_players hands = each_once (flat_map players_in hands)

-- what a seat collected of a hand with this number of pots: out of each of them, and by the payments of the hand, which there are where
-- the names of the collections don't fit the pots
abbrev pub collected_by : Settlement → ℕ → ℕ → ℕ
collected_by s count seat =
    sum_by (λ k. got_by (paid_from s.pots k) seat) (every_pot count) + got_by s.paid seat

-- what a hand, or several, give a player
abbrev pub no_sums : PlayerSums
no_sums = record { hands = 0; all_ins = 0; collected = 0; expected = 0 }

-- a hand that he plays, without a counted all-in of his
abbrev pub hand_alone : PlayerSums
hand_alone = record { hands = 1; all_ins = 0; collected = 0; expected = 0 }

-- a hand with a counted all-in in which he has a hand of the table; the table has all pots of the hand
abbrev pub hand_all_in : Settlement → Showdown → ℕ → ℕ → PlayerSums
hand_all_in s deal seat hand =
    record {
      hands = 1;
      all_ins = 1;
      collected = collected_by s (length deal.pots) seat;
      expected = expected_by s deal hand;
    }

-- a hand with a known all-in
unfoldable pub known_sums : Settlement → List ℕ → Showdown → ℕ → PlayerSums
known_sums s seats deal seat =
    option_map_or (hand_all_in s deal seat)
    (if is_counted deal then hand_at seats deal seat else None) hand_alone

-- what a hand in which no line departs gives a seat that plays
abbrev pub seat_sums : Settlement → AllIn → ℕ → PlayerSums
seat_sums s NoAllIn seat = hand_alone
seat_sums s Unknown seat = hand_alone
seat_sums s (Known street seats table) seat = known_sums s seats (deal_of table) seat

-- what it gives a player who has one of these seats, and nothing where he has none
abbrev pub seated_sums : Settlement → AllIn → Seated → Player → PlayerSums
seated_sums s all_in seated player =
    if beq player.hundredths s.hundredths
    then option_map_or (seat_sums s all_in) (seat_named player.name seated) no_sums else no_sums

-- what a hand gives a player: nothing where he isn't one of its players
abbrev pub sums_in : HandAudit → Player → PlayerSums
sums_in (Rejected line cause hundredths) player = no_sums
sums_in (Accepted s all_in names players) player =
    seated_sums s all_in (playing names players) player

-- what some hands give a player
abbrev pub sums_over : List HandAudit → Player → PlayerSums
sums_over hands player = record {
  hands = sum_by (λ hand. (sums_in hand player).hands) hands;
  all_ins = sum_by (λ hand. (sums_in hand player).all_ins) hands;
  collected = sum_by (λ hand. (sums_in hand player).collected) hands;
  expected = sum_by (λ hand. (sums_in hand player).expected) hands;
}

abbrev pub is_accepted : HandAudit → Bool
is_accepted (Rejected line cause hundredths) = false
is_accepted (Accepted settlement all_in names players) = true

-- what a run comes to: how many hands there are, how many of them are accepted and rejected, and the players with their sums
pub record RunTotals : Type 0 where
  pub hands : ℕ
  pub accepted : ℕ
  pub rejected : ℕ
  pub players : List (Player × PlayerSums)

-- what some hands come to
abbrev pub totals_of : List HandAudit → RunTotals
totals_of hands = record {
  hands = length hands;
  accepted = count_by is_accepted hands;
  rejected = count_by (λ hand. not (is_accepted hand)) hands;
  players = map (λ player. (player, sums_over hands player)) (all_players hands);
}

abbrev pub unit_word : Bool → List ℕ
unit_word hundredths = if hundredths then codes "hundredths" else codes "chips"

-- the first line, as `totals hands 3 accepted 2 rejected 1`
unfoldable pub hands_line : List ℕ → ℕ → ℕ → ℕ → Line
hands_line word hands accepted rejected =
    plain (word ∷ codes "hands" ∷ decimal hands ∷ codes "accepted" ∷ decimal accepted
    ∷ codes "rejected" ∷ decimal rejected ∷ [])

-- the first words of the line of a player, as `total chips hands 1 allins 1`
unfoldable pub total_title : Bool → PlayerSums → List (List ℕ)
total_title hundredths sums =
    codes "total" ∷ unit_word hundredths ∷ codes "hands" ∷ decimal sums.hands ∷ codes "allins"
    ∷ decimal sums.all_ins ∷ []

-- the line of a player, as `total chips hands 1 allins 1 collected 3500 expected 2214 a`
unfoldable pub total_line : Player → PlayerSums → Line
total_line player sums =
    named (total_title player.hundredths sums
    ++ codes "collected" ∷ money player.hundredths sums.collected
    ∷ codes "expected" ∷ money player.hundredths sums.expected ∷ []) player.name

-- the lines of some players
abbrev pub player_lines : Form → List (Player × PlayerSums) → List ℕ
player_lines form players = flat_map (λ entry. line_in form (total_line entry.0 entry.1)) players

-- what a run comes to, as the report has it
unfoldable pub run_block : Form → RunTotals → List ℕ
run_block form t =
    line_in form (hands_line (codes "totals") t.hands t.accepted t.rejected) ++ player_lines form t.players

-- the totals of some hands, as the report has them
abbrev pub totals_block : Form → List HandAudit → List ℕ
totals_block form hands = run_block form (totals_of hands)
