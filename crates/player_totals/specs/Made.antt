-- What the hands of a run with two seats come to: how many of them are accepted, how many runouts their counted all-ins have, and
-- what these give seats 1 and 2, in 1/5040 of a pot.
use Rattle.std.specs.Prelude.{ℕ, false, if◌then◌else◌, List, [], ◌∷◌, ◌++◌, length, count_by, codes, decimal}
use Rattle.std.specs.List.{sum_by}
use Rattle.std.specs.Option.{option_map_or}
use Rattle.hand_verdict.specs.declared.verdicts.AllIn.{AllIn}
use Rattle.hand_verdict.specs.declared.verdicts.AllIn.TheVariants.{None as NoAllIn, Unknown, Known}
use Rattle.hand_verdict.specs.declared.verdicts.HandAudit.{HandAudit}
use Rattle.hand_verdict.specs.declared.verdicts.HandAudit.TheVariants.{Rejected, Accepted}
use Rattle.showdown_tally.specs.Deals.{deal_of}
use Rattle.showdown_tally.specs.Showdown.{Showdown}
use Rattle.even_luck.specs.Figures.{Figures, every_pot, full_figures, is_counted}
use Rattle.report_sheet.specs.Lines.{Line, plain, line_in}
use Rattle.even_luck.specs.Seats.{hand_at}
use Rattle.player_totals.specs.Totals.{is_accepted}
use Rattle.report_sheet.specs.Numbers.{money}
use Rattle.report_sheet.specs.declared.form.Form.{Form}
use Rattle.player_totals.specs.declared.made_sums.AllInSums.{AllInSums}

-- the units of a hand in the pots below a number, over all runouts
abbrev pub hand_units : Figures → ℕ → ℕ → ℕ
hand_units figures count hand = sum_by (λ k. figures.units k hand) (every_pot count)

-- the units of the hand of a seat in all pots, over all runouts; a seat without a hand of the table has none
abbrev pub seat_units : Figures → Showdown → List ℕ → ℕ → ℕ
seat_units figures deal seats seat =
    option_map_or (hand_units figures (length deal.pots)) (hand_at seats deal seat) 0

-- a hand without a counted all-in
abbrev pub no_all_in : AllInSums
no_all_in = record { runouts = 0; first = 0; second = 0 }

-- a hand with a counted all-in: how many runouts it has, and what they give seats 1 and 2
abbrev pub counted_all_in : Figures → Showdown → List ℕ → AllInSums
counted_all_in figures deal seats =
    record {
      runouts = figures.all;
      first = seat_units figures deal seats 1;
      second = seat_units figures deal seats 2;
    }

-- a hand with a known all-in
unfoldable pub known_all_in : List ℕ → Showdown → AllInSums
known_all_in seats deal =
    if is_counted deal then counted_all_in (full_figures deal) deal seats else no_all_in

abbrev pub all_in_sums : AllIn → AllInSums
all_in_sums NoAllIn = no_all_in
all_in_sums Unknown = no_all_in
all_in_sums (Known street seats table) = known_all_in seats (deal_of table)

-- what a hand gives; one with a line that departs gives nothing
abbrev pub sums_in : HandAudit → AllInSums
sums_in (Rejected line cause hundredths) = no_all_in
sums_in (Accepted settlement all_in names players) = all_in_sums all_in

-- what some hands give together
abbrev pub sums_over : List HandAudit → AllInSums
sums_over hands = record {
  runouts = sum_by (λ hand. (sums_in hand).runouts) hands;
  first = sum_by (λ hand. (sums_in hand).first) hands;
  second = sum_by (λ hand. (sums_in hand).second) hands;
}

-- what some hands come to
pub record MadeTotals : Type 0 where
  pub hands : ℕ
  pub accepted : ℕ
  pub all_ins : AllInSums

abbrev pub made_sums : List HandAudit → MadeTotals
made_sums hands = record {
  hands = length hands;
  accepted = count_by is_accepted hands;
  all_ins = sums_over hands;
}

-- the first words of the line of a number of hands that were made, as `made hands 100 accepted 100`
unfoldable pub made_title : ℕ → ℕ → List (List ℕ)
made_title hands accepted =
    codes "made" ∷ codes "hands" ∷ decimal hands ∷ codes "accepted" ∷ decimal accepted ∷ []

-- what stands after them, as `runouts 99000 first 249480000 second 249480000`
unfoldable pub made_columns : AllInSums → List (List ℕ)
made_columns sums =
    codes "runouts" ∷ money false sums.runouts ∷ codes "first" ∷ money false sums.first
    ∷ codes "second" ∷ money false sums.second ∷ []

-- the line of a number of hands that were made
unfoldable pub made_line : ℕ → ℕ → AllInSums → Line
made_line hands accepted sums = plain (made_title hands accepted ++ made_columns sums)

-- the block of a number of hands that were made, by the verdicts on them
abbrev pub made_block : Form → ℕ → List HandAudit → List ℕ
made_block form hands audits =
    line_in form (made_line hands (made_sums audits).accepted (made_sums audits).all_ins)
