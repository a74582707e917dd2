use Rattle.report_laws.proofs.SettleFacts.{settles_up}
use Rattle.report_laws.proofs.settle_laws.law_settle_lines_add_up.Goals as goal

pub returns : goal.returns
returns c = record {
  accepted = λ number line lines header read settlement all_in names players is fit. settles_up settlement players (c.law_players_are_due_what_they_got.ensures.accepted number line lines header read settlement all_in names players is fit);
  split = λ number lines audit split is some. settles_up split.settlement split.players (c.law_players_are_due_what_they_got.ensures.split number lines audit split is some).players;
}
