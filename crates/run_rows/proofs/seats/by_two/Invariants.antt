use Rattle.showdown_tally.specs.Deals.{deal_of}
use Rattle.run_rows.proofs.seats.by_two.Given as goal

abbrev pub ghosts-worked-N-Naming : goal.ghosts-worked-N-Naming
ghosts-worked-N-Naming g a = record { deal = deal_of a.job.now.table; all = a.blank.parts }

abbrev pub ghosts-worked-N-Ledger : goal.ghosts-worked-N-Ledger
ghosts-worked-N-Ledger g a = record { name = a.blank.name; parts = a.blank.parts }
