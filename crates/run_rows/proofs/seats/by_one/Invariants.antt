use Rattle.showdown_tally.specs.Deals.{deal_of}
use Rattle.run_rows.proofs.seats.by_one.Given as goal

abbrev pub ghosts-counted_alone-N-Naming : goal.ghosts-counted_alone-N-Naming
ghosts-counted_alone-N-Naming a = record { deal = deal_of a.job.now.table; all = a.blank.parts }

abbrev pub ghosts-counted_alone-N-Ledger : goal.ghosts-counted_alone-N-Ledger
ghosts-counted_alone-N-Ledger a = record { name = a.blank.name; parts = a.blank.parts }
