use Rattle.showdown_tally.specs.Deals.{deal_of}
use Rattle.run_engine.proofs.alone.count_booked.Given as goal

abbrev pub ghosts-count_named-N-Naming : goal.ghosts-count_named-N-Naming
ghosts-count_named-N-Naming a = record { deal = deal_of a.job.now.table; all = a.blank.parts }

abbrev pub ghosts-count_named-N-Ledger : goal.ghosts-count_named-N-Ledger
ghosts-count_named-N-Ledger a = record { name = a.blank.name; parts = a.blank.parts }
