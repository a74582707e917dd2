use Rattle.showdown_tally.specs.Deals.{deal_of}
use Rattle.worker_seats.proofs.workers.count_with_kept.Given as goal

abbrev pub ghosts-count_among-N-Naming : goal.ghosts-count_among-N-Naming
ghosts-count_among-N-Naming g a = record { deal = deal_of a.job.now.table; all = a.blank.parts }

abbrev pub ghosts-count_among-N-Ledger : goal.ghosts-count_among-N-Ledger
ghosts-count_among-N-Ledger g a = record { name = a.blank.name; parts = a.blank.parts }
