use Rattle.showdown_tally.specs.Deals.{deal_of}
use Rattle.run_rows.proofs.book.posted_twice.Given as goal

abbrev pub ghosts-post_twice-N-Naming : goal.ghosts-post_twice-N-Naming
ghosts-post_twice-N-Naming a = record { deal = deal_of a.job.now.table; all = a.blank.parts }

abbrev pub ghosts-post_twice-N-Ledger : goal.ghosts-post_twice-N-Ledger
ghosts-post_twice-N-Ledger a = record { name = a.blank.name; parts = a.blank.parts }
