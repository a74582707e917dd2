use Rattle.equity_job.proofs.counting.count_job.Given as goal

abbrev pub ghosts-count_on : goal.ghosts-count_on
ghosts-count_on a = record { name = a.blank.name; parts = a.blank.parts }
