use Rattle.run_rows.proofs.equities.counts.is_job_counted_alike.Given as goal

abbrev pub ghosts-in_one_walk : goal.ghosts-in_one_walk
ghosts-in_one_walk a = record { name = a.blank.name; parts = a.blank.parts }
