use Rattle.call_rows.proofs.rows.streets.fault_in.Given as goal

abbrev pub ghosts-summed : goal.ghosts-summed
ghosts-summed a = record { name = a.blank.name; parts = a.blank.parts }
