use Rattle.call_rows.proofs.rows.settling.first_count.Given as goal

abbrev pub ghosts-first_settled : goal.ghosts-first_settled
ghosts-first_settled a = record { name = a.blank.name; parts = a.blank.parts }
