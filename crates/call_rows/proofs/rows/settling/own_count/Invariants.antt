use Rattle.call_rows.proofs.rows.settling.own_count.Given as goal

abbrev pub ghosts-all_settled : goal.ghosts-all_settled
ghosts-all_settled a = record { name = a.blank.name; parts = a.blank.parts }
