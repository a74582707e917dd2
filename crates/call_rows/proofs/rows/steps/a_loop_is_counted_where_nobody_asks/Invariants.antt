use Rattle.call_rows.proofs.rows.steps.a_loop_is_counted_where_nobody_asks.Given as goal

abbrev pub ghosts-greatest_counted : goal.ghosts-greatest_counted
ghosts-greatest_counted g a = record { name = a.blank.name; parts = a.blank.parts }
