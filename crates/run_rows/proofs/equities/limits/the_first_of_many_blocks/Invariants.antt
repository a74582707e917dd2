use Rattle.run_rows.proofs.equities.limits.the_first_of_many_blocks.Given as goal

abbrev pub ghosts-first_block : goal.ghosts-first_block
ghosts-first_block g a = record { name = a.blank.name; parts = a.blank.parts }
