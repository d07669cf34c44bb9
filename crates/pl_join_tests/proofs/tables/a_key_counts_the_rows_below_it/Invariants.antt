use Rattle.pl_join_tests.proofs.tables.a_key_counts_the_rows_below_it.Given as goal

abbrev pub ghosts-pairs_below : goal.ghosts-pairs_below
ghosts-pairs_below g a = record { name = a.blank.name; parts = a.blank.parts }
