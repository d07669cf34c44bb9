use Rattle.pl_join_tests.proofs.tables.a_table_has_each_row_once_and_in_order.Given as goal

abbrev pub ghosts-is_given : goal.ghosts-is_given
ghosts-is_given g a = record { name = a.blank.name; parts = a.blank.parts }
