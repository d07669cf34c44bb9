use Rattle.pl_top_tests.proofs.failing.a_sink_that_takes_everything_will_do.Given as goal

abbrev pub ghosts-status_over_a_sure_sink : goal.ghosts-status_over_a_sure_sink
ghosts-status_over_a_sure_sink g a = record { name = a.blank.name; parts = a.blank.parts }
