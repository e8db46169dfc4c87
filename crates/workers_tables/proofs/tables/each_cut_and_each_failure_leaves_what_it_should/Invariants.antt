use Rattle.workers_tables.proofs.tables.each_cut_and_each_failure_leaves_what_it_should.Given as
    goal

abbrev pub ghosts-wrong_runs : goal.ghosts-wrong_runs
ghosts-wrong_runs g a = record { name = a.blank.name; parts = a.blank.parts }
