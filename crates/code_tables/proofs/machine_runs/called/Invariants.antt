use Rattle.code_tables.proofs.machine_runs.called.Given as goal

abbrev pub ghosts-called_from : goal.ghosts-called_from
ghosts-called_from a = record { name = a.blank.name; parts = a.blank.parts }
