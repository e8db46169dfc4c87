use Rattle.cnvm_tables.proofs.devices.each_event_may_fail.Given as goal

abbrev pub ghosts-wrong_events : goal.ghosts-wrong_events
ghosts-wrong_events g a = record { name = a.blank.name; parts = a.blank.parts }
