use Rattle.cnvm_tables.proofs.bytes.each_port_may_fail.Given as goal

abbrev pub ghosts-both : goal.ghosts-both
ghosts-both g a = record { name = a.blank.name; parts = a.blank.parts }
