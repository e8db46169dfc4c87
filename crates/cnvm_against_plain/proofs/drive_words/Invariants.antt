use Rattle.cnvm_against_plain.proofs.drive_words.Given as goal

abbrev pub ghosts-drive_all : goal.ghosts-drive_all
ghosts-drive_all g a = record { name = a.blank.name; parts = a.blank.parts }
