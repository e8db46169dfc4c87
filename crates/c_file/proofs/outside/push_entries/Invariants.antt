use Rattle.std.proofs.Common.{◌≡◌, ◌++◌, drop}
use Rattle.c_file.specs.File.{defined_from}
use Rattle.c_file.proofs.outside.push_entries.Given as goal

abbrev pub invariant-loop-place : goal.invariant-loop-place
invariant-loop-place l =
    l.text ++ defined_from l.prefix l.place (drop l.place l.entries)
    ≡ l.initial.text ++ defined_from l.prefix 0 l.entries
