use Rattle.std.proofs.Common.{◌≡◌, ◌++◌, drop}
use Rattle.c_file.specs.Program.{cases_from}
use Rattle.c_file.proofs.program.push_cases.Given as goal

abbrev pub invariant-loop-place : goal.invariant-loop-place
invariant-loop-place l =
    l.text ++ cases_from l.place (drop l.place l.entries) ≡ l.initial.text ++ cases_from 0 l.entries
