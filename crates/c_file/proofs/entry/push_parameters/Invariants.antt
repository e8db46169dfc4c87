use Rattle.std.proofs.Common.{◌≡◌, ◌++◌, drop}
use Rattle.c_file.specs.Pieces.{parameters_from}
use Rattle.c_file.proofs.entry.push_parameters.Given as goal

abbrev pub invariant-loop-place : goal.invariant-loop-place
invariant-loop-place l =
    l.text ++ parameters_from l.place (drop l.place l.types)
    ≡ l.initial.text ++ parameters_from 0 l.types
