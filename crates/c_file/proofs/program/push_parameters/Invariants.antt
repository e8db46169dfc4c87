use Rattle.std.proofs.Common.{◌≡◌, ◌++◌, drop, flat_map}
use Rattle.c_file.specs.Program.{parameters_item}
use Rattle.c_file.proofs.program.push_parameters.Given as goal

abbrev pub invariant-loop-entry : goal.invariant-loop-entry
invariant-loop-entry l =
    l.text ++ flat_map parameters_item (drop l.entry-index l.entries)
    ≡ l.initial.text ++ flat_map parameters_item l.entries
