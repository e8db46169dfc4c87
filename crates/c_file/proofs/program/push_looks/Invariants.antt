use Rattle.std.proofs.Common.{◌≡◌, ◌++◌, drop, flat_map}
use Rattle.c_file.specs.Program.{looks_item}
use Rattle.c_file.proofs.program.push_looks.Given as goal

abbrev pub invariant-loop-entry : goal.invariant-loop-entry
invariant-loop-entry l =
    l.text ++ flat_map looks_item (drop l.entry-index l.entries)
    ≡ l.initial.text ++ flat_map looks_item l.entries
