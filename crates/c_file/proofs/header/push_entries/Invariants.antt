use Rattle.std.proofs.Common.{◌≡◌, ◌++◌, drop, flat_map}
use Rattle.c_file.specs.Header.{entry_declared}
use Rattle.c_file.proofs.header.push_entries.Given as goal

abbrev pub invariant-loop-entry : goal.invariant-loop-entry
invariant-loop-entry l =
    l.text ++ flat_map (entry_declared l.prefix) (drop l.entry-index l.entries)
    ≡ l.initial.text ++ flat_map (entry_declared l.prefix) l.entries
