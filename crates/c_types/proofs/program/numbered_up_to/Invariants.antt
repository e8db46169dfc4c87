use Rattle.std.proofs.Common.{◌≡◌, ◌+◌, ◌≤◌, drop}
use Rattle.c_types.specs.Tables as tables
use Rattle.c_types.proofs.program.numbered_up_to.Given as goal

abbrev pub invariant-loop-layout : goal.invariant-loop-layout
invariant-loop-layout l = record {
  at_index : l.at ≡ l.layout-index;
  few : l.number ≤ l.layout-index;
  left : l.number + tables.numbered_up_to l.root l.place l.at (drop l.layout-index l.structs)
      ≡ tables.numbered_up_to l.root l.place 0 l.structs;
}
