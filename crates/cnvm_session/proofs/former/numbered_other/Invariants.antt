use Rattle.std.proofs.Common.{◌≡◌}
use Rattle.c_types.specs.Shapes.{numbered_from, numbered_in}
use Rattle.c_types.specs.Views.{tables_in}
use Rattle.cnvm_session.specs.Former as former_is
use Rattle.cnvm_session.proofs.former.numbered_other.Given as goal

-- the first other struct is that of the structs that are left
abbrev pub invariant-loop-layout : goal.invariant-loop-layout
invariant-loop-layout l = record {
  place_index : l.place ≡ l.layout-index;
  left : former_is.numbered_other l.room (numbered_from l.layout-index (tables_in l.former))
      (numbered_from l.next (tables_in l.new))
      ≡ former_is.numbered_other l.room (numbered_in (tables_in l.former))
      (numbered_in (tables_in l.new));
}
