use Rattle.std.proofs.Common.{◌≡◌, ◌++◌, map, drop}
use Rattle.c_types.specs.Shapes.{struct_shape, numbered}
use Rattle.c_types.proofs.shapes.struct_shapes.Given as goal

abbrev pub invariant-loop-layout : goal.invariant-loop-layout
invariant-loop-layout l = record {
  at_index : l.at ≡ l.layout-index;
  left : l.shapes ++ map struct_shape (numbered l.root l.at (drop l.layout-index l.structs))
      ≡ map struct_shape (numbered l.root 0 l.structs);
}
