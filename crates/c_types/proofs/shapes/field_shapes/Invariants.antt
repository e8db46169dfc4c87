use Rattle.std.proofs.Common.{◌≡◌, ◌++◌, map, drop}
use Rattle.c_tree.specs.ItemTree.{field_tree}
use Rattle.c_types.specs.Shapes.{field_shape}
use Rattle.c_types.proofs.shapes.field_shapes.Given as goal

abbrev pub invariant-loop-field : goal.invariant-loop-field
invariant-loop-field l = l.shapes ++ map field_shape (map field_tree (drop l.field-index l.fields))
    ≡ map field_shape (map field_tree l.fields)
