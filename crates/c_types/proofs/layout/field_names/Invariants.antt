use Rattle.std.proofs.Common.{◌≡◌, ◌++◌, map, drop}
use Rattle.c_tree.specs.ItemTree.{FieldTree, field_tree}
use Rattle.c_types.proofs.layout.field_names.Given as goal

abbrev pub invariant-loop-field : goal.invariant-loop-field
invariant-loop-field l = l.names ++ map (λ (f : FieldTree). f.name.text)
    (map field_tree (drop l.field-index l.fields)) ≡ map (λ (f : FieldTree). f.name.text)
    (map field_tree l.fields)
