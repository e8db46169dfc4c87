use Rattle.std.proofs.Common.{◌≡◌, map, drop}
use Rattle.c_tree.specs.ItemTree.{field_tree}
use Rattle.c_types.specs.Broken.{least_from}
use Rattle.c_types.specs.Tables.{field_names}
use Rattle.c_types.specs.Declarations.{fields_broken}
use Rattle.c_types.specs.Views.{tables_in}
use Rattle.c_types.proofs.declarations.fields.Given as goal

abbrev pub invariant-loop-field : goal.invariant-loop-field
invariant-loop-field l = record {
  at_index : l.at ≡ l.field-index;
  told_so : least_from l.least (fields_broken (tables_in l.program) (field_names l.layout) l.at
      (map field_tree (drop l.field-index l.fields))) ≡ least_from l.initial.least
      (fields_broken (tables_in l.program) (field_names l.layout) 0 (map field_tree l.fields));
}
