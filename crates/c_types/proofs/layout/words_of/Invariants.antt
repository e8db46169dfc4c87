use Rattle.std.proofs.Common.{◌≡◌, ◌+◌, ◌-◌, ◌^◌, ◌≤◌, map, drop, min}
use Rattle.c_tree.specs.ItemTree.{field_tree}
use Rattle.c_types.specs.Tables.{words_from}
use Rattle.c_types.proofs.layout.words_of.Given as goal

abbrev pub invariant-loop-field : goal.invariant-loop-field
invariant-loop-field l = record {
  at_index : l.at ≡ l.field-index;
  fits : l.words ≤ 2 ^ 64 - 1;
  left : min (l.words + words_from l.names l.at (map field_tree (drop l.field-index l.fields)))
      (2 ^ 64 - 1) ≡ min (words_from l.names 0 (map field_tree l.fields)) (2 ^ 64 - 1);
}
