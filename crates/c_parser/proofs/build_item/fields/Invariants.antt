use Rattle.std.proofs.Common.{◌+◌, ◌-◌, ◌≤◌, length, map}
use Rattle.c_tree.specs.declared.kind.Kind.TheVariants as kind
use Rattle.c_tree.specs.ItemTree.{field_tree}
use Rattle.c_tree.specs.ItemSpelling.{SpellsFields}
use Rattle.c_parser.specs.inside.Fixes.{DerivesFrom, IsFollowed, IsOfKind}
use Rattle.c_parser.proofs.FixesItem.{FieldsFrom}
use Rattle.c_parser.proofs.build_item.fields.Given as goal

abbrev pub invariant-each : goal.invariant-each
invariant-each l = record {
  stays : l.at ≤ l.place;
  leads : DerivesFrom (IsFollowed l.tokens.tokens (IsOfKind kind.CloseBrace)
      (SpellsFields l.tokens.tokens l.at))
      (FieldsFrom l.tokens.tokens l.place (map field_tree l.all.items));
}

abbrev pub decreases-each : goal.decreases-each
decreases-each l = length l.tokens.tokens + 1 - l.place
