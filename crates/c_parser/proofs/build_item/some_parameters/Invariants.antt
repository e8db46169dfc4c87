use Rattle.std.proofs.Common.{◌+◌, ◌-◌, ◌≤◌, length, map}
use Rattle.c_tree.specs.ItemTree.{parameter_of}
use Rattle.c_parser.specs.inside.Fixes.{DerivesFrom}
use Rattle.c_parser.specs.inside.Pieces.{ParametersTo}
use Rattle.c_parser.proofs.FixesItem.{ParametersFrom}
use Rattle.c_parser.proofs.build_item.some_parameters.Given as goal

abbrev pub invariant-others : goal.invariant-others
invariant-others l = record {
  stays : l.at ≤ l.place;
  leads : DerivesFrom (ParametersTo l.tokens.tokens l.at)
      (ParametersFrom l.tokens.tokens l.place (map parameter_of l.all.items));
}

abbrev pub decreases-others : goal.decreases-others
decreases-others l = length l.tokens.tokens + 1 - l.place
