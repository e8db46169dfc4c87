use Rattle.std.proofs.Common.{◌+◌, ◌-◌, length}
use Rattle.c_tree.specs.ItemTree.{items_in}
use Rattle.c_parser.specs.inside.Fixes.{DerivesFrom}
use Rattle.c_parser.proofs.FixesItem.{Whole, ItemsFrom}
use Rattle.c_parser.proofs.build_item.items.Given as goal

abbrev pub invariant-each : goal.invariant-each
invariant-each l = DerivesFrom (Whole l.tokens.tokens 0)
    (ItemsFrom l.tokens.tokens l.place (items_in l.all.items))

abbrev pub decreases-each : goal.decreases-each
decreases-each l = length l.tokens.tokens + 1 - l.place
