use Rattle.std.proofs.Common.{◌+◌, ◌*◌, ◌-◌, ◌≤◌, length}
use Rattle.c_tree.specs.ExprTree.{expr_of, arguments_in}
use Rattle.c_tree.specs.Spelling.{Level, Chain, SpellsArguments}
use Rattle.c_parser.specs.inside.Fixes.{DerivesFrom, IsFollowed, Over}
use Rattle.c_parser.proofs.FixesExpr.{MoreFrom}
use Rattle.c_parser.proofs.build_expr.+expressions.Given as goal

-- the number of tokens left to read, and a rank among the functions that call another before they
-- read
abbrev pub decreases-expression : goal.decreases-expression
decreases-expression l = 16 * (length l.tokens.now.tokens + 2 - l.at) + 14

abbrev pub decreases-sides : goal.decreases-sides
decreases-sides l = 16 * (length l.tokens.now.tokens + 2 - l.at)

abbrev pub decreases-binary : goal.decreases-binary
decreases-binary l = 16 * (length l.tokens.now.tokens + 2 - l.at) + l.level + 3

abbrev pub decreases-unary : goal.decreases-unary
decreases-unary l = 16 * (length l.tokens.now.tokens + 2 - l.at) + 2

abbrev pub decreases-cast : goal.decreases-cast
decreases-cast l = 16 * (length l.tokens.now.tokens + 2 - l.at)

abbrev pub decreases-postfix : goal.decreases-postfix
decreases-postfix l = 16 * (length l.tokens.now.tokens + 2 - l.at) + 1

abbrev pub decreases-parts : goal.decreases-parts
decreases-parts l = 16 * (length l.tokens.now.tokens + 2 - l.at)

abbrev pub decreases-primary : goal.decreases-primary
decreases-primary l = 16 * (length l.tokens.now.tokens + 2 - l.at)

abbrev pub decreases-arguments : goal.decreases-arguments
decreases-arguments l = 16 * (length l.tokens.now.tokens + 2 - l.at) + 15

abbrev pub invariant-binary-loop-op : goal.invariant-binary-loop-op
invariant-binary-loop-op l = record {
  stays : l.at ≤ l.place;
  leads : DerivesFrom (IsFollowed l.tokens.tokens (Over l.level)
      (Level l.tokens.tokens l.level l.at))
      (IsFollowed l.tokens.tokens (Over l.level)
      (λ k t. Chain l.tokens.tokens (l.level - 1) l.place k (expr_of l.left) t));
}

abbrev pub decreases-binary-loop-op : goal.decreases-binary-loop-op
decreases-binary-loop-op l = length l.tokens.tokens + 1 - l.place

abbrev pub invariant-arguments-others : goal.invariant-arguments-others
invariant-arguments-others l = record {
  stays : l.at ≤ l.place;
  leads : DerivesFrom (SpellsArguments l.tokens.tokens l.at)
      (MoreFrom l.tokens.tokens l.place (arguments_in l.all.items));
}

abbrev pub decreases-arguments-others : goal.decreases-arguments-others
decreases-arguments-others l = length l.tokens.tokens + 1 - l.place
