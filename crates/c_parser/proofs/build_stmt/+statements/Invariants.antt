use Rattle.std.proofs.Common.{◌+◌, ◌*◌, ◌-◌, ◌≤◌, length}
use Rattle.c_tree.specs.StmtTree.{statements_in}
use Rattle.c_parser.specs.inside.Fixes.{DerivesFrom}
use Rattle.c_parser.specs.inside.Pieces.{StatedAll}
use Rattle.c_parser.proofs.FixesStmt.{RestFrom}
use Rattle.c_parser.proofs.build_stmt.+statements.Given as goal

abbrev pub decreases-statement : goal.decreases-statement
decreases-statement l = 4 * (length l.tokens.now.tokens + 2 - l.at) + 0

abbrev pub decreases-body : goal.decreases-body
decreases-body l = 4 * (length l.tokens.now.tokens + 2 - l.at) + 1

abbrev pub decreases-choice : goal.decreases-choice
decreases-choice l = 4 * (length l.tokens.now.tokens + 2 - l.at) + 2

abbrev pub decreases-repeated : goal.decreases-repeated
decreases-repeated l = 4 * (length l.tokens.now.tokens + 2 - l.at) + 2

abbrev pub decreases-repeated_after : goal.decreases-repeated_after
decreases-repeated_after l = 4 * (length l.tokens.now.tokens + 2 - l.at) + 2

abbrev pub decreases-counted : goal.decreases-counted
decreases-counted l = 4 * (length l.tokens.now.tokens + 2 - l.at) + 2

abbrev pub decreases-block : goal.decreases-block
decreases-block l = 4 * (length l.tokens.now.tokens + 2 - l.at) + 2

abbrev pub invariant-block-each : goal.invariant-block-each
invariant-block-each l = record {
  stays : l.at ≤ l.place;
  leads : DerivesFrom (StatedAll l.tokens.tokens l.at)
      (RestFrom l.tokens.tokens l.place (statements_in l.all.items));
}

abbrev pub decreases-block-each : goal.decreases-block-each
decreases-block-each l = length l.tokens.tokens + 1 - l.place
