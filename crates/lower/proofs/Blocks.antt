-- The statements of a block, one by one.
use Rattle.c_tree.proofs.Trees.{stmt_of-Block}
use Rattle.c_types.proofs.After.{statements_at}

pub ruleset blocks = (stmt_of-Block, statements_at)
