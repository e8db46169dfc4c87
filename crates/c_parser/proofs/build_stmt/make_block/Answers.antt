use Rattle.c_tree.proofs.Trees.{stmt_of-Block}
use Rattle.c_parser.proofs.build_stmt.make_block.Goals as goal

pub returns : goal.returns
returns c = stmt_of-Block c.args.all
