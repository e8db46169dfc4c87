use Rattle.c_tree.proofs.Trees.{expr_of-Call}
use Rattle.c_parser.proofs.build_expr.make_call.Goals as goal

pub returns : goal.returns
returns c = expr_of-Call c.args.name c.args.arguments
