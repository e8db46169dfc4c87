use Rattle.std.proofs.Common.{ap, option_map}
use Rattle.c_tree.specs.StmtTree.{declaration_of, initial_of}
use Rattle.interpreter.proofs.Resume.{then_ok, declare-then}
use Rattle.interpreter.proofs.run.Run.plan_declaration.Goals as goal

pub returns-in-Some : goal.returns-in-Some
returns-in-Some c = λ t. then_ok c.plan_expr.result c.plan_expr.ensures
    (λ is. rw (is, c.in_ok-plan.ensures)
    (declare-then t c.args.self.now (declaration_of c.args.declaration.now)
    (initial_of c.in-Some.initial) (ap (option_map initial_of) c.in-Some.is)))
