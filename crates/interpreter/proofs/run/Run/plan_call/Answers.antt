use Rattle.std.proofs.Common.{sym}
use Rattle.c_tree.specs.ItemTree.{function_tree}
use Rattle.c_types.specs.Views.{tables_in}
use Rattle.interpreter.proofs.Resume.{then_ok, call-then}
use Rattle.interpreter.proofs.run.Run.plan_call.Goals as goal

pub returns-in_ok-plan-in-Some : goal.returns-in_ok-plan-in-Some
returns-in_ok-plan-in-Some c = then_ok c.plan-in-Some.result c.plan-in-Some.ensures
    (λ is. rw (is, c.in_ok-plan-in-Some.ensures)
    (call-then (tables_in c.args.program.now) c.args.self.now c.args.name.now.place
    c.args.name.now.text
    (function_tree c.in-Some.function.now) c.args.arguments.now
    (rw c.as_str.ensures at (sym c.in-Some.ensures))))
