use Rattle.std.proofs.Common.{◌∙◌, ◌<◌, ap, sym, length, reverse, take, drop, arith}
use Rattle.c_types.specs.Views.{tables_in}
use Rattle.c_tree.specs.ItemTree.{function_tree}
use Rattle.interpreter.specs.inside.Resume.{ResumeState, plan_going, pushed}
use Rattle.interpreter.proofs.Resume.{calls-open}
use Rattle.interpreter.proofs.run.Run.call.Goals as goal

pub returns-clause-does : goal.returns-clause-does
returns-clause-does c =
    let t = tables_in c.args.program.now in let s = c.tick.new.self in
    let view = ap (λ (x : ResumeState). length x.below) c.self.view_is in
    let room : length s.below < 255 = omega (arith, view, c.count.ensures) in
    c.in_ok-open.ensures ∙ rw c.in_ok-tick.ensures
    (ap (pushed (plan_going t s) (drop c.args.count s.values) s.below s.top)
    (sym (calls-open t s.top s.below c.args.place (function_tree c.args.function.now)
    (reverse (take c.args.count s.values)) s.pool s.ticks room)))
