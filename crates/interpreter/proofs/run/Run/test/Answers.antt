use Rattle.std.proofs.Common.{◌≢◌, ◌∙◌, ap, pos, of_z, w64}
use Rattle.c_tree.specs.StmtTree.{stmt_of}
use Rattle.interpreter.specs.inside.Resume.{newest}
use Rattle.interpreter.proofs.Resume.{then_ok, test-then}
use Rattle.interpreter.proofs.run.Run.test.Goals as goal

pub returns : goal.returns
returns c = λ t.
    let tested = rw c.take.ensures.value at c.if-take-eq0.false in
    let other : newest c.args.self.now.values ≢ pos 0 = λ is. tested (ap (of_z w64) is) in
    then_ok c.plan_body.result (c.plan_body.ensures t)
    (λ is. is ∙ rw (c.in_ok-plan_stmt.ensures, c.take.ensures.others)
    (test-then t c.args.self.now (stmt_of c.args.stmt.now) other))
