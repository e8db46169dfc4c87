use Rattle.std.proofs.Common.{sym}
use Rattle.std.proofs.lemmas.Result.{on_ok_weaker}
use Rattle.c_tree.specs.ExprTree.{expr_of}
use Rattle.lower.specs.inside.Added.{context_of}
use Rattle.lower.proofs.StmtAdds.{update_target}
use Rattle.lower.proofs.statements.add_update.Goals as goal

pub returns-in_ok-from-in-None : goal.returns-in_ok-from-in-None
returns-in_ok-from-in-None c =
    on_ok_weaker c.push-in-None.result
    (λ h. update_target (context_of c.args.source.now) c.args.variables.now
    (expr_of c.args.target.now) c.args.place c.args.op _
    c.args.code.now c.add_target.new.code c.add_load.new.code c.add_amount-in-None.new.code
    c.add_operation-in-None.new.code c.push-in-None.new.self
    c.in_ok-target-in-None.target c.in_ok-left-in-None.left c.in_ok-right-in-None.right
    c.in_ok-from-in-None.from
    (sym c.in-None.ensures) c.in_ok-target-in-None.ensures c.in_ok-left-in-None.ensures
    c.in_ok-right-in-None.ensures c.in_ok-from-in-None.ensures
    (rw c.line-line.ensures at h))
    c.push-in-None.ensures
