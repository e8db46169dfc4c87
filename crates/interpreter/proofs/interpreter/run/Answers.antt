use Rattle.std.proofs.Common.{◌≡◌, ◌∙◌, ap, sym, rules, w64}
use Rattle.std.specs.Prelude.{FitsSigned}
use Rattle.std.proofs.lemmas.Int.{to_z-of_z}
use Rattle.c_tree.specs.ItemTree.{function_tree}
use Rattle.c_types.specs.Views.{tables_in}
use Rattle.c_meaning.specs.Meaning.{function_value, calls_of}
use Rattle.c_meaning.specs.Transaction.{outcome}
use Rattle.interpreter.specs.inside.Resume.{ResumeState, resumed}
use Rattle.interpreter.proofs.Resume.{left-outcome, stopped-as}
use Rattle.interpreter.proofs.interpreter.run.Goals as goal

pub returns-in_err-finish-clause-exact : goal.returns-in_err-finish-clause-exact
returns-in_err-finish-clause-exact c =
    let t = tables_in c.args.program.now in
    let began : resumed t c.begin.new.self
    ≡ function_value t (calls_of t 255) (function_tree c.args.function.now)
    c.args.args.now c.args.pool c.args.ticks =
    c.in_ok-begin.ensures t ∙ rw (c.new-run.ensures, c.in_ok-top.ensures, c.deref.ensures.value)
    (left-outcome t _) in
    let stopped = stopped-as _ _ _ (rw began at c.in_err-finish.ensures.exact) in search rules

pub returns-clause-exact : goal.returns-clause-exact
returns-clause-exact c =
    let t = tables_in c.args.program.now in
    let began : resumed t c.begin.new.self
    ≡ function_value t (calls_of t 255) (function_tree c.args.function.now)
    c.args.args.now c.args.pool c.args.ticks =
    c.in_ok-begin.ensures t ∙ rw (c.new-run.ensures, c.in_ok-top.ensures, c.deref.ensures.value)
    (left-outcome t _) in
    let fits : FitsSigned w64 c.take-value.result = search rules in
    let pool : c.run-3.inside.pool ≡ c.finish.new.run.pool =
    ap (λ (x : ResumeState). x.pool) (c.run-3.view_is ∙ c.take-value.ensures.others) in
    simp to_z-of_z (rw (pool, c.take-value.ensures.value)
    (ap outcome (sym (c.in_ok-finish.ensures.exact ∙ began))))
