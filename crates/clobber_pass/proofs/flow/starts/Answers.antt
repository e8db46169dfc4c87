use Rattle.std.proofs.Common.{◌≡◌, ◌∙◌, sym, ap, subst, length, List, [], replicate, arith}
use Rattle.ir.specs.declared.function.IrFunction.{IrFunction}
use Rattle.clobber_pass.specs.inside.Flow.{Entries}
use Rattle.clobber_pass.proofs.derived.Starting.{no_entries, all_start}
use Rattle.clobber_pass.proofs.flow.starts.Goals as goal

pub loop-function-init : goal.loop-function-init
loop-function-init c =
    let count : length c.as_slice-count.result.now ≡ length c.args.ir.now.functions =
    ap (λ (l : List IrFunction). length l) c.as_slice-count.ensures in
    let is : c.in_ok-entries.entries ≡ replicate (length c.args.ir.now.functions) [] =
    c.in_ok-entries.ensures ∙ ap (λ n. replicate n []) count in (
      subst (Entries c.args.ir.now.functions c.args.topic) (sym is)
          (no_entries c.args.ir.now.functions c.args.topic),
      (λ f less. absurd (omega (arith, less))),
    )

pub returns-clause-start : goal.returns-clause-start
returns-clause-start c =
    let count : length c.as_slice-count.result.now ≡ length c.args.ir.now.functions =
    ap (λ (l : List IrFunction). length l) c.as_slice-count.ensures in
    all_start c.args.ir.now.functions c.args.topic c.loop-function.entries (λ f less.
    c.loop-function.invariant.1 f (omega (
      arith,
      less,
      count,
      c.loop-function-test.false,
      c.loop-function.auto,
    )))
