use Rattle.std.proofs.Common.{◌≡◌, ◌∙◌, ap, sym, subst, List}
use Rattle.ir.specs.declared.function.IrFunction.{IrFunction}
use Rattle.clobber_pass.specs.inside.Marking.{Marks, Headers, headers_of}
use Rattle.clobber_pass.specs.inside.Classes.{HasAll}
use Rattle.clobber_pass.proofs.marked.Tabled.{headers_marks, headers_marked}
use Rattle.clobber_pass.proofs.marked.Exact.{marks_exact}
use Rattle.clobber_pass.proofs.marking.marks.Goals as goal

pub mark_all-requires-clause-marks : goal.mark_all-requires-clause-marks
mark_all-requires-clause-marks c =
    let us = c.args.ir.now.functions in
    let is : c.in_ok-table.table ≡ headers_of us =
    c.in_ok-table.ensures ∙ ap headers_of c.as_slice-3.ensures in
    subst (Marks us) (sym is) (headers_marks us)

pub mark_all-requires-clause-headers : goal.mark_all-requires-clause-headers
mark_all-requires-clause-headers c =
    let us = c.args.ir.now.functions in
    let is : c.in_ok-table.table ≡ headers_of us =
    c.in_ok-table.ensures ∙ ap headers_of c.as_slice-3.ensures in
    subst (Headers us) (sym is) (headers_marked us)

pub returns : goal.returns
returns c =
    let stores : HasAll c.args.ir.now.functions c.in_ok-stored.stored =
    subst (λ (l : List IrFunction). HasAll l c.in_ok-stored.stored) c.as_slice.ensures
    c.in_ok-stored.ensures in
    let made = c.in_ok-mark_all.ensures in
    marks_exact c.args.ir.now c.requires c.in_ok-stored.stored stores c.mark_all.new.table
    made.marks made.headers made.frees made.roots made.fields
