use Rattle.std.proofs.Common.{rules, ◌≡◌, ◌<◌, ◌∙◌, sym, ap, subst, Some, slice_get, length, List}
use Rattle.std.proofs.Common.{refl}
use Rattle.std.proofs.lemmas.Option.{slice_get_read}
use Rattle.ir.specs.declared.function.IrFunction.{IrFunction}
use Rattle.clobber_pass.specs.Sweep.{row_in}
use Rattle.clobber_pass.specs.inside.Sweep.{exits_of, join_in}
use Rattle.clobber_pass.specs.inside.Flow.{at_entry}
use Rattle.clobber_pass.specs.inside.Marking.{marks_from}
use Rattle.clobber_pass.proofs.marked.Tabled.{some_row, function_marks, function_keeps}
use Rattle.clobber_pass.proofs.marked.Tabled.{function_marked}
use Rattle.clobber_pass.proofs.table.mark_reached.Goals as goal

pub returns-clause-marks : goal.returns-clause-marks
returns-clause-marks c =
    let us = c.as_slice.result.now in
    let u = c.index-as_slice-function.result in
    let inside : c.args.function < length us =
    subst (λ (l : List IrFunction). c.args.function < length l) (sym c.as_slice.ensures)
    c.requires.inside in
    let there : slice_get c.args.ir.now.functions c.args.function ≡ Some u =
    ap (λ l. slice_get l c.args.function) (sym c.as_slice.ensures)
    ∙ slice_get_read us (length us) c.args.function u refl inside c.index-as_slice-function.is in
    let entry_is : c.deref.result.now ≡ at_entry c.args.topic u.registers
    (row_in c.args.flow.now.entries c.args.function) = search rules in
    let code_is : c.as_slice-code.result.now ≡ u.code = search rules in
    let row_was : c.deref-2.result.now ≡ marks_from c.args.topic c.args.exits.now
    (exits_of c.args.flow.now.tables c.args.function) c.deref.result.now 0
    c.as_slice-code.result.now = search rules in
    let row_is = row_was ∙ ap (λ e.
    marks_from c.args.topic c.args.exits.now (exits_of c.args.flow.now.tables c.args.function) e 0
    c.as_slice-code.result.now) entry_is
    ∙ ap (marks_from c.args.topic c.args.exits.now
    (exits_of c.args.flow.now.tables c.args.function)
    (at_entry c.args.topic u.registers (row_in c.args.flow.now.entries c.args.function)) 0)
    code_is in
    let reached = some_row (row_in c.args.flow.now.entries c.args.function) c.requires.reached in
    let joined : c.join.new.self ≡ join_in c.args.table.now c.args.function c.deref-2.result.now =
    search rules in
    function_marks c.args.ir.now c.requires.well c.args.topic c.args.exits.now c.requires.exits
    c.requires.ended c.args.flow.now.entries c.requires.entries c.requires.start
    c.args.flow.now.tables c.requires.flow c.args.function u there reached c.args.table.now
    c.join.new.self c.requires.marks c.deref-2.result.now row_is joined

pub returns-clause-kept : goal.returns-clause-kept
returns-clause-kept c =
    let us = c.as_slice.result.now in
    let u = c.index-as_slice-function.result in
    let inside : c.args.function < length us =
    subst (λ (l : List IrFunction). c.args.function < length l) (sym c.as_slice.ensures)
    c.requires.inside in
    let there : slice_get c.args.ir.now.functions c.args.function ≡ Some u =
    ap (λ l. slice_get l c.args.function) (sym c.as_slice.ensures)
    ∙ slice_get_read us (length us) c.args.function u refl inside c.index-as_slice-function.is in
    let entry_is : c.deref.result.now ≡ at_entry c.args.topic u.registers
    (row_in c.args.flow.now.entries c.args.function) = search rules in
    let code_is : c.as_slice-code.result.now ≡ u.code = search rules in
    let row_was : c.deref-2.result.now ≡ marks_from c.args.topic c.args.exits.now
    (exits_of c.args.flow.now.tables c.args.function) c.deref.result.now 0
    c.as_slice-code.result.now = search rules in
    let row_is = row_was ∙ ap (λ e.
    marks_from c.args.topic c.args.exits.now (exits_of c.args.flow.now.tables c.args.function) e 0
    c.as_slice-code.result.now) entry_is
    ∙ ap (marks_from c.args.topic c.args.exits.now
    (exits_of c.args.flow.now.tables c.args.function)
    (at_entry c.args.topic u.registers (row_in c.args.flow.now.entries c.args.function)) 0)
    code_is in
    let reached = some_row (row_in c.args.flow.now.entries c.args.function) c.requires.reached in
    let joined : c.join.new.self ≡ join_in c.args.table.now c.args.function c.deref-2.result.now =
    search rules in
    function_keeps c.args.ir.now c.requires.well c.args.topic c.args.exits.now c.requires.exits
    c.requires.ended c.args.flow.now.entries c.requires.entries c.requires.start
    c.args.flow.now.tables c.requires.flow c.args.function u there reached c.args.table.now
    c.join.new.self c.requires.marks c.deref-2.result.now row_is joined

pub returns-clause-marked : goal.returns-clause-marked
returns-clause-marked c =
    let us = c.as_slice.result.now in
    let u = c.index-as_slice-function.result in
    let inside : c.args.function < length us =
    subst (λ (l : List IrFunction). c.args.function < length l) (sym c.as_slice.ensures)
    c.requires.inside in
    let there : slice_get c.args.ir.now.functions c.args.function ≡ Some u =
    ap (λ l. slice_get l c.args.function) (sym c.as_slice.ensures)
    ∙ slice_get_read us (length us) c.args.function u refl inside c.index-as_slice-function.is in
    let entry_is : c.deref.result.now ≡ at_entry c.args.topic u.registers
    (row_in c.args.flow.now.entries c.args.function) = search rules in
    let code_is : c.as_slice-code.result.now ≡ u.code = search rules in
    let row_was : c.deref-2.result.now ≡ marks_from c.args.topic c.args.exits.now
    (exits_of c.args.flow.now.tables c.args.function) c.deref.result.now 0
    c.as_slice-code.result.now = search rules in
    let row_is = row_was ∙ ap (λ e.
    marks_from c.args.topic c.args.exits.now (exits_of c.args.flow.now.tables c.args.function) e 0
    c.as_slice-code.result.now) entry_is
    ∙ ap (marks_from c.args.topic c.args.exits.now
    (exits_of c.args.flow.now.tables c.args.function)
    (at_entry c.args.topic u.registers (row_in c.args.flow.now.entries c.args.function)) 0)
    code_is in
    let reached = some_row (row_in c.args.flow.now.entries c.args.function) c.requires.reached in
    let joined : c.join.new.self ≡ join_in c.args.table.now c.args.function c.deref-2.result.now =
    search rules in
    function_marked c.args.ir.now c.requires.well c.args.topic c.args.exits.now c.requires.exits
    c.requires.ended c.args.flow.now.entries c.requires.entries c.requires.start
    c.args.flow.now.tables c.requires.flow c.args.function u there reached c.args.table.now
    c.join.new.self c.requires.marks c.deref-2.result.now row_is joined
