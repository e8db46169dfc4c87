use Rattle.std.proofs.Common.{rules, ◌≡◌, ◌<◌, ◌∙◌, sym, ap, subst, true, false, Some, slice_get}
use Rattle.std.proofs.Common.{length, List, refl}
use Rattle.std.proofs.lemmas.Option.{slice_get_read}
use Rattle.ir.specs.declared.function.IrFunction.{IrFunction}
use Rattle.clobber_pass.specs.inside.Sweep.{join_in}
use Rattle.clobber_pass.specs.inside.Flow.{start_row}
use Rattle.clobber_pass.proofs.derived.Starting.{start_entries, start_here, start_keeps, start_none}
use Rattle.clobber_pass.proofs.flow.start_at.Goals as goal

pub returns-in_ok-join-clause-entries : goal.returns-in_ok-join-clause-entries
returns-in_ok-join-clause-entries c =
    let us = c.as_slice.result.now in
    let u = c.index-as_slice-function.result in
    let inside : c.args.function < length us =
    subst (λ (l : List IrFunction). c.args.function < length l) (sym c.as_slice.ensures)
    c.requires.inside in
    let there : slice_get c.args.ir.now.functions c.args.function ≡ Some u =
    ap (λ l. slice_get l c.args.function) (sym c.as_slice.ensures)
    ∙ slice_get_read us (length us) c.args.function u refl inside c.index-as_slice-function.is in
    let tx : u.tx ≡ true = search rules in
    let row_is : c.deref.result.now ≡ start_row c.args.topic u.registers = search rules in
    let joined : c.join.new.self ≡ join_in c.args.entries.now c.args.function c.deref.result.now =
    search rules in
    start_entries c.args.ir.now.functions c.args.topic c.args.entries.now c.join.new.self
    c.requires.entries c.args.function u there tx c.deref.result.now row_is joined

pub returns-in_ok-join-clause-kept : goal.returns-in_ok-join-clause-kept
returns-in_ok-join-clause-kept c =
    let joined : c.join.new.self ≡ join_in c.args.entries.now c.args.function c.deref.result.now =
    search rules in
    start_keeps c.args.ir.now.functions c.args.topic c.args.entries.now c.join.new.self
    c.args.function c.deref.result.now joined

pub returns-in_ok-join-clause-start : goal.returns-in_ok-join-clause-start
returns-in_ok-join-clause-start c =
    let us = c.as_slice.result.now in
    let u = c.index-as_slice-function.result in
    let inside : c.args.function < length us =
    subst (λ (l : List IrFunction). c.args.function < length l) (sym c.as_slice.ensures)
    c.requires.inside in
    let there : slice_get c.args.ir.now.functions c.args.function ≡ Some u =
    ap (λ l. slice_get l c.args.function) (sym c.as_slice.ensures)
    ∙ slice_get_read us (length us) c.args.function u refl inside c.index-as_slice-function.is in
    let tx : u.tx ≡ true = search rules in
    let row_is : c.deref.result.now ≡ start_row c.args.topic u.registers = search rules in
    let joined : c.join.new.self ≡ join_in c.args.entries.now c.args.function c.deref.result.now =
    search rules in
    start_here c.args.ir.now.functions c.args.topic c.args.entries.now c.join.new.self
    c.requires.entries c.args.function u there tx c.deref.result.now row_is joined

pub returns-else-body-clause-start : goal.returns-else-body-clause-start
returns-else-body-clause-start c =
    let us = c.as_slice.result.now in
    let u = c.index-as_slice-function.result in
    let inside : c.args.function < length us =
    subst (λ (l : List IrFunction). c.args.function < length l) (sym c.as_slice.ensures)
    c.requires.inside in
    let there : slice_get c.args.ir.now.functions c.args.function ≡ Some u =
    ap (λ l. slice_get l c.args.function) (sym c.as_slice.ensures)
    ∙ slice_get_read us (length us) c.args.function u refl inside c.index-as_slice-function.is in
    let tx : u.tx ≡ false = search rules in
    start_none c.args.ir.now.functions c.args.topic c.args.entries.now c.args.function u there tx
