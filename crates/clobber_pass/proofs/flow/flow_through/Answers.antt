use Rattle.std.proofs.Common.{rules, ◌≡◌, ◌<◌, ◌∙◌, sym, ap, subst, false, Some, slice_get}
use Rattle.std.proofs.Common.{slice_set, length, List, refl}
use Rattle.std.proofs.lemmas.Option.{slice_get_read}
use Rattle.ir.specs.declared.function.IrFunction.{IrFunction}
use Rattle.clobber_pass.specs.Sweep.{row_in}
use Rattle.clobber_pass.specs.inside.Closed.{Made, Closed}
use Rattle.clobber_pass.specs.inside.Flow.{at_entry, entries_after_calls, Wakes}
use Rattle.clobber_pass.proofs.derived.Flowing.{through}
use Rattle.clobber_pass.proofs.flow.flow_through.Goals as goal

pub returns-clause-flow : goal.returns-clause-flow
returns-clause-flow c =
    let us = c.as_slice.result.now in
    let u = c.index-as_slice-function.result in
    let inside : c.args.function < length us =
    subst (λ (l : List IrFunction). c.args.function < length l) (sym c.as_slice.ensures)
    c.requires.inside in
    let there : slice_get c.args.ir.now.functions c.args.function ≡ Some u =
    ap (λ l. slice_get l c.args.function) (sym c.as_slice.ensures)
    ∙ slice_get_read us (length us) c.args.function u refl inside c.index-as_slice-function.is in
    let entry = c.deref.result.now in
    let rows = c.in_ok-rows.rows in
    let entry_is : entry ≡ at_entry c.args.topic u.registers
    (row_in c.args.entries.now c.args.function) = search rules in
    let made : Made c.args.topic c.args.exits.now entry u.code rows = search rules in
    let closed : Closed c.args.topic c.args.exits.now (length u.code) rows entry 0 u.code =
    search rules in
    let brought : c.enter_all.new.entries ≡ entries_after_calls c.args.ir.now.functions c.args.topic
    c.args.exits.now rows c.args.entries.now entry 0 u.code = search rules in
    let written : c.set.new.self ≡ slice_set c.args.tables.now c.args.function rows =
    search rules in
    let wakes : Wakes (slice_set c.args.waiting.now c.args.function false) c.enter_all.new.waiting
    c.args.entries.now c.enter_all.new.entries = search rules in
    through c.args.ir.now c.requires.well c.args.topic c.args.exits.now c.requires.exits
    c.args.function u there c.args.entries.now c.enter_all.new.entries c.args.tables.now
    c.set.new.self c.args.waiting.now c.enter_all.new.waiting c.requires.flow rows entry entry_is
    made closed brought written wakes
