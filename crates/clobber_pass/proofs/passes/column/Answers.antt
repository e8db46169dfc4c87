use Rattle.std.proofs.Common.{rules, ◌≡◌, ◌∙◌, sym, ap, subst, Some, slice_get, length, refl}
use Rattle.std.proofs.lemmas.Option.{slice_get_read}
use Rattle.std.proofs.lemmas.Result.{IfOk-weaker}
use Rattle.clobber_pass.specs.Sweep.{row_in}
use Rattle.clobber_pass.specs.inside.Closed.{entry_row, Made, Closed}
use Rattle.clobber_pass.proofs.derived.Columns.{column_shaped, column_sound, column_ended}
use Rattle.clobber_pass.proofs.derived.Columns.{column_told}
use Rattle.clobber_pass.proofs.derived.Columns.{made_column}
use Rattle.clobber_pass.specs.inside.Calling.{Apart}
use Rattle.clobber_pass.proofs.Recalling.{apart_none, apart_joined, alone_ended}
use Rattle.clobber_pass.proofs.passes.column.Goals as goal

pub returns-clause-shaped : goal.returns-clause-shaped
returns-clause-shaped c =
    let u = c.in-Some.body.now in
    let there : slice_get c.args.ir.now.functions c.args.function ≡ Some u =
    ap (λ us. slice_get us c.args.function) (sym c.as_slice.ensures)
    ∙ slice_get_read c.as_slice.result.now (length c.as_slice.result.now) c.args.function u refl
    c.in-Some.ensures.lookup.3.0 c.in-Some.ensures.lookup.1 in
    let code_is : c.as_slice-code.result.now ≡ u.code = search rules in
    let entry_is : c.deref.result.now ≡ entry_row c.args.topic u.parameters u.registers
    c.args.column = search rules in
    let made : Made c.args.topic c.args.exits.now c.deref.result.now u.code c.in_ok-rows.rows =
    search rules in
    let row_is : c.row.result.now ≡ row_in c.in_ok-rows.rows (length u.code) = search rules in
    IfOk-weaker c.join.result _ _ (λ grew is.
    column_shaped c.args.ir.now c.requires.well c.args.topic c.args.exits.now c.join.new.self
    c.args.function c.args.column u there c.requires.shaped c.requires.sound c.in_ok-rows.rows
    c.deref.result.now c.row.result.now entry_is made row_is is) c.join.ensures.row

pub returns-clause-sound : goal.returns-clause-sound
returns-clause-sound c =
    let u = c.in-Some.body.now in
    let there : slice_get c.args.ir.now.functions c.args.function ≡ Some u =
    ap (λ us. slice_get us c.args.function) (sym c.as_slice.ensures)
    ∙ slice_get_read c.as_slice.result.now (length c.as_slice.result.now) c.args.function u refl
    c.in-Some.ensures.lookup.3.0 c.in-Some.ensures.lookup.1 in
    let entry_is : c.deref.result.now ≡ entry_row c.args.topic u.parameters u.registers
    c.args.column = search rules in
    let made : Made c.args.topic c.args.exits.now c.deref.result.now u.code c.in_ok-rows.rows =
    search rules in
    let row_is : c.row.result.now ≡ row_in c.in_ok-rows.rows (length u.code) = search rules in
    IfOk-weaker c.join.result _ _ (λ grew is.
    column_sound c.args.ir.now c.requires.well c.args.topic c.args.exits.now c.join.new.self
    c.args.function c.args.column u there c.requires.shaped c.requires.sound c.in_ok-rows.rows
    c.deref.result.now c.row.result.now entry_is made row_is is) c.join.ensures.row

pub returns-clause-ended : goal.returns-clause-ended
returns-clause-ended c none =
    let u = c.in-Some.body.now in
    let there : slice_get c.args.ir.now.functions c.args.function ≡ Some u =
    ap (λ us. slice_get us c.args.function) (sym c.as_slice.ensures)
    ∙ slice_get_read c.as_slice.result.now (length c.as_slice.result.now) c.args.function u refl
    c.in-Some.ensures.lookup.3.0 c.in-Some.ensures.lookup.1 in
    let entry_is : c.deref.result.now ≡ entry_row c.args.topic u.parameters u.registers
    c.args.column = search rules in
    let made : Made c.args.topic c.args.exits.now c.deref.result.now u.code c.in_ok-rows.rows =
    search rules in
    let closed : Closed c.args.topic c.args.exits.now (length u.code) c.in_ok-rows.rows
    c.deref.result.now 0 u.code = search rules in
    let row_is : c.row.result.now ≡ row_in c.in_ok-rows.rows (length u.code) = search rules in
    column_ended c.args.ir.now c.requires.well c.args.topic c.args.exits.now c.join.new.self
    c.args.function c.args.column u there c.requires.shaped c.requires.sound c.in_ok-rows.rows
    c.deref.result.now c.row.result.now entry_is made row_is (c.join.ensures.same none).1
    c.requires.column closed

pub returns-clause-alone : goal.returns-clause-alone
returns-clause-alone c =
    let u = c.in-Some.body.now in
    let there : slice_get c.args.ir.now.functions c.args.function ≡ Some u =
    ap (λ us. slice_get us c.args.function) (sym c.as_slice.ensures)
    ∙ slice_get_read c.as_slice.result.now (length c.as_slice.result.now) c.args.function u refl
    c.in-Some.ensures.lookup.3.0 c.in-Some.ensures.lookup.1 in
    let entry_is : c.deref.result.now ≡ entry_row c.args.topic u.parameters u.registers
    c.args.column = search rules in
    let made : Made c.args.topic c.args.exits.now c.deref.result.now u.code c.in_ok-rows.rows =
    search rules in
    let closed : Closed c.args.topic c.args.exits.now (length u.code) c.in_ok-rows.rows
    c.deref.result.now 0 u.code = search rules in
    let row_is : c.row.result.now ≡ row_in c.in_ok-rows.rows (length u.code) = search rules in
    IfOk-weaker c.join.result _ _ (λ grew is.
    alone_ended c.args.ir.now.functions c.args.topic c.args.exits.now c.join.new.self
    c.args.function c.args.column u there (subst (Apart c.args.function c.args.exits.now) (sym is)
    (apart_joined c.args.exits.now c.args.function c.args.column c.row.result.now))
    c.in_ok-rows.rows (subst (λ e. Closed c.args.topic c.args.exits.now (length u.code)
    c.in_ok-rows.rows e 0 u.code) entry_is closed)
    (made_column c.args.ir.now c.requires.well c.args.topic c.args.exits.now c.join.new.self
    c.args.function c.args.column u there c.requires.shaped c.requires.sound c.in_ok-rows.rows
    c.deref.result.now c.row.result.now entry_is made row_is)
    (column_told c.args.ir.now c.requires.well c.args.topic c.args.exits.now c.join.new.self
    c.args.function c.args.column u there c.requires.shaped c.requires.sound c.in_ok-rows.rows
    c.deref.result.now c.row.result.now entry_is made row_is is c.requires.column))
    c.join.ensures.row

pub returns-in_default-clause-apart : goal.returns-in_default-clause-apart
returns-in_default-clause-apart c = apart_none c.args.function c.args.exits.now

pub returns-clause-apart : goal.returns-clause-apart
returns-clause-apart c =
    IfOk-weaker c.join.result _ _ (λ grew is. subst (Apart c.args.function c.args.exits.now)
    (sym is) (apart_joined c.args.exits.now c.args.function c.args.column c.row.result.now))
    c.join.ensures.row
