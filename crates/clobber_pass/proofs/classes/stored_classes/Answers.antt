use Rattle.std.proofs.Common.{◌≡◌, Some, slice_get, length, refl, subst, sym, arith}
use Rattle.ir.specs.declared.function.IrFunction.{IrFunction}
use Rattle.std.proofs.lemmas.Option.{slice_get_read}
use Rattle.clobber_pass.specs.inside.Classes.{HasIn}
use Rattle.clobber_pass.proofs.Topical.{more_functions, all_functions}
use Rattle.clobber_pass.proofs.classes.stored_classes.Goals as goal

pub loop-function-preserved : goal.loop-function-preserved
loop-function-preserved c =
    let us = c.args.functions.now in
    let u = c.index-functions-function.result in
    let there : slice_get us c.loop-function.function ≡ Some u =
    slice_get_read us (length us) c.loop-function.function u refl c.loop-function-test.true
    c.index-functions-function.is in
    let has : HasIn c.add_code.new.stored u.code =
    subst (λ (w : IrFunction). HasIn c.add_code.new.stored w.code)
    (sym c.index-functions-function.is)
    (subst (HasIn c.add_code.new.stored) c.as_slice.ensures c.in_ok-add_code.ensures.has) in
    more_functions c.loop-function.stored c.add_code.new.stored us c.loop-function.function u
    there c.in_ok-add_code.ensures.kept has c.loop-function.invariant

pub returns : goal.returns
returns c = all_functions c.loop-function.stored c.args.functions.now
    c.loop-function.function (omega (arith, c.loop-function-test.false)) c.loop-function.invariant
