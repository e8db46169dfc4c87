use Rattle.std.proofs.Common.{◌≡◌, Some, slice_get, length, refl, arith}
use Rattle.std.proofs.lemmas.Option.{slice_get_read}
use Rattle.clobber_pass.proofs.Topical.{keeps_two, more_below, all_below}
use Rattle.clobber_pass.proofs.classes.add_code.Goals as goal

pub loop-place-preserved : goal.loop-place-preserved
loop-place-preserved c =
    let code = c.args.code.now in
    let there : slice_get code c.loop-place.place ≡ Some c.index-code-place.result =
    slice_get_read code (length code) c.loop-place.place c.index-code-place.result refl
    c.loop-place-test.true c.index-code-place.is in (
      keeps_two c.args.stored.now c.loop-place.stored c.add_store.new.stored
          c.loop-place.invariant.0 c.in_ok-add_store.ensures.kept,
      more_below c.loop-place.stored c.add_store.new.stored code c.loop-place.place
          c.index-code-place.result there c.in_ok-add_store.ensures.kept
          c.in_ok-add_store.ensures.has
          c.loop-place.invariant.1,
    )

pub returns-clause-has : goal.returns-clause-has
returns-clause-has c = all_below c.loop-place.stored c.args.code.now c.loop-place.place
    (omega (arith, c.loop-place-test.false)) c.loop-place.invariant.1
