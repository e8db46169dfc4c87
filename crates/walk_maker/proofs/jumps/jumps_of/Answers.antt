use Rattle.std.proofs.Common.{rules, arith, ◌≡◌, ◌-◌, ◌<◌, ◌≤◌, Some, slice_get, length, subst}
use Rattle.std.proofs.Common.{refl}
use Rattle.std.specs.Prelude.{get_or}
use Rattle.std.proofs.lemmas.Option.{slice_get-get_or}
use Rattle.walk_maker.specs.inside.Jumps.{AreJumpsFrom, noted, landing_of}
use Rattle.walk_maker.proofs.Jumped.{jumps_turn}
use Rattle.walk_maker.proofs.jumps.jumps_of.Goals as goal

pub loop-index-preserved : goal.loop-index-preserved
loop-index-preserved c =
    let code = c.args.code.now in
    let index = c.loop-index.index in
    let i = c.index-code-place.result in
    let less : index < length code = search rules in
    let place = length code - 1 - index in
    let within : place < length code = omega arith in
    let here : get_or code place i ≡ i = search rules in
    let is : slice_get code place ≡ Some i =
    subst (λ x. slice_get code place ≡ Some x) here (slice_get-get_or code place i within) in
    let new_is : c.note.new.jumps
    ≡ noted (landing_of i) place c.loop-index.jumps = search rules in
    jumps_turn code index place i c.loop-index.jumps c.note.new.jumps less refl is new_is
    c.loop-index.invariant

pub returns : goal.returns
returns c =
    let past : length c.args.code.now ≤ c.loop-index.index =
    omega (arith, c.loop-index-test.false) in
    let none : length c.args.code.now - c.loop-index.index ≡ 0 = omega arith in
    subst (λ d. AreJumpsFrom c.args.code.now d c.loop-index.jumps) none c.loop-index.invariant
