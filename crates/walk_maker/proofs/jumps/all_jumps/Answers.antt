use Rattle.std.proofs.Common.{rules, arith, ◌≡◌, ◌<◌, ◌+◌, ◌++◌, ◌∷◌, [], Some, slice_get, length}
use Rattle.std.proofs.Common.{subst, sym}
use Rattle.std.specs.Prelude.{get_or}
use Rattle.std.proofs.lemmas.List.{length-append}
use Rattle.std.proofs.lemmas.Option.{slice_get-get_or}
use Rattle.walk_maker.specs.inside.Jumps.{AreJumps, AreAllJumps}
use Rattle.walk_maker.proofs.Jumped.{all_more}
use Rattle.walk_maker.proofs.jumps.all_jumps.Goals as goal

pub loop-function-preserved : goal.loop-function-preserved
loop-function-preserved c =
    let functions = c.args.functions.now in
    let js = c.loop-function.all in
    let j = c.in_ok-jumps_of.field-0 in
    let u = c.function-item.result in
    let n = c.loop-function.function-index in
    let within : n < length functions = c.loop-function-test.true in
    let item : get_or functions n u ≡ u = search rules in
    let here : slice_get functions n ≡ Some u =
    subst (λ x. slice_get functions n ≡ Some x) item (slice_get-get_or functions n u within) in
    let is : slice_get functions (length js) ≡ Some u =
    subst (λ n. slice_get functions n ≡ Some u) (sym c.loop-function.invariant.0) here in
    let new : AreJumps u.code j = search rules in
    let after : c.push.new.self ≡ js ++ j ∷ [] = search rules in
    let count : length js ≡ c.loop-function.function-index = c.loop-function.invariant.0 in
    let more : length (js ++ j ∷ []) ≡ length js + 1 = length-append js (j ∷ []) in
    let one : length (js ++ j ∷ []) ≡ c.loop-function.function-index + 1 = omega arith in (
      subst (λ ks. length ks ≡ c.loop-function.function-index + 1) (sym after) one,
      subst (λ ks. AreAllJumps functions ks) (sym after)
          (all_more functions js j u is new c.loop-function.invariant.1),
    )
