use Rattle.std.proofs.Common.{rules, arith, ◌≡◌, ◌<◌, ◌+◌, ◌≤◌, Some, slice_get, length, subst, sym}
use Rattle.std.proofs.Common.{refl}
use Rattle.std.specs.Prelude.{get_or}
use Rattle.std.proofs.lemmas.Option.{slice_get-get_or}
use Rattle.walk_maker.specs.inside.Expand as expand
use Rattle.walk_maker.specs.inside.Jumps.{NoneJumps, candidate, first_in, jump_after}
use Rattle.walk_maker.proofs.Jumped.{From, first_quiet, after_quiet, turn_end, turn_on, next_from}
use Rattle.walk_maker.proofs.expand.try_all_before.Goals as goal

pub loop-init : goal.loop-init
loop-init c =
    let function = c.args.later.entry.function in
    let place = c.args.later.entry.place in
    let jumps = c.args.jumps.now in
    let first : c.first_jump-jump.result ≡ first_in jumps function place = search rules in
    let quiet : NoneJumps c.args.body.now.code place 0 c.first_jump-jump.result =
    subst (λ n. NoneJumps c.args.body.now.code place 0 n) (sym first)
    (first_quiet c.args.ir.now.functions c.args.jumps.now c.requires.jumps function
    c.args.body.now c.requires.body place) in
    (refl, quiet, omega arith)

pub returns-then-next-code : goal.returns-then-next-code
returns-then-next-code c =
    let next : c.candidate-next.result
    ≡ candidate c.args.later.entry.place c.loop.at c.loop.jump = search rules in
    let past : length c.args.body.now.code ≤ c.candidate-next.result = search rules in
    turn_end c.args.ir.now c.args.passed.now c.args.body.now c.args.later c.loop.at c.loop.jump
    c.candidate-next.result next c.loop.invariant.1 c.loop.table _ past c.loop.invariant.0

pub loop-preserved : goal.loop-preserved
loop-preserved c =
    let ir = c.args.ir.now in
    let ps = c.args.passed.now in
    let u = c.args.body.now in
    let later = c.args.later in
    let next = c.candidate-next.result in
    let i = c.index-code-next.result in
    let next_is : next ≡ candidate later.entry.place c.loop.at c.loop.jump = search rules in
    let within : next < length u.code = search rules in
    let item : get_or u.code next i ≡ i = search rules in
    let is : slice_get u.code next ≡ Some i =
    subst (λ x. slice_get u.code next ≡ Some x) item (slice_get-get_or u.code next i within) in
    let from : c.loop.at ≤ next =
    next_from ir ps u later c.loop.at c.loop.jump next next_is c.loop.invariant.1 in
    let tried : c.try_before.new.table
    ≡ expand.before_tried ir ps u later next i c.loop.table = search rules in
    let jump : c.jump_after-jump.result
    ≡ jump_after c.args.jumps.now later.entry.function later.entry.place c.loop.jump next i =
    search rules in
    let count : c.loop.counter ≤ c.loop.at = c.loop.invariant.2 in (
      subst (λ t. From ir ps u later (next + 1) t ≡ From ir ps u later 0 c.args.table.now)
          (sym tried) (turn_on ir ps u later c.loop.at c.loop.jump next next_is c.loop.invariant.1 i
          c.loop.table _ is c.loop.invariant.0),
      subst (λ n. NoneJumps u.code later.entry.place (next + 1) n) (sym jump)
          (after_quiet ir.functions c.args.jumps.now c.requires.jumps later.entry.function u
          c.requires.body later.entry.place c.loop.at c.loop.jump next i is from
          c.loop.invariant.1),
      omega arith,
    )
