use Rattle.std.proofs.Common.{◌≡◌, ◌+◌, ◌-◌, Some, None, true, rules, sym, subst, ◌∙◌, arith}
use Rattle.pmem.specs.Device.{Device}
use Rattle.pm_machine.specs.Looking.{look_of, IsLook}
use Rattle.pm_machine.specs.Machine.{step}
use Rattle.pm_machine.specs.Runs.{heap_in}
use Rattle.pm_machine.specs.inside.Runs.{RestLooks}
use Rattle.pm_machine.proofs.Looks.{looks_did, looks_ended, looks_after}
use Rattle.pm_machine.proofs.machine.Machine.look.Goals as goal
use Rattle.pm_machine.proofs.machine.Machine.look.Given as given

ended_of : (g : given.Over) (c : goal.In-Some g) →
    let x = look_of c.args.image.now c.args.image.now.parts.most c.args.self.now.processor
    (heap_in c.args.image.now.parts.sizes (g.P.PmemWork.device c.args.dev.now).cache) in
    (c.in-Some.end ≡ x.end) × (c.tick.new.self ≡ c.args.steps.now + x.steps)
ended_of g c =
    let device = g.P.PmemWork.device in
    let image = c.args.image.now in
    let i = c.loop-left in
    looks_ended image (device c.args.dev.now) i.left i.steps i.self.processor image.parts.most
    c.args.steps.now c.args.self.now.processor c.in-Some.end c.look.new.self c.tick.new.self
    (subst (λ (d : Device). IsLook (Some c.in-Some.end) c.look.new.self
    (step image i.self.processor (heap_in image.parts.sizes d.cache))) i.invariant.same
    c.in-Some.ensures.meaning) c.tick.ensures c.loop-left-test.true i.invariant.looks

pub returns-in-Some-clause-end : goal.returns-in-Some-clause-end
returns-in-Some-clause-end g c = (ended_of g c).0

pub returns-in-Some-clause-cost : goal.returns-in-Some-clause-cost
returns-in-Some-clause-cost g c = (ended_of g c).1

pub loop-left-preserved : goal.loop-left-preserved
loop-left-preserved g c =
    let device = g.P.PmemWork.device in
    let image = c.args.image.now in
    let i = c.loop-left in
    let d = device c.args.dev.now in
    let silent = c.run_silently-left-in-loop-left in
    let next = looks_did image d i.left i.steps i.self.processor image.parts.most
    c.args.steps.now c.args.self.now.processor c.look.new.self c.tick.new.self
    (subst (λ (b : Device). IsLook None c.look.new.self
    (step image i.self.processor (heap_in image.parts.sizes b.cache))) i.invariant.same
    c.in-None.ensures.meaning) c.tick.ensures c.loop-left-test.true i.invariant.looks in
    let same : device c.look.new.dev ≡ d = c.in-None.ensures.same ∙ i.invariant.same in
    record {
      looks = looks_after image d silent.result silent.new.steps silent.new.self (i.left - 1)
          c.tick.new.self c.look.new.self image.parts.most c.args.steps.now
          c.args.self.now.processor (subst (λ (b : Device). RestLooks image b silent.result
          silent.new.steps silent.new.self (i.left - 1) c.tick.new.self c.look.new.self) same
          silent.ensures.looks) next;
      same = same;
      lines = search rules;
      on = subst (λ (b : Device). b.on ≡ true) (sym c.in-None.ensures.same) i.invariant.on;
      spent = let e = i.invariant.spent in let t = c.tick.ensures in
          let s = silent.ensures.spent in let some = c.loop-left-test.true in omega arith;
    }
