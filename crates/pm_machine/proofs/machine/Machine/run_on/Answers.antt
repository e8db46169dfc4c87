use Rattle.std.proofs.Common.{◌≡◌, ◌+◌, ◌-◌, ◌≤◌, Some, None, rules, sym, ap, subst, ◌∙◌, arith}
use Rattle.std.proofs.Common.{refl}
use Rattle.pmem.specs.Played.{PlaysAll, PlaysPart}
use Rattle.pm_machine.specs.declared.machine.Went.{Went}
use Rattle.pm_machine.specs.declared.machine.Went.TheVariants as went
use Rattle.pm_machine.specs.Logging.{Logging, turn, turn_of}
use Rattle.pm_machine.specs.Machine.{step}
use Rattle.pm_machine.specs.Runs.{heap_in, due, end_of, AreLines, IsTurn, IfEnded}
use Rattle.pm_machine.proofs.Leads.{leads_did, leads_ended, leads_refused, leads_over}
use Rattle.pm_machine.proofs.Leads.{leads_after}
use Rattle.pm_machine.proofs.Range.{keeps_step}
use Rattle.pm_machine.proofs.Recording.{turn_keeps, taken_on}
use Rattle.pool_layout.specs.Sizes.{heap_words}
use Rattle.pm_machine.proofs.machine.Machine.run_on.Goals as goal
use Rattle.pm_machine.proofs.machine.Machine.run_on.Given as given

refused_of : (g : given.Over) (c : goal.In-Err g) →
    let x0 = due c.args.image.now c.args.attempt c.args.image.now.parts.most
    c.args.self.now.records c.args.self.now.processor (g.P.PmemWork.device c.args.dev.now).cache in
    PlaysPart c.in-Err.why (g.P.PmemWork.device c.args.dev.now) x0.events
    (g.P.PmemWork.device c.step_on.new.dev) × (c.tick.new.self ≤ c.args.steps.now + x0.steps)
refused_of g c =
    let device = g.P.PmemWork.device in
    leads_refused c.args.image.now c.args.attempt c.loop-left.left c.loop-left.self.records
    c.loop-left.self.processor (device c.loop-left.dev) c.loop-left.steps (device c.args.dev.now)
    c.args.steps.now
    (due c.args.image.now c.args.attempt c.args.image.now.parts.most c.args.self.now.records
    c.args.self.now.processor (device c.args.dev.now).cache)
    c.in-Err.why (device c.step_on.new.dev) c.tick.new.self c.in-Err.ensures.refused c.tick.ensures
    c.loop-left-test.true c.loop-left.invariant.leads

pub returns-in-Err-clause-part : goal.returns-in-Err-clause-part
returns-in-Err-clause-part g c = (refused_of g c).0

pub returns-in-Err-clause-bound : goal.returns-in-Err-clause-bound
returns-in-Err-clause-bound g c = (refused_of g c).1

ended_of : (g : given.Over) (c : goal.In-Ended g) →
    let x0 = due c.args.image.now c.args.attempt c.args.image.now.parts.most
    c.args.self.now.records c.args.self.now.processor (g.P.PmemWork.device c.args.dev.now).cache in
    (x0.fate ≡ Some c.in-Ended.end) × PlaysAll (g.P.PmemWork.device c.args.dev.now) x0.events
    (g.P.PmemWork.device c.step_on.new.dev) × (c.tick.new.self ≡ c.args.steps.now + x0.steps)
    × (x0.records ≡ c.loop-left.self.records.count)
ended_of g c =
    let device = g.P.PmemWork.device in
    let turn = turn_of c.args.image.now c.loop-left.self.records c.loop-left.self.processor
    (heap_in c.args.image.now.parts.sizes (device c.loop-left.dev).cache) in
    leads_ended c.args.image.now c.args.attempt c.loop-left.left c.loop-left.self.records
    c.loop-left.self.processor (device c.loop-left.dev) c.loop-left.steps (device c.args.dev.now)
    c.args.steps.now
    (due c.args.image.now c.args.attempt c.args.image.now.parts.most c.args.self.now.records
    c.args.self.now.processor (device c.args.dev.now).cache)
    c.in-Ended.end c.step_on.new.self.records c.step_on.new.self.processor
    (device c.step_on.new.dev) c.tick.new.self
    (subst (λ (w : Went). IsTurn w c.step_on.new.self.records c.step_on.new.self.processor turn)
    c.in-Ended.is c.in-Ok.ensures.meaning)
    c.in-Ok.ensures.done c.tick.ensures c.loop-left-test.true c.loop-left.invariant.leads

kept_of : (g : given.Over) (c : goal.In-Ended g)
    → c.step_on.new.self.records ≡ c.loop-left.self.records
kept_of g c = subst (λ (w : Went). IfEnded w (c.step_on.new.self.records
    ≡ c.loop-left.self.records)) c.in-Ended.is c.in-Ok.ensures.ended

pub returns-in-Ended-clause-meaning : goal.returns-in-Ended-clause-meaning
returns-in-Ended-clause-meaning g c = sym (ap end_of (ended_of g c).0)

pub returns-in-Ended-clause-whole : goal.returns-in-Ended-clause-whole
returns-in-Ended-clause-whole g c = (ended_of g c).1

pub returns-in-Ended-clause-cost : goal.returns-in-Ended-clause-cost
returns-in-Ended-clause-cost g c = (ended_of g c).2

pub returns-in-Ended-clause-bound : goal.returns-in-Ended-clause-bound
returns-in-Ended-clause-bound g c = let e = (ended_of g c).2 in omega arith

pub returns-in-Ended-clause-records : goal.returns-in-Ended-clause-records
returns-in-Ended-clause-records g c =
    ap (λ (h : Logging). h.count) (kept_of g c) ∙ sym (ended_of g c).3

pub returns-in-Ended-clause-taken : goal.returns-in-Ended-clause-taken
returns-in-Ended-clause-taken g c = rw (kept_of g c) c.loop-left.invariant.taken

pub returns-in-Ended-clause-most : goal.returns-in-Ended-clause-most
returns-in-Ended-clause-most g c =
    let spent = c.loop-left.invariant.spent in
    let tick = c.tick.ensures in
    let some = c.loop-left-test.true in
    omega arith

pub returns-in-Err-clause-most : goal.returns-in-Err-clause-most
returns-in-Err-clause-most g c =
    let spent = c.loop-left.invariant.spent in
    let tick = c.tick.ensures in
    let some = c.loop-left-test.true in
    omega arith

-- no step is left
over_of : (g : given.Over) (c : goal.After-loop-left g) →
    let x0 = due c.args.image.now c.args.attempt c.args.image.now.parts.most
    c.args.self.now.records c.args.self.now.processor (g.P.PmemWork.device c.args.dev.now).cache in
    (x0.fate ≡ None) × PlaysAll (g.P.PmemWork.device c.args.dev.now) x0.events
    (g.P.PmemWork.device c.loop-left.dev) × (c.loop-left.steps ≡ c.args.steps.now + x0.steps)
    × (x0.records ≡ c.loop-left.self.records.count)
over_of g c =
    leads_over c.args.image.now c.args.attempt c.loop-left.left c.loop-left.self.records
    c.loop-left.self.processor (g.P.PmemWork.device c.loop-left.dev) c.loop-left.steps
    (g.P.PmemWork.device c.args.dev.now) c.args.steps.now
    (due c.args.image.now c.args.attempt c.args.image.now.parts.most c.args.self.now.records
    c.args.self.now.processor (g.P.PmemWork.device c.args.dev.now).cache)
    (let none = c.loop-left-test.false in omega arith) c.loop-left.invariant.leads

pub returns-clause-meaning : goal.returns-clause-meaning
returns-clause-meaning g c = sym (ap end_of (over_of g c).0)

pub returns-clause-whole : goal.returns-clause-whole
returns-clause-whole g c = (over_of g c).1

pub returns-clause-cost : goal.returns-clause-cost
returns-clause-cost g c = (over_of g c).2

pub returns-clause-bound : goal.returns-clause-bound
returns-clause-bound g c = let e = (over_of g c).2 in omega arith

pub returns-clause-records : goal.returns-clause-records
returns-clause-records g c = sym (over_of g c).3

pub returns-clause-taken : goal.returns-clause-taken
returns-clause-taken g c = c.loop-left.invariant.taken

pub returns-clause-most : goal.returns-clause-most
returns-clause-most g c = let spent = c.loop-left.invariant.spent in omega arith

pub loop-left-preserved : goal.loop-left-preserved
loop-left-preserved g c =
    let device = g.P.PmemWork.device in
    let x0 = due c.args.image.now c.args.attempt c.args.image.now.parts.most
    c.args.self.now.records c.args.self.now.processor (device c.args.dev.now).cache in
    let z = c.args.image.now.parts.sizes in
    let heap = heap_in z (device c.loop-left.dev).cache in
    let outcome = step c.args.image.now c.loop-left.self.processor heap in
    let on : IsTurn went.On c.step_on.new.self.records c.step_on.new.self.processor
    (turn z.records c.loop-left.self.records outcome) =
    subst (λ (w : Went). IsTurn w c.step_on.new.self.records c.step_on.new.self.processor
    (turn z.records c.loop-left.self.records outcome)) c.in-On.is c.in-Ok.ensures.meaning in
    let next = leads_did c.args.image.now c.args.attempt c.loop-left.left c.loop-left.self.records
    c.loop-left.self.processor (device c.loop-left.dev) c.loop-left.steps (device c.args.dev.now)
    c.args.steps.now x0
    c.step_on.new.self.records c.step_on.new.self.processor (device c.step_on.new.dev)
    c.tick.new.self on c.in-Ok.ensures.done c.tick.ensures c.loop-left-test.true
    c.loop-left.invariant.leads in
    let silent = c.run_silently-left-in-loop-left in
    let b = device c.step_on.new.dev in
    let left = due c.args.image.now c.args.attempt in
    let h = c.step_on.new.self.records in
    let grown = taken_on z.records c.loop-left.self.records h c.step_on.new.self.processor outcome
    on in
    record {
      leads = leads_after b silent.new.steps (left silent.result h silent.new.self b.cache) b
          c.tick.new.self (left (c.loop-left.left - 1) h c.step_on.new.self.processor b.cache)
          (device c.args.dev.now) c.args.steps.now x0 (silent.ensures.leads c.args.attempt h)
          next.0;
      dirty = subst (AreLines (heap_words z)) (sym silent.ensures.dirty)
          (turn_keeps z.records (heap_words z) c.loop-left.self.records h
          c.step_on.new.self.processor outcome
          (keeps_step c.args.image.now heap c.loop-left.self.processor outcome
          c.loop-left.invariant.dirty refl) on);
      lines = search rules;
      on = next.1 ∙ c.loop-left.invariant.on;
      taken = let e = c.loop-left.invariant.taken in omega (arith, e, grown);
      spent = let e = c.loop-left.invariant.spent in let t = c.tick.ensures in
          let s = silent.ensures.spent in let some = c.loop-left-test.true in omega arith;
    }
