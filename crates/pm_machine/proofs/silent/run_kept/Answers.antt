use Rattle.std.proofs.Common.{◌≡◌, rules, arith}
use Rattle.pm_machine.specs.Machine.{State}
use Rattle.pm_machine.specs.Runs.{due}
use Rattle.pm_machine.specs.inside.Code.{code_of}
use Rattle.pm_machine.specs.inside.Kept.{all_words}
use Rattle.pm_machine.specs.inside.Runs.{worked}
use Rattle.pm_machine.proofs.Leads.{leads_silent}
use Rattle.pm_machine.proofs.Looks.{looks_silent}
use Rattle.pm_machine.proofs.silent.run_kept.Goals as goal

pub loop-left-preserved : goal.loop-left-preserved
loop-left-preserved g c =
    let image = c.args.image.now in
    let d = g.P.PmemWork.device c.args.dev.now in
    let i = c.loop-left in
    let tick = c.tick.ensures in
    let some = c.loop-left-test.true in
    let spent = i.invariant.spent in
    let fewer = i.invariant.fewer in
    let code_at : (s : State) → s.top.function ≡ c.args.function
    → c.code-code.result.now ≡ code_of image.parts.functions s.top.function =
    λ s is. rw is c.code-code.ensures in
    record {
      leads = λ n s is a log.
          leads_silent image a i.left log (worked s (all_words n i.kept) i.ticks i.place) d i.steps
          d c.args.steps.now
          (due image a c.args.from.left log
          (worked s (all_words n c.args.kept.now) c.args.from.ticks c.args.from.place) d.cache)
          c.code-code.result.now
          (worked s (all_words n c.step.new.kept) c.step.new.ticks c.in-Some.next) c.tick.new.self
          (code_at s is)
          (c.in-Some.ensures.done n s) tick some (i.invariant.leads n s is a log);
      looks = λ n s is.
          looks_silent image d i.left i.steps (worked s (all_words n i.kept) i.ticks i.place)
          c.args.from.left c.args.steps.now
          (worked s (all_words n c.args.kept.now) c.args.from.ticks c.args.from.place)
          c.code-code.result.now
          (worked s (all_words n c.step.new.kept) c.step.new.ticks c.in-Some.next) c.tick.new.self
          (code_at s is) (c.in-Some.ensures.done n s) tick some (i.invariant.looks n s is);
      spent = omega arith;
      fewer = omega arith;
      size = search rules;
    }
