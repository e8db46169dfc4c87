use Rattle.std.proofs.Common.{◌≡◌, ◌∙◌, ◌++◌, ◌-◌, ◌<◌, ◌∷◌, [], ℕ, refl, sym, subst, length, arith}
use Rattle.std.proofs.Math.Nat.{sub-zero}
use Rattle.workers_session.specs.WorkersCommands.{scene_of, recovered_line, RecoversFrom}
use Rattle.workers_session.proofs.Crews.{idle_more}
use Rattle.workers_session.proofs.Extending.{extends_more, extends_nothing}
use Rattle.workers_session.proofs.Turnings.{back_next, back_over, back_end}
use Rattle.workers_session.proofs.session.WorkersSession.recoveries.Goals as goal

pub returns-then-ends-clause-does : goal.returns-then-ends-clause-does
returns-then-ends-clause-does g c =
    let dev = g.P.PmemWork.device in
    let i = c.loop-worker.worker in
    let all = length c.args.self.now.tasks in
    let r = c.recover-more.ensures.recovers in
    let x = scene_of c.args.self.now (dev c.args.dev.now) c.args.steps.now in
    let z = scene_of c.loop-worker.self (dev c.loop-worker.dev) c.loop-worker.steps in
    let m = scene_of c.recover-more.new.self (dev c.recover-more.new.dev)
    c.recover-more.new.steps in
    let lines = c.loop-worker.invariant.lines in
    let own = recovered_line c.args.program.now i r.0 z ∷ [] in
    let end = c.count-worker-end.ensures in
    let test = c.loop-worker-test.true in
    let less : i < all = omega (arith, end, test) in (
      lines ++ own,
      extends_more c.args.told c.loop-worker.told c.recover-more.result.0 lines own
          c.loop-worker.invariant.told r.2,
      back_over c.args.program.now i all all x z m lines r.0 less c.loop-worker.invariant.leads r.1
          (sym r.3 ∙ c.if-ends.true),
    )

pub loop-worker-init : goal.loop-worker-init
loop-worker-init g c =
    let all = length c.args.self.now.tasks in
    let x = scene_of c.args.self.now (g.P.PmemWork.device c.args.dev.now) c.args.steps.now in
    record {
      tasks = c.requires.tasks;
      devices = c.requires.lines;
      count = refl;
      on = c.requires.on;
      idle = λ j less. absurd (omega (arith, less));
      lines = [];
      told = extends_nothing c.args.told;
      leads = λ rest y is.
          subst (λ (n : ℕ). RecoversFrom c.args.program.now 0 n x rest y) (sub-zero all) is;
    }

pub loop-worker-preserved : goal.loop-worker-preserved
loop-worker-preserved g c =
    let dev = g.P.PmemWork.device in
    let i = c.loop-worker.worker in
    let all = length c.args.self.now.tasks in
    let r = c.recover-more.ensures.recovers in
    let x = scene_of c.args.self.now (dev c.args.dev.now) c.args.steps.now in
    let z = scene_of c.loop-worker.self (dev c.loop-worker.dev) c.loop-worker.steps in
    let m = scene_of c.recover-more.new.self (dev c.recover-more.new.dev)
    c.recover-more.new.steps in
    let lines = c.loop-worker.invariant.lines in
    let own = recovered_line c.args.program.now i r.0 z ∷ [] in
    let end = c.count-worker-end.ensures in
    let test = c.loop-worker-test.true in
    let less : i < all = omega (arith, end, test) in
    record {
      tasks = c.recover-more.ensures.tasks;
      devices = c.recover-more.ensures.lines;
      count = c.recover-more.ensures.count ∙ c.loop-worker.invariant.count;
      on = c.recover-more.ensures.on c.if-ends.false;
      idle = idle_more i c.loop-worker.self.tasks c.recover-more.new.self.tasks
          c.loop-worker.invariant.idle c.recover-more.ensures.dropped c.recover-more.ensures.others;
      lines = lines ++ own;
      told = extends_more c.args.told c.loop-worker.told c.recover-more.result.0 lines own
          c.loop-worker.invariant.told r.2;
      leads = back_next c.args.program.now i all all x z m lines r.0 less
          c.loop-worker.invariant.leads r.1 (sym r.3 ∙ c.if-ends.false);
    }

pub returns-clause-does : goal.returns-clause-does
returns-clause-does g c =
    let dev = g.P.PmemWork.device in
    let i = c.loop-worker.worker in
    let all = length c.args.self.now.tasks in
    let x = scene_of c.args.self.now (dev c.args.dev.now) c.args.steps.now in
    let z = scene_of c.loop-worker.self (dev c.loop-worker.dev) c.loop-worker.steps in
    let lines = c.loop-worker.invariant.lines in
    let end = c.count-worker-end.ensures in
    let test = c.loop-worker-test.false in
    let none : all - i ≡ 0 = omega (arith, end, test) in (
      lines ++ [],
      extends_more c.args.told c.loop-worker.told c.loop-worker.told lines []
          c.loop-worker.invariant.told (extends_nothing c.loop-worker.told),
      back_end c.args.program.now i (all - i) all x z lines none c.loop-worker.invariant.leads,
    )
