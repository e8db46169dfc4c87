use Rattle.std.proofs.Common.{◌≡◌, ◌<◌, ◌++◌, length, ap, refl, arith}
use Rattle.pool_workers.specs.Crew.{task_at}
use Rattle.workers_session.specs.WorkersState.{WorkersState}
use Rattle.workers_session.specs.WorkersCommands.{stopped_line}
use Rattle.workers_session.proofs.Crews.{stopped_more}
use Rattle.workers_session.proofs.Extending.{extends_more}
use Rattle.workers_session.proofs.session.WorkersSession.stopped.Goals as goal

pub loop-worker-preserved : goal.loop-worker-preserved
loop-worker-preserved c =
    let ts = c.args.self.now.tasks in
    let i = c.loop-worker.worker in
    let first = stopped_line i (task_at ts i) in
    let same : length c.self.inside.workers ≡ length ts =
    ap (λ (s : WorkersState). length s.tasks) c.self.view_is in
    let all = c.count-worker-end.ensures.value in
    let test = c.loop-worker-test.true in
    let less : i < length ts = omega (arith, same, all, test) in
    record {
      lines = c.loop-worker.invariant.lines ++ first;
      told = extends_more c.args.told c.loop-worker.told c.stopped_at-told.result
          c.loop-worker.invariant.lines first c.loop-worker.invariant.told
          c.stopped_at-told.ensures;
      rest = stopped_more ts i c.loop-worker.invariant.lines first _ less refl
          c.loop-worker.invariant.rest;
    }
