use Rattle.std.proofs.Common.{◌≡◌, ◌∙◌, ◌++◌, ◌+◌, List, [], ℕ, None, ap, sym, subst, drop, length}
use Rattle.std.proofs.Common.{slice_index, arith}
use Rattle.std.proofs.lemmas.List.{drop_all}
use Rattle.workers_session.specs.WorkersState.{WorkersState, stranger_in}
use Rattle.workers_session.specs.WorkersCommands.{scene_of}
use Rattle.workers_session.proofs.Crews.{first_known}
use Rattle.workers_session.proofs.Extending.{extends_more, extends_nothing}
use Rattle.workers_session.proofs.Turnings.{LeadsOn, leads_next, leads_over, leads_end, worker_at}
use Rattle.workers_session.proofs.session.WorkersSession.turn_list.Goals as goal

pub returns-then-self-clause-does : goal.returns-then-self-clause-does
returns-then-self-clause-does g c =
    let dev = g.P.PmemWork.device in
    let i = c.loop-worker.worker-index in
    let ws = c.args.workers.now in
    let does = c.turn-told.ensures.does in
    let x = scene_of c.args.self.now (dev c.args.dev.now) c.args.steps.now in
    let z = scene_of c.loop-worker.self (dev c.loop-worker.dev) c.loop-worker.steps in
    let m = scene_of c.turn-told.new.self (dev c.turn-told.new.dev) c.turn-told.new.steps in
    let lines = c.loop-worker.invariant.lines in (
      lines ++ does.0,
      extends_more c.args.told c.loop-worker.told c.turn-told.result lines does.0
          c.loop-worker.invariant.told does.1,
      leads_over c.args.program.now (slice_index ws i) (drop (i + 1) ws) ws x z m lines does.0
          (subst (λ (l : List ℕ). LeadsOn c.args.program.now l ws x z lines)
          (worker_at ws i c.loop-worker-test.true) c.loop-worker.invariant.leads) does.2
          (sym (ap (λ (s : WorkersState). s.down) c.self.view_is) ∙ c.if-self.true),
    )

pub loop-worker-preserved : goal.loop-worker-preserved
loop-worker-preserved g c =
    let dev = g.P.PmemWork.device in
    let i = c.loop-worker.worker-index in
    let ws = c.args.workers.now in
    let does = c.turn-told.ensures.does in
    let x = scene_of c.args.self.now (dev c.args.dev.now) c.args.steps.now in
    let z = scene_of c.loop-worker.self (dev c.loop-worker.dev) c.loop-worker.steps in
    let m = scene_of c.turn-told.new.self (dev c.turn-told.new.dev) c.turn-told.new.steps in
    let lines = c.loop-worker.invariant.lines in
    let up = sym (ap (λ (s : WorkersState). s.down) c.self.view_is) ∙ c.if-self.false in
    let all = length c.loop-worker.self.tasks in
    record {
      sound = c.turn-told.ensures.sound;
      up = up;
      known = subst (λ (n : ℕ). stranger_in n (drop (i + 1) ws) ≡ None)
          (sym c.turn-told.ensures.count)
          (first_known all (slice_index ws i) (drop (i + 1) ws)
          (subst (λ (l : List ℕ). stranger_in all l ≡ None) (worker_at ws i c.loop-worker-test.true)
          c.loop-worker.invariant.known)).1;
      lines = lines ++ does.0;
      told = extends_more c.args.told c.loop-worker.told c.turn-told.result lines does.0
          c.loop-worker.invariant.told does.1;
      leads = leads_next c.args.program.now (slice_index ws i) (drop (i + 1) ws) ws x z m lines
          does.0
          (subst (λ (l : List ℕ). LeadsOn c.args.program.now l ws x z lines)
          (worker_at ws i c.loop-worker-test.true) c.loop-worker.invariant.leads) does.2 up;
    }

pub returns-clause-does : goal.returns-clause-does
returns-clause-does g c =
    let dev = g.P.PmemWork.device in
    let i = c.loop-worker.worker-index in
    let ws = c.args.workers.now in
    let x = scene_of c.args.self.now (dev c.args.dev.now) c.args.steps.now in
    let z = scene_of c.loop-worker.self (dev c.loop-worker.dev) c.loop-worker.steps in
    let lines = c.loop-worker.invariant.lines in (
      lines ++ [],
      extends_more c.args.told c.loop-worker.told c.loop-worker.told lines []
          c.loop-worker.invariant.told (extends_nothing c.loop-worker.told),
      leads_end c.args.program.now ws x z lines
          (subst (λ (l : List ℕ). LeadsOn c.args.program.now l ws x z lines)
          (drop_all i ws (omega arith)) c.loop-worker.invariant.leads),
    )
