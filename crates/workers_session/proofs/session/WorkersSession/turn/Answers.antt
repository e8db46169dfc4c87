use Rattle.std.proofs.Common.{◌∙◌, ◌<◌, ◌≤◌, ◌+◌, ap, sym, subst, length}
use Rattle.pool_workers.specs.Crew.{task_at}
use Rattle.workers_session.specs.WorkersState.{WorkersState, IsReadyFor}
use Rattle.workers_session.specs.inside.Turning.{turns_in, busy_one}
use Rattle.workers_session.proofs.OneTurn.{turn_sound, turn_lower}
use Rattle.workers_session.proofs.session.WorkersSession.turn.Goals as goal

pub returns-clause-sound : goal.returns-clause-sound
returns-clause-sound g c =
    let d = g.P.PmemWork.device c.args.dev.now in
    let w : WorkersState = record { tasks = c.self.inside.workers; down = c.self.inside.down } in
    rw c.is_interrupted-self-inside.ensures
    (turn_sound c.args.program.now.image c.args.worker c.turn-answer.result w
    c.turn-answer.new.self d
    (g.P.PmemWork.device c.turn-answer.new.dev) c.args.steps.now c.turn-answer.new.steps
    (record {
      sound = subst (λ (s : WorkersState). IsReadyFor c.args.program.now.image s d) (sym
          c.self.view_is)
          c.requires.sound;
      up = ap (λ (s : WorkersState). s.down) c.self.view_is ∙ c.requires.up;
      known = subst (λ (s : WorkersState). c.args.worker < length s.tasks) (sym c.self.view_is)
          c.requires.known;
      idle = c.turn-answer.ensures.idle;
      turned = c.turn-answer.ensures.turned;
      uncut = c.turn-answer.ensures.uncut;
      others = c.turn-answer.ensures.others;
      count = c.turn-answer.ensures.count;
      tasks = c.turn-answer.ensures.tasks;
      lines = c.turn-answer.ensures.lines;
    }))

pub returns-clause-fewer : goal.returns-clause-fewer
returns-clause-fewer g c =
    let d = g.P.PmemWork.device c.args.dev.now in
    let w : WorkersState = record { tasks = c.self.inside.workers; down = c.self.inside.down } in
    λ up. subst (λ (s : WorkersState). turns_in c.args.program.now.image.parts.most
    c.turn-answer.new.self
    + busy_one (task_at s.tasks c.args.worker) ≤ turns_in c.args.program.now.image.parts.most
    s.tasks)
    c.self.view_is
    (turn_lower c.args.program.now.image c.args.worker c.turn-answer.result w
    c.turn-answer.new.self d
    (g.P.PmemWork.device c.turn-answer.new.dev) c.args.steps.now c.turn-answer.new.steps
    (record {
      sound = subst (λ (s : WorkersState). IsReadyFor c.args.program.now.image s d)
          (sym c.self.view_is) c.requires.sound;
      up = ap (λ (s : WorkersState). s.down) c.self.view_is ∙ c.requires.up;
      known = subst (λ (s : WorkersState). c.args.worker < length s.tasks)
          (sym c.self.view_is) c.requires.known;
      idle = c.turn-answer.ensures.idle;
      turned = c.turn-answer.ensures.turned;
      uncut = c.turn-answer.ensures.uncut;
      others = c.turn-answer.ensures.others;
      count = c.turn-answer.ensures.count;
      tasks = c.turn-answer.ensures.tasks;
      lines = c.turn-answer.ensures.lines;
    })
    (sym c.is_interrupted-self-inside.ensures ∙ up))
