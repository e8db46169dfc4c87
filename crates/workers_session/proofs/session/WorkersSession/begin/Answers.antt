use Rattle.std.proofs.Common.{◌≡◌, ◌∙◌, ap, false, None}
use Rattle.cache_model.specs.Cache.{view}
use Rattle.pool_workers.specs.Crew.{task_at, compartment, standing_at}
use Rattle.workers_session.specs.WorkersState.{WorkersState}
use Rattle.workers_session.proofs.Beginning.{begins_as, not_off}
use Rattle.workers_session.proofs.session.WorkersSession.begin.Goals as goal

pub returns-clause-begins : goal.returns-clause-begins
returns-clause-begins g c k =
    let image = c.args.image.now in
    let d = g.P.PmemWork.device c.args.dev.now in
    let w : WorkersState = record { tasks = c.self.inside.workers; down = c.self.inside.down } in
    let up : w.down ≡ false = ap (λ (s : WorkersState). s.down) c.self.view_is ∙ c.requires.up in
    let idle : task_at w.tasks c.args.worker ≡ None =
    ap (λ (s : WorkersState). task_at s.tasks c.args.worker) c.self.view_is
    ∙ c.requires.idle in
    let on = c.requires.sound.on c.requires.up in
    rw (← c.self.view_is, c.begin_line.ensures, c.begin_runs_out-self-inside.ensures)
    (begins_as image c.args.worker c.args.tx c.args.args.now d k w c.begin-answer.new.self up idle
    c.begin-answer.ensures.others c.begin-answer.ensures.count c.args.looks
    (standing_at image c.args.worker d) c.begin-answer.result c.requires.unmarked
    (λ off. not_off (view (compartment image c.args.worker d).cache) off)
    (λ stores is. c.begin-answer.ensures.numbers stores idle on is)
    (λ looks is. c.begin-answer.ensures.unnumbered looks idle on is)
    (λ is. c.begin-answer.ensures.ready idle on is))
