use Rattle.std.proofs.Common.{◌≡◌, ◌∙◌, Bool, true, if◌then◌else◌, [], ◌∷◌, sym, ap, subst}
use Rattle.pmem.specs.Device.{Device}
use Rattle.pool_workers.specs.Crew.{compartment}
use Rattle.pool_workers.proofs.Rooms.{compartment_within}
use Rattle.cnvm_session.specs.declared.answer.Answer.{Answer}
use Rattle.cnvm_session.specs.Outcomes.{answer_of_recovery}
use Rattle.workers_session.specs.declared.line.WorkersLine.TheVariants.{Own}
use Rattle.workers_session.specs.WorkersState.{WorkersState}
use Rattle.workers_session.specs.WorkersCommands.{keeps_down}
use Rattle.workers_session.specs.inside.Turning.{Extends}
use Rattle.workers_session.proofs.Onward.{recovered_on}
use Rattle.workers_session.proofs.Recovering.{down_before, down_by, ends_down, recovers_one}
use Rattle.workers_session.proofs.session.WorkersSession.recover.Goals.{then-self, else-self}
use Rattle.workers_session.proofs.session.WorkersSession.recover.Goals as goal

pub owed_in-marked-requires-clause-inside : goal.owed_in-marked-requires-clause-inside
owed_in-marked-requires-clause-inside g c =
    compartment_within c.args.program.now.image.parts.sizes c.args.worker _
    (g.P.PmemWork.device c.args.dev.now).lines c.requires.worker c.requires.lines

pub returns-clause-on : goal.returns-clause-on
returns-clause-on g c =
    let image = c.args.program.now.image in
    let d = g.P.PmemWork.device c.owed_in-marked.new.dev in
    let b = g.P.PmemWork.device c.recover_one-answer.new.dev in
    λ goes.
    recovered_on c.recover_one-answer.result c.policy_of-policy.result image
    (compartment image c.args.worker d) (compartment image c.args.worker b) c.args.steps.now
    c.recover_one-answer.new.steps c.recover_one-answer.ensures.recovered
    (sym c.ends_power.ensures ∙ goes)
    (ap (λ (x : Device). x.on) c.owed_in-marked.ensures.same ∙ c.requires.on)

pub returns-clause-recovers : goal.returns-clause-recovers
returns-clause-recovers g c =
    let program = c.args.program.now in
    let a = c.recover_one-answer.result in
    let owed = c.owed_in-marked in
    let one = c.recover_one-answer.ensures in
    let w : WorkersState = record { tasks = c.self.inside.workers; down = c.self.inside.down } in
    let down : c.if-self.self ≡ (if keeps_down a then true else c.self.inside.down) =
    elim c.if-self.branch [
      | then-self t ↦
          t.self-is ∙ t.if-self.true
          ∙ down_before (keeps_down a) c.self.inside.down t.if-self.true
      | else-self t ↦
          t.self-is ∙ t.keeps_down-self-inside.ensures
          ∙ down_by (keeps_down a) c.self.inside.down t.if-self.false
    ] in
    rw (← c.self.view_is) (
      a,
      recovers_one program c.args.worker a w c.recover_one-answer.new.self
          (g.P.PmemWork.device owed.new.dev) (g.P.PmemWork.device c.args.dev.now)
          (g.P.PmemWork.device c.recover_one-answer.new.dev) c.args.steps.now
          c.recover_one-answer.new.steps c.policy_of-policy.result owed.result.0 c.if-self.self
          owed.ensures.same c.policy_of-policy.ensures owed.ensures.marked one.recovered
          one.dropped one.others one.count one.aside down,
      subst (λ (x : Answer). Extends c.args.told c.add.result (Own c.args.worker x ∷ []))
          (c.answer_of_recovery.ensures
          ∙ ap (λ (u : Bool). answer_of_recovery u a) owed.ensures.unsigned) c.add.ensures,
      c.ends_power.ensures,
      λ over. ends_down a c.self.inside.down c.if-self.self down
          (sym c.ends_power.ensures ∙ over),
    )
