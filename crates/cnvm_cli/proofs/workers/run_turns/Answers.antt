use Rattle.std.proofs.Common.{sym, subst}
use Rattle.session_run.specs.declared.status.Status.{Status}
use Rattle.cnvm_cli.specs.inside.WorkersEnds.{WorkersRanAs}
use Rattle.cnvm_cli.proofs.meant.WorkersMeaning.{ran_by}
use Rattle.cnvm_cli.proofs.workers.run_turns.Goals as goal

pub returns-clause-ran : goal.returns-clause-ran
returns-clause-ran g c =
    let written = g.K.Sink.written in
    let dev = g.P.PmemWork.device in
    let w = written c.args.out.now in
    let w' = written c.run_workers.new.out in
    let d = dev c.args.dev.now in
    let d' = dev c.run_workers.new.dev in
    let k = c.args.steps.now in
    let k' = c.run_workers.new.steps in
    subst (λ (s : Status). WorkersRanAs c.args.program.now c.args.count c.args.commands.now s w w'
    d d' k k') (sym c.status_of.ensures.value)
    (ran_by c.args.program.now c.args.count c.args.commands.now w w' d d' k k'
    c.run_workers.result c.run_workers.ensures.whole c.run_workers.ensures.part
    c.run_workers.ensures.device c.run_workers.ensures.memory)
