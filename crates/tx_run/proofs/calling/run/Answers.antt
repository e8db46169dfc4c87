use Rattle.std.proofs.Common.{◌≡◌, ◌≤◌, ◌+◌, true, sym, ◌∙◌, subst}
use Rattle.pm_machine.specs.Machine.{State}
use Rattle.tx_run.specs.Due.{run_steps}
use Rattle.tx_run.specs.declared.answer.CallAnswer.{CallAnswer}
use Rattle.tx_run.specs.Settled.{Settles}
use Rattle.tx_run.specs.Called.{Called}
use Rattle.tx_run.proofs.CallParts.{still_on, spent_of, called_of, seal_off, seal_failed}
use Rattle.tx_run.proofs.CallParts.{seal_short}
use Rattle.tx_run.proofs.calling.run.Goals as goal

pub returns-in-Done-clause-called : goal.returns-in-Done-clause-called
returns-in-Done-clause-called g c =
    let device = g.P.PmemWork.device in
    let d = device c.args.dev.now in
    let m = device c.seal.new.dev in
    let b = device c.settle.new.dev in
    let p = c.args.policy in
    let image = c.args.image.now in
    let tx = c.args.tx in
    let args = c.args.args.now in
    let k = c.args.steps.now in
    let k1 = c.settle.new.steps in
    let sealed = c.in-Done.ensures.played c.requires.on in
    let up : m.on ≡ true = still_on p image tx args d b m sealed ∙ c.requires.on in
    let settles = subst (λ (s : State). Settles c.settle.result p image s m b k k1) c.requires.start
    (c.settle.ensures.settled up) in
    subst (λ (a : CallAnswer). Called a p image tx args d b k k1) (sym c.of.ensures)
    (called_of p image tx args d b m sealed c.settle.result k k1 settles)

pub returns-in-Done-clause-bound : goal.returns-in-Done-clause-bound
returns-in-Done-clause-bound g c =
    let device = g.P.PmemWork.device in
    let d = device c.args.dev.now in
    let m = device c.seal.new.dev in
    let b = device c.settle.new.dev in
    let p = c.args.policy in
    let image = c.args.image.now in
    let tx = c.args.tx in
    let args = c.args.args.now in
    let k = c.args.steps.now in
    let k1 = c.settle.new.steps in
    let sealed = c.in-Done.ensures.played c.requires.on in
    let up : m.on ≡ true = still_on p image tx args d b m sealed ∙ c.requires.on in
    let bound = subst (λ (s : State). k1 ≤ k + run_steps p image s m.cache) c.requires.start
    (c.settle.ensures.bound up) in
    spent_of p image tx args d b m sealed k k1 bound

pub returns-in-Off-clause-called : goal.returns-in-Off-clause-called
returns-in-Off-clause-called g c =
    seal_off c.args.policy c.args.image.now c.args.tx c.args.args.now
    (g.P.PmemWork.device c.args.dev.now)
    (g.P.PmemWork.device c.seal.new.dev) c.in-Off.phase c.args.steps.now c.args.steps.now
    (c.in-Off.ensures.played c.requires.on)

pub returns-in-Failed-clause-called : goal.returns-in-Failed-clause-called
returns-in-Failed-clause-called g c =
    seal_failed c.args.policy c.args.image.now c.args.tx c.args.args.now
    (g.P.PmemWork.device c.args.dev.now)
    (g.P.PmemWork.device c.seal.new.dev) c.args.steps.now c.args.steps.now
    (c.in-Failed.ensures.played c.requires.on)

pub returns-in-NoMemory-clause-called : goal.returns-in-NoMemory-clause-called
returns-in-NoMemory-clause-called g c =
    seal_short c.args.policy c.args.image.now c.args.tx c.args.args.now
    (g.P.PmemWork.device c.args.dev.now)
    (g.P.PmemWork.device c.seal.new.dev) c.args.steps.now c.args.steps.now
    (c.in-NoMemory.ensures.played c.requires.on)
