use Rattle.std.proofs.Common.{◌≡◌, ◌≤◌, ◌+◌, true, inr, sym, ◌∙◌, subst}
use Rattle.pmem.specs.Played.{PlaysAll, PlaysPart}
use Rattle.pmem.specs.declared.answer.Refusal.TheVariants as refusal
use Rattle.pool_layout.specs.declared.limits.Sizes.{Sizes}
use Rattle.pm_machine.specs.Machine.{State}
use Rattle.tx_run.specs.Due.{run_steps}
use Rattle.tx_run.specs.Settled.{Settles}
use Rattle.recovery.specs.declared.answer.RecoverAnswer.{RecoverAnswer}
use Rattle.recovery.specs.Due.{due_back}
use Rattle.recovery.specs.Recovered.{Redid}
use Rattle.recovery.proofs.RedoParts.{still_on, spent_of, redid_of, back_cut}
use Rattle.recovery.proofs.recovering.redo.Goals as goal

pub returns-in-Done-clause-redid : goal.returns-in-Done-clause-redid
returns-in-Done-clause-redid g c =
    let device = g.P.PmemWork.device in
    let d = device c.args.dev.now in
    let m = device c.put_back.new.dev in
    let b = device c.settle.new.dev in
    let p = c.args.policy in
    let image = c.args.image.now in
    let tx = c.args.tx in
    let args = c.args.args.now in
    let n = c.args.count in
    let k = c.args.steps.now in
    let j = c.put_back.new.steps in
    let k1 = c.settle.new.steps in
    let done = subst (λ (z : Sizes). PlaysAll d (due_back z n d.cache) m) c.sizes.ensures
    c.in-Done.ensures.played in
    let up : m.on ≡ true = still_on p image tx args n d b m done ∙ c.requires.on in
    let settles = subst (λ (s : State). Settles c.settle.result p image s m b j k1)
    c.in-Some.ensures
    (c.settle.ensures.settled up) in
    subst (λ (a : RecoverAnswer). Redid a p image tx args n d b k k1) (sym c.redone.ensures)
    (redid_of p image tx args n d b m done c.settle.result k j k1
    (c.put_back.ensures.cost c.in-Done.is) settles)

pub returns-in-Done-clause-bound : goal.returns-in-Done-clause-bound
returns-in-Done-clause-bound g c =
    let device = g.P.PmemWork.device in
    let d = device c.args.dev.now in
    let m = device c.put_back.new.dev in
    let b = device c.settle.new.dev in
    let p = c.args.policy in
    let image = c.args.image.now in
    let tx = c.args.tx in
    let args = c.args.args.now in
    let n = c.args.count in
    let j = c.put_back.new.steps in
    let k1 = c.settle.new.steps in
    let done = subst (λ (z : Sizes). PlaysAll d (due_back z n d.cache) m) c.sizes.ensures
    c.in-Done.ensures.played in
    let up : m.on ≡ true = still_on p image tx args n d b m done ∙ c.requires.on in
    let bound = subst (λ (s : State). k1 ≤ j + run_steps p image s m.cache) c.in-Some.ensures
    (c.settle.ensures.bound up) in
    spent_of p image tx args n d b m done c.args.steps.now j k1
    (c.put_back.ensures.cost c.in-Done.is)
    bound

pub returns-in-Off-clause-redid : goal.returns-in-Off-clause-redid
returns-in-Off-clause-redid g c =
    let d = g.P.PmemWork.device c.args.dev.now in
    let b = g.P.PmemWork.device c.put_back.new.dev in
    back_cut c.args.policy c.args.image.now c.args.tx c.args.args.now c.args.count d b refusal.Off
    (subst (λ (z : Sizes). PlaysPart refusal.Off d (due_back z c.args.count d.cache) b)
    c.sizes.ensures c.in-Off.ensures.played)

pub returns-in-Failed-clause-redid : goal.returns-in-Failed-clause-redid
returns-in-Failed-clause-redid g c =
    let d = g.P.PmemWork.device c.args.dev.now in
    let b = g.P.PmemWork.device c.put_back.new.dev in
    back_cut c.args.policy c.args.image.now c.args.tx c.args.args.now c.args.count d b
    refusal.Failed
    (subst (λ (z : Sizes). PlaysPart refusal.Failed d (due_back z c.args.count d.cache) b)
    c.sizes.ensures c.in-Failed.ensures.played)

pub returns-in-NoMemory-clause-redid : goal.returns-in-NoMemory-clause-redid
returns-in-NoMemory-clause-redid g c =
    let d = g.P.PmemWork.device c.args.dev.now in
    let b = g.P.PmemWork.device c.put_back.new.dev in
    inr (back_cut c.args.policy c.args.image.now c.args.tx c.args.args.now c.args.count d b
    refusal.NoMemory
    (subst (λ (z : Sizes). PlaysPart refusal.NoMemory d (due_back z c.args.count d.cache) b)
    c.sizes.ensures c.in-NoMemory.ensures.played))
