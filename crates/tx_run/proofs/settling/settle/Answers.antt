use Rattle.std.proofs.Common.{rules, length, Bool, false, ◌≡◌, ◌+◌, true, ℤ, FitsSigned, to_z}
use Rattle.std.proofs.Common.{of_z, w64, refl, sym}
use Rattle.std.proofs.Common.{ap, ◌∙◌, subst, arith}
use Rattle.pmem.specs.Played.{Played}
use Rattle.pmem.specs.declared.answer.Refusal.TheVariants as refusal
use Rattle.pmem.proofs.Cuts.{round}
use Rattle.pool_layout.specs.declared.limits.Sizes.{Sizes}
use Rattle.pm_machine.specs.declared.answer.RunAnswer.TheVariants as answer
use Rattle.pm_machine.specs.declared.effect.End.TheVariants.{Halted, Trapped}
use Rattle.tx_run.specs.declared.answer.Settled.{Settled}
use Rattle.tx_run.specs.Due.{retiring, trap_events, trap_steps}
use Rattle.tx_run.specs.Settled.{Settles}
use Rattle.tx_run.specs.inside.Settled.{log_done}
use Rattle.tx_run.proofs.RunParts.{still_on, settle_done, settle_trap, cut_run, run_bound}
use Rattle.tx_run.proofs.RunParts.{most_run, trap_few}
use Rattle.tx_run.proofs.settling.settle.Goals as goal

pub returns-in-Halted-clause-settled : goal.returns-in-Halted-clause-settled
returns-in-Halted-clause-settled g c = λ on.
    let device = g.P.PmemWork.device in
    let d = device c.args.dev.now in
    let m = device c.run.new.dev in
    let b = device c.retire.new.dev in
    let p = c.args.policy in
    let image = c.args.image.now in
    let s = c.args.machine.now.processor in
    let k = c.args.steps.now in
    let k1 = c.run.new.steps in
    let l = length c.run.new.self.records.words in
    let v = c.in-Halted.value in
    let fits : FitsSigned w64 c.in-Halted.value = search rules in
    let same : to_z w64 (of_z w64 c.in-Halted.value) ≡ c.in-Halted.value =
    round c.in-Halted.value fits in
    let ran = c.in-Halted.ensures.ran on in
    let up : m.on ≡ true = still_on p image s d m b k k1 k1 l (Halted v) ran ∙ on in
    let played : Played c.retire.result m (retiring v m.cache) b =
    subst (λ (x : ℤ). Played c.retire.result m (retiring x m.cache) b)
    same (c.retire.ensures.played up) in
    let is : c.retired.result ≡ log_done c.retire.result v l =
    c.retired.ensures ∙ ap (λ (x : ℤ). log_done c.retire.result x c.logged.result) same
    ∙ ap (log_done c.retire.result v) c.logged.ensures in
    subst (λ (a : Settled). Settles a p image s d b k k1) (sym is)
    (settle_done p image s d m b k k1 k1 l v c.retire.result ran played refl)

pub returns-in-Halted-clause-bound : goal.returns-in-Halted-clause-bound
returns-in-Halted-clause-bound g c = λ on. let bound = c.run.ensures.bound on in omega arith

pub returns-in-Halted-clause-most : goal.returns-in-Halted-clause-most
returns-in-Halted-clause-most g c =
    most_run c.args.policy c.args.image.now c.args.steps.now c.run.new.steps c.run.ensures.most

pub close-requires-clause-on : goal.close-requires-clause-on
close-requires-clause-on g c = go (g.P.PmemWork.device c.args.dev.now).on refl
  where
    go : (b : Bool) → (g.P.PmemWork.device c.args.dev.now).on ≡ b
        → (g.P.PmemWork.device c.run.new.dev).on ≡ true
    go true on =
        let device = g.P.PmemWork.device in
        still_on c.args.policy c.args.image.now c.args.machine.now.processor
        (device c.args.dev.now) (device c.run.new.dev) (device c.run.new.dev) c.args.steps.now
        c.run.new.steps c.run.new.steps _ (Trapped c.in-Trapped.kind)
        (c.in-Trapped.ensures.ran on) ∙ on
    go false off =
        let none : answer.Trapped c.in-Trapped.kind ≡ answer.Off =
        sym c.in-Trapped.is ∙ c.run.ensures.off off in absurd (cc)

pub returns-in-Trapped-clause-settled : goal.returns-in-Trapped-clause-settled
returns-in-Trapped-clause-settled g c = λ on.
    let device = g.P.PmemWork.device in
    let d = device c.args.dev.now in
    let m = device c.run.new.dev in
    let b = device c.close.new.dev in
    let p = c.args.policy in
    let image = c.args.image.now in
    let s = c.args.machine.now.processor in
    let k = c.args.steps.now in
    let j = c.run.new.steps in
    let k1 = c.close.new.steps in
    let t = c.in-Trapped.kind in
    let ran = c.in-Trapped.ensures.ran on in
    let played : Played c.close.result m (trap_events p image.parts.sizes t m.cache) b =
    subst (λ (z : Sizes). Played c.close.result m (trap_events p z t m.cache) b) c.sizes.ensures
    c.close.ensures.played in
    subst (λ (a : Settled). Settles a p image s d b k k1) (sym c.trapped.ensures)
    (settle_trap p image s d m b k j k1 _ t c.close.result ran played
    (λ done. c.close.ensures.cost done
    ∙ ap (λ (z : Sizes). j + trap_steps p z m.cache) c.sizes.ensures))

pub returns-in-Trapped-clause-bound : goal.returns-in-Trapped-clause-bound
returns-in-Trapped-clause-bound g c = λ on.
    let device = g.P.PmemWork.device in
    let last = rw c.sizes.ensures at c.close.ensures.bound in
    run_bound c.args.policy c.args.image.now c.args.machine.now.processor (device c.args.dev.now)
    (device c.run.new.dev) (device c.close.new.dev) c.args.steps.now c.run.new.steps
    c.close.new.steps _ (Trapped c.in-Trapped.kind) (c.in-Trapped.ensures.ran on) last

pub returns-in-Trapped-clause-most : goal.returns-in-Trapped-clause-most
returns-in-Trapped-clause-most g c =
    let last = rw c.sizes.ensures at c.close.ensures.bound in
    trap_few c.args.policy c.args.image.now (g.P.PmemWork.device c.run.new.dev).cache
    c.args.steps.now c.run.new.steps c.close.new.steps c.run.ensures.most last

pub returns-in-Off-clause-settled : goal.returns-in-Off-clause-settled
returns-in-Off-clause-settled g c =
    λ on. cut_run c.args.policy c.args.image.now c.args.machine.now.processor
    (g.P.PmemWork.device c.args.dev.now)
    (g.P.PmemWork.device c.run.new.dev) refusal.Off (c.in-Off.ensures.ran on)

pub returns-in-Failed-clause-settled : goal.returns-in-Failed-clause-settled
returns-in-Failed-clause-settled g c =
    λ on. cut_run c.args.policy c.args.image.now c.args.machine.now.processor
    (g.P.PmemWork.device c.args.dev.now)
    (g.P.PmemWork.device c.run.new.dev) refusal.Failed (c.in-Failed.ensures.ran on)

pub returns-in-NoMemory-clause-settled : goal.returns-in-NoMemory-clause-settled
returns-in-NoMemory-clause-settled g c =
    λ on. cut_run c.args.policy c.args.image.now c.args.machine.now.processor
    (g.P.PmemWork.device c.args.dev.now)
    (g.P.PmemWork.device c.run.new.dev) refusal.NoMemory (c.in-NoMemory.ensures.ran on)
