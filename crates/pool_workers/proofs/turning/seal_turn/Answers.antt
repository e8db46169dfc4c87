use Rattle.std.proofs.Common.{List, ℤ, Some, take, w64, refl, subst, ◌∙◌}
use Rattle.std.specs.Int.{cast_signed}
use Rattle.cache_model.specs.Cache.{view}
use Rattle.pmem.specs.Played.{PlaysAll}
use Rattle.pmem.proofs.Refused.{all_on}
use Rattle.pool_layout.specs.declared.places.TheConstants.{DONE, ARGUMENTS}
use Rattle.args_log.specs.Next.{number_after}
use Rattle.args_log.specs.Sealing.{Seals}
use Rattle.args_log.specs.declared.sealing.SealAnswer.TheVariants as seal
use Rattle.tx_run.specs.Due.{due_seal}
use Rattle.pool_workers.specs.declared.answer.TurnAnswer.TheVariants as answer
use Rattle.pool_workers.specs.declared.task.Task.TheVariants.{Cut}
use Rattle.pool_workers.proofs.Turns.{seal_whole, seal_cut}
use Rattle.pool_workers.proofs.turning.seal_turn.Goals as goal
use Rattle.pool_workers.proofs.turning.seal_turn.Given as given

all_of : (g : given.Over) (c : goal.In-Done g) →
    PlaysAll (g.P.PmemWork.device c.args.dev.now)
    (due_seal c.args.tx c.args.args (g.P.PmemWork.device c.args.dev.now).cache)
    (g.P.PmemWork.device c.seal.new.dev)
all_of g c =
    let d = g.P.PmemWork.device c.args.dev.now in
    subst (λ (xs : List ℤ). PlaysAll d (due_seal c.args.tx xs d.cache)
    (g.P.PmemWork.device c.seal.new.dev)) c.as_slice.ensures
    (c.in-Done.ensures.played c.requires.on)

pub sealed-requires-clause-on : goal.sealed-requires-clause-on
sealed-requires-clause-on g c =
    let d = g.P.PmemWork.device c.args.dev.now in
    all_on (due_seal c.args.tx c.args.args d.cache) d (g.P.PmemWork.device c.seal.new.dev)
    (all_of g c) ∙ c.requires.on

pub returns-in-Done-clause-turned : goal.returns-in-Done-clause-turned
returns-in-Done-clause-turned g c =
    let d = g.P.PmemWork.device c.args.dev.now in
    let b = g.P.PmemWork.device c.seal.new.dev in
    seal_whole c.args.image.now c.args.tx c.args.args c.args.machine d b c.sealed.result
    (subst (λ (xs : List ℤ). PlaysAll d (due_seal c.args.tx xs d.cache) b) c.as_slice.ensures
    (c.in-Done.ensures.played c.requires.on)) c.sealed.ensures.run

pub returns-in-Off-clause-turned : goal.returns-in-Off-clause-turned
returns-in-Off-clause-turned g c =
    let d = g.P.PmemWork.device c.args.dev.now in
    let b = g.P.PmemWork.device c.seal.new.dev in
    seal_cut c.args.image.now c.args.tx c.args.args c.args.machine d b c.in-Off.phase
    answer.Off (Some (Cut c.in-Off.phase)) refl refl
    (subst (λ (xs : List ℤ). Seals (seal.Off c.in-Off.phase) d (cast_signed w64 c.args.tx)
    (take ARGUMENTS xs) (number_after (view d.cache DONE)) b) c.as_slice.ensures
    (c.in-Off.ensures.played c.requires.on))
