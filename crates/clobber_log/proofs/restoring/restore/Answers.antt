use Rattle.std.proofs.Common.{◌∙◌, sym, ap}
use Rattle.cache_model.specs.Cache.{view}
use Rattle.pmem.proofs.Answers.{played_of}
use Rattle.pool_layout.specs.Places.{pool_of}
use Rattle.pool_layout.specs.Log.{count}
use Rattle.clobber_log.proofs.Backwards.{events_are, heap_is, where_done}
use Rattle.clobber_log.proofs.restoring.restore.Goals as goal

pub returns-in-Some-count-clause-played : goal.returns-in-Some-count-clause-played
returns-in-Some-count-clause-played g c =
    let s = c.args.sizes.now in
    let device = g.P.PmemWork.device c.args.dev.now in
    let image = view device.cache in
    let is = c.in-Some-count.ensures.value ∙ ap (λ a. count (pool_of s) a image)
    c.in-Some.ensures.value in
    let done = c.restore_first.ensures.done in
    let refused = c.restore_first.ensures.refused in
    λ on. rw (c.of.ensures, ← events_are s image c.in-Some-count.count is)
    (played_of c.restore_first.result device _ _ done refused)

pub returns-in-Some-count-clause-heap : goal.returns-in-Some-count-clause-heap
returns-in-Some-count-clause-heap g c =
    let s = c.args.sizes.now in
    let image = view (g.P.PmemWork.device c.args.dev.now).cache in
    let is = c.in-Some-count.ensures.value ∙ ap (λ a. count (pool_of s) a image)
    c.in-Some.ensures.value in
    λ done w inside.
    where_done c.restore_first.result _ (sym c.of.ensures ∙ done)
    c.restore_first.ensures.heap w inside
    ∙ heap_is s image c.in-Some-count.count is w
