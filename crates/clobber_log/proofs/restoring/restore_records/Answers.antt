use Rattle.std.proofs.Common.{◌≡◌, ◌+◌, ◌-◌, ◌*◌, ◌∙◌, ℕ, suc, subst, arith, rules}
use Rattle.cache_model.specs.Cache.{view}
use Rattle.pool_layout.specs.Places.{at, pool_of}
use Rattle.pool_layout.specs.declared.places.Place.TheVariants.{Heap}
use Rattle.pool_layout.specs.Restored.{undone}
use Rattle.clobber_log.specs.Restore.{as_heap_word, word_in_record, old_in_record}
use Rattle.clobber_log.proofs.Backwards.{on_after, kept_after, all_more, part_more, part_here}
use Rattle.clobber_log.proofs.Backwards.{heap_more}
use Rattle.clobber_log.proofs.restoring.restore_records.Goals as goal

pub returns-in-Err-clause-refused : goal.returns-in-Err-clause-refused
returns-in-Err-clause-refused g c =
    let dev = g.P.PmemWork.device in
    let s = c.args.sizes.now in
    let image = view (dev c.args.dev.now).cache in
    let now = view (dev c.loop-left.dev).cache in
    let most = c.loop-left.invariant.most in
    let some = c.loop-left-test.true in
    let room = c.requires.room in
    let m = c.loop-left.left - 1 in
    c.loop-left.invariant.part _ _
    (part_here s (word_in_record s image) (old_in_record s image) c.loop-left.left m
    (word_in_record s now m) (old_in_record s now m)
    (omega arith) (c.loop-left.invariant.kept (8 * (6 + m)) (omega arith))
    (c.loop-left.invariant.kept (8 * (6 + m) + 1) (omega arith))
    _ _ _ c.in-Err.ensures.refused)

pub loop-left-preserved : goal.loop-left-preserved
loop-left-preserved g c =
    let dev = g.P.PmemWork.device in
    let s = c.args.sizes.now in
    let image = view (dev c.args.dev.now).cache in
    let now = view (dev c.loop-left.dev).cache in
    let most = c.loop-left.invariant.most in
    let some = c.loop-left-test.true in
    let room = c.requires.room in
    let m = c.loop-left.left - 1 in
    let is : c.loop-left.left ≡ suc m = omega arith in
    let word = c.loop-left.invariant.kept (8 * (6 + m)) (omega arith) in
    let old = c.loop-left.invariant.kept (8 * (6 + m) + 1) (omega arith) in
    let x = word_in_record s now m in
    let y = old_in_record s now m in
    let done = c.in_default.ensures.done in
    record {
      most = omega arith;
      lines = search rules;
      on = on_after _ _ s (as_heap_word s x) y done ∙ c.loop-left.invariant.on;
      kept = λ p before. kept_after _ _ s (as_heap_word s x) y done p before
          ∙ c.loop-left.invariant.kept p before;
      all = λ b rest. c.loop-left.invariant.all b
          (all_more s (word_in_record s image) (old_in_record s image) c.loop-left.left m x y is
          word old _ _ b done rest);
      part = λ why b rest. c.loop-left.invariant.part why b
          (part_more s (word_in_record s image) (old_in_record s image) c.loop-left.left m x y is
          word old why _ _ b done rest);
      heap = λ w inside.
          heap_more s (word_in_record s image) (old_in_record s image) c.loop-left.left m x y is
          word old _ _ done w inside
          ∙ c.loop-left.invariant.heap w inside;
      steps = search rules;
    }

pub returns-clause-heap : goal.returns-clause-heap
returns-clause-heap g c =
    let dev = g.P.PmemWork.device in
    let s = c.args.sizes.now in
    let image = view (dev c.args.dev.now).cache in
    let ended = c.loop-left-test.false in
    let none : c.loop-left.left ≡ 0 = omega arith in
    λ w inside. subst
    (λ (n : ℕ). undone (word_in_record s image) (old_in_record s image) n
    (λ v. view (dev c.loop-left.dev).cache (at (pool_of s) (Heap v))) w
    ≡ undone (word_in_record s image) (old_in_record s image) c.args.count
    (λ v. image (at (pool_of s) (Heap v))) w)
    none (c.loop-left.invariant.heap w inside)
