use Rattle.std.proofs.Common.{◌≡◌, ◌+◌, ◌<◌, ◌≤◌, ℕ, true}
use Rattle.cache_model.specs.Cache.{view}
use Rattle.pmem.specs.Device.{Device}
use Rattle.pmem.specs.Played.{PlaysAll, PlaysPart}
use Rattle.pmem.specs.declared.answer.Refusal.{Refusal}
use Rattle.pool_layout.specs.Sizes.{heap_start, heap_words}
use Rattle.pool_layout.specs.Places.{at, pool_of}
use Rattle.pool_layout.specs.declared.places.Place.TheVariants.{Heap}
use Rattle.pool_layout.specs.Restored.{undone}
use Rattle.clobber_log.specs.Restore.{back_events, word_in_record, old_in_record}
use Rattle.clobber_log.proofs.restoring.restore_records.Given as goal

-- the words before the heap stay, and restoring the remaining records gives what restoring all of
-- them gives from the start
abbrev pub invariant-loop-left : goal.invariant-loop-left
invariant-loop-left g l =
    let dev = g.P.PmemWork.device in
    let image = view (dev l.initial.dev).cache in
    let word = word_in_record l.sizes image in
    let old = old_in_record l.sizes image in record {
      most : l.left ≤ l.count;
      lines : (dev l.dev).lines ≡ (dev l.initial.dev).lines;
      on : (dev l.dev).on ≡ true;
      kept : (p : ℕ) → p < heap_start l.sizes → view (dev l.dev).cache p ≡ image p;
      all : (b : Device) → PlaysAll (dev l.dev) (back_events l.sizes word old l.left) b
          → PlaysAll (dev l.initial.dev) (back_events l.sizes word old l.count) b;
      part : (why : Refusal) (b : Device)
          → PlaysPart why (dev l.dev) (back_events l.sizes word old l.left) b
          → PlaysPart why (dev l.initial.dev) (back_events l.sizes word old l.count) b;
      heap : (w : ℕ) → w < heap_words l.sizes
          → undone word old l.left (λ v. view (dev l.dev).cache (at (pool_of l.sizes) (Heap v))) w
          ≡ undone word old l.count (λ v. image (at (pool_of l.sizes) (Heap v))) w;
      steps : l.steps + l.left ≡ l.initial.steps + l.count;
    }

abbrev pub decreases-loop-left : goal.decreases-loop-left
decreases-loop-left g l = l.left
