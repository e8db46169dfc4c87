-- The due events of a recovery, by the content of the pool. Each part is a function of the cache in
-- which it begins.
use Rattle.std.specs.Prelude.{ℕ, zero, suc, ◌++◌, List, [], ℤ}
use Rattle.cache_model.specs.Event.{CacheEvent}
use Rattle.cache_model.specs.Cache.{Cache, view}
use Rattle.cache_model.specs.Play.{play}
use Rattle.pool_layout.specs.declared.limits.Sizes.{Sizes}
use Rattle.clobber_log.specs.Logs.{attempt_in}
use Rattle.clobber_log.specs.Reset.{reset_events}
use Rattle.clobber_log.specs.Restore.{restore_events}
use Rattle.pm_machine.specs.declared.records.Policy.{Policy}
use Rattle.pm_machine.specs.declared.image.Image.{Image}
use Rattle.pm_machine.specs.Machine.{start}
use Rattle.tx_run.specs.Due.{due_run}

-- the next attempt begins
abbrev pub due_reset : Sizes → Cache → List CacheEvent
due_reset s c = reset_events s (attempt_in s (view c))

-- for a pool that isn't sealed, with n valid records
abbrev pub due_clean : Sizes → ℕ → Cache → List CacheEvent
due_clean s zero c = []
due_clean s (suc n) c = due_reset s c

-- n valid records are restored, and the next attempt begins
abbrev pub due_back : Sizes → ℕ → Cache → List CacheEvent
due_back s zero c = []
due_back s (suc n) c = restore_events s (view c) ++ due_reset s (play c (restore_events s (view c)))

-- the sealed call runs again
abbrev pub due_redo : Policy → Image → (tx : ℕ) → List ℤ → ℕ → Cache → List CacheEvent
due_redo p image tx args n c =
    due_back image.parts.sizes n c ++ due_run p image (start image tx args)
    (play c (due_back image.parts.sizes n c))
