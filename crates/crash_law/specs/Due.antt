-- The lists of events that the calls play. Seal, records, end, restoring and next attempt are the
-- logs' own lists, as the calls promise them. The stores and flushes of a run are listed here, by
-- its trace.
use Rattle.std.specs.Prelude.{ℕ, zero, suc, ◌<◌, ◌≡◌, ◌⊎◌, cond, List, [], ◌∷◌, ◌++◌, ℤ, pos}
use Rattle.cache_model.specs.Event.{CacheEvent, Store, Flush, Fence}
use Rattle.cache_model.specs.Cache.{Words, put}
use Rattle.pool_layout.specs.declared.limits.Sizes.{Sizes}
use Rattle.pool_layout.specs.declared.places.Place.TheVariants.{Heap}
use Rattle.pool_layout.specs.Places.{at, line_of, pool_of}
use Rattle.pool_layout.specs.Restored.{restored}
use Rattle.clobber_log.specs.Record.{record_events}
use Rattle.clobber_log.specs.Reset.{reset_events}
use Rattle.clobber_log.specs.Restore.{back_events, fence_after, first_events}
use Rattle.args_log.specs.Seal.{seal_events}
use Rattle.args_log.specs.Retire.{retire_events, mark_events}
use Rattle.crash_law.specs.Pools.{Call}
pub use Rattle.nvm_base.specs.Listed.{is_listed}

-- a store of a run: its heap word and value, with or without a LOG
pub data Entry : Type 0 where
  Plain Logged : (word : ℕ) (value : ℤ) → Entry

-- the events of the run, with n records and this heap so far
abbrev pub run_events : (z : Sizes) (a n : ℕ) → (ℕ → ℤ) → List Entry → List CacheEvent
run_events z a n heap [] = []
run_events z a n heap (Plain w x ∷ trace) =
    Store (at (pool_of z) (Heap w)) x ∷ run_events z a n (put heap w x) trace
run_events z a n heap (Logged w x ∷ trace) =
    record_events z n w (heap w) (suc a)
    ++ Store (at (pool_of z) (Heap w)) x ∷ run_events z a (suc n) (put heap w x) trace

-- the heap after the run
abbrev pub heap_after : (ℕ → ℤ) → List Entry → ℕ → ℤ
heap_after heap [] = heap
heap_after heap (Plain w x ∷ trace) = heap_after (put heap w x) trace
heap_after heap (Logged w x ∷ trace) = heap_after (put heap w x) trace

-- A trace that comes after n records and these stores: each of its words is in W and in the heap,
-- the first store to each word of E is logged, and the records fit.
abbrev pub IsTrace : (C H : ℕ) (E W : ℕ → Type 0) → ℕ → (ℕ → Type 0) → List Entry → Type 0
IsTrace C H E W n stored [] = Unit {0}
IsTrace C H E W n stored (Plain w x ∷ trace) =
    W w × (w < H) × (E w → stored w) × IsTrace C H E W n (λ u. (u ≡ w) ⊎ stored u) trace
IsTrace C H E W n stored (Logged w x ∷ trace) =
    W w × (w < H) × (n < C) × IsTrace C H E W (suc n) (λ u. (u ≡ w) ⊎ stored u) trace

abbrev pub word_of_entry : Entry → ℕ
word_of_entry (Plain w x) = w
word_of_entry (Logged w x) = w

-- the lines that the trace stores to, each once, in the order of first stores
abbrev pub lines_of : Sizes → List ℕ → List Entry → List ℕ
lines_of z seen [] = []
lines_of z seen (e ∷ trace) =
    cond (is_listed (line_of (pool_of z) (Heap (word_of_entry e))) seen)
    (lines_of z seen trace)
    (line_of (pool_of z) (Heap (word_of_entry e)) ∷ lines_of z
    (line_of (pool_of z) (Heap (word_of_entry e)) ∷ seen) trace)

abbrev pub flush_all : List ℕ → List CacheEvent → List CacheEvent
flush_all [] rest = rest
flush_all (l ∷ ls) rest = Flush l ∷ flush_all ls rest

-- the words of W are the words of the trace
abbrev pub IsStored : ℕ → List Entry → Type 0
IsStored w [] = ⊥
IsStored w (e ∷ trace) = (w ≡ word_of_entry e) ⊎ IsStored w trace

-- records: their number, their heap words and their old values
pub record Records : Type 0 where
  pub n : ℕ
  pub word : ℕ → ℤ
  pub old : ℕ → ℤ

abbrev pub no_records : Records
no_records = record { n = 0; word = λ j. pos 0; old = λ j. pos 0 }

-- one more record
abbrev pub with_record : Records → ℕ → ℤ → Records
with_record r w o = record { n = suc r.n; word = put r.word r.n (pos w); old = put r.old r.n o }

-- the records after a run that begins with this heap
abbrev pub records_after : Records → (ℕ → ℤ) → List Entry → Records
records_after r heap [] = r
records_after r heap (Plain w x ∷ trace) = records_after r (put heap w x) trace
records_after r heap (Logged w x ∷ trace) =
    records_after (with_record r w (heap w)) (put heap w x) trace

-- how a call ends: with a value; with a trap, which ends the pool; or undone, with the last value
-- from before the call
pub data Result : Type 0 where
  Halted : (value : ℤ) → Result
  Trapped : (trap : ℕ) → Result
  Undone : (last : ℤ) → Result

-- the records are put back, and call k is retired with the last value as it is
abbrev pub undo_events : (z : Sizes) (a k : ℕ) → Records → (last : ℤ) → List CacheEvent
undo_events z a k r last =
    (back_events z r.word r.old r.n ++ fence_after r.n) ++ retire_events last (pos k) (pos (suc a))

-- the end of a run that began with this heap: its lines are flushed, and call k is retired with the
-- value; or the mark is set; or the run is undone
abbrev pub end_events : (z : Sizes) (a k : ℕ) → (ℕ → ℤ) → Result → List Entry → List CacheEvent
end_events z a k heap (Halted value) trace =
    flush_all (lines_of z [] trace) (Fence ∷ retire_events value (pos k) (pos (suc a)))
end_events z a k heap (Trapped trap) trace = mark_events trap
end_events z a k heap (Undone last) trace =
    undo_events z a k (records_after no_records heap trace) last

-- the run and its end
abbrev pub due_run : (z : Sizes) (a k : ℕ) → (ℕ → ℤ) → Result → List Entry → List CacheEvent
due_run z a k heap result trace = run_events z a 0 heap trace ++ end_events z a k heap result trace

-- the seal of a call
abbrev pub due_seal : Call → List CacheEvent
due_seal call = seal_events call.function call.args (pos (suc call.done))

abbrev pub due_call : (z : Sizes) (a : ℕ) → Call → (ℕ → ℤ) → Result → List Entry → List CacheEvent
due_call z a call heap result trace = due_seal call ++ due_run z a (suc call.done) heap result trace

-- the events of the recovery of a sealed image with attempt a and n records
abbrev pub redo_events : (z : Sizes) (a k : ℕ) → Words → ℕ → Result → List Entry → List CacheEvent
redo_events z a k image zero result trace =
    due_run z a k (restored (pool_of z) a image) result trace
redo_events z a k image (suc n) result trace =
    first_events z image (suc n)
    ++ (reset_events z a ++ due_run z (suc a) k (restored (pool_of z) a image) result trace)

-- the recovery of an image that isn't sealed
abbrev pub clean_events : (z : Sizes) (a : ℕ) → ℕ → List CacheEvent
clean_events z a zero = []
clean_events z a (suc n) = reset_events z a
