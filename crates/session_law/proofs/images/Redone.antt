-- No event of the recovery of an owed transaction stores the seal.
use Rattle.std.proofs.Common.{◌≡◌, ℕ, zero, suc, ◌^◌, ◌<◌, ◌≤◌, List, [], ◌∷◌, ◌++◌, length, ℤ, pos}
use Rattle.std.proofs.Common.{sym, subst, arith}
use Rattle.cache_model.specs.Event.{CacheEvent, Store, Fence}
use Rattle.cache_model.specs.Cache.{Words, put, Cache}
use Rattle.cache_model.specs.Image.{HasOne}
use Rattle.pool_layout.specs.declared.places.TheConstants.{SEAL}
use Rattle.pool_layout.specs.declared.places.Place.TheVariants.{Heap}
use Rattle.pool_layout.specs.declared.limits.Sizes.{Sizes}
use Rattle.pool_layout.specs.Places.{at, pool_of}
use Rattle.pool_layout.specs.Restored.{restored}
use Rattle.pool_layout.specs.Log.{count}
use Rattle.clobber_log.specs.Logs.{count_in}
use Rattle.clobber_log.specs.Record.{record_events}
use Rattle.clobber_log.specs.Reset.{reset_events}
use Rattle.clobber_log.specs.Restore.{first_events}
use Rattle.args_log.specs.Retire.{retire_events, mark_events}
use Rattle.pm_machine.specs.declared.effect.Effect.{Effect}
use Rattle.pm_machine.specs.declared.effect.End.{End}
use Rattle.pm_machine.specs.declared.records.Policy.{Policy}
use Rattle.pm_machine.specs.declared.image.Image.{Image}
use Rattle.pm_machine.specs.Machine.{Finished}
use Rattle.pm_machine.specs.Logging.{tx_run}
use Rattle.crash_law.specs.Pools.{Owed}
use Rattle.crash_law.specs.Due as crash
use Rattle.crash_law.specs.Law.{KeepsLast}
use Rattle.run_law.specs.Seen.{trace_in, result_of, E, W}
use Rattle.run_law.specs.Sound.{IsSoundRun}
use Rattle.recovery.specs.Due.{due_redo}
use Rattle.cut_law.specs.Law.{call_of, pool_with}
use Rattle.cut_law.proofs.Redoes.{none_same, some_same}
use Rattle.cut_law.proofs.Misses.{Misses, misses_append}
use Rattle.cut_law.proofs.Backs.{misses_back, misses_fence, misses_restore, restore_same}
use Rattle.clobber_log.specs.Restore.{back_events, fence_after}

misses_trace : (z : Sizes) (a n : ℕ) (heap : Words) (trace : List crash.Entry)
    → Misses SEAL (crash.run_events z a n heap trace)
misses_trace z a n heap [] = tt
misses_trace z a n heap (crash.Plain w x ∷ trace) =
    ((λ e. absurd (omega arith)), misses_trace z a n (put heap w x) trace)
misses_trace z a n heap (crash.Logged w x ∷ trace) =
    misses_append SEAL (record_events z n w (heap w) (suc a))
    (Store (at (pool_of z) (Heap w)) x ∷ crash.run_events z a (suc n) (put heap w x) trace) (
      (λ e. absurd (omega arith)),
      ((λ e. absurd (omega arith)), ((λ e. absurd (omega arith)), tt)),
    )
    ((λ e. absurd (omega arith)), misses_trace z a (suc n) (put heap w x) trace)

misses_lines : (ls : List ℕ) (rest : List CacheEvent) → Misses SEAL rest
    → Misses SEAL (crash.flush_all ls rest)
misses_lines [] rest misses = misses
misses_lines (l ∷ ls) rest misses = misses_lines ls rest misses

misses_end : (z : Sizes) (a k : ℕ) (heap : Words) (result : crash.Result)
    (trace : List crash.Entry) → Misses SEAL (crash.end_events z a k heap result trace)
unfolding retire_events mark_events
misses_end z a k heap (crash.Halted value) trace =
    misses_lines (crash.lines_of z [] trace) (Fence ∷ retire_events value (pos k) (pos (suc a))) (
      (λ e. absurd (omega arith)),
      ((λ e. absurd (omega arith)), ((λ e. absurd (omega arith)), tt)),
    )
misses_end z a k heap (crash.Trapped trap) trace = ((λ e. absurd (omega arith)), tt)
misses_end z a k heap (crash.Undone last) trace =
    let r : crash.Records = crash.records_after crash.no_records heap trace in
    misses_append SEAL (back_events z r.word r.old r.n ++ fence_after r.n)
    (retire_events last (pos k) (pos (suc a)))
    (misses_append SEAL (back_events z r.word r.old r.n) (fence_after r.n)
    (misses_back z SEAL r.word r.old r.n (omega arith)) (misses_fence SEAL r.n)) (
      (λ e. absurd (omega arith)),
      ((λ e. absurd (omega arith)), ((λ e. absurd (omega arith)), tt)),
    )

misses_due : (z : Sizes) (a k : ℕ) (heap : Words) (result : crash.Result) (trace : List crash.Entry)
    → Misses SEAL (crash.due_run z a k heap result trace)
misses_due z a k heap result trace =
    misses_append SEAL (crash.run_events z a 0 heap trace)
    (crash.end_events z a k heap result trace)
    (misses_trace z a 0 heap trace) (misses_end z a k heap result trace)

misses_redo : (z : Sizes) (a k : ℕ) (one : Words) (n : ℕ) (result : crash.Result)
    (trace : List crash.Entry) → count_in z one ≡ n
    → Misses SEAL (crash.redo_events z a k one n result trace)
misses_redo z a k one zero result trace counted =
    misses_due z a k (restored (pool_of z) a one) result trace
misses_redo z a k one (suc n) result trace counted =
    misses_append SEAL (first_events z one (suc n))
    (reset_events z a ++ crash.due_run z (suc a) k (restored (pool_of z) a one) result trace)
    (subst (Misses SEAL) (restore_same z one (suc n) counted)
    (misses_restore z SEAL one (omega arith)))
    (misses_append SEAL (reset_events z a)
    (crash.due_run z (suc a) k (restored (pool_of z) a one) result trace)
    ((λ e. absurd (omega arith)), tt)
    (misses_due z (suc a) k (restored (pool_of z) a one) result trace))

-- no event of a recovery stores the seal
pub redo_misses : (p : Policy) (image : Image) (super : Words) (tx : ℕ) (args : List ℤ) (c : Cache)
    (one : Words) (d : ℕ) (h : Words) (last : ℤ) (end : End) (es : List Effect)
    (few : length args ≤ 22) (only : HasOne c one)
    (owed : Owed (pool_with image super) (call_of d tx args) (E p es) (W es) h
    (KeepsLast (result_of p last end)) one)
    (ran : tx_run p image image.parts.most h tx args ≡ Finished end es)
    (sound : IsSoundRun p end es)
    (n : ℕ) → count (pool_of image.parts.sizes) owed.attempt one ≡ n
    → (0 < n → owed.attempt < 2 ^ 62) → count_in image.parts.sizes one ≡ n
    → Misses SEAL (due_redo p image tx args n c)
redo_misses p image super tx args c one d h last end es few only owed ran sound zero counted room
    valid =
    subst (Misses SEAL)
    (sym (none_same p image super tx args c one d h last end es few only owed ran sound counted))
    (misses_redo image.parts.sizes owed.attempt (suc d) one 0 (result_of p last end) (trace_in es)
    valid)
redo_misses p image super tx args c one d h last end es few only owed ran sound (suc m) counted room
    valid =
    subst (Misses SEAL)
    (sym (some_same p image super tx args c one d h last end es few only owed ran sound m counted
    (room (omega arith))))
    (misses_redo image.parts.sizes owed.attempt (suc d) one (suc m) (result_of p last end)
    (trace_in es) valid)
