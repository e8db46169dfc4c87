-- The events that a recovery of a sealed pool plays are the crash law's list; what its cuts leave.
use Rattle.std.proofs.Common.{◌≡◌, ◌≢◌, ◌⊎◌, ℕ, zero, suc, ◌+◌, ◌^◌, ◌<◌, ◌≤◌, List, ◌++◌, length}
use Rattle.std.proofs.Common.{Some, ℤ, pos, refl, sym, ap, ◌∙◌, subst, arith, append_assoc}
use Rattle.cache_model.specs.Event.{CacheEvent, Store, Flush}
use Rattle.cache_model.specs.Cache.{Words, Cache, view}
use Rattle.cache_model.specs.Play.{apply, play}
use Rattle.cache_model.specs.Image.{Images, HasOne}
use Rattle.cache_model.specs.During.{during}
use Rattle.cache_model.proofs.Views.{view_same, view_other, view_flush, view_fence}
use Rattle.cache_model.proofs.During.{play_append}
use Rattle.pool_layout.specs.declared.places.TheConstants.{LAST, DONE, ATTEMPT, SEAL}
use Rattle.pool_layout.specs.declared.places.TheConstants.{ARGUMENTS}
use Rattle.pool_layout.specs.declared.limits.Sizes.{Sizes}
use Rattle.pool_layout.specs.declared.places.Layout.{Layout}
use Rattle.pool_layout.specs.declared.places.Place.TheVariants.{RecordWord, RecordOld, RecordStamp}
use Rattle.pool_layout.specs.declared.places.Place.TheVariants.{Heap}
use Rattle.pool_layout.specs.Sizes.{heap_words}
use Rattle.pool_layout.specs.Places.{at, pool_of}
use Rattle.pool_layout.specs.Log.{count}
use Rattle.pool_layout.specs.Restored.{undone, restored}
use Rattle.pool_layout.proofs.Records.{pos_inj}
use Rattle.clobber_log.specs.Logs.{attempt_of, attempt_in, count_in}
use Rattle.clobber_log.specs.Reset.{reset_events}
use Rattle.clobber_log.specs.Restore.{restore_events}
use Rattle.pm_machine.specs.declared.effect.Effect.{Effect}
use Rattle.pm_machine.specs.declared.effect.End.{End}
use Rattle.pm_machine.specs.declared.image.Image.{Image}
use Rattle.pm_machine.specs.Effects.{heap_end, records_end}
use Rattle.pm_machine.specs.Inputs.{AreAlike}
use Rattle.pm_machine.specs.declared.records.Policy.{Policy}
use Rattle.pm_machine.specs.declared.records.Policy.TheVariants.{EndPool, RollBack}
use Rattle.pm_machine.specs.declared.effect.End.TheVariants.{Halted, Trapped}
use Rattle.pm_machine.specs.Machine.{Finished, start, State}
use Rattle.pm_machine.specs.Logging.{tx_run}
use Rattle.pm_machine.specs.Runs.{heap_in, Due, due_on}
use Rattle.crash_law.specs.Pools.{Owed}
use Rattle.crash_law.specs.Due as crash
use Rattle.crash_law.specs.Due.{no_records}
use Rattle.crash_law.specs.Law.{IsRun, IsEnd, IsEnded, KeepsLast, Retires, IsAtRest}
use Rattle.crash_law.proofs.Rest.{redo_rest}
use Rattle.crash_law.proofs.Redo as whole
use Rattle.run_law.specs.Seen.{trace_in, result_of, E, W}
use Rattle.run_law.specs.Sound.{IsSoundRun}
use Rattle.run_law.proofs.Join.{join}
use Rattle.run_law.proofs.Runs.{run_is, restored_alike}
use Rattle.tx_run.specs.Due as plays
use Rattle.recovery.specs.Due.{due_reset, due_back, due_redo}
use Rattle.cut_law.specs.Steps.{run_steps}
use Rattle.cut_law.specs.Law.{call_of, pool_with}
use Rattle.cut_law.proofs.Misses.{view_missed, view_one}
use Rattle.cut_law.proofs.Numbers.{attempt_small}
use Rattle.cut_law.proofs.Holds.{Holds}
use Rattle.cut_law.proofs.Dues.{empty, owes, run_same, steps_are, none_there}
use Rattle.cut_law.proofs.Backs.{misses_restore, restore_same, heap_restored}

-- the end of a call whose last value is kept
last_kept : (p : Policy) (last x : ℤ) (end : End) → KeepsLast (result_of p last end) x
    → result_of p x end ≡ result_of p last end
last_kept p last x (Halted v) kept = refl
last_kept EndPool last x (Trapped k) kept = refl
last_kept RollBack last x (Trapped k) kept = ap crash.Undone kept

module _ (p : Policy) (image : Image) (super : Words) (tx : ℕ) (args : List ℤ) (c : Cache)
    (one : Words) (d : ℕ) (h : Words) (last : ℤ) (end : End) (es : List Effect)
    (few : length args ≤ ARGUMENTS) (only : HasOne c one)
    (owed : Owed (pool_with image super) (call_of d tx args) (E p es) (W es) h
    (KeepsLast (result_of p last end)) one)
    (ran : tx_run p image image.parts.most h tx args ≡ Finished end es)
    (sound : IsSoundRun p end es) where
  abbrev z : Sizes
  z = image.parts.sizes

  abbrev l : Layout
  l = pool_of z

  abbrev a : ℕ
  a = owed.attempt

  abbrev r : Words
  r = restored l a one

  abbrev words : ℕ → ℤ
  words = λ j. one (at l (RecordWord j))

  abbrev olds : ℕ → ℤ
  olds = λ j. one (at l (RecordOld j))

  abbrev heap_now : Words
  heap_now = λ w. one (at l (Heap w))

  seen : view c ≡ one
  seen = λ i p. view_one c one only p i

  alike : AreAlike (heap_words z) es h r
  alike = restored_alike p (heap_words z) es h r (λ w less kept. owed.restores w less kept)

  attempt_fits : a ≤ 2 ^ 62
  attempt_fits = owed.attempt_fits

  attempt_one : attempt_in z one ≡ a
  attempt_one = ap attempt_of owed.attempt_is ∙ attempt_small a (omega arith)

  counted_in : (n : ℕ) → count l a one ≡ n → count_in z one ≡ n
  counted_in n counted = ap (λ (b : ℕ). count l b one) attempt_one ∙ counted

  restored_is : (n : ℕ) → count l a one ≡ n → (w : ℕ) → r w ≡ undone words olds n heap_now w
  unfolding restored
  restored_is n counted w = ap (λ (m : ℕ). undone words olds m heap_now w) counted

  abbrev run_list : ℕ → List CacheEvent
  run_list b = crash.due_run z b (suc d) r (result_of p last end) (trace_in es)

  abbrev s : State
  s = start image tx args

  -- the last value of the image
  abbrev before : ℤ
  before = one LAST

  -- the run from a cache whose heap is the restored one
  run_list_is : (b : Cache) (k : ℕ) → k ≤ 2 ^ 62 → view b LAST ≡ before → view b DONE ≡ pos d
      → view b ATTEMPT ≡ pos k → Holds z k no_records b → heap_in z b ≡ r
      → plays.due_run p image s b ≡ run_list k
  run_list_is b k fits last_is done attempt none heap =
      run_same p image tx args b d k before h r end es owed.done_fits fits last_is done attempt none
      heap alike ran sound
      ∙ ap (λ (x : crash.Result). crash.due_run z k (suc d) r x (trace_in es))
      (last_kept p last before end owed.last_is)

  -- what is due of the run of the recovery, and its steps; no record is valid when it begins
  pub record Owes (b : Cache) : Type 0 where
    pub fate : (due_on p image (start image tx args) b).fate ≡ Some end
    pub records : (due_on p image (start image tx args) b).records ≡ records_end 0 es
    pub steps : plays.run_steps p image (start image tx args) b ≡ run_steps p end es
    pub none : count_in z (view b) ≡ 0

  owing : (b : Cache) (k : ℕ) → k ≤ 2 ^ 62 → view b LAST ≡ before → view b DONE ≡ pos d
      → view b ATTEMPT ≡ pos k → Holds z k no_records b → heap_in z b ≡ r → Owes b
  owing b k fits last_is done attempt none heap =
      let is = owes p image tx args b d k before h r end es owed.done_fits fits last_is done attempt
      none heap alike ran sound in
      record {
        fate = ap (λ (x : Due). x.fate) is;
        records = ap (λ (x : Due). x.records) is;
        steps = steps_are p image tx args b d k before h r end es owed.done_fits fits last_is done
            attempt none heap alike ran sound;
        none = empty p image tx args b d k before h r end es owed.done_fits fits last_is done
            attempt none heap alike ran sound;
      }

  -- no record is valid
  module _ (counted : count l a one ≡ 0) where
    none_now : Holds z a no_records c
    none_now = none_there image a c one owed.log counted (λ q more. view_one c one only q)

    heap_there : heap_in z c ≡ r
    heap_there = λ i w. (view_one c one only (at l (Heap w)) ∙ sym (restored_is 0 counted w)) i

    pub none_same : plays.due_run p image s c ≡ run_list a
    none_same =
        run_list_is c a attempt_fits (view_one c one only LAST)
        (view_one c one only DONE ∙ owed.done) (view_one c one only ATTEMPT ∙ owed.attempt_is)
        none_now heap_there

    none_owes : Owes c
    none_owes =
        owing c a attempt_fits (view_one c one only LAST)
        (view_one c one only DONE ∙ owed.done) (view_one c one only ATTEMPT ∙ owed.attempt_is)
        none_now heap_there

  -- some records are valid
  module _ (m : ℕ) (counted : count l a one ≡ suc m) (lower : a < 2 ^ 62) where
    in_heap : (j : ℕ) → j < suc m → (u : ℕ) × (words j ≡ pos u) × (u < heap_words z)
    in_heap j less = owed.in_heap j (let e = counted in omega arith)

    abbrev first : List CacheEvent
    first = restore_events z one

    abbrev reset : List CacheEvent
    reset = reset_events z a

    abbrev middle : Cache
    middle = play c first

    abbrev cache_after : Cache
    cache_after = play middle reset

    attempt_middle : attempt_in z (view middle) ≡ a
    attempt_middle = ap attempt_of (view_missed first c ATTEMPT
        (misses_restore z ATTEMPT one (omega arith))
        ∙ ap (λ (v : Words). v ATTEMPT) seen) ∙ attempt_one

    back_is : due_back z (suc m) c ≡ first ++ reset
    back_is =
        ap (λ (v : Words). restore_events z v ++ due_reset z (play c (restore_events z v))) seen
        ∙ ap (λ (b : ℕ). first ++ reset_events z b) attempt_middle

    -- after the reset
    reset_other : (p : ℕ) → p ≢ ATTEMPT → view cache_after p ≡ view middle p
    reset_other p ne =
        view_fence (apply (apply middle (Store ATTEMPT (pos (a + 1)))) (Flush 2)) p
        ∙ view_flush (apply middle (Store ATTEMPT (pos (a + 1)))) 2 p
        ∙ view_other middle ATTEMPT p (pos (a + 1)) ne

    attempt_after : view cache_after ATTEMPT ≡ pos (suc a)
    attempt_after =
        view_fence (apply (apply middle (Store ATTEMPT (pos (a + 1)))) (Flush 2)) ATTEMPT
        ∙ view_flush (apply middle (Store ATTEMPT (pos (a + 1)))) 2 ATTEMPT
        ∙ view_same middle ATTEMPT (pos (a + 1))
        ∙ ap pos (let e : a + 1 ≡ suc a = omega arith in e)

    low_after : (p : ℕ) → p ≤ SEAL → p ≢ ATTEMPT → view cache_after p ≡ one p
    low_after p less ne = reset_other p ne
        ∙ view_missed first c p (misses_restore z p one (omega arith)) ∙ view_one c one only p

    heap_of_after : heap_in z cache_after ≡ r
    heap_of_after = λ i w. (
        reset_other (at l (Heap w)) (λ e. absurd (omega arith))
        ∙ heap_restored z one (suc m) c w (counted_in (suc m) counted) in_heap
        ∙ ap (λ (g : Words). undone words olds (suc m) g w)
        (λ j v. view_one c one only (at l (Heap v)) j)
        ∙ sym (restored_is (suc m) counted w)
        ) i

    -- no stamp is that of the next attempt
    none_after : Holds z (suc a) no_records cache_after
    none_after = record {
      room = omega arith;
      in_heap = λ j lt. absurd (omega arith);
      words = λ j lt. absurd (omega arith);
      olds = λ j lt. absurd (omega arith);
      stamps = λ j lt. absurd (omega arith);
      others = λ j ge less e.
          let stamp = owed.log.stamps j less in
          let same : view cache_after (at l (RecordStamp j)) ≡ one (at l (RecordStamp j)) =
          reset_other (at l (RecordStamp j)) (λ f. absurd (omega arith))
          ∙ view_missed first c (at l (RecordStamp j))
          (misses_restore z (at l (RecordStamp j)) one (omega arith))
          ∙ view_one c one only (at l (RecordStamp j)) in
          let is : stamp.0 ≡ suc (suc a) =
          pos_inj stamp.0 (suc (suc a)) (sym stamp.2 ∙ sym same ∙ e) in
          let most = stamp.1 in
          absurd (omega arith);
    }

    after_is : play c (due_back z (suc m) c) ≡ cache_after
    after_is = ap (play c) back_is ∙ play_append c first reset

    last_after : view cache_after LAST ≡ before
    last_after = low_after LAST (omega arith) (λ e. absurd (omega arith))

    done_after : view cache_after DONE ≡ pos d
    done_after = low_after DONE (omega arith) (λ e. absurd (omega arith)) ∙ owed.done

    pub some_same : due_redo p image tx args (suc m) c
        ≡ crash.redo_events z a (suc d) one (suc m) (result_of p last end) (trace_in es)
    some_same =
        ap (λ (b : Cache). due_back z (suc m) c ++ plays.due_run p image s b) after_is
        ∙ ap (λ (es : List CacheEvent). es ++ plays.due_run p image s cache_after) back_is
        ∙ ap (λ (rest : List CacheEvent). (first ++ reset) ++ rest)
        (run_list_is cache_after (suc a) (omega arith) last_after done_after attempt_after
        none_after
        heap_of_after)
        ∙ append_assoc first reset (run_list (suc a))
        ∙ ap (λ (es : List CacheEvent). es ++ (reset ++ run_list (suc a)))
        (restore_same z one (suc m) (counted_in (suc m) counted))

    pub some_owes : Owes (play c (due_back z (suc m) c))
    some_owes = subst Owes (sym after_is)
        (owing cache_after (suc a) (omega arith) last_after done_after attempt_after none_after
        heap_of_after)

  pub redo_owes : (n : ℕ) → count l a one ≡ n → (0 < n → a < 2 ^ 62)
      → Owes (play c (due_back z n c))
  redo_owes zero counted room = none_owes counted
  redo_owes (suc m) counted room = some_owes m counted (room (omega arith))

  events_same : (n : ℕ) → count l a one ≡ n → (0 < n → a < 2 ^ 62) →
      due_redo p image tx args n c
      ≡ crash.redo_events z a (suc d) one n (result_of p last end) (trace_in es)
  events_same zero counted room = none_same counted
  events_same (suc m) counted room = some_same m counted (room (omega arith))

  abbrev Left : Words → Words → Type 0
  Left g other = Owed (pool_with image super) (call_of d tx args) (E p es) (W es) h
      (KeepsLast (result_of p last end)) other
      ⊎ IsEnd (pool_with image super) (call_of d tx args) h g (result_of p last end) other

  is_run : IsRun (pool_with image super) (E p es) (W es) (result_of p last end) (trace_in es)
  is_run = run_is p last image super image.parts.most s h end es tt ran sound

  pub cut_redo : (n : ℕ) → count l a one ≡ n → (0 < n → a < 2 ^ 62) →
      during c (due_redo p image tx args n c) (Images (Left (heap_end h es)))
      × Images (IsEnded (pool_with image super) (call_of d tx args) h (heap_end h es)
      (result_of p last end))
      (play c (due_redo p image tx args n c))
  cut_redo n counted room =
      subst (λ (g : Words). during c (due_redo p image tx args n c) (Images (Left g))
      × Images (IsEnded (pool_with image super) (call_of d tx args) h g (result_of p last end))
      (play c (due_redo p image tx args n c)))
      (sym (join z a h end es sound.paired sound.tidy).1)
      (subst (λ (events : List CacheEvent).
      during c events (Images (Left (crash.heap_after h (trace_in es))))
      × Images (IsEnded (pool_with image super) (call_of d tx args) h
      (crash.heap_after h (trace_in es)) (result_of p last end)) (play c events))
      (sym (events_same n counted room))
      (whole.cut_redo (pool_with image super) (call_of d tx args) (E p es) (W es) h
      (result_of p last end) (trace_in es) (omega arith) is_run one owed n counted room c only))

  pub redo_at_rest : (n : ℕ) → count l a one ≡ n → (0 < n → a < 2 ^ 62)
      → Retires (result_of p last end) → IsAtRest c
      → IsAtRest (play c (due_redo p image tx args n c))
  redo_at_rest n counted room retires rest =
      subst (λ (events : List CacheEvent). IsAtRest (play c events))
      (sym (events_same n counted room))
      (redo_rest (pool_with image super) (E p es) (W es) (result_of p last end) (trace_in es) is_run
      retires a (suc d) one n c rest)
