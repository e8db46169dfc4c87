-- The premises of the laws of runs, cut calls and cut recoveries, for `inc 5`.
use Rattle.std.proofs.Common.{◌≡◌, ◌⊎◌, inl, inr, ℕ, [], ◌∷◌, pos, refl}
use Rattle.std.proofs.Common.{arith}
use Rattle.std.specs.Int.{int_wrap}
use Rattle.cache_model.specs.Cache.{view}
use Rattle.pool_layout.specs.Log.{count}
use Rattle.pm_machine.specs.declared.effect.End.TheVariants.{Halted}
use Rattle.pm_machine.specs.declared.records.Policy.TheVariants.{EndPool}
use Rattle.pm_machine.specs.Machine.{Finished}
use Rattle.pm_machine.specs.Logging.{tx_run}
use Rattle.pm_machine.specs.Runs.{heap_in}
use Rattle.crash_law.specs.Law.{collapsed}
use Rattle.crash_law.proofs.Again.{collapsed_one}
use Rattle.run_law.specs.Sound.{IsSoundRun}
use Rattle.recovery.specs.Due.{due_redo}
use Rattle.cut_law.specs.Law.{RunsSound, IsRecoveredTo}
use Rattle.needed_law.specs.SmallPool.{small_sizes, after_inc, owed_once, retired_once}
use Rattle.needed_law.specs.MetRuns.{inc_image, inc_effects, MeetsCutCall, MeetsCutRedo}
use Rattle.needed_law.specs.MetRuns.{MeetsCutClean, RunsMetLaw}
use Rattle.needed_law.proofs.Mets.{good_after, good_retired, owed_once_is, once_count}
use Rattle.needed_law.proofs.Mets.{once_restored}
use Rattle.needed_law.proofs.Mets.{tidy_count}

sound_inc : IsSoundRun EndPool (Halted (pos 8)) inc_effects
sound_inc = record {
  covered = λ w input over. inl (covered_by w input);
  paired = (refl, tt);
  tidy = (refl, refl);
}
  where
    covered_by : (w : ℕ) → (w ≡ 0) ⊎ ((w ≡ 0 → ⊥) × ⊥) → w ≡ 0
    covered_by w (inl e) = e
    covered_by w (inr never) = absurd never.1

run_inc : tx_run EndPool inc_image inc_image.parts.most (heap_in small_sizes (collapsed after_inc))
    1 (pos 5 ∷ []) ≡ Finished (Halted (pos 8)) inc_effects
unfolding view int_wrap
run_inc = refl

runs_inc : RunsSound EndPool inc_image 1 (pos 5 ∷ []) (heap_in small_sizes (collapsed after_inc))
    (Halted (pos 8)) inc_effects
runs_inc = record { few = omega arith; ran = run_inc; sound = sound_inc }

call_met : MeetsCutCall inc_image after_inc 1 (pos 5 ∷ []) 1 (collapsed after_inc) after_inc
    (Halted (pos 8)) inc_effects
unfolding view count
call_met = record {
  begins = record {
    tx_fits = omega arith;
    d_fits = omega arith;
    only = collapsed_one after_inc;
    good = good_after;
    a_fits = omega arith;
    empty = refl;
  };
  runs = runs_inc;
  rest = λ l. refl;
}

redo_met : MeetsCutRedo inc_image owed_once 1 (pos 5 ∷ []) 1
    (heap_in small_sizes (collapsed after_inc)) (pos 3) (collapsed owed_once) owed_once 1
    (Halted (pos 8)) inc_effects
unfolding view
redo_met = record {
  only = collapsed_one owed_once;
  owes = record {
    owed = record {
      super = owed_once_is.super;
      last_is = tt;
      mark = refl;
      done = refl;
      done_fits = owed_once_is.done_fits;
      sealed = refl;
      call_is = owed_once_is.call_is;
      attempt = 1;
      attempt_is = refl;
      attempt_fits = owed_once_is.attempt_fits;
      log = owed_once_is.log;
      in_heap = owed_once_is.in_heap;
      restores = λ w lt kept. once_restored w;
    };
    counted = once_count;
    room = λ lt. omega arith;
  };
  runs = runs_inc;
}

again_met : IsRecoveredTo EndPool inc_image owed_once 1 (pos 5 ∷ []) 1
    (heap_in small_sizes (collapsed after_inc)) (pos 3) (Halted (pos 8)) inc_effects owed_once
    owed_once
again_met = record {
  n = 1;
  owes = redo_met.owes;
  left = (
    [],
    due_redo EndPool inc_image 1 (pos 5 ∷ []) 1 (collapsed owed_once),
    refl,
    λ l. (owed_once, inl refl, λ p on. refl),
  );
}

clean_met : MeetsCutClean inc_image retired_once 2
    (heap_in small_sizes (collapsed retired_once)) (collapsed retired_once) retired_once 1
unfolding view
clean_met = record {
  only = collapsed_one retired_once;
  rests = record { good = good_retired; counted = tidy_count; room = λ lt. omega arith };
}

pub runs_met : RunsMetLaw
runs_met = record {
  sound = sound_inc;
  call = call_met;
  redo = redo_met;
  again = again_met;
  clean = clean_met;
}
