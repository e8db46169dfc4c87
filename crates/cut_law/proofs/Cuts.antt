-- After each event of a call the image is one of those that the crash law names.
use Rattle.std.proofs.Common.{◌≡◌, ◌⊎◌, inl, inr, ℕ, suc, ◌^◌, ◌<◌, ◌≤◌, w64, List, ◌++◌, length}
use Rattle.std.proofs.Common.{take, Some, ℤ, pos, refl, sym, ap, ◌∙◌, subst, arith}
use Rattle.std.specs.Int.{cast_signed}
use Rattle.std.proofs.lemmas.Int.{to_z_pos}
use Rattle.std.proofs.lemmas.List.{take_all}
use Rattle.cache_model.specs.Event.{CacheEvent}
use Rattle.cache_model.specs.Cache.{Words, Cache, view}
use Rattle.cache_model.specs.Play.{play}
use Rattle.cache_model.specs.Image.{Images, HasOne}
use Rattle.cache_model.specs.During.{during}
use Rattle.pool_layout.specs.declared.places.TheConstants.{LAST, DONE, ATTEMPT, FUNCTION, SEAL}
use Rattle.pool_layout.specs.declared.places.TheConstants.{ARGUMENTS}
use Rattle.pool_layout.specs.declared.limits.Sizes.{Sizes}
use Rattle.pool_layout.specs.declared.places.Place.TheVariants.{Last, Heap}
use Rattle.pool_layout.specs.Places.{at, pool_of}
use Rattle.pool_layout.specs.Log.{count}
use Rattle.pool_layout.specs.Good.{Pool, Good}
use Rattle.clobber_log.specs.Logs.{count_in}
use Rattle.args_log.specs.Next.{number_after}
use Rattle.args_log.specs.Seal.{seal_events}
use Rattle.pm_machine.specs.declared.effect.Effect.{Effect}
use Rattle.pm_machine.specs.declared.effect.End.{End}
use Rattle.pm_machine.specs.declared.effect.End.TheVariants.{Halted, Trapped}
use Rattle.pm_machine.specs.declared.records.Policy.{Policy}
use Rattle.pm_machine.specs.declared.records.Policy.TheVariants.{EndPool, RollBack}
use Rattle.pm_machine.specs.declared.image.Image.{Image}
use Rattle.pm_machine.specs.Effects.{events_all, heap_end, records_end, steps_in}
use Rattle.pm_machine.specs.Machine.{Finished, start, State}
use Rattle.pm_machine.specs.Logging.{tx_run}
use Rattle.pm_machine.specs.Runs.{heap_in, due_on}
use Rattle.crash_law.specs.Pools.{Call}
use Rattle.crash_law.specs.Due as crash
use Rattle.crash_law.specs.Due.{no_records}
use Rattle.crash_law.specs.Law.{IsRun, IsCut, IsEnded, KeepsLast, Retires, IsAtRest}
use Rattle.crash_law.proofs.Rest.{call_rest}
use Rattle.crash_law.proofs.Whole as whole
use Rattle.run_law.specs.Seen.{trace_in, result_of, E, W}
use Rattle.run_law.specs.Sound.{IsSoundRun}
use Rattle.run_law.proofs.Join.{join}
use Rattle.run_law.proofs.Runs.{run_is}
use Rattle.tx_run.specs.Due as plays
use Rattle.tx_run.specs.Due.{due_call}
use Rattle.cut_law.specs.Steps.{run_steps}
use Rattle.cut_law.specs.Law.{call_of, pool_with}
use Rattle.cut_law.proofs.Misses.{Misses, view_missed, misses_seal, view_one}
use Rattle.cut_law.proofs.Numbers.{next_is}
use Rattle.cut_law.proofs.Holds.{Holds}
use Rattle.cut_law.proofs.Dues.{empty, owes, run_same, steps_are, none_there}

-- the last value is as the call's end asks
pub keeps : (p : Policy) (last : ℤ) (end : End) → KeepsLast (result_of p last end) last
keeps p last (Halted v) = tt
keeps EndPool last (Trapped k) = tt
keeps RollBack last (Trapped k) = refl

-- whether a call is retired doesn't depend on the last value
pub retires_any : (p : Policy) (last other : ℤ) (end : End) → Retires (result_of p last end)
    → Retires (result_of p other end)
retires_any p last other (Halted v) is = tt
retires_any EndPool last other (Trapped k) is = is
retires_any RollBack last other (Trapped k) is = tt

module _ (p : Policy) (image : Image) (super : Words) (tx : ℕ) (args : List ℤ) (c : Cache)
    (one : Words) (d : ℕ) (end : End) (es : List Effect)
    (tx_fits : tx < 2 ^ 63) (few : length args ≤ ARGUMENTS) (d_fits : d < 2 ^ 62)
    (only : HasOne c one)
    (good : Good (pool_with image super) d (heap_in image.parts.sizes c) one)
    (a_fits : good.attempt < 2 ^ 62)
    (empty_one : count (pool_of image.parts.sizes) good.attempt one ≡ 0)
    (ran : tx_run p image image.parts.most (heap_in image.parts.sizes c) tx args
    ≡ Finished end es)
    (sound : IsSoundRun p end es) where
  abbrev z : Sizes
  z = image.parts.sizes

  abbrev h : Words
  h = heap_in z c

  abbrev s : State
  s = start image tx args

  abbrev a : ℕ
  a = good.attempt

  abbrev pool : Pool
  pool = pool_with image super

  abbrev call : Call
  call = call_of d tx args

  abbrev last : ℤ
  last = one (at (pool_of z) Last)

  abbrev sealing : List CacheEvent
  sealing = plays.due_seal tx args c

  abbrev sealed : Cache
  sealed = play c sealing

  missed : (q : ℕ) → (q < FUNCTION) ⊎ (SEAL < q) → Misses q sealing
  missed q out = misses_seal (cast_signed w64 tx) (take ARGUMENTS args)
      (number_after (view c DONE)) q
      (subst (λ (xs : List ℤ). length xs ≤ ARGUMENTS) (sym (take_all ARGUMENTS args few)) few) out

  seen : (q : ℕ) → (q < FUNCTION) ⊎ (SEAL < q) → view sealed q ≡ one q
  seen q out = view_missed sealing c q (missed q out) ∙ view_one c one only q

  same_heap : heap_in z sealed ≡ h
  same_heap = λ i w. view_missed sealing c (at (pool_of z) (Heap w))
      (missed (at (pool_of z) (Heap w)) (inr (omega arith))) i

  last_is : view sealed LAST ≡ last
  last_is = seen LAST (inl (omega arith))

  done : view sealed DONE ≡ pos d
  done = seen DONE (inl (omega arith)) ∙ good.done

  attempt : view sealed ATTEMPT ≡ pos a
  attempt = seen ATTEMPT (inl (omega arith)) ∙ good.attempt_is

  none : Holds z a no_records sealed
  none = none_there image a sealed one good.log empty_one (λ q more. seen q (inr more))

  a_le : a ≤ 2 ^ 62
  a_le = omega arith

  d_le : d ≤ 2 ^ 62
  d_le = omega arith

  run_after : plays.due_run p image s sealed
      ≡ crash.due_run z a (suc d) h (result_of p last end) (trace_in es)
  run_after = run_same p image tx args sealed d a last h h end es d_le a_le last_is done attempt
      none same_heap (λ u less kept. refl) ran sound

  -- what is due of the run, and its steps
  pub owes_after : due_on p image s sealed
      ≡ record {
        events = events_all z a 0 h es;
        fate = Some end;
        steps = suc (steps_in es);
        records = records_end 0 es;
      }
  owes_after = owes p image tx args sealed d a last h h end es d_le a_le last_is done attempt none
      same_heap (λ u less kept. refl) ran sound

  pub steps_after : plays.run_steps p image s sealed ≡ run_steps p end es
  steps_after = steps_are p image tx args sealed d a last h h end es d_le a_le last_is done attempt
      none same_heap (λ u less kept. refl) ran sound

  pub empty_after : count_in z (view sealed) ≡ 0
  empty_after = empty p image tx args sealed d a last h h end es d_le a_le last_is done attempt none
      same_heap (λ u less kept. refl) ran sound

  pub call_is : due_call p image tx args c
      ≡ crash.due_call z a call h (result_of p last end) (trace_in es)
  unfolding due_call
  call_is =
      let rest : List CacheEvent =
      crash.due_run z a (suc d) h (result_of p last end) (trace_in es) in
      ap (λ (r : List CacheEvent). sealing ++ r) run_after
      ∙ ap (λ (f : ℤ). seal_events f (take ARGUMENTS args) (number_after (view c DONE)) ++ rest)
      (to_z_pos w64 tx tx_fits)
      ∙ ap (λ (xs : List ℤ). seal_events (pos tx) xs (number_after (view c DONE)) ++ rest)
      (take_all ARGUMENTS args few)
      ∙ ap (λ (k : ℤ). seal_events (pos tx) args k ++ rest)
      (next_is (view c DONE) d (view_one c one only DONE ∙ good.done) d_le)

  is_run : IsRun pool (E p es) (W es) (result_of p last end) (trace_in es)
  is_run = run_is p last image super image.parts.most (start image tx args) h end es tt ran sound

  pub cut_call :
      during c (due_call p image tx args c)
      (Images (IsCut pool call (E p es) (W es) h (heap_end h es) last (result_of p last end)))
      × Images (IsEnded pool call h (heap_end h es) (result_of p last end))
      (play c (due_call p image tx args c))
  cut_call =
      subst (λ (g : Words). during c (due_call p image tx args c)
      (Images (IsCut pool call (E p es) (W es) h g last (result_of p last end)))
      × Images (IsEnded pool call h g (result_of p last end)) (play c (due_call p image tx args c)))
      (sym (join z a h end es sound.paired sound.tidy).1)
      (subst (λ (events : List CacheEvent).
      during c events (Images (IsCut pool call (E p es) (W es) h (crash.heap_after h (trace_in es))
      last (result_of p last end)))
      × Images (IsEnded pool call h (crash.heap_after h (trace_in es)) (result_of p last end))
      (play c events))
      (sym call_is)
      (whole.cut_call pool call (E p es) (W es) h (result_of p last end) (trace_in es) (omega arith)
      (omega arith) is_run last (keeps p last end) c one refl only good (omega arith) empty_one))

  pub call_at_rest : Retires (result_of p last end) → IsAtRest c
      → IsAtRest (play c (due_call p image tx args c))
  call_at_rest retires rest =
      subst (λ (events : List CacheEvent). IsAtRest (play c events))
      (sym call_is)
      (call_rest pool (E p es) (W es) (result_of p last end) (trace_in es) is_run retires a call h c
      rest)
