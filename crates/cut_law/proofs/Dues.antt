-- The events after a seal, and their steps, are those of the crash law's list.
use Rattle.std.proofs.Common.{◌≡◌, ℕ, suc, ◌+◌, ◌^◌, ◌<◌, ◌≤◌, List, [], ◌∷◌, ◌++◌, Some, ℤ, pos}
use Rattle.std.proofs.Common.{refl, sym, ap, ◌∙◌, subst, arith, append-nil}
use Rattle.cache_model.specs.Event.{CacheEvent, Store, Flush, Fence}
use Rattle.cache_model.specs.Cache.{Words, Cache, view}
use Rattle.cache_model.specs.Play.{play}
use Rattle.pool_layout.specs.declared.places.TheConstants.{LAST, DONE, ATTEMPT, SEAL}
use Rattle.pool_layout.specs.declared.limits.Sizes.{Sizes}
use Rattle.pool_layout.specs.declared.places.Place.TheVariants.{RecordStamp}
use Rattle.pool_layout.specs.Places.{at, pool_of}
use Rattle.pool_layout.specs.Sizes.{heap_words}
use Rattle.pool_layout.specs.Log.{count, WellMade}
use Rattle.pool_layout.proofs.Records.{log_is, pos_inj}
use Rattle.pool_map.specs.declared.trap.TrapKind.{TrapKind}
use Rattle.clobber_log.specs.Logs.{attempt_of, count_in}
use Rattle.args_log.specs.Retire.{retire_events}
use Rattle.pm_machine.specs.declared.effect.Effect.{Effect}
use Rattle.pm_machine.specs.declared.effect.End.{End}
use Rattle.pm_machine.specs.declared.effect.End.TheVariants.{Halted, Trapped}
use Rattle.pm_machine.specs.declared.records.Policy.{Policy}
use Rattle.pm_machine.specs.declared.records.Policy.TheVariants.{EndPool, RollBack}
use Rattle.pm_machine.specs.declared.image.Image.{Image}
use Rattle.pm_machine.specs.Effects.{events_all, records_end, steps_in}
use Rattle.pm_machine.specs.Machine.{State, start, Finished}
use Rattle.pm_machine.specs.Logging.{Logging, blank, tx_run}
use Rattle.pm_machine.specs.Runs.{heap_in, Due, due, end_of, owed, due_on, logging_on}
use Rattle.pm_machine.specs.Inputs.{AreAlike}
use Rattle.pm_machine.proofs.Agree.{alike_due}
use Rattle.crash_law.specs.Due as crash
use Rattle.crash_law.specs.Due.{Entry, no_records, records_after, run_events}
use Rattle.crash_law.specs.Law.{IsRun}
use Rattle.run_law.specs.Seen.{trace_in, result_of, E, W}
use Rattle.run_law.specs.Sound.{IsSoundRun}
use Rattle.run_law.specs.Law.{last_events, close_events}
use Rattle.run_law.proofs.Join.{join}
use Rattle.run_law.proofs.Runs.{run_is, due_run_is}
use Rattle.tx_run.specs.Due as plays
use Rattle.tx_run.specs.Due.{retiring}
use Rattle.cut_law.specs.Steps.{back_steps, run_steps}
use Rattle.cut_law.proofs.Misses.{view_missed, misses_run}
use Rattle.cut_law.proofs.Numbers.{next_is, attempt_small}
use Rattle.cut_law.proofs.Holds.{Holds, holds_run, counted, undo_is, trace_records}

-- a run's events, its end, and what follows it, from attempt a, no record and a heap r that is
-- alike for the run from h
module _ (p : Policy) (image : Image) (tx : ℕ) (args : List ℤ) (c : Cache) (d a : ℕ) (last : ℤ)
    (h r : Words) (end : End) (es : List Effect)
    (d_fits : d ≤ 2 ^ 62) (a_fits : a ≤ 2 ^ 62) (last_is : view c LAST ≡ last)
    (done : view c DONE ≡ pos d) (attempt : view c ATTEMPT ≡ pos a)
    (none : Holds image.parts.sizes a no_records c) (heap : heap_in image.parts.sizes c ≡ r)
    (alike : AreAlike (heap_words image.parts.sizes) es h r)
    (ran : tx_run p image image.parts.most h tx args ≡ Finished end es)
    (sound : IsSoundRun p end es) where
  abbrev z : Sizes
  z = image.parts.sizes

  abbrev s : State
  s = start image tx args

  abbrev events : List CacheEvent
  events = events_all image.parts.sizes a 0 r es

  abbrev trace : List Entry
  trace = trace_in es

  pub empty : count_in z (view c) ≡ 0
  empty = counted z a no_records c none d (view c LAST) d_fits a_fits refl done attempt

  logging_is : logging_on p z c ≡ blank p
  logging_is = λ i. record { policy = p; count = empty i; words = [] }

  pub owes : due_on p image s c
      ≡ record {
        events = events_all image.parts.sizes a 0 r es;
        fate = Some end;
        steps = suc (steps_in es);
        records = records_end 0 es;
      }
  owes =
      ap (λ (b : ℕ). due image b image.parts.most (logging_on p z c) s c)
      (ap attempt_of attempt ∙ attempt_small a a_fits)
      ∙ ap (λ (g : Logging). due image a image.parts.most g s c) logging_is
      ∙ alike_due image end a image.parts.most (blank p) s c h es tt ran
      (subst (λ (g : Words). AreAlike (heap_words z) es h g) (sym heap) alike)
      ∙ ap (λ (g : Words). owed z a (blank p) g (Finished end es)) heap

  -- the words of lines 0 to 2 and of the seal stay
  low : (q : ℕ) → q ≤ SEAL → view (play c events) q ≡ view c q
  low q less = view_missed events c q (misses_run z a 0 q r es (omega (arith, less)))

  is_run : IsRun (record { sizes = z; super = r }) (E p es) (W es) (result_of p last end) trace
  is_run = run_is p last image r image.parts.most s h end es tt ran sound

  -- the records of a run that traps are in the view after it
  holds_after : (k : TrapKind) → end ≡ Trapped k → Holds z a (records_after no_records r trace)
      (play c events)
  holds_after k is =
      let joined = (join z a r end es sound.paired sound.tidy).0 in
      let same : events ≡ run_events z a 0 r trace =
      joined ∙ ap (λ (q : End). run_events z a 0 r trace ++ last_events z q trace) is
      ∙ append-nil (run_events z a 0 r trace) in
      subst (λ (fs : List CacheEvent). Holds z a (records_after no_records r trace) (play c fs))
      (sym same)
      (holds_run z a (E p es) (W es) trace no_records r (λ w. ⊥) c none is_run.trace_is)

  retires : (v : ℤ) → retiring v (play c events) ≡ retire_events v (pos (suc d)) (pos (suc a))
  unfolding retire_events
  retires v =
      let finished = next_is (view (play c events) DONE) d (low DONE (omega arith) ∙ done) d_fits in
      let begun = next_is (view (play c events) ATTEMPT) a (low ATTEMPT (omega arith) ∙ attempt)
      a_fits in
      λ i. Store LAST v ∷ Store DONE (finished i) ∷ Store ATTEMPT (begun i) ∷ Flush 2 ∷ Fence ∷ []

  tail_is : (q : Policy) (e : End) → p ≡ q → end ≡ e →
      plays.tail_events q z e (play c events) ≡ close_events q z a (suc d) r last e trace
  tail_is q (Halted v) same is = retires v
  tail_is EndPool (Trapped k) same is = refl
  tail_is RollBack (Trapped k) same is =
      undo_is z a (records_after no_records r trace) (play c events) (holds_after k is) d last
      d_fits a_fits (low LAST (omega arith) ∙ last_is) (low DONE (omega arith) ∙ done)
      (low ATTEMPT (omega arith) ∙ attempt)

  pub run_same : plays.due_run p image s c
      ≡ crash.due_run image.parts.sizes a (suc d) r (result_of p last end) (trace_in es)
  run_same =
      ap (λ (x : Due). x.events ++ plays.tail_events p z (end_of x.fate) (play c x.events)) owes
      ∙ ap (λ (rest : List CacheEvent). events ++ rest) (tail_is p end refl refl)
      ∙ due_run_is p z a (suc d) r last end es sound

  -- the steps after the run
  tail_count : (q : Policy) (e : End) → p ≡ q → end ≡ e →
      plays.tail_steps q z e (play c events) ≡ back_steps q e es
  tail_count q (Halted v) same is = refl
  tail_count EndPool (Trapped k) same is = refl
  tail_count RollBack (Trapped k) same is =
      counted z a (records_after no_records r trace) (play c events) (holds_after k is) d
      (view c LAST) d_fits a_fits (low LAST (omega arith)) (low DONE (omega arith) ∙ done)
      (low ATTEMPT (omega arith) ∙ attempt)
      ∙ trace_records es no_records r sound.paired

  pub steps_are : plays.run_steps p image s c ≡ run_steps p end es
  steps_are =
      ap (λ (x : Due). x.steps + plays.tail_steps p z (end_of x.fate) (play c x.events)) owes
      ∙ ap (λ (n : ℕ). suc (steps_in es) + n) (tail_count p end refl refl)

-- no record is valid where the log has none
pub none_there : (image : Image) (a : ℕ) (c : Cache) (one : Words)
    → WellMade (pool_of image.parts.sizes) a one → count (pool_of image.parts.sizes) a one ≡ 0
    → ((q : ℕ) → SEAL < q → view c q ≡ one q) → Holds image.parts.sizes a no_records c
none_there image a c one log none seen = record {
  room = omega arith;
  in_heap = λ j lt. absurd (omega arith);
  words = λ j lt. absurd (omega arith);
  olds = λ j lt. absurd (omega arith);
  stamps = λ j lt. absurd (omega arith);
  others = λ j ge lt e.
      let l = pool_of image.parts.sizes in
      let is = log_is l a 0 one log none in
      let u = is.other_stamp j lt ge in
      let same : suc a ≡ u.0 =
      pos_inj (suc a) u.0 (sym e ∙ seen (at l (RecordStamp j)) (omega arith) ∙ u.2) in
      let le = u.1 in absurd (omega arith);
}
