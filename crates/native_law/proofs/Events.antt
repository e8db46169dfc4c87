-- The events of a printed run are those of the machine's.
use Rattle.std.proofs.Common.{◌≡◌, ℕ, zero, suc, ◌+◌, ◌-◌, ◌<◌, ◌+ℤ◌, refl, ◌∙◌, ap, subst, Bool}
use Rattle.std.proofs.Common.{true, false, Option, Some, None, List, [], ◌∷◌, ◌++◌, length, map, ℤ}
use Rattle.std.specs.Prelude.{FitsSigned, ◌==◌, nat_lt, nat_eq, if◌then◌else◌, slice_get}
use Rattle.std.specs.Int.{w64, cast_signed, int_wrap}
use Rattle.std.specs.List.{flat_map, list_any}
use Rattle.std.proofs.lemmas.Bool.{ltb-true}
use Rattle.std.proofs.lemmas.Int.{to_z-of_z}
use Rattle.cache_model.specs.Cache.{Words, put}
use Rattle.cache_model.specs.Event.{CacheEvent, Store, Flush, Fence}
use Rattle.pool_layout.specs.declared.limits.Sizes.{Sizes}
use Rattle.pool_layout.specs.declared.places.Place.TheVariants.{Heap}
use Rattle.pool_layout.specs.Places.{at, pool_of}
use Rattle.pool_layout.specs.Sizes.{heap_words}
use Rattle.clobber_log.specs.Record.{record_events}
use Rattle.nvm_base.specs.Operations.{unsigned}
use Rattle.pm_machine.specs.declared.op.Op.{Op}
use Rattle.pm_machine.specs.declared.op.Op.TheVariants as op
use Rattle.pm_machine.specs.declared.effect.Effect.{Effect}
use Rattle.pm_machine.specs.declared.effect.Effect.TheVariants.{Loads, Scans, Stores, Logs, Flushes}
use Rattle.pm_machine.specs.declared.effect.Effect.TheVariants.{Fences, Quiet}
use Rattle.pm_machine.specs.declared.effect.End.{End}
use Rattle.pm_machine.specs.declared.effect.End.TheVariants as end
use Rattle.pool_map.specs.declared.trap.TrapKind.TheVariants as trap
use Rattle.pm_machine.specs.declared.frame.Frame.{Frame}
use Rattle.pm_machine.specs.declared.image.Image.{Image}
use Rattle.pm_machine.specs.declared.records.Policy.{Policy}
use Rattle.pm_machine.specs.declared.records.Policy.TheVariants as policy
use Rattle.pm_machine.specs.Effects.{heap_past, heap_end, events_all}
use Rattle.pm_machine.specs.Machine as machine
use Rattle.pm_machine.specs.Machine.{State, StepOutcome, Run, start, execute, step, fetch}
use Rattle.pm_machine.specs.Machine.{read_register, target, store, log, load, flush, return}
use Rattle.pm_machine.specs.Machine.{word_inside, address_index}
use Rattle.pm_machine.specs.Logging.{Logging, Plays, Stops, blank, asks, unlisted, missing, bare}
use Rattle.pm_machine.specs.Logging.{with_record, noted, has_room, turn, begun, follows}
use Rattle.pm_machine.specs.Logging.{logged_run, tx_run}
use Rattle.pm_machine.specs.Runs.{owed}
use Rattle.c_fragment.specs.State.{CState}
use Rattle.c_fragment.specs.Events.{step_events, c_events}
use Rattle.c_fragment.specs.Meaning.{CStep, Goes, Returns, Traps, Undefined, c_step}
use Rattle.c_fragment.specs.Translation.{c_function}
use Rattle.native_law.specs.Printed.{played_by, run_shown, IsPrintable, PrintedEventsLaw}
use Rattle.native_law.specs.inside.Standing.{MirrorsState, TurnsAgree}
use Rattle.native_law.proofs.Fetched.{steps_agree}
use Rattle.native_law.proofs.Runs.{first, start_stands, run_law}

-- what is stored is a word, and what a record keeps is one
abbrev EffectFits : Words → Effect → Type 0
EffectFits heap (Stores w x) = FitsSigned w64 x × FitsSigned w64 (heap w)
EffectFits heap (Logs w) = FitsSigned w64 (heap w)
EffectFits heap (Loads w) = Unit {0}
EffectFits heap (Scans w apart m) = Unit {0}
EffectFits heap (Flushes l) = Unit {0}
EffectFits heap Fences = Unit {0}
EffectFits heap Quiet = Unit {0}

abbrev EffectsFit : Words → List Effect → Type 0
EffectsFit heap [] = Unit {0}
EffectsFit heap (e ∷ es) = EffectFits heap e × EffectsFit (heap_past heap e) es

put_bits : (g : ℕ → ℕ) (heap : Words) (w : ℕ) (x : ℤ) → ((u : ℕ) → g u ≡ unsigned (heap u))
    → (u : ℕ) → (if u == w then unsigned x else g u) ≡ unsigned (put heap w x u)
unfolding put
put_bits g heap w x same u = by (u == w) refl
  where
    by : (t : Bool) → (u == w) ≡ t → (if u == w then unsigned x else g u)
        ≡ unsigned (put heap w x u)
    by true e = rw e refl
    by false e = rw e (same u)

module _ (s : Sizes) (a : ℕ) where
  events_same : (n : ℕ) (heap : Words) (g : ℕ → ℕ) (es : List Effect)
      → ((u : ℕ) → g u ≡ unsigned (heap u)) → EffectsFit heap es
      → step_events s a n g (flat_map played_by es) ≡ events_all s a n heap es
  events_same n heap g [] same fit = refl
  events_same n heap g (Loads w ∷ es) same fit = events_same n heap g es same fit.1
  events_same n heap g (Scans w apart m ∷ es) same fit = events_same n heap g es same fit.1
  events_same n heap g (Stores w x ∷ es) same fit =
      let word : cast_signed w64 (unsigned x) ≡ x = to_z-of_z w64 x fit.0.0 in
      let later : ℕ → ℕ = λ u. if u == w then unsigned x else g u in
      ap (λ (y : ℤ). Store (at (pool_of s) (Heap w)) y
      ∷ step_events s a n later (flat_map played_by es)) word
      ∙ ap (λ (vs : List CacheEvent). Store (at (pool_of s) (Heap w)) x ∷ vs)
      (events_same n (put heap w x) later es (put_bits g heap w x same) fit.1)
  events_same n heap g (Logs w ∷ es) same fit =
      let word : cast_signed w64 (g w) ≡ heap w =
      ap (cast_signed w64) (same w) ∙ to_z-of_z w64 (heap w) fit.0 in
      ap (λ (y : ℤ). record_events s n w y (a + 1)
      ++ step_events s a (suc n) g (flat_map played_by es)) word
      ∙ ap (λ (vs : List CacheEvent). record_events s n w (heap w) (a + 1) ++ vs)
      (events_same (suc n) heap g es same fit.1)
  events_same n heap g (Flushes l ∷ es) same fit =
      ap (λ (vs : List CacheEvent). Flush (6 + s.records + l) ∷ vs)
      (events_same n heap g es same fit.1)
  events_same n heap g (Fences ∷ es) same fit =
      ap (λ (vs : List CacheEvent). Fence ∷ vs) (events_same n heap g es same fit.1)
  events_same n heap g (Quiet ∷ es) same fit = events_same n heap g es same fit.1

abbrev RunFits : Words → Run → Type 0
RunFits heap machine.Unfinished = Unit {0}
RunFits heap (machine.Finished e es) = EffectsFit heap es

due_events : (p : Policy) (s : Sizes) (a : ℕ) (heap : Words) (r : Run) → RunFits heap r
    → c_events s a (λ w. unsigned (heap w)) (run_shown r) ≡ (owed s a (blank p) heap r).events
due_events p s a heap machine.Unfinished fit = refl
due_events p s a heap (machine.Finished (end.Halted v) es) fit =
    events_same s a 0 heap (λ w. unsigned (heap w)) es (λ u. refl) fit
due_events p s a heap (machine.Finished (end.Trapped kind) es) fit =
    events_same s a 0 heap (λ w. unsigned (heap w)) es (λ u. refl) fit

all_fit : (heap : Words) (es fs : List Effect) → EffectsFit heap es
    → EffectsFit (heap_end heap es) fs → EffectsFit heap (es ++ fs)
all_fit heap [] fs fit rest = rest
all_fit heap (e ∷ es) fs fit rest = (fit.0, all_fit (heap_past heap e) es fs fit.1 rest)

begun_fits : (heap : Words) (es : List Effect) (r : Run) → EffectsFit heap es
    → RunFits (heap_end heap es) r → RunFits heap (begun es r)
begun_fits heap es machine.Unfinished fit rest = tt
begun_fits heap es (machine.Finished x fs) fit rest = all_fit heap es fs fit rest

-- one step
abbrev OutcomeFits : Words → StepOutcome → Type 0
OutcomeFits heap (machine.Goes e t) = EffectFits heap e
OutcomeFits heap (machine.Ends x) = Unit {0}

-- a word that is asked a record of holds one
asked_fits : (p : Policy) (heap : Words) (e : Effect) (w : ℕ) → EffectFits heap e
    → asks p e ≡ Some w → FitsSigned w64 (heap w)
asked_fits p heap (Logs u) w fit asked =
    let same : u ≡ w = cc in subst (λ (k : ℕ). FitsSigned w64 (heap k)) same fit
asked_fits policy.RollBack heap (Stores u x) w fit asked =
    let same : u ≡ w = cc in subst (λ (k : ℕ). FitsSigned w64 (heap k)) same fit.1
asked_fits policy.EndPool heap (Stores u x) w fit asked = absurd (cc)
asked_fits p heap (Loads u) w fit asked = absurd (cc)
asked_fits p heap (Scans u apart m) w fit asked = absurd (cc)
asked_fits p heap (Flushes l) w fit asked = absurd (cc)
asked_fits p heap Fences w fit asked = absurd (cc)
asked_fits p heap Quiet w fit asked = absurd (cc)

unlisted_asked : (ws : List ℕ) (o : Option ℕ) (w : ℕ) → unlisted ws o ≡ Some w → o ≡ Some w
unlisted_asked ws None w e = absurd (cc)
unlisted_asked ws (Some u) w e = by (list_any (nat_eq u) ws) e
  where
    by : (t : Bool) → (if t then None else Some u) ≡ Some w → Some u ≡ Some w
    by true e = absurd (cc)
    by false e = e

bare_fits : (heap : Words) (e : Effect) → EffectFits heap e → EffectFits heap (bare e)
bare_fits heap (Logs w) fit = tt
bare_fits heap (Loads w) fit = tt
bare_fits heap (Scans w apart m) fit = tt
bare_fits heap (Stores w x) fit = fit
bare_fits heap (Flushes l) fit = tt
bare_fits heap Fences fit = tt
bare_fits heap Quiet fit = tt

recorded_fits : (heap : Words) (e : Effect) (o : Option ℕ) → EffectFits heap e
    → ((w : ℕ) → o ≡ Some w → FitsSigned w64 (heap w)) → EffectsFit heap (with_record o e)
recorded_fits heap e None fit old = (bare_fits heap e fit, tt)
recorded_fits heap e (Some w) fit old = (old w refl, (bare_fits heap e fit, tt))

module _ (image : Image) (heap : Words) (s : State)
    (registers : (r : ℕ) → FitsSigned w64 (read_register s r))
    (words : (w : ℕ) → w < heap_words image.parts.sizes → FitsSigned w64 (heap w)) where
  abbrev H : ℕ
  H = heap_words image.parts.sizes

  load_fits : (r : ℕ) (o : Option ℕ) → OutcomeFits heap (load heap s r o)
  load_fits r None = tt
  load_fits r (Some w) = tt

  store_fits : (b : ℕ) (o : Option ℕ) → ((w : ℕ) → o ≡ Some w → w < H)
      → OutcomeFits heap (store s (read_register s b) o)
  store_fits b None low = tt
  store_fits b (Some w) low = (registers b, words w (low w refl))

  log_fits : (o : Option ℕ) → ((w : ℕ) → o ≡ Some w → w < H) → OutcomeFits heap (log s o)
  log_fits None low = tt
  log_fits (Some w) low = words w (low w refl)

  inside : (o : Option ℕ) (w : ℕ) → word_inside H o ≡ Some w → w < H
  inside None w e = absurd (cc)
  inside (Some x) w e = by (nat_lt x H) refl e
    where
      by : (t : Bool) → nat_lt x H ≡ t → (if t then Some x else None) ≡ Some w → w < H
      by true low e = let same : x ≡ w = cc in subst (λ (k : ℕ). k < H) same (ltb-true x H low)
      by false high e = absurd (cc)

  flush_fits : (o : Option ℕ) → OutcomeFits heap (flush s o)
  flush_fits None = tt
  flush_fits (Some l) = tt

  quiet_if : (t : Bool) (u : State) (x : End)
      → OutcomeFits heap (if t then machine.Goes Quiet u else machine.Ends x)
  quiet_if true u x = tt
  quiet_if false u x = tt

  quiet_unless : (t : Bool) (u : State) (x : End)
      → OutcomeFits heap (if t then machine.Ends x else machine.Goes Quiet u)
  quiet_unless true u x = tt
  quiet_unless false u x = tt

  return_fits : (v : ℤ) (o : Option Frame) → OutcomeFits heap (return s v o)
  return_fits v None = tt
  return_fits v (Some g) = tt

  outcome_fits : (o : Option Op) → OutcomeFits heap (execute image heap s o)
  outcome_fits None = tt
  outcome_fits (Some (op.Const r v)) = tt
  outcome_fits (Some (op.Mov r a)) = tt
  outcome_fits (Some (op.Bin o r a b)) = tt
  outcome_fits (Some (op.Jmp t)) = tt
  outcome_fits (Some (op.Jz a t)) = tt
  outcome_fits (Some (op.Load r a o)) = load_fits r (target image s a o)
  outcome_fits (Some (op.Store a o b)) =
      store_fits b (target image s a o)
      (inside (address_index (int_wrap w64 (read_register s a +ℤ o))))
  outcome_fits (Some (op.Find r)) = tt
  outcome_fits (Some (op.Log a o)) =
      log_fits (target image s a o)
      (inside (address_index (int_wrap w64 (read_register s a +ℤ o))))
  outcome_fits (Some op.Flush) = flush_fits (slice_get s.dirty 0)
  outcome_fits (Some op.Fence) = tt
  outcome_fits (Some (op.Call r f args)) =
      quiet_if (nat_lt (length s.below + 1) 256) (machine.entered s r f args)
      (end.Trapped trap.Depth)
  outcome_fits (Some (op.Ret a)) =
      return_fits (read_register s a) (slice_get s.below (length s.below - 1))
  outcome_fits (Some op.Tick) =
      quiet_unless (s.ticks == 0) (machine.tick_spent s) (end.Trapped trap.Steps)
  outcome_fits (Some (op.Trap k)) = tt
  outcome_fits (Some (op.Halt a)) = tt

  step_fits : OutcomeFits heap (step image s heap)
  step_fits = outcome_fits (fetch image s)

-- a turn and a step, and what is left
module _ (image : Image) (heap : Words) (g : Logging) (rest : List Effect → Logging → State → Run)
    (same : (es : List Effect) (t : State) (d : CState) → MirrorsState image (heap_end heap es) t d
    → RunFits (heap_end heap es) (rest es d.logging t)) where
  plays_fit : (es : List Effect) (h : Logging) (t : State) (x : CStep)
      → TurnsAgree image heap (Plays es h t) x → EffectsFit heap es
      → RunFits heap (begun es (rest es h t))
  plays_fit es h t (Goes ps d) agree fit =
      begun_fits heap es (rest es h t) fit
      (subst (λ (k : Logging). RunFits (heap_end heap es) (rest es k t)) agree.1
      (same es t d agree.2))
  plays_fit es h t (Returns x) agree fit = absurd agree
  plays_fit es h t (Traps k) agree fit = absurd agree
  plays_fit es h t Undefined agree fit = absurd agree

  follows_fit : (o : StepOutcome) (x : CStep)
      → TurnsAgree image heap (turn image.parts.sizes.records g o) x → OutcomeFits heap o
      → RunFits heap (follows rest (turn image.parts.sizes.records g o))
  follows_fit (machine.Ends y) x agree fit = tt
  follows_fit (machine.Goes e t) x agree fit =
      by (has_room image.parts.sizes.records g (missing g e)) agree
    where
      by : (t1 : Bool) → TurnsAgree image heap (if t1 then Plays (with_record (missing g e) e)
          (noted g (missing g e)) t else Stops (end.Trapped trap.LogFull)) x
          → RunFits heap (follows rest (if t1 then Plays (with_record (missing g e) e)
          (noted g (missing g e)) t else Stops (end.Trapped trap.LogFull)))
      by false agree = tt
      by true agree =
          plays_fit (with_record (missing g e) e) (noted g (missing g e)) t x agree
          (recorded_fits heap e (missing g e) fit (λ w found. asked_fits g.policy heap e w fit
          (unlisted_asked g.words (asks g.policy e) w found)))

run_fits : (image : Image) → IsPrintable image.parts.functions → (k : ℕ) (heap : Words) (s : State)
    (c : CState) → MirrorsState image heap s c
    → RunFits heap (logged_run image k c.logging s heap)
run_fits image code zero heap s c stands = tt
run_fits image code (suc k) heap s c stands =
    follows_fit image heap c.logging (λ es h t. logged_run image k h t (heap_end heap es))
    (λ es t d after. run_fits image code k (heap_end heap es) t d after)
    (step image s heap) (c_step image.parts.sizes (map c_function image.parts.functions) c)
    (steps_agree image heap s c code stands)
    (step_fits image heap s stands.top.holds.words stands.words)

pub events_law : PrintedEventsLaw
events_law p image a k heap tx args can =
    let z = image.parts.sizes in
    ap (c_events z a (λ w. unsigned (heap w))) (run_law p image k heap tx args can)
    ∙ due_events p z a heap (tx_run p image k heap tx args)
    (run_fits image can.code k heap (start image tx args) (first p image heap tx args can)
    (start_stands p image heap tx args can))
