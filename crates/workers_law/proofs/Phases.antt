-- The seal of a call in its line, turn by turn.
use Rattle.std.proofs.Common.{◌≡◌, ◌≢◌, ◌≤◌, ◌-◌, ◌/◌, ◌==◌, ◌&&◌, inl, inr, ℕ, zero, suc}
use Rattle.std.proofs.Common.{if◌then◌else◌, Bool, true, false, Option, Some, None, List, [], ◌∷◌}
use Rattle.std.proofs.Common.{◌++◌, drop, length, take, w64, ℤ, refl, sym, ap, ◌∙◌, subst, arith}
use Rattle.std.proofs.Common.{ne_eqb, int_eq}
use Rattle.std.specs.Int.{cast_signed}
use Rattle.std.specs.List.{list_all, list_any}
use Rattle.std.proofs.lemmas.Bool.Decides.{Decides-int_eq}
use Rattle.std.proofs.lemmas.List.Folds.{list_all-append, list_any-append}
use Rattle.std.proofs.lemmas.Bool.{and_parts, and_from, false_from_ne_true, cond-false}
use Rattle.cache_model.specs.Event.{CacheEvent, Store, Flush, Fence}
use Rattle.cache_model.specs.Cache.{Words, Line, Cache, versions, view}
use Rattle.cache_model.specs.Play.{store_line, flush_line, fence_line, fence_at, apply, play}
use Rattle.cache_model.specs.Image.{Among}
use Rattle.cache_model.proofs.Versions.{fence_version}
use Rattle.cache_model.proofs.Views.{view_fence}
use Rattle.pmem.specs.Device.{Device}
use Rattle.pmem.specs.Played.{PlaysAll, PlaysPart}
use Rattle.pmem.specs.declared.answer.Phase.{Phase}
use Rattle.pmem.specs.declared.answer.Phase.TheVariants.{Unsealed, Sealing, Sealed}
use Rattle.pmem.specs.declared.answer.Refusal.TheVariants.{Off}
use Rattle.pmem.proofs.Refused.{all_cache}
use Rattle.pool_layout.specs.declared.places.TheConstants.{DONE, SEAL, ARGUMENTS}
use Rattle.pool_layout.specs.declared.limits.Sizes.{Sizes}
use Rattle.pool_map.specs.declared.trap.TrapKind.TheVariants.{Steps}
use Rattle.clobber_log.specs.Logs.{attempt_in}
use Rattle.args_log.specs.Seal.{unsealed_events, seal_events}
use Rattle.args_log.specs.Next.{number_after}
use Rattle.args_log.specs.Retire.{retire_events, mark_events}
use Rattle.args_log.specs.Phase as seal
use Rattle.args_log.specs.PhaseLaw.{LacksSeal}
use Rattle.args_log.proofs.Phases.{unsealed_law, sealing_law, sealed_law}
use Rattle.pm_machine.specs.declared.effect.Effect.{Effect}
use Rattle.pm_machine.specs.declared.effect.Effect.TheVariants.{Loads, Scans, Stores, Logs, Flushes}
use Rattle.pm_machine.specs.declared.effect.Effect.TheVariants.{Fences, Quiet}
use Rattle.pm_machine.specs.declared.effect.End.{End}
use Rattle.pm_machine.specs.declared.effect.End.TheVariants.{Halted, Trapped}
use Rattle.pm_machine.specs.declared.image.Image.{Image}
use Rattle.pm_machine.specs.declared.records.Policy.TheVariants.{EndPool}
use Rattle.pm_machine.specs.declared.machine.Machine.{Machine}
use Rattle.pm_machine.specs.Effects.{events_of, events_all, records_past, heap_past}
use Rattle.pm_machine.specs.Logging.{Logging, Turn, Plays, Stops, turn_of}
use Rattle.pm_machine.specs.Runs.{heap_in, turn_events, logging_on}
use Rattle.tx_run.specs.Due.{tail_events, due_seal}
use Rattle.pool_workers.specs.declared.answer.TurnAnswer.{TurnAnswer}
use Rattle.pool_workers.specs.declared.answer.TurnAnswer.TheVariants as answer
use Rattle.pool_workers.specs.declared.task.Task.{Task}
use Rattle.pool_workers.specs.declared.task.Task.TheVariants.{Begun, Running, Ending, Cut}
use Rattle.pool_workers.specs.declared.task.Task.TheVariants.{Looking}
use Rattle.pool_workers.specs.declared.look.Look.{Look}
use Rattle.pool_workers.specs.declared.look.Look.TheVariants.{Fresh, Going, Seen}
use Rattle.workers_law.specs.Phases.{InPhase, TurnPhaseLaw}
use Rattle.pool_workers.specs.Task.{machine_at, first_task, going, stepped_task, task_phase}
use Rattle.pool_workers.specs.Task.{look_past, IsUncut, WentWhole, Turned}
use Rattle.pool_workers.specs.Look.{going_look, going_past}
use Rattle.workers_law.proofs.Stands.{part_of}
use Rattle.workers_law.specs.Fenced.{fenced_cache}

-- events that leave line 5 unchanged, except for fences
abbrev IsBeside : CacheEvent → Type 0
IsBeside (Store w x) = 5 ≢ w / 8
IsBeside (Flush l) = 5 ≢ l
IsBeside Fence = Unit {0}

abbrev AreBeside : List CacheEvent → Type 0
AreBeside [] = Unit {0}
AreBeside (e ∷ es) = IsBeside e × AreBeside es

beside_first : (es fs : List CacheEvent) → AreBeside (es ++ fs) → AreBeside es
beside_first [] fs all = tt
beside_first (e ∷ es) fs all = (all.0, beside_first es fs all.1)

-- if all versions have the seal

pub all_of : (a b : Bool) → (if a then Sealed else (if b then Sealing else Unsealed)) ≡ Sealed →
    a ≡ true
all_of true b is = refl
all_of false true is = absurd (cc)
all_of false false is = absurd (cc)

all_drop : (k : ℤ) (j : ℕ) (us : List Words) → list_all (seal.has_seal k) us ≡ true →
    list_all (seal.has_seal k) (drop j us) ≡ true
all_drop k zero us all = all
all_drop k (suc j) [] all = refl
all_drop k (suc j) (u ∷ us) all =
    all_drop k j us (and_parts (seal.has_seal k u) (list_all (seal.has_seal k) us) all).1

fence_all : (k : ℤ) (m : Option ℕ) (l : Line) → list_all (seal.has_seal k) (versions l) ≡ true →
    list_all (seal.has_seal k) (versions (fence_at m l)) ≡ true
fence_all k None l all = all
fence_all k (Some j) l all =
    let both = list_all-append (seal.has_seal k) l.older (l.newest ∷ []) in
    let parts = and_parts (list_all (seal.has_seal k) l.older)
    (list_all (seal.has_seal k) (l.newest ∷ [])) (sym both ∙ all) in
    list_all-append (seal.has_seal k) (drop j l.older) (l.newest ∷ [])
    ∙ and_from (list_all (seal.has_seal k) (drop j l.older))
    (list_all (seal.has_seal k) (l.newest ∷ [])) (all_drop k j l.older parts.0) parts.1

sealed_fence : (k : ℤ) (l : Line) → seal.phase_of l k ≡ Sealed →
    seal.phase_of (fence_line l) k ≡ Sealed
sealed_fence k l is =
    let all = fence_all k l.mark l
    (all_of (list_all (seal.has_seal k) (versions l))
    (list_any (seal.has_seal k) (versions l)) is) in
    ap (λ (b : Bool). if b then Sealed else
    (if list_any (seal.has_seal k) (versions (fence_line l)) then Sealing else Unsealed)) all

sealed_event : (k : ℤ) (c : Cache) (e : CacheEvent) → IsBeside e →
    seal.phase_of (c 5) k ≡ Sealed → seal.phase_of (apply c e 5) k ≡ Sealed
unfolding apply
sealed_event k c (Store w x) beside is =
    ap (λ (l : Line). seal.phase_of l k)
    (cond-false (5 == w / 8) (store_line (c 5) w x) (c 5) (ne_eqb 5 (w / 8) beside)) ∙ is
sealed_event k c (Flush l) beside is =
    ap (λ (l : Line). seal.phase_of l k)
    (cond-false (5 == l) (flush_line (c 5)) (c 5) (ne_eqb 5 l beside)) ∙ is
sealed_event k c Fence beside is = sealed_fence k (c 5) is

sealed_play : (k : ℤ) (es : List CacheEvent) (c : Cache) → AreBeside es →
    seal.phase_of (c 5) k ≡ Sealed → seal.phase_of (play c es 5) k ≡ Sealed
sealed_play k [] c beside is = is
sealed_play k (e ∷ es) c beside is =
    sealed_play k es (apply c e) beside.1 (sealed_event k c e beside.0 is)

-- a run and its end leave line 5 unchanged

beside_effect : (z : Sizes) (a n : ℕ) (h : Words) (e : Effect) → AreBeside (events_of z a n h e)
beside_effect z a n h (Loads w) = tt
beside_effect z a n h (Scans w apart m) = tt
beside_effect z a n h (Stores w x) = ((λ e. let none : ⊥ = omega arith in none), tt)
beside_effect z a n h (Logs w) = (
  (λ e. let none : ⊥ = omega arith in none),
  (
    (λ e. let none : ⊥ = omega arith in none),
    (
      (λ e. let none : ⊥ = omega arith in none),
      ((λ e. let none : ⊥ = omega arith in none), (tt, tt)),
    ),
  ),
)
beside_effect z a n h (Flushes l) = ((λ e. let none : ⊥ = omega arith in none), tt)
beside_effect z a n h Fences = (tt, tt)
beside_effect z a n h Quiet = tt

beside_append : (es fs : List CacheEvent) → AreBeside es → AreBeside fs → AreBeside (es ++ fs)
beside_append [] fs all more = more
beside_append (e ∷ es) fs all more = (all.0, beside_append es fs all.1 more)

beside_all : (z : Sizes) (a n : ℕ) (h : Words) (es : List Effect) →
    AreBeside (events_all z a n h es)
beside_all z a n h [] = tt
beside_all z a n h (e ∷ es) =
    beside_append (events_of z a n h e) (events_all z a (records_past n e) (heap_past h e) es)
    (beside_effect z a n h e) (beside_all z a (records_past n e) (heap_past h e) es)

beside_turn : (z : Sizes) (a : ℕ) (g : Logging) (h : Words) (x : Turn) →
    AreBeside (turn_events z a g h x)
beside_turn z a g h (Plays es f t) = beside_all z a g.count h es
beside_turn z a g h (Stops end) = tt

beside_tail : (z : Sizes) (end : End) (c : Cache) → AreBeside (tail_events EndPool z end c)
unfolding retire_events mark_events
beside_tail z (Halted v) c = (
  (λ e. let none : ⊥ = omega arith in none),
  (
    (λ e. let none : ⊥ = omega arith in none),
    (
      (λ e. let none : ⊥ = omega arith in none),
      ((λ e. let none : ⊥ = omega arith in none), (tt, tt)),
    ),
  ),
)
beside_tail z (Trapped k) c = (
  (λ e. let none : ⊥ = omega arith in none),
  ((λ e. let none : ⊥ = omega arith in none), (tt, tt)),
)

-- if no version has it

lacks_any : (k : ℤ) (us : List Words) → ((v : Words) → Among us v → v SEAL ≢ k) →
    list_any (seal.has_seal k) us ≡ false
lacks_any k [] lacks = refl
lacks_any k (u ∷ us) lacks =
    rw (
      false_from_ne_true (int_eq (u SEAL) k)
          (λ e. lacks u (inl refl) ((Decides-int_eq (u SEAL) k).0 e)),
      lacks_any k us (λ v among. lacks v (inr among)),
    ) refl

lacks_phase : (k : ℤ) (l : Line) → LacksSeal k l → seal.phase_of l k ≡ Unsealed
lacks_phase k l lacks =
    let own : seal.has_seal k l.newest ≡ false =
    false_from_ne_true (int_eq (l.newest SEAL) k)
    (λ e. lacks l.newest (inl refl) ((Decides-int_eq (l.newest SEAL) k).0 e)) in
    let all : list_all (seal.has_seal k) (versions l) ≡ false =
    list_all-append (seal.has_seal k) l.older (l.newest ∷ [])
    ∙ rw own (and_false (list_all (seal.has_seal k) l.older)) in
    let any : list_any (seal.has_seal k) (versions l) ≡ false =
    list_any-append (seal.has_seal k) l.older (l.newest ∷ [])
    ∙ rw (lacks_any k l.older (λ v among. lacks v (inr among)), own) refl in
    rw (all, any) refl
  where
    and_false : (b : Bool) → (b && false) ≡ false
    and_false true = refl
    and_false false = refl

few_args : (args : List ℤ) → length (take ARGUMENTS args) ≤ ARGUMENTS
few_args args = few ARGUMENTS args
  where
    few : (n : ℕ) (xs : List ℤ) → length (take n xs) ≤ n
    few zero xs = omega arith
    few (suc n) [] = omega arith
    few (suc n) (x ∷ xs) = let h = few n xs in omega arith

module _ (image : Image) (k : ℤ) where
  going_phase : (tx : ℕ) (m : Machine) (a j : ℕ) (c : Cache) → seal.phase_of (c 5) k ≡ Sealed →
      InPhase k (going tx m a j) c
  going_phase tx m a j c is = by_test (j == 0)
    where
      by_test : (b : Bool) →
          InPhase k (if b then Ending tx (Trapped Steps) (length m.records.words)
          else Running tx m a j) c
      by_test true = is
      by_test false = is

  stepped_phase : (tx a j : ℕ) (g : Logging) (x : Turn) (c : Cache) →
      seal.phase_of (c 5) k ≡ Sealed → InPhase k (stepped_task tx a j g x) c
  stepped_phase tx a j g (Plays es h t) c is = going_phase tx (machine_at t h) a (j - 1) c is
  stepped_phase tx a j g (Stops end) c is = is

  some_to : (t u : Task) (c : Cache) → Some u ≡ Some t → InPhase k t c → InPhase k u c
  some_to t u c is h = subst (λ (x : Task). InPhase k x c) (sym (ap (or_else t) is)) h
    where
      or_else : Task → Option Task → Task
      or_else d None = d
      or_else d (Some z) = z

  look_phase : (tx : ℕ) (l : Look) (u : Task) (h : Words) (c : Cache) → LacksSeal k (c 5)
      → Some u ≡ look_past image tx l h → InPhase k u c
  look_phase tx (Fresh m) u h c lacks is =
      some_to (Looking tx (going_look m image.parts.most)) u c is lacks
  look_phase tx (Going m j) u h c lacks is =
      some_to (Looking tx (going_past image m j h)) u c is lacks
  look_phase tx (Seen end) u h c lacks is = absurd cc

  whole : (a : TurnAnswer) (t u : Task) (d b : Device) → IsUncut t → InPhase k t d.cache →
      WentWhole a image t (Some u) d b → InPhase k u b.cache
  whole a (Begun tx args m) u d b uncut h went =
      let z = image.parts.sizes in
      let sealed : seal.phase_of (b.cache 5) k ≡ Sealed =
      sealed_law d b (cast_signed w64 tx) (take ARGUMENTS args) k (few_args args) h.0
      (subst (λ (x : ℤ). PlaysAll d (seal_events (cast_signed w64 tx) (take ARGUMENTS args) x) b)
      (sym h.1) went.2) in
      let c1 = play d.cache (due_seal tx args d.cache) in
      let left = machine_at m.processor (logging_on EndPool z c1) in
      some_to (going tx left (attempt_in z (view c1)) image.parts.most) u b.cache went.1
      (going_phase tx left (attempt_in z (view c1)) image.parts.most b.cache sealed)
  whole a (Running tx m v j) u d b uncut h went =
      let z = image.parts.sizes in
      let x = turn_of image m.records m.processor (heap_in z d.cache) in
      let events = turn_events z v m.records (heap_in z d.cache) x in
      let sealed : seal.phase_of (b.cache 5) k ≡ Sealed =
      ap (λ (c : Cache). seal.phase_of (c 5) k) (all_cache events d b went.2)
      ∙ sealed_play k events d.cache (beside_turn z v m.records (heap_in z d.cache) x) h in
      some_to (stepped_task tx v j m.records x) u b.cache went.1
      (stepped_phase tx v j m.records x b.cache sealed)
  whole a (Ending tx end l) u d b uncut h went = absurd (let is = went.1 in cc)
  whole a (Looking tx l) u d b uncut h went =
      look_phase tx l u (heap_in image.parts.sizes d.cache) b.cache
      (subst (λ (x : Device). LacksSeal k (x.cache 5)) (sym went.2) h) went.1
  whole a (Cut p) u d b uncut h went = absurd uncut

  part_sealed : (es : List CacheEvent) (d b : Device) → AreBeside es → PlaysPart Off d es b →
      seal.phase_of (d.cache 5) k ≡ Sealed → seal.phase_of (b.cache 5) k ≡ Sealed
  part_sealed es d b beside part is =
      let p = part_of Off es d b part in
      ap (λ (c : Cache). seal.phase_of (c 5) k) p.now
      ∙ sealed_play k p.first d.cache
      (beside_first p.first p.rest (subst AreBeside p.is beside)) is

  cut : (t : Task) (p : Phase) (d b : Device) → InPhase k t d.cache →
      Turned answer.Off image t (Some (Cut p)) d b → seal.phase_of (b.cache 5) k ≡ p
  cut (Begun tx args m) Unsealed d b h turned =
      unsealed_law d b (cast_signed w64 tx) (take ARGUMENTS args) k (few_args args) h.0
      (subst (λ (x : ℤ). PlaysPart Off d
      (unsealed_events (cast_signed w64 tx) (take ARGUMENTS args) x) b) (sym h.1) turned.1)
  cut (Begun tx args m) Sealing d b h turned =
      sealing_law d b (cast_signed w64 tx) (take ARGUMENTS args) k (few_args args) h.0 (record {
        at_seal = turned.1.between;
        stored = subst (λ (x : ℤ). PlaysAll d
            (unsealed_events (cast_signed w64 tx) (take ARGUMENTS args) x) turned.1.between)
            (sym h.1) turned.1.done;
        went = turned.1.went;
      })
  cut (Begun tx args m) Sealed d b h turned = absurd turned.1
  cut (Running tx m v j) p d b h turned =
      let z = image.parts.sizes in
      let x = turn_of image m.records m.processor (heap_in z d.cache) in
      part_sealed (turn_events z v m.records (heap_in z d.cache) x) d b
      (beside_turn z v m.records (heap_in z d.cache) x) turned.0 h ∙ sym turned.1
  cut (Ending tx end l) p d b h turned =
      let z = image.parts.sizes in
      part_sealed (tail_events EndPool z end d.cache) d b (beside_tail z end d.cache) turned.0 h
      ∙ sym turned.1
  cut (Looking tx l) p d b h turned = absurd turned.0
  cut (Cut q) p d b h turned = absurd turned.0

fence : (k : ℤ) (t : Task) (c : Cache) (f : Bool) → IsUncut t → InPhase k t c →
    InPhase k t (fenced_cache f c)
unfolding apply
fence k t c false uncut h = h
fence k (Begun tx args m) c true uncut h = (
  (λ v version. h.0 v (fence_version c 5 v version)),
  h.1 ∙ ap number_after (sym (view_fence c DONE)),
)
fence k (Running tx m a j) c true uncut h = sealed_fence k (c 5) h
fence k (Ending tx end l) c true uncut h = sealed_fence k (c 5) h
fence k (Looking tx l) c true uncut h = λ v version. h v (fence_version c 5 v version)
fence k (Cut p) c true uncut h = absurd uncut

tells : (k : ℤ) (t : Task) (c : Cache) → InPhase k t c → seal.phase_of (c 5) k ≡ task_phase t
tells k (Begun tx args m) c h = lacks_phase k (c 5) h.0
tells k (Running tx m a j) c h = h
tells k (Ending tx end l) c h = h
tells k (Looking tx l) c h = lacks_phase k (c 5) h
tells k (Cut p) c h = h

begins : (looks : Bool) (image : Image) (k : ℤ) (tx : ℕ) (args : List ℤ) (c : Cache) →
    LacksSeal k (c 5) → k ≡ number_after (view c DONE) →
    InPhase k (first_task looks image tx args) c
begins true image k tx args c lacks number = lacks
begins false image k tx args c lacks number = (lacks, number)

pub phases : TurnPhaseLaw
phases = (begins, whole, fence, cut, tells)
