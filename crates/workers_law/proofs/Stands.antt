-- A transaction turn by turn, with other workers' fences in between.
use Rattle.std.proofs.Common.{◌≡◌, inl, inr, ℕ, zero, suc, ◌-◌, ◌<◌, if◌then◌else◌, Bool, true}
use Rattle.std.proofs.Common.{false, List, [], ◌∷◌, ◌++◌, length, take, w64, ne_eqb, append_assoc}
use Rattle.std.proofs.Common.{append-nil, Option, ℤ, refl, sym, ap, ap₂, ◌∙◌, subst, arith}
use Rattle.cache_model.specs.Event.{CacheEvent, Store, Flush, Fence}
use Rattle.cache_model.specs.Cache.{Words, put, Cache, view}
use Rattle.cache_model.specs.Play.{apply, play}
use Rattle.cache_model.specs.Image.{IsImage}
use Rattle.cache_model.proofs.During.{play_append}
use Rattle.cache_model.proofs.Views.{view_store, view_flush, view_fence}
use Rattle.pmem.specs.Device.{Device, spent}
use Rattle.pmem.specs.Played.{PlaysPart}
use Rattle.pmem.specs.declared.answer.Refusal.{Refusal}
use Rattle.pmem.proofs.Refused.{all_cache}
use Rattle.pmem.proofs.Parts.{refused_cache}
use Rattle.pool_layout.specs.declared.places.TheConstants.{DONE, ATTEMPT, ARGUMENTS}
use Rattle.pool_layout.specs.declared.places.Place.TheVariants.{Heap}
use Rattle.pool_layout.specs.Places.{at, pool_of}
use Rattle.pool_layout.specs.declared.limits.Sizes.{Sizes}
use Rattle.pool_map.specs.declared.trap.TrapKind.TheVariants.{Steps}
use Rattle.clobber_log.specs.Logs.{attempt_in, count_in}
use Rattle.args_log.specs.Next.{number_after}
use Rattle.args_log.specs.Retire.{retire_events}
use Rattle.args_log.specs.Seal.{seal_events}
use Rattle.std.specs.Int.{cast_signed}
use Rattle.pm_machine.specs.declared.effect.Effect.{Effect}
use Rattle.pm_machine.specs.declared.effect.End.{End}
use Rattle.pm_machine.specs.declared.effect.End.TheVariants.{Halted, Trapped}
use Rattle.pm_machine.specs.declared.image.Image.{Image}
use Rattle.pm_machine.specs.declared.records.Policy.TheVariants.{EndPool}
use Rattle.pm_machine.specs.declared.machine.Machine.{Machine}
use Rattle.pm_machine.specs.Effects.{events_all}
use Rattle.pm_machine.specs.Logging.{Logging, Turn, Plays, Stops, turn_of}
use Rattle.pm_machine.specs.Machine.{State, start}
use Rattle.pm_machine.specs.Runs.{Due, heap_in, due, end_of, owing, turn_events, played, logging_on}
use Rattle.tx_run.specs.Due.{tail_events, due_run, due_seal, due_call}
use Rattle.crash_law.specs.Law.{IsAtRest, IsFenced, Empty, Kept, Added}
use Rattle.crash_law.proofs.Fences.{fences_add_none}
use Rattle.pool_workers.specs.declared.answer.TurnAnswer.{TurnAnswer}
use Rattle.pool_workers.specs.declared.task.Task.{Task}
use Rattle.pool_workers.specs.declared.task.Task.TheVariants.{Begun, Running, Ending, Cut}
use Rattle.pool_workers.specs.declared.task.Task.TheVariants.{Looking}
use Rattle.pool_workers.specs.declared.look.Look.{Look}
use Rattle.pool_workers.specs.declared.look.Look.TheVariants.{Fresh, Going, Seen}
use Rattle.pool_workers.specs.Task.{machine_at, first_machine, going, stepped_task, piece_of}
use Rattle.pool_workers.specs.Task.{task_past, IsTask, WentWhole}
use Rattle.workers_law.specs.Standing.{ShowsPlayed, ShowsSome, TaskStands, StandsOr, LeftLaw}
use Rattle.workers_law.specs.Standing.{SameViewLaw, TurnsLaw, ShownImagesLaw}
use Rattle.workers_law.specs.Fenced.{fenced_cache}
use Rattle.workers_law.specs.Left.{run_left, left_of, left_or}
use Rattle.workers_law.proofs.Powers.{fenced_view}

going_left : (image : Image) (tx : ℕ) (m : Machine) (a k : ℕ) (c : Cache) →
    left_of image (going tx m a k) c ≡ run_left image a k m.records m.processor c
going_left image tx m a zero c = refl
going_left image tx m a (suc k) c =
    ap (λ (b : Bool). left_of image
    (if b then Ending tx (Trapped Steps) (length m.records.words) else Running tx m a (suc k)) c)
    (ne_eqb (suc k) 0 (λ e. let none : ⊥ = omega arith in none))

turn_left : (image : Image) (tx a k : ℕ) (g : Logging) (c : Cache) (x : Turn) →
    let z = image.parts.sizes in
    let y = owing z a g (heap_in z c) (λ es h t. due image a k h t (played z a g c es)) x in
    let piece = turn_events z a g (heap_in z c) x in
    y.events ++ tail_events EndPool z (end_of y.fate) (play c y.events)
    ≡ piece ++ left_of image (stepped_task tx a (suc k) g x) (play c piece)
turn_left image tx a k g c (Stops end) = refl
turn_left image tx a k g c (Plays es h t) =
    let z = image.parts.sizes in
    let events = events_all z a g.count (heap_in z c) es in
    let x = due image a k h t (play c events) in
    append_assoc events x.events
    (tail_events EndPool z (end_of x.fate) (play c (events ++ x.events)))
    ∙ ap (λ (d : Cache). events ++ (x.events ++ tail_events EndPool z (end_of x.fate) d))
    (play_append c events x.events)
    ∙ ap (λ (fs : List CacheEvent). events ++ fs)
    (sym (going_left image tx (machine_at t h) a k (play c events))
    ∙ ap (λ (j : ℕ). left_of image (going tx (machine_at t h) a j) (play c events)) (pred k))
  where
    pred : (j : ℕ) → j ≡ suc j - 1
    pred j = omega arith

-- a look has nothing left
look_none : (image : Image) (tx : ℕ) (l : Look) (c : Cache) →
    [] ≡ left_or image (task_past image (Looking tx l) c) c
look_none image tx (Fresh m) c = refl
look_none image tx (Going m k) c = refl
look_none image tx (Seen end) c = refl

pub left_next : LeftLaw
unfolding due_call
left_next image (Begun tx args m) c task =
    let c1 = play c (due_seal tx args c) in
    let z = image.parts.sizes in
    ap (λ (x : Machine). due_seal tx args c ++ due_run EndPool image x.processor c1) (sym task)
    ∙ ap (λ (es : List CacheEvent). due_seal tx args c ++ es)
    (sym (going_left image tx (machine_at m.processor (logging_on EndPool z c1))
    (attempt_in z (view c1)) image.parts.most c1))
left_next image (Running tx m a zero) c task =
    absurd (let h : 0 < 0 = task.2 in let no : ⊥ = omega arith in no)
left_next image (Running tx m a (suc k)) c task =
    turn_left image tx a k m.records c
    (turn_of image m.records m.processor (heap_in image.parts.sizes c))
left_next image (Ending tx end l) c task =
    sym (append-nil (tail_events EndPool image.parts.sizes end c))
left_next image (Looking tx l) c task = look_none image tx l c
left_next image (Cut p) c task = refl

-- only the newest versions matter

same_apply : (c d : Cache) (e : CacheEvent) → view c ≡ view d → view (apply c e) ≡ view (apply d e)
same_apply c d (Store p x) same =
    (λ i q. view_store c p q x i) ∙ (λ i q. put (same i) p x q)
    ∙ (λ i q. sym (view_store d p q x) i)
same_apply c d (Flush k) same =
    (λ i q. view_flush c k q i) ∙ same ∙ (λ i q. sym (view_flush d k q) i)
same_apply c d Fence same = (λ i q. view_fence c q i) ∙ same ∙ (λ i q. sym (view_fence d q) i)

pub same_play : (es : List CacheEvent) (c d : Cache) → view c ≡ view d →
    view (play c es) ≡ view (play d es)
same_play [] c d same = same
same_play (e ∷ es) c d same = same_play es (apply c e) (apply d e) (same_apply c d e same)

same_tail : (z : Sizes) (end : End) (c d : Cache) → view c ≡ view d →
    tail_events EndPool z end c ≡ tail_events EndPool z end d
same_tail z (Halted v) c d same =
    ap (λ (w : Words). retire_events v (number_after (w DONE)) (number_after (w ATTEMPT))) same
same_tail z (Trapped k) c d same = refl

pub same_due : (image : Image) (a k : ℕ) (g : Logging) (s : State) (c d : Cache) →
    view c ≡ view d → due image a k g s c ≡ due image a k g s d
same_due image a zero g s c d same = refl
same_due image a (suc k) g s c d same =
    let z = image.parts.sizes in
    let heap : heap_in z c ≡ heap_in z d = λ i w. same i (at (pool_of z) (Heap w)) in
    let rest : (es : List Effect) (h : Logging) (t : State) →
    due image a k h t (played z a g c es) ≡ due image a k h t (played z a g d es) =
    λ es h t. same_due image a k h t (played z a g c es) (played z a g d es)
    (same_play (events_all z a g.count (heap_in z c) es) c d same
    ∙ ap (λ (v : Words). view (play d (events_all z a g.count v es))) heap) in
    λ i. owing z a g (heap i) (λ es h t. rest es h t i) (turn_of image g s (heap i))

same_run : (image : Image) (a k : ℕ) (g : Logging) (s : State) (c d : Cache) → view c ≡ view d →
    run_left image a k g s c ≡ run_left image a k g s d
same_run image a k g s c d same =
    let z = image.parts.sizes in
    let x = due image a k g s c in
    ap (λ (es : List CacheEvent). x.events ++ es)
    (same_tail z (end_of x.fate) (play c x.events) (play d x.events)
    (same_play x.events c d same))
    ∙ ap (λ (y : Due). y.events ++ tail_events EndPool z (end_of y.fate) (play d y.events))
    (same_due image a k g s c d same)

pub same_seal : (tx : ℕ) (args : List ℤ) (c d : Cache) → view c ≡ view d →
    due_seal tx args c ≡ due_seal tx args d
same_seal tx args c d same =
    ap (λ (w : Words). seal_events (cast_signed w64 tx) (take ARGUMENTS args)
    (number_after (w DONE))) same

same_call : (image : Image) (tx : ℕ) (args : List ℤ) (c d : Cache) → view c ≡ view d →
    due_call EndPool image tx args c ≡ due_call EndPool image tx args d
unfolding due_call
same_call image tx args c d same =
    let z = image.parts.sizes in
    let s = start image tx args in
    let seal : due_seal tx args c ≡ due_seal tx args d = same_seal tx args c d same in
    let after_seal : view (play c (due_seal tx args c)) ≡ view (play d (due_seal tx args d)) =
    same_play (due_seal tx args c) c d same
    ∙ ap (λ (es : List CacheEvent). view (play d es)) seal in
    let c1 = play c (due_seal tx args c) in
    let d1 = play d (due_seal tx args d) in
    ap₂ (λ (es fs : List CacheEvent). es ++ fs) seal
    (same_run image (attempt_in z (view c1)) image.parts.most (logging_on EndPool z c1) s c1 d1
    after_seal
    ∙ ap (λ (w : Words). run_left image (attempt_in z w) image.parts.most
    (record { policy = EndPool; count = count_in z w; words = [] }) s d1) after_seal)

pub same_left : SameViewLaw
same_left image (Begun tx args m) c d same = same_call image tx args c d same
same_left image (Running tx m a k) c d same = same_run image a k m.records m.processor c d same
same_left image (Ending tx end l) c d same = same_tail image.parts.sizes end c d same
same_left image (Looking tx l) c d same = refl
same_left image (Cut p) c d same = refl

-- fences put in

fenced_same : (es : List CacheEvent) → IsFenced es es
fenced_same [] = Empty
fenced_same (e ∷ es) = Kept e (fenced_same es)

fenced_append : (es fs gs hs : List CacheEvent) → IsFenced es fs → IsFenced gs hs →
    IsFenced (es ++ gs) (fs ++ hs)
fenced_append _ _ gs hs Empty more = more
fenced_append _ _ gs hs (Kept {es = es} {fs = fs} e is) more =
    Kept e (fenced_append es fs gs hs is more)
fenced_append _ _ gs hs (Added {es = es} {fs = fs} is) more =
    Added (fenced_append es fs gs hs is more)

-- after more events of its own
pub shows_more : (due left piece rest : List CacheEvent) (c0 c b : Cache)
    → ShowsPlayed due left c0 c →
    left ≡ piece ++ rest → b ≡ play c piece → ShowsPlayed due rest c0 b
shows_more due left piece rest c0 c b s is now = record {
  done = s.done ++ piece;
  shown = s.shown ++ piece;
  due_is = append_assoc s.done piece rest ∙ ap (λ (es : List CacheEvent). s.done ++ es) (sym is)
      ∙ s.due_is;
  fenced = fenced_append s.done s.shown piece piece s.fenced (fenced_same piece);
  now_is = now ∙ ap (λ (d : Cache). play d piece) s.now_is ∙ sym (play_append c0 s.shown piece);
}

-- after another's fence, or none
pub shows_fence : (k : Bool) (due left : List CacheEvent) (c0 c : Cache)
    → ShowsPlayed due left c0 c →
    ShowsPlayed due left c0 (fenced_cache k c)
shows_fence false due left c0 c s = s
shows_fence true due left c0 c s = record {
  done = s.done;
  shown = s.shown ++ Fence ∷ [];
  due_is = s.due_is;
  fenced = subst (λ (es : List CacheEvent). IsFenced es (s.shown ++ Fence ∷ []))
      (append-nil s.done) (fenced_append s.done s.shown [] (Fence ∷ []) s.fenced (Added Empty));
  now_is = ap (λ (d : Cache). apply d Fence) s.now_is ∙ sym (play_append c0 s.shown (Fence ∷ []));
}

-- a part of a list was played
pub record Part (es : List CacheEvent) (c b : Cache) : Type 0 where
  pub first : List CacheEvent
  pub rest : List CacheEvent
  pub is : es ≡ first ++ rest
  pub now : b ≡ play c first

pub part_of : (why : Refusal) (es : List CacheEvent) (d b : Device) → PlaysPart why d es b →
    Part es d.cache b.cache
part_of why [] d b part = absurd part
part_of why (e ∷ es) d b (inl refused) =
    record { first = []; rest = e ∷ es; is = refl; now = refused_cache why d b refused.1 }
part_of why (e ∷ es) d b (inr part) =
    let p = part_of why es (spent d e) b part.1 in
    record {
      first = e ∷ p.first;
      rest = p.rest;
      is = ap (λ (fs : List CacheEvent). e ∷ fs) p.is;
      now = p.now;
    }

module _ (image : Image) (tx : ℕ) (args : List ℤ) (c0 : Cache) where
  begins : TaskStands image tx args c0 (Begun tx args (first_machine image tx args)) c0
  begins = record { done = []; shown = []; due_is = refl; fenced = Empty; now_is = refl }

  goes : (a : TurnAnswer) (t : Task) (o : Option Task) (d b : Device) → IsTask image t →
      TaskStands image tx args c0 t d.cache → WentWhole a image t o d b →
      StandsOr image tx args c0 o b.cache
  goes a t o d b task s went =
      let now : b.cache ≡ play d.cache (piece_of image t d.cache) =
      all_cache (piece_of image t d.cache) d b went.2 in
      let rest : left_or image (task_past image t d.cache)
      (play d.cache (piece_of image t d.cache)) ≡ left_or image o b.cache =
      ap₂ (left_or image) (sym went.1) (sym now) in
      shows_more (due_call EndPool image tx args c0) (left_of image t d.cache)
      (piece_of image t d.cache)
      (left_or image o b.cache) c0 d.cache b.cache s
      (left_next image t d.cache task
      ∙ ap (λ (es : List CacheEvent). piece_of image t d.cache ++ es) rest) now

  waits : (t : Task) (c : Cache) (k : Bool) → TaskStands image tx args c0 t c →
      TaskStands image tx args c0 t (fenced_cache k c)
  waits t c k s =
      subst (λ (es : List CacheEvent).
      ShowsPlayed (due_call EndPool image tx args c0) es c0 (fenced_cache k c))
      (same_left image t c (fenced_cache k c) (sym (fenced_view k c)))
      (shows_fence k (due_call EndPool image tx args c0) (left_of image t c) c0 c s)

  stops : (why : Refusal) (t : Task) (d b : Device) → IsTask image t →
      TaskStands image tx args c0 t d.cache → PlaysPart why d (piece_of image t d.cache) b →
      ShowsSome (due_call EndPool image tx args c0) c0 b.cache
  stops why t d b task s part =
      let p = part_of why (piece_of image t d.cache) d b part in
      let after = left_or image (task_past image t d.cache)
      (play d.cache (piece_of image t d.cache)) in
      record {
        left = p.rest ++ after;
        shows = shows_more (due_call EndPool image tx args c0) (left_of image t d.cache) p.first
            (p.rest ++ after) c0 d.cache b.cache s
            (left_next image t d.cache task ∙ ap (λ (es : List CacheEvent). es ++ after) p.is
            ∙ append_assoc p.first p.rest after) p.now;
      }

  stays : (c : Cache) (k : Bool) → ShowsSome (due_call EndPool image tx args c0) c0 c →
      ShowsSome (due_call EndPool image tx args c0) c0 (fenced_cache k c)
  stays c k s = record {
    left = s.left;
    shows = shows_fence k (due_call EndPool image tx args c0) s.left c0 c
        s.shows;
  }

pub turns : TurnsLaw
turns image tx args c0 = (
  begins image tx args c0,
  goes image tx args c0,
  waits image tx args c0,
  stops image tx args c0,
  stays image tx args c0,
)

view_with_fences : (es fs : List CacheEvent) → IsFenced es fs → (c d : Cache) → view c ≡ view d →
    view (play c fs) ≡ view (play d es)
view_with_fences _ _ Empty c d same = same
view_with_fences _ _ (Kept {es = es} {fs = fs} e is) c d same =
    view_with_fences es fs is (apply c e) (apply d e) (same_apply c d e same)
view_with_fences _ _ (Added {es = es} {fs = fs} is) c d same =
    view_with_fences es fs is (apply c Fence) d ((λ i q. view_fence c q i) ∙ same)

pub shown_images : ShownImagesLaw
shown_images due c0 c marks = (
  (λ image s im.
      let h = s.shows in (
        h.done,
        s.left,
        h.due_is,
        (fences_add_none c0 h.done h.shown marks h.fenced).1 image
            (subst (λ (d : Cache). IsImage d image) h.now_is im),
      )),
  (λ image h im. subst (λ (es : List CacheEvent). IsImage (play c0 es) image)
      (sym (append-nil h.done) ∙ h.due_is)
      ((fences_add_none c0 h.done h.shown marks h.fenced).1 image
      (subst (λ (d : Cache). IsImage d image) h.now_is im))),
  (λ h rests. subst IsAtRest (sym h.now_is)
      ((fences_add_none c0 h.done h.shown marks h.fenced).2
      (subst (λ (es : List CacheEvent). IsAtRest (play c0 es))
      (sym (sym (append-nil h.done) ∙ h.due_is)) rests))),
  (λ h. ap view h.now_is ∙ view_with_fences h.done h.shown h.fenced c0 c0 refl
      ∙ ap (λ (es : List CacheEvent). view (play c0 es)) (sym (append-nil h.done) ∙ h.due_is)),
)
