-- The end of a transaction stays the same turn by turn.
use Rattle.std.proofs.Common.{◌≡◌, ℕ, zero, suc, ◌+◌, ◌-◌, ◌<◌, ◌≤◌, ◌==◌, if◌then◌else◌, Bool}
use Rattle.std.proofs.Common.{false, List, length, ℤ, Option, Some, None, ne_eqb, refl, sym, ap}
use Rattle.std.proofs.Common.{ap₂, ◌∙◌, [], true}
use Rattle.std.proofs.Common.{subst, arith}
use Rattle.cache_model.specs.Event.{CacheEvent}
use Rattle.cache_model.specs.Cache.{Words, Cache, view}
use Rattle.cache_model.specs.Play.{play}
use Rattle.clobber_log.specs.Logs.{attempt_in, count_in}
use Rattle.pool_layout.specs.declared.places.Place.TheVariants.{Heap}
use Rattle.pool_layout.specs.Places.{at, pool_of}
use Rattle.pool_map.specs.declared.trap.TrapKind.TheVariants.{Steps}
use Rattle.pm_machine.specs.declared.effect.End.{End}
use Rattle.pm_machine.specs.declared.effect.End.TheVariants.{Trapped}
use Rattle.pm_machine.specs.declared.image.Image.{Image}
use Rattle.pm_machine.specs.declared.machine.Machine.{Machine}
use Rattle.pm_machine.specs.declared.machine.Went.TheVariants as went
use Rattle.pm_machine.specs.declared.records.Policy.TheVariants.{EndPool}
use Rattle.pm_machine.specs.Logging.{Logging, Turn, Plays, Stops, turn, turn_of}
use Rattle.pm_machine.specs.Machine.{State, StepOutcome, Goes, Ends, step}
use Rattle.pm_machine.specs.Runs.{Due, heap_in, due, end_of, owing, played, turn_events, IsTurn}
use Rattle.pm_machine.specs.Runs.{due_on, logging_on}
use Rattle.pm_machine.proofs.Recording.{taken_on}
use Rattle.tx_run.specs.Due.{due_seal}
use Rattle.pm_machine.specs.Looking as looking
use Rattle.pm_machine.specs.Looking.{is_look, later, look_on, look_of}
use Rattle.pool_map.specs.declared.trap.TrapKind.TheVariants.{Depth}
use Rattle.pool_workers.specs.Look.{going_look, looked, look_ticks, HasLeft}
use Rattle.pool_workers.specs.declared.look.Look.{Look}
use Rattle.pool_workers.specs.declared.look.Look.TheVariants.{Fresh, Going, Seen}
use Rattle.pool_workers.specs.declared.task.Task.{Task}
use Rattle.pool_workers.specs.declared.task.Task.TheVariants.{Begun, Running, Ending, Cut}
use Rattle.pool_workers.specs.declared.task.Task.TheVariants.{Looking}
use Rattle.pool_workers.specs.Task.{machine_at, going, stepped_task, piece_of, task_past}
use Rattle.pool_workers.specs.Task.{answer_past, ticks_of, look_past, IsTask, IsUncut}
use Rattle.workers_law.specs.Fate.{look_left, look_in, fate_of, task_logs, task_steps, is_looking}
use Rattle.workers_law.specs.Fate.{told_end, FateLaw}
use Rattle.workers_law.proofs.Stands.{same_due, same_play, same_seal}

abbrev Comes : Image → Task → Cache → End → (r m : ℕ) → Type 0
Comes image t c e r m = (fate_of image t c ≡ e) × (task_logs image t c ≡ r)
    × (task_steps image t c ≡ m)

going_comes : (image : Image) (tx : ℕ) (m : Machine) (a k : ℕ) (c : Cache) →
    let x = due image a k m.records m.processor c in
    Comes image (going tx m a k) c (end_of x.fate)
    (x.records + length m.records.words - m.records.count) x.steps
going_comes image tx m a zero c = (refl, omega arith, refl)
going_comes image tx m a (suc k) c =
    let some : (suc k == 0) ≡ false = ne_eqb (suc k) 0 (λ e. let none : ⊥ = omega arith in none) in
    let x = due image a (suc k) m.records m.processor c in
    subst (λ (b : Bool). Comes image
    (if b then Ending tx (Trapped Steps) (length m.records.words) else Running tx m a (suc k)) c
    (end_of x.fate) (x.records + length m.records.words - m.records.count) x.steps)
    (sym some) (refl, refl, refl)

-- a turn notes as many words as it takes records
abbrev Notes : Logging → Turn → Type 0
Notes g (Plays es h t) = length h.words + g.count ≡ h.count + length g.words
Notes g (Stops end) = Unit {0}

turn_notes : (C : ℕ) (g : Logging) (o : StepOutcome) → Notes g (turn C g o)
turn_notes C g o = go (turn C g o) refl
  where
    go : (x : Turn) → x ≡ turn C g o → Notes g x
    go (Plays es h t) is = taken_on C g h t o (subst (IsTurn went.On h t) is (refl, refl))
    go (Stops end) is = tt

turn_comes : (image : Image) (tx a k : ℕ) (g : Logging) (c : Cache) (x : Turn) → Notes g x →
    let z = image.parts.sizes in
    let y = owing z a g (heap_in z c) (λ es h t. due image a k h t (played z a g c es)) x in
    Comes image (stepped_task tx a (suc k) g x) (play c (turn_events z a g (heap_in z c) x))
    (end_of y.fate) (y.records + length g.words - g.count) (y.steps - 1)
turn_comes image tx a k g c (Stops end) notes = (refl, omega arith, refl)
turn_comes image tx a k g c (Plays es h t) notes =
    let b = played image.parts.sizes a g c es in
    let x = due image a k h t b in
    let grown : length h.words + g.count ≡ h.count + length g.words = notes in
    let same : x.records + length h.words - h.count ≡ x.records + length g.words - g.count =
    omega (arith, grown) in
    let next = subst (λ (j : ℕ). Comes image (going tx (machine_at t h) a j) b (end_of x.fate)
    (x.records + length h.words - h.count) x.steps) (pred k)
    (going_comes image tx (machine_at t h) a k b) in
    (next.0, next.1 ∙ same, next.2 ∙ pred x.steps)
  where
    pred : (j : ℕ) → j ≡ suc j - 1
    pred j = omega arith

-- a look after its turn

going_sees : (image : Image) (m : Machine) (k : ℕ) (heap : Words) →
    look_left image (going_look m k) heap ≡ look_of image k m.processor heap
going_sees image m zero heap = refl
going_sees image m (suc k) heap =
    ap (λ (b : Bool). look_left image (if b then Seen (Trapped Steps) else Going m (suc k)) heap)
    (ne_eqb (suc k) 0 (λ e. let none : ⊥ = omega arith in none))

-- a look with one instruction less
abbrev one_less : looking.Look → looking.Look
one_less x = record { end = x.end; steps = x.steps - 1 }

looked_sees : (image : Image) (k : ℕ) (g : Logging) (heap : Words) (o : StepOutcome) →
    look_left image (looked (suc k) g o) heap
    ≡ one_less (look_on (λ t. look_of image k t heap) o)
looked_sees image k g heap (Ends end) = refl
looked_sees image k g heap (Goes e s) = by_look (is_look e)
  where
    pred : (j : ℕ) → j ≡ suc j - 1
    pred j = omega arith

    by_look : (b : Bool) → look_left image (if b
        then going_look (record { processor = s; records = g }) (suc k - 1)
        else Seen (Trapped Depth)) heap
        ≡ one_less (if b then later (look_of image k s heap)
        else record { end = Trapped Depth; steps = 1 })
    by_look true =
        let x = look_of image k s heap in
        ap (λ (j : ℕ). look_left image (going_look (record { processor = s; records = g }) j) heap)
        (sym (pred k))
        ∙ going_sees image (record { processor = s; records = g }) k heap
        ∙ (λ i. record { end = x.end; steps = pred x.steps i })
    by_look false = refl

some_is : {x y : Task} → Some x ≡ Some y → x ≡ y
some_is {x = x} {y = y} e = ap (or_else x) e
  where
    or_else : Task → Option Task → Task
    or_else d None = d
    or_else d (Some z) = z

look_comes : (image : Image) (tx : ℕ) (l : Look) (c : Cache) (u : Task) → HasLeft l →
    look_past image tx l (heap_in image.parts.sizes c) ≡ Some u →
    Comes image u c (look_in image l c).end 0 ((look_in image l c).steps - look_ticks l)
look_comes image tx (Fresh m) c u left is =
    let h = heap_in image.parts.sizes c in
    let x = going_sees image m image.parts.most h in
    subst (λ (t : Task). Comes image t c (look_in image (Fresh m) c).end 0
    ((look_in image (Fresh m) c).steps - 0)) (some_is is) (
      ap (λ (y : looking.Look). y.end) x,
      refl,
      ap (λ (y : looking.Look). y.steps) x ∙ less_none (look_in image (Fresh m) c).steps,
    )
  where
    less_none : (j : ℕ) → j ≡ j - 0
    less_none j = omega arith
look_comes image tx (Going m zero) c u left is =
    absurd (let h : 0 < 0 = left in let none : ⊥ = omega arith in none)
look_comes image tx (Going m (suc k)) c u left is =
    let h = heap_in image.parts.sizes c in
    let x = looked_sees image k m.records h (step image m.processor h) in
    subst (λ (t : Task). Comes image t c (look_in image (Going m (suc k)) c).end 0
    ((look_in image (Going m (suc k)) c).steps - 1)) (some_is is)
    (ap (λ (y : looking.Look). y.end) x, refl, ap (λ (y : looking.Look). y.steps) x)
look_comes image tx (Seen end) c u left is = absurd cc

-- the task after its piece, for tasks that go on
past_comes : (image : Image) (t : Task) (c : Cache) (u : Task) → IsTask image t → IsUncut t →
    task_past image t c ≡ Some u →
    Comes image u (play c (piece_of image t c)) (fate_of image t c) (task_logs image t c)
    (task_steps image t c - ticks_of t)
past_comes image (Begun tx args m) c u task uncut is =
    let b = play c (due_seal tx args c) in
    let z = image.parts.sizes in
    let x = due_on EndPool image m.processor b in
    subst (λ (t : Task). Comes image t b (end_of x.fate) (x.records - count_in z (view b))
    (x.steps - 0)) (some_same is)
    (let g = going_comes image tx (machine_at m.processor (logging_on EndPool z b))
    (attempt_in z (view b)) image.parts.most b in
    (g.0, g.1 ∙ no_words x.records (count_in z (view b)), g.2 ∙ less_none x.steps))
  where
    less_none : (j : ℕ) → j ≡ j - 0
    less_none j = omega arith

    no_words : (r n : ℕ) → r + 0 - n ≡ r - n
    no_words r n = omega arith

    some_same : {x y : Task} → Some x ≡ Some y → x ≡ y
    some_same {x = x} {y = y} e = ap (or_else x) e
      where
        or_else : Task → Option Task → Task
        or_else d None = d
        or_else d (Some z) = z
past_comes image (Running tx m a zero) c u task uncut is =
    absurd (let h : 0 < 0 = task.2 in let none : ⊥ = omega arith in none)
past_comes image (Running tx m a (suc k)) c u task uncut is =
    let z = image.parts.sizes in
    let g = m.records in
    let turn = turn_of image g m.processor (heap_in z c) in
    let x = due image a (suc k) g m.processor c in
    subst (λ (t : Task). Comes image t (play c (turn_events z a g (heap_in z c) turn))
    (end_of x.fate) (x.records + length g.words - g.count) (x.steps - 1)) (some_same is)
    (turn_comes image tx a k g c turn
    (turn_notes z.records g (step image m.processor (heap_in z c))))
  where
    or_else : Task → Option Task → Task
    or_else d None = d
    or_else d (Some z) = z

    some_same : {x y : Task} → Some x ≡ Some y → x ≡ y
    some_same {x = x} {y = y} e = ap (or_else x) e
past_comes image (Ending tx end l) c u task uncut is = absurd (cc)
past_comes image (Looking tx l) c u task uncut is = look_comes image tx l c u task is
past_comes image (Cut p) c u task uncut is = absurd uncut

same_begun : (image : Image) (tx : ℕ) (args : List ℤ) (s : State) (c d : Cache) → view c ≡ view d →
    let c1 = play c (due_seal tx args c) in
    let d1 = play d (due_seal tx args d) in
    (due_on EndPool image s c1 ≡ due_on EndPool image s d1)
    × (count_in image.parts.sizes (view c1) ≡ count_in image.parts.sizes (view d1))
same_begun image tx args s c d same =
    let z = image.parts.sizes in
    let c1 = play c (due_seal tx args c) in
    let d1 = play d (due_seal tx args d) in
    let after_seal : view c1 ≡ view d1 =
    same_play (due_seal tx args c) c d same
    ∙ ap (λ (es : List CacheEvent). view (play d es)) (same_seal tx args c d same) in (
      same_due image (attempt_in z (view c1)) image.parts.most (logging_on EndPool z c1) s c1 d1
          after_seal
          ∙ ap (λ (w : Words). due image (attempt_in z w) image.parts.most
          (record { policy = EndPool; count = count_in z w; words = [] }) s d1) after_seal,
      ap (count_in z) after_seal,
    )

same_fate : (image : Image) (t : Task) (c d : Cache) → view c ≡ view d →
    (fate_of image t c ≡ fate_of image t d) × (task_logs image t c ≡ task_logs image t d)
    × (task_steps image t c ≡ task_steps image t d)
same_fate image (Begun tx args m) c d same =
    let b = same_begun image tx args m.processor c d same in (
      ap (λ (x : Due). end_of x.fate) b.0,
      ap₂ (λ (x : Due) (n : ℕ). x.records - n) b.0 b.1,
      ap (λ (x : Due). x.steps) b.0,
    )
same_fate image (Running tx m a k) c d same =
    let b = same_due image a k m.records m.processor c d same in (
      ap (λ (x : Due). end_of x.fate) b,
      ap (λ (x : Due). x.records + length m.records.words - m.records.count) b,
      ap (λ (x : Due). x.steps) b,
    )
same_fate image (Ending tx end l) c d same = (refl, refl, refl)
same_fate image (Looking tx l) c d same =
    let z = image.parts.sizes in
    let heap : heap_in z c ≡ heap_in z d = λ i w. same i (at (pool_of z) (Heap w)) in (
      ap (λ (h : Words). (look_left image l h).end) heap,
      refl,
      ap (λ (h : Words). (look_left image l h).steps) heap,
    )
same_fate image (Cut p) c d same = (refl, refl, refl)

last_fate : (image : Image) (t : Task) (c : Cache) → task_past image t c ≡ None →
    answer_past t ≡ told_end (is_looking t) (fate_of image t c) (task_logs image t c)
last_fate image (Begun tx args m) c is = absurd (cc)
last_fate image (Running tx m a k) c is = absurd (cc)
last_fate image (Ending tx end l) c is = refl
last_fate image (Looking tx (Fresh m)) c is = absurd (cc)
last_fate image (Looking tx (Going m k)) c is = absurd (cc)
last_fate image (Looking tx (Seen end)) c is = refl
last_fate image (Cut p) c is = absurd (cc)

-- a run has at least one instruction if one is allowed
some_steps : (image : Image) (a k : ℕ) (g : Logging) (s : State) (c : Cache) → 0 < k →
    0 < (due image a k g s c).steps
some_steps image a zero g s c some = absurd (let none : ⊥ = omega arith in none)
some_steps image a (suc k) g s c some = by_turn (turn_of image g s (heap_in image.parts.sizes c))
  where
    by_turn : (x : Turn) →
        0 < (owing image.parts.sizes a g (heap_in image.parts.sizes c)
        (λ es h t. due image a k h t (played image.parts.sizes a g c es)) x).steps
    by_turn (Plays es h t) = omega arith
    by_turn (Stops end) = omega arith

some_look : (image : Image) (k : ℕ) (s : State) (h : Words) → 0 < k →
    0 < (look_of image k s h).steps
some_look image zero s h some = absurd (let none : ⊥ = omega arith in none)
some_look image (suc k) s h some = by_step (step image s h)
  where
    by_look : (x : looking.Look) (b : Bool) → 0 < (if b then later x
        else record { end = Trapped Depth; steps = 1 }).steps
    by_look x true = omega arith
    by_look x false = omega arith

    by_step : (o : StepOutcome) → 0 < (look_on (λ t. look_of image k t h) o).steps
    by_step (Ends end) = omega arith
    by_step (Goes e t) = by_look (look_of image k t h) (is_look e)

look_enough : (image : Image) (l : Look) (h : Words) → HasLeft l →
    look_ticks l ≤ (look_left image l h).steps
look_enough image (Fresh m) h left = omega arith
look_enough image (Going m k) h left = some_look image k m.processor h left
look_enough image (Seen end) h left = omega arith

enough : (image : Image) (t : Task) (c : Cache) → IsTask image t → ticks_of t ≤ task_steps image t c
enough image (Begun tx args m) c task = omega arith
enough image (Running tx m a k) c task = some_steps image a k m.records m.processor c task.2
enough image (Ending tx end l) c task = omega arith
enough image (Looking tx l) c task =
    look_enough image l (heap_in image.parts.sizes c) task
enough image (Cut p) c task = omega arith

pub fates : FateLaw
fates = (
  (λ image t u c task uncut is.
      let h = past_comes image t c u task uncut is in
      let left = h.2 in
      let some = enough image t c task in
      (h.0, h.1, omega arith)),
  same_fate,
  last_fate,
)
