-- A call's events lie within its pool.
use Rattle.std.proofs.Common.{◌≤◌, ◌+◌, ◌*◌, ℕ, zero, suc, List, [], ◌∷◌, ◌++◌, length, take, w64}
use Rattle.std.proofs.Common.{◌≡◌, ◌<◌, ℤ, Option, Some, None, Bool, true, false, if◌then◌else◌}
use Rattle.std.proofs.Common.{refl, subst, arith, nat_eq}
use Rattle.std.specs.List.{list_any}
use Rattle.std.proofs.lemmas.Bool.{ltb-true}
use Rattle.std.specs.Int.{cast_signed}
use Rattle.cache_model.specs.Event.{CacheEvent, Store, Flush, Fence}
use Rattle.cache_model.specs.Cache.{Words, Cache, view}
use Rattle.cache_model.specs.Play.{play}
use Rattle.pool_layout.specs.declared.places.TheConstants.{DONE, FUNCTION, SEAL, ARGUMENTS}
use Rattle.pool_layout.specs.declared.limits.Sizes.{Sizes}
use Rattle.pool_layout.specs.Sizes.{heap_words, pool_lines}
use Rattle.clobber_log.specs.Logs.{attempt_in}
use Rattle.args_log.specs.Next.{number_after}
use Rattle.args_log.specs.Retire.{retire_events, mark_events}
use Rattle.args_log.specs.Seal.{stores_from, flushes_from, payload_lines, payload_events}
use Rattle.args_log.specs.Seal.{unsealed_events, sealing_events, seal_events}
use Rattle.pm_machine.specs.declared.effect.Effect.{Effect}
use Rattle.pm_machine.specs.declared.effect.Effect.TheVariants.{Loads, Scans, Stores, Logs, Flushes}
use Rattle.pm_machine.specs.declared.effect.Effect.TheVariants.{Fences, Quiet}
use Rattle.pm_machine.specs.declared.effect.End.{End}
use Rattle.pm_machine.specs.declared.effect.End.TheVariants.{Halted, Trapped}
use Rattle.pm_machine.specs.declared.image.Image.{Image}
use Rattle.pm_machine.specs.declared.records.Policy.TheVariants.{EndPool}
use Rattle.pm_machine.specs.declared.records.Policy.{Policy}
use Rattle.pm_machine.specs.declared.records.Policy.TheVariants.{RollBack}
use Rattle.pool_map.specs.declared.trap.TrapKind.TheVariants.{LogFull}
use Rattle.pm_machine.specs.Effects.{events_of, events_all}
use Rattle.pm_machine.specs.Logging.{Logging, Turn, Plays, Stops, asks, unlisted, missing, bare}
use Rattle.pm_machine.specs.Logging.{with_record, noted, has_room, turn, turn_of}
use Rattle.pm_machine.specs.Machine.{State, StepOutcome, Goes, Ends, step, start}
use Rattle.pm_machine.specs.Runs.{heap_in, AreLines, due, end_of, owing, played, turn_events}
use Rattle.pm_machine.specs.Runs.{due_on, logging_on}
use Rattle.pm_machine.specs.inside.Runs.{IsInRange, HasRoomFor, StepKeeps}
use Rattle.pm_machine.proofs.Range.{keeps_step, bare_range, bare_room}
use Rattle.tx_run.specs.Due.{tail_events, due_run, due_seal, due_call}
use Rattle.recovery.specs.Due.{due_clean}
use Rattle.pool_workers.specs.declared.task.Task.{Task}
use Rattle.pool_workers.specs.declared.task.Task.TheVariants.{Begun, Running, Ending, Cut}
use Rattle.pool_workers.specs.declared.task.Task.TheVariants.{Looking}
use Rattle.workers_law.specs.WithinPool.{InsideLaw}
use Rattle.workers_law.specs.Interleaved.{AreInside}
use Rattle.pool_workers.specs.Task.{piece_of, IsTask}

inside_append : (n : ℕ) (es fs : List CacheEvent) → AreInside n es → AreInside n fs →
    AreInside n (es ++ fs)
inside_append n [] fs a b = b
inside_append n (e ∷ es) fs a b = (a.0, inside_append n es fs a.1 b)

inside_stores : (n w : ℕ) (xs : List ℤ) → w + length xs ≤ 8 * n → AreInside n (stores_from w xs)
inside_stores n w [] le = tt
inside_stores n w (x ∷ xs) le = (omega arith, inside_stores n (suc w) xs (omega arith))

inside_flushes : (n l k : ℕ) → l + k ≤ n → AreInside n (flushes_from l k)
inside_flushes n l zero le = tt
inside_flushes n l (suc k) le = (omega arith, inside_flushes n (suc l) k (omega arith))

few : (n : ℕ) (xs : List ℤ) → length (take n xs) ≤ n
few zero xs = omega arith
few (suc n) [] = omega arith
few (suc n) (x ∷ xs) = let h = few n xs in omega arith

inside_seal : (n : ℕ) (f : ℤ) (args : List ℤ) (k : ℤ) → 6 ≤ n → length args ≤ ARGUMENTS →
    AreInside n (seal_events f args k)
unfolding seal_events unsealed_events payload_events sealing_events
inside_seal n f args k le m =
    inside_append n ((stores_from FUNCTION (f ∷ args)
    ++ (flushes_from 3 (payload_lines (length args)) ++ Fence ∷ [])) ++ Store SEAL k ∷ [])
    (Flush 5 ∷ Fence ∷ [])
    (inside_append n
    (stores_from FUNCTION (f ∷ args)
    ++ (flushes_from 3 (payload_lines (length args)) ++ Fence ∷ [])) (Store SEAL k ∷ [])
    (inside_append n (stores_from FUNCTION (f ∷ args))
    (flushes_from 3 (payload_lines (length args)) ++ Fence ∷ [])
    (inside_stores n FUNCTION (f ∷ args) (omega arith))
    (inside_append n (flushes_from 3 (payload_lines (length args))) (Fence ∷ [])
    (inside_flushes n 3 (payload_lines (length args)) (omega arith)) (tt, tt)))
    (omega arith, tt))
    (omega arith, (tt, tt))

inside_effect : (z : Sizes) (a n : ℕ) (h : Words) (e : Effect) → IsInRange (heap_words z) e →
    HasRoomFor z.records n e → AreInside (pool_lines z) (events_of z a n h e)
inside_effect z a n h (Loads w) range room = tt
inside_effect z a n h (Scans w apart m) range room = tt
inside_effect z a n h (Stores w x) range room = (omega arith, tt)
inside_effect z a n h (Logs w) range room =
    (omega arith, (omega arith, (omega arith, (omega arith, (tt, tt)))))
inside_effect z a n h (Flushes l) range room = (omega arith, tt)
inside_effect z a n h Fences range room = (tt, tt)
inside_effect z a n h Quiet range room = tt

inside_tail : (z : Sizes) (end : End) (c : Cache) →
    AreInside (pool_lines z) (tail_events EndPool z end c)
unfolding retire_events mark_events
inside_tail z (Halted v) c = (omega arith, (omega arith, (omega arith, (omega arith, (tt, tt)))))
inside_tail z (Trapped k) c = (omega arith, (omega arith, (tt, tt)))

-- the word that an effect asks a record of is a word of the heap
asked_range : (H : ℕ) (p : Policy) (e : Effect) (w : ℕ) → IsInRange H e → asks p e ≡ Some w →
    w < H
asked_range H p (Logs v) w range is =
    let e : v ≡ w = cc in subst (λ (i : ℕ). i < H) e range
asked_range H EndPool (Stores v x) w range is = absurd (cc)
asked_range H RollBack (Stores v x) w range is =
    let e : v ≡ w = cc in subst (λ (i : ℕ). i < H) e range
asked_range H p (Loads v) w range is = absurd (cc)
asked_range H p (Scans v apart m) w range is = absurd (cc)
asked_range H p (Flushes l) w range is = absurd (cc)
asked_range H p Fences w range is = absurd (cc)
asked_range H p Quiet w range is = absurd (cc)

missing_range : (H : ℕ) (ws : List ℕ) (o : Option ℕ) → ((w : ℕ) → o ≡ Some w → w < H) →
    (w : ℕ) → unlisted ws o ≡ Some w → w < H
missing_range H ws None range w is = absurd (cc)
missing_range H ws (Some v) range w is = go (list_any (nat_eq v) ws) is
  where
    go : (b : Bool) → (if b then None else Some v) ≡ Some w → w < H
    go true is = absurd (cc)
    go false is = range w is

inside_record : (z : Sizes) (a : ℕ) (g : Logging) (h : Words) (o : Option ℕ) (e : Effect) →
    ((w : ℕ) → o ≡ Some w → w < heap_words z) → has_room z.records g o ≡ true →
    IsInRange (heap_words z) e →
    AreInside (pool_lines z) (events_all z a g.count h (with_record o e))
inside_record z a g h None e record_range room range =
    inside_append (pool_lines z) (events_of z a g.count h (bare e)) []
    (inside_effect z a g.count h (bare e) (bare_range (heap_words z) e range)
    (bare_room z.records g.count e)) tt
inside_record z a g h (Some w) e record_range room range =
    inside_append (pool_lines z) (events_of z a g.count h (Logs w))
    (events_of z a (suc g.count) h (bare e) ++ [])
    (inside_effect z a g.count h (Logs w) (record_range w refl) (ltb-true g.count z.records room))
    (inside_append (pool_lines z) (events_of z a (suc g.count) h (bare e)) []
    (inside_effect z a (suc g.count) h (bare e) (bare_range (heap_words z) e range)
    (bare_room z.records (suc g.count) e)) tt)

-- a turn's events lie within the pool, and the dirty lines after it are lines of the heap
abbrev TurnInside : Sizes → (a : ℕ) → Logging → Words → Turn → Type 0
TurnInside z a g h (Plays es f t) =
    AreInside (pool_lines z) (events_all z a g.count h es) × AreLines (heap_words z) t.dirty
TurnInside z a g h (Stops end) = Unit {0}

inside_turn : (z : Sizes) (a : ℕ) (g : Logging) (h : Words) (o : StepOutcome) →
    StepKeeps (heap_words z) o → TurnInside z a g h (turn z.records g o)
inside_turn z a g h (Ends end) keeps = tt
inside_turn z a g h (Goes e t) keeps = go (has_room z.records g (missing g e)) refl
  where
    go : (b : Bool) → has_room z.records g (missing g e) ≡ b → TurnInside z a g h
        (if b then Plays (with_record (missing g e) e) (noted g (missing g e)) t
        else Stops (Trapped LogFull))
    go true room = (
      inside_record z a g h (missing g e) e
          (missing_range (heap_words z) g.words (asks g.policy e)
          (λ w. asked_range (heap_words z) g.policy e w keeps.0)) room keeps.0,
      keeps.1,
    )
    go false room = tt

inside_events : (z : Sizes) (a : ℕ) (g : Logging) (h : Words) (x : Turn) →
    TurnInside z a g h x → AreInside (pool_lines z) (turn_events z a g h x)
inside_events z a g h (Plays es f t) inside = inside.0
inside_events z a g h (Stops end) inside = tt

inside_owing : (image : Image) (a k : ℕ) (g : Logging) (c : Cache) (x : Turn) →
    let z = image.parts.sizes in
    TurnInside z a g (heap_in z c) x →
    ((f : Logging) (t : State) (d : Cache) → AreLines (heap_words z) t.dirty →
    AreInside (pool_lines z) (due image a k f t d).events) →
    AreInside (pool_lines z)
    (owing z a g (heap_in z c) (λ es f t. due image a k f t (played z a g c es)) x).events
inside_owing image a k g c (Stops end) inside rest = tt
inside_owing image a k g c (Plays es f t) inside rest =
    let z = image.parts.sizes in
    inside_append (pool_lines z) (events_all z a g.count (heap_in z c) es)
    (due image a k f t (played z a g c es)).events inside.0
    (rest f t (played z a g c es) inside.1)

-- the next turn of a run
inside_next : (image : Image) (a : ℕ) (g : Logging) (s : State) (c : Cache) →
    AreLines (heap_words image.parts.sizes) s.dirty →
    TurnInside image.parts.sizes a g (heap_in image.parts.sizes c)
    (turn_of image g s (heap_in image.parts.sizes c))
inside_next image a g s c lines =
    let h = heap_in image.parts.sizes c in
    inside_turn image.parts.sizes a g h (step image s h)
    (keeps_step image h s (step image s h) lines refl)

inside_due : (image : Image) (a k : ℕ) (g : Logging) (s : State) (c : Cache) →
    AreLines (heap_words image.parts.sizes) s.dirty →
    AreInside (pool_lines image.parts.sizes) (due image a k g s c).events
inside_due image a zero g s c lines = tt
inside_due image a (suc k) g s c lines =
    inside_owing image a k g c (turn_of image g s (heap_in image.parts.sizes c))
    (inside_next image a g s c lines) (λ f t d more. inside_due image a k f t d more)

inside_call : (image : Image) (tx : ℕ) (args : List ℤ) (c : Cache) →
    AreInside (pool_lines image.parts.sizes) (due_call EndPool image tx args c)
unfolding due_call
inside_call image tx args c =
    let z = image.parts.sizes in
    let c1 = play c (due_seal tx args c) in
    let s = start image tx args in
    inside_append (pool_lines z) (due_seal tx args c) (due_run EndPool image s c1)
    (inside_seal (pool_lines z) (cast_signed w64 tx) (take ARGUMENTS args)
    (number_after (view c DONE))
    (omega arith) (few ARGUMENTS args))
    (inside_append (pool_lines z) (due_on EndPool image s c1).events
    (tail_events EndPool z (end_of (due_on EndPool image s c1).fate)
    (play c1 (due_on EndPool image s c1).events))
    (inside_due image (attempt_in z (view c1)) image.parts.most (logging_on EndPool z c1) s c1 tt)
    (inside_tail z (end_of (due_on EndPool image s c1).fate)
    (play c1 (due_on EndPool image s c1).events)))

inside_piece : (image : Image) (t : Task) (c : Cache) → IsTask image t →
    AreInside (pool_lines image.parts.sizes) (piece_of image t c)
inside_piece image (Begun tx args m) c task =
    inside_seal (pool_lines image.parts.sizes) (cast_signed w64 tx) (take ARGUMENTS args)
    (number_after (view c DONE)) (omega arith) (few ARGUMENTS args)
inside_piece image (Running tx m a k) c task =
    let h = heap_in image.parts.sizes c in
    inside_events image.parts.sizes a m.records h (turn_of image m.records m.processor h)
    (inside_next image a m.records m.processor c task.0)
inside_piece image (Ending tx end l) c task = inside_tail image.parts.sizes end c
inside_piece image (Looking tx l) c task = tt
inside_piece image (Cut p) c task = tt

inside_clean : (s : Sizes) (m : ℕ) (c : Cache) → AreInside (pool_lines s) (due_clean s m c)
inside_clean s zero c = tt
inside_clean s (suc m) c = (omega arith, (omega arith, (tt, tt)))

pub insides : InsideLaw
insides = (inside_call, inside_piece, inside_clean)
