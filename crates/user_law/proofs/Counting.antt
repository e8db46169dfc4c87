-- How many events a call and a recovery have.
use Rattle.std.proofs.Common.{ℕ, zero, suc, ◌+◌, ◌*◌, ◌≤◌, ◌==◌, ◌&&◌, Bool, true, false}
use Rattle.std.proofs.Common.{if◌then◌else◌, List, [], ◌∷◌, ◌++◌, length, take, Option, Some, None}
use Rattle.std.proofs.Common.{ℤ, pos, int_eq, arith}
use Rattle.std.specs.Int.{w64, cast_signed}
use Rattle.std.proofs.lemmas.List.{length-append}
use Rattle.cache_model.specs.Event.{CacheEvent}
use Rattle.cache_model.specs.Cache.{Words, Cache, view}
use Rattle.cache_model.specs.Play.{play}
use Rattle.pool_layout.specs.declared.limits.Sizes.{Sizes}
use Rattle.pool_layout.specs.declared.places.TheConstants.{ARGUMENTS, LAST, DONE, ATTEMPT}
use Rattle.pool_layout.specs.declared.places.Place.TheVariants.{RecordStamp}
use Rattle.pool_layout.specs.Places.{at, pool_of}
use Rattle.pool_layout.specs.Log.{leading, count}
use Rattle.pool_map.specs.Trap.{trap_number}
use Rattle.pool_map.specs.declared.trap.TrapKind.TheVariants.{LogFull}
use Rattle.clobber_log.specs.Logs.{attempt_in, count_in}
use Rattle.clobber_log.specs.Restore.{as_heap_word, back_at, back_events, fence_after, back_first}
use Rattle.clobber_log.specs.Restore.{word_in_record, old_in_record, restore_events}
use Rattle.args_log.specs.Next.{number_after}
use Rattle.args_log.proofs.Lengths.{seal_length, retire_length, mark_length}
use Rattle.pm_machine.specs.declared.effect.Effect.{Effect}
use Rattle.pm_machine.specs.declared.effect.Effect.TheVariants as effect
use Rattle.pm_machine.specs.declared.effect.End.{End}
use Rattle.pm_machine.specs.declared.effect.End.TheVariants.{Halted, Trapped}
use Rattle.pm_machine.specs.declared.image.Image.{Image}
use Rattle.pm_machine.specs.declared.records.Policy.{Policy}
use Rattle.pm_machine.specs.declared.records.Policy.TheVariants.{EndPool, RollBack}
use Rattle.pm_machine.specs.Effects.{events_of, events_all}
use Rattle.pm_machine.specs.Machine.{State, StepOutcome, Goes, Ends, start, step}
use Rattle.pm_machine.specs.Logging.{Logging, missing, bare, with_record, noted, has_room, Plays}
use Rattle.pm_machine.specs.Logging.{Stops, turn}
use Rattle.pm_machine.specs.Runs.{heap_in, Due, owing, played, due, logging_on, due_on, end_of}
use Rattle.tx_run.specs.Due.{due_seal, due_call, due_run, tail_events, retiring_still}
use Rattle.recovery.specs.Due.{due_clean, due_back, due_redo, due_reset}

-- a step has at most five events: those of a record
step_few : (s : Sizes) (a n : ℕ) (heap : Words) (e : Effect) → length (events_of s a n heap e) ≤ 5
step_few s a n heap (effect.Loads w) = omega arith
step_few s a n heap (effect.Scans w apart m) = omega arith
step_few s a n heap (effect.Stores w x) = omega arith
step_few s a n heap (effect.Logs w) = omega arith
step_few s a n heap (effect.Flushes l) = omega arith
step_few s a n heap effect.Fences = omega arith
step_few s a n heap effect.Quiet = omega arith

-- a record, if one is taken, and a step
taken_few : (s : Sizes) (a n : ℕ) (heap : Words) (o : Option ℕ) (e : Effect)
    → length (events_all s a n heap (with_record o e)) ≤ 10
taken_few s a n heap None e =
    let one = step_few s a n heap (bare e) in
    let all = length-append (events_of s a n heap (bare e)) [] in
    omega (arith, one, all)
taken_few s a n heap (Some w) e =
    let logged = step_few s a n heap (effect.Logs w) in
    let one = step_few s a (suc n) heap (bare e) in
    let all = length-append (events_of s a (suc n) heap (bare e)) [] in
    let both = length-append (events_of s a n heap (effect.Logs w))
    (events_of s a (suc n) heap (bare e) ++ []) in
    omega (arith, logged, one, all, both)

-- a turn, and then what is due of the rest
turn_few : (s : Sizes) (a m C : ℕ) (g : Logging) (heap : Words)
    (rest : List Effect → Logging → State → Due)
    → ((es : List Effect) (h : Logging) (t : State) → length (rest es h t).events ≤ m)
    → (o : StepOutcome) → length (owing s a g heap rest (turn C g o)).events ≤ 10 + m
turn_few s a m C g heap rest later (Ends end) = omega arith
turn_few s a m C g heap rest later (Goes e t) = go (has_room C g (missing g e))
  where
    go : (room : Bool)
        → length (owing s a g heap rest
        (if room then Plays (with_record (missing g e) e) (noted g (missing g e)) t
        else Stops (Trapped LogFull))).events ≤ 10 + m
    go false = omega arith
    go true =
        let first = taken_few s a g.count heap (missing g e) e in
        let others = later (with_record (missing g e) e) (noted g (missing g e)) t in
        let both = length-append (events_all s a g.count heap (with_record (missing g e) e))
        (rest (with_record (missing g e) e) (noted g (missing g e)) t).events in
        omega (arith, first, others, both)

due_few : (image : Image) (a k : ℕ) (g : Logging) (s : State) (c : Cache)
    → length (due image a k g s c).events ≤ 10 * k
due_few image a zero g s c = omega arith
due_few image a (suc k) g s c =
    let few = turn_few image.parts.sizes a (10 * k) image.parts.sizes.records g
    (heap_in image.parts.sizes c)
    (λ es h t. due image a k h t (played image.parts.sizes a g c es))
    (λ es h t. due_few image a k h t (played image.parts.sizes a g c es))
    (step image s (heap_in image.parts.sizes c)) in
    omega (arith, few)

-- no more records are valid than the log has
leading_few : (stamps : ℕ → ℤ) (a n : ℕ) → leading stamps a n ≤ n
leading_few stamps a zero = omega arith
leading_few stamps a (suc n) =
    go ((leading stamps a n == n) && int_eq (stamps n) (pos (suc a))) (leading_few stamps a n)
  where
    go : (b : Bool) → leading stamps a n ≤ n → (if b then suc n else leading stamps a n) ≤ suc n
    go true few = omega arith
    go false few = omega (arith, few)

count_few : (s : Sizes) (image : Words) → count_in s image ≤ s.records
unfolding count
count_few s image =
    leading_few (λ j. image (at (pool_of s) (RecordStamp j))) (attempt_in s image) s.records

back_few : (s : Sizes) (o : Option ℕ) (old : ℤ) → length (back_at s o old) ≤ 2
back_few s None old = omega arith
back_few s (Some w) old = omega arith

backs_few : (s : Sizes) (word old : ℕ → ℤ) (n : ℕ) → length (back_events s word old n) ≤ 2 * n
backs_few s word old zero = omega arith
backs_few s word old (suc n) =
    let one = back_few s (as_heap_word s (word n)) (old n) in
    let others = backs_few s word old n in
    let both = length-append (back_at s (as_heap_word s (word n)) (old n))
    (back_events s word old n) in
    omega (arith, one, others, both)

fence_few : (n : ℕ) → length (fence_after n) ≤ 1
fence_few zero = omega arith
fence_few (suc n) = omega arith

restore_few : (s : Sizes) (image : Words)
    → length (restore_events s image) ≤ 2 * s.records + 1
unfolding restore_events
restore_few s image =
    let n : ℕ = count_in s image in
    let backs = backs_few s (word_in_record s image) (old_in_record s image) n in
    let fence = fence_few n in
    let both = length-append (back_first s image n) (fence_after n) in
    let few = count_few s image in
    omega (arith, backs, fence, both, few)

take_few : (n : ℕ) (xs : List ℤ) → length (take n xs) ≤ n
take_few zero xs = omega arith
take_few (suc n) [] = omega arith
take_few (suc n) (x ∷ xs) = let few = take_few n xs in omega (arith, few)

seal_few : (tx : ℕ) (args : List ℤ) (c : Cache) → length (due_seal tx args c) ≤ 50
seal_few tx args c =
    let few = take_few ARGUMENTS args in
    let is = seal_length (cast_signed w64 tx) (take ARGUMENTS args) (number_after (view c DONE)) in
    omega (arith, few, is)

tail_few : (p : Policy) (z : Sizes) (end : End) (c : Cache)
    → length (tail_events p z end c) ≤ 2 * z.records + 6
tail_few p z (Halted v) c =
    let is = retire_length v (number_after (view c DONE)) (number_after (view c ATTEMPT)) in
    omega (arith, is)
tail_few EndPool z (Trapped k) c =
    let is = mark_length (trap_number k) in omega (arith, is)
tail_few RollBack z (Trapped k) c =
    let es : List CacheEvent = restore_events z (view c) in
    let few = restore_few z (view c) in
    let after : Words = view (play c es) in
    let is = retire_length (after LAST) (number_after (after DONE))
    (number_after (after ATTEMPT)) in
    let both = length-append es (retiring_still (play c es)) in
    omega (arith, few, is, both)

run_few : (p : Policy) (image : Image) (s : State) (c : Cache)
    → length (due_run p image s c) ≤ 10 * image.parts.most + 2 * image.parts.sizes.records + 6
run_few p image s c =
    let ran : Due = due_on p image s c in
    let one = due_few image (attempt_in image.parts.sizes (view c)) image.parts.most
    (logging_on p image.parts.sizes c) s c in
    let other = tail_few p image.parts.sizes (end_of ran.fate) (play c ran.events) in
    let both = length-append ran.events
    (tail_events p image.parts.sizes (end_of ran.fate) (play c ran.events)) in
    omega (arith, one, other, both)

abbrev pub most_events : Image → ℕ
most_events image = 10 * image.parts.most + 4 * image.parts.sizes.records + 64

pub call_few : (p : Policy) (image : Image) (tx : ℕ) (args : List ℤ) (c : Cache)
    → length (due_call p image tx args c) ≤ most_events image
unfolding due_call
call_few p image tx args c =
    let es : List CacheEvent = due_seal tx args c in
    let one = seal_few tx args c in
    let other = run_few p image (start image tx args) (play c es) in
    let both = length-append es (due_run p image (start image tx args) (play c es)) in
    omega (arith, one, other, both)

pub clean_few : (image : Image) (n : ℕ) (c : Cache)
    → length (due_clean image.parts.sizes n c) ≤ most_events image
clean_few image zero c = omega arith
clean_few image (suc n) c = omega arith

back_most : (s : Sizes) (n : ℕ) (c : Cache) → length (due_back s n c) ≤ 2 * s.records + 4
back_most s zero c = omega arith
back_most s (suc n) c =
    let few = restore_few s (view c) in
    let both = length-append (restore_events s (view c))
    (due_reset s (play c (restore_events s (view c)))) in
    omega (arith, few, both)

pub redo_few : (p : Policy) (image : Image) (tx : ℕ) (args : List ℤ) (n : ℕ) (c : Cache)
    → length (due_redo p image tx args n c) ≤ most_events image
redo_few p image tx args n c =
    let es : List CacheEvent = due_back image.parts.sizes n c in
    let one = back_most image.parts.sizes n c in
    let other = run_few p image (start image tx args) (play c es) in
    let both = length-append es (due_run p image (start image tx args) (play c es)) in
    omega (arith, one, other, both)
