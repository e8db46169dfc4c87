-- The crash law of a call and of its recovery.
use Rattle.pool_layout.specs.Sizes.{heap_words}
use Rattle.std.specs.Prelude.{◌≤◌, ◌+◌, ◌*◌, ◌/◌, Option, Some, ◌∷◌, Bool, IsTrue, ℕ, zero, suc}
use Rattle.std.specs.Prelude.{◌^◌, ◌<◌, ◌≡◌}
use Rattle.std.specs.Prelude.{◌⊎◌, List, [], ◌++◌, length, None, ℤ}
use Rattle.cache_model.specs.Event.{CacheEvent, Fence}
use Rattle.cache_model.specs.Cache.{Words, Cache}
use Rattle.cache_model.specs.Play.{play}
use Rattle.cache_model.specs.Image.{IsImage, Images, HasOne}
use Rattle.cache_model.specs.During.{during}
use Rattle.pool_layout.specs.declared.limits.Sizes.{Sizes}
use Rattle.pool_layout.specs.declared.places.TheConstants.{ARGUMENTS}
use Rattle.pool_layout.specs.Places.{pool_of}
use Rattle.pool_layout.specs.Log.{count}
use Rattle.pool_layout.specs.Good.{Lost, Pool, Good}
use Rattle.crash_law.specs.Pools.{Call, Owed, IsBefore, IsDone, IsRetired, last_of, HasNoRecord}
use Rattle.crash_law.specs.Due.{Entry, Result, Halted, Trapped, Undone, IsTrace, IsStored}
use Rattle.crash_law.specs.Due.{Plain, Logged, heap_after}
use Rattle.crash_law.specs.Due.{run_events, due_call, redo_events, clean_events}
use Rattle.crash_law.specs.Effects.{Effect, IsSound, IsInput, IsOverwritten, trace_of}
use Rattle.crash_law.specs.Effects.{effect_events}

-- What is used of a run: each word is in W and in the heap, the first entry of each word of E is
-- logged, and the records fit; each word of W is stored; a trap's number is at least 1; and where
-- the run is undone, each word of W is in E, so it has a record.
pub record IsRun (pool : Pool) (E W : ℕ → Type 0) (result : Result) (trace : List Entry) :
    Type 0 where
  pub trace_is : IsTrace pool.sizes.records (heap_words pool.sizes) E W 0 (λ w. ⊥) trace
  pub all_stored : (w : ℕ) → W w → IsStored w trace
  pub trap_is : (trap : ℕ) → result ≡ Trapped trap → 0 < trap
  pub undone_is : (last : ℤ) → result ≡ Undone last → (w : ℕ) → W w → E w

-- what a call's end asks of the last value while the call is owed: to be undone it must be kept
abbrev pub KeepsLast : Result → ℤ → Type 0
KeepsLast (Halted value) x = Unit {0}
KeepsLast (Trapped trap) x = Unit {0}
KeepsLast (Undone last) x = x ≡ last

-- the end of a call from heap h: it is done, with the heap h'; or the pool is lost; or it is
-- retired with the heap and the last value from before
abbrev pub IsEnd : Pool → Call → (h h' : ℕ → ℤ) → Result → Words → Type 0
IsEnd pool call h h' (Halted value) image = IsDone pool (suc call.done) h' value image
IsEnd pool call h h' (Trapped trap) image = Lost pool.sizes trap image
IsEnd pool call h h' (Undone last) image = IsDone pool (suc call.done) h last image

-- the same after the last event, when also no record is valid unless the pool is lost
abbrev pub IsEnded : Pool → Call → (h h' : ℕ → ℤ) → Result → Words → Type 0
IsEnded pool call h h' (Halted value) image = IsRetired pool (suc call.done) h' value image
IsEnded pool call h h' (Trapped trap) image = Lost pool.sizes trap image
IsEnded pool call h h' (Undone last) image = IsRetired pool (suc call.done) h last image

-- the four images that a power cut may leave
abbrev pub IsCut : Pool → Call → (E W : ℕ → Type 0) → (h h' : ℕ → ℤ) → ℤ → Result → Words → Type 0
IsCut pool call E W h h' last result image =
    IsBefore pool call.done h last image
    ⊎ (Owed pool call E W h (KeepsLast result) image ⊎ IsEnd pool call h h' result image)

-- Every image is of the first kind after each event, and of the second after the last.
abbrev pub Leaves : Cache → List CacheEvent → (cut whole : Words → Type 0) → Type 0
Leaves c events cut whole = during c events (Images cut) × Images whole (play c events)

-- after each event of a call every image is one of the four; after the last it is the call's end
abbrev pub CutCall : Pool → Call → (E W : ℕ → Type 0) → (h : ℕ → ℤ) → Result → List Entry → Cache
    → (last : ℤ) → (a : ℕ) → Type 0
CutCall pool call E W h result trace c last a =
    Leaves c (due_call pool.sizes a call h result trace)
    (IsCut pool call E W h (heap_after h trace) last result)
    (IsEnded pool call h (heap_after h trace) result)

-- a recovery of an owed call: after each event the call is still owed or has ended; after the last
-- it has ended
abbrev pub CutRedo : Pool → Call → (E W : ℕ → Type 0) → (h : ℕ → ℤ) → Result → List Entry → Cache
    → Words → (a n : ℕ) → Type 0
CutRedo pool call E W h result trace c one a n =
    Leaves c (redo_events pool.sizes a (suc call.done) one n result trace)
    (λ image. Owed pool call E W h (KeepsLast result) image
    ⊎ IsEnd pool call h (heap_after h trace) result image)
    (IsEnded pool call h (heap_after h trace) result)

-- a recovery of an image that isn't sealed: after each event the image is good; after the last it
-- has no valid record
pub record IsClean (pool : Pool) (d : ℕ) (h : ℕ → ℤ) (image : Words) : Type 0 where
  pub good : Good pool d h image
  pub empty : HasNoRecord pool image

abbrev pub CutClean : Pool → (d : ℕ) → (h : ℕ → ℤ) → Cache → (a n : ℕ) → Type 0
CutClean pool d h c a n =
    Leaves c (clean_events pool.sizes a n) (Good pool d h) (IsClean pool d h)

-- The law of a call, from a cache with one image, which is good and has no record. If it is undone,
-- the last value is the image's.
abbrev pub CallLaw : Type 0
CallLaw =
    (pool : Pool) (call : Call) (E W : ℕ → Bool) (h : ℕ → ℤ) (result : Result) (trace : List Entry)
    (c : Cache) (one : Words) →
    length call.args ≤ ARGUMENTS → call.done < 2 ^ 62 →
    IsRun pool (λ w. IsTrue (E w)) (λ w. IsTrue (W w)) result trace →
    KeepsLast result (last_of pool one) →
    HasOne c one → (good : Good pool call.done h one) → good.attempt < 2 ^ 62
    → count (pool_of pool.sizes) good.attempt one ≡ 0 →
    CutCall pool call (λ w. IsTrue (E w)) (λ w. IsTrue (W w)) h result trace c
    (last_of pool one) good.attempt

-- The law of a recovery, from a cache with one image, in which a call is owed.
abbrev pub RedoLaw : Type 0
RedoLaw =
    (pool : Pool) (call : Call) (E W : ℕ → Bool) (h : ℕ → ℤ) (result : Result) (trace : List Entry)
    (c : Cache) (one : Words) →
    length call.args ≤ ARGUMENTS →
    IsRun pool (λ w. IsTrue (E w)) (λ w. IsTrue (W w)) result trace →
    HasOne c one →
    (owed : Owed pool call (λ w. IsTrue (E w)) (λ w. IsTrue (W w)) h (KeepsLast result) one) →
    (n : ℕ) → count (pool_of pool.sizes) owed.attempt one ≡ n → (0 < n → owed.attempt < 2 ^ 62) →
    CutRedo pool call (λ w. IsTrue (E w)) (λ w. IsTrue (W w)) h result trace c one owed.attempt n

-- The law of a recovery, from a cache with one image, which is good.
abbrev pub CleanLaw : Type 0
CleanLaw =
    (pool : Pool) (d : ℕ) (h : ℕ → ℤ) (c : Cache) (one : Words) →
    HasOne c one → (good : Good pool d h one) → (n : ℕ)
    → count (pool_of pool.sizes) good.attempt one ≡ n → (0 < n → good.attempt < 2 ^ 62) →
    CutClean pool d h c good.attempt n

-- each line has one version
abbrev pub IsAtRest : Cache → Type 0
IsAtRest c = (l : ℕ) → (c l).older ≡ []

-- the call comes to be retired
abbrev pub Retires : Result → Type 0
Retires (Halted value) = Unit {0}
Retires (Trapped trap) = ⊥
Retires (Undone last) = Unit {0}

-- After a call or a recovery that retires the call, each line has one version, if it had one
-- before.
abbrev pub RestLaw : Type 0
RestLaw =
    (pool : Pool) (call : Call) (E W : ℕ → Bool) (heap : ℕ → ℤ) (result : Result)
    (trace : List Entry) (c : Cache) (one : Words) (a n : ℕ) →
    IsRun pool (λ w. IsTrue (E w)) (λ w. IsTrue (W w)) result trace → Retires result → IsAtRest c →
    IsAtRest (play c (due_call pool.sizes a call heap result trace))
    × IsAtRest (play c (redo_events pool.sizes a (suc call.done) one n result trace))

-- the cache after a power cut that left this image: each line has the image's version alone, and no
-- mark
abbrev pub collapsed : Words → Cache
collapsed image l = record { older = []; newest = image; mark = None }

-- the image is one that a power cut at some event of the list may leave
abbrev pub IsLeft : Cache → List CacheEvent → Words → Type 0
IsLeft c es image = (first rest : List CacheEvent) × (first ++ rest ≡ es)
    × IsImage (play c first) image

-- a power cut during the recovery of the first image may leave the second
pub record IsCutTo (pool : Pool) (call : Call) (E W : ℕ → Type 0) (h : ℕ → ℤ) (result : Result)
    (trace : List Entry) (one other : Words) : Type 0 where
  pub owed : Owed pool call E W h (KeepsLast result) one
  pub n : ℕ
  pub counted : count (pool_of pool.sizes) owed.attempt one ≡ n
  pub room : 0 < n → owed.attempt < 2 ^ 62
  pub left : IsLeft (collapsed one)
      (redo_events pool.sizes owed.attempt (suc call.done) one n result trace) other

-- k steps in a row, each as this says
abbrev pub AreInARow : (Words → Words → Type 0) → ℕ → Words → Words → Type 0
AreInARow leads zero one other = one ≡ other
AreInARow leads (suc k) one other =
    (next : Words) × leads one next × AreInARow leads k next other

-- However often recovery is cut, the image that is left still owes the call, or is its end.
abbrev pub AgainLaw : Type 0
AgainLaw =
    (pool : Pool) (call : Call) (E W : ℕ → Bool) (h : ℕ → ℤ) (result : Result) (trace : List Entry)
    (k : ℕ) (one other : Words) →
    length call.args ≤ ARGUMENTS → IsRun pool (λ w. IsTrue (E w)) (λ w. IsTrue (W w)) result trace →
    Owed pool call (λ w. IsTrue (E w)) (λ w. IsTrue (W w)) h (KeepsLast result) one →
    AreInARow
    (IsCutTo pool call (λ w. IsTrue (E w)) (λ w. IsTrue (W w)) h result trace) k one other →
    Owed pool call (λ w. IsTrue (E w)) (λ w. IsTrue (W w)) h (KeepsLast result) other
    ⊎ IsEnd pool call h (heap_after h trace) result other

-- The trace of a sound run has the properties that the laws ask for, and its events are those of
-- the effects, one after another.
abbrev pub TraceLaw : Type 0
TraceLaw =
    (z : Sizes) (H : ℕ) (es : List Effect) → IsSound z.records H es →
    IsTrace z.records H (IsInput es) (IsOverwritten es) 0 (λ w. ⊥) (trace_of None es)
    × ((w : ℕ) → IsOverwritten es w → IsStored w (trace_of None es))
    × ((a : ℕ) (heap : ℕ → ℤ) →
    effect_events z a 0 heap es ≡ run_events z a 0 heap (trace_of None es))

-- the second list is the first with fences put in anywhere
pub data IsFenced : List CacheEvent → List CacheEvent → Type 0 where
  Empty : IsFenced [] []
  Kept : {es fs : List CacheEvent} (e : CacheEvent) → IsFenced es fs → IsFenced (e ∷ es) (e ∷ fs)
  Added : {es fs : List CacheEvent} → IsFenced es fs → IsFenced es (Fence ∷ fs)

-- a mark is the index of a version
abbrev pub IsMarkIn : Option ℕ → ℕ → Type 0
IsMarkIn None n = Unit {0}
IsMarkIn (Some m) n = m ≤ n

-- marks are indices of versions, in every line
abbrev pub AreMarked : Cache → Type 0
AreMarked c = (l : ℕ) → IsMarkIn (c l).mark (length (c l).older)

-- Fences put into a list of events never add an image, and lines that would have one version have
-- one.
abbrev pub AddedFencesLaw : Type 0
AddedFencesLaw =
    (c : Cache) (es fs : List CacheEvent) → AreMarked c → IsFenced es fs →
    ((image : Words) → IsLeft c fs image → IsLeft c es image)
    × ((image : Words) → IsImage (play c fs) image → IsImage (play c es) image)
    × (IsAtRest (play c es) → IsAtRest (play c fs))

-- the number of logged entries
abbrev pub logged_in : List Entry → ℕ
logged_in [] = 0
logged_in (Plain w x ∷ trace) = logged_in trace
logged_in (Logged w x ∷ trace) = suc (logged_in trace)

-- one more event if there are records
abbrev pub fences_of : ℕ → ℕ
fences_of zero = 0
fences_of (suc n) = 1

-- The number of events of a call that is undone: one for each argument, one for each line
-- of the function and the arguments, ten for the function's word, the seal and the retirement, one
-- for each entry, seven more for each logged entry, and one more if any entry is logged.
abbrev pub UndoneCountLaw : Type 0
UndoneCountLaw =
    (z : Sizes) (E W : ℕ → Bool) (a : ℕ) (call : Call) (h : ℕ → ℤ) (trace : List Entry)
    (last : ℤ) →
    IsTrace z.records (heap_words z) (λ w. IsTrue (E w)) (λ w. IsTrue (W w)) 0 (λ w. ⊥) trace →
    length (due_call z a call h (Undone last) trace) ≡
    length call.args + (length call.args / 8 + 1) + 10 + length trace
    + 7 * logged_in trace + fences_of (logged_in trace)
