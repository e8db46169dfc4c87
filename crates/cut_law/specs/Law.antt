-- The events that a call and a recovery play are the due lists of the crash law, so after each of
-- them the image is one of those that the law names.
use Rattle.std.specs.Prelude.{ℕ, ◌^◌, ◌<◌, ◌≤◌, ◌≡◌, ◌⊎◌, List, length, ℤ, pos}
use Rattle.cache_model.specs.Cache.{Words, Cache}
use Rattle.cache_model.specs.Play.{play}
use Rattle.cache_model.specs.Image.{HasOne}
use Rattle.pool_layout.specs.declared.places.TheConstants.{ARGUMENTS}
use Rattle.pool_layout.specs.Places.{pool_of}
use Rattle.pool_layout.specs.Log.{count}
use Rattle.pool_layout.specs.Good.{Pool, Good}
use Rattle.pm_machine.specs.declared.effect.Effect.{Effect}
use Rattle.pm_machine.specs.declared.effect.End.{End}
use Rattle.pm_machine.specs.declared.image.Image.{Image}
use Rattle.pm_machine.specs.Effects.{heap_end}
use Rattle.pm_machine.specs.declared.records.Policy.{Policy}
use Rattle.pm_machine.specs.Machine.{Finished}
use Rattle.pm_machine.specs.Logging.{tx_run}
use Rattle.pm_machine.specs.Runs.{heap_in}
use Rattle.crash_law.specs.Pools.{Call, Owed, last_of}
use Rattle.crash_law.specs.Due as crash
use Rattle.crash_law.specs.Law.{Leaves, KeepsLast, IsCut, IsEnd, IsEnded, IsClean, IsAtRest}
use Rattle.crash_law.specs.Law.{Retires}
use Rattle.crash_law.specs.Law.{IsLeft, collapsed, AreInARow}
use Rattle.run_law.specs.Seen.{trace_in, result_of, E, W}
use Rattle.run_law.specs.Sound.{IsSoundRun}
use Rattle.tx_run.specs.Due.{due_call}
use Rattle.recovery.specs.Due.{due_clean, due_redo}

-- the call of a transaction after d finished ones
abbrev pub call_of : ℕ → (tx : ℕ) → List ℤ → Call
call_of d tx args = record { done = d; function = pos tx; args = args }

-- a pool of the image's sizes, with these words in lines 0 and 1
abbrev pub pool_with : Image → Words → Pool
pool_with image super = record { sizes = image.parts.sizes; super = super }

-- The run of a transaction from heap h, with its records, is sound, and comes to this end with
-- these effects.
pub record RunsSound (p : Policy) (image : Image) (tx : ℕ) (args : List ℤ) (h : Words)
    (end : End) (es : List Effect)
    : Type 0 where
  pub few : length args ≤ ARGUMENTS
  pub ran : tx_run p image image.parts.most h tx args ≡ Finished end es
  pub sound : IsSoundRun p end es

-- A transaction begins on cache c, which has one image: a pool at rest after d calls, with no valid
-- record.
pub record BeginsOn (image : Image) (super : Words) (tx d : ℕ) (c : Cache) (one : Words)
    : Type 0 where
  pub tx_fits : tx < 2 ^ 63
  pub d_fits : d < 2 ^ 62
  pub only : HasOne c one
  pub good : Good (pool_with image super) d (heap_in image.parts.sizes c) one
  pub a_fits : good.attempt < 2 ^ 62
  pub empty : count (pool_of image.parts.sizes) good.attempt one ≡ 0

-- A call is owed in an image, for the heap h and the last value, with n valid records; if there is
-- one, another attempt can follow.
pub record OwesInImage (p : Policy) (image : Image) (super : Words) (tx : ℕ) (args : List ℤ)
    (d : ℕ) (h : Words) (last : ℤ) (end : End) (es : List Effect) (n : ℕ) (one : Words) :
    Type 0 where
  pub owed : Owed (pool_with image super) (call_of d tx args) (E p es) (W es) h
      (KeepsLast (result_of p last end)) one
  pub counted : count (pool_of image.parts.sizes) owed.attempt one ≡ n
  pub room : 0 < n → owed.attempt < 2 ^ 62

-- A pool is at rest in an image, after d calls, with n valid records; if there is one, another
-- attempt can follow.
pub record RestsInImage (image : Image) (super : Words) (d : ℕ) (h : Words) (n : ℕ) (one : Words)
    : Type 0 where
  pub good : Good (pool_with image super) d h one
  pub counted : count (pool_of image.parts.sizes) good.attempt one ≡ n
  pub room : 0 < n → good.attempt < 2 ^ 62

-- the images at the end of a call, whose run from heap h has this end and these effects
abbrev pub ComesTo : Policy → Image → (super : Words) → (tx : ℕ) → List ℤ → (d : ℕ) → (h : Words)
    → (last : ℤ) → End → List Effect → Words → Type 0
ComesTo p image super tx args d h last end es =
    IsEnd (pool_with image super) (call_of d tx args) h (heap_end h es) (result_of p last end)

-- those after its last event, when also no record is valid unless the pool is lost
abbrev pub Finishes : Policy → Image → (super : Words) → (tx : ℕ) → List ℤ → (d : ℕ) → (h : Words)
    → (last : ℤ) → End → List Effect → Words → Type 0
Finishes p image super tx args d h last end es =
    IsEnded (pool_with image super) (call_of d tx args) h (heap_end h es) (result_of p last end)

-- the images that a cut of a call from cache c may leave
abbrev pub CutImages : Policy → Image → (super : Words) → (tx : ℕ) → List ℤ → (d : ℕ) → Cache
    → (last : ℤ) → End → List Effect → Words → Type 0
CutImages p image super tx args d c last end es =
    IsCut (pool_with image super) (call_of d tx args) (E p es) (W es) (heap_in image.parts.sizes c)
    (heap_end (heap_in image.parts.sizes c) es) last (result_of p last end)

-- the images that a cut of its recovery may leave: the call is owed, or has come to its end
abbrev pub RedoImages : Policy → Image → (super : Words) → (tx : ℕ) → List ℤ → (d : ℕ)
    → (h : Words) → (last : ℤ) → End → List Effect → Words → Type 0
RedoImages p image super tx args d h last end es other =
    Owed (pool_with image super) (call_of d tx args) (E p es) (W es) h
    (KeepsLast (result_of p last end)) other
    ⊎ ComesTo p image super tx args d h last end es other

-- A call whose run is sound plays the crash law's due list.
abbrev pub DueCallLaw : Type 0
DueCallLaw =
    (p : Policy) (image : Image) (super : Words) (tx : ℕ) (args : List ℤ) (c : Cache) (one : Words)
    (d : ℕ) (end : End) (es : List Effect) →
    (begins : BeginsOn image super tx d c one) →
    RunsSound p image tx args (heap_in image.parts.sizes c) end es →
    due_call p image tx args c
    ≡ crash.due_call image.parts.sizes begins.good.attempt (call_of d tx args)
    (heap_in image.parts.sizes c) (result_of p (last_of (pool_with image super) one) end)
    (trace_in es)

-- Cut call: from one image that is at rest with no valid record, after each event of a call every
-- image is one from before the call, one in which the call is owed, or the call's end; and after
-- all events it is the end.
abbrev pub CutCallLaw : Type 0
CutCallLaw =
    (p : Policy) (image : Image) (super : Words) (tx : ℕ) (args : List ℤ) (c : Cache) (one : Words)
    (d : ℕ) (end : End) (es : List Effect) →
    BeginsOn image super tx d c one →
    RunsSound p image tx args (heap_in image.parts.sizes c) end es →
    Leaves c (due_call p image tx args c)
    (CutImages p image super tx args d c (last_of (pool_with image super) one) end es)
    (Finishes p image super tx args d (heap_in image.parts.sizes c)
    (last_of (pool_with image super) one) end es)

-- Cut recovery: from one image in which a call is owed for the heap h, after each event of a
-- recovery the call is owed in every image or has come to its end; and after all events it has come
-- to its end. The run is that from h, and the recovery's own heap is alike for it.
abbrev pub CutRedoLaw : Type 0
CutRedoLaw =
    (p : Policy) (image : Image) (super : Words) (tx : ℕ) (args : List ℤ) (c : Cache) (one : Words)
    (d : ℕ) (h : Words) (last : ℤ) (end : End) (es : List Effect) (n : ℕ) →
    HasOne c one → OwesInImage p image super tx args d h last end es n one →
    RunsSound p image tx args h end es →
    Leaves c (due_redo p image tx args n c) (RedoImages p image super tx args d h last end es)
    (Finishes p image super tx args d h last end es)

-- The recovery of a pool at rest with n valid records leaves it at rest after each event, and with
-- no record after all of them.
abbrev pub CutCleanLaw : Type 0
CutCleanLaw =
    (image : Image) (super : Words) (c : Cache) (one : Words) (d : ℕ) (h : Words) (n : ℕ) →
    HasOne c one → RestsInImage image super d h n one →
    Leaves c (due_clean image.parts.sizes n c) (Good (pool_with image super) d h)
    (IsClean (pool_with image super) d h)

-- After a call or a recovery that retires its call each line has one version, if it had one before.
abbrev pub RestLaw : Type 0
RestLaw =
    (p : Policy) (image : Image) (super : Words) (tx : ℕ) (args : List ℤ) (c : Cache) (one : Words)
    (d : ℕ) (last : ℤ) (end : End) (es : List Effect) →
    Retires (result_of p last end) → IsAtRest c →
    (BeginsOn image super tx d c one →
    RunsSound p image tx args (heap_in image.parts.sizes c) end es →
    IsAtRest (play c (due_call p image tx args c)))
    × ((h : Words) (n : ℕ) → HasOne c one → OwesInImage p image super tx args d h last end es n one
    → RunsSound p image tx args h end es → IsAtRest (play c (due_redo p image tx args n c)))

-- A power cut at some event of a recovery of the first image, in which the call is owed, may leave
-- the second.
pub record IsRecoveredTo (p : Policy) (image : Image) (super : Words) (tx : ℕ) (args : List ℤ)
    (d : ℕ) (h : Words) (last : ℤ) (end : End) (es : List Effect) (one other : Words) :
    Type 0 where
  pub n : ℕ
  pub owes : OwesInImage p image super tx args d h last end es n one
  pub left : IsLeft (collapsed one) (due_redo p image tx args n (collapsed one)) other

-- Any number of cuts: however often a recovery is cut, in what is left the call is owed, or has
-- come to its end.
abbrev pub CutAgainLaw : Type 0
CutAgainLaw =
    (p : Policy) (image : Image) (super : Words) (tx : ℕ) (args : List ℤ) (d : ℕ) (h : Words)
    (last : ℤ) (end : End) (es : List Effect) →
    RunsSound p image tx args h end es →
    (k : ℕ) (one other : Words) → Owed (pool_with image super) (call_of d tx args) (E p es)
    (W es) h (KeepsLast (result_of p last end)) one →
    AreInARow (IsRecoveredTo p image super tx args d h last end es) k one other →
    RedoImages p image super tx args d h last end es other
