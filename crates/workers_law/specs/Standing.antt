-- The relation of a compartment to the due list of its worker's transaction, with other workers'
-- fences put in.
use Rattle.std.specs.Prelude.{ℕ, ◌≡◌, ◌++◌, Bool, List, [], Option, ℤ}
use Rattle.cache_model.specs.Event.{CacheEvent}
use Rattle.cache_model.specs.Cache.{Words, Cache, view}
use Rattle.cache_model.specs.Play.{play}
use Rattle.cache_model.specs.Image.{IsImage}
use Rattle.pmem.specs.Device.{Device}
use Rattle.pmem.specs.Played.{PlaysPart}
use Rattle.pmem.specs.declared.answer.Refusal.{Refusal}
use Rattle.pm_machine.specs.declared.image.Image.{Image}
use Rattle.pm_machine.specs.declared.records.Policy.TheVariants.{EndPool}
use Rattle.tx_run.specs.Due.{due_call}
use Rattle.crash_law.specs.Law.{IsAtRest, IsLeft, IsFenced, AreMarked}
use Rattle.pool_workers.specs.declared.answer.TurnAnswer.{TurnAnswer}
use Rattle.pool_workers.specs.declared.task.Task.{Task}
use Rattle.pool_workers.specs.declared.task.Task.TheVariants.{Begun}
use Rattle.pool_workers.specs.Task.{first_machine, piece_of, task_past, IsTask, WentWhole}
use Rattle.workers_law.specs.Fenced.{fenced_cache}
use Rattle.workers_law.specs.Left.{left_of, left_or}

-- Some first part of the due events was played in the compartment, with extra fences; `left` is
-- the rest of them.
pub record ShowsPlayed (due left : List CacheEvent) (start now : Cache) : Type 0 where
  pub done : List CacheEvent
  pub shown : List CacheEvent
  pub due_is : done ++ left ≡ due
  pub fenced : IsFenced done shown
  pub now_is : now ≡ play start shown

-- some events are left
pub record ShowsSome (due : List CacheEvent) (start now : Cache) : Type 0 where
  pub left : List CacheEvent
  pub shows : ShowsPlayed due left start now

-- A transaction that began on cache c0 is now t, on cache c: some of its due list was played, and
-- the rest is what t has left.
abbrev pub TaskStands : Image → (tx : ℕ) → List ℤ → (c0 : Cache) → Task → (c : Cache) → Type 0
TaskStands image tx args c0 t c = ShowsPlayed (due_call EndPool image tx args c0)
    (left_of image t c) c0 c

abbrev pub StandsOr : Image → (tx : ℕ) → List ℤ → (c0 : Cache) → Option Task → (c : Cache) → Type 0
StandsOr image tx args c0 o c = ShowsPlayed (due_call EndPool image tx args c0) (left_or image o c)
    c0 c

-- What a transaction has left is its next piece, followed by what it has left after that.
abbrev pub LeftLaw : Type 0
LeftLaw =
    (image : Image) (t : Task) (c : Cache) → IsTask image t →
    left_of image t c
    ≡ piece_of image t c ++ left_or image (task_past image t c) (play c (piece_of image t c))

-- It depends only on the newest versions, so fences don't change it.
abbrev pub SameViewLaw : Type 0
SameViewLaw =
    (image : Image) (t : Task) (c d : Cache) → view c ≡ view d →
    left_of image t c ≡ left_of image t d

-- `TaskStands` holds when a transaction begins. It holds after a whole turn, and after another
-- worker's
-- fence; after a turn that is refused some of its due list was played, which also stays true after
-- another's fence.
abbrev pub TurnsLaw : Type 0
TurnsLaw =
    (image : Image) (tx : ℕ) (args : List ℤ) (c0 : Cache) →
    TaskStands image tx args c0 (Begun tx args (first_machine image tx args)) c0
    × ((a : TurnAnswer) (t : Task) (o : Option Task) (d b : Device) →
    IsTask image t → TaskStands image tx args c0 t d.cache → WentWhole a image t o d b →
    StandsOr image tx args c0 o b.cache)
    × ((t : Task) (c : Cache) (k : Bool) → TaskStands image tx args c0 t c →
    TaskStands image tx args c0 t (fenced_cache k c))
    × ((why : Refusal) (t : Task) (d b : Device) →
    IsTask image t → TaskStands image tx args c0 t d.cache →
    PlaysPart why d (piece_of image t d.cache) b →
    ShowsSome (due_call EndPool image tx args c0) c0 b.cache)
    × ((c : Cache) (k : Bool) → ShowsSome (due_call EndPool image tx args c0) c0 c →
    ShowsSome (due_call EndPool image tx args c0) c0 (fenced_cache k c))

-- So each image of the compartment is one that a cut of the due list may leave. After the whole
-- list each image is one of those after it, the compartment is at rest if the list alone would
-- leave it so, and has the same newest versions.
abbrev pub ShownImagesLaw : Type 0
ShownImagesLaw =
    (due : List CacheEvent) (c0 c : Cache) → AreMarked c0 →
    ((image : Words) → ShowsSome due c0 c → IsImage c image → IsLeft c0 due image)
    × ((image : Words) → ShowsPlayed due [] c0 c → IsImage c image → IsImage (play c0 due) image)
    × (ShowsPlayed due [] c0 c → IsAtRest (play c0 due) → IsAtRest c)
    × (ShowsPlayed due [] c0 c → view c ≡ view (play c0 due))
