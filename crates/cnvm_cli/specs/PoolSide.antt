-- What clauses see of a pool's file, and what is run by where the name of the file leads. The
-- pool's lines lie in a device that is mirrored in the file.
use Rattle.std.specs.Prelude.{ℕ, ◌≡◌, ◌≢◌, ◌⊎◌, List, Option, Some, None, true, ⊤, ℤ, pos}
use Rattle.std.specs.Prelude.{◌*◌, length, slice_index_or}
use Rattle.std.specs.Io.KnownBytes.{Keeps}
use Rattle.cache_model.specs.Cache.{Memory}
use Rattle.pmem.specs.Device.{Device, memory_of}
use Rattle.file_pmem.specs.File.{FileLines, HoldsNewest}
use Rattle.file_pmem.specs.Mirror.{FileParts, file_device, file_shown, is_mirrored, IsFileCovered}
use Rattle.file_pmem.specs.Found.{Found, Nothing, Taken, There}
use Rattle.file_pmem.specs.declared.link.MirrorState.{MirrorState}
use Rattle.pool_layout.specs.Sizes.{pool_lines}
use Rattle.pool_layout.specs.declared.wanted.ImageFault.TheVariants.{Version}
use Rattle.cnvm_session.specs.declared.program.Program.{Program}
use Rattle.cnvm_session.specs.Pool.{sizes_of}
use Rattle.session_run.specs.declared.status.Status.{Status}
use Rattle.session_run.specs.declared.status.Status.TheVariants as status
use Rattle.session_run.specs.Made.{Created}
use Rattle.cnvm_cli.specs.declared.refused.Refused.{Refused}
use Rattle.cnvm_cli.specs.declared.refused.Refused.TheVariants as refused
use Rattle.cnvm_cli.specs.Opened.{ImageRefuses, ImageGives}
use Rattle.cnvm_cli.specs.Run.{RefusedAs}

-- the device over a file, how it stands to the file, and what a crash may leave of it, if it tells
pub record HeldPool : Type 0 where
  pub device : Device
  pub state : MirrorState
  pub shown : Option FileLines

abbrev pub held_by : {N F : Type 0} → (N → Memory) → (F → Option FileLines) → FileParts N F
    → HeldPool
held_by memory content p = record {
  device = file_device memory p;
  state = p.link.state;
  shown = file_shown content p;
}

-- Whatever a crash leaves of the file is an image of the device; of a file that had refused
-- something before a power cut of the script, nothing is said.
abbrev pub IsKept : HeldPool → Type 0
IsKept p = is_mirrored p.state ≡ true → IsFileCovered p.shown (memory_of p.device)

-- what is known before and after: where the name leads, the bytes written, the device and the steps
pub record PoolSide : Type 0 where
  pub found : Option Found
  pub out : Option (List ℕ)
  pub held : HeldPool
  pub steps : ℕ

abbrev pub pool_side : Option Found → Option (List ℕ) → HeldPool → ℕ → PoolSide
pool_side found out held steps =
    record { found = found; out = out; held = held; steps = steps }

-- if the port tells where the name leads, it is this
abbrev pub Tells : Option Found → Found → Type 0
Tells None x = ⊤
Tells (Some y) x = y ≡ x

-- if the port tells where the name leads, it is to a file that shows this
abbrev pub TellsFile : Option Found → (shown : Option FileLines) → Type 0
TellsFile None shown = ⊤
TellsFile (Some (There lines)) shown = shown ≡ Some lines
TellsFile (Some _) shown = ⊥

-- nothing is run, and the name leads where it led
pub record IsUnrun (before after : PoolSide) : Type 0 where
  pub held : after.held ≡ before.held
  pub steps : after.steps ≡ before.steps
  pub found : after.found ≡ before.found

-- nothing is written, and no command is run
abbrev pub IsSilent : Status → (before after : PoolSide) → Type 0
IsSilent result before after =
    ((result ≡ status.NoMemory) ⊎ ((result ≡ status.DeviceFault) ⊎ (result ≡ status.ReadFault)))
    × Keeps before.out after.out × (after.steps ≡ before.steps)

-- No file has the name: a pool is created in memory, as `created` says of its device, and a file is
-- made of its words. Without memory, or where the port fails, nothing is run; nor where the name is
-- taken meanwhile. What is run on the new pool is `new`.
abbrev pub MakesFile : (created new : Device → Type 0) → Status → (before after : PoolSide) → Type 0
MakesFile created new result before after =
    IsSilent result before after
    ⊎ ((RefusedAs refused.Busy result before.out after.out × (after.steps ≡ before.steps))
    ⊎ ((b : Device) × created b × new b))

abbrev pub MakesPool : (new : Device → Type 0) → Program → Status → (before after : PoolSide)
    → Type 0
MakesPool new program result before after =
    MakesFile (Created program before.held.device) new result before after

-- the file is refused, and this is reported
abbrev pub RefusesFile : Refused → Status → (before after : PoolSide) → Type 0
RefusesFile why result before after =
    RefusedAs why result before.out after.out × (after.held ≡ before.held)
    × (after.steps ≡ before.steps)

-- A file that shows this holds other words than these on so many lines, as one of the first version
-- does, whose words are moved: then its version is told, which is the word at this place; or these
-- are run on.
abbrev pub RunsWordsOn : (run : List ℤ → Type 0) → List ℤ → (lines version : ℕ)
    → (shown : Option FileLines) → Status → (before after : PoolSide) → Type 0
RunsWordsOn run words lines version shown result before after =
    ((other : List ℤ) × (length other ≡ 8 * lines) × (other ≢ words)
    × HoldsNewest shown lines other
    × RefusesFile (refused.Image (Version (slice_index_or other version (pos 0)) (pos 2))) result
    before after)
    ⊎ (HoldsNewest shown lines words × run words)

abbrev pub RunsWords : (run : List ℤ → Type 0) → Program → List ℤ → (shown : Option FileLines)
    → Status → (before after : PoolSide) → Type 0
RunsWords run program words shown result before after =
    RunsWordsOn run words (pool_lines (sizes_of program)) 1 shown result before after

-- A file is held that shows this. It is refused as an image is; or so many lines of it hold other
-- words than the image gives, as those of one of the first version do, whose words are moved; or it
-- is run on.
abbrev pub TakesImage : (refuses : Refused → Type 0) → (gives run : List ℤ → Type 0)
    → (lines version : ℕ) → (shown : Option FileLines) → Status → (before after : PoolSide)
    → Type 0
TakesImage refuses gives run lines version shown result before after =
    ((why : Refused) × refuses why × RefusesFile why result before after)
    ⊎ (IsSilent result before after
    ⊎ ((words : List ℤ) × gives words
    × RunsWordsOn run words lines version shown result before after))

abbrev pub TakesFile : (run : List ℤ → Type 0) → Program → (image : Option (List ℕ))
    → (shown : Option FileLines) → Status → (before after : PoolSide) → Type 0
TakesFile run program image shown result before after =
    TakesImage (ImageRefuses program image) (ImageGives program image) run
    (pool_lines (sizes_of program)) 1 shown result before after

-- What is run, by where the name of a file leads: `takes` says how a file is taken, and `makes` how
-- one is made.
abbrev pub RunsFound : (takes : Option FileLines → Type 0) → (makes : Type 0) → Status
    → (before after : PoolSide) → Type 0
RunsFound takes makes result before after =
    (Tells before.found Taken × RefusesFile refused.Busy result before after)
    ⊎ (IsSilent result before after
    ⊎ ((Tells before.found Nothing × makes)
    ⊎ ((shown : Option FileLines) × TellsFile before.found shown
    × takes shown)))

abbrev pub RunsFile : (takes : Option FileLines → Type 0) → (new : Device → Type 0) → Program
    → Status → (before after : PoolSide) → Type 0
RunsFile takes new program result before after =
    RunsFound takes (MakesPool new program result before after) result before after
