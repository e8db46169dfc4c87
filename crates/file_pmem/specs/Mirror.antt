-- A device whose lines are mirrored in a file: what a crash leaves of the file is an image of the
-- device, and what a sync would leave of it is an image of the device after a fence.
use Rattle.std.specs.Prelude.{ℕ, ◌<◌, ◌≤◌, ◌≡◌, Bool, true, false, List, ℤ, length, Option, Some}
use Rattle.std.specs.Prelude.{None}
use Rattle.cache_model.specs.Cache.{Words, Line, Memory, blank_line}
use Rattle.cache_model.specs.Image.{IsVersion}
use Rattle.cache_model.specs.Play.{fence_line}
use Rattle.pmem.specs.Device.{Device}
use Rattle.pmem.specs.Switch.{untold}
use Rattle.pmem.specs.declared.switch.Switch.{Switch}
use Rattle.file_pmem.specs.File.{FileLines, IsCopy, AgreesAt, IsSettled}
use Rattle.file_pmem.specs.declared.link.Link.{Link}
use Rattle.file_pmem.specs.declared.link.MirrorState.{MirrorState}
use Rattle.file_pmem.specs.declared.link.MirrorState.TheVariants.{Asleep, Awake, Lost, Stale}

-- the copy agrees with some version of the line
abbrev pub IsHeld : Line → ℕ → List ℤ → Type 0
IsHeld y l v = (u : Words) × IsVersion y u × AgreesAt l v u

-- Each copy that a crash may leave is held by the line.
abbrev pub CoversCopies : FileLines → Memory → Type 0
CoversCopies f m = (l : ℕ) → l < m.lines → (v : List ℤ) → IsCopy (f l) v → IsHeld (m.cache l) l v

-- The newest copy of each line is a version that the next fence keeps.
abbrev pub IsAhead : FileLines → Memory → Type 0
IsAhead f m = (l : ℕ) → l < m.lines → IsHeld (fence_line (m.cache l)) l (f l).newest

-- A mark names a version of its line.
abbrev pub MarksFit : Memory → Type 0
MarksFit m = (l k : ℕ) → (m.cache l).mark ≡ Some k → k ≤ length (m.cache l).older

-- The lines past the last one are blank.
abbrev pub IsBlankPast : Memory → Type 0
IsBlankPast m = (l : ℕ) → m.lines ≤ l → m.cache l ≡ blank_line

-- what is true of the memory of each device
pub record IsWell (m : Memory) : Type 0 where
  pub marks : MarksFit m
  pub past : IsBlankPast m

-- the three together
pub record Mirrors (f : FileLines) (m : Memory) : Type 0 where
  pub covers : CoversCopies f m
  pub ahead : IsAhead f m
  pub marks : MarksFit m

-- the same of a file that may tell nothing of what it holds
abbrev pub IsMirror : Option FileLines → Memory → Type 0
IsMirror None m = Unit {0}
IsMirror (Some f) m = Mirrors f m

-- each of its copies is held, if it tells them
abbrev pub IsFileCovered : Option FileLines → Memory → Type 0
IsFileCovered None m = Unit {0}
IsFileCovered (Some f) m = CoversCopies f m

-- what a file shows, if there is one
abbrev pub shown_file : {F : Type 0} → (F → Option FileLines) → Option F → Option FileLines
shown_file content None = None
shown_file content (Some file) = content file

-- what a link shows of its file
abbrev pub shown : {F : Type 0} → (F → Option FileLines) → Link F → Option FileLines
shown content link = shown_file content link.file

-- If nothing was written since the last sync, nothing older is left.
abbrev pub IsSynced : Bool → Option FileLines → Type 0
IsSynced dirty a = dirty ≡ false → IsSettled a

-- whether what a crash leaves of the file is an image of the device
abbrev pub is_mirrored : MirrorState → Bool
is_mirrored Asleep = false
is_mirrored Awake = true
is_mirrored Lost = true
is_mirrored Stale = false

-- whether the file has refused something
abbrev pub has_refused : MirrorState → Bool
has_refused Asleep = false
has_refused Awake = false
has_refused Lost = true
has_refused Stale = true

-- a sleeping file is woken, if there is one
abbrev pub woken : {F : Type 0} → Option F → MirrorState → MirrorState
woken None s = s
woken (Some file) Asleep = Awake
woken (Some file) Awake = Awake
woken (Some file) Lost = Lost
woken (Some file) Stale = Stale

-- a file that has refused something, once the memory goes on without it
abbrev pub given_up : MirrorState → MirrorState
given_up Asleep = Asleep
given_up Awake = Awake
given_up Lost = Stale
given_up Stale = Stale

-- What is true of a file and a memory in each state: what is true of each memory; the memory covers
-- a mirrored file, also one that was lost since; one that is awake mirrors the memory.
pub record IsMirroring (s : MirrorState) (dirty : Bool) (a : Option FileLines) (m : Memory)
    : Type 0 where
  pub well : IsWell m
  pub covers : is_mirrored s ≡ true → IsFileCovered a m
  pub mirrors : s ≡ Awake → IsMirror a m
  pub clean : s ≡ Awake → IsSynced dirty a

-- what clauses see of a device over a file: its lines, its switch and the link to the file
pub record FileParts (L F : Type 0) : Type 0 where
  pub lines : L
  pub switch : Switch
  pub link : Link F

-- the device that a file mirrors: it doesn't show its armed fault
abbrev pub file_device : {L F : Type 0} → (L → Memory) → FileParts L F → Device
file_device memory p = untold (memory p.lines) p.switch

-- what a crash may leave of the device's file, if the file tells it
abbrev pub file_shown : {L F : Type 0} → (F → Option FileLines) → FileParts L F → Option FileLines
file_shown content p = shown content p.link
