-- What follows from a mirror.
use Rattle.std.specs.Prelude.{ℕ, ◌*◌, ◌/◌, ◌<◌, ◌≡◌, List, [], ℤ, pos, slice_index_or, Option}
use Rattle.cache_model.specs.Cache.{Words, Memory, view}
use Rattle.cache_model.specs.Image.{IsImage}
use Rattle.file_pmem.specs.File.{FileLines, MayLeave, AgreesAt, HoldsWords}
use Rattle.file_pmem.specs.Mirror.{CoversCopies, MarksFit, Mirrors, IsMirror}

-- Whatever a crash leaves of the file is an image of the device, as far as the device has lines.
abbrev pub CrashLaw : Type 0
CrashLaw =
    (f : FileLines) (m : Memory) (left : Words) → CoversCopies f m → MayLeave f m.lines left →
    (image : Words) × IsImage m.cache image × ((p : ℕ) → p / 8 < m.lines → left p ≡ image p)

-- A file with nothing older, whose lines are the newest versions of the device's, mirrors it.
abbrev pub AttachLaw : Type 0
AttachLaw =
    (f : FileLines) (m : Memory) → ((l : ℕ) → (f l).older ≡ []) →
    ((l : ℕ) → l < m.lines → AgreesAt l (f l).newest (m.cache l).newest) → MarksFit m → Mirrors f m

-- A file that holds these words and nothing older mirrors a memory whose newest words they are.
abbrev pub HoldsLaw : Type 0
HoldsLaw =
    (a : Option FileLines) (m : Memory) (words : List ℤ) → HoldsWords a m.lines words →
    ((p : ℕ) → p < 8 * m.lines → view m.cache p ≡ slice_index_or words p (pos 0)) → MarksFit m →
    IsMirror a m
