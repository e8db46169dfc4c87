-- A pool that is moved from its program's former text to the new one holds what it held: the same
-- root, objects, number of transactions done and last value. Only its digest changes.
use Rattle.std.specs.Prelude.{ℕ, ◌+◌, ◌-◌, ◌<◌, ◌≡◌, ◌++◌, ◌&&◌, ◌⊎◌, Bool, true, false}
use Rattle.std.specs.Prelude.{List, [], length, None, ℤ, pos, if◌then◌else◌, nat_le, nat_lt}
use Rattle.std.specs.Prelude.{slice_index_or}
use Rattle.cache_model.specs.Cache.{Words}
use Rattle.cache_model.specs.Image.{IsImage, Images}
use Rattle.pmem.specs.Device.{Device}
use Rattle.pmem.specs.Played.{PlaysAll, PlaysPart}
use Rattle.pmem.specs.declared.answer.Refusal.{Refusal}
use Rattle.file_pmem.specs.File.{FileLines}
use Rattle.pool_layout.specs.declared.places.TheConstants.{MARK}
use Rattle.pool_layout.specs.Image.{image_words, is_sealed}
use Rattle.pool_map.specs.declared.shapes.StructShape.{StructShape}
use Rattle.c_types.specs.Fault.{breaks}
use Rattle.c_types.specs.Shapes.{shapes_of}
use Rattle.cnvm_session.specs.declared.answer.Answer.{Answer}
use Rattle.cnvm_session.specs.declared.mode.Mode.{Mode}
use Rattle.cnvm_session.specs.declared.program.Program.{Program}
use Rattle.cnvm_session.specs.Former.{first_other}
use Rattle.cnvm_session.specs.Moving.{is_recovered, moving_events}
use Rattle.cnvm_session.specs.Outcomes.{Opens}
use Rattle.cnvm_session.specs.Pool.{sizes_of}
use Rattle.session_law.specs.Agrees.{Agrees}
use Rattle.session_law.specs.Answers.{Powers}
use Rattle.session_law.specs.Holds.{Holds}
use Rattle.session_law.specs.Ran.{Moment}
use Rattle.session_law.specs.State.{SourceState}
use Rattle.file_law.specs.Law.{IsLeft}

-- Both programs have the same root, and the new one's structs begin with the former one's.
pub record HasShapesOf (former new : Program) : Type 0 where
  pub root : (shapes_of new.typed).root ≡ (shapes_of former.typed).root
  pub more : List StructShape
  pub structs : (shapes_of new.typed).structs ≡ (shapes_of former.typed).structs ++ more

-- So it is where no struct differs.
abbrev pub FormerShapesLaw : Type 0
FormerShapesLaw =
    (former new : Program) → first_other former.typed new.typed ≡ None → HasShapesOf former new

-- Then both pools have the same sizes, if the new program breaks no rule and the same slots,
-- records and ticks were asked for.
abbrev pub SizesLaw : Type 0
SizesLaw =
    (former new : Program) → first_other former.typed new.typed ≡ None → breaks new.typed ≡ []
    → Agrees former → Agrees new
    → (sizes_of new).slots ≡ (sizes_of former).slots
    → (sizes_of new).records ≡ (sizes_of former).records
    → (sizes_of new).ticks ≡ (sizes_of former).ticks → sizes_of new ≡ sizes_of former

-- a word of the digest
abbrev pub is_digest_word : ℕ → Bool
is_digest_word k = nat_le 8 k && nat_lt k 12

-- the words of a pool with this digest in place of theirs
abbrev pub with_digest : List ℤ → Words → Words
with_digest digest w k = if is_digest_word k then slice_index_or digest (k - 8) (pos 0) else w k

-- the words of a moved pool: those of its digest are the new program's
abbrev pub moved_words : Program → Words → Words
moved_words new w = with_digest new.digest w

-- A pool of the former program that owes nothing is moved: the new program's session holds the same
-- source state.
abbrev pub MovedLaw : Type 0
MovedLaw =
    (former new : Program) (super : Words) (m : Mode) (d b : Device) (s : SourceState) →
    first_other former.typed new.typed ≡ None → sizes_of new ≡ sizes_of former →
    is_recovered m ≡ true → Holds former super m d s → PlaysAll d (moving_events new.digest) b →
    Holds new (moved_words new super) m b s

-- all events of a move, or some first ones, perhaps none
abbrev pub MovesPart : Program → Device → Device → Type 0
MovesPart new d b = PlaysAll d (moving_events new.digest) b
    ⊎ ((why : Refusal) × PlaysPart why d (moving_events new.digest) b)

-- Words between: each word of the digest is the one it was or the new program's.
abbrev pub AreBetween : Program → (before : Words) → (between : Words) → Type 0
AreBetween new before between =
    (k : ℕ) → (between k ≡ before k)
    ⊎ ((is_digest_word k ≡ true) × (between k ≡ moved_words new before k))

-- A move is cut: each image that a power cut then leaves is one that was left before, but for words
-- of the digest, each of which is the one it was or the new program's.
abbrev pub MovingCutLaw : Type 0
MovingCutLaw =
    (new : Program) (d b : Device) → MovesPart new d b →
    Images (λ image. (before : Words) × IsImage d.cache before × AreBetween new before image)
    b.cache

-- nothing is owed in an image: it has a mark, or isn't sealed
abbrev pub IsUnowed : Words → Type 0
IsUnowed image = image MARK ≡ pos 0 → is_sealed image ≡ false

-- Nor is anything owed in such an image.
abbrev pub UnowedLaw : Type 0
UnowedLaw =
    (former new : Program) (super : Words) (m : Mode) (d b : Device) (s : SourceState) →
    is_recovered m ≡ true → Holds former super m d s → MovesPart new d b → Images IsUnowed b.cache

-- the words of lines 0 and 1 have the program's digest
abbrev pub HasDigest : Program → (super : Words) → Type 0
HasDigest program super =
    (k : ℕ) → k < 4 → super (8 + k) ≡ slice_index_or program.digest k (pos 0)

-- A session of the former program owes nothing, and its pool is moved, perhaps in part. A crash
-- leaves these words of its file.
pub record IsMoveCut (former new : Program) (super : Words) (x : Moment) (b : Device)
    (f : FileLines) (words : List ℤ) : Type 0 where
  pub digest : HasDigest former super
  pub recovered : is_recovered x.mode ≡ true
  pub holds : Holds former super x.mode x.device x.state
  pub moves : MovesPart new x.device b
  pub left : IsLeft former (record x { device = b }) f words

-- these words with a program's digest
pub record IsMended (program : Program) (words mended : List ℤ) : Type 0 where
  pub whole : length mended ≡ length words
  pub as_moved : (k : ℕ) → image_words mended k ≡ moved_words program (image_words words) k

-- If such words get the former program's digest, and that program opens them, its first answer is
-- one that the source gives to a power cut of the session, and the pool holds what the source then
-- knows. The same holds of the new program, so it doesn't matter which of both opens words that
-- have its digest whole.
abbrev pub MovingReopenLaw : Type 0
MovingReopenLaw =
    (former new : Program) (super : Words) (x : Moment) (b d e : Device) (f : FileLines)
    (words mended : List ℤ) (n : Mode) (a : Answer) (k k1 : ℕ) →
    first_other former.typed new.typed ≡ None → sizes_of new ≡ sizes_of former →
    IsMoveCut former new super x b f words →
    (Agrees former → IsMended former words mended → Opens former mended d a n e k k1 →
    (t : SourceState) × Powers former x.state (image_words mended) a t × Holds former super n e t)
    × (Agrees new → IsMended new words mended → Opens new mended d a n e k k1 →
    (t : SourceState) × Powers new x.state (image_words mended) a t
    × Holds new (moved_words new super) n e t)
