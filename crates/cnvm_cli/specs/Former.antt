-- A run on the pool of a file that may be one of the program's former text. Then the pool is opened
-- and recovered by the former program, and moved: the new program's session holds what the former
-- one's did.
use Rattle.std.specs.Prelude.{ℕ, ℤ, pos, ◌≤◌, ◌≡◌, ◌≢◌, ◌⊎◌, ◌++◌, List, length, take, drop}
use Rattle.std.specs.Prelude.{Bool, true, false, Option, Some, None, option_map, ◌&&◌, ◌||◌, not}
use Rattle.std.specs.Prelude.{slice_index_or, codes}
use Rattle.std.specs.Ordering.{int_eq}
use Rattle.std.specs.Cmp.Lexicographic.{pointwise}
use Rattle.cache_model.specs.Cache.{Words}
use Rattle.pmem.specs.Device.{Device}
use Rattle.pmem.specs.Played.{PlaysAll}
use Rattle.file_pmem.specs.File.{FileLines, WritesFile}
use Rattle.pool_layout.specs.declared.wanted.ImageFault.TheVariants.{Digest}
use Rattle.pool_layout.specs.declared.places.TheConstants.{MARK}
use Rattle.pool_layout.specs.Bytes.{bytes_of}
use Rattle.pool_layout.specs.Fault.{digest_in}
use Rattle.pool_layout.specs.Image.{image_words, is_sealed}
use Rattle.cnvm_session.specs.Former.{first_other}
use Rattle.cnvm_session.specs.declared.program.Program.{Program}
use Rattle.cnvm_session.specs.Moving.{is_recovered, moving_events}
use Rattle.cnvm_compile.specs.declared.asked.Asked.{Asked}
use Rattle.cnvm_compile.specs.declared.compiling.Compiled.{Compiled}
use Rattle.cnvm_compile.specs.Compilation.{IsCompiled}
use Rattle.file_law.specs.Moved.{moved_words}
use Rattle.session_law.specs.Holds.{Holds}
use Rattle.session_law.specs.Ran.{Moment}
use Rattle.session_run.specs.declared.status.Status.{Status}
use Rattle.session_run.specs.declared.status.Status.TheVariants as status
use Rattle.session_run.specs.Moved.{IsUnmoved}
use Rattle.session_run.specs.Told.{TellsAs}
use Rattle.cnvm_cli.specs.declared.refused.Refused.{Refused}
use Rattle.cnvm_cli.specs.declared.refused.Refused.TheVariants as refused
use Rattle.cnvm_cli.specs.Opened.{ImageRefuses, ImageGives}
use Rattle.cnvm_cli.specs.PoolSide.{PoolSide, IsSilent, RefusesFile, RunsWords, TakesFile}
use Rattle.cnvm_cli.specs.Verdict.{OfBytes, ProgramRefuses}

-- The image has the program's digest, if it is long enough to have one.
abbrev pub IsOwn : Program → List ℕ → Type 0
IsOwn program bytes = 96 ≤ length bytes → digest_in bytes ≡ program.digest

-- the image has another digest
abbrev pub IsOther : Program → List ℕ → Type 0
IsOther program bytes = (96 ≤ length bytes) × (digest_in bytes ≢ program.digest)

-- the word of a digest at place i is one program's or the other's
unfoldable pub is_either_at : (found former new : List ℤ) → ℕ → Bool
is_either_at found former new i =
    int_eq (slice_index_or found i (pos 0)) (slice_index_or former i (pos 0))
    || int_eq (slice_index_or found i (pos 0)) (slice_index_or new i (pos 0))

-- Whether a digest is that of the former program's pool: each of its words is that program's, or
-- the new program's where a move to it was cut.
abbrev pub is_between : (found former new : List ℤ) → Bool
is_between found former new =
    is_either_at found former new 0 && (is_either_at found former new 1
    && (is_either_at found former new 2 && is_either_at found former new 3))

-- whether a move of the pool was cut
abbrev pub is_move_cut : Program → (found : List ℤ) → Bool
is_move_cut former found = not (pointwise int_eq found former.digest)

-- whether an image owes a transaction: it has no mark, and is sealed
abbrev pub is_owing : Words → Bool
is_owing image = int_eq (image MARK) (pos 0) && is_sealed image

-- Whether a pool whose move was cut owes a transaction. No pool is moved before it is recovered, so
-- such a pool is neither program's.
abbrev pub owes_cut : Program → (found words : List ℤ) → Bool
owes_cut former found words = is_move_cut former found && is_owing (image_words words)

-- an image as the former program has it, whose digest it gets
abbrev pub unmoved : Program → List ℕ → List ℕ
unmoved former bytes = take 64 bytes ++ (bytes_of former.digest ++ drop 96 bytes)

-- the words of line 1
abbrev pub mended_line : List ℤ → List ℤ
mended_line words = take 8 (drop 8 words)

-- Where a move was cut, line 1 of the file is written as it is in these words, before all else.
abbrev pub MendsLine : (cut : Bool) → (words : List ℤ) → (shown shown' : Option FileLines) → Type 0
MendsLine false words shown shown' = shown' ≡ shown
MendsLine true words shown shown' = WritesFile shown 1 (mended_line words) shown'

-- An image gives these words of a former program's pool. It is refused where its move was cut and
-- it owes a transaction; else line 1 is mended, and the words are run on if the file then holds
-- them.
abbrev pub TakesGiven : (moved : List ℤ → Type 0) → (former new : Program) → (words : List ℤ)
    → (shown : Option FileLines) → Status → (before after : PoolSide) → (found : List ℤ) → Type 0
TakesGiven moved former new words shown result before after found =
    ((owes_cut former found words ≡ true)
    × RefusesFile (refused.Image (Digest found new.digest)) result before after)
    ⊎ ((owes_cut former found words ≡ false)
    × (shown' : Option FileLines) × MendsLine (is_move_cut former found) words shown shown'
    × RunsWords moved former words shown' result before after)

-- A file is held that has the former program's pool. Its image, with that program's digest, is
-- refused or gives words.
abbrev pub TakesFormer : (moved : List ℤ → Type 0) → (former new : Program)
    → (image : Option (List ℕ)) → (shown : Option FileLines) → Status → (before after : PoolSide)
    → Type 0
TakesFormer moved former new image shown result before after =
    ((why : Refused) × ImageRefuses former (option_map (unmoved former) image) why
    × RefusesFile why result before after)
    ⊎ (IsSilent result before after
    ⊎ ((words : List ℤ) × ImageGives former (option_map (unmoved former) image) words
    × OfBytes image
    (λ bytes. TakesGiven moved former new words shown result before after (digest_in bytes))))

-- A file is held whose image has another digest than the program, and the former text is read: it
-- is refused; or it is a program, whose pool the file has, or not. If not, the image is refused as
-- one of the new program is.
abbrev pub TakesOther : Asked → (former : Option (List ℕ)) → (run : List ℤ → Type 0)
    → (moved : Compiled → List ℤ → Type 0) → Program → (image : Option (List ℕ))
    → (shown : Option FileLines) → Status → (before after : PoolSide) → Type 0
TakesOther asked former run moved program image shown result before after =
    ((why : Refused) × ProgramRefuses former why × RefusesFile why result before after)
    ⊎ ((old : Compiled) × OfBytes former (λ text. IsCompiled asked text old)
    × ((OfBytes image
    (λ bytes. is_between (digest_in bytes) old.program.digest program.digest ≡ false)
    × TakesFile run program image shown result before after)
    ⊎ (OfBytes image
    (λ bytes. is_between (digest_in bytes) old.program.digest program.digest ≡ true)
    × TakesFormer (moved old) old.program program image shown result before after)))

-- A file is held that may be of the former text. Where its image has the program's digest, that
-- text isn't read.
abbrev pub TakesEither : Asked → (former : Option (List ℕ)) → (run : List ℤ → Type 0)
    → (moved : Compiled → List ℤ → Type 0) → Program → (image : Option (List ℕ))
    → (shown : Option FileLines) → Status → (before after : PoolSide) → Type 0
TakesEither asked former run moved program image shown result before after =
    (OfBytes image (IsOwn program) × TakesFile run program image shown result before after)
    ⊎ (OfBytes image (IsOther program)
    × TakesOther asked former run moved program image shown result before after)

-- a file that is held is taken so; a former text is named or isn't
abbrev pub TakesIf : (moves : Bool) → Asked → (former : Option (List ℕ)) → (run : List ℤ → Type 0)
    → (moved : Compiled → List ℤ → Type 0) → Program → (image : Option (List ℕ)) → Status
    → (before after : PoolSide) → (shown : Option FileLines) → Type 0
TakesIf false asked former run moved program image result before after shown =
    TakesFile run program image shown result before after
TakesIf true asked former run moved program image result before after shown =
    TakesEither asked former run moved program image shown result before after

-- the last line where a struct differs
abbrev pub shape_line : List ℕ → List ℕ
shape_line name = codes "image shape " ++ (name ++ codes "\n")

-- nothing more is done
abbrev pub DoesNoMore : Device → (steps : ℕ) → (after : PoolSide) → Type 0
DoesNoMore d k after = (after.held.device ≡ d) × (after.steps ≡ k)

-- the moment after a move: only the device is another
abbrev pub moved_moment : Device → Moment → Moment
moved_moment b x = record x { device = b }

-- The pool was opened by the former program, and this moment is reached. There was no memory to
-- recover it; or a struct differs, which is told: then the pool stays the former program's. Or it
-- is moved, perhaps in part where the file refuses something, and `go` says what is done from
-- there.
abbrev pub MovesOn : (go : Words → Moment → Type 0) → (former new : Program) → Words → Moment
    → Status → (told : Option (List ℕ)) → (after : PoolSide) → Type 0
MovesOn go former new super x result told after =
    ((is_recovered x.mode ≡ false) × (result ≡ status.NoMemory) × (after.out ≡ told)
    × DoesNoMore x.device x.steps after)
    ⊎ ((is_recovered x.mode ≡ true)
    × (((name : List ℕ) × (first_other former.typed new.typed ≡ Some name)
    × TellsAs status.Image (shape_line name) result told after.out
    × DoesNoMore x.device x.steps after)
    ⊎ ((first_other former.typed new.typed ≡ None)
    × ((IsUnmoved new result after.held.state x.device after.held.device × (after.out ≡ told)
    × (after.steps ≡ x.steps))
    ⊎ ((b : Device) × PlaysAll x.device (moving_events new.digest) b
    × Holds new (moved_words new super) x.mode b x.state
    × go (moved_words new super) (moved_moment b x))))))
