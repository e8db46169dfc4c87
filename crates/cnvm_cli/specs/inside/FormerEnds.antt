-- How a pool of the former program is read and moved, as the bodies promise it.
use Rattle.std.specs.Prelude.{ℕ, ℤ, pos, ◌≡◌, ◌≢◌, ◌≤◌, ◌⊎◌, ◌++◌, List, take, length, Option, Some}
use Rattle.std.specs.Prelude.{None, Result, Ok, Err, option_map, true, false, ◌+◌, ◌*◌, ◌-◌}
use Rattle.std.specs.Prelude.{slice_index_or}
use Rattle.pmem.specs.Device.{Device}
use Rattle.pmem.specs.Played.{PlaysAll}
use Rattle.file_pmem.specs.File.{FileLines, HoldsNewest}
use Rattle.file_pmem.specs.declared.link.MirrorState.{MirrorState}
use Rattle.file_pmem.specs.declared.link.MirrorState.TheVariants.{Awake}
use Rattle.pool_layout.specs.Bytes.{bytes_of}
use Rattle.pool_layout.specs.Fault.{digest_in}
use Rattle.pool_layout.specs.Sizes.{pool_lines}
use Rattle.pool_layout.specs.declared.wanted.ImageFault.TheVariants.{Digest, Version}
use Rattle.ir.specs.WellFormed.{IsWellFormed}
use Rattle.cnvm_session.specs.Former.{first_other}
use Rattle.cnvm_session.specs.declared.mode.Mode.{Mode}
use Rattle.cnvm_session.specs.declared.program.Program.{Program}
use Rattle.cnvm_session.specs.Moving.{is_recovered, moving_events}
use Rattle.cnvm_session.specs.Pool.{sizes_of}
use Rattle.cnvm_compile.specs.declared.asked.Asked.{Asked}
use Rattle.cnvm_compile.specs.declared.compiling.Compiled.{Compiled}
use Rattle.cnvm_compile.specs.Compilation.{IsCompiled}
use Rattle.session_run.specs.declared.status.Status.{Status}
use Rattle.session_run.specs.declared.status.Status.TheVariants as status
use Rattle.session_run.specs.Moved.{IsUnmoved}
use Rattle.session_run.specs.Told.{TellsAs}
use Rattle.cnvm_cli.specs.declared.former.FormerPool.{FormerPool}
use Rattle.cnvm_cli.specs.declared.former.Owned.{Owned}
use Rattle.cnvm_cli.specs.declared.former.Owned.TheVariants.{Own, Former}
use Rattle.cnvm_cli.specs.declared.former.Unheld.{Unheld}
use Rattle.cnvm_cli.specs.declared.former.Unheld.TheVariants as unheld
use Rattle.cnvm_cli.specs.declared.refused.Refused.{Refused}
use Rattle.cnvm_cli.specs.declared.refused.Refused.TheVariants as refused
use Rattle.cnvm_cli.specs.Former.{IsOwn, IsOther, is_between, is_move_cut, owes_cut, unmoved}
use Rattle.cnvm_cli.specs.Former.{MendsLine, shape_line, DoesNoMore}
use Rattle.cnvm_cli.specs.Opened.{ImageRefuses, ImageGives}
use Rattle.cnvm_cli.specs.PoolSide.{PoolSide, IsSilent, RunsWords}
use Rattle.cnvm_cli.specs.Verdict.{OfBytes, ProgramRefuses}
use Rattle.cnvm_cli.specs.inside.Opened.{ImageIs}

-- a source failed, or there was no memory
abbrev pub IsUnsaid : Refused → Type 0
IsUnsaid why = (why ≡ refused.ReadFault) ⊎ (why ≡ refused.NoMemory)

-- the program is one of some text
abbrev pub ComesFromText : Asked → Compiled → Type 0
ComesFromText asked compiled = (text : List ℕ) × IsCompiled asked text compiled

-- the rest of an image whose first bytes are these
abbrev pub RestReadAs : Program → (head : List ℕ) → (left : Option (List ℕ))
    → Result (List ℤ) Refused → Type 0
RestReadAs program head left (Ok words) =
    OfBytes left (λ bytes. ImageIs program (Ok words)
    (head ++ take (64 * pool_lines (sizes_of program) + 1 - 96) bytes))
RestReadAs program head left (Err why) =
    IsUnsaid why
    ⊎ OfBytes left (λ bytes. ImageIs program (Err why)
    (head ++ take (64 * pool_lines (sizes_of program) + 1 - 96) bytes))

-- the words of the program's own image, whose first bytes are these
abbrev pub OwnReadAs : Program → (head : List ℕ) → (left : Option (List ℕ)) → Result Owned Refused
    → Type 0
OwnReadAs program head left (Ok (Own words)) = RestReadAs program head left (Ok words)
OwnReadAs program head left (Ok (Former pool)) = ⊥
OwnReadAs program head left (Err why) = RestReadAs program head left (Err why)

-- the first bytes of an image, with the program's digest in place of theirs
abbrev pub mended_head : Program → (head : List ℕ) → List ℕ
mended_head former head = take 64 head ++ bytes_of former.digest

-- a former program's pool of these words, whose digest is this
pub record IsPoolRead (new : Program) (old : Compiled) (found words : List ℤ) (pool : FormerPool)
    : Type 0 where
  pub compiled : pool.compiled ≡ old
  pub words_are : pool.words ≡ words
  pub cut : is_move_cut old.program found ≡ pool.cut
  pub unowed : owes_cut old.program found words ≡ false
  pub other : pool.other ≡ first_other old.program.typed new.typed

-- what becomes of these words of a former program's image, whose digest is this
abbrev pub PoolReadAs : (new : Program) → (old : Compiled) → (found words : List ℤ)
    → Result Owned Refused → Type 0
PoolReadAs new old found words (Ok (Own own)) = ⊥
PoolReadAs new old found words (Ok (Former pool)) = IsPoolRead new old found words pool
PoolReadAs new old found words (Err why) =
    IsUnsaid why
    ⊎ ((owes_cut old.program found words ≡ true)
    × (why ≡ refused.Image (Digest found new.digest)))

-- the rest of a former program's image is read, whose first bytes are these, up to their digest
abbrev pub FormerReadAs : (new : Program) → (old : Compiled) → (found : List ℤ) → (head : List ℕ)
    → (left : Option (List ℕ)) → Result Owned Refused → Type 0
FormerReadAs new old found head left result =
    ((why : Refused) × (result ≡ Err why)
    × RestReadAs old.program (mended_head old.program head) left (Err why))
    ⊎ ((words : List ℤ) × RestReadAs old.program (mended_head old.program head) left (Ok words)
    × PoolReadAs new old found words result)

-- the former text is read, and then the rest of the image, whose first bytes and digest are these
abbrev pub OtherReadAs : Asked → Program → (former : Option (List ℕ)) → (found : List ℤ)
    → (head : List ℕ) → (left : Option (List ℕ)) → Result Owned Refused → Type 0
OtherReadAs asked program former found head left result =
    ((why : Refused) × (result ≡ Err why) × ProgramRefuses former why)
    ⊎ ((old : Compiled) × OfBytes former (λ text. IsCompiled asked text old)
    × (((is_between found old.program.digest program.digest ≡ false)
    × OwnReadAs program head left result)
    ⊎ ((is_between found old.program.digest program.digest ≡ true)
    × FormerReadAs program old found head left result)))

-- An image of the program's pool is wanted: it has the program's digest, or that of neither
-- program.
abbrev pub IsTakenAsOwn : Asked → Program → (former image : Option (List ℕ)) → Type 0
IsTakenAsOwn asked program former image =
    OfBytes image (IsOwn program)
    ⊎ (OfBytes image (IsOther program)
    × (old : Compiled) × OfBytes former (λ text. IsCompiled asked text old)
    × OfBytes image
    (λ bytes. is_between (digest_in bytes) old.program.digest program.digest ≡ false))

-- what an image shows of the former pool that it has
pub record IsFormerImage (program : Program) (pool : FormerPool) (bytes : List ℕ) : Type 0 where
  pub other : IsOther program bytes
  pub between :
      is_between (digest_in bytes) pool.compiled.program.digest program.digest ≡ true
  pub cut : is_move_cut pool.compiled.program (digest_in bytes) ≡ pool.cut
  pub unowed : owes_cut pool.compiled.program (digest_in bytes) pool.words ≡ false

-- a former pool that is read: its program's text, its words, and the struct that differs
pub record IsFormerPool (asked : Asked) (program : Program) (former image : Option (List ℕ))
    (pool : FormerPool) : Type 0 where
  pub compiled : OfBytes former (λ text. IsCompiled asked text pool.compiled)
  pub is : OfBytes image (IsFormerImage program pool)
  pub gives : ImageGives pool.compiled.program (option_map (unmoved pool.compiled.program) image)
      pool.words
  pub other : pool.other ≡ first_other pool.compiled.program.typed program.typed

-- a former program's image is refused, or its pool, whose move was cut, owes a transaction
abbrev pub RefusesFormer : (program : Program) → (old : Compiled) → (image : Option (List ℕ))
    → Refused → Type 0
RefusesFormer program old image why =
    ImageRefuses old.program (option_map (unmoved old.program) image) why
    ⊎ ((words : List ℤ)
    × ImageGives old.program (option_map (unmoved old.program) image) words
    × OfBytes image (λ bytes. (owes_cut old.program (digest_in bytes) words ≡ true)
    × (why ≡ refused.Image (Digest (digest_in bytes) program.digest))))

-- why there is no pool to run on
abbrev pub RefusesStart : Asked → Program → (former image : Option (List ℕ)) → Refused → Type 0
RefusesStart asked program former image why =
    (IsTakenAsOwn asked program former image × ImageRefuses program image why)
    ⊎ (OfBytes image (IsOther program)
    × (ProgramRefuses former why
    ⊎ ((old : Compiled) × OfBytes former (λ text. IsCompiled asked text old)
    × OfBytes image
    (λ bytes. is_between (digest_in bytes) old.program.digest program.digest ≡ true)
    × RefusesFormer program old image why)))

-- what the reader of an image of either program answers
abbrev pub StartReadAs : Asked → Program → (former image : Option (List ℕ)) → Result Owned Refused
    → Type 0
StartReadAs asked program former image (Ok (Own words)) =
    IsTakenAsOwn asked program former image × ImageGives program image words
StartReadAs asked program former image (Ok (Former pool)) =
    IsFormerPool asked program former image pool
StartReadAs asked program former image (Err why) = RefusesStart asked program former image why

-- What a run on a former pool rests on. Where no struct differs, both programs' pools have the same
-- sizes.
pub record IsUsable (new : Program) (pool : FormerPool) : Type 0 where
  pub formed : IsWellFormed pool.compiled.ir
  pub long : 16 ≤ length pool.words
  pub other : pool.other ≡ first_other pool.compiled.program.typed new.typed
  pub sizes : pool.other ≡ None → sizes_of new ≡ sizes_of pool.compiled.program

-- a file is held that shows this, and these are the words of its image
abbrev pub TakesWords : (run : List ℤ → Type 0) → Program → List ℤ → (shown : Option FileLines)
    → Status → (before after : PoolSide) → Type 0
TakesWords run program words shown result before after =
    IsSilent result before after ⊎ RunsWords run program words shown result before after

-- a file is held that shows this, and its image is that of this former pool
abbrev pub TakesPool : (run : List ℤ → Type 0) → FormerPool → (shown : Option FileLines) → Status
    → (before after : PoolSide) → Type 0
TakesPool run pool shown result before after =
    IsSilent result before after
    ⊎ ((shown' : Option FileLines) × MendsLine pool.cut pool.words shown shown'
    × RunsWords run pool.compiled.program pool.words shown' result before after)

-- the file, whose line of the digest is mended, holds the pool's words
abbrev pub IsPoolHeld : FormerPool → (shown : Option FileLines) → Type 0
IsPoolHeld pool shown =
    (shown' : Option FileLines) × MendsLine pool.cut pool.words shown shown'
    × HoldsNewest shown' (pool_lines (sizes_of pool.compiled.program)) pool.words

-- it failed, or there was no memory; or it holds other words
abbrev pub IsUnheld : FormerPool → (shown : Option FileLines) → Unheld → Type 0
IsUnheld pool shown (unheld.Status result) =
    (result ≡ status.NoMemory)
    ⊎ ((result ≡ status.DeviceFault) ⊎ (result ≡ status.ReadFault))
IsUnheld pool shown (unheld.Refused why) =
    (shown' : Option FileLines) × MendsLine pool.cut pool.words shown shown'
    × (other : List ℤ) × (length other ≡ 8 * pool_lines (sizes_of pool.compiled.program))
    × (other ≢ pool.words)
    × HoldsNewest shown' (pool_lines (sizes_of pool.compiled.program)) other
    × (why ≡ refused.Image (Version (slice_index_or other 1 (pos 0)) (pos 2)))

-- what becomes of an opened pool of the former program on this device
abbrev pub MovesAs : (go : Device → Type 0) → (former new : Program) → Mode → Device → (k : ℕ)
    → Status → (told : Option (List ℕ)) → (after : PoolSide) → Type 0
MovesAs go former new m d k result told after =
    ((is_recovered m ≡ false) × (result ≡ status.NoMemory) × (after.out ≡ told)
    × DoesNoMore d k after)
    ⊎ ((is_recovered m ≡ true)
    × (((name : List ℕ) × (first_other former.typed new.typed ≡ Some name)
    × TellsAs status.Image (shape_line name) result told after.out × DoesNoMore d k after)
    ⊎ ((first_other former.typed new.typed ≡ None)
    × ((IsUnmoved new result after.held.state d after.held.device × (after.out ≡ told)
    × (after.steps ≡ k))
    ⊎ ((b : Device) × PlaysAll d (moving_events new.digest) b × go b)))))

-- the pool is taken over; or it isn't, and this is the run's status
abbrev pub TakesOver : (new : Program) → (other : Option (List ℕ)) → Mode → Result Unit Status
    → (w w' : Option (List ℕ)) → (d d' : Device) → MirrorState → Type 0
TakesOver new other m (Ok u) w w' d d' s =
    (is_recovered m ≡ true) × (other ≡ None) × PlaysAll d (moving_events new.digest) d'
    × (w' ≡ w) × (s ≡ Awake)
TakesOver new other m (Err result) w w' d d' s =
    ((is_recovered m ≡ false) × (result ≡ status.NoMemory) × (w' ≡ w) × (d' ≡ d))
    ⊎ ((is_recovered m ≡ true)
    × (((name : List ℕ) × (other ≡ Some name) × TellsAs status.Image (shape_line name) result w w'
    × (d' ≡ d))
    ⊎ ((other ≡ None) × IsUnmoved new result s d d' × (w' ≡ w))))
