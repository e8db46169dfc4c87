-- The images of several workers' pools, one after another in a file, and the words that they give.
use Rattle.std.specs.Prelude.{ℕ, ℤ, suc, ◌+◌, ◌-◌, ◌*◌, ◌<◌, List, take, drop, Option, ⊤, nat_lt}
use Rattle.std.specs.Prelude.{if◌then◌else◌}
use Rattle.pool_layout.specs.Fault.{Accepts, IsFirstFault}
use Rattle.pool_layout.specs.Sizes.{pool_lines}
use Rattle.pool_layout.specs.declared.wanted.ImageFault.{ImageFault}
use Rattle.pool_workers.specs.Compartment.{first_line, words_within}
use Rattle.cnvm_session.specs.declared.program.Program.{Program}
use Rattle.cnvm_session.specs.Pool.{sizes_of, wanted_of}
use Rattle.workers_source_law.specs.Opened.{AreOpened}
use Rattle.cnvm_cli.specs.declared.refused.Refused.{Refused}
use Rattle.cnvm_cli.specs.declared.refused.Refused.TheVariants as refused
use Rattle.cnvm_cli.specs.Opened.{AreImageWords}
use Rattle.cnvm_cli.specs.Verdict.{OfBytes}

-- the length of an image in bytes
abbrev pub image_size : Program → ℕ
image_size program = 64 * pool_lines (sizes_of program)

-- at most one byte past the last image is read
abbrev pub crew_part : Program → (count : ℕ) → List ℕ → List ℕ
crew_part program count bytes = take (image_size program * count + 1) bytes

-- the bytes of a worker's image; those of the last one are all that are left
abbrev pub bytes_within : Program → (count worker : ℕ) → List ℕ → List ℕ
bytes_within program count worker bytes =
    if nat_lt (suc worker) count
    then take (image_size program) (drop (image_size program * worker) bytes)
    else drop (image_size program * worker) bytes

-- The images before this worker's are accepted, and its own has this fault. So where the file has
-- fewer images than there are workers, the first one that is missing is short; where it has more,
-- the last one is too long.
pub record IsCrewFault (program : Program) (count : ℕ) (bytes : List ℕ) (fault : ImageFault) :
    Type 0 where
  pub worker : ℕ
  pub known : worker < count
  pub before : (j : ℕ) → j < worker
      → Accepts (wanted_of program) (bytes_within program count j bytes)
  pub first : IsFirstFault (wanted_of program) (bytes_within program count worker bytes) fault

-- an image is refused for this; of a source that failed, and of want of memory, nothing is said
abbrev pub CrewRefuses : Program → (count : ℕ) → (image : Option (List ℕ)) → Refused → Type 0
CrewRefuses program count image (refused.Image fault) =
    OfBytes image (λ bytes. IsCrewFault program count (crew_part program count bytes) fault)
CrewRefuses program count image refused.ReadFault = ⊤
CrewRefuses program count image refused.NoMemory = ⊤
CrewRefuses program count image _ = ⊥

-- Where the version stands of the last image among the words of all. Only that one can be of the
-- first version, whose images are shorter.
abbrev pub last_version : Program → (count : ℕ) → ℕ
last_version program count = 8 * first_line (sizes_of program) (count - 1) + 1

-- each worker's words are those of its image
abbrev pub AreCrewWords : Program → (count : ℕ) → List ℕ → List ℤ → Type 0
AreCrewWords program count bytes words =
    (worker : ℕ) → worker < count
    → AreImageWords program (bytes_within program count worker bytes)
    (words_within (sizes_of program) worker words)

-- the words that the images give
abbrev pub CrewGives : Program → (count : ℕ) → (image : Option (List ℕ)) → List ℤ → Type 0
CrewGives program count image words =
    AreOpened program count words
    × OfBytes image (λ bytes. AreCrewWords program count (crew_part program count bytes) words)
