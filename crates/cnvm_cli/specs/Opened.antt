-- The image of a pool, and the words that it gives.
use Rattle.std.specs.Prelude.{ℕ, ℤ, ◌+◌, ◌*◌, List, take, Option, ◌≡◌, ⊤}
use Rattle.pool_layout.specs.declared.places.Version.TheVariants.{First, Second}
use Rattle.pool_layout.specs.Bytes.{bytes_of, word_in}
use Rattle.pool_layout.specs.Fault.{version_of, Accepts, IsFirstFault}
use Rattle.pool_layout.specs.Moved.{AreMoved}
use Rattle.pool_layout.specs.Opened.{IsOpened}
use Rattle.pool_layout.specs.Sizes.{pool_lines}
use Rattle.cnvm_session.specs.declared.program.Program.{Program}
use Rattle.cnvm_session.specs.Pool.{sizes_of, wanted_of}
use Rattle.session_law.specs.Words.{AreWords}
use Rattle.cnvm_cli.specs.declared.refused.Refused.{Refused}
use Rattle.cnvm_cli.specs.declared.refused.Refused.TheVariants as refused
use Rattle.cnvm_cli.specs.Verdict.{OfBytes}

-- at most one byte past an image's length is read
abbrev pub read_part : Program → List ℕ → List ℕ
read_part program bytes = take (64 * pool_lines (sizes_of program) + 1) bytes

-- the words of an image's bytes; those of an image of version 1 are moved to the places of version
-- 2
pub record AreImageWords (program : Program) (bytes : List ℕ) (words : List ℤ) : Type 0 where
  pub accepted : Accepts (wanted_of program) bytes
  pub second : version_of bytes ≡ Second → bytes_of words ≡ bytes
  pub first : version_of bytes ≡ First → AreMoved (sizes_of program) (word_in bytes) words

-- the image is refused for this; of a source that failed, and of want of memory, nothing is said
abbrev pub ImageRefuses : Program → (image : Option (List ℕ)) → Refused → Type 0
ImageRefuses program image (refused.Image fault) =
    OfBytes image (λ bytes. IsFirstFault (wanted_of program) (read_part program bytes) fault)
ImageRefuses program image refused.ReadFault = ⊤
ImageRefuses program image refused.NoMemory = ⊤
ImageRefuses program image _ = ⊥

-- the words that the image gives
abbrev pub ImageGives : Program → (image : Option (List ℕ)) → List ℤ → Type 0
ImageGives program image words =
    IsOpened (wanted_of program) words × AreWords words
    × OfBytes image (λ bytes. AreImageWords program (read_part program bytes) words)
