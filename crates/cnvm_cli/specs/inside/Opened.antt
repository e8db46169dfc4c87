-- A run on the pool of an image, as the bodies promise it.
use Rattle.std.specs.Prelude.{ℕ, ℤ, List, Option, Result, Ok, Err, ◌≡◌, ◌⊎◌, ⊤}
use Rattle.pmem.specs.Device.{Device}
use Rattle.pool_layout.specs.Fault.{IsFirstFault}
use Rattle.pool_layout.specs.Opened.{IsOpened}
use Rattle.cnvm_script.specs.declared.command.Command.{Command}
use Rattle.cnvm_session.specs.declared.program.Program.{Program}
use Rattle.cnvm_session.specs.Pool.{wanted_of}
use Rattle.session_law.specs.Words.{AreWords}
use Rattle.session_run.specs.declared.status.Status.{Status}
use Rattle.session_run.specs.Commands.{OpenedAs}
use Rattle.cnvm_cli.specs.declared.refused.Refused.{Refused}
use Rattle.cnvm_cli.specs.declared.refused.Refused.TheVariants as refused
use Rattle.cnvm_cli.specs.Opened.{AreImageWords, ImageRefuses, ImageGives}
use Rattle.cnvm_cli.specs.Run.{RefusedAs}

-- what the image's reader makes of the bytes that were read
abbrev pub ImageIs : Program → Result (List ℤ) Refused → List ℕ → Type 0
ImageIs program (Ok words) bytes = IsOpened (wanted_of program) words × AreWords words
    × AreImageWords program bytes words
ImageIs program (Err (refused.Image fault)) bytes = IsFirstFault (wanted_of program) bytes fault
ImageIs program (Err refused.ReadFault) bytes = ⊤
ImageIs program (Err refused.NoMemory) bytes = ⊤
ImageIs program (Err _) bytes = ⊥

-- what the image's reader answers
abbrev pub ImageReadAs : Program → Result (List ℤ) Refused → (image : Option (List ℕ)) → Type 0
ImageReadAs program (Ok words) image = ImageGives program image words
ImageReadAs program (Err why) image = ImageRefuses program image why

-- How a run from an image ends: the image's source failed, or there was no memory, and nothing was
-- written; or the image is refused, and this is reported; or the commands are run on its pool.
abbrev pub ImageEnds : Program → List Command → (image : Option (List ℕ)) → Status → Option (List ℕ)
    → Option (List ℕ) → Device → Device
    → (k k' : ℕ) → Type 0
ImageEnds program commands image result w w' d d' k k' =
    ((why : Refused) × ImageRefuses program image why × RefusedAs why result w w' × (d' ≡ d)
    × (k' ≡ k))
    ⊎ ((words : List ℤ) × ImageGives program image words × OpenedAs program commands words result w
    w' d d' k k')
