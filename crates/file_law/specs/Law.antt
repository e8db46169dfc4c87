-- A process is killed in a session, or the power is lost. The next process opens what is left of
-- the file.
use Rattle.std.specs.Prelude.{ℕ, ◌*◌, ◌≡◌, List, length, ℤ}
use Rattle.cache_model.specs.Cache.{Words}
use Rattle.pmem.specs.Device.{Device, memory_of}
use Rattle.file_pmem.specs.File.{FileLines, MayLeave}
use Rattle.file_pmem.specs.Mirror.{CoversCopies, IsBlankPast}
use Rattle.pool_layout.specs.Image.{image_words}
use Rattle.pool_layout.specs.Sizes.{pool_lines}
use Rattle.cnvm_session.specs.declared.answer.Answer.{Answer}
use Rattle.cnvm_session.specs.declared.mode.Mode.{Mode}
use Rattle.cnvm_session.specs.declared.program.Program.{Program}
use Rattle.cnvm_session.specs.Outcomes.{Opens}
use Rattle.cnvm_session.specs.Pool.{sizes_of}
use Rattle.session_law.specs.Agrees.{Agrees}
use Rattle.session_law.specs.Answers.{Powers}
use Rattle.session_law.specs.Holds.{Holds}
use Rattle.session_law.specs.Ran.{Moment}
use Rattle.session_law.specs.State.{SourceState}

-- The words of a pool are what a crash may leave of the file that covers the session's device.
pub record IsLeft (program : Program) (x : Moment) (f : FileLines) (words : List ℤ) : Type 0 where
  pub lines : x.device.lines ≡ pool_lines (sizes_of program)
  pub past : IsBlankPast (memory_of x.device)
  pub covers : CoversCopies f (memory_of x.device)
  pub left : MayLeave f x.device.lines (image_words words)
  pub whole : length words ≡ 8 * x.device.lines

-- If the next process opens such words, its first answer is one that the source gives to a power
-- cut of the session which left them, and its pool holds what the source then knows.
abbrev pub ReopenLaw : Type 0
ReopenLaw =
    (program : Program) (super : Words) (x : Moment) (f : FileLines) (words : List ℤ)
    (d b : Device) (n : Mode) (a : Answer) (k k1 : ℕ) →
    Agrees program → Holds program super x.mode x.device x.state → IsLeft program x f words →
    Opens program words d a n b k k1 →
    (t : SourceState) × Powers program x.state (image_words words) a t × Holds program super n b t
