-- What is told of a script, by what was found of it.
use Rattle.std.proofs.Common.{◌≡◌, ◌<◌, ℕ, List, Some, None, Result, Ok, Err, length}
use Rattle.plain_notes.specs.Head.{file_head}
use Rattle.cnvm_notes.specs.RefusedLine.{TellsLine, TellsScript, Long, AtLine, Nothing}
use Rattle.cnvm_notes.specs.RefusedLine.{long_script, numbered_line}

pub long : {A : Type 0} (path text message : List ℕ) (means : Result A ℕ) → 1048576 < length text
    → message ≡ file_head path long_script
    → TellsScript path text means (Some message)
long path text message means more begins = Long message more begins

pub at_line : {A : Type 0} (path text message : List ℕ) (means : Result A ℕ) (number : ℕ)
    → means ≡ Err number → TellsLine path (numbered_line text number) number message
    → TellsScript path text means (Some message)
at_line path text message means number is tells = AtLine message number is tells

pub nothing : {A : Type 0} (path text : List ℕ) (means : Result A ℕ) (commands : A)
    → means ≡ Ok commands → TellsScript path text means None
nothing path text means commands is = Nothing commands is
