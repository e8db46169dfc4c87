-- A text is written, and the status says how that went.
use Rattle.std.specs.Prelude.{ℕ, List, Option, ◌≡◌, ◌⊎◌}
use Rattle.std.specs.Io.KnownBytes.{Appends, Keeps}
use Rattle.nvm_base.specs.Parts.{AppendsPart}
use Rattle.session_run.specs.declared.status.Status.{Status}
use Rattle.session_run.specs.declared.status.Status.TheVariants as status

-- A line is written and the status is this one; or there was no memory for the line, or the sink
-- failed.
abbrev pub TellsAs : Status → List ℕ → Status → Option (List ℕ) → Option (List ℕ) → Type 0
TellsAs due line result w w' =
    ((result ≡ due) × Appends w w' line)
    ⊎ (((result ≡ status.NoMemory) × Keeps w w')
    ⊎ ((result ≡ status.WriteFault) × AppendsPart w w' line))
