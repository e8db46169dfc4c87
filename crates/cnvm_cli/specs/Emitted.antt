-- What is written of a program as C.
use Rattle.std.specs.Prelude.{ℕ, List, Bool, Option, ◌⊎◌}
use Rattle.cnvm_compile.specs.declared.asked.Asked.{Asked}
use Rattle.cnvm_compile.specs.declared.compiling.Compiled.{Compiled}
use Rattle.cnvm_compile.specs.Compilation.{IsCompiled}
use Rattle.cnvm_emit.specs.Emitted.{emitted}
use Rattle.cnvm_cli.specs.declared.refused.Refused.{Refused}
use Rattle.session_run.specs.declared.status.Status.{Status}
use Rattle.cnvm_cli.specs.Listed.{WrittenAs}
use Rattle.cnvm_cli.specs.Run.{RefusedAs}
use Rattle.cnvm_cli.specs.Verdict.{OfBytes, ProgramRefuses}

-- The program is refused, and this is reported; or what is written is the C file of the compiled
-- program, or its header.
abbrev pub EmitEnds : Asked → (prefix : List ℕ) → (header : Bool) → (program : Option (List ℕ))
    → Status → Option (List ℕ) → Option (List ℕ) → Type 0
EmitEnds asked prefix header program result w w' =
    ((why : Refused) × ProgramRefuses program why × RefusedAs why result w w')
    ⊎ ((compiled : Compiled) × OfBytes program (λ text. IsCompiled asked text compiled)
    × WrittenAs (emitted compiled.program prefix header) result w w')
