-- What is written of a program's intermediate code.
use Rattle.std.specs.Prelude.{ℕ, List, Option, ◌⊎◌}
use Rattle.code_print.specs.CodeText.{printed_code}
use Rattle.cnvm_compile.specs.declared.compiling.Compiled.{Compiled}
use Rattle.cnvm_compile.specs.Compilation.{IsCompiled}
use Rattle.cnvm_cli.specs.declared.refused.Refused.{Refused}
use Rattle.session_run.specs.declared.status.Status.{Status}
use Rattle.cnvm_cli.specs.Listed.{listing_sizes, WrittenAs}
use Rattle.cnvm_cli.specs.Run.{RefusedAs}
use Rattle.cnvm_cli.specs.Verdict.{OfBytes, ProgramRefuses}

-- The program is refused, and this is reported; or what is written is the text of the compiled
-- program's own code, before its logs are put in, and of its marks.
abbrev pub CodeEnds : (program : Option (List ℕ)) → Status → Option (List ℕ) → Option (List ℕ)
    → Type 0
CodeEnds program result w w' =
    ((why : Refused) × ProgramRefuses program why × RefusedAs why result w w')
    ⊎ ((compiled : Compiled) × OfBytes program (λ text. IsCompiled listing_sizes text compiled)
    × WrittenAs (printed_code compiled.program.typed compiled.ir compiled.marks) result w w')
