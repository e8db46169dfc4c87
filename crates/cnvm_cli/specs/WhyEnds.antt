-- What is written of why the stores of a program are logged.
use Rattle.std.specs.Prelude.{ℕ, List, Option, None, ◌≡◌, ◌⊎◌}
use Rattle.ir.specs.declared.function.Ir.{Ir}
use Rattle.ir.specs.Sites.{sites_of}
use Rattle.walk_check.specs.declared.certificate.Certificate.{Certificate}
use Rattle.walk_check.specs.Keeps.{certificate_fault}
use Rattle.walk_check.specs.Law.{listed}
use Rattle.walk_maker.specs.Lists.{ListsLogged}
use Rattle.walk_maker.specs.WhyText.{why_text}
use Rattle.cnvm_compile.specs.declared.compiling.Compiled.{Compiled}
use Rattle.cnvm_compile.specs.Compilation.{IsCompiled}
use Rattle.cnvm_cli.specs.declared.refused.Refused.{Refused}
use Rattle.session_run.specs.declared.status.Status.{Status}
use Rattle.cnvm_cli.specs.Listed.{listing_sizes, WrittenAs}
use Rattle.cnvm_cli.specs.Run.{RefusedAs}
use Rattle.cnvm_cli.specs.Verdict.{OfBytes, ProgramRefuses}

-- the certificate lists exactly the logged sites of the code, in its order, and breaks no rule
abbrev pub Explains : Ir → Certificate → Type 0
Explains ir c =
    ListsLogged ir.functions (sites_of 0 ir.functions) (listed c)
    × (certificate_fault ir c ≡ None)

-- The program is refused, and this is reported; or what is written is the text of a certificate
-- that explains the logged sites of the compiled program's own code.
abbrev pub WhyEnds : (program : Option (List ℕ)) → Status → Option (List ℕ) → Option (List ℕ)
    → Type 0
WhyEnds program result w w' =
    ((why : Refused) × ProgramRefuses program why × RefusedAs why result w w')
    ⊎ ((compiled : Compiled) × OfBytes program (λ text. IsCompiled listing_sizes text compiled)
    × (c : Certificate) × Explains compiled.ir c
    × WrittenAs (why_text compiled.ir c) result w w')
