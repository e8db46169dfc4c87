-- What a listing writes.
use Rattle.std.specs.Prelude.{ℕ, List, Option, ◌⊎◌}
use Rattle.std.specs.Io.KnownBytes.{Appends, Keeps}
use Rattle.nvm_base.specs.Parts.{AppendsPart}
use Rattle.cnvm_compile.specs.declared.asked.Asked.{Asked}
use Rattle.cnvm_compile.specs.declared.compiling.Compiled.{Compiled}
use Rattle.cnvm_compile.specs.Compilation.{IsCompiled}
use Rattle.cnvm_compile.specs.Listing.{listing}
use Rattle.cnvm_cli.specs.declared.refused.Refused.{Refused}
use Rattle.session_run.specs.declared.status.Status.{Status}
use Rattle.session_run.specs.AsStatus.{AsStatus, met}
use Rattle.cnvm_cli.specs.Run.{RefusedAs}
use Rattle.cnvm_cli.specs.Verdict.{OfBytes, ProgramRefuses}

-- the sizes for which a listing is made
abbrev pub listing_sizes : Asked
listing_sizes = record { slots = 1024; records = 256; ticks = 100000 }

-- a text is written, by the status; no pool is made
abbrev pub WrittenAs : List ℕ → Status → Option (List ℕ) → Option (List ℕ) → Type 0
WrittenAs text result w w' =
    AsStatus (λ why. ⊥) (Keeps w w') (met (Appends w w' text)) (AppendsPart w w' text) result

-- The program is refused, and this is reported; or what is written is the listing of the compiled
-- program's own code and marks.
abbrev pub ListEnds : (program : Option (List ℕ)) → Status → Option (List ℕ) → Option (List ℕ)
    → Type 0
ListEnds program result w w' =
    ((why : Refused) × ProgramRefuses program why × RefusedAs why result w w')
    ⊎ ((compiled : Compiled) × OfBytes program (λ text. IsCompiled listing_sizes text compiled)
    × WrittenAs (listing compiled.marks compiled.ir) result w w')
