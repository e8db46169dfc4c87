-- What the program and the script call for, in the order of work: the first of them that is
-- refused, or a run of the script's commands on a pool of the program.
use Rattle.std.specs.Prelude.{ℕ, List, ◌≡◌, ◌<◌, ◌≤◌, length, Result, Ok, Err, Option, Some, None}
use Rattle.std.specs.Prelude.{⊤, ◌⊎◌}
use Rattle.cnvm_script.specs.declared.command.Command.{Command}
use Rattle.cnvm_script.specs.Commands.{script_meaning}
use Rattle.cnvm_compile.specs.declared.front_end.ProgramFault.{ProgramFault}
use Rattle.cnvm_compile.specs.declared.told.Told.{Told}
use Rattle.cnvm_compile.specs.declared.told.Told.TheVariants as told
use Rattle.cnvm_compile.specs.declared.compiling.Compiled.{Compiled}
use Rattle.cnvm_compile.specs.Compilation.{IsCompiled}
use Rattle.cnvm_compile.specs.FrontEnd.{RefusesText}
use Rattle.cnvm_compile.specs.Told.{told_of}
use Rattle.cnvm_compile.specs.declared.asked.Asked.{Asked}
use Rattle.cnvm_cli.specs.declared.refused.Refused.{Refused}
use Rattle.cnvm_cli.specs.declared.refused.Refused.TheVariants as refused
use Rattle.cnvm_script.specs.declared.read.TheConstants.{SCRIPT_BYTES}

abbrev pub refused_by : Told → Refused
refused_by told.Long = refused.LongProgram
refused_by (told.At line complaint) = refused.Program line complaint
refused_by told.NoMemory = refused.NoMemory

-- the front end refuses the text, and this is reported
abbrev pub IsTextRefused : List ℕ → Refused → Type 0
IsTextRefused text why = (fault : ProgramFault) × RefusesText text fault
    × (refused_by (told_of fault) ≡ why)

-- It holds of a source's bytes. If a source tells no bytes, it holds of some bytes.
abbrev pub OfBytes : Option (List ℕ) → (List ℕ → Type 0) → Type 0
OfBytes None P = (text : List ℕ) × P text
OfBytes (Some text) P = P text

abbrev pub asked_by : (slots records ticks : ℕ) → Asked
asked_by slots records ticks = record { slots = slots; records = records; ticks = ticks }

-- the text is accepted
abbrev pub IsAccepted : Asked → List ℕ → Type 0
IsAccepted asked text = (compiled : Compiled) × IsCompiled asked text compiled

-- a script has at most 1,048,576 bytes
abbrev pub IsLongScript : List ℕ → Type 0
IsLongScript script = SCRIPT_BYTES < length script

-- the commands of a text, or the number of its first bad line
abbrev pub Grammar : Type 0 → Type 0
Grammar C = List ℕ → Result (List C) ℕ

abbrev pub IsBadIn : {C : Type 0} → Grammar C → ℕ → List ℕ → Type 0
IsBadIn means number script = (length script ≤ SCRIPT_BYTES) × (means script ≡ Err number)

abbrev pub SpellsIn : {C : Type 0} → Grammar C → List C → List ℕ → Type 0
SpellsIn means commands script = (length script ≤ SCRIPT_BYTES) × (means script ≡ Ok commands)

abbrev pub HasCommands : List Command → List ℕ → Type 0
HasCommands commands script = SpellsIn script_meaning commands script

-- the program is refused for this; of a source that failed, and of want of memory, nothing is said
abbrev pub ProgramRefuses : (program : Option (List ℕ)) → Refused → Type 0
ProgramRefuses program refused.LongProgram =
    OfBytes program (λ text. IsTextRefused text refused.LongProgram)
ProgramRefuses program (refused.Program line complaint) =
    OfBytes program (λ text. IsTextRefused text (refused.Program line complaint))
ProgramRefuses program refused.ReadFault = ⊤
ProgramRefuses program refused.NoMemory = ⊤
ProgramRefuses program _ = ⊥

-- the script of this grammar is refused for this
abbrev pub ScriptRefuses : {C : Type 0} → Grammar C → (script : Option (List ℕ)) → Refused → Type 0
ScriptRefuses means script refused.LongScript = OfBytes script IsLongScript
ScriptRefuses means script (refused.Script number) = OfBytes script (IsBadIn means number)
ScriptRefuses means script refused.ReadFault = ⊤
ScriptRefuses means script refused.NoMemory = ⊤
ScriptRefuses means script _ = ⊥

-- the program is refused for this; or it is accepted, and the script is refused for this
abbrev pub RefuseIn : {C : Type 0} → Grammar C → Asked → (program script : Option (List ℕ))
    → Refused → Type 0
RefuseIn means asked program script why =
    ProgramRefuses program why
    ⊎ (OfBytes program (IsAccepted asked) × ScriptRefuses means script why)

abbrev pub TextsRefuse : Asked → (program script : Option (List ℕ)) → Refused → Type 0
TextsRefuse asked program script why = RefuseIn script_meaning asked program script why

-- the compiled program and the commands that the two texts give
abbrev pub TextsGive : Asked → (program script : Option (List ℕ)) → Compiled → List Command
    → Type 0
TextsGive asked program script compiled commands =
    OfBytes program (λ text. IsCompiled asked text compiled)
    × OfBytes script (HasCommands commands)
