-- A reader answers the text's meaning, or that the text is bad, or want of memory, of which nothing
-- is promised.
use Rattle.std.specs.Prelude.{ℕ, ◌≡◌, List, Option, None, Some, Result, Ok, Err, ⊤}
use Rattle.cnvm_script.specs.declared.command.Command.{Command}
use Rattle.cnvm_script.specs.declared.fault.LineFault.{LineFault}
use Rattle.cnvm_script.specs.declared.fault.LineFault.TheVariants.{Bad, NoMemory}
use Rattle.cnvm_script.specs.declared.fault.ScriptFault.{ScriptFault}
use Rattle.cnvm_script.specs.declared.fault.ScriptFault.TheVariants as script

abbrev pub Gives : {A : Type 0} → Result A LineFault → Option A → Type 0
Gives (Ok x) means = means ≡ Some x
Gives (Err Bad) means = means ≡ None
Gives (Err NoMemory) means = ⊤

abbrev pub GivesScript : Result (List Command) ScriptFault → Result (List Command) ℕ → Type 0
GivesScript (Ok commands) means = means ≡ Ok commands
GivesScript (Err (script.BadLine line)) means = means ≡ Err line
GivesScript (Err script.NoMemory) means = ⊤
