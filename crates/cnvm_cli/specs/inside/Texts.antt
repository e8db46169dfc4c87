-- What the readers of the two texts answer.
use Rattle.std.specs.Prelude.{ℕ, List, ◌<◌, ◌≤◌, ◌≡◌, length, Result, Ok, Err, Option, ⊤}
use Rattle.nvm_base.specs.declared.input.ReadAllFault.{ReadAllFault}
use Rattle.nvm_base.specs.declared.input.ReadAllFault.TheVariants as all
use Rattle.cnvm_compile.specs.declared.asked.Asked.{Asked}
use Rattle.cnvm_compile.specs.declared.compiling.Compiled.{Compiled}
use Rattle.cnvm_compile.specs.Compilation.{IsCompiled}
use Rattle.cnvm_script.specs.declared.command.Command.{Command}
use Rattle.cnvm_script.specs.Commands.{script_meaning}
use Rattle.cnvm_cli.specs.declared.refused.Refused.{Refused}
use Rattle.cnvm_cli.specs.declared.run.Job.{Job}
use Rattle.cnvm_cli.specs.Verdict.{OfBytes, ProgramRefuses, Grammar, SpellsIn, ScriptRefuses}
use Rattle.cnvm_cli.specs.Verdict.{TextsGive, TextsRefuse}

-- all bytes of the source; or it has more than the limit
abbrev pub TextIs : ℕ → Result (List ℕ) ReadAllFault → List ℕ → Type 0
TextIs limit (Ok bytes) text = (bytes ≡ text) × (length text ≤ limit)
TextIs limit (Err all.Long) text = limit < length text
TextIs limit (Err _) text = ⊤

-- what the reader of a program answers
abbrev pub ProgramReadAs : Asked → Result Compiled Refused → (program : Option (List ℕ)) → Type 0
ProgramReadAs asked (Ok compiled) program = OfBytes program (λ text. IsCompiled asked text compiled)
ProgramReadAs asked (Err why) program = ProgramRefuses program why

-- what the reader of a script of this grammar answers
abbrev pub ReadIn : {C : Type 0} → Grammar C → Result (List C) Refused
    → (script : Option (List ℕ)) → Type 0
ReadIn means (Ok commands) script = OfBytes script (SpellsIn means commands)
ReadIn means (Err why) script = ScriptRefuses means script why

abbrev pub ScriptReadAs : Result (List Command) Refused → (script : Option (List ℕ)) → Type 0
ScriptReadAs r script = ReadIn script_meaning r script

-- a job is made of what the texts give, or the texts are refused
abbrev pub PreparedAs : Result Job Refused → Asked → (program script : Option (List ℕ)) → Type 0
PreparedAs (Ok job) asked program script = TextsGive asked program script job.compiled job.script
PreparedAs (Err why) asked program script = TextsRefuse asked program script why
