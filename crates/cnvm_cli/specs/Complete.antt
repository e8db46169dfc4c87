-- Completeness: if the texts and the image are accepted, no status says that one of them is
-- refused.
use Rattle.std.specs.Prelude.{ℕ, ◌-◌, ◌^◌, ◌<◌, List, length, Bool, true, Option, Some, None}
use Rattle.std.specs.Prelude.{is_some, ◌≡◌, ⊤}
use Rattle.std.specs.List.{All}
use Rattle.pool_layout.specs.Fault.{Accepts}
use Rattle.cnvm_script.specs.declared.read.TheConstants.{SCRIPT_BYTES}
use Rattle.cnvm_script.specs.Commands.{script_meaning}
use Rattle.cnvm_script.specs.Lines.{lines}
use Rattle.workers_script.specs.WorkersGrammar.{workers_script_meaning}
use Rattle.cnvm_compile.specs.declared.compiling.Compiled.{Compiled}
use Rattle.cnvm_compile.specs.Compilation.{IsCompiled}
use Rattle.cnvm_words.specs.declared.plan.Plan.{Plan}
use Rattle.cnvm_words.specs.declared.plan.Plan.TheVariants as plan
use Rattle.cnvm_compile.specs.declared.asked.Asked.{Asked}
use Rattle.session_run.specs.declared.status.Status.{Status}
use Rattle.session_run.specs.declared.status.Status.TheVariants as status
use Rattle.cnvm_cli.specs.Listed.{listing_sizes}
use Rattle.cnvm_cli.specs.Opened.{read_part}
use Rattle.cnvm_cli.specs.Verdict.{asked_by, IsAccepted, Grammar, SpellsIn}
use Rattle.cnvm_cli.specs.World.{Sources}
use Rattle.cnvm_session.specs.Pool.{wanted_of}

-- the source shows a program's text whose tokens spell a tree that breaks no rule
abbrev pub HasProgram : Asked → Option (List ℕ) → Type 0
HasProgram asked None = ⊥
HasProgram asked (Some text) = IsAccepted asked text

-- the source shows a script of this grammar
abbrev pub HasScript : {C : Type 0} → Grammar C → Option (List ℕ) → Type 0
HasScript means None = ⊥
HasScript {C} means (Some text) = (commands : List C) × SpellsIn means commands text

-- the source shows lines, each shorter than a script may be, and not more than can be counted
abbrev pub HasLines : Option (List ℕ) → Type 0
HasLines None = ⊥
HasLines (Some text) =
    All (λ (line : List ℕ). length line < SCRIPT_BYTES) (lines text)
    × (length (lines text) < 2 ^ 64 - 1)

-- the source shows an image that each program of this text accepts
abbrev pub HasImage : Asked → (program image : Option (List ℕ)) → Type 0
HasImage asked None image = ⊥
HasImage asked (Some text) None = ⊥
HasImage asked (Some text) (Some bytes) =
    (compiled : Compiled) → IsCompiled asked text compiled →
    Accepts (wanted_of compiled.program) (read_part compiled.program bytes)

abbrev pub IsRunServed : Asked → Sources → (opens : Bool) → Type 0
IsRunServed asked told opens =
    HasProgram asked told.program × HasScript script_meaning told.script
    × (opens ≡ true → HasImage asked told.program told.image)

-- Everything that the plan reads is there and is accepted. When a pool's file is refused is said by
-- a clause of its own.
abbrev pub IsPlanServed : Plan → Sources → Type 0
IsPlanServed (plan.Run p s slots records ticks from save strict) told =
    IsRunServed (asked_by slots records ticks) told (is_some from)
IsPlanServed (plan.RunPool p s slots records ticks pool former strict) told = ⊥
IsPlanServed (plan.Serve p slots records ticks) told =
    HasProgram (asked_by slots records ticks) told.program × HasLines told.script
IsPlanServed (plan.ServePool p slots records ticks pool former) told = ⊥
IsPlanServed (plan.List p) told = HasProgram listing_sizes told.program
IsPlanServed (plan.Storm p start count reach plain slots records ticks) told =
    HasProgram (asked_by slots records ticks) told.program
IsPlanServed (plan.Why p) told = HasProgram listing_sizes told.program
IsPlanServed (plan.Workers p s workers slots records ticks) told =
    HasProgram (asked_by slots records ticks) told.program
    × HasScript workers_script_meaning told.script
IsPlanServed (plan.WorkersPool p s workers slots records ticks pool) told = ⊥
IsPlanServed (plan.Emit p prefix header slots records ticks) told =
    HasProgram (asked_by slots records ticks) told.program
IsPlanServed (plan.Code p) told = HasProgram listing_sizes told.program

-- the words ask for something, and all that they ask for is served
abbrev pub IsServed : Option Plan → Sources → Type 0
IsServed None told = ⊥
IsServed (Some asked) told = IsPlanServed asked told

-- the words, the program, the script, the image or the pool's file were refused
abbrev pub IsRefusalStatus : Status → Type 0
IsRefusalStatus status.Usage = ⊤
IsRefusalStatus status.Program = ⊤
IsRefusalStatus status.Script = ⊤
IsRefusalStatus status.Image = ⊤
IsRefusalStatus status.PoolBusy = ⊤
IsRefusalStatus _ = ⊥
