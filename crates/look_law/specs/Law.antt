-- The laws of code that only looks.
use Rattle.std.specs.Prelude.{◌≡◌, ◌<◌, ◌-◌, ◌^◌, ℕ, ℤ, Bool, true, List, length, Some, slice_get}
use Rattle.cache_model.specs.Cache.{Words}
use Rattle.pool_layout.specs.declared.limits.Sizes.{Sizes}
use Rattle.c_tree.specs.Program.{Program, tree_of}
use Rattle.c_types.specs.Tables.{tables_of}
use Rattle.c_types.specs.Looking.{next_known}
use Rattle.ir.specs.declared.function.Ir.{Ir}
use Rattle.lower.specs.Program.{lowered}
use Rattle.clobber_pass.specs.declared.marking.MarkTable.{MarkTable}
use Rattle.instrument.specs.Insert.{logged_program}
use Rattle.codegen.specs.Emit.{functions_of}
use Rattle.pm_machine.specs.declared.effect.Effect.{Effect}
use Rattle.pm_machine.specs.declared.effect.End.{End}
use Rattle.pm_machine.specs.declared.image.Image.{Image}
use Rattle.pm_machine.specs.declared.op.TxEntry.{TxEntry}
use Rattle.pm_machine.specs.Looking.{AreLooks}
use Rattle.pm_machine.specs.Machine.{State, Finished, run, mrun}
use Rattle.look_law.specs.MachineCode.{AreLooking, IsLooking}
use Rattle.look_law.specs.Code.{FunctionsLook, looking_by}

-- A run of code that only looks has the effects of a look alone, from every heap.
abbrev pub RunLaw : Type 0
RunLaw = (image : Image) (looking : ℕ → Bool) (k : ℕ) (s : State) (heap : Words) (end : End)
    (es : List Effect) → AreLooking image looking → IsLooking looking s
    → run image k s heap ≡ Finished end es → AreLooks es

-- The machine's code of intermediate code that only looks does so too.
abbrev pub EmitsLaw : Type 0
EmitsLaw = (image : Image) (s : Sizes) (program : Ir) (looking : ℕ → Bool)
    → image.parts.functions ≡ functions_of s program → FunctionsLook program.functions looking
    → AreLooking image looking

-- Code that only looks gets no logs.
abbrev pub InsertsLaw : Type 0
InsertsLaw = (marks : MarkTable) (program : Ir) (looking : ℕ → Bool)
    → FunctionsLook program.functions looking
    → FunctionsLook (logged_program marks program).functions looking

-- The code of functions that don't store only looks. A list says of each function whether it
-- stores, and a round finds nothing more.
abbrev pub LowersLaw : Type 0
LowersLaw = (tree : Program) (known : List Bool)
    → next_known (tables_of (tree_of tree)) known ≡ known
    → length (tables_of (tree_of tree)).functions < 2 ^ 32
    → FunctionsLook (lowered tree).functions (looking_by known)

-- So each run of a compiled transaction that doesn't store has the effects of a look alone.
abbrev pub LookingLaw : Type 0
LookingLaw =
    (image : Image) (s : Sizes) (tree : Program) (marks : MarkTable) (known : List Bool) (k : ℕ)
    (heap : Words) (tx : ℕ) (entry : TxEntry) (args : List ℤ) (end : End) (es : List Effect) →
    image.parts.functions ≡ functions_of s (logged_program marks (lowered tree))
    → next_known (tables_of (tree_of tree)) known ≡ known
    → length (tables_of (tree_of tree)).functions < 2 ^ 32
    → slice_get image.parts.txs (tx - 1) ≡ Some entry → looking_by known entry.function ≡ true
    → mrun image k heap tx args ≡ Finished end es → AreLooks es
