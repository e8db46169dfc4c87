-- A compiled transaction that doesn't store.
use Rattle.std.proofs.Common.{◌≡◌, ◌<◌, ◌-◌, ◌^◌, ℕ, ℤ, Bool, true, List, length, Some, slice_get}
use Rattle.std.proofs.Common.{Option, refl, ap, ◌∙◌}
use Rattle.cache_model.specs.Cache.{Words}
use Rattle.pool_layout.specs.declared.limits.Sizes.{Sizes}
use Rattle.c_tree.specs.Program.{Program, tree_of}
use Rattle.c_types.specs.Tables.{tables_of}
use Rattle.c_types.specs.Looking.{next_known}
use Rattle.lower.specs.Program.{lowered}
use Rattle.clobber_pass.specs.declared.marking.MarkTable.{MarkTable}
use Rattle.instrument.specs.Insert.{logged_program}
use Rattle.codegen.specs.Emit.{functions_of}
use Rattle.pm_machine.specs.declared.effect.Effect.{Effect}
use Rattle.pm_machine.specs.declared.effect.End.{End}
use Rattle.pm_machine.specs.declared.image.Image.{Image}
use Rattle.pm_machine.specs.declared.op.TxEntry.{TxEntry}
use Rattle.pm_machine.specs.Looking.{AreLooks}
use Rattle.pm_machine.specs.Machine.{Finished, start, mrun}
use Rattle.pm_machine.specs.Transactions.{entry_function}
use Rattle.look_law.specs.Code.{looking_by}
use Rattle.look_law.proofs.Runs.{looking_run}
use Rattle.look_law.proofs.Emitted.{emits}
use Rattle.look_law.proofs.Inserted.{inserts}
use Rattle.look_law.proofs.Lowered.{lowers}

pub compiled_looks :
    (image : Image) (s : Sizes) (tree : Program) (marks : MarkTable) (known : List Bool) (k : ℕ)
    (heap : Words) (tx : ℕ) (entry : TxEntry) (args : List ℤ) (end : End) (es : List Effect) →
    image.parts.functions ≡ functions_of s (logged_program marks (lowered tree))
    → next_known (tables_of (tree_of tree)) known ≡ known
    → length (tables_of (tree_of tree)).functions < 2 ^ 32
    → slice_get image.parts.txs (tx - 1) ≡ Some entry → looking_by known entry.function ≡ true
    → mrun image k heap tx args ≡ Finished end es → AreLooks es
compiled_looks image s tree marks known k heap tx entry args end es made same short found is ran =
    looking_run (looking_by known) image k (start image tx args) heap end es
    (emits image s (logged_program marks (lowered tree)) (looking_by known) made
    (inserts marks (lowered tree) (looking_by known) (lowers tree known same short)))
    (record {
      top = ap (λ (o : Option TxEntry). looking_by known (entry_function o)) found ∙ is;
      below = tt;
      clean = refl;
    }) ran
