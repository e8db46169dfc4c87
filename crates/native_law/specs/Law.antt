-- The printed functions of a compiled program run as its machine does. Each call of one of its
-- transactions, with as many words as it has parameters and on a heap of words, is meant.
use Rattle.std.specs.Prelude.{◌≡◌, ◌<◌, ℕ, ◌-◌, ℤ, List, length, Some, slice_get}
use Rattle.std.specs.List.{AllByRecursion}
use Rattle.cache_model.specs.Cache.{Words}
use Rattle.pool_layout.specs.Sizes.{heap_words}
use Rattle.nvm_base.specs.Operations.{unsigned}
use Rattle.nvm_base.specs.Wrap.{IsWord}
use Rattle.ir.specs.declared.function.Ir.{Ir}
use Rattle.pm_machine.specs.declared.image.Image.{Image}
use Rattle.pm_machine.specs.declared.op.TxEntry.{TxEntry}
use Rattle.pm_machine.specs.declared.records.Policy.{Policy}
use Rattle.pm_machine.specs.Logging.{blank, tx_run}
use Rattle.machine_law.specs.matching.Compiled.{IsCodeOf}
use Rattle.pm_machine.specs.Runs.{owed}
use Rattle.c_fragment.specs.Events.{c_events}
use Rattle.native_law.specs.Printed.{printed_run, run_shown}

pub record IsCompiledCall (image : Image) (heap : Words) (tx : ℕ) (args : List ℤ) : Type 0 where
  pub program : Ir
  pub code : IsCodeOf image program
  pub entry : TxEntry
  pub found : slice_get image.parts.txs (tx - 1) ≡ Some entry
  pub parameters : entry.parameters ≡ length args
  pub arguments : AllByRecursion IsWord args
  pub words : (w : ℕ) → w < heap_words image.parts.sizes → IsWord (heap w)

-- The run is the machine's with its records, by the transaction's policy.
abbrev pub CompiledRunLaw : Type 0
CompiledRunLaw =
    (p : Policy) (image : Image) (k : ℕ) (heap : Words) (tx : ℕ) (args : List ℤ)
    → IsCompiledCall image heap tx args
    → printed_run p image k heap tx args ≡ run_shown (tx_run p image k heap tx args)

-- The events of the device are those that are due of the machine's run.
abbrev pub CompiledEventsLaw : Type 0
CompiledEventsLaw =
    (p : Policy) (image : Image) (a k : ℕ) (heap : Words) (tx : ℕ) (args : List ℤ)
    → IsCompiledCall image heap tx args
    → c_events image.parts.sizes a (λ w. unsigned (heap w)) (printed_run p image k heap tx args)
    ≡ (owed image.parts.sizes a (blank p) heap (tx_run p image k heap tx args)).events
