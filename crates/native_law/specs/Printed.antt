-- The run of the printed functions of a transaction is the machine's run: the runtime does the same
-- to the pool, in the same order, and the run ends alike after as many statements as the machine
-- needs instructions. C gives it a meaning at each step.
use Rattle.std.specs.Prelude.{◌≡◌, ◌<◌, ℕ, ◌-◌, ℤ, List, [], ◌∷◌, length, map}
use Rattle.std.specs.Prelude.{Some, slice_get}
use Rattle.std.specs.List.{AllByRecursion, flat_map}
use Rattle.cache_model.specs.Cache.{Words}
use Rattle.pool_layout.specs.Sizes.{heap_words}
use Rattle.pool_map.specs.Trap.{trap_number}
use Rattle.nvm_base.specs.Operations.{unsigned}
use Rattle.nvm_base.specs.Wrap.{IsWord}
use Rattle.pm_machine.specs.declared.op.Op.TheVariants.{Const, Load, Store, Log, Call, Halt}
use Rattle.pm_machine.specs.declared.op.Function.{Function}
use Rattle.pm_machine.specs.declared.effect.Effect.{Effect}
use Rattle.pm_machine.specs.declared.effect.Effect.TheVariants.{Loads, Scans, Stores, Logs, Flushes}
use Rattle.pm_machine.specs.declared.effect.Effect.TheVariants.{Fences, Quiet}
use Rattle.pm_machine.specs.declared.effect.End.TheVariants as end
use Rattle.pm_machine.specs.declared.image.Image.{Image}
use Rattle.pm_machine.specs.declared.records.Policy.{Policy}
use Rattle.pm_machine.specs.Machine.{Run, Unfinished, Finished, fetch_in}
use Rattle.pm_machine.specs.Logging.{blank, tx_run}
use Rattle.pm_machine.specs.Runs.{owed}
use Rattle.pm_machine.specs.Transactions.{entry_function}
use Rattle.c_fragment.specs.State.{PoolStep, Stored, Recorded, Flushed, Fenced}
use Rattle.c_fragment.specs.Runs.{CRun, GoesOn, Returned, Trapped, c_call}
use Rattle.c_fragment.specs.Events.{c_events}
use Rattle.c_fragment.specs.Translation.{c_function}

-- what the runtime does to the pool in an effect; words are taken modulo 2^64
abbrev pub played_by : Effect → List PoolStep
played_by (Loads w) = []
played_by (Scans w apart m) = []
played_by (Stores w x) = Stored w (unsigned x) ∷ []
played_by (Logs w) = Recorded w ∷ []
played_by (Flushes l) = Flushed l ∷ []
played_by Fences = Fenced ∷ []
played_by Quiet = []

-- the machine's run, in terms of C
abbrev pub run_shown : Run → CRun
run_shown Unfinished = GoesOn
run_shown (Finished (end.Halted v) es) = Returned (unsigned v) (flat_map played_by es)
run_shown (Finished (end.Trapped kind) es) =
    Trapped (trap_number kind) (flat_map played_by es)

-- The constants in the code are words, and no function that is called has a HALT.
pub record IsPrintable (us : List Function) : Type 0 where
  pub const : (f p r : ℕ) (v : ℤ) → fetch_in p (slice_get us f) ≡ Some (Const r v) → IsWord v
  pub load : (f p r a : ℕ) (o : ℤ) → fetch_in p (slice_get us f) ≡ Some (Load r a o) → IsWord o
  pub store : (f p a b : ℕ) (o : ℤ) → fetch_in p (slice_get us f) ≡ Some (Store a o b) → IsWord o
  pub log : (f p a : ℕ) (o : ℤ) → fetch_in p (slice_get us f) ≡ Some (Log a o) → IsWord o
  pub returns : (f p r g : ℕ) (args : List ℕ) → fetch_in p (slice_get us f) ≡ Some (Call r g args)
      → (q a : ℕ) → fetch_in q (slice_get us g) ≡ Some (Halt a) → ⊥

abbrev pub tx_function : Image → ℕ → ℕ
tx_function image tx = entry_function (slice_get image.parts.txs (tx - 1))

-- the run of the printed function of a transaction, of at most k statements
abbrev pub printed_run : Policy → Image → ℕ → Words → ℕ → List ℤ → CRun
printed_run p image k heap tx args =
    c_call p image.parts.sizes (map c_function image.parts.functions) k (tx_function image tx)
    (map unsigned args) (λ w. unsigned (heap w))

-- the transaction has a function with as many parameters, and arguments and heap hold words
pub record CanBegin (image : Image) (heap : Words) (tx : ℕ) (args : List ℤ) : Type 0 where
  pub code : IsPrintable image.parts.functions
  pub function : Function
  pub found : slice_get image.parts.functions (tx_function image tx) ≡ Some function
  pub parameters : function.parameters ≡ length args
  pub arguments : AllByRecursion IsWord args
  pub words : (w : ℕ) → w < heap_words image.parts.sizes → IsWord (heap w)

-- The run is the machine's with its records, by the transaction's policy.
abbrev pub PrintedRunLaw : Type 0
PrintedRunLaw =
    (p : Policy) (image : Image) (k : ℕ) (heap : Words) (tx : ℕ) (args : List ℤ)
    → CanBegin image heap tx args
    → printed_run p image k heap tx args ≡ run_shown (tx_run p image k heap tx args)

-- The events of the device are those that are due of the machine's run.
abbrev pub PrintedEventsLaw : Type 0
PrintedEventsLaw =
    (p : Policy) (image : Image) (a k : ℕ) (heap : Words) (tx : ℕ) (args : List ℤ)
    → CanBegin image heap tx args
    → c_events image.parts.sizes a (λ w. unsigned (heap w)) (printed_run p image k heap tx args)
    ≡ (owed image.parts.sizes a (blank p) heap (tx_run p image k heap tx args)).events
