-- Emitted code is tidy, and that of a transaction has no RET; so its run flushes and fences only at
-- its end.
use Rattle.std.specs.Prelude.{ℕ, ◌-◌, ◌≡◌, List, [], Some, slice_get, ℤ}
use Rattle.cache_model.specs.Cache.{Words}
use Rattle.pool_layout.specs.declared.limits.Sizes.{Sizes}
use Rattle.ir.specs.declared.function.Ir.{Ir}
use Rattle.pm_machine.specs.declared.effect.Effect.{Effect}
use Rattle.pm_machine.specs.declared.effect.End.{End}
use Rattle.pm_machine.specs.declared.image.Image.{Image}
use Rattle.pm_machine.specs.declared.op.TxEntry.{TxEntry}
use Rattle.pm_machine.specs.Machine.{Finished, mrun}
use Rattle.codegen.specs.Emit.{functions_of, txs_from}
use Rattle.run_law.specs.Sound.{IsPairedRun, IsTidyEnd}
use Rattle.machine_law.specs.emitted.Tidy.{IsTidyCode}

-- the emitted code of any intermediate code is tidy
abbrev pub EmitsTidy : Type 0
EmitsTidy = (s : Sizes) (program : Ir) (f : ℕ) → IsTidyCode (slice_get (functions_of s program) f)

-- an image with the emitted code of a program and its transactions
pub record HasCode (image : Image) (s : Sizes) (program : Ir) : Type 0 where
  pub functions : image.parts.functions ≡ functions_of s program
  pub txs : image.parts.txs ≡ txs_from 0 program.functions

-- Each run of a transaction of emitted code, from any heap: each LOG is followed by its STORE; if
-- it halts, it flushes each stored line once, in the order of first stores, after its last store,
-- and then fences and halts; if it traps, it does neither.
abbrev pub SoundRunLaw : Type 0
SoundRunLaw = (image : Image) (s : Sizes) (program : Ir) (k : ℕ) (heap : Words) (tx : ℕ)
    (entry : TxEntry) (args : List ℤ) (end : End) (es : List Effect) →
    HasCode image s program → slice_get image.parts.txs (tx - 1) ≡ Some entry
    → mrun image k heap tx args ≡ Finished end es → IsPairedRun es × IsTidyEnd [] end es
