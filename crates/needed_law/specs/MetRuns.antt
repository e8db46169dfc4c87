-- The premises of the laws of runs and of cut calls and recoveries are met by `inc 5` as code of
-- the machine: the counter is loaded, the argument added, and the sum stored after its LOG.
use Rattle.std.specs.Prelude.{ℕ, List, [], ◌∷◌, ℤ, pos, refl}
use Rattle.cache_model.specs.Cache.{Words, Cache}
use Rattle.cache_model.specs.Image.{HasOne}
use Rattle.nvm_base.specs.declared.op.BinOp.TheVariants.{Add}
use Rattle.pm_machine.specs.declared.effect.Effect.{Effect}
use Rattle.pm_machine.specs.declared.effect.Effect.TheVariants.{Loads, Stores, Logs, Flushes}
use Rattle.pm_machine.specs.declared.effect.Effect.TheVariants.{Fences, Quiet}
use Rattle.pm_machine.specs.declared.effect.End.{End}
use Rattle.pm_machine.specs.declared.effect.End.TheVariants.{Halted}
use Rattle.pm_machine.specs.declared.records.Policy.TheVariants.{EndPool}
use Rattle.pm_machine.specs.declared.image.Image.{Image}
use Rattle.pm_machine.specs.declared.op.Op.{Op}
use Rattle.pm_machine.specs.declared.op.Op.TheVariants.{Const, Load, Bin, Log, Store, Flush, Fence}
use Rattle.pm_machine.specs.declared.op.Op.TheVariants.{Halt}
use Rattle.pm_machine.specs.Runs.{heap_in}
use Rattle.crash_law.specs.Law.{IsAtRest, collapsed}
use Rattle.run_law.specs.Sound.{IsSoundRun}
use Rattle.cut_law.specs.Law.{RunsSound, BeginsOn, OwesInImage, RestsInImage}
use Rattle.cut_law.specs.Law.{IsRecoveredTo}
use Rattle.needed_law.specs.SmallPool.{small_sizes, after_inc, owed_once, retired_once}

-- register 0 is the argument
abbrev pub inc_code : List Op
inc_code = Const 1 (pos 0) ∷ Load 2 1 (pos 0) ∷ Bin Add 2 2 0 ∷ Log 1 (pos 0) ∷ Store 1 (pos 0) 2
    ∷ Flush ∷ Fence ∷ Halt 2 ∷ []

abbrev pub inc_image : Image
inc_image = record {
  parts = record {
    functions = record { parameters = 1; registers = 3; code = inc_code } ∷ [];
    sizes = small_sizes;
    txs = record { function = 0; parameters = 1 } ∷ [];
    structs = 0;
    most = 10;
  };
  largest = 3;
  heap_start = 64;
  heap_words = 24;
  good = refl;
  most = refl;
  start = refl;
  words = refl;
}

-- from a heap whose counter is 3
abbrev pub inc_effects : List Effect
inc_effects = Quiet ∷ Loads 0 ∷ Quiet ∷ Logs 0 ∷ Quiet ∷ Stores 0 (pos 8) ∷ Flushes 0 ∷ Quiet
    ∷ Fences ∷ []

-- what the laws of a cut call ask
pub record MeetsCutCall (image : Image) (super : Words) (tx : ℕ) (args : List ℤ) (d : ℕ)
    (c : Cache) (one : Words) (end : End) (es : List Effect) : Type 0 where
  pub begins : BeginsOn image super tx d c one
  pub runs : RunsSound EndPool image tx args (heap_in image.parts.sizes c) end es
  pub rest : IsAtRest c

-- and those of a cut recovery, from the heap h and the last value before the call
pub record MeetsCutRedo (image : Image) (super : Words) (tx : ℕ) (args : List ℤ) (d : ℕ)
    (h : Words) (last : ℤ) (c : Cache) (one : Words) (n : ℕ) (end : End) (es : List Effect) :
    Type 0 where
  pub only : HasOne c one
  pub owes : OwesInImage EndPool image super tx args d h last end es n one
  pub runs : RunsSound EndPool image tx args h end es

-- and those of a recovery that owes nothing
pub record MeetsCutClean (image : Image) (super : Words) (d : ℕ) (h : Words) (c : Cache)
    (one : Words) (n : ℕ) : Type 0 where
  pub only : HasOne c one
  pub rests : RestsInImage image super d h n one

pub record RunsMetLaw : Type 0 where
  pub sound : IsSoundRun EndPool (Halted (pos 8)) inc_effects
  pub call : MeetsCutCall inc_image after_inc 1 (pos 5 ∷ []) 1 (collapsed after_inc) after_inc
      (Halted (pos 8)) inc_effects
  pub redo : MeetsCutRedo inc_image owed_once 1 (pos 5 ∷ []) 1
      (heap_in small_sizes (collapsed after_inc)) (pos 3) (collapsed owed_once) owed_once 1
      (Halted (pos 8)) inc_effects
  pub again : IsRecoveredTo EndPool inc_image owed_once 1 (pos 5 ∷ []) 1
      (heap_in small_sizes (collapsed after_inc)) (pos 3) (Halted (pos 8)) inc_effects owed_once
      owed_once
  pub clean : MeetsCutClean inc_image retired_once 2
      (heap_in small_sizes (collapsed retired_once)) (collapsed retired_once) retired_once 1
