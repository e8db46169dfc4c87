-- The answer of a transaction that only looks.
use Rattle.std.specs.Prelude.{ℕ, ◌+◌, ◌≡◌, ◌⊎◌, true, false, List, ℤ}
use Rattle.pmem.specs.Device.{Device}
use Rattle.pm_machine.specs.declared.effect.End.{End}
use Rattle.pm_machine.specs.declared.effect.End.TheVariants.{Halted, Trapped}
use Rattle.pm_machine.specs.declared.image.Image.{Image}
use Rattle.pm_machine.specs.Machine.{start}
use Rattle.pm_machine.specs.Looking.{Look, look_of}
use Rattle.pm_machine.specs.Runs.{heap_in}
use Rattle.tx_run.specs.declared.looking.LookAnswer.{LookAnswer}
use Rattle.tx_run.specs.declared.looking.LookAnswer.TheVariants.{Done, Aborted, Off, NoMemory}

abbrev pub look_answer : End → LookAnswer
look_answer (Halted v) = Done v
look_answer (Trapped k) = Aborted k

-- the run of the transaction on the device's heap
abbrev pub look_at : Image → (tx : ℕ) → List ℤ → Device → Look
look_at image tx args d =
    look_of image image.parts.most (start image tx args) (heap_in image.parts.sizes d.cache)

-- A look at device d was answered by r, and the count of steps rose from k to k1. The answer is
-- that of the run; or there was no memory for its frames.
pub record IsLooked (r : LookAnswer) (image : Image) (tx : ℕ) (args : List ℤ) (d : Device)
    (k k1 : ℕ) : Type 0 where
  pub on : d.on ≡ true →
      ((r ≡ look_answer (look_at image tx args d).end)
      × (k1 ≡ k + (look_at image tx args d).steps)) ⊎ ((r ≡ NoMemory) × (k1 ≡ k))
  pub off : d.on ≡ false → (r ≡ Off) × (k1 ≡ k)
