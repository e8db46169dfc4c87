-- A run that ended has one end and one list of deeds, whatever number of steps it was allowed.
use Rattle.std.specs.Prelude.{◌≡◌, ◌≤◌, ℕ}
use Rattle.ir.specs.declared.function.Ir.{Ir}
use Rattle.code_meaning.specs.Code.{CodeState, exec, IsOver}
use Rattle.code_meaning.specs.Deeds.{deeds}

abbrev pub EndLaw : Type 0
EndLaw = (ir : Ir) (k m : ℕ) (c : CodeState) → k ≤ m → IsOver (exec ir k c)
    → exec ir m c ≡ exec ir k c

abbrev pub DeedsLaw : Type 0
DeedsLaw = (ir : Ir) (k m : ℕ) (c : CodeState) → k ≤ m → IsOver (exec ir k c)
    → deeds ir m c ≡ deeds ir k c
