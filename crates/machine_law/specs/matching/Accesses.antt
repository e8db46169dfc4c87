-- The effects of a machine's run on the words of the heap: its loads, its stores and its logs,
-- without its quiet steps, its flushes and its fences.
use Rattle.std.specs.Prelude.{List, [], ◌∷◌}
use Rattle.pm_machine.specs.declared.effect.Effect.{Effect}
use Rattle.pm_machine.specs.declared.effect.Effect.TheVariants.{Loads, Scans, Stores, Logs, Flushes}
use Rattle.pm_machine.specs.declared.effect.Effect.TheVariants.{Fences, Quiet}

abbrev pub accesses : List Effect → List Effect
accesses [] = []
accesses (Loads w ∷ es) = Loads w ∷ accesses es
accesses (Scans w apart many ∷ es) = Scans w apart many ∷ accesses es
accesses (Stores w x ∷ es) = Stores w x ∷ accesses es
accesses (Logs w ∷ es) = Logs w ∷ accesses es
accesses (Flushes l ∷ es) = accesses es
accesses (Fences ∷ es) = accesses es
accesses (Quiet ∷ es) = accesses es
