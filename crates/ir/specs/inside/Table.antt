-- What only bodies and proofs need beside `Table`.
use Rattle.std.specs.Prelude.{◌≡◌, ◌==◌, ◌&&◌, ◌||◌, Bool, false, if◌then◌else◌}
use mathlib.Core.Logic.{◌⊎◌}
use Rattle.ir.specs.declared.fact.Origins.{Origins}
use Rattle.ir.specs.declared.fact.Origins.TheVariants.{Nowhere, One, Two}
use Rattle.ir.specs.Walk.{Kept}
use Rattle.ir.specs.Table.{holds}

abbrev pub holds_any : Kept → Origins → Bool
holds_any k Nowhere = false
holds_any k (One a) = holds k a
holds_any k (Two a b) = holds k a || holds k b
