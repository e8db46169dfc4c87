-- The stops that are left give the answer of all.
use Rattle.std.proofs.Common.{◌≡◌, drop}
use Rattle.cnvm_script.specs.Pieces.{is_one_of}
use Rattle.cnvm_script.proofs.cut.is_one_of.Given as goal

abbrev pub invariant-loop-stop : goal.invariant-loop-stop
invariant-loop-stop l = is_one_of (drop l.stop-index l.stops) l.byte ≡ is_one_of l.stops l.byte
