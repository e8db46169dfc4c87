use Rattle.std.proofs.Common.{◌-◌, length}
use Rattle.walk_maker.specs.inside.Jumps.{AreJumpsFrom}
use Rattle.walk_maker.proofs.jumps.jumps_of.Given as goal

abbrev pub invariant-loop-index : goal.invariant-loop-index
invariant-loop-index l = AreJumpsFrom l.code (length l.code - l.index) l.jumps
