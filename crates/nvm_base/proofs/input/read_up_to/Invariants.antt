-- The bytes taken so far are a first part of the source's, no longer than the bound.
use Rattle.std.proofs.Common.{◌-◌, ◌≤◌, length}
use Rattle.std.specs.Io.KnownBytes.{Consumes}
use Rattle.nvm_base.proofs.input.read_up_to.Given as goal

abbrev pub invariant-loop-piece : goal.invariant-loop-piece
invariant-loop-piece g l = record {
  given : Consumes (g.S.Source.left l.fn.source) (g.S.Source.left l.source) l.taken;
  within : length l.taken ≤ l.most;
  count : g.S.Source.faults l.fn.source ≤ g.S.Source.faults l.source;
}

abbrev pub decreases-loop-piece : goal.decreases-loop-piece
decreases-loop-piece g l = l.most - length l.taken
