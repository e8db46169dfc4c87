use Rattle.std.proofs.Common.{◌≡◌, drop}
use Rattle.cache_model.specs.Collapse.{picked}
use Rattle.pmem.proofs.sparse_lines.pick_of.Given as goal

abbrev pub invariant-loop-pick : goal.invariant-loop-pick
invariant-loop-pick l = picked (drop l.pick-index l.picks) l.line ≡ picked l.picks l.line
