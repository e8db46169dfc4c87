use Rattle.std.proofs.Common.{◌≡◌, ◌+◌, drop}
use Rattle.c_parser.specs.inside.Stacks.{weight}
use Rattle.c_parser.proofs.want.weighs_over.Given as goal

-- the rest of the limit decides about the remaining wants
abbrev pub invariant-loop-want : goal.invariant-loop-want
invariant-loop-want l = l.left + weight l.all ≡ 64 + weight (drop l.want-index l.all)
