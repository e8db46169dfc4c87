use Rattle.std.proofs.Common.{◌≡◌, ◌++◌, map, drop}
use Rattle.pm_alloc.specs.Placing.{placed}
use Rattle.pm_alloc.proofs.placing.push_placed.Given as goal

abbrev pub invariant-loop-local : goal.invariant-loop-local
invariant-loop-local l = l.code ++ map (placed l.base l.place) (drop l.local-index l.piece)
    ≡ l.initial.code ++ map (placed l.base l.place) l.piece
