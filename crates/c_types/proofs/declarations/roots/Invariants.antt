use Rattle.std.proofs.Common.{◌≡◌, map, drop}
use Rattle.c_types.specs.Broken.{least_from}
use Rattle.c_types.specs.Declarations.{roots_broken}
use Rattle.c_types.specs.Views.{tables_in, root_of}
use Rattle.c_types.proofs.declarations.roots.Given as goal

abbrev pub invariant-loop-root : goal.invariant-loop-root
invariant-loop-root l = record {
  at_index : l.at ≡ l.root-index;
  told_so : least_from l.least (roots_broken (tables_in l.program) l.at
      (map (λ r. root_of r.now) (drop l.root-index l.roots))) ≡ least_from l.initial.least
      (roots_broken (tables_in l.program) 0 (map (λ r. root_of r.now) l.roots));
}
