use Rattle.std.proofs.Common.{◌≡◌, drop}
use Rattle.c_tree.specs.StmtTree.{statements_in}
use Rattle.c_types.specs.Broken.{least_from}
use Rattle.c_types.specs.Statements.{statements_broken}
use Rattle.c_types.specs.inside.Statements.{scopes_after_all}
use Rattle.c_types.specs.Views.{tables_in}
use Rattle.c_types.proofs.statements.+statements.Given as goal

abbrev pub invariant-statements-loop-stmt : goal.invariant-statements-loop-stmt
invariant-statements-loop-stmt l = record {
  after : scopes_after_all (tables_in l.program) (statements_in (drop l.stmt-index l.all)) l.scopes
      ≡ scopes_after_all (tables_in l.program) (statements_in l.all) l.initial.scopes;
  told_so : least_from l.least (statements_broken (tables_in l.program) l.gives l.scopes
      (statements_in (drop l.stmt-index l.all)))
      ≡ least_from l.initial.least (statements_broken (tables_in l.program) l.gives l.initial.scopes
      (statements_in l.all));
}
