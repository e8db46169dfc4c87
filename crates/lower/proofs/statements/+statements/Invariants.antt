use Rattle.std.proofs.Common.{◌≡◌, ◌++◌, length, drop}
use Rattle.c_tree.specs.StmtTree.{statements_in}
use Rattle.lower.specs.inside.Holes.{leave}
use Rattle.lower.specs.Lowers.{statements_end, statements_code}
use Rattle.lower.specs.inside.Lowers.{variables_after_all}
use Rattle.lower.specs.inside.Added.{context_of}
use Rattle.lower.proofs.statements.+statements.Given as goal

abbrev pub invariant-add_statements-loop-stmt : goal.invariant-add_statements-loop-stmt
invariant-add_statements-loop-stmt l = record {
  code : l.code ++ statements_code (context_of l.source) l.variables
      (statements_in (drop l.stmt-index l.all)) leave l.again (length l.code) ≡ l.initial.code
      ++ statements_code (context_of l.source) l.initial.variables (statements_in l.all)
      leave l.again
      (length l.initial.code);
  long : statements_end (statements_in (drop l.stmt-index l.all)) (length l.code)
      ≡ statements_end (statements_in l.all) (length l.initial.code);
  seen : variables_after_all (context_of l.source) (statements_in (drop l.stmt-index l.all))
      (length l.code) l.variables ≡ variables_after_all (context_of l.source) (statements_in l.all)
      (length l.initial.code) l.initial.variables;
}
