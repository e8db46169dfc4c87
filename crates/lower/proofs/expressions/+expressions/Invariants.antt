use Rattle.std.proofs.Common.{◌≡◌, ◌++◌, length, drop}
use Rattle.c_tree.specs.ExprTree.{arguments_in}
use Rattle.lower.specs.Lowers.{arguments_end, arguments_code, registers_of}
use Rattle.lower.specs.inside.Added.{context_of}
use Rattle.lower.proofs.expressions.+expressions.Given as goal

abbrev pub invariant-add_arguments-loop-argument : goal.invariant-add_arguments-loop-argument
invariant-add_arguments-loop-argument l = record {
  code : l.code ++ arguments_code (context_of l.source) l.variables
      (arguments_in (drop l.argument-index l.arguments)) (length l.code) ≡ l.initial.code
      ++ arguments_code (context_of l.source) l.variables (arguments_in l.arguments)
      (length l.initial.code);
  long : arguments_end (arguments_in (drop l.argument-index l.arguments)) (length l.code)
      ≡ arguments_end (arguments_in l.arguments) (length l.initial.code);
  registers : l.registers ++ registers_of (context_of l.source) l.variables
      (arguments_in (drop l.argument-index l.arguments)) (length l.code)
      ≡ registers_of (context_of l.source) l.variables (arguments_in l.arguments)
      (length l.initial.code);
}
