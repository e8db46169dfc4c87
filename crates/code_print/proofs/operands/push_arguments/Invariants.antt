use Rattle.std.proofs.Common.{◌++◌, ◌≡◌, drop}
use Rattle.code_print.specs.CodeText.{arguments_text}
use Rattle.code_print.proofs.operands.push_arguments.Given as goal

abbrev pub invariant-loop-argument : goal.invariant-loop-argument
invariant-loop-argument l =
    l.text ++ arguments_text (drop l.argument-index l.arguments)
    ≡ l.initial.text ++ arguments_text l.arguments
