use Rattle.std.proofs.Common.{◌++◌, ◌≡◌, drop}
use Rattle.code_print.specs.CodeText.{printed_from}
use Rattle.code_print.proofs.functions.push_code.Given as goal

abbrev pub invariant-loop-place : goal.invariant-loop-place
invariant-loop-place l =
    l.text ++ printed_from l.ast l.ir l.marks l.spots l.function l.place (drop l.place l.code)
    ≡ l.initial.text ++ printed_from l.ast l.ir l.marks l.spots l.function 0 l.code
