use Rattle.std.proofs.Common.{◌≡◌, drop}
use Rattle.std.specs.List.{list_all}
use Rattle.codegen.specs.Names.{is_below}
use Rattle.codegen.proofs.names.all_below.Given as goal

abbrev pub invariant-loop-instruction : goal.invariant-loop-instruction
invariant-loop-instruction l = list_all (is_below l.count) (drop l.instruction-index l.code)
    ≡ list_all (is_below l.count) l.code
