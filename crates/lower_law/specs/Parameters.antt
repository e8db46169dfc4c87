-- The lowered code never assigns parameters: a parameter that a function assigns is copied at its
-- entry into a register of its own, which every use of its name means. If a name were declared
-- twice in one scope, its uses would mean the first, so the rules are needed.
use Rattle.std.specs.Prelude.{◌≡◌, []}
use Rattle.c_tree.specs.Program.{Program}
use Rattle.c_types.specs.Fault.{breaks}
use Rattle.lower.specs.Program.{lowered}
use Rattle.code_meaning.specs.Parameters.{KeepsParameters}

abbrev pub ParametersLaw : Type 0
ParametersLaw = (tree : Program) → breaks tree ≡ [] → KeepsParameters (lowered tree).functions
