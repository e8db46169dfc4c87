-- The remaining constants give the result of all of them.
use Rattle.std.proofs.Common.{◌≡◌, drop}
use Rattle.c_constants.specs.Names.{constant_named}
use Rattle.c_constants.proofs.name.constant_named.Given as goal

abbrev pub invariant-loop-constant : goal.invariant-loop-constant
invariant-loop-constant l =
    constant_named (drop l.constant-index l.constants) l.name ≡ constant_named l.constants l.name
