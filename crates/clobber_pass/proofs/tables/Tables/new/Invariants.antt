use Rattle.std.proofs.Common.{◌≡◌, ◌++◌, drop}
use Rattle.clobber_pass.specs.inside.Closed.{no_exits}
use Rattle.clobber_pass.proofs.tables.Tables.new.Given as goal

abbrev pub invariant-loop-body : goal.invariant-loop-body
invariant-loop-body l = l.tables ++ no_exits (drop l.body-index l.functions) ≡ no_exits l.functions
