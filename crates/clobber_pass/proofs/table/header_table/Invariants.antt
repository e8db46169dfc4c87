use Rattle.std.proofs.Common.{◌≡◌, ◌++◌, drop}
use Rattle.clobber_pass.specs.inside.Marking.{headers_of}
use Rattle.clobber_pass.proofs.table.header_table.Given as goal

abbrev pub invariant-loop-body : goal.invariant-loop-body
invariant-loop-body l = l.table ++ headers_of (drop l.body-index l.functions)
    ≡ headers_of l.functions
