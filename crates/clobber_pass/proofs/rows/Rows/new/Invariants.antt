use Rattle.std.proofs.Common.{◌≡◌, ◌++◌, [], ◌-◌, replicate}
use Rattle.clobber_pass.proofs.rows.Rows.new.Given as goal

abbrev pub invariant-loop : goal.invariant-loop
invariant-loop l = l.rows ++ replicate (l.count - l.counter) [] ≡ replicate l.count []
