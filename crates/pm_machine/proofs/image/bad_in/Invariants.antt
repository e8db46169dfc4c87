use Rattle.std.proofs.Common.{◌≡◌, drop}
use Rattle.pm_machine.specs.Checked.{bad_from, bad_in}
use Rattle.pm_machine.proofs.image.bad_in.Given as goal

abbrev pub invariant-loop-place : goal.invariant-loop-place
invariant-loop-place l = bad_from l.functions l.function l.place (drop l.place l.function.code)
    ≡ bad_in l.functions l.function
