use Rattle.clobber_pass.proofs.Topical.{BelowAll}
use Rattle.clobber_pass.proofs.classes.stored_classes.Given as goal

abbrev pub invariant-loop-function : goal.invariant-loop-function
invariant-loop-function l = BelowAll l.stored l.functions l.function
