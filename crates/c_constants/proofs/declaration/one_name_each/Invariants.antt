-- The tokens that are left lead to the whole answer.
use Rattle.c_constants.proofs.OneEach.{LeadsOn}
use Rattle.c_constants.proofs.declaration.one_name_each.Given as goal

abbrev pub invariant-loop-place : goal.invariant-loop-place
invariant-loop-place l = LeadsOn l.tokens l.out l.stand l.place
