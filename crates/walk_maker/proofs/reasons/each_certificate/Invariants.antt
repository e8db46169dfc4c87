use Rattle.std.proofs.Common.{drop}
use Rattle.walk_maker.proofs.Judged.{Reasoned}
use Rattle.walk_maker.proofs.reasons.each_certificate.Given as goal

abbrev pub invariant-loop-index : goal.invariant-loop-index
invariant-loop-index l = Reasoned l.ir l.sites (drop l.index l.sites) l.passed l.reasons
