use Rattle.clobber_pass.specs.inside.Classes.{KeepsStored}
use Rattle.clobber_pass.proofs.Topical.{Below}
use Rattle.clobber_pass.proofs.classes.add_code.Given as goal

abbrev pub invariant-loop-place : goal.invariant-loop-place
invariant-loop-place l = KeepsStored l.initial.stored l.stored × Below l.stored l.code l.place
