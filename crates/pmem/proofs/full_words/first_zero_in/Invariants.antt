use Rattle.pmem.specs.inside.Zeros.{AreFull}
use Rattle.pmem.proofs.full_words.first_zero_in.Given as goal

abbrev pub invariant-loop-n : goal.invariant-loop-n
invariant-loop-n l = AreFull l.words l.word l.apart l.n
