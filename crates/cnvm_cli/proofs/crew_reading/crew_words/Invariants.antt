use Rattle.cnvm_cli.proofs.CrewWords.{SoFar}
use Rattle.cnvm_cli.proofs.crew_reading.crew_words.Given as goal

abbrev pub invariant-loop-worker : goal.invariant-loop-worker
invariant-loop-worker l = SoFar l.program l.count l.bytes l.worker l.words
