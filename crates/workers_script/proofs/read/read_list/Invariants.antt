use Rattle.std.proofs.Common.{◌≡◌, ◌++◌, drop, map, option_map}
use Rattle.cnvm_script.specs.Commands.{each}
use Rattle.workers_script.specs.WorkersGrammar.{worker_number}
use Rattle.workers_script.proofs.read.read_list.Given as goal

abbrev pub invariant-loop-word : goal.invariant-loop-word
invariant-loop-word l =
    option_map (λ ws. l.workers ++ ws)
    (each worker_number (map (λ w. w.now) (drop l.word-index l.words)))
    ≡ each worker_number (map (λ w. w.now) l.words)
