use Rattle.std.proofs.Common.{◌≡◌, ◌++◌, drop, map, option_map}
use Rattle.cnvm_script.specs.Commands.{each}
use Rattle.cnvm_script.specs.Number.{argument}
use Rattle.cnvm_script.proofs.read.read_args.Given as goal

abbrev pub invariant-loop-word : goal.invariant-loop-word
invariant-loop-word l =
    option_map (λ vs. l.args ++ vs) (each argument (map (λ w. w.now) (drop l.word-index l.words)))
    ≡ each argument (map (λ w. w.now) l.words)
