use Rattle.std.proofs.Common.{◌≡◌, ◌++◌, drop, map, option_map}
use Rattle.cnvm_script.specs.Commands.{each}
use Rattle.cnvm_script.specs.Number.{pick}
use Rattle.cnvm_script.proofs.read.read_picks.Given as goal

abbrev pub invariant-loop-word : goal.invariant-loop-word
invariant-loop-word l =
    option_map (λ ps. l.picks ++ ps) (each pick (map (λ w. w.now) (drop l.word-index l.words)))
    ≡ each pick (map (λ w. w.now) l.words)
