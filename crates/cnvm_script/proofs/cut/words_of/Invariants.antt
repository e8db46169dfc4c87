use Rattle.std.proofs.Common.{◌≡◌, ◌++◌, map, length}
use Rattle.cnvm_script.specs.Lines.{words_of_line}
use Rattle.cnvm_script.proofs.cut.words_of.Given as goal

abbrev pub invariant-pieces : goal.invariant-pieces
invariant-pieces l = map (λ word. word.now) l.all.items ++ words_of_line l.rest
    ≡ words_of_line l.line

abbrev pub decreases-pieces : goal.decreases-pieces
decreases-pieces l = length l.rest
