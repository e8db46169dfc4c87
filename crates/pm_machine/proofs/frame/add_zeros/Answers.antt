use Rattle.std.proofs.Common.{◌∙◌, ◌++◌, List, ℤ, pos, ap}
use Rattle.std.proofs.lemmas.List.{take-replicate}
use Rattle.pm_machine.proofs.frame.add_zeros.Goals as goal

pub returns-clause-items : goal.returns-clause-items
returns-clause-items c =
    c.append.ensures.items
    ∙ ap (λ (l : List ℤ). c.args.words.now.items ++ l)
    (take-replicate c.args.count 64 (pos 0) c.requires.few)
