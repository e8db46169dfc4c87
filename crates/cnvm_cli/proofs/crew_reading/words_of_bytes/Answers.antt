use Rattle.std.proofs.Common.{◌++◌, List, ℕ, ap, ◌∙◌, subst}
use Rattle.cnvm_cli.specs.inside.Opened.{ImageIs}
use Rattle.cnvm_cli.proofs.crew_reading.words_of_bytes.Goals as goal

pub returns-in-Ok-clause-are : goal.returns-in-Ok-clause-are
returns-in-Ok-clause-are c =
    subst (ImageIs c.args.program.now c.words_of.result)
    (c.in-Ok.ensures ∙ ap (λ (l : List ℕ). l ++ c.args.bytes.now) c.new-image.ensures)
    c.words_of.ensures.are
