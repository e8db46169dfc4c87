use Rattle.std.proofs.Common.{◌≡◌, ◌+◌, ◌*◌, ℕ, ap, ◌∙◌, subst}
use Rattle.pool_layout.specs.Sizes.{pool_lines}
use Rattle.pool_layout.specs.Taken.{ReadOnto}
use Rattle.cnvm_session.specs.Pool.{sizes_of}
use Rattle.cnvm_cli.proofs.texts.Sources.{image_taken}
use Rattle.cnvm_cli.proofs.reading.read_words.Goals as goal

pub returns-in-Ok-clause-told : goal.returns-in-Ok-clause-told
returns-in-Ok-clause-told g c =
    let p = c.args.program.now in
    let left = g.I.Source.left c.args.source.now in
    let lines : c.pool_lines.result ≡ pool_lines (sizes_of p) =
    c.pool_lines.ensures ∙ ap pool_lines c.sizes.ensures in
    image_taken p left c.words_of.result c.new-image.result c.read_onto.new.image
    c.new-image.ensures
    (subst (λ (n : ℕ). ReadOnto left n c.new-image.result c.read_onto.new.image)
    (ap (λ (n : ℕ). 64 * n + 1) lines) c.in-Ok.ensures.read)
    c.words_of.ensures.are
