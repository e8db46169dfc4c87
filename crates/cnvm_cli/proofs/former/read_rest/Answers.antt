use Rattle.std.proofs.Common.{◌≡◌, ◌+◌, ◌-◌, ◌*◌, ◌++◌, ℕ, List, ap, ◌∙◌, subst}
use Rattle.pool_layout.specs.Sizes.{pool_lines}
use Rattle.pool_layout.specs.Taken.{ReadOnto}
use Rattle.cnvm_session.specs.Pool.{sizes_of}
use Rattle.cnvm_cli.proofs.Owning.{rest_taken}
use Rattle.cnvm_cli.proofs.former.read_rest.Goals as goal

pub returns-in-Ok-clause-told : goal.returns-in-Ok-clause-told
returns-in-Ok-clause-told g c =
    let p = c.args.program.now in
    let left = g.I.Source.left c.args.image.now in
    let lines : c.pool_lines.result ≡ pool_lines (sizes_of p) =
    c.pool_lines.ensures ∙ ap pool_lines c.sizes.ensures in
    rest_taken p c.args.head left c.words_of.result c.new-bytes.result c.extend.new.self
    c.read_onto.new.image c.new-bytes.ensures
    (c.in_default.ensures ∙ ap (λ (l : List ℕ). c.new-bytes.result ++ l) c.as_slice.ensures)
    (subst (λ (n : ℕ). ReadOnto left n c.extend.new.self c.read_onto.new.image)
    (ap (λ (n : ℕ). 64 * n + 1 - 96) lines) c.in-Ok.ensures.read)
    c.words_of.ensures.are
