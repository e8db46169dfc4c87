use Rattle.std.proofs.Common.{List, ℕ, length, sym, ap, ◌∙◌}
use Rattle.pool_layout.proofs.KeptWords.{raw_length}
use Rattle.pool_layout.proofs.raw.RawImage.len.Goals as goal

pub returns-clause-value : goal.returns-clause-value
returns-clause-value c =
    rw (c.as_slice-words.ensures, c.as_slice-rest.ensures)
    (sym (raw_length c.self.inside.words c.self.inside.rest)
    ∙ ap (λ (bytes : List ℕ). length bytes) c.self.view_is)
