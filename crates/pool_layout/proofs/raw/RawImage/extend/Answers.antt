use Rattle.std.proofs.Common.{◌≡◌, ◌++◌, List, ℕ, ap, ◌∙◌}
use Rattle.std.proofs.lemmas.Result.{on_ok_weaker}
use Rattle.pool_layout.specs.Bytes.{bytes_of}
use Rattle.pool_layout.proofs.raw.RawImage.extend.Goals as goal

pub returns : goal.returns
returns c =
    on_ok_weaker c.push_all.result
    (λ (put : bytes_of c.push_all.new.words ++ c.push_all.new.rest
    ≡ (bytes_of c.self.inside.words ++ c.self.inside.rest) ++ c.args.piece.now).
    put ∙ ap (λ (bytes : List ℕ). bytes ++ c.args.piece.now) c.self.view_is)
    c.push_all.ensures.ok
