use Rattle.std.proofs.Common.{◌++◌, ◌∷◌, [], List, ℕ, sym, ap, ◌∙◌, append_assoc}
use Rattle.pool_layout.specs.Bytes.{bytes_of}
use Rattle.pool_layout.proofs.raw.push_byte.Goals as goal

pub returns-clause-ok : goal.returns-clause-ok
returns-clause-ok c =
    ap (λ (rest : List ℕ). bytes_of c.args.words.now ++ rest) c.in_ok-push.ensures.ok
    ∙ sym (append_assoc (bytes_of c.args.words.now) c.args.rest.now (c.args.byte ∷ []))
