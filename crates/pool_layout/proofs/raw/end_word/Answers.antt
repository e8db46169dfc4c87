use Rattle.std.proofs.Common.{◌≡◌, ◌++◌, ◌∷◌, [], List, ℕ, sym, ap, ◌∙◌, append-nil, append_assoc}
use Rattle.std.proofs.lemmas.Result.{on_ok_weaker}
use Rattle.pool_layout.specs.Bytes.{bytes_of}
use Rattle.pool_layout.proofs.raw.end_word.Goals as goal

pub returns-clause-ok : goal.returns-clause-ok
returns-clause-ok c =
    let rest : List ℕ = c.args.rest.now in
    let full : c.as_slice.result.now ≡ rest ++ c.args.byte ∷ [] =
    c.as_slice.ensures ∙ c.in_ok-push.ensures.ok in
    on_ok_weaker c.push_words-pushed.result
    (λ (is : bytes_of c.push_words-pushed.new.words
    ≡ bytes_of c.args.words.now ++ c.as_slice.result.now).
    ap (λ (r : List ℕ). bytes_of c.push_words-pushed.new.words ++ r) c.clear.ensures
    ∙ append-nil (bytes_of c.push_words-pushed.new.words) ∙ is
    ∙ ap (λ (r : List ℕ). bytes_of c.args.words.now ++ r) full
    ∙ sym (append_assoc (bytes_of c.args.words.now) rest (c.args.byte ∷ [])))
    c.push_words-pushed.ensures.ok
