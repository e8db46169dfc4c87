use Rattle.std.proofs.Common.{◌++◌, List, ℕ}
use Rattle.std.proofs.lemmas.Result.{on_ok_weaker}
use Rattle.pool_layout.specs.Bytes.{bytes_of}
use Rattle.pool_layout.proofs.KeptWords.{halves, then_last}
use Rattle.pool_layout.proofs.raw.push_whole.Goals as goal

pub returns-clause-ok : goal.returns-clause-ok
returns-clause-ok c =
    let whole : List ℕ = c.split_at.result.0.now in
    let last : List ℕ = c.split_at.result.1.now in
    on_ok_weaker c.push_bytes.result
    (then_last (bytes_of c.args.words.now) (bytes_of c.push_words.new.words) c.args.rest.now whole
    last c.args.piece.now (bytes_of c.push_bytes.new.words ++ c.push_bytes.new.rest) c.requires
    c.in_ok-push_words.ensures.ok
    (halves _ c.args.piece.now whole last c.split_at.ensures.front c.split_at.ensures.back))
    c.push_bytes.ensures.ok

pub returns-clause-words : goal.returns-clause-words
returns-clause-words c =
    λ all. c.push_bytes.ensures.words (c.in_ok-push_words.ensures.words all)
