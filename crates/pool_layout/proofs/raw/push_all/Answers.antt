use Rattle.std.proofs.Common.{◌≡◌, ◌++◌, List, ℕ, length, ap, arith}
use Rattle.std.proofs.lemmas.Result.{on_ok_weaker}
use Rattle.pool_layout.specs.Bytes.{bytes_of}
use Rattle.pool_layout.proofs.KeptWords.{halves, then_others}
use Rattle.pool_layout.proofs.raw.push_all.Goals as goal

pub returns-then-reaches-clause-ok : goal.returns-then-reaches-clause-ok
returns-then-reaches-clause-ok c =
    let first : List ℕ = c.split_at.result.0.now in
    let others : List ℕ = c.split_at.result.1.now in
    let same : length c.as_slice.result.now ≡ length c.args.rest.now =
    ap (λ (l : List ℕ). length l) c.as_slice.ensures in
    let none : length c.push_bytes.new.rest ≡ 0 =
    omega (arith, c.in_ok-push_bytes.ensures.end, c.split_at.ensures.front_len, c.requires) in
    on_ok_weaker c.push_whole.result
    (then_others (bytes_of c.args.words.now ++ c.args.rest.now) (bytes_of c.push_bytes.new.words)
    c.push_bytes.new.rest first others c.args.piece.now
    (bytes_of c.push_whole.new.words ++ c.push_whole.new.rest) none c.in_ok-push_bytes.ensures.ok
    (halves _ c.args.piece.now first others c.split_at.ensures.front c.split_at.ensures.back))
    c.push_whole.ensures.ok

pub returns-then-reaches-clause-words : goal.returns-then-reaches-clause-words
returns-then-reaches-clause-words c =
    λ all. c.push_whole.ensures.words (c.in_ok-push_bytes.ensures.words all)
