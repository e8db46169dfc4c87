use Rattle.std.proofs.Common.{◌≡◌, ℕ, ◌<◌, get_or, ◌≤◌, ◌+◌, ◌++◌, ◌∷◌, [], ◌*◌, length}
use Rattle.std.proofs.Common.{rules, arith, FitsSigned, w64}
use Rattle.std.proofs.lemmas.Int.{to_z-of_z}
use Rattle.pool_layout.specs.Bytes.{bytes_of}
use Rattle.pool_layout.proofs.Words.{bytes_of-more}
use Rattle.pool_layout.proofs.KeptWords.{are_words_more}
use Rattle.pool_layout.proofs.raw.push_words.Goals as goal

pub loop-k-preserved : goal.loop-k-preserved
loop-k-preserved c =
    let room : 8 * c.loop-k.k + 8 ≤ length c.args.bytes.now = omega arith in
    let fits : FitsSigned w64 c.word_in.result = search rules in
    let small : (i : ℕ) → get_or c.args.bytes.now i 0 < 256 = λ i. let f = c.type_inv.bytes i in
    omega (arith, f) in
    let pushed : c.push.new.self ≡ c.loop-k.words ++ c.word_in.result ∷ [] =
    simp to_z-of_z at c.in_ok-push.ensures.ok in
    record {
      bytes = rw (pushed, c.word_in.ensures)
          (bytes_of-more (bytes_of c.args.words.now) c.args.bytes.now c.loop-k.words c.loop-k.k
          small room c.loop-k.invariant.bytes);
      words = λ all. rw pushed (are_words_more c.loop-k.words c.word_in.result
          (c.loop-k.invariant.words all) fits);
    }
