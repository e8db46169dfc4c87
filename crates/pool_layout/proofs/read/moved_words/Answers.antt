use Rattle.std.proofs.Common.{◌≡◌, ◌++◌, ◌∷◌, [], rules, arith, FitsSigned, w64, length-append}
use Rattle.std.proofs.lemmas.Int.{to_z-of_z}
use Rattle.pool_layout.specs.Bytes.{word_in}
use Rattle.pool_layout.specs.Places.{at, pool_of, IsPlace}
use Rattle.pool_layout.proofs.Moving.{moved_more}
use Rattle.pool_layout.proofs.read.moved_words.Goals as goal

pub loop-k-preserved : goal.loop-k-preserved
loop-k-preserved c =
    let fits : FitsSigned w64 c.moved_word.result = search rules in
    let pushed : c.push.new.self ≡ c.loop-k.all ++ c.moved_word.result ∷ [] =
    simp to_z-of_z at c.in_ok-push.ensures.ok in
    let inside : IsPlace (pool_of c.args.sizes.now) c.place.result =
    rw c.new-to.ensures at c.place.ensures.valid in
    let here : at (pool_of c.args.sizes.now) c.place.result ≡ c.loop-k.k =
    rw c.new-to.ensures at c.place.ensures.same in
    record {
      so_far = rw (pushed, length-append) (let e = c.loop-k.invariant.so_far in omega arith);
      each = rw pushed (moved_more c.args.sizes.now (word_in c.args.bytes.now) c.loop-k.all
          c.loop-k.k c.place.result c.moved_word.result
          c.loop-k.invariant.so_far c.loop-k.invariant.each inside here c.moved_word.ensures);
    }
