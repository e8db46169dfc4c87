-- The words so far are those of the moved pool.
use Rattle.std.proofs.Common.{◌≡◌, ◌<◌, length}
use Rattle.pool_layout.specs.declared.places.Place.{Place}
use Rattle.pool_layout.specs.Places.{at, pool_of, IsPlace}
use Rattle.pool_layout.specs.Image.{image_words}
use Rattle.pool_layout.specs.Bytes.{word_in}
use Rattle.pool_layout.specs.Moved.{moved}
use Rattle.pool_layout.proofs.read.moved_words.Given as goal

abbrev pub invariant-loop-k : goal.invariant-loop-k
invariant-loop-k l = record {
  so_far : length l.all ≡ l.k;
  each : (q : Place) → IsPlace (pool_of l.sizes) q → at (pool_of l.sizes) q < l.k
      → image_words l.all (at (pool_of l.sizes) q) ≡ moved l.sizes (word_in l.bytes) q;
}
