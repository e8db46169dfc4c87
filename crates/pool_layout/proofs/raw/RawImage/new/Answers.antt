use Rattle.std.proofs.Common.{◌<◌, ◌++◌, List, ℕ, length, sym, subst, arith}
use Rattle.pool_layout.specs.Bytes.{bytes_of}
use Rattle.pool_layout.specs.inside.Bytes.{AreWords}
use Rattle.pool_layout.proofs.KeptWords.{no_words}
use Rattle.pool_layout.proofs.raw.RawImage.new.Goals as goal

pub invariant_of-result : goal.invariant_of-result
invariant_of-result c = (
  subst AreWords (sym c.new.ensures) no_words,
  subst (λ (l : List ℕ). length l < 8) (sym c.new-2.ensures) (omega arith),
)

pub returns : goal.returns
returns c = λ i. bytes_of (c.new.ensures i) ++ c.new-2.ensures i
