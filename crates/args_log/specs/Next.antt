-- One more, as a word: so the number of a call follows from that of the finished ones, and an
-- attempt from the one before.
use Rattle.std.specs.Prelude.{ℤ, pos}
use Rattle.nvm_base.specs.Operations.{add}

unfoldable pub number_after : ℤ → ℤ
number_after x = add x (pos 1)
