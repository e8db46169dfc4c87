-- The records so far are valid.
use Rattle.std.proofs.Common.{◌≡◌, ℕ, ◌≤◌, true}
use Rattle.pool_layout.specs.Bytes.{word_in}
use Rattle.pool_layout.specs.Content.{are_valid}
use Rattle.pool_layout.proofs.rules.Rules.leading.Given as goal

abbrev pub invariant-loop-i : goal.invariant-loop-i
invariant-loop-i l = (k : ℕ) → k ≤ l.i → are_valid l.self.layout (word_in l.bytes) k ≡ true
