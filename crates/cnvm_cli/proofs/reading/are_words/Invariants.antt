use Rattle.std.proofs.Common.{ℕ, ◌<◌, pos}
use Rattle.std.specs.Prelude.{slice_index_or}
use Rattle.nvm_base.specs.Wrap.{IsWord}
use Rattle.cnvm_cli.proofs.reading.are_words.Given as goal

abbrev pub invariant-loop-word : goal.invariant-loop-word
invariant-loop-word l = (i : ℕ) → i < l.word-index → IsWord (slice_index_or l.words i (pos 0))
