use Rattle.std.proofs.Common.{◌≡◌, drop}
use Rattle.std.specs.List.{list_any}
use Rattle.cnvm_session.specs.Opening.{is_other}
use Rattle.cnvm_session.proofs.opening.any_other.Given as goal

abbrev pub invariant-loop-word : goal.invariant-loop-word
invariant-loop-word l = list_any is_other (drop l.word-index l.words) ≡ list_any is_other l.words
