-- The line that is sought stands among those that are left, `left` lines further.
use Rattle.std.proofs.Common.{◌≡◌, ◌-◌, [], length, slice_index_or}
use Rattle.cnvm_script.specs.Lines.{lines}
use Rattle.cnvm_notes.proofs.refused_script.line_at.Given as goal

abbrev pub invariant-lines : goal.invariant-lines
invariant-lines l =
    slice_index_or (lines l.rest) l.left [] ≡ slice_index_or (lines l.text) (l.number - 1) []

abbrev pub decreases-lines : goal.decreases-lines
decreases-lines l = length l.rest
