use Rattle.std.proofs.Common.{◌≡◌, ◌++◌, drop}
use Rattle.clobber_pass.specs.inside.Marking.{marks_from}
use Rattle.clobber_pass.proofs.place_marks.mark_row.Given as goal

abbrev pub invariant-loop-place : goal.invariant-loop-place
invariant-loop-place l = l.marks.items ++ marks_from l.topic l.exits l.rows l.row.items l.place
    (drop l.place l.code) ≡ marks_from l.topic l.exits l.rows l.entry 0 l.code
