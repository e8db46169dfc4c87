use Rattle.std.proofs.Common.{◌≡◌, drop}
use Rattle.clobber_pass.specs.inside.Row.{fields_from, fields_mask}
use Rattle.clobber_pass.proofs.row.fields_mask.Given as goal

abbrev pub invariant-loop-place : goal.invariant-loop-place
invariant-loop-place l = fields_from (drop l.place l.all) l.place l.kind l.field l.bits
    ≡ fields_mask l.all l.kind l.field
