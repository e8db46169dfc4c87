use Rattle.std.proofs.Common.{◌≡◌, drop}
use Rattle.codegen.specs.Fields.{field_at}
use Rattle.codegen.proofs.fields.field_place.Given as goal

abbrev pub invariant-loop-shape : goal.invariant-loop-shape
invariant-loop-shape l = field_at l.limit l.first (drop l.shape-index l.fields) l.left
    ≡ field_at l.limit 0 l.fields l.field
