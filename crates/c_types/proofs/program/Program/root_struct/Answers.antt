use Rattle.std.proofs.Common.{◌∙◌, ap₂}
use Rattle.c_types.specs.Tables.{index_of}
use Rattle.c_types.proofs.Gathered.{slice_get_roots}
use Rattle.c_types.proofs.program.Program.root_struct.Goals as goal

pub returns-in-Some : goal.returns-in-Some
returns-in-Some c = rw (
  ← c.self.view_is,
  slice_get_roots,
  ← c.deref.ensures.value,
  ← c.in-Some.ensures.value,
)
    (c.find.ensures ∙ ap₂ index_of c.as_str.ensures c.self.invariant.0)
