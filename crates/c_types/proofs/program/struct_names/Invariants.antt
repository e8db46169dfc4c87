use Rattle.std.proofs.Common.{◌≡◌, ◌++◌, map, drop}
use Rattle.c_types.specs.Tables.{StructTree}
use Rattle.c_types.proofs.program.struct_names.Given as goal

abbrev pub invariant-loop-layout : goal.invariant-loop-layout
invariant-loop-layout l = l.names ++ map (λ (s : StructTree). s.name.text)
    (drop l.layout-index l.structs) ≡ map (λ (s : StructTree). s.name.text) l.structs
