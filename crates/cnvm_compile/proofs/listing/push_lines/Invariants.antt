use Rattle.std.proofs.Common.{◌++◌, ◌≡◌, drop, flat_map}
use Rattle.cnvm_compile.specs.Listing.{row_line}
use Rattle.cnvm_compile.proofs.listing.push_lines.Given as goal

abbrev pub invariant-loop-row : goal.invariant-loop-row
invariant-loop-row l =
    l.text ++ flat_map (row_line l.compiled.marks l.compiled.ir.functions) (drop l.row-index l.rows)
    ≡ l.initial.text ++ flat_map (row_line l.compiled.marks l.compiled.ir.functions) l.rows
