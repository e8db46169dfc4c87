use Rattle.std.proofs.Common.{◌++◌, ◌≡◌, ◌<◌, ◌^◌, length, drop}
use Rattle.std.specs.List.{AllByRecursion}
use Rattle.ir.specs.WellFormed.{IsFunction}
use Rattle.site_lines.specs.Rows.{rows_of}
use Rattle.site_lines.proofs.rows.rows_of.Given as goal

abbrev pub invariant-loop-number : goal.invariant-loop-number
invariant-loop-number l =
    (l.rows ++ rows_of l.ir.shapes l.number (drop l.number l.ir.functions)
    ≡ rows_of l.ir.shapes 0 l.ir.functions)
    × (length l.ir.functions < 2 ^ 31)
    × AllByRecursion (IsFunction l.ir) (drop l.number l.ir.functions)
