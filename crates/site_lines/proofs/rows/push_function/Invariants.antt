use Rattle.std.proofs.Common.{◌++◌, ◌≡◌, drop}
use Rattle.site_lines.specs.Rows.{rows_from}
use Rattle.site_lines.proofs.rows.push_function.Given as goal

abbrev pub invariant-loop-place : goal.invariant-loop-place
invariant-loop-place l =
    l.rows ++ rows_from l.shapes l.function l.place (drop l.place l.code) ≡ l.initial.rows
    ++ rows_from l.shapes l.function 0 l.code
