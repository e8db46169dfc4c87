use Rattle.std.proofs.Common.{◌++◌, ◌≡◌, drop, flat_map}
use Rattle.site_lines.specs.Rows.{matching_head}
use Rattle.site_lines.proofs.head.push_matching.Given as goal

abbrev pub invariant-loop-row : goal.invariant-loop-row
invariant-loop-row l =
    l.text ++ flat_map (matching_head l.functions l.fill) (drop l.row-index l.rows)
    ≡ l.initial.text ++ flat_map (matching_head l.functions l.fill) l.rows
