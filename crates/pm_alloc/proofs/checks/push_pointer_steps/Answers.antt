use Rattle.std.proofs.Common.{rules, w64, FitsSigned}
use Rattle.std.proofs.lemmas.Int.{to_z-of_z}
use Rattle.pm_alloc.proofs.checks.push_pointer_steps.Goals as goal

pub returns : goal.returns
returns c =
    let fits_past : FitsSigned w64 c.args.past = c.ranges.past in
    let fits_width : FitsSigned w64 c.args.width = c.ranges.width in
    let fits_header : FitsSigned w64 c.args.header = c.ranges.header in
    let fits_kind : FitsSigned w64 c.from.result = search rules in
    let h = simp to_z-of_z at c.extend.ensures.ok in
    rw c.from.ensures at h
