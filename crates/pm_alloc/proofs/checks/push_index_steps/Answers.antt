use Rattle.std.proofs.Common.{rules, w64, FitsSigned}
use Rattle.std.proofs.lemmas.Int.{to_z-of_z}
use Rattle.pm_alloc.proofs.checks.push_index_steps.Goals as goal

pub returns : goal.returns
returns c =
    let fits_length : FitsSigned w64 c.from.result = search rules in
    let h = simp to_z-of_z at c.extend.ensures.ok in
    rw c.from.ensures at h
