-- The sites that marks log, and those that reasons are of.
use Rattle.std.specs.Prelude.{◌++◌, List, [], ◌∷◌, map, if◌then◌else◌}
use Rattle.ir.specs.declared.site.Site.{Site}
use Rattle.clobber_pass.specs.declared.marking.MarkTable.{MarkTable}
use Rattle.clobber_pass.specs.Logged.{is_logged}
use Rattle.walk_check.specs.declared.certificate.Reason.{Reason}

-- with the site, if the marks log it
abbrev pub with_marked : MarkTable → Site → List Site → List Site
with_marked table site told = if is_logged table site then told ++ site ∷ [] else told

-- with those of the sites that the marks log
abbrev pub all_marked : MarkTable → List Site → List Site → List Site
all_marked table [] told = told
all_marked table (s ∷ ss) told = all_marked table ss (with_marked table s told)

abbrev pub sites_in : List (Site × Reason) → List Site
sites_in rs = map (λ (r : Site × Reason). r.0) rs
