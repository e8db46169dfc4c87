-- The text of a certificate. It has a line `piece I F ..` for each piece that passes calls; for
-- each reason the line of its site with `always`, `past free` or `clobber` as the last word, and
-- for each of its walks a line `walk` and a line `in F ..` for each piece; and the last line
-- `reasons A always B free C clobber D`. A line of a piece goes on with ` P FACT` for each step,
-- and with ` via I` where it passes a call.
use Rattle.std.specs.Prelude.{ℕ, ◌+◌, List, [], ◌∷◌, ◌++◌, Bool, true, false, Option, Some, None}
use Rattle.std.specs.Prelude.{length, codes, flat_map, if◌then◌else◌}
use Rattle.std.specs.Fmt.{decimal}
use Rattle.pool_map.specs.declared.shapes.Shapes.{Shapes}
use Rattle.ir.specs.declared.function.Ir.{Ir}
use Rattle.ir.specs.declared.site.Site.{Site}
use Rattle.site_lines.specs.Rows.{function_name, struct_name, field_name, field_of_struct}
use Rattle.site_lines.specs.Rows.{site_head}
use Rattle.walk_check.specs.declared.certificate.Class.{Class}
use Rattle.walk_check.specs.declared.certificate.Class.TheVariants.{Root, Field}
use Rattle.walk_check.specs.declared.certificate.Fact.{Fact}
use Rattle.walk_check.specs.declared.certificate.Fact.TheVariants.{Start, Unwritten, UnwrittenRoot}
use Rattle.walk_check.specs.declared.certificate.Fact.TheVariants.{Read, Freed}
use Rattle.walk_check.specs.declared.certificate.Step.{Step}
use Rattle.walk_check.specs.declared.certificate.Piece.{Piece}
use Rattle.walk_check.specs.declared.certificate.Walk.{Walk}
use Rattle.walk_check.specs.declared.certificate.Reason.{Reason}
use Rattle.walk_check.specs.declared.certificate.Reason.TheVariants.{Always, PastFree, Clobber}
use Rattle.walk_check.specs.declared.certificate.Certificate.{Certificate}

abbrev pub struct_field_text : Shapes → ℕ → ℕ → List ℕ
struct_field_text shapes s x = struct_name shapes s ++ (codes "." ++ field_of_struct shapes s x)

abbrev pub unwritten_text : Shapes → ℕ → ℕ → ℕ → List ℕ
unwritten_text shapes r s x =
    codes "unwritten r" ++ (decimal r ++ (codes " " ++ struct_field_text shapes s x))

abbrev pub class_text : Shapes → Class → List ℕ
class_text shapes (Root x) = codes "root." ++ field_name shapes.root x
class_text shapes (Field s x) = struct_field_text shapes s x

abbrev pub fact_text : Shapes → Fact → List ℕ
fact_text shapes Start = codes "start"
fact_text shapes (Unwritten r s x) = unwritten_text shapes r s x
fact_text shapes (UnwrittenRoot x) = codes "unwritten " ++ class_text shapes (Root x)
fact_text shapes (Read class) = codes "read " ++ class_text shapes class
fact_text shapes Freed = codes "freed"

abbrev pub via_text : Option ℕ → List ℕ
via_text None = []
via_text (Some n) = codes " via " ++ decimal n

abbrev pub step_text : Shapes → Step → List ℕ
step_text shapes s =
    codes " " ++ (decimal s.place ++ (codes " " ++ (fact_text shapes s.fact ++ via_text s.through)))

-- a piece's function and its steps
abbrev pub piece_text : Ir → Piece → List ℕ
piece_text ir p =
    function_name ir.functions p.function ++ (flat_map (step_text ir.shapes) p.steps ++ codes "\n")

abbrev pub numbered_text : Ir → ℕ → Piece → List ℕ
numbered_text ir n p = codes "piece " ++ (decimal n ++ (codes " " ++ piece_text ir p))

-- the lines of the pieces that pass calls, from number n on
abbrev pub passed_text : Ir → ℕ → List Piece → List ℕ
passed_text ir n [] = []
passed_text ir n (p ∷ ps) = numbered_text ir n p ++ passed_text ir (n + 1) ps

abbrev pub in_text : Ir → Piece → List ℕ
in_text ir p = codes "in " ++ piece_text ir p

abbrev pub walk_text : Ir → Walk → List ℕ
walk_text ir w = codes "walk\n" ++ flat_map (in_text ir) w.pieces

-- the last word of a reason's line, and its walks
abbrev pub walks_text : Ir → Reason → List ℕ
walks_text ir Always = codes " always\n"
walks_text ir (PastFree walk) = codes " past free\n" ++ walk_text ir walk
walks_text ir (Clobber unwrites reads) =
    codes " clobber\n" ++ (walk_text ir unwrites ++ walk_text ir reads)

abbrev pub reason_text : Ir → Site × Reason → List ℕ
reason_text ir r = site_head ir r.0 ++ walks_text ir r.1

unfoldable pub says_always : Reason → Bool
says_always Always = true
says_always (PastFree walk) = false
says_always (Clobber unwrites reads) = false

unfoldable pub says_past_free : Reason → Bool
says_past_free Always = false
says_past_free (PastFree walk) = true
says_past_free (Clobber unwrites reads) = false

unfoldable pub says_clobber : Reason → Bool
says_clobber Always = false
says_clobber (PastFree walk) = false
says_clobber (Clobber unwrites reads) = true

-- how many of the reasons say so
abbrev pub reasons_counted : (Reason → Bool) → List (Site × Reason) → ℕ
reasons_counted says [] = 0
reasons_counted says (r ∷ rs) = (if says r.1 then 1 else 0) + reasons_counted says rs

abbrev pub reasons_line : List (Site × Reason) → List ℕ
reasons_line rs = codes "reasons " ++ (decimal (length rs)
    ++ (codes " always " ++ (decimal (reasons_counted says_always rs)
    ++ (codes " free " ++ (decimal (reasons_counted says_past_free rs)
    ++ (codes " clobber " ++ (decimal (reasons_counted says_clobber rs) ++ codes "\n")))))))

abbrev pub why_text : Ir → Certificate → List ℕ
why_text ir c =
    passed_text ir 0 c.passed ++ (flat_map (reason_text ir) c.reasons ++ reasons_line c.reasons)
