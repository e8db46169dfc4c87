-- The table of a search.
use Rattle.std.specs.Prelude.{◌==◌, ◌&&◌, ◌++◌, ℕ, Bool, true, false, List, [], ◌∷◌, Option, None}
use Rattle.std.specs.Prelude.{if◌then◌else◌}
use Rattle.std.specs.List.{list_any}
use Rattle.walk_check.specs.declared.certificate.Step.{Step}
use Rattle.walk_check.specs.Facts.{told, same}
use Rattle.walk_maker.specs.declared.table.Aim.{Aim}
use Rattle.walk_maker.specs.declared.table.Aim.TheVariants.{ToSite, ToReturn}
use Rattle.walk_maker.specs.declared.table.Link.{Link}
use Rattle.walk_maker.specs.declared.table.Link.TheVariants.{End, Next, Enter}
use Rattle.walk_maker.specs.declared.table.Entry.{Entry}

abbrev pub same_aim : Aim → Aim → Bool
same_aim ToSite ToSite = true
same_aim (ToReturn a) (ToReturn b) = same a b
same_aim _ _ = false

-- two entries have the same aim, function, place and fact; their links may differ
abbrev pub same_spot : (a b : Entry) → Bool
same_spot a b =
    same_aim a.aim b.aim && ((a.function == b.function) && ((a.place == b.place)
    && same a.fact b.fact))

-- the table has an entry with the same aim, function, place and fact
abbrev pub has : List Entry → Entry → Bool
has t e = list_any (λ (x : Entry). same_spot x e) t

-- the table with this entry, unless it has the same fact there already
abbrev pub added : Entry → List Entry → List Entry
added e t = if has t e then t else t ++ e ∷ []

abbrev pub through_of : Link → Option ℕ
through_of End = None
through_of (Next n through) = through
through_of (Enter n) = None

-- an entry as a step of a piece
abbrev pub step_of : Entry → Step
step_of e = record { place = e.place; fact = told e.fact; through = through_of e.link }
