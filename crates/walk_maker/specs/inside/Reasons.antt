-- What a search gives for a site.
use Rattle.std.specs.Prelude.{◌≡◌, ◌++◌, ℕ, Bool, true, false, List, [], ◌∷◌, Option, Some, None}
use Rattle.std.specs.Prelude.{slice_get}
use Rattle.std.specs.List.{AllByRecursion}
use Rattle.ir.specs.declared.instruction.Target.{Target}
use Rattle.ir.specs.declared.instruction.Instruction.{Instruction}
use Rattle.ir.specs.declared.instruction.Instruction.TheVariants.{Store, New, Free}
use Rattle.ir.specs.declared.function.IrFunction.{IrFunction}
use Rattle.ir.specs.declared.function.Ir.{Ir}
use Rattle.ir.specs.declared.site.Site.{Site}
use Rattle.ir.specs.declared.fact.Fact.{Fact as WalkFact}
use Rattle.ir.specs.declared.fact.Origins.{Origins}
use Rattle.ir.specs.Places.{instruction_at}
use Rattle.ir.specs.Table.{AmongOrigins}
use Rattle.ir.specs.Clobber.{SomeWalk, IsLogged}
use Rattle.walk_check.specs.declared.certificate.Piece.{Piece}
use Rattle.walk_check.specs.declared.certificate.Walk.{Walk}
use Rattle.walk_check.specs.declared.certificate.Reason.{Reason}
use Rattle.walk_check.specs.Keeps.{fact_is_there, walk_keeps, reason_keeps}
use Rattle.walk_check.specs.inside.Grown.{ArePassing, Grows}
use Rattle.walk_maker.specs.declared.table.Aim.TheVariants.{ToSite}
use Rattle.walk_maker.specs.declared.table.Link.TheVariants.{End}
use Rattle.walk_maker.specs.declared.table.Entry.{Entry}
use Rattle.walk_maker.specs.declared.reasons.Kind.{Kind}
use Rattle.walk_maker.specs.declared.reasons.Kind.TheVariants.{Store as Written, Header}
use Rattle.walk_maker.specs.declared.reasons.Kind.TheVariants.{Fill, Nothing}

-- the entry with which a search for a walk to the site begins
abbrev pub goal_at : Site → WalkFact → Entry
goal_at site a = record {
  aim = ToSite;
  function = site.function;
  place = site.place;
  fact = a;
  link = End;
}

-- the site's function has what the fact names
abbrev pub FactThere : Ir → Site → WalkFact → Type 0
FactThere ir site a = (u : IrFunction) × (slice_get ir.functions site.function ≡ Some u)
    × (fact_is_there ir.shapes u a ≡ true)

-- it is a walk on which the fact holds at the site; or it is none, and there is no such walk
abbrev pub IsWalkTo : Ir → Site → WalkFact → List Piece → Option Walk → Type 0
IsWalkTo ir site a ps (Some walk) = (ends : Origins) → AmongOrigins a ends
    → walk_keeps ir ps site ends walk.pieces ≡ true
IsWalkTo ir site a ps None = SomeWalk ir.functions site.function site.place a → ⊥

pub record WalkGiven (ir : Ir) (site : Site) (a : WalkFact) (old new : List Piece)
    (walk : Option Walk) : Type 0 where
  pub passing : ArePassing ir new
  pub grown : Grows old new
  pub given : IsWalkTo ir site a new walk

-- the reason keeps the rules; or there is none, and the site isn't logged
abbrev pub IsReason : Ir → Site → List Piece → Option Reason → Type 0
IsReason ir site ps (Some reason) = reason_keeps ir ps site reason ≡ true
IsReason ir site ps None = IsLogged ir.functions site → ⊥

pub record ReasonGiven (ir : Ir) (site : Site) (old new : List Piece)
    (reason : Option Reason) : Type 0 where
  pub passing : ArePassing ir new
  pub grown : Grows old new
  pub given : IsReason ir site new reason

abbrev pub StoresAt : Ir → Site → Target → Type 0
StoresAt ir site target = (site.fill ≡ false) × (from : ℕ) × (line : ℕ)
    × (instruction_at ir.functions site.function site.place ≡ Some (Store target from line))

abbrev pub FillsAt : Ir → Site → Type 0
FillsAt ir site = (site.fill ≡ true) × (to : ℕ) × (kind : ℕ) × (log_fill : Bool) × (line : ℕ)
    × (instruction_at ir.functions site.function site.place ≡ Some (New to kind log_fill line))

-- what is written at a site, as far as it decides whether it is logged
abbrev pub written_kind : Option Instruction → (fill : Bool) → Kind
written_kind (Some (Store target from line)) false = Written target
written_kind (Some (New to kind log_fill line)) false = Header
written_kind (Some (Free from kind line)) false = Header
written_kind (Some (New to kind log_fill line)) true = Fill
written_kind _ fill = Nothing

-- the list, with the site and its reason added if there is a reason
abbrev pub with_reason : List (Site × Reason) → Site → Option Reason → List (Site × Reason)
with_reason rs site None = rs
with_reason rs site (Some reason) = rs ++ (site, reason) ∷ []

-- each reason keeps the rules
abbrev pub AllKept : Ir → List Piece → List (Site × Reason) → Type 0
AllKept ir ps rs =
    AllByRecursion (λ (r : Site × Reason). reason_keeps ir ps r.0 r.1 ≡ true) rs

-- the second list is the first, in its order, without some sites that aren't logged
pub data Skips (functions : List IrFunction) : List Site → List Site → Type 0 where
  no_more : Skips functions [] []
  kept : {s : Site} {all told : List Site} → Skips functions all told
      → Skips functions (s ∷ all) (s ∷ told)
  skipped : {s : Site} {all told : List Site} → (IsLogged functions s → ⊥)
      → Skips functions all told → Skips functions (s ∷ all) told
