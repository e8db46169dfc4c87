-- A table in which each class is marked says of each site whether it is logged.
use Rattle.std.proofs.Common.{◌≡◌, ◌-◌, ℕ, Bool, true, false, List, refl, inl, inr}
use Rattle.std.specs.Prelude.{◌↔◌, ◌%◌}
use Rattle.std.proofs.lemmas.Option.{slice_get_within}
use Rattle.ir.specs.declared.function.Ir.{Ir}
use Rattle.ir.specs.declared.site.Site.{Site}
use Rattle.ir.specs.declared.instruction.Target.{Target}
use Rattle.ir.specs.declared.instruction.Target.TheVariants.{Root, Field}
use Rattle.ir.specs.declared.instruction.Instruction.TheVariants.{Store, New}
use Rattle.ir.specs.declared.fact.Fact.TheVariants.{Freed}
use Rattle.ir.specs.WellFormed.{IsWellFormed}
use Rattle.ir.specs.Clobber.{unwritten, read_fact, LoggedAt, IsLogged}
use Rattle.ir.proofs.Law.{exact}
use Rattle.clobber_pass.specs.declared.classes.Stored.{Stored}
use Rattle.clobber_pass.specs.declared.topic.Topic.TheVariants.{Frees}
use Rattle.clobber_pass.specs.inside.Marking.{says, Logged, Marks, Headers, AllMarked}
use Rattle.clobber_pass.specs.inside.Classes.{HasTarget, HasAll, TargetMarked, RootsMarked}
use Rattle.clobber_pass.specs.inside.Classes.{FieldsMarked}
use Rattle.clobber_pass.proofs.steps.Fits.{standing}

module _ (ir : Ir) (well : IsWellFormed ir) (stored : Stored)
    (stores : HasAll ir.functions stored) (table : List (List ℕ))
    (marks : Marks ir.functions table) (header : Headers ir.functions table)
    (frees : AllMarked ir.functions Frees table)
    (roots : RootsMarked ir.functions stored.roots table)
    (fields : FieldsMarked ir.functions stored.fields table) where
  target_marked : (target : Target) → HasTarget stored target
      → TargetMarked ir.functions table target
  target_marked (Root y i) has = (roots.each (y - y % 16) has).each y i refl
  target_marked (Field b k y i) has = (fields.each (record { kind = k; field = y }) has).each b i

  forth : (fill : Bool) (f p : ℕ) → Logged ir.functions fill f p → LoggedAt ir.functions fill f p
  forth true f p (to, kind, log_fill, line, is, before) =
      (to, kind, log_fill, line, is, (exact ir.functions f p Freed).1 before)
  forth false f p (inl (target, from, line, is, bare, before)) =
      inl (
        target,
        from,
        line,
        is,
        (exact ir.functions f p (unwritten target)).1 bare,
        (exact ir.functions f p (read_fact target)).1 before,
      )
  forth false f p (inr h) = inr h

  back_to : (fill : Bool) (f p : ℕ) → LoggedAt ir.functions fill f p → says table fill f p ≡ true
  back_to true f p (to, kind, log_fill, line, is, walk) =
      let s = standing ir f p (New to kind log_fill line) well is in
      (frees f (slice_get_within ir.functions f s.body s.there)).fills p to kind log_fill line refl
      is ((exact ir.functions f p Freed).0 walk)
  back_to false f p (inl (target, from, line, is, bare, seen_before)) =
      let s = standing ir f p (Store target from line) well is in
      let has = (stores.stores f s.body s.there).stores p target from line s.at in
      (target_marked target has).stores f p from line
      (slice_get_within ir.functions f s.body s.there) is
      ((exact ir.functions f p (unwritten target)).0 bare)
      ((exact ir.functions f p (read_fact target)).0 seen_before)
  back_to false f p (inr h) = header.marked f p h

  pub marks_exact : (site : Site)
      → (says table site.fill site.function site.place ≡ true) ↔ IsLogged ir.functions site
  marks_exact site = (
    (λ h. forth site.fill site.function site.place
        (marks.sound.logged site.fill site.function site.place h)),
    (λ h. back_to site.fill site.function site.place h),
  )
