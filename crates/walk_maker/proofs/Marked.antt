-- The sites that exact marks log are those that a certificate lists.
use Rattle.std.proofs.Common.{◌≡◌, ◌++◌, Bool, true, false, List, [], ◌∷◌, refl, sym, ◌∙◌}
use Rattle.std.proofs.Common.{subst}
use Rattle.std.proofs.Common.{append_assoc}
use Rattle.std.specs.Prelude.{if◌then◌else◌}
use Rattle.std.proofs.lemmas.List.{append-nil}
use Rattle.ir.specs.declared.function.IrFunction.{IrFunction}
use Rattle.ir.specs.declared.site.Site.{Site}
use Rattle.ir.specs.Clobber.{IsLogged}
use Rattle.clobber_pass.specs.declared.marking.MarkTable.{MarkTable}
use Rattle.clobber_pass.specs.Logged.{is_logged, IsExact}
use Rattle.walk_maker.specs.Lists.{ListsLogged}
use Rattle.walk_maker.specs.Lists.ListsLogged.{no_site, logged, unlogged}
use Rattle.walk_maker.specs.inside.Marked.{all_marked}

not_both : (b : Bool) → b ≡ true → b ≡ false → ⊥
not_both b holds never = cc

module _ (functions : List IrFunction) (table : MarkTable) (exact : IsExact functions table) where
  -- one more site, which the marks log or don't
  one_more : (s : Site) (ss told : List Site) (b : Bool) → is_logged table s ≡ b
      → ((old : List Site) → (some : List Site) × (all_marked table ss old ≡ old ++ some)
      × ListsLogged functions ss some)
      → (some : List Site)
      × (all_marked table ss (if b then told ++ s ∷ [] else told) ≡ told ++ some)
      × ListsLogged functions (s ∷ ss) some
  one_more s ss told true is rest =
      let more = rest (told ++ s ∷ []) in (
        s ∷ more.0,
        more.1 ∙ append_assoc told (s ∷ []) more.0,
        logged ((exact s).0 is) more.2,
      )
  one_more s ss told false is rest =
      let more = rest told in
      let not_so : IsLogged functions s → ⊥ =
      λ (h : IsLogged functions s). not_both (is_logged table s) ((exact s).1 h) is in
      (more.0, more.1, unlogged not_so more.2)

  marked_on : (ss told : List Site)
      → (some : List Site) × (all_marked table ss told ≡ told ++ some)
      × ListsLogged functions ss some
  marked_on [] told = ([], sym (append-nil told), no_site)
  marked_on (s ∷ ss) told = one_more s ss told (is_logged table s) refl (marked_on ss)

  pub marked_listed : (sites marked told : List Site) → marked ≡ all_marked table sites []
      → told ≡ marked → ListsLogged functions sites told
  marked_listed sites marked told is same =
      let some = marked_on sites [] in
      subst (λ xs. ListsLogged functions sites xs) (sym (same ∙ is ∙ some.1)) some.2
