-- The origins of a fact of a class are facts of the class.
use Rattle.std.proofs.Common.{◌≡◌, ◌&&◌, ℕ, Bool, true, false, cond, List, Option, Some, None, refl}
use Rattle.std.proofs.Common.{inl, inr, subst}
use Rattle.std.specs.Prelude.{◌==◌, slice_get, position}
use Rattle.ir.specs.declared.instruction.Target.TheVariants.{Root, Field}
use Rattle.ir.specs.declared.instruction.Instruction.{Instruction}
use Rattle.ir.specs.declared.instruction.Instruction.TheVariants.{Const, Copy, Bin, Load, Store}
use Rattle.ir.specs.declared.instruction.Instruction.TheVariants.{New, Free}
use Rattle.ir.specs.declared.fact.Fact.{Fact}
use Rattle.ir.specs.declared.fact.Fact.TheVariants.{Here, Unwritten, RootUnwritten, ReadRoot}
use Rattle.ir.specs.declared.fact.Fact.TheVariants.{ReadField, Freed}
use Rattle.ir.specs.declared.fact.Origins.{Origins}
use Rattle.ir.specs.declared.fact.Origins.TheVariants.{Nowhere, One, Two}
use Rattle.ir.specs.declared.fact.Back.{Back}
use Rattle.ir.specs.declared.fact.Back.TheVariants.{FromReturn, Stays}
use Rattle.ir.specs.Table.{AmongOrigins, origins, argument_fact, at_call, from_parameter, back}
use Rattle.clobber_pass.specs.inside.Class.{Class, OfFrees, OfRoot, OfField, OfNothing, is_about}

here_of : (t : Class) (r s x : ℕ) → is_about t (Unwritten r s x) ≡ true → is_about t Here ≡ true
here_of OfFrees r s x h = refl
here_of (OfRoot y) r s x h = h
here_of (OfField k y) r s x h = refl
here_of OfNothing r s x h = h

here_freed : (t : Class) → is_about t Freed ≡ true → is_about t Here ≡ true
here_freed OfFrees h = refl
here_freed (OfRoot y) h = h
here_freed (OfField k y) h = refl
here_freed OfNothing h = h

other_register : (t : Class) (r q s x : ℕ) → is_about t (Unwritten r s x) ≡ true
    → is_about t (Unwritten q s x) ≡ true
other_register OfFrees r q s x h = h
other_register (OfRoot y) r q s x h = h
other_register (OfField k y) r q s x h = h
other_register OfNothing r q s x h = h

unwritten_of : (t : Class) (r s x : ℕ) → is_about t (ReadField s x) ≡ true
    → is_about t (Unwritten r s x) ≡ true
unwritten_of OfFrees r s x h = h
unwritten_of (OfRoot y) r s x h = h
unwritten_of (OfField k y) r s x h = h
unwritten_of OfNothing r s x h = h

root_of : (t : Class) (x : ℕ) → is_about t (ReadRoot x) ≡ true → is_about t (RootUnwritten x) ≡ true
root_of OfFrees x h = h
root_of (OfRoot y) x h = h
root_of (OfField k y) x h = h
root_of OfNothing x h = h

-- each of the origins is about the class
abbrev AreAbout : Class → Origins → Type 0
AreAbout t o = (a : Fact) → AmongOrigins a o → is_about t a ≡ true

about_one : (t : Class) (b : Fact) → is_about t b ≡ true → AreAbout t (One b)
about_one t b h a is = rw is h

about_two : (t : Class) (b c : Fact) → is_about t b ≡ true → is_about t c ≡ true
    → AreAbout t (Two b c)
about_two t b c h j a (inl is) = rw is h
about_two t b c h j a (inr is) = rw is j

about_none : (t : Class) → AreAbout t Nowhere
about_none t a m = absurd m

either : (t : Class) (has_bit : Bool) (u v : Origins) → AreAbout t u → AreAbout t v
    → AreAbout t (cond has_bit u v)
either t true u v h j = h
either t false u v h j = j

module _ (t : Class) where
  about_unwritten : (i : Instruction) (r s x : ℕ) → is_about t (Unwritten r s x) ≡ true
      → AreAbout t (origins i (Unwritten r s x))
  about_unwritten (Const to v) r s x h =
      either t (r == to) _ _ (about_one t Here (here_of t r s x h)) (about_one t _ h)
  about_unwritten (Bin op to left right) r s x h =
      either t (r == to) _ _ (about_one t Here (here_of t r s x h)) (about_one t _ h)
  about_unwritten (Copy to from) r s x h =
      either t (r == to) _ _ (about_one t _ (other_register t r from s x h)) (about_one t _ h)
  about_unwritten (Load to u) r s x h =
      either t (r == to) _ _ (about_one t Here (here_of t r s x h)) (about_one t _ h)
  about_unwritten (New to kind log_fill line) r s x h =
      either t (r == to) _ _ (about_none t) (about_one t _ h)
  about_unwritten (Store (Field b k y None) from line) r s x h =
      either t ((r == b) && ((s == k) && (x == y))) _ _ (about_none t) (about_one t _ h)
  about_unwritten (Store (Field b k y (Some i)) from line) r s x h = about_one t _ h
  about_unwritten (Store (Root y i) from line) r s x h = about_one t _ h
  about_unwritten _ r s x h = about_one t _ h

  about_root : (i : Instruction) (x : ℕ) → is_about t (RootUnwritten x) ≡ true
      → AreAbout t (origins i (RootUnwritten x))
  about_root (Store (Root y None) from line) x h =
      either t (x == y) _ _ (about_none t) (about_one t _ h)
  about_root (Store (Root y (Some i)) from line) x h = about_one t _ h
  about_root (Store (Field b k y i) from line) x h = about_one t _ h
  about_root _ x h = about_one t _ h

  about_root_read : (i : Instruction) (x : ℕ) → is_about t (ReadRoot x) ≡ true
      → AreAbout t (origins i (ReadRoot x))
  about_root_read (Load to (Root y i)) x h =
      either t (x == y) _ _ (about_two t _ _ h (root_of t x h)) (about_one t _ h)
  about_root_read (Load to (Field b k y i)) x h = about_one t _ h
  about_root_read _ x h = about_one t _ h

  about_field_read : (i : Instruction) (s x : ℕ) → is_about t (ReadField s x) ≡ true
      → AreAbout t (origins i (ReadField s x))
  about_field_read (Load to (Field b k y i)) s x h =
      either t ((s == k) && (x == y)) _ _ (about_two t _ _ h (unwritten_of t b s x h))
      (about_one t _ h)
  about_field_read (Load to (Root y i)) s x h = about_one t _ h
  about_field_read _ s x h = about_one t _ h

  about_freed : (i : Instruction) → is_about t Freed ≡ true → AreAbout t (origins i Freed)
  about_freed (Free from kind line) h = about_one t Here (here_freed t h)
  about_freed _ h = about_one t _ h

  pub about_origins : (i : Instruction) (b : Fact) → is_about t b ≡ true → AreAbout t (origins i b)
  about_origins i Here h = about_one t Here h
  about_origins i (Unwritten r s x) h = about_unwritten i r s x h
  about_origins i (RootUnwritten x) h = about_root i x h
  about_origins i (ReadRoot x) h = about_root_read i x h
  about_origins i (ReadField s x) h = about_field_read i s x h
  about_origins i Freed h = about_freed i h

  about_argument : (a : Option ℕ) (r s x : ℕ) → is_about t (Unwritten r s x) ≡ true
      → is_about t (argument_fact a s x) ≡ true
  about_argument None r s x h = here_of t r s x h
  about_argument (Some a) r s x h = other_register t r a s x h

  pub about_at_call : (args : List ℕ) (x : Fact) → is_about t x ≡ true
      → is_about t (at_call args x) ≡ true
  about_at_call args Here h = h
  about_at_call args (Unwritten r s x) h = about_argument (slice_get args r) r s x h
  about_at_call args (RootUnwritten x) h = h
  about_at_call args (ReadRoot x) h = h
  about_at_call args (ReadField s x) h = h
  about_at_call args Freed h = h

  -- the origin of a fact after a call, at the return, is about the class, or is that a walk returns
  abbrev AreAboutBack : Back → Type 0
  AreAboutBack (FromReturn y) = is_about t y ≡ true
  AreAboutBack Stays = is_about t Here ≡ true

  about_parameter : (j : Option ℕ) (r s x : ℕ) → is_about t (Unwritten r s x) ≡ true
      → AreAboutBack (from_parameter j s x)
  about_parameter None r s x h = here_of t r s x h
  about_parameter (Some j) r s x h = other_register t r j s x h

  either_back : (has_bit : Bool) (u v : Back) → AreAboutBack u → AreAboutBack v
      → AreAboutBack (cond has_bit u v)
  either_back true u v h j = h
  either_back false u v h j = j

  about_back : (to : ℕ) (args : List ℕ) (b : Fact) → is_about t b ≡ true
      → AreAboutBack (back to args b)
  about_back to args Here h = h
  about_back to args (Unwritten r s x) h =
      either_back (r == to) _ _ (here_of t r s x h)
      (about_parameter (position (λ a. a == r) args) r s x h)
  about_back to args (RootUnwritten x) h = h
  about_back to args (ReadRoot x) h = h
  about_back to args (ReadField s x) h = h
  about_back to args Freed h = h

  pub about_return : (to : ℕ) (args : List ℕ) (b y : Fact) → is_about t b ≡ true
      → back to args b ≡ FromReturn y → is_about t y ≡ true
  about_return to args b y h e = subst AreAboutBack e (about_back to args b h)

  pub about_stays : (to : ℕ) (args : List ℕ) (b : Fact) → is_about t b ≡ true
      → back to args b ≡ Stays → is_about t Here ≡ true
  about_stays to args b h e = subst AreAboutBack e (about_back to args b h)
