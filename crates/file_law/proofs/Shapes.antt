-- Where no struct differs, the new program's shapes begin with the former one's, and both have
-- slots of one width.
use Rattle.std.proofs.Common.{◌≡◌, ℕ, suc, ◌-◌, ◌≤◌, ℤ, Bool, true, false, ◌&&◌, nat_le}
use Rattle.std.proofs.Common.{if◌then◌else◌, List, [], ◌∷◌, ◌++◌, map, Option, Some, None}
use Rattle.std.proofs.Common.{slice_get}
use Rattle.std.proofs.Common.{option_map, bytes_eq, refl, sym, ap, ◌∙◌, arith}
use Rattle.std.specs.Int.{w64, cast_unsigned}
use Rattle.std.specs.Option.{option_map_or}
use Rattle.std.proofs.lemmas.Bool.{and_parts}
use Rattle.std.proofs.lemmas.Bool.Decides.{Decides-int_eq}
use Rattle.std.proofs.lemmas.Option.{none-some}
use Rattle.std.proofs.lemmas.Slice.Eq.{bytes_eq-Decides}
use Rattle.pool_map.specs.PoolFits.{words_of}
use Rattle.pool_map.specs.Width.{slot_words}
use Rattle.pool_layout.specs.Sizes as sizes
use Rattle.c_tree.specs.declared.expr.IntType.{IntType}
use Rattle.c_tree.specs.declared.expr.IntType.TheVariants.{Signed, Unsigned}
use Rattle.c_tree.specs.StmtTree.{TypeTree, Int, Pointer}
use Rattle.c_tree.specs.ItemTree.{FieldTree, LengthTree}
use Rattle.c_tree.specs.Program.{tree_of}
use Rattle.c_types.specs.Fault.{breaks}
use Rattle.c_types.specs.Tables.{Tables, StructTree, tables_of, root_struct, words_of_struct}
use Rattle.c_types.specs.Shapes.{shapes_of, field_shape, struct_shape, numbered_in, root_fields}
use Rattle.c_types.specs.Shapes.{is_unsigned}
use Rattle.lower.proofs.Sane.{sane}
use Rattle.tree_law.proofs.checked.Words.{struct_words, numbered_one}
use Rattle.cnvm_session.specs.Former.{is_same_int, is_same_type, is_same_length, is_same_field}
use Rattle.cnvm_session.specs.declared.program.Program.{Program}
use Rattle.cnvm_session.specs.Former.{are_same_fields, is_same_struct, first_wider, numbered_other}
use Rattle.cnvm_session.specs.Former.{root_name, other_in, slot_room, first_other}
use Rattle.cnvm_session.specs.Pool.{sizes_of}
use Rattle.session_law.specs.Agrees.{Agrees}
use Rattle.file_law.specs.Moved.{HasShapesOf, FormerShapesLaw, SizesLaw}
use Rattle.file_law.proofs.SameSizes.{same_sizes}
use Rattle.file_law.proofs.Widths.{none_wider, same_width}

same_bytes : (xs ys : List ℕ) → bytes_eq xs ys ≡ true → xs ≡ ys
same_bytes xs ys is = (bytes_eq-Decides xs ys).0 is

abbrev length_of : Option LengthTree → Option ℕ
length_of o = option_map (λ l. cast_unsigned w64 l.value) o

same_length : (m n : Option LengthTree) → is_same_length m n ≡ true → length_of m ≡ length_of n
same_length None None is = refl
same_length None (Some n) is = absurd (cc)
same_length (Some m) None is = absurd (cc)
same_length (Some m) (Some n) is =
    ap (λ (x : ℤ). Some (cast_unsigned w64 x)) ((Decides-int_eq m.value n.value).0 is)

same_int : (m n : IntType) → is_same_int m n ≡ true → m ≡ n
same_int Signed Signed is = refl
same_int Unsigned Unsigned is = refl
same_int Signed Unsigned is = absurd (cc)
same_int Unsigned Signed is = absurd (cc)

same_type : (s t : TypeTree) → is_same_type s t ≡ true → is_unsigned s ≡ is_unsigned t
same_type (Int m) (Int n) is = ap (λ (k : IntType). is_unsigned (Int k)) (same_int m n is)
same_type (Int m) (Pointer b) is = absurd (cc)
same_type (Pointer a) (Int n) is = absurd (cc)
same_type (Pointer a) (Pointer b) is = refl

same_field : (f g : FieldTree) → is_same_field f g ≡ true → field_shape f ≡ field_shape g
same_field f g is =
    let types = and_parts (is_same_type f.ty g.ty)
    (bytes_eq f.name.text g.name.text && is_same_length f.len g.len) is in
    let names = and_parts (bytes_eq f.name.text g.name.text) (is_same_length f.len g.len) types.1 in
    let kind = same_type f.ty g.ty types.0 in
    let name = same_bytes f.name.text g.name.text names.0 in
    let long = same_length f.len g.len names.1 in
    λ i. record { name = name i; unsigned = kind i; length = long i }

same_fields : (fs gs : List FieldTree) → are_same_fields fs gs ≡ true
    → map field_shape fs ≡ map field_shape gs
same_fields [] [] is = refl
same_fields [] (g ∷ gs) is = absurd (cc)
same_fields (f ∷ fs) [] is = absurd (cc)
same_fields (f ∷ fs) (g ∷ gs) is =
    let parts = and_parts (is_same_field f g) (are_same_fields fs gs) is in
    let head = same_field f g parts.0 in
    let tail = same_fields fs gs parts.1 in
    λ i. head i ∷ tail i

same_struct : (s t : StructTree) → is_same_struct s t ≡ true → struct_shape s ≡ struct_shape t
same_struct s t is =
    let parts = and_parts (bytes_eq s.name.text t.name.text) (are_same_fields s.fields t.fields)
    is in
    let name = same_bytes s.name.text t.name.text parts.0 in
    let fields = same_fields s.fields t.fields parts.1 in
    λ i. record { name = name i; fields = fields i }

-- The second list has the first one's shapes, and then those of more structs, none of which is too
-- large.
record BeginsWith (room : ℕ) (ss ts : List StructTree) : Type 0 where
  more : List StructTree
  shapes : map struct_shape ts ≡ map struct_shape ss ++ map struct_shape more
  few : first_wider room more ≡ None
  among : (k : ℕ) (s : StructTree) → slice_get more k ≡ Some s
      → (j : ℕ) × (slice_get ts j ≡ Some s)

begins : (room : ℕ) (ss ts : List StructTree) → numbered_other room ss ts ≡ None
    → BeginsWith room ss ts
begins room [] ts none = record {
  more = ts;
  shapes = refl;
  few = none;
  among = λ k s is. (k, is);
}
begins room (s ∷ ss) [] none = absurd (none-some s.name.text (sym none))
begins room (s ∷ ss) (t ∷ ts) none =
    go (is_same_struct s t) refl none (begins room ss ts)
  where
    go : (b : Bool) → is_same_struct s t ≡ b
        → option_map_or (numbered_other room ss) (if b then Some ts else None) (Some s.name.text)
        ≡ None
        → (numbered_other room ss ts ≡ None → BeginsWith room ss ts)
        → BeginsWith room (s ∷ ss) (t ∷ ts)
    go true e rest more =
        let tail = more rest in
        let head = sym (same_struct s t e) in
        record {
          more = tail.more;
          shapes = λ i. head i ∷ tail.shapes i;
          few = tail.few;
          among = λ k x is. let place = tail.among k x is in (suc place.0, place.1);
        }
    go false e some more = absurd (none-some s.name.text (sym some))

module _ (room : ℕ) (former new : Tables) where
  abbrev Agree : Type 0
  Agree = (are_same_fields (root_fields former) (root_fields new) ≡ true)
      × (numbered_other room (numbered_in former) (numbered_in new) ≡ None)

  agree : other_in room former new ≡ None → Agree
  agree none = go (are_same_fields (root_fields former) (root_fields new)) refl none
    where
      go : (b : Bool) → are_same_fields (root_fields former) (root_fields new) ≡ b
          → (if b then numbered_other room (numbered_in former) (numbered_in new)
          else Some (root_name former new)) ≡ None → Agree
      go true e rest = (e, rest)
      go false e some = absurd (none-some (root_name former new) (sym some))

module _ (former new : Program) (none : first_other former.typed new.typed ≡ None) where
  abbrev old_tables : Tables
  old_tables = tables_of (tree_of former.typed)

  abbrev new_tables : Tables
  new_tables = tables_of (tree_of new.typed)

  abbrev room : ℕ
  room = slot_room former.typed

  agreed : Agree room old_tables new_tables
  agreed = agree room old_tables new_tables none

  begun : BeginsWith room (numbered_in old_tables) (numbered_in new_tables)
  begun = begins room (numbered_in old_tables) (numbered_in new_tables) agreed.1

  shapes_same : HasShapesOf former new
  shapes_same = record {
    root = sym (same_fields (root_fields old_tables) (root_fields new_tables) agreed.0);
    more = map struct_shape begun.more;
    structs = begun.shapes;
  }

  -- the structs that come after have no more words than a slot of the former program has room for
  module _ (checked : breaks new.typed ≡ []) where
    few_words : (k : ℕ) (s : StructTree) → slice_get begun.more k ≡ Some s
        → nat_le (words_of_struct s) room ≡ true → words_of (map field_shape s.fields) ≤ room
    few_words k s is few =
        let place = begun.among k s is in
        let one = numbered_one (root_struct new_tables) 0 new_tables.structs place.0 s place.1 in
        struct_words new_tables s room ((sane new.typed checked).fields one.0 s one.1).1 few
        (omega arith)

    width_same : slot_words (shapes_of new.typed).structs
        ≡ slot_words (shapes_of former.typed).structs
    width_same =
        ap slot_words begun.shapes
        ∙ same_width (shapes_of former.typed).structs (map struct_shape begun.more)
        (none_wider room begun.more few_words begun.few)

    lines_same : Agrees former → Agrees new
        → (sizes_of new).slot_lines ≡ (sizes_of former).slot_lines
    lines_same was is =
        let same : sizes.slot_words (sizes_of new) ≡ sizes.slot_words (sizes_of former) =
        is.width ∙ width_same ∙ sym was.width in
        omega (arith, same)

pub same_shapes : FormerShapesLaw
same_shapes former new none = shapes_same former new none

-- so the roots have as many words, and the slots as many lines, where both programs agree with
-- their sources
pub moved_sizes : SizesLaw
moved_sizes former new none checked was is slots records ticks =
    let shapes : HasShapesOf former new = same_shapes former new none in
    same_sizes (sizes_of new) (sizes_of former) slots records
    (sym is.root ∙ ap words_of shapes.root ∙ was.root)
    (lines_same former new none checked was is) ticks
