-- A field of the root, a field after `->`, a new object and a freed one find what they ask
-- for.
use Rattle.std.proofs.Common.{◌≡◌, ℕ, zero, suc, ◌≤◌, min, ◌^◌, ◌-◌, ℤ, pos, negsuc, Bool}
use Rattle.std.proofs.Common.{true}
use Rattle.std.proofs.Common.{false, List, [], length, map, refl, sym, ap, ◌∙◌, subst, arith}
use Rattle.std.proofs.Common.{IfSome, IsSomeAnd, ⊎_elim, ◌≢◌}
use Rattle.std.specs.Prelude.{Option, None, Some, Result, Ok, Err, slice_get, nat_eq}
use Rattle.std.specs.Prelude.{if◌then◌else◌}
use Rattle.std.specs.Option.{option_map_or}
use Rattle.std.proofs.lemmas.Bool.Decides.{eqb_tells}
use Rattle.std.proofs.lemmas.Bool.{true≢false}
use Rattle.std.proofs.lemmas.Option.{same_Some}
use Rattle.nvm_base.proofs.Tests.{le_true}
use Rattle.c_tree.specs.ExprTree.{ExprTree, Ident}
use Rattle.c_tree.specs.ExprTree as expr
use Rattle.c_tree.specs.ItemTree.{FieldTree, LengthTree}
use Rattle.c_tree.specs.StmtTree.{TypeTree}
use Rattle.c_tree.specs.StmtTree as stmt
use Rattle.c_types.specs.Tables.{Tables, StructTree, field_named, root_struct, struct_named}
use Rattle.c_types.specs.Tables.{words_of_struct, number_at, pointed_struct, pointed_limit}
use Rattle.c_types.specs.Expressions.{type_of}
use Rattle.c_types.specs.Shapes.{field_shape, struct_shape, shapes_in, root_fields}
use Rattle.pool_map.specs.PoolFits.{PoolFits, ObjectFits, words_of, struct_at}
use Rattle.pool_map.specs.PoolMap.{PoolMap, object_at, least_free}
use Rattle.pool_map.specs.declared.object.Object.{Object}
use Rattle.pool_map.specs.declared.shapes.StructShape.{StructShape}
use Rattle.pool_map.specs.declared.trap.TrapKind.{TrapKind}
use Rattle.pool_map.specs.declared.trap.TrapKind.TheVariants as trap
use Rattle.pool_map.specs.Checks.{then_on}
use Rattle.pool_map.specs.declared.word.PoolWord.TheVariants.{Root, Field}
use Rattle.c_meaning.specs.Locals.{Local, scopes_of}
use Rattle.c_meaning.specs.Access.{struct_slot, is_struct_kind, struct_pointed_by}
use Rattle.c_meaning.specs.Access.{struct_word_at, new_object}
use Rattle.ir.specs.WellFormed.{struct_of}
use Rattle.lower.specs.Names.{struct_kind_at, kind_named}
use Rattle.lower.proofs.Sane.{IsSane, IsKindOf, index_of_in, kind_of_struct}
use Rattle.code_meaning.specs.Code.{fields_of}
use Rattle.lower_law.proofs.names.Fields.{new_word, numbered_few}
use Rattle.rules_law.specs.typed.Types.{StaticType, Number, PointerTo, NullPointer, value_type}
use Rattle.rules_law.specs.typed.Types.{IsPointer, IsWritten, HasValueField, HasArray}
use Rattle.rules_law.specs.typed.Programs.{IsWellTyped}
use Rattle.rules_law.proofs.typed.Fitting.{pointer_kept}
use Rattle.sound_law.specs.Places.{LeadsInto, IsNumbered, IndexFits, HasMember, FindsWord}
use Rattle.sound_law.proofs.Pools.{object_fits, new_fits}
use Rattle.sound_law.proofs.Words.{Below, placed, member, word_below}

-- a pointer's struct is there, and small
abbrev pub IsSmall : Tables → StaticType → Type 0
IsSmall t (Number n) = Unit {0}
IsSmall t NullPointer = Unit {0}
IsSmall t (PointerTo i) = (s : StructTree) × (slice_get t.structs i ≡ Some s)
    × (words_of_struct s ≤ pointed_limit (root_struct t) i)

pub pointer_small : (t : Tables) (name : List ℕ) (x : StaticType) → IsPointer t name x
    → IsSmall t x
pointer_small t name x h =
    let there : (s : StructTree) × (slice_get t.structs h.place ≡ Some s) =
    index_of_in (λ (s : StructTree). s.name.text) name t.structs h.place h.named in
    let small : words_of_struct there.0 ≤ pointed_limit (root_struct t) h.place =
    subst (λ (o : Option StructTree). option_map_or words_of_struct o 0
    ≤ pointed_limit (root_struct t) h.place) there.1 h.small in
    rw h.is (there.0, there.1, small)

pub written_small : (t : Tables) (ty : TypeTree) (x : StaticType) → IsWritten t ty x → IsSmall t x
written_small t (stmt.Int n) x h = rw h tt
written_small t (stmt.Pointer name) x h = pointer_small t name.text x h

-- a field that is there, used as it must be
pub record Member (t : Tables) (i : ℕ) (name : List ℕ) (index : Option ℤ) : Type 0 where
  pub owner : StructTree
  pub there : slice_get t.structs i ≡ Some owner
  pub field : FieldTree
  pub named : field_named owner name ≡ Some field
  pub indexed : IndexFits field.len index

pub single : (t : Tables) (i : ℕ) (name : List ℕ) (x : StaticType) → HasValueField t i name x
    → Member t i name None
single t i name x h = record {
  owner = h.owner;
  there = h.there;
  field = h.field;
  named = h.named;
  indexed = subst (λ (o : Option LengthTree). IndexFits o None) (sym h.single) tt;
}

pub many : (t : Tables) (i : ℕ) (name : List ℕ) (x : StaticType) (j : ℤ) → HasArray t i name x
    → Member t i name (Some j)
many t i name x j h = record {
  owner = h.owner;
  there = h.there;
  field = h.field;
  named = h.named;
  indexed = subst (λ (o : Option LengthTree). IndexFits o (Some j)) (sym h.many) h.within;
}

into_root : (p : PoolMap) (n : ℕ) (r : Result ℕ TrapKind) → length p.root ≡ n → Below n r
    → LeadsInto p (then_on r (λ i. Ok (Root i)))
into_root p n (Ok i) is h = omega (arith, is, h)
into_root p n (Err k) is h = tt

-- an object of that kind has n words
abbrev HaveWords : PoolMap → ℕ → ℕ → Type 0
HaveWords p kind n = (q : ℕ) (object : Object) → object_at p q ≡ Some object
    → object.kind ≡ kind → length object.fields ≡ n

into_slot : (p : PoolMap) (kind n : ℕ) (b : ℤ) (r : Result ℕ TrapKind) → HaveWords p kind n
    → Below n r → LeadsInto p (then_on (struct_slot p (Some kind) b)
    (λ s. then_on r (λ i. Ok (Field s i))))
into_slot p kind n (pos zero) r have h = tt
into_slot p kind n (negsuc b) r have h = tt
into_slot p kind n (pos (suc b)) r have h = by_object (object_at p (suc b)) refl
  where
    by_word : (object : Object) (r : Result ℕ TrapKind) → object_at p (suc b) ≡ Some object
        → length object.fields ≡ n → Below n r
        → LeadsInto p (then_on r (λ i. Ok (Field (suc b) i)))
    by_word object (Ok i) at long h = rw at (omega (arith, long, h))
    by_word object (Err k) at long h = tt

    by_kind : (object : Object) (c : Bool) → object_at p (suc b) ≡ Some object
        → nat_eq object.kind kind ≡ c
        → LeadsInto p (then_on (if c then Ok (suc b) else Err trap.Stale)
        (λ s. then_on r (λ i. Ok (Field s i))))
    by_kind object true at e = by_word object r at (have (suc b) object at (same e)) h
      where
        same : nat_eq object.kind kind ≡ true → object.kind ≡ kind
        same e = ⊎_elim (λ (d : (nat_eq object.kind kind ≡ true) × (object.kind ≡ kind)). d.1)
            (λ (d : (nat_eq object.kind kind ≡ false) × (object.kind ≢ kind)).
            absurd (true≢false (sym e ∙ d.0))) (eqb_tells object.kind kind)
    by_kind object false at e = tt

    by_object : (o : Option Object) → object_at p (suc b) ≡ o
        → LeadsInto p (then_on (if is_struct_kind o (Some kind) then Ok (suc b)
        else Err trap.Stale) (λ s. then_on r (λ i. Ok (Field s i))))
    by_object None at = tt
    by_object (Some object) at = by_kind object (nat_eq object.kind kind) at refl

module _ (t : Tables) (sane : IsSane t) (typed : IsWellTyped t) where
  number_is : (i : ℕ) → struct_kind_at t (Some i) ≡ number_at t i
  number_is i =
      small (number_at t i) (length t.structs) (numbered_few (root_struct t) i 0 t.structs)
      sane.structs
    where
      small : (n m : ℕ) → n ≤ m → m ≤ 255 → min n (2 ^ 32 - 1) ≡ n
      small n m le few = omega (arith, le, few)

  -- the shape of the objects of a struct
  shape_at : (i : ℕ) (s : StructTree) → slice_get t.structs i ≡ Some s
      → words_of_struct s ≤ pointed_limit (root_struct t) i
      → struct_at (shapes_in t).structs (number_at t i) ≡ Some (struct_shape s)
  shape_at i s is small =
      let k : IsKindOf t i s = kind_of_struct t i s sane.structs is
      (le_true (words_of_struct s) (pointed_limit (root_struct t) i) small) in
      subst (λ n. struct_at (shapes_in t).structs n ≡ Some (struct_shape s)) (number_is i)
      (there (struct_kind_at t (Some i)) k.shape)
    where
      there : (n : ℕ) → struct_of (shapes_in t) n ≡ Some (struct_shape s)
          → struct_at (shapes_in t).structs n ≡ Some (struct_shape s)
      there zero e = e
      there (suc n) e = e

  -- the objects of a struct have its words
  have_words : (i : ℕ) (s : StructTree) (p : PoolMap) → slice_get t.structs i ≡ Some s
      → words_of_struct s ≤ pointed_limit (root_struct t) i → PoolFits (shapes_in t) p
      → HaveWords p (number_at t i) (words_of (map field_shape s.fields))
  have_words i s p is small fits q object at kind =
      let own : ObjectFits (shapes_in t).structs object =
      subst (λ (o : Option Object). IfSome o (ObjectFits (shapes_in t).structs)) at
      (object_fits (shapes_in t) p q fits) in
      subst (λ (o : Option StructShape). IsSomeAnd o (λ shape. length object.fields
      ≡ words_of shape.fields)) (ap (struct_at (shapes_in t).structs) kind ∙ shape_at i s is small)
      own

  member_there : (i : ℕ) (at : Option ℕ) (name : List ℕ) (index : Option ℤ) → at ≡ Some i
      → Member t i name index → HasMember t at name index
  member_there i at name index known h =
      member t at i h.owner name h.field index known h.there (typed.structs i h.owner h.there)
      (placed t i h.owner name h.field sane h.there h.named) h.indexed

  words_below : (i : ℕ) (name : List ℕ) (index : Option ℤ) (h : Member t i name index)
      → Below (words_of (map field_shape h.owner.fields)) (struct_word_at t (Some i) name index)
  words_below i name index h =
      rw h.there (word_below h.owner name h.field index
      (placed t i h.owner name h.field sane h.there h.named) h.named h.indexed)

  -- a field of the root
  pub root_finds : (i : ℕ) (name : Ident) (ls : List Local) (p : PoolMap) (b : ℤ)
      (index : Option ℤ) → root_struct t ≡ Some i → Member t i name.text index
      → PoolFits (shapes_in t) p → FindsWord t ls p (expr.Root name) b index
  root_finds i name ls p b index is h fits =
      let fields : root_fields t ≡ h.owner.fields = rw (is, h.there) refl in
      let long : length p.root ≡ words_of (map field_shape h.owner.fields) =
      fits.0 ∙ ap (λ (fs : List FieldTree). words_of (map field_shape fs)) fields in (
        member_there i (root_struct t) name.text index is h,
        into_root p (words_of (map field_shape h.owner.fields))
            (struct_word_at t (root_struct t) name.text index) long
            (subst (λ (o : Option ℕ). Below (words_of (map field_shape h.owner.fields))
            (struct_word_at t o name.text index)) (sym is) (words_below i name.text index h)),
      )

  pub small_numbered : (i : ℕ) (at : Option ℕ) → at ≡ Some i → IsSmall t (PointerTo i)
      → IsNumbered t at
  small_numbered i at is small = (i, small.0, is, small.1, small.2, typed.structs i small.0 small.1)

  pub points_to : (ls : List Local) (e : ExprTree) (i : ℕ)
      → type_of t (scopes_of ls) e ≡ value_type (PointerTo i)
      → struct_pointed_by t ls e ≡ Some i
  points_to ls e i is = ap pointed_struct is

  -- a field after `->`
  pub arrow_finds : (i : ℕ) (base : ExprTree) (place : ℕ) (name : Ident) (ls : List Local)
      (p : PoolMap) (b : ℤ) (index : Option ℤ)
      → type_of t (scopes_of ls) base ≡ value_type (PointerTo i) → IsSmall t (PointerTo i)
      → Member t i name.text index → PoolFits (shapes_in t) p
      → FindsWord t ls p (expr.Arrow base place name) b index
  arrow_finds i base place name ls p b index is small h fits =
      let at : struct_pointed_by t ls base ≡ Some i = points_to ls base i is in
      let same : h.owner ≡ small.0 = same_Some h.owner small.0 (sym h.there ∙ small.1) in
      let few : words_of_struct h.owner ≤ pointed_limit (root_struct t) i =
      subst (λ (s : StructTree). words_of_struct s ≤ pointed_limit (root_struct t) i) (sym same)
      small.2 in (
        small_numbered i (struct_pointed_by t ls base) at small,
        member_there i (struct_pointed_by t ls base) name.text index at h,
        rw at (into_slot p (number_at t i) (words_of (map field_shape h.owner.fields)) b
            (struct_word_at t (Some i) name.text index)
            (have_words i h.owner p h.there few fits) (words_below i name.text index h)),
      )

  -- a new object
  pub new_leaves : (name : Ident) (x : StaticType) (p : PoolMap) → IsPointer t name.text x
      → PoolFits (shapes_in t) p → PoolFits (shapes_in t) (new_object t p name.text).1
  new_leaves name x p h fits =
      let there : (s : StructTree) × (slice_get t.structs h.place ≡ Some s) =
      index_of_in (λ (s : StructTree). s.name.text) name.text t.structs h.place h.named in
      let small : words_of_struct there.0 ≤ pointed_limit (root_struct t) h.place =
      subst (λ (o : Option StructTree). option_map_or words_of_struct o 0
      ≤ pointed_limit (root_struct t) h.place) there.1 h.small in
      let k : IsKindOf t h.place there.0 = kind_of_struct t h.place there.0 sane.structs there.1
      (le_true (words_of_struct there.0) (pointed_limit (root_struct t) h.place) small) in
      let kind : kind_named t name.text ≡ number_at t h.place =
      ap (struct_kind_at t) h.named ∙ number_is h.place in
      let shape : struct_of (shapes_in t) (kind_named t name.text) ≡ Some (struct_shape there.0) =
      ap (λ (o : Option ℕ). struct_of (shapes_in t) (struct_kind_at t o)) h.named ∙ k.shape in
      let words : words_of (fields_of (shapes_in t) (kind_named t name.text))
      ≡ words_of (map field_shape there.0.fields) =
      ap (λ (o : Option StructShape). words_of (option_map_or (λ (s : StructShape). s.fields) o []))
      shape in
      subst (λ (r : ℤ × PoolMap). PoolFits (shapes_in t) r.1)
      (sym (new_word t name p sane (pointer_kept t name x h)))
      (new_fits (shapes_in t) p (kind_named t name.text)
      (words_of (fields_of (shapes_in t) (kind_named t name.text))) (least_free p)
      (struct_shape there.0)
      (ap (struct_at (shapes_in t).structs) kind ∙ shape_at h.place there.0 there.1 small)
      words fits)

  pub new_numbered : (name : Ident) (x : StaticType) → IsPointer t name.text x
      → IsNumbered t (struct_named t name.text)
  new_numbered name x h =
      small_numbered h.place (struct_named t name.text) h.named
      (subst (λ (y : StaticType). IsSmall t y) h.is (pointer_small t name.text x h))
