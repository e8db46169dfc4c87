-- A source has no log: no check of its meaning fails with a full log.
use Rattle.std.proofs.Common.{ℕ, zero, suc, ℤ, pos, negsuc, Bool, true, false, List}
use Rattle.std.proofs.Common.{nat_lt}
use Rattle.std.specs.Prelude.{Option, None, Some, Result, Ok, Err, if◌then◌else◌, option_map}
use Rattle.std.specs.Prelude.{option_and_then, slice_get}
use Rattle.std.specs.Option.{option_map_or}
use Rattle.c_tree.specs.ExprTree.{ExprTree}
use Rattle.c_tree.specs.ExprTree as expr
use Rattle.c_types.specs.Tables.{Tables, StructTree, number_at, root_struct}
use Rattle.pool_map.specs.declared.trap.TrapKind.{TrapKind}
use Rattle.pool_map.specs.declared.trap.TrapKind.TheVariants as trap
use Rattle.pool_map.specs.PoolMap.{PoolMap, object_at}
use Rattle.pool_map.specs.Checks.{then_on, element_in}
use Rattle.c_meaning.specs.declared.trap_at.TrapAt.{TrapAt}
use Rattle.c_meaning.specs.Locals.{Local}
use Rattle.c_meaning.specs.Access.{is_struct_kind, struct_slot, word_in_struct, struct_word_at}
use Rattle.c_meaning.specs.Access.{struct_pointed_by, field_elements}
use Rattle.c_meaning.specs.Access.{word_named, target_field, free_object}
use Rattle.c_meaning.specs.Meaning.{at_place, at_target, located}

-- the traps that a source can come to
abbrev pub IsOwn : TrapKind → Type 0
IsOwn trap.LogFull = ⊥
IsOwn trap.Null = Unit {0}
IsOwn trap.Stale = Unit {0}
IsOwn trap.Index = Unit {0}
IsOwn trap.Divide = Unit {0}
IsOwn trap.Steps = Unit {0}
IsOwn trap.Abort = Unit {0}
IsOwn trap.Depth = Unit {0}

-- a check that fails with such a trap, if at all
abbrev pub Fails : {A : Type 0} → Result A TrapKind → Type 0
Fails (Ok a) = Unit {0}
Fails (Err kind) = IsOwn kind

abbrev pub FailsAt : {A : Type 0} → Result A TrapAt → Type 0
FailsAt (Ok a) = Unit {0}
FailsAt (Err trap) = IsOwn trap.kind

-- the checks of a pointer, of an index and of a field

pub placed_fails : {A : Type 0} (place : ℕ) (r : Result A TrapKind) → Fails r
    → FailsAt (at_place place r)
placed_fails place (Ok a) h = tt
placed_fails place (Err kind) h = h

targeted : {A : Type 0} (e : ExprTree) (r : Result A TrapKind) → Fails r → FailsAt (at_target e r)
targeted e (Ok a) h = tt
targeted e (Err kind) h = h

then_fails : {A B : Type 0} (r : Result A TrapKind) (go : A → Result B TrapKind) → Fails r
    → ((a : A) → Fails (go a)) → Fails (then_on r go)
then_fails (Ok a) go h next = next a
then_fails (Err kind) go h next = h

index_fails : (n : ℕ) (i : ℤ) → Fails (element_in n i)
index_fails n (pos i) = by_test (nat_lt i n)
  where
    by_test : (b : Bool) → Fails (if b then Ok i else Err trap.Index)
    by_test true = tt
    by_test false = tt
index_fails n (negsuc i) = tt

slot_fails : (p : PoolMap) (kind : Option ℕ) (pointer : ℤ) → Fails (struct_slot p kind pointer)
slot_fails p kind (pos zero) = tt
slot_fails p kind (pos (suc n)) = by_test (is_struct_kind (object_at p (suc n)) kind)
  where
    by_test : (b : Bool) → Fails (if b then Ok (suc n) else Err trap.Stale)
    by_test true = tt
    by_test false = tt
slot_fails p kind (negsuc n) = tt

struct_fails : (s : StructTree) (name : List ℕ) (index : Option ℤ)
    → Fails (word_in_struct s name index)
struct_fails s name None = tt
struct_fails s name (Some i) =
    then_fails (element_in (field_elements s name) i) _ (index_fails (field_elements s name) i)
    (λ n. tt)

at_fails : (o : Option StructTree) (name : List ℕ) (index : Option ℤ)
    → Fails (option_map_or (λ s. word_in_struct s name index) o (Ok 0))
at_fails None name index = tt
at_fails (Some s) name index = struct_fails s name index

word_at_fails : (t : Tables) (at : Option ℕ) (name : List ℕ) (index : Option ℤ)
    → Fails (struct_word_at t at name index)
word_at_fails t at name index = at_fails (option_and_then (slice_get t.structs) at) name index

module _ (t : Tables) (ls : List Local) (p : PoolMap) where
  word_fails : (e : ExprTree) (pointer : ℤ) (index : Option ℤ)
      → Fails (word_named t ls p e pointer index)
  word_fails (expr.Root name) pointer index =
      then_fails (struct_word_at t (root_struct t) name.text index) _
      (word_at_fails t (root_struct t) name.text index) (λ i. tt)
  word_fails (expr.Arrow base place name) pointer index =
      then_fails (struct_slot p (option_map (number_at t) (struct_pointed_by t ls base)) pointer) _
      (slot_fails p (option_map (number_at t) (struct_pointed_by t ls base)) pointer)
      (λ s. then_fails (struct_word_at t (struct_pointed_by t ls base) name.text index) _
      (word_at_fails t (struct_pointed_by t ls base) name.text index) (λ i. tt))
  word_fails (expr.Number n) pointer index = tt
  word_fails expr.Null pointer index = tt
  word_fails (expr.Variable name) pointer index = tt
  word_fails (expr.Call name all) pointer index = tt
  word_fails (expr.New place name) pointer index = tt
  word_fails (expr.Index a place i) pointer index = tt
  word_fails (expr.Unary op place a) pointer index = tt
  word_fails (expr.Binary op place a b) pointer index = tt
  word_fails (expr.Conditional c place a b) pointer index = tt

  pub located_fails : (e : ExprTree) (pointer : ℤ) (index : Option ℤ)
      → FailsAt (located t ls p e pointer index)
  located_fails e pointer index =
      targeted e (word_named t ls p (target_field e) pointer index)
      (word_fails (target_field e) pointer index)

  pub free_fails : (e : ExprTree) (pointer : ℤ) → Fails (free_object t ls p e pointer)
  free_fails e pointer =
      then_fails (struct_slot p (option_map (number_at t) (struct_pointed_by t ls e)) pointer) _
      (slot_fails p (option_map (number_at t) (struct_pointed_by t ls e)) pointer) (λ s. tt)
