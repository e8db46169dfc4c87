-- Programs that are well typed, as rules, row by row of the table of typing rules.
use Rattle.std.specs.Prelude.{ℕ, ◌≡◌, ◌+◌, ◌<◌, ◌≤◌, List, [], ◌∷◌, Option, None, Some, true, false}
use Rattle.std.specs.Prelude.{slice_get}
use Rattle.c_tree.specs.declared.expr.IntType.{IntType}
use Rattle.c_tree.specs.StmtTree.{TypeTree}
use Rattle.c_tree.specs.StmtTree as stmt
use Rattle.c_tree.specs.ItemTree.{FieldTree, FunctionTree, LengthTree, ParameterTree}
use Rattle.c_tree.specs.declared.item.Marked.TheVariants as mark
use Rattle.c_types.specs.Tables.{Tables, StructTree, RootTree, index_of, field_names}
use Rattle.c_types.specs.Tables.{function_names, struct_named, root_struct, words_of_struct}
use Rattle.c_types.specs.Tables.{is_length}
use Rattle.c_types.specs.Expressions.{Scope}
use Rattle.c_types.specs.Statements.{inner_scopes, is_declared}
use Rattle.c_types.specs.Declarations.{scopes_after_parameter, scopes_after_parameters}
use Rattle.rules_law.specs.typed.Types.{StaticType, IsWritten}
use Rattle.rules_law.specs.typed.Statements.{AreStatements}
use Rattle.rules_law.specs.rules.Stores.{Stores}
use Rattle.pool_map.specs.declared.limits.TheConstants.{OBJECT_WORDS, ROOT_WORDS}

abbrev pub IsLength : Option LengthTree → Type 0
IsLength None = Unit {0}
IsLength (Some l) = is_length l.value ≡ true

-- the field at place j: the first of its name, of a type that is there
pub record IsField (t : Tables) (s : StructTree) (j : ℕ) (f : FieldTree) : Type 0 where
  pub first : index_of f.name.text (field_names s) ≡ Some j
  pub typed : (x : StaticType) × IsWritten t f.ty x
  pub long : IsLength f.len

-- the struct at place i: one of at most 255, the first of its name, with few enough words,
-- by the limit of the root if it is the root's
pub record IsStruct (t : Tables) (i : ℕ) (s : StructTree) : Type 0 where
  pub few : i < 255
  pub first : struct_named t s.name.text ≡ Some i
  pub root : root_struct t ≡ Some i → words_of_struct s ≤ ROOT_WORDS
  pub small : (root_struct t ≡ Some i → ⊥) → words_of_struct s ≤ OBJECT_WORDS
  pub fields : (j : ℕ) (f : FieldTree) → slice_get s.fields j ≡ Some f → IsField t s j f

-- the parameters from place i on, in the scope of those before: at most 22, with names of their own
abbrev pub AreParameters : Tables → List Scope → ℕ → List ParameterTree → Type 0
AreParameters t s i [] = Unit {0}
AreParameters t s i (p ∷ ps) = ((x : StaticType) × IsWritten t p.ty x) × (i < 22)
    × (is_declared p.name.text s ≡ false) × AreParameters t (scopes_after_parameter t s p)
    (i + 1) ps

abbrev pub AreInts : List ParameterTree → Type 0
AreInts [] = Unit {0}
AreInts (p ∷ ps) = ((n : IntType) × (p.ty ≡ stmt.Int n)) × AreInts ps

abbrev pub IsResult : Tables → Option TypeTree → Type 0
IsResult t None = Unit {0}
IsResult t (Some ty) = (x : StaticType) × IsWritten t ty x

-- the function at place i: one of at most 1,024, the first of its name; a transaction takes numbers
-- and gives one, and if it is marked `const` it doesn't store; the parameters and the outermost
-- block are one scope
pub record IsTypedFunction (t : Tables) (i : ℕ) (f : FunctionTree) : Type 0 where
  pub few : i < 1024
  pub first : index_of f.name.text (function_names t) ≡ Some i
  pub result : IsResult t f.result_type
  pub transaction : f.tx ≡ true
      → ((n : IntType) × (f.result_type ≡ Some (stmt.Int n))) × AreInts f.parameters
  pub looks : f.mark ≡ mark.Const → Stores t f → ⊥
  pub parameters : AreParameters t (inner_scopes []) 0 f.parameters
  pub body : AreStatements t f.result_type
      (scopes_after_parameters t (inner_scopes []) f.parameters) f.body

-- one root is declared, and its struct is there
pub record IsWellTyped (t : Tables) : Type 0 where
  pub structs : (i : ℕ) (s : StructTree) → slice_get t.structs i ≡ Some s → IsStruct t i s
  pub root : (r : RootTree) × (i : ℕ) × (t.roots ≡ r ∷ []) × (struct_named t r.name.text ≡ Some i)
  pub functions : (i : ℕ) (f : FunctionTree) → slice_get t.functions i ≡ Some f
      → IsTypedFunction t i f
