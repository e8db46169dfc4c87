-- The types that the tree's meaning finds are those that its code was made with.
use Rattle.std.proofs.Common.{◌≡◌, ℕ, suc, Bool, true, false, List, [], ◌∷◌, refl, sym, ap, ◌∙◌}
use Rattle.std.specs.Prelude.{Option, None, Some, if◌then◌else◌, option_map, option_and_then}
use Rattle.std.specs.Prelude.{slice_get, bytes_eq}
use Rattle.c_tree.specs.declared.expr.BinaryOp.{BinaryOp}
use Rattle.c_tree.specs.ExprTree.{ExprTree}
use Rattle.c_types.specs.declared.value_type.ValueType.{ValueType}
use Rattle.c_types.specs.Fits.{computes_with}
use Rattle.c_types.specs.Tables.{Tables}
use Rattle.c_types.specs.Expressions as types
use Rattle.c_types.specs.Expressions.{Scope, variable_type, type_of, sides_type}
use Rattle.c_meaning.specs.Locals.{Local, scopes_of}
use Rattle.lower.specs.Names.{Variables}
use Rattle.lower.proofs.Alike.{IsSame, kind_same}
use Rattle.lower_law.proofs.locals.Locals.{Entry, Agrees, entry_type, scopes_in}

entry_scopes : (name : List ℕ) (es : List Entry) → variable_type name (scopes_in es)
    ≡ entry_type name es
entry_scopes name [] = refl
entry_scopes name (e ∷ es) = by_test (bytes_eq name e.name) (entry_scopes name es)
  where
    by_test : (b : Bool) → variable_type name (scopes_in es) ≡ entry_type name es
        → types.or_else (option_and_then (slice_get (e.ty ∷ [])) (if b then Some 0
        else option_map suc None)) (variable_type name (scopes_in es))
        ≡ (if b then Some e.ty else entry_type name es)
    by_test true rest = refl
    by_test false rest = rest

pub scopes_same : (v : Variables) (es : List Entry) → Agrees v es → IsSame v.scopes (scopes_in es)
scopes_same v es agrees name = (agrees name).0 ∙ sym (entry_scopes name es)

pub type_met : (t : Tables) (v : Variables) (es : List Entry) (ls : List Local) → Agrees v es
    → scopes_of ls ≡ scopes_in es → (e : ExprTree)
    → type_of t (scopes_of ls) e ≡ type_of t v.scopes e
type_met t v es ls agrees is e = ap (λ (s : List Scope). type_of t s e) is
    ∙ sym (ap types.type_of_kind (kind_same t v.scopes (scopes_in es) (scopes_same v es agrees) e))

-- the ints that an operator computes with
pub sides_met : (t : Tables) (v : Variables) (es : List Entry) (ls : List Local) → Agrees v es
    → scopes_of ls ≡ scopes_in es → (o : BinaryOp) (a b : ExprTree)
    → sides_type t (scopes_of ls) o a b ≡ sides_type t v.scopes o a b
sides_met t v es ls agrees is o a b =
    ap (λ (x : ValueType). computes_with o x (type_of t (scopes_of ls) b))
    (type_met t v es ls agrees is a)
    ∙ ap (computes_with o (type_of t v.scopes a)) (type_met t v es ls agrees is b)
