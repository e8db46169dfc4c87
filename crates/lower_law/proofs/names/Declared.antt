-- A name that is declared anew in its scope means the new local, and other names keep their
-- meaning.
use Rattle.std.proofs.Common.{◌≡◌, ℕ, suc, Bool, true, false, List, [], ◌∷◌, ◌++◌, refl, ap, ◌∙◌}
use Rattle.std.specs.Prelude.{Option, None, Some, if◌then◌else◌, option_map}
use Rattle.std.specs.Prelude.{option_and_then, slice_get, bytes_eq}
use Rattle.std.proofs.lemmas.Slice.Eq.{bytes_eq-Decides}
use Rattle.c_types.specs.declared.value_type.ValueType.{ValueType}
use Rattle.c_types.specs.Tables.{index_of}
use Rattle.c_types.specs.Expressions as types
use Rattle.c_types.specs.Expressions.{Scope, type_in, variable_type}
use Rattle.c_types.specs.Statements as scopes
use Rattle.c_types.specs.Statements.{is_declared}
use Rattle.c_types.proofs.Index.{is_some_None}
use Rattle.lower.specs.Names as names
use Rattle.lower.specs.Names.{Variables, LocalRegister, variable_declared, register_in}
use Rattle.lower.specs.Names.{variable_register, with_local, with_name}
use Rattle.lower_law.proofs.locals.Locals.{Entry, Agrees, entry_type, entry_register}

-- the names, the types and the registers of a scope correspond one to one
abbrev pub IsLevel : List (List ℕ) → List ValueType → List LocalRegister → Type 0
IsLevel [] [] [] = Unit {0}
IsLevel [] [] (l ∷ ls) = ⊥
IsLevel [] (ty ∷ tys) ls = ⊥
IsLevel (n ∷ ns) [] ls = ⊥
IsLevel (n ∷ ns) (ty ∷ tys) [] = ⊥
IsLevel (n ∷ ns) (ty ∷ tys) (l ∷ ls) = (l.name ≡ n) × IsLevel ns tys ls

-- those of the innermost scope
abbrev pub HasLevel : List Scope → List (List LocalRegister) → Type 0
HasLevel [] ls = ⊥
HasLevel (s ∷ ss) [] = ⊥
HasLevel (s ∷ ss) (l ∷ ls) = IsLevel s.names s.types l

-- the last name of a scope
type_last : (x name : List ℕ) (ty : ValueType) (ns : List (List ℕ)) (tys : List ValueType)
    (ls : List LocalRegister) → IsLevel ns tys ls
    → option_and_then (slice_get (tys ++ ty ∷ [])) (index_of x (ns ++ name ∷ []))
    ≡ types.or_else (option_and_then (slice_get tys) (index_of x ns)) (if bytes_eq x name
    then Some ty else None)
type_last x name ty [] [] [] h = by_test (bytes_eq x name)
  where
    by_test : (b : Bool) → option_and_then (slice_get (ty ∷ [])) (if b then Some 0
        else option_map suc None) ≡ (if b then Some ty else None)
    by_test true = refl
    by_test false = refl
type_last x name ty [] [] (l ∷ ls) h = absurd h
type_last x name ty [] (y ∷ ys) ls h = absurd h
type_last x name ty (n ∷ ns) [] ls h = absurd h
type_last x name ty (n ∷ ns) (y ∷ ys) [] h = absurd h
type_last x name ty (n ∷ ns) (y ∷ ys) (l ∷ ls) h =
    by_test (bytes_eq x n) (index_of x (ns ++ name ∷ [])) (index_of x ns)
    (type_last x name ty ns ys ls h.1)
  where
    by_test : (b : Bool) (o u : Option ℕ) → option_and_then (slice_get (ys ++ ty ∷ [])) o
        ≡ types.or_else (option_and_then (slice_get ys) u) (if bytes_eq x name then Some ty
        else None)
        → option_and_then (slice_get (y ∷ (ys ++ ty ∷ []))) (if b then Some 0 else option_map suc o)
        ≡ types.or_else (option_and_then (slice_get (y ∷ ys)) (if b then Some 0
        else option_map suc u)) (if bytes_eq x name then Some ty else None)
    by_test true o u e = refl
    by_test false None None e = e
    by_test false None (Some j) e = e
    by_test false (Some i) None e = e
    by_test false (Some i) (Some j) e = e

register_last : (x name : List ℕ) (q : ℕ) (ls : List LocalRegister)
    → register_in x (with_local name q ls) ≡ names.register_or_else (register_in x ls)
    (if bytes_eq x name then Some q else None)
register_last x name q [] = refl
register_last x name q (l ∷ ls) =
    by_test (bytes_eq x l.name) (register_in x (with_local name q ls)) (register_in x ls)
    (register_last x name q ls)
  where
    by_test : (b : Bool) (o u : Option ℕ)
        → o ≡ names.register_or_else u (if bytes_eq x name then Some q else None)
        → (if b then Some l.register else o) ≡ names.register_or_else (if b then Some l.register
        else u) (if bytes_eq x name then Some q else None)
    by_test true o u e = refl
    by_test false o u e = e

-- a name that a scope lacks has no register in it
register_none : (x : List ℕ) (ns : List (List ℕ)) (tys : List ValueType) (ls : List LocalRegister)
    → IsLevel ns tys ls → index_of x ns ≡ None → register_in x ls ≡ None
register_none x [] [] [] h e = refl
register_none x [] [] (l ∷ ls) h e = absurd h
register_none x [] (y ∷ ys) ls h e = absurd h
register_none x (n ∷ ns) [] ls h e = absurd h
register_none x (n ∷ ns) (y ∷ ys) [] h e = absurd h
register_none x (n ∷ ns) (y ∷ ys) (l ∷ ls) h e =
    ap (λ (m : List ℕ). if bytes_eq x m then Some l.register else register_in x ls) h.0
    ∙ by_test (bytes_eq x n) (index_of x ns) (λ rest. register_none x ns ys ls h.1 rest) e
  where
    some_none : (j : ℕ) → Some j ≡ None → ⊥
    some_none j e = cc

    by_test : (b : Bool) (o : Option ℕ) → (o ≡ None → register_in x ls ≡ None)
        → (if b then Some 0 else option_map suc o) ≡ None
        → (if b then Some l.register else register_in x ls) ≡ None
    by_test true o rest e = absurd (some_none 0 e)
    by_test false None rest e = rest refl
    by_test false (Some j) rest e = absurd (some_none (suc j) e)

type_or_none : (a b : Option ValueType) → types.or_else (types.or_else a None) b ≡ types.or_else a b
type_or_none None b = refl
type_or_none (Some ty) b = refl

register_or_none : (a b : Option ℕ) → names.register_or_else (names.register_or_else a None) b
    ≡ names.register_or_else a b
register_or_none None b = refl
register_or_none (Some r) b = refl

-- the meaning of each name after a declaration
pub agrees_declared : (name : List ℕ) (ty : ValueType) (r : ℕ) (v : Variables) (es : List Entry)
    → HasLevel v.scopes v.locals → is_declared name v.scopes ≡ false → Agrees v es
    → Agrees (variable_declared name ty r v) (record { name = name; ty = ty; register = r } ∷ es)
agrees_declared name ty r v es level new agrees x = parts v.scopes v.locals level new (agrees x)
  where
    parts : (ss : List Scope) (ls : List (List LocalRegister)) → HasLevel ss ls
        → is_declared name ss ≡ false → (variable_type x ss ≡ entry_type x es)
        × (variable_register x ls ≡ entry_register x es)
        → (variable_type x (scopes.scope_declared name ty ss) ≡ (if bytes_eq x name then Some ty
        else entry_type x es)) × (variable_register x (with_name name r ls)
        ≡ (if bytes_eq x name then Some r else entry_register x es))
    parts [] ls h new same = absurd h
    parts (s ∷ ss) [] h new same = absurd h
    parts (s ∷ ss) (l ∷ ls) h new same = (
      ap (λ o. types.or_else o (variable_type x ss)) (type_last x name ty s.names s.types l h)
          ∙ type_by (bytes_eq x name) refl,
      ap (λ o. names.register_or_else o (variable_register x ls)) (register_last x name r l)
          ∙ register_by (bytes_eq x name) refl,
    )
      where
        absent : bytes_eq x name ≡ true → index_of x s.names ≡ None
        absent e = ap (λ (y : List ℕ). index_of y s.names) ((bytes_eq-Decides x name).0 e)
            ∙ is_some_None (index_of name s.names) new

        type_by : (b : Bool) → bytes_eq x name ≡ b
            → types.or_else (types.or_else (type_in x s) (if b then Some ty else None))
            (variable_type x ss) ≡ (if b then Some ty else entry_type x es)
        type_by true e = ap (λ o. types.or_else
            (types.or_else (option_and_then (slice_get s.types) o) (Some ty)) (variable_type x ss))
            (absent e)
        type_by false e = type_or_none (type_in x s) (variable_type x ss) ∙ same.0

        register_by : (b : Bool) → bytes_eq x name ≡ b
            → names.register_or_else (names.register_or_else (register_in x l) (if b then Some r
            else None)) (variable_register x ls) ≡ (if b then Some r else entry_register x es)
        register_by true e = ap (λ o. names.register_or_else (names.register_or_else o (Some r))
            (variable_register x ls)) (register_none x s.names s.types l h (absent e))
        register_by false e = register_or_none (register_in x l) (variable_register x ls) ∙ same.1

level_more : (name : List ℕ) (ty : ValueType) (r : ℕ) (ns : List (List ℕ)) (tys : List ValueType)
    (ls : List LocalRegister) → IsLevel ns tys ls
    → IsLevel (ns ++ name ∷ []) (tys ++ ty ∷ []) (with_local name r ls)
level_more name ty r [] [] [] h = (refl, tt)
level_more name ty r [] [] (l ∷ ls) h = absurd h
level_more name ty r [] (y ∷ ys) ls h = absurd h
level_more name ty r (n ∷ ns) [] ls h = absurd h
level_more name ty r (n ∷ ns) (y ∷ ys) [] h = absurd h
level_more name ty r (n ∷ ns) (y ∷ ys) (l ∷ ls) h = (h.0, level_more name ty r ns ys ls h.1)

pub level_declared : (name : List ℕ) (ty : ValueType) (r : ℕ) (v : Variables)
    → HasLevel v.scopes v.locals → HasLevel (variable_declared name ty r v).scopes
    (variable_declared name ty r v).locals
level_declared name ty r v h = parts v.scopes v.locals h
  where
    parts : (ss : List Scope) (ls : List (List LocalRegister)) → HasLevel ss ls
        → HasLevel (scopes.scope_declared name ty ss) (with_name name r ls)
    parts [] ls h = absurd h
    parts (s ∷ ss) [] h = absurd h
    parts (s ∷ ss) (l ∷ ls) h = level_more name ty r s.names s.types l h
