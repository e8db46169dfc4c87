-- A statement changes only the innermost scope.
use Rattle.std.proofs.Common.{◌≡◌, ℕ, zero, suc, ◌+◌, ◌<◌, List, [], ◌∷◌, length, get_or, drop}
use Rattle.std.proofs.Common.{arith, refl, ap, ◌∙◌}
use Rattle.std.specs.Prelude.{Option, None, Some}
use Rattle.std.specs.Option.{option_map_or}
use Rattle.c_tree.specs.declared.stmt.Stmt.{Stmt}
use Rattle.c_tree.specs.StmtTree as stmt
use Rattle.c_tree.specs.StmtTree.{StmtTree, Statements, FirstTree, stmt_of, statements_in}
use Rattle.c_tree.proofs.Trees.{stmt_of-Block}
use Rattle.c_types.specs.declared.value_type.ValueType.{ValueType}
use Rattle.c_types.specs.Tables.{Tables}
use Rattle.c_types.specs.Expressions.{Scope}
use Rattle.c_types.specs.Statements.{inner_scopes, outer_scopes, scope_declared, scopes_after}
use Rattle.c_types.specs.Statements.{scopes_after_first}
use Rattle.c_types.specs.inside.Statements.{scopes_after_all}
use Rattle.c_types.proofs.Told.{told_append}

outer_declared : (name : List ℕ) (ty : ValueType) (s : List Scope)
    → outer_scopes (scope_declared name ty s) ≡ outer_scopes s
outer_declared name ty [] = refl
outer_declared name ty (x ∷ xs) = refl

outer_after : (t : Tables) (x : StmtTree) (s : List Scope) → outer_scopes (scopes_after t x s)
    ≡ outer_scopes s
outer_after t (stmt.Declares d) s = outer_declared _ _ s
outer_after t stmt.Empty s = refl
outer_after t (stmt.Simple x) s = refl
outer_after t (stmt.Block all) s = refl
outer_after t (stmt.If c a) s = refl
outer_after t (stmt.IfElse c a b) s = refl
outer_after t (stmt.While place c a) s = refl
outer_after t (stmt.Do place a c) s = refl
outer_after t (stmt.For place first c third a) s = refl
outer_after t stmt.Break s = refl
outer_after t stmt.Continue s = refl
outer_after t (stmt.Return place value) s = refl

outer_after_all : (t : Tables) (xs : Statements) (s : List Scope)
    → outer_scopes (scopes_after_all t xs s) ≡ outer_scopes s
outer_after_all t stmt.Nothing s = refl
outer_after_all t (stmt.Then x xs) s = outer_after_all t xs (scopes_after t x s) ∙ outer_after t x s

outer_after_first : (t : Tables) (f : Option FirstTree) (s : List Scope)
    → outer_scopes (option_map_or (λ f. scopes_after_first t f s) f s) ≡ outer_scopes s
outer_after_first t None s = refl
outer_after_first t (Some (stmt.Declare d)) s = outer_declared _ _ s
outer_after_first t (Some (stmt.Simply x)) s = refl

-- a body, a block and a `for`, each in a scope of its own
pub outer_body : (t : Tables) (x : StmtTree) (s : List Scope)
    → outer_scopes (scopes_after t x (inner_scopes s)) ≡ s
outer_body t x s = outer_after t x (inner_scopes s)

pub outer_block : (t : Tables) (xs : Statements) (s : List Scope)
    → outer_scopes (scopes_after_all t xs (inner_scopes s)) ≡ s
outer_block t xs s = outer_after_all t xs (inner_scopes s)

pub outer_for : (t : Tables) (x : StmtTree) (f : Option FirstTree) (s : List Scope)
    → outer_scopes (scopes_after t x (option_map_or (λ f. scopes_after_first t f (inner_scopes s)) f
    (inner_scopes s))) ≡ s
outer_for t x f s = outer_after t x (option_map_or (λ f. scopes_after_first t f (inner_scopes s)) f
    (inner_scopes s)) ∙ outer_after_first t f (inner_scopes s)

pub statements_at : (xs : List Stmt) (i : ℕ) (x : Stmt) → i < length xs → x ≡ get_or xs i x
    → statements_in (drop i xs) ≡ stmt.Then (stmt_of x) (statements_in (drop (i + 1) xs))
statements_at [] i x lt is = absurd (omega arith)
statements_at (y ∷ ys) zero x lt is = rw (is, one_drop ys y) refl
  where
    one_drop : (ys : List Stmt) (y : Stmt) → drop (0 + 1) (y ∷ ys) ≡ ys
    one_drop ys y = refl
statements_at (y ∷ ys) (suc i) x lt is =
    rw (suc_drop ys i y) (statements_at ys i x (omega arith) is)
  where
    suc_drop : (ys : List Stmt) (i : ℕ) (y : Stmt) → drop (suc i + 1) (y ∷ ys) ≡ drop (i + 1) ys
    suc_drop ys i y = let e : suc i + 1 ≡ suc (i + 1) = omega arith in ap (λ n. drop n (y ∷ ys)) e

pub ruleset statements = (told_append, stmt_of-Block, outer_body, outer_block, outer_for)
