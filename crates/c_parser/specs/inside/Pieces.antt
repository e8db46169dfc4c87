-- Pieces of statements and items that the builder reads with a function of their own. Whether a
-- statement is inside a loop was judged before, so the builder doesn't look at it.
use Rattle.std.specs.Prelude.{ℕ, ◌+◌, ◌≡◌, ◌≢◌, List, Option, Some, None, option_map, Bool, true}
use Rattle.std.specs.Prelude.{false}
use Rattle.c_lexer.specs.declared.token.Placed.{Placed}
use Rattle.c_parser.specs.declared.build_stmt.ForParts.{ForParts}
use Rattle.c_tree.specs.declared.kind.Kind.{Kind}
use Rattle.c_tree.specs.declared.kind.Kind.TheVariants as kind
use Rattle.c_tree.specs.Kinds.{kind_at, ident_at}
use Rattle.c_tree.specs.ExprTree.{ExprTree, Ident, expr_of}
use Rattle.c_tree.specs.ExprTree as expr
use Rattle.c_tree.specs.StmtTree.{TypeTree, DeclarationTree, SimpleTree, FirstTree, StmtTree}
use Rattle.c_tree.specs.StmtTree.{Statements, tree_of_first, simple_of}
use Rattle.c_tree.specs.StmtTree as tree
use Rattle.c_tree.specs.ItemTree.{FieldTree, ParameterTree, ItemTree}
use Rattle.c_tree.specs.ItemTree as item
use Rattle.c_tree.specs.Spelling.{Expression, Unary}
use Rattle.c_tree.specs.declared.expr.IntType.{IntType}
use Rattle.c_tree.specs.declared.expr.IntType.TheVariants as int
use Rattle.c_tree.specs.declared.expr.UnaryOp.TheVariants as unary
use Rattle.c_tree.specs.StmtSpelling.{Typed, Declares, Bracketed, Acts, Simply, FirstPart}
use Rattle.c_tree.specs.StmtSpelling.{ValuePart, ThirdPart, Spells, SpellsAll}
use Rattle.c_tree.specs.ItemSpelling.{SpellsFields, SpellsParameters}

-- both sides of a condition, from its `?` on
pub data FromCondition (ts : List Placed) (i : ℕ) (c : ExprTree) : ℕ → ExprTree → Type 0 where
  sides : {n j : ℕ} {a b : ExprTree}
      → kind_at ts i ≡ kind.Question → Expression ts (i + 1) n a → kind_at ts n ≡ kind.Colon
      → Expression ts (n + 1) j b → FromCondition ts i c j (expr.Conditional c i a b)

-- the type in a bracket, of the tokens at it and after it, if a type's word stands right after it
abbrev pub cast_of : Kind → Kind → Option IntType
cast_of kind.OpenRound (kind.Int n) = Some n
cast_of _ _ = None

-- the type of ints that a token is; `int64_t` if it is none
abbrev pub int_of : Kind → IntType
int_of (kind.Int n) = n
int_of _ = int.Signed

-- a cast, from its type's word on
pub data FromWord (ts : List Placed) (i : ℕ) (n : IntType) : ℕ → ExprTree → Type 0 where
  cast_from : {j : ℕ} {e : ExprTree}
      → kind_at ts i ≡ kind.Int n → kind_at ts (i + 1) ≡ kind.CloseRound
      → Unary ts (i + 1 + 1) j e → FromWord ts i n j (expr.Unary (unary.Cast n) i e)

-- an action on a target, or a call that stands alone
pub data ActsOrCalls (ts : List Placed) : ℕ → ℕ → ExprTree → SimpleTree → Type 0 where
  acts_on : {i j : ℕ} {a : ExprTree} {s : SimpleTree} → Acts ts i j a s → ActsOrCalls ts i j a s
  call_alone : {i : ℕ} {n : Ident} {all : expr.Arguments}
      → ActsOrCalls ts i i (expr.Call n all) (tree.Call n all)

-- the parts of a `for`
pub record ForTree : Type 0 where
  pub first : Option FirstTree
  pub condition : Option ExprTree
  pub third : Option SimpleTree

abbrev pub for_of : ForParts → ForTree
for_of p = record {
  first = option_map tree_of_first p.first;
  condition = option_map expr_of p.condition;
  third = option_map simple_of p.third;
}

-- from the opening bracket to the place after the closing one
pub data SpellsFor (ts : List Placed) : ℕ → ℕ → ForTree → Type 0 where
  for_parts : {i m n p : ℕ} {f : Option FirstTree} {c : Option ExprTree} {t : Option SimpleTree}
      → kind_at ts i ≡ kind.OpenRound → FirstPart ts (i + 1) m f → kind_at ts m ≡ kind.Semicolon
      → ValuePart ts (m + 1) n c → kind_at ts n ≡ kind.Semicolon → ThirdPart ts (n + 1) p t
      → kind_at ts p ≡ kind.CloseRound
      → SpellsFor ts i (p + 1) (record { first = f; condition = c; third = t })

-- a statement, inside a loop or not
pub data Stated (ts : List Placed) : ℕ → ℕ → StmtTree → Type 0 where
  stated : {loop : Bool} {i j : ℕ} {s : StmtTree} → Spells ts loop i j s → Stated ts i j s

-- from the place after an opening brace to the place after the closing one
pub data StatedAll (ts : List Placed) : ℕ → ℕ → Statements → Type 0 where
  stated_all : {loop : Bool} {i m : ℕ} {all : Statements}
      → SpellsAll ts loop i m all → kind_at ts m ≡ kind.CloseBrace → StatedAll ts i (m + 1) all

-- from the place after an `if`
pub data SpellsChoice (ts : List Placed) : ℕ → ℕ → StmtTree → Type 0 where
  choice_alone : {i m j : ℕ} {e : ExprTree} {s : StmtTree}
      → Bracketed ts i m e → Stated ts m j s → kind_at ts j ≢ kind.Else
      → SpellsChoice ts i j (tree.If e s)
  choice_else : {i m j k : ℕ} {e : ExprTree} {a b : StmtTree}
      → Bracketed ts i m e → Stated ts m j a → kind_at ts j ≡ kind.Else → Stated ts (j + 1) k b
      → SpellsChoice ts i k (tree.IfElse e a b)

-- from the place after a `while`, whose own place is that of the word
pub data SpellsWhile (ts : List Placed) (word : ℕ) : ℕ → ℕ → StmtTree → Type 0 where
  repeated : {i m j : ℕ} {e : ExprTree} {s : StmtTree} → Bracketed ts i m e → Stated ts m j s
      → SpellsWhile ts word i j (tree.While word e s)

-- from the place after a `do`, whose own place is that of the word
pub data SpellsDo (ts : List Placed) (word : ℕ) : ℕ → ℕ → StmtTree → Type 0 where
  repeated_after : {i m j : ℕ} {e : ExprTree} {s : StmtTree}
      → Stated ts i m s → kind_at ts m ≡ kind.While → Bracketed ts (m + 1) j e
      → kind_at ts j ≡ kind.Semicolon → SpellsDo ts word i (j + 1) (tree.Do word s e)

-- from the place after a `for`, whose own place is that of the word
pub data SpellsCounted (ts : List Placed) (word : ℕ) : ℕ → ℕ → StmtTree → Type 0 where
  counted : {i m j : ℕ} {p : ForTree} {s : StmtTree}
      → SpellsFor ts i m p → Stated ts m j s
      → SpellsCounted ts word i j (tree.For word p.first p.condition p.third s)

-- a statement that contains no other
pub data SpellsPlain (ts : List Placed) : ℕ → ℕ → StmtTree → Type 0 where
  plain_empty : {i : ℕ} → kind_at ts i ≡ kind.Semicolon → SpellsPlain ts i (i + 1) tree.Empty
  plain_declares : {i m : ℕ} {d : DeclarationTree}
      → Declares ts i m d → kind_at ts m ≡ kind.Semicolon
      → SpellsPlain ts i (m + 1) (tree.Declares d)
  plain_simply : {i m : ℕ} {s : SimpleTree} → Simply ts i m s → kind_at ts m ≡ kind.Semicolon
      → SpellsPlain ts i (m + 1) (tree.Simple s)
  plain_breaks : {i : ℕ} → kind_at ts i ≡ kind.Break → kind_at ts (i + 1) ≡ kind.Semicolon
      → SpellsPlain ts i (i + 1 + 1) tree.Break
  plain_continues : {i : ℕ} → kind_at ts i ≡ kind.Continue → kind_at ts (i + 1) ≡ kind.Semicolon
      → SpellsPlain ts i (i + 1 + 1) tree.Continue
  plain_returns : {i m : ℕ} {c : Option ExprTree}
      → kind_at ts i ≡ kind.Return → ValuePart ts (i + 1) m c → kind_at ts m ≡ kind.Semicolon
      → SpellsPlain ts i (m + 1) (tree.Return i c)

-- the token is neither a closing brace nor the end
abbrev pub goes_on : Kind → Bool
goes_on kind.CloseBrace = false
goes_on kind.End = false
goes_on _ = true

-- one parameter
pub data SpellsParameter (ts : List Placed) : ℕ → ℕ → ParameterTree → Type 0 where
  typed_name : {i m : ℕ} {t : TypeTree} → Typed ts i m t → kind_at ts m ≡ kind.Name
      → SpellsParameter ts i (m + 1) (record { ty = t; name = ident_at ts m })

-- parameters up to the closing bracket
pub record ParametersTo (ts : List Placed) (i k : ℕ) (ps : List ParameterTree) : Type 0 where
  pub spelled : SpellsParameters ts i (k + 1) ps

-- a struct, which may have no fields
pub data SpellsStruct (ts : List Placed) : ℕ → ℕ → ItemTree → Type 0 where
  spells_struct : {i n : ℕ} {all : List FieldTree}
      → kind_at ts i ≡ kind.Struct → kind_at ts (i + 1) ≡ kind.Name
      → kind_at ts (i + 1 + 1) ≡ kind.OpenBrace
      → SpellsFields ts (i + 1 + 1 + 1) n all → kind_at ts n ≡ kind.CloseBrace
      → kind_at ts (n + 1) ≡ kind.Semicolon
      → SpellsStruct ts i (n + 1 + 1) (item.Struct (ident_at ts (i + 1)) all)

pub data SpellsRoot (ts : List Placed) : ℕ → ℕ → ItemTree → Type 0 where
  spells_root : {i : ℕ}
      → kind_at ts i ≡ kind.Persistent → kind_at ts (i + 1) ≡ kind.Struct
      → kind_at ts (i + 1 + 1) ≡ kind.Name
      → kind_at ts (i + 1 + 1 + 1) ≡ kind.Root → kind_at ts (i + 1 + 1 + 1 + 1) ≡ kind.Semicolon
      → SpellsRoot ts i (i + 1 + 1 + 1 + 1 + 1)
      (item.Root (ident_at ts (i + 1 + 1)) (i + 1 + 1 + 1))

-- the tokens there are `struct NAME {`
abbrev pub Defines : List Placed → ℕ → Type 0
Defines ts i = (kind_at ts i ≡ kind.Struct)
    × (kind_at ts (i + 1) ≡ kind.Name → kind_at ts (i + 1 + 1) ≡ kind.OpenBrace)

abbrev pub DefinesNone : List Placed → ℕ → Type 0
DefinesNone ts i = kind_at ts i ≡ kind.Struct → kind_at ts (i + 1) ≡ kind.Name
    → kind_at ts (i + 1 + 1) ≢ kind.OpenBrace
