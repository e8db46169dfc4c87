-- Which tokens, from one place up to another, spell which statement.
use Rattle.std.specs.Prelude.{ℕ, ◌+◌, ◌≡◌, ◌≢◌, List, Option, Some, None, Bool, true}
use Rattle.c_lexer.specs.declared.token.Placed.{Placed}
use Rattle.c_tree.specs.declared.expr.IntType.{IntType}
use Rattle.c_tree.specs.declared.expr.BinaryOp.TheVariants as op
use Rattle.c_tree.specs.declared.stmt.AssignOp.{AssignOp}
use Rattle.c_tree.specs.declared.stmt.AssignOp.TheVariants as assign
use Rattle.c_tree.specs.declared.stmt.StepOp.{StepOp}
use Rattle.c_tree.specs.declared.kind.Kind.TheVariants as kind
use Rattle.c_tree.specs.Kinds.{kind_at, ident_at}
use Rattle.c_tree.specs.ExprTree.{ExprTree}
use Rattle.c_tree.specs.ExprTree as expr
use Rattle.c_tree.specs.StmtTree.{TypeTree, DeclarationTree, SimpleTree, FirstTree, StmtTree}
use Rattle.c_tree.specs.StmtTree.{Statements}
use Rattle.c_tree.specs.StmtTree as tree
use Rattle.c_tree.specs.Spelling.{Expression, Postfix, SpellsArguments}

pub data Typed (ts : List Placed) : ℕ → ℕ → TypeTree → Type 0 where
  int : {i : ℕ} (n : IntType) → kind_at ts i ≡ kind.Int n → Typed ts i (i + 1) (tree.Int n)
  pointer : {i : ℕ}
      → kind_at ts i ≡ kind.Struct → kind_at ts (i + 1) ≡ kind.Name
      → kind_at ts (i + 1 + 1) ≡ kind.Operator op.Mul
      → Typed ts i (i + 1 + 1 + 1) (tree.Pointer (ident_at ts (i + 1)))

-- a declaration without its semicolon
pub data Declares (ts : List Placed) : ℕ → ℕ → DeclarationTree → Type 0 where
  plain : {i m : ℕ} {t : TypeTree}
      → Typed ts i m t → kind_at ts m ≡ kind.Name
      → Declares ts i (m + 1) (record { ty = t; name = ident_at ts m; initial = None })
  initial : {i m j : ℕ} {t : TypeTree} {e : ExprTree}
      → Typed ts i m t → kind_at ts m ≡ kind.Name → kind_at ts (m + 1) ≡ kind.Assign assign.Set
      → Expression ts (m + 1 + 1) j e
      → Declares ts i j (record {
        ty = t;
        name = ident_at ts m;
        initial = Some (record { place = m + 1; value = e });
      })

-- an expression in brackets
pub data Bracketed (ts : List Placed) : ℕ → ℕ → ExprTree → Type 0 where
  bracketed : {i m : ℕ} {e : ExprTree}
      → kind_at ts i ≡ kind.OpenRound → Expression ts (i + 1) m e → kind_at ts m ≡ kind.CloseRound
      → Bracketed ts i (m + 1) e

-- the action on a target
pub data Acts (ts : List Placed) : ℕ → ℕ → ExprTree → SimpleTree → Type 0 where
  assigns : {i j : ℕ} {a e : ExprTree} (o : AssignOp)
      → kind_at ts i ≡ kind.Assign o → Expression ts (i + 1) j e
      → Acts ts i j a (tree.Assign a o i e)
  steps : {i : ℕ} {a : ExprTree} (o : StepOp) → kind_at ts i ≡ kind.Step o
      → Acts ts i (i + 1) a (tree.Step a o i)

-- a simple statement without its semicolon
pub data Simply (ts : List Placed) : ℕ → ℕ → SimpleTree → Type 0 where
  acts : {i m j : ℕ} {a : ExprTree} {s : SimpleTree} → Postfix ts i m a → Acts ts m j a s
      → Simply ts i j s
  calls : {i j : ℕ} {all : expr.Arguments}
      → kind_at ts i ≡ kind.Name → kind_at ts (i + 1) ≡ kind.OpenRound
      → SpellsArguments ts (i + 1 + 1) j all
      → Simply ts i j (tree.Call (ident_at ts i) all)
  frees : {i j : ℕ} {e : ExprTree} → kind_at ts i ≡ kind.PmFree → Bracketed ts (i + 1) j e
      → Simply ts i j (tree.Free i e)
  aborts : {i : ℕ}
      → kind_at ts i ≡ kind.Abort → kind_at ts (i + 1) ≡ kind.OpenRound
      → kind_at ts (i + 1 + 1) ≡ kind.CloseRound
      → Simply ts i (i + 1 + 1 + 1) (tree.Abort i)

-- the first part of a `for`
pub data FirstPart (ts : List Placed) : ℕ → ℕ → Option FirstTree → Type 0 where
  first_none : {i : ℕ} → FirstPart ts i i None
  first_declares : {i j : ℕ} {d : DeclarationTree} → Declares ts i j d
      → FirstPart ts i j (Some (tree.Declare d))
  first_simply : {i j : ℕ} {s : SimpleTree} → Simply ts i j s
      → FirstPart ts i j (Some (tree.Simply s))

-- an expression that may be absent
pub data ValuePart (ts : List Placed) : ℕ → ℕ → Option ExprTree → Type 0 where
  value_none : {i : ℕ} → ValuePart ts i i None
  value_some : {i j : ℕ} {e : ExprTree} → Expression ts i j e → ValuePart ts i j (Some e)

-- the third part of a `for`
pub data ThirdPart (ts : List Placed) : ℕ → ℕ → Option SimpleTree → Type 0 where
  third_none : {i : ℕ} → ThirdPart ts i i None
  third_some : {i j : ℕ} {s : SimpleTree} → Simply ts i j s → ThirdPart ts i j (Some s)

mutual
  -- one statement; the boolean says whether it is inside a loop
  pub data Spells (ts : List Placed) : Bool → ℕ → ℕ → StmtTree → Type 0 where
    empty : {loop : Bool} {i : ℕ} → kind_at ts i ≡ kind.Semicolon
        → Spells ts loop i (i + 1) tree.Empty
    declares : {loop : Bool} {i m : ℕ} {d : DeclarationTree}
        → Declares ts i m d → kind_at ts m ≡ kind.Semicolon
        → Spells ts loop i (m + 1) (tree.Declares d)
    simply : {loop : Bool} {i m : ℕ} {s : SimpleTree}
        → Simply ts i m s → kind_at ts m ≡ kind.Semicolon → Spells ts loop i (m + 1) (tree.Simple s)
    block : {loop : Bool} {i m : ℕ} {all : Statements}
        → kind_at ts i ≡ kind.OpenBrace → SpellsAll ts loop (i + 1) m all
        → kind_at ts m ≡ kind.CloseBrace
        → Spells ts loop i (m + 1) (tree.Block all)
    -- no `else` follows, so each `else` belongs to the nearest `if`
    if_alone : {loop : Bool} {i m j : ℕ} {e : ExprTree} {s : StmtTree}
        → kind_at ts i ≡ kind.If → Bracketed ts (i + 1) m e → Spells ts loop m j s
        → kind_at ts j ≢ kind.Else → Spells ts loop i j (tree.If e s)
    if_else : {loop : Bool} {i m j k : ℕ} {e : ExprTree} {a b : StmtTree}
        → kind_at ts i ≡ kind.If → Bracketed ts (i + 1) m e → Spells ts loop m j a
        → kind_at ts j ≡ kind.Else → Spells ts loop (j + 1) k b
        → Spells ts loop i k (tree.IfElse e a b)
    repeats : {loop : Bool} {i m j : ℕ} {e : ExprTree} {s : StmtTree}
        → kind_at ts i ≡ kind.While → Bracketed ts (i + 1) m e → Spells ts true m j s
        → Spells ts loop i j (tree.While i e s)
    repeats_after : {loop : Bool} {i m j : ℕ} {e : ExprTree} {s : StmtTree}
        → kind_at ts i ≡ kind.Do → Spells ts true (i + 1) m s → kind_at ts m ≡ kind.While
        → Bracketed ts (m + 1) j e → kind_at ts j ≡ kind.Semicolon
        → Spells ts loop i (j + 1) (tree.Do i s e)
    counts : {loop : Bool} {i m n p j : ℕ} {f : Option FirstTree} {c : Option ExprTree}
        {t : Option SimpleTree} {s : StmtTree}
        → kind_at ts i ≡ kind.For → kind_at ts (i + 1) ≡ kind.OpenRound
        → FirstPart ts (i + 1 + 1) m f → kind_at ts m ≡ kind.Semicolon
        → ValuePart ts (m + 1) n c → kind_at ts n ≡ kind.Semicolon → ThirdPart ts (n + 1) p t
        → kind_at ts p ≡ kind.CloseRound
        → Spells ts true (p + 1) j s → Spells ts loop i j (tree.For i f c t s)
    breaks : {i : ℕ} → kind_at ts i ≡ kind.Break → kind_at ts (i + 1) ≡ kind.Semicolon
        → Spells ts true i (i + 1 + 1) tree.Break
    continues : {i : ℕ} → kind_at ts i ≡ kind.Continue → kind_at ts (i + 1) ≡ kind.Semicolon
        → Spells ts true i (i + 1 + 1) tree.Continue
    returns : {loop : Bool} {i m : ℕ} {c : Option ExprTree}
        → kind_at ts i ≡ kind.Return → ValuePart ts (i + 1) m c → kind_at ts m ≡ kind.Semicolon
        → Spells ts loop i (m + 1) (tree.Return i c)

  pub data SpellsAll (ts : List Placed) : Bool → ℕ → ℕ → Statements → Type 0 where
    nothing : {loop : Bool} {i : ℕ} → SpellsAll ts loop i i tree.Nothing
    something : {loop : Bool} {i m j : ℕ} {s : StmtTree} {all : Statements}
        → Spells ts loop i m s → SpellsAll ts loop m j all → SpellsAll ts loop i j (tree.Then s all)
