-- Which tokens, from one place up to another, spell which expression. The list of tokens is always
-- the whole list, and each case is one line of the grammar: `kind_at ts i ≡ kind.Comma` reads 'at
-- place i there is a comma'. An operand grows to the left: a chain of operators of one level, and
-- the parts after a primary, go from one place to another with the tree so far as the left part.
use Rattle.std.specs.Prelude.{ℕ, zero, suc, ◌+◌, ◌≡◌, List, Some}
use Rattle.c_lexer.specs.declared.token.Placed.{Placed}
use Rattle.c_tree.specs.declared.expr.BinaryOp.{BinaryOp}
use Rattle.c_tree.specs.declared.expr.IntType.{IntType}
use Rattle.c_tree.specs.declared.expr.UnaryOp.{UnaryOp}
use Rattle.c_tree.specs.declared.expr.UnaryOp.TheVariants as unary
use Rattle.c_tree.specs.declared.kind.Kind.TheVariants as kind
use Rattle.c_tree.specs.Kinds.{kind_at, ident_at, value_at}
use Rattle.c_tree.specs.Operators.{op_at, sign_of}
use Rattle.c_tree.specs.ExprTree.{ExprTree}
use Rattle.c_tree.specs.ExprTree as tree

mutual
  -- operands joined by operators, or a condition and both sides, of which the right one may be
  -- such again
  pub data Expression (ts : List Placed) : ℕ → ℕ → ExprTree → Type 0 where
    unconditional : {i j : ℕ} {e : ExprTree} → Level ts 10 i j e → Expression ts i j e
    conditional : {i m n j : ℕ} {c a b : ExprTree}
        → Level ts 10 i m c → kind_at ts m ≡ kind.Question
        → Expression ts (m + 1) n a → kind_at ts n ≡ kind.Colon → Expression ts (n + 1) j b
        → Expression ts i j (tree.Conditional c m a b)

  -- operators of levels 1 to l over unaries
  pub data Level (ts : List Placed) : ℕ → ℕ → ℕ → ExprTree → Type 0 where
    level_zero : {i j : ℕ} {e : ExprTree} → Unary ts i j e → Level ts zero i j e
    level_suc : {l i m j : ℕ} {a e : ExprTree} → Level ts l i m a → Chain ts l m j a e
        → Level ts (suc l) i j e

  pub data Chain (ts : List Placed) : ℕ → ℕ → ℕ → ExprTree → ExprTree → Type 0 where
    chain_end : {l i : ℕ} {a : ExprTree} → Chain ts l i i a a
    chain_more : {l i m j : ℕ} {a b e : ExprTree} (o : BinaryOp)
        → op_at (suc l) (kind_at ts i) ≡ Some o → Level ts l (i + 1) m b
        → Chain ts l m j (tree.Binary o i a b) e → Chain ts l i j a e

  pub data Unary (ts : List Placed) : ℕ → ℕ → ExprTree → Type 0 where
    signed : {i j : ℕ} {e : ExprTree} (o : UnaryOp)
        → sign_of (kind_at ts i) ≡ Some o → Unary ts (i + 1) j e → Unary ts i j (tree.Unary o i e)
    cast : {i j : ℕ} {e : ExprTree} (n : IntType)
        → kind_at ts i ≡ kind.OpenRound → kind_at ts (i + 1) ≡ kind.Int n
        → kind_at ts (i + 1 + 1) ≡ kind.CloseRound → Unary ts (i + 1 + 1 + 1) j e
        → Unary ts i j (tree.Unary (unary.Cast n) (i + 1) e)
    unsigned : {i j : ℕ} {e : ExprTree} → Postfix ts i j e → Unary ts i j e

  pub data Postfix (ts : List Placed) : ℕ → ℕ → ExprTree → Type 0 where
    postfix : {i m j : ℕ} {a e : ExprTree} → Primary ts i m a → Parts ts m j a e → Postfix ts i j e

  -- fields and elements of the tree so far
  pub data Parts (ts : List Placed) : ℕ → ℕ → ExprTree → ExprTree → Type 0 where
    parts_end : {i : ℕ} {a : ExprTree} → Parts ts i i a a
    field : {i j : ℕ} {a e : ExprTree}
        → kind_at ts i ≡ kind.Arrow → kind_at ts (i + 1) ≡ kind.Name
        → Parts ts (i + 1 + 1) j (tree.Arrow a i (ident_at ts (i + 1))) e → Parts ts i j a e
    element : {i m j : ℕ} {a b e : ExprTree}
        → kind_at ts i ≡ kind.OpenSquare → Expression ts (i + 1) m b
        → kind_at ts m ≡ kind.CloseSquare → Parts ts (m + 1) j (tree.Index a i b) e
        → Parts ts i j a e

  pub data Primary (ts : List Placed) : ℕ → ℕ → ExprTree → Type 0 where
    number : {i : ℕ} → kind_at ts i ≡ kind.Number
        → Primary ts i (i + 1) (tree.Number (value_at ts i))
    null : {i : ℕ} → kind_at ts i ≡ kind.Null → Primary ts i (i + 1) tree.Null
    variable : {i : ℕ} → kind_at ts i ≡ kind.Name
        → Primary ts i (i + 1) (tree.Variable (ident_at ts i))
    call : {i j : ℕ} {all : tree.Arguments}
        → kind_at ts i ≡ kind.Name → kind_at ts (i + 1) ≡ kind.OpenRound
        → SpellsArguments ts (i + 1 + 1) j all → Primary ts i j (tree.Call (ident_at ts i) all)
    root : {i : ℕ}
        → kind_at ts i ≡ kind.Root → kind_at ts (i + 1) ≡ kind.Dot
        → kind_at ts (i + 1 + 1) ≡ kind.Name
        → Primary ts i (i + 1 + 1 + 1) (tree.Root (ident_at ts (i + 1 + 1)))
    new : {i : ℕ}
        → kind_at ts i ≡ kind.PmNew → kind_at ts (i + 1) ≡ kind.OpenRound
        → kind_at ts (i + 1 + 1) ≡ kind.Struct
        → kind_at ts (i + 1 + 1 + 1) ≡ kind.Name → kind_at ts (i + 1 + 1 + 1 + 1) ≡ kind.CloseRound
        → Primary ts i (i + 1 + 1 + 1 + 1 + 1) (tree.New i (ident_at ts (i + 1 + 1 + 1)))
    -- brackets leave no node
    brackets : {i m : ℕ} {e : ExprTree}
        → kind_at ts i ≡ kind.OpenRound → Expression ts (i + 1) m e
        → kind_at ts m ≡ kind.CloseRound → Primary ts i (m + 1) e

  -- from the place after the opening bracket to the place after the closing one
  pub data SpellsArguments (ts : List Placed) : ℕ → ℕ → tree.Arguments → Type 0 where
    no_arguments : {i : ℕ} → kind_at ts i ≡ kind.CloseRound → SpellsArguments ts i (i + 1) tree.None
    arguments : {i m j : ℕ} {e : ExprTree} {all : tree.Arguments}
        → Expression ts i m e → MoreArguments ts m j all
        → SpellsArguments ts i j (tree.More i e all)

  -- from the place after an argument
  pub data MoreArguments (ts : List Placed) : ℕ → ℕ → tree.Arguments → Type 0 where
    no_more : {i : ℕ} → kind_at ts i ≡ kind.CloseRound → MoreArguments ts i (i + 1) tree.None
    more : {i m j : ℕ} {e : ExprTree} {all : tree.Arguments}
        → kind_at ts i ≡ kind.Comma → Expression ts (i + 1) m e → MoreArguments ts m j all
        → MoreArguments ts i j (tree.More (i + 1) e all)
