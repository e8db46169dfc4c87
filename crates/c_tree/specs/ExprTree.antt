-- An expression as a tree without pointers: its content and the places of its tokens, independent
-- of memory. Brackets leave no node, so two expressions that differ only in memory, or in brackets
-- that change nothing, have the same tree.
use Rattle.std.specs.Prelude.{ℕ, ℤ, List, [], ◌∷◌}
use Rattle.c_tree.specs.declared.expr.Name.{Name}
use Rattle.c_tree.specs.declared.expr.UnaryOp.{UnaryOp}
use Rattle.c_tree.specs.declared.expr.BinaryOp.{BinaryOp}
use Rattle.c_tree.specs.declared.expr.Argument.{Argument}
use Rattle.c_tree.specs.declared.expr.Expr.{Expr, Row_of-Argument, end_of-Argument}
use Rattle.c_tree.specs.declared.expr.Expr.{more_of-Argument}
use Rattle.c_tree.specs.declared.expr.Expr.TheVariants as node

-- a name and its place
pub record Ident : Type 0 where
  pub text : List ℕ
  pub place : ℕ

mutual
  pub data ExprTree : Type 0 where
    Number : ℤ → ExprTree
    Null : ExprTree
    Variable : Ident → ExprTree
    Call : Ident → Arguments → ExprTree
    Root : Ident → ExprTree
    New : (place : ℕ) → Ident → ExprTree
    Arrow : ExprTree → (place : ℕ) → Ident → ExprTree
    Index : ExprTree → (place : ℕ) → ExprTree → ExprTree
    Unary : UnaryOp → (place : ℕ) → ExprTree → ExprTree
    Binary : BinaryOp → (place : ℕ) → ExprTree → ExprTree → ExprTree
    Conditional : ExprTree → (place : ℕ) → ExprTree → ExprTree → ExprTree

  -- arguments, each with the place of its first token
  pub data Arguments : Type 0 where
    None : Arguments
    More : (first : ℕ) → ExprTree → Arguments → Arguments

abbrev pub ident_of : Name → Ident
ident_of n = record { text = n.text; place = n.place }

abbrev mutual
  pub expr_of : Expr → ExprTree
  expr_of (node.Number n) = Number n
  expr_of node.Null = Null
  expr_of (node.Variable n) = Variable (ident_of n)
  expr_of (node.Call' n shape all) = Call (ident_of n) (arguments_of all)
  expr_of (node.Root n) = Root (ident_of n)
  expr_of (node.New place n) = New place (ident_of n)
  expr_of (node.Arrow' p base place n) = Arrow (expr_of base) place (ident_of n)
  expr_of (node.Index' p base place q index) = Index (expr_of base) place (expr_of index)
  expr_of (node.Unary' op place p operand) = Unary op place (expr_of operand)
  expr_of (node.Binary' op place p left q right) = Binary op place (expr_of left) (expr_of right)
  expr_of (node.Conditional' p c place q left r right) =
      Conditional (expr_of c) place (expr_of left) (expr_of right)

  pub arguments_of : {m : _} → Row_of-Argument m → Arguments
  arguments_of end_of-Argument = None
  arguments_of (more_of-Argument first value rest) = More first (expr_of value) (arguments_of rest)

abbrev pub arguments_in : List Argument → Arguments
arguments_in [] = None
arguments_in (x ∷ xs) = More x.first (expr_of x.value) (arguments_in xs)
