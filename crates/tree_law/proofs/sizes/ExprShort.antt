-- The code of an expression is short: at most four instructions for each of its tokens, less two.
use Rattle.std.proofs.Common.{ℕ, suc, ◌+◌, ◌*◌, ◌≤◌, List, arith}
use Rattle.c_lexer.specs.declared.token.Placed.{Placed}
use Rattle.c_tree.specs.declared.expr.BinaryOp.{BinaryOp}
use Rattle.c_tree.specs.declared.expr.IntType.{IntType}
use Rattle.c_tree.specs.declared.expr.UnaryOp.{UnaryOp}
use Rattle.c_tree.specs.declared.expr.UnaryOp.TheVariants as unary
use Rattle.c_tree.specs.Kinds.{ident_at}
use Rattle.c_tree.specs.ExprTree.{ExprTree, Ident}
use Rattle.c_tree.specs.ExprTree as tree
use Rattle.c_tree.specs.Spelling.{Expression, unconditional, conditional, Level, level_zero}
use Rattle.c_tree.specs.Spelling.{level_suc, Chain, chain_end, chain_more, Unary, signed, unsigned}
use Rattle.c_tree.specs.Spelling.{Postfix, postfix, Parts, parts_end, field}
use Rattle.c_tree.specs.Spelling.{element, Primary, number, null, variable, call, root, new}
use Rattle.c_tree.specs.Spelling.{brackets, SpellsArguments, no_arguments, arguments, MoreArguments}
use Rattle.c_tree.specs.Spelling.{no_more, more, cast}
use Rattle.lower.specs.declared.form.Form.{Form}
use Rattle.lower.specs.declared.form.Form.TheVariants.{Both, Either, Direct, Exchanged}
use Rattle.lower.specs.Forms.{form_of}
use Rattle.lower.specs.Lowers.{exp_end, target_end, arguments_end, form_end}
use Rattle.lower.proofs.Ends.{exp_end_le}

-- code for the tokens from i to j, at most four instructions for each
abbrev pub Short : (ℕ → ℕ) → ℕ → ℕ → Type 0
Short end i j = (p : ℕ) → end p + 4 * i ≤ p + 4 * j

-- the same, less two instructions
abbrev pub Shorter : ExprTree → ℕ → ℕ → Type 0
Shorter e i j = (p : ℕ) → exp_end e p + 2 + 4 * i ≤ p + 4 * j

-- the code of base and index alone is no longer than the whole
pub target_end_small : (e : ExprTree) (p : ℕ) → target_end e p ≤ exp_end e p
target_end_small (tree.Arrow base place name) p = omega arith
target_end_small (tree.Index base place index) p = omega arith
target_end_small (tree.Root name) p = omega arith
target_end_small (tree.Number n) p = omega arith
target_end_small tree.Null p = omega arith
target_end_small (tree.Variable name) p = omega arith
target_end_small (tree.Call name all) p = exp_end_le (tree.Call name all) p
target_end_small (tree.New place name) p = omega arith
target_end_small (tree.Unary o place a) p = exp_end_le (tree.Unary o place a) p
target_end_small (tree.Binary o place a b) p = exp_end_le (tree.Binary o place a b) p
target_end_small (tree.Conditional c place a b) p = exp_end_le (tree.Conditional c place a b) p

form_short : (form : Form) (right : ℕ → ℕ) (i j : ℕ) → ((p : ℕ) → right p + 2 + 4 * i ≤ p + 4 * j)
    → (p : ℕ) → form_end form right p + 4 * i ≤ p + 4 * j + 4
form_short Both right i j h p = omega (arith, h (suc p))
form_short Either right i j h p = omega (arith, h (suc (suc p)))
form_short (Direct o) right i j h p = omega (arith, h p)
form_short (Exchanged o) right i j h p = omega (arith, h p)

binary_short : (o : BinaryOp) (a b : ExprTree) (k i j : ℕ) → Shorter a k i → Shorter b (i + 1) j
    → Shorter (tree.Binary o i a b) k j
binary_short o a b k i j ha hb p =
    omega (arith, ha p, form_short (form_of o) (exp_end b) (i + 1) j hb (exp_end a p))

conditional_short : (c a b : ExprTree) (i m n j : ℕ) → Shorter c i m → Shorter a (m + 1) n
    → Shorter b (n + 1) j → Shorter (tree.Conditional c m a b) i j
conditional_short c a b i m n j hc ha hb p =
    let p1 : ℕ = exp_end c p in
    let p2 : ℕ = exp_end a (suc p1) in
    omega (arith, hc p, ha (suc p1), hb (suc (suc p2)))

unary_short : (o : UnaryOp) (a : ExprTree) (i j : ℕ) → Shorter a (i + 1) j
    → Shorter (tree.Unary o i a) i j
unary_short unary.Negate a i j h p = omega (arith, h (suc p))
unary_short unary.Complement a i j h p = omega (arith, h (suc p))
unary_short unary.Not a i j h p = omega (arith, h p)
unary_short (unary.Cast n) a i j h p = omega (arith, h p)

cast_short : (n : IntType) (a : ExprTree) (i j : ℕ) → Shorter a (i + 1 + 1 + 1) j
    → Shorter (tree.Unary (unary.Cast n) (i + 1) a) i j
cast_short n a i j h p = omega (arith, h p)

arrow_short : (a : ExprTree) (name : Ident) (k i : ℕ) → Shorter a k i
    → Shorter (tree.Arrow a i name) k (i + 1 + 1)
arrow_short a name k i h p = omega (arith, h p)

index_short : (a b : ExprTree) (k i m : ℕ) → Shorter a k i → Shorter b (i + 1) m
    → Shorter (tree.Index a i b) k (m + 1)
index_short a b k i m ha hb p = omega (arith, ha p, hb (target_end a p), target_end_small a p)

call_short : (name : Ident) (all : tree.Arguments) (i j : ℕ)
    → Short (arguments_end all) (i + 1 + 1) j → Shorter (tree.Call name all) i j
call_short name all i j h p = omega (arith, h p)

mutual
  pub expression_short : {ts : List Placed} {i j : ℕ} {e : ExprTree} → Expression ts i j e
      → Shorter e i j
  expression_short (unconditional h) = level_short h
  expression_short (conditional {i = i} {m = m} {n = n} {j = j} {c = c} {a = a} {b = b} h is left
      colon right) =
      conditional_short c a b i m n j (level_short h) (expression_short left)
      (expression_short right)

  level_short : {ts : List Placed} {l i j : ℕ} {e : ExprTree} → Level ts l i j e → Shorter e i j
  level_short (level_zero h) = prefix_short h
  level_short (level_suc {i = i} first chain) = chain_short i (level_short first) chain

  chain_short : {ts : List Placed} {l i j : ℕ} {a e : ExprTree} (k : ℕ) → Shorter a k i
      → Chain ts l i j a e → Shorter e k j
  chain_short k h chain_end = h
  chain_short k h (chain_more {i = i} {m = m} {a = a} {b = b} o is right chain) =
      chain_short k (binary_short o a b k i m h (level_short right)) chain

  prefix_short : {ts : List Placed} {i j : ℕ} {e : ExprTree} → Unary ts i j e → Shorter e i j
  prefix_short (signed {i = i} {j = j} {e = e} o is operand) =
      unary_short o e i j (prefix_short operand)
  prefix_short (cast {i = i} {j = j} {e = e} n opens is closes operand) =
      cast_short n e i j (prefix_short operand)
  prefix_short (unsigned h) = postfix_short h

  pub postfix_short : {ts : List Placed} {i j : ℕ} {e : ExprTree} → Postfix ts i j e → Shorter e i j
  postfix_short (postfix {i = i} h parts) = parts_short i (primary_short h) parts

  parts_short : {ts : List Placed} {i j : ℕ} {a e : ExprTree} (k : ℕ) → Shorter a k i
      → Parts ts i j a e → Shorter e k j
  parts_short k h parts_end = h
  parts_short {ts} k h (field {i = i} {a = a} arrow name parts) =
      parts_short k (arrow_short a (ident_at ts (i + 1)) k i h) parts
  parts_short k h (element {i = i} {m = m} {a = a} {b = b} opens index closes parts) =
      parts_short k (index_short a b k i m h (expression_short index)) parts

  primary_short : {ts : List Placed} {i j : ℕ} {e : ExprTree} → Primary ts i j e → Shorter e i j
  primary_short (number is) p = omega arith
  primary_short (null is) p = omega arith
  primary_short (variable is) p = omega arith
  primary_short {ts} (call {i = i} {j = j} {all = all} name opens h) p =
      call_short (ident_at ts i) all i j (arguments_short h) p
  primary_short (root is dot name) p = omega arith
  primary_short (new is opens word name closes) p = omega arith
  primary_short (brackets opens h closes) p = omega (arith, expression_short h p)

  pub arguments_short : {ts : List Placed} {i j : ℕ} {all : tree.Arguments}
      → SpellsArguments ts i j all → Short (arguments_end all) i j
  arguments_short (no_arguments closes) p = omega arith
  arguments_short (arguments {e = e} h others) p =
      omega (arith, expression_short h p, more_short others (exp_end e p))

  more_short : {ts : List Placed} {i j : ℕ} {all : tree.Arguments} → MoreArguments ts i j all
      → Short (arguments_end all) i j
  more_short (no_more closes) p = omega arith
  more_short (more {e = e} comma h others) p =
      omega (arith, expression_short h p, more_short others (exp_end e p))
