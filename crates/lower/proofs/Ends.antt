-- Code doesn't end before it begins.
use Rattle.std.proofs.Common.{◌≡◌, ℕ, suc, ◌≤◌, refl, arith}
use Rattle.c_tree.specs.declared.expr.IntType.{IntType}
use Rattle.std.specs.Prelude.{Option, None, Some}
use Rattle.c_tree.specs.declared.expr.UnaryOp.TheVariants as unary
use Rattle.c_tree.specs.declared.stmt.AssignOp.TheVariants as assign
use Rattle.c_tree.specs.ExprTree as expr
use Rattle.c_tree.specs.ExprTree.{ExprTree, Arguments, Ident}
use Rattle.c_tree.specs.StmtTree as stmt
use Rattle.c_tree.specs.StmtTree.{StmtTree, Statements, SimpleTree, FirstTree, InitialTree}
use Rattle.lower.specs.declared.form.Form.{Form}
use Rattle.lower.specs.declared.form.Form.TheVariants.{Both, Either, Direct, Exchanged}
use Rattle.lower.specs.Forms.{form_of, typed_form}
use Rattle.lower.specs.Names.{variable_of}
use Rattle.lower.specs.Lowers.{exp_end, target_end, arguments_end, form_end, or_end, set_end}
use Rattle.lower.specs.Lowers.{update_end, simple_end, initial_end, first_end, third_end, stmt_end}
use Rattle.lower.specs.Lowers.{statements_end}

pub form_end_le : (f : Form) (right : ℕ → ℕ) (p : ℕ) → ((x : ℕ) → x ≤ right x)
    → p ≤ form_end f right p
form_end_le Both right p le = omega (arith, le (suc p))
form_end_le Either right p le = omega (arith, le (suc (suc p)))
form_end_le (Direct o) right p le = omega (arith, le p)
form_end_le (Exchanged o) right p le = omega (arith, le p)

-- the type of ints makes no difference to the end
pub form_end_typed : (n : IntType) (f : Form) (right : ℕ → ℕ) (p : ℕ)
    → form_end (typed_form n f) right p ≡ form_end f right p
form_end_typed n Both right p = refl
form_end_typed n Either right p = refl
form_end_typed n (Direct o) right p = refl
form_end_typed n (Exchanged o) right p = refl

mutual
  pub exp_end_le : (e : ExprTree) (p : ℕ) → p ≤ exp_end e p
  exp_end_le (expr.Number n) p = omega arith
  exp_end_le expr.Null p = omega arith
  exp_end_le (expr.Variable name) p = omega arith
  exp_end_le (expr.Call name all) p = omega (arith, arguments_end_le all p)
  exp_end_le (expr.Root name) p = omega arith
  exp_end_le (expr.New place name) p = omega arith
  exp_end_le (expr.Arrow base place name) p = omega (arith, exp_end_le base p)
  exp_end_le (expr.Index base place index) p =
      omega (arith, target_end_le base p, exp_end_le index (target_end base p))
  exp_end_le (expr.Unary unary.Negate place a) p = omega (arith, exp_end_le a (suc p))
  exp_end_le (expr.Unary unary.Complement place a) p = omega (arith, exp_end_le a (suc p))
  exp_end_le (expr.Unary unary.Not place a) p = omega (arith, exp_end_le a p)
  exp_end_le (expr.Unary (unary.Cast n) place a) p = exp_end_le a p
  exp_end_le (expr.Binary o place a b) p =
      omega (
        arith,
        exp_end_le a p,
        form_end_le (form_of o) (exp_end b) (exp_end a p)
            (λ x. exp_end_le b x),
      )
  exp_end_le (expr.Conditional c place a b) p =
      let p1 : ℕ = exp_end c p in
      let p2 : ℕ = exp_end a (suc p1) in
      omega (arith, exp_end_le c p, exp_end_le a (suc p1), exp_end_le b (suc (suc p2)))

  pub target_end_le : (e : ExprTree) (p : ℕ) → p ≤ target_end e p
  target_end_le (expr.Arrow base place name) p = exp_end_le base p
  target_end_le (expr.Index base place index) p =
      omega (arith, target_end_le base p, exp_end_le index (target_end base p))
  target_end_le (expr.Root name) p = omega arith
  target_end_le (expr.Number n) p = omega arith
  target_end_le expr.Null p = omega arith
  target_end_le (expr.Variable name) p = omega arith
  target_end_le (expr.Call name all) p = omega arith
  target_end_le (expr.New place name) p = omega arith
  target_end_le (expr.Unary o place a) p = omega arith
  target_end_le (expr.Binary o place a b) p = omega arith
  target_end_le (expr.Conditional c place a b) p = omega arith

  pub arguments_end_le : (es : Arguments) (p : ℕ) → p ≤ arguments_end es p
  arguments_end_le expr.None p = omega arith
  arguments_end_le (expr.More first value rest) p =
      omega (arith, exp_end_le value p, arguments_end_le rest (exp_end value p))

pub or_end_le : (e : Option ExprTree) (p : ℕ) → p ≤ or_end e p
or_end_le None p = omega arith
or_end_le (Some e) p = exp_end_le e p

pub initial_end_le : (i : Option InitialTree) (p : ℕ) → p ≤ initial_end i p
initial_end_le None p = omega arith
initial_end_le (Some i) p = omega (arith, exp_end_le i.value p)

set_end_le : (name : Option Ident) (target value : ExprTree) (p : ℕ)
    → p ≤ set_end name target value p
set_end_le (Some name) target value p = omega (arith, exp_end_le value p)
set_end_le None target value p =
    omega (arith, target_end_le target p, exp_end_le value (target_end target p))

update_end_le : (name : Option Ident) (target : ExprTree) (value : Option ExprTree) (p : ℕ)
    → p ≤ update_end name target value p
update_end_le (Some name) target value p = omega (arith, or_end_le value p)
update_end_le None target value p =
    omega (arith, target_end_le target p, or_end_le value (suc (target_end target p)))

pub simple_end_le : (x : SimpleTree) (p : ℕ) → p ≤ simple_end x p
simple_end_le (stmt.Assign target assign.Set place value) p =
    set_end_le (variable_of target) target value p
simple_end_le (stmt.Assign target (assign.Update o) place value) p =
    update_end_le (variable_of target) target (Some value) p
simple_end_le (stmt.Step target o place) p = update_end_le (variable_of target) target None p
simple_end_le (stmt.Call name all) p = exp_end_le (expr.Call name all) p
simple_end_le (stmt.Free place pointer) p = omega (arith, exp_end_le pointer p)
simple_end_le (stmt.Abort place) p = omega arith

pub first_end_le : (f : Option FirstTree) (p : ℕ) → p ≤ first_end f p
first_end_le None p = omega arith
first_end_le (Some (stmt.Declare d)) p = initial_end_le d.initial p
first_end_le (Some (stmt.Simply x)) p = simple_end_le x p

pub third_end_le : (x : Option SimpleTree) (p : ℕ) → p ≤ third_end x p
third_end_le None p = omega arith
third_end_le (Some x) p = simple_end_le x p

mutual
  pub stmt_end_le : (x : StmtTree) (p : ℕ) → p ≤ stmt_end x p
  stmt_end_le stmt.Empty p = omega arith
  stmt_end_le (stmt.Declares d) p = initial_end_le d.initial p
  stmt_end_le (stmt.Simple x) p = simple_end_le x p
  stmt_end_le (stmt.Block all) p = statements_end_le all p
  stmt_end_le (stmt.If c a) p = omega (arith, exp_end_le c p, stmt_end_le a (suc (exp_end c p)))
  stmt_end_le (stmt.IfElse c a b) p =
      omega (
        arith,
        exp_end_le c p,
        stmt_end_le a (suc (exp_end c p)),
        stmt_end_le b (suc (stmt_end a (suc (exp_end c p)))),
      )
  stmt_end_le (stmt.While place c a) p =
      omega (arith, exp_end_le c (suc p), stmt_end_le a (suc (exp_end c (suc p))))
  stmt_end_le (stmt.Do place a c) p =
      omega (arith, stmt_end_le a p, exp_end_le c (suc (stmt_end a p)))
  stmt_end_le (stmt.For place first c third a) p =
      let p0 : ℕ = first_end first p in
      let p1 : ℕ = or_end c (suc p0) in
      let p2 : ℕ = stmt_end a (suc p1) in
      omega (
        arith,
        first_end_le first p,
        or_end_le c (suc p0),
        stmt_end_le a (suc p1),
        third_end_le third p2,
      )
  stmt_end_le stmt.Break p = omega arith
  stmt_end_le stmt.Continue p = omega arith
  stmt_end_le (stmt.Return place value) p = omega (arith, or_end_le value p)

  pub statements_end_le : (xs : Statements) (p : ℕ) → p ≤ statements_end xs p
  statements_end_le stmt.Nothing p = omega arith
  statements_end_le (stmt.Then x xs) p =
      omega (arith, stmt_end_le x p, statements_end_le xs (stmt_end x p))
