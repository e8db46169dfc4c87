-- The length of the code of expressions: it goes from its beginning to its end.
use Rattle.std.proofs.Common.{◌≡◌, ℕ, suc, ◌+◌, List, [], ◌∷◌, ◌++◌, length, length-append, arith}
use Rattle.std.proofs.Common.{subst}
use Rattle.c_tree.specs.declared.expr.IntType.{IntType}
use Rattle.c_tree.specs.declared.expr.UnaryOp.TheVariants as unary
use Rattle.c_tree.specs.ExprTree as expr
use Rattle.c_tree.specs.ExprTree.{ExprTree, Arguments}
use Rattle.c_types.specs.Expressions.{sides_type}
use Rattle.ir.specs.declared.instruction.Instruction.{Instruction}
use Rattle.lower.specs.declared.form.Form.{Form}
use Rattle.lower.specs.declared.form.Form.TheVariants.{Both, Either, Direct, Exchanged}
use Rattle.lower.specs.Forms.{form_of, typed_form}
use Rattle.lower.specs.Names.{Variables}
use Rattle.lower.specs.Lowers.{Context, exp_end, exp_code, target_end, target_code, arguments_end}
use Rattle.lower.specs.Lowers.{arguments_code, form_end, form_code, reg_of}
use Rattle.lower.proofs.Ends.{form_end_typed}

-- a list of instructions that goes from one place to another
pub record Leads (p : ℕ) (xs : List Instruction) (q : ℕ) : Type 0 where
  pub long : p + length xs ≡ q

pub none : {p : ℕ} → Leads p [] p
none {p} = record { long = omega arith }

pub first : {p q : ℕ} {x : Instruction} {xs : List Instruction} → Leads (suc p) xs q
    → Leads p (x ∷ xs) q
first {p} {q} {x} {xs} h = record { long = omega (arith, h.long) }

pub joined : {p q r : ℕ} {xs ys : List Instruction} → Leads p xs q → Leads q ys r
    → Leads p (xs ++ ys) r
joined {p} {q} {r} {xs} {ys} h g =
    record { long = omega (arith, h.long, g.long, length-append xs ys) }

pub one : {p : ℕ} {x : Instruction} → Leads p (x ∷ []) (suc p)
one = first none

pub two : {p : ℕ} {x y : Instruction} → Leads p (x ∷ y ∷ []) (suc (suc p))
two = first (first none)

form_leads : (form : Form) (node : ℕ → ℕ) (code : ℕ → List Instruction) (end reg : ℕ → ℕ) (on p : ℕ)
    → ((x : ℕ) → Leads x (code x) (end x))
    → Leads p (form_code form node code end reg on p) (form_end form end p)
form_leads Both node code end reg on p leads = first (joined (leads (suc p)) (first (first two)))
form_leads Either node code end reg on p leads =
    first (first (joined (leads (suc (suc p))) (first (first two))))
form_leads (Direct o) node code end reg on p leads = joined (leads p) one
form_leads (Exchanged o) node code end reg on p leads = joined (leads p) one

mutual
  pub exp_leads : (k : Context) (v : Variables) (e : ExprTree) (p : ℕ)
      → Leads p (exp_code k v e p) (exp_end e p)
  exp_leads k v (expr.Number n) p = one
  exp_leads k v expr.Null p = one
  exp_leads k v (expr.Variable name) p = none
  exp_leads k v (expr.Call name all) p = joined (arguments_lead k v all p) two
  exp_leads k v (expr.Root name) p = one
  exp_leads k v (expr.New place name) p = one
  exp_leads k v (expr.Arrow base place name) p = joined (exp_leads k v base p) one
  exp_leads k v (expr.Index base place index) p =
      joined (joined (target_leads k v base p) (exp_leads k v index (target_end base p))) one
  exp_leads k v (expr.Unary unary.Negate place a) p = first (joined (exp_leads k v a (suc p)) one)
  exp_leads k v (expr.Unary unary.Complement place a) p =
      first (joined (exp_leads k v a (suc p)) one)
  exp_leads k v (expr.Unary unary.Not place a) p = joined (exp_leads k v a p) two
  exp_leads k v (expr.Unary (unary.Cast n) place a) p = exp_leads k v a p
  exp_leads k v (expr.Binary o place a b) p =
      let q : ℕ = exp_end a p in
      let n : IntType = sides_type k.tables v.scopes o a b in
      let form : Form = typed_form n (form_of o) in
      subst (λ (r : ℕ). Leads p (exp_code k v (expr.Binary o place a b) p) r)
      (form_end_typed n (form_of o) (exp_end b) q)
      (joined (exp_leads k v a p) (form_leads form k.node (exp_code k v b) (exp_end b)
      (reg_of k v b) (reg_of k v a q) q (λ x. exp_leads k v b x)))
  exp_leads k v (expr.Conditional c place a b) p =
      let p1 : ℕ = exp_end c p in
      let p2 : ℕ = exp_end a (suc p1) in
      joined (exp_leads k v c p) (first (joined (exp_leads k v a (suc p1))
      (first (first (joined (exp_leads k v b (suc (suc p2))) one)))))

  pub target_leads : (k : Context) (v : Variables) (e : ExprTree) (p : ℕ)
      → Leads p (target_code k v e p) (target_end e p)
  target_leads k v (expr.Arrow base place name) p = exp_leads k v base p
  target_leads k v (expr.Index base place index) p =
      joined (target_leads k v base p) (exp_leads k v index (target_end base p))
  target_leads k v (expr.Root name) p = none
  target_leads k v (expr.Number n) p = none
  target_leads k v expr.Null p = none
  target_leads k v (expr.Variable name) p = none
  target_leads k v (expr.Call name all) p = none
  target_leads k v (expr.New place name) p = none
  target_leads k v (expr.Unary o place a) p = none
  target_leads k v (expr.Binary o place a b) p = none
  target_leads k v (expr.Conditional c place a b) p = none

  pub arguments_lead : (k : Context) (v : Variables) (es : Arguments) (p : ℕ)
      → Leads p (arguments_code k v es p) (arguments_end es p)
  arguments_lead k v expr.None p = none
  arguments_lead k v (expr.More first value rest) p =
      joined (exp_leads k v value p) (arguments_lead k v rest (exp_end value p))
