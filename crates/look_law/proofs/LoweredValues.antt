-- The code of an expression that doesn't store only looks.
use Rattle.std.proofs.Common.{◌≡◌, ℕ, suc, ◌≤◌, Bool, true, false, List, ◌++◌, length}
use Rattle.std.proofs.Common.{refl, sym, ap, subst, arith, ⊎_elim}
use Rattle.std.specs.Prelude.{◌<◌, ◌||◌, not, slice_get, unwrap_or, Option, None, Some, min}
use Rattle.std.specs.Option.{option_map_or}
use Rattle.std.proofs.Math.Nat.{min-eq_left, min-eq_right}
use Rattle.std.proofs.lemmas.Bool.{or_parts, cases_lt}
use Rattle.std.proofs.lemmas.Option.{slice_get_past}
use Rattle.nvm_base.proofs.Lists.{all_append}
use Rattle.c_tree.specs.declared.expr.UnaryOp.TheVariants as unary
use Rattle.c_tree.specs.ExprTree as expr
use Rattle.c_tree.specs.ExprTree.{ExprTree, Arguments}
use Rattle.c_types.specs.Tables.{Tables, index_of, function_names}
use Rattle.c_types.specs.Looking.{is_known, exp_stores, arguments_store}
use Rattle.c_types.specs.Expressions.{sides_type}
use Rattle.ir.specs.declared.instruction.Instruction.{Instruction}
use Rattle.lower.specs.declared.form.Form.{Form}
use Rattle.lower.specs.declared.form.Form.TheVariants.{Both, Either, Direct, Exchanged}
use Rattle.lower.specs.Forms.{form_of, typed_form}
use Rattle.lower.specs.Names.{Variables, nowhere, found_number, function_number}
use Rattle.lower.specs.Lowers.{Context, exp_end, exp_code, reg_of, target_end, target_code}
use Rattle.lower.specs.Lowers.{arguments_code, form_code}
use Rattle.look_law.specs.Code.{InstructionLooks, CodeLooks, looking_by}

abbrev pub AllLook : (known : List Bool) → List Instruction → Type 0
AllLook known is = CodeLooks (looking_by known) is

pub both_look : (known : List Bool) (is js : List Instruction) → AllLook known is
    → AllLook known js → AllLook known (is ++ js)
both_look known is js a b =
    all_append (InstructionLooks (looking_by known)) is js a b

-- nothing is known of a number that no function has
unknown_past : (known : List Bool) (n : ℕ) → length known ≤ n → looking_by known n ≡ true
unknown_past known n past =
    ap (λ (o : Option Bool). not (unwrap_or o false)) (slice_get_past known n past)

-- a call of a function that isn't known to store
call_looks : (t : Tables) (known : List Bool) (name : List ℕ) → length known ≤ nowhere
    → is_known t known name ≡ false → looking_by known (function_number t name) ≡ true
call_looks t known name few h = by_place (index_of name (function_names t)) h
  where
    by_place : (o : Option ℕ) → option_map_or (λ i. unwrap_or (slice_get known i) false) o false
        ≡ false → looking_by known (found_number o) ≡ true
    by_place None h = unknown_past known nowhere few
    by_place (Some i) h =
        ⊎_elim
        (λ (past : nowhere < i).
        let last : min i nowhere ≡ nowhere = min-eq_right (omega (arith, past)) in
        subst (λ (n : ℕ). looking_by known n ≡ true) (sym last) (unknown_past known nowhere few))
        (λ (within : i ≤ nowhere). let same : min i nowhere ≡ i = min-eq_left within in
        subst (λ (n : ℕ). looking_by known n ≡ true) (sym same) (ap not h))
        (cases_lt nowhere i)

form_looks : (known : List Bool) (f : Form) (node : ℕ → ℕ) (code : ℕ → List Instruction)
    (end reg : ℕ → ℕ) (on p : ℕ) → ((q : ℕ) → AllLook known (code q))
    → AllLook known (form_code f node code end reg on p)
form_looks known Both node code end reg on p all =
    (refl, both_look known (code (suc p)) _ (all (suc p)) (refl, (refl, (refl, (refl, tt)))))
form_looks known Either node code end reg on p all = (
  refl,
  (
    refl,
    both_look known (code (suc (suc p))) _ (all (suc (suc p))) (refl, (refl, (refl, (refl, tt)))),
  ),
)
form_looks known (Direct o) node code end reg on p all =
    both_look known (code p) _ (all p) (refl, tt)
form_looks known (Exchanged o) node code end reg on p all =
    both_look known (code p) _ (all p) (refl, tt)

mutual
  pub exp_looks : (k : Context) (known : List Bool) (v : Variables) (e : ExprTree) (p : ℕ)
      → length known ≤ nowhere → exp_stores k.tables known e ≡ false
      → AllLook known (exp_code k v e p)
  exp_looks k known v (expr.Number m) p few h = (refl, tt)
  exp_looks k known v expr.Null p few h = (refl, tt)
  exp_looks k known v (expr.Variable name) p few h = tt
  exp_looks k known v (expr.Call name all) p few h =
      let parts = or_parts (is_known k.tables known name.text) (arguments_store k.tables known all)
      h in
      both_look known (arguments_code k v all p) _ (arguments_look k known v all p few parts.1)
      (refl, (call_looks k.tables known name.text few parts.0, tt))
  exp_looks k known v (expr.Root name) p few h = (refl, tt)
  exp_looks k known v (expr.New place name) p few h = absurd (cc)
  exp_looks k known v (expr.Arrow base place name) p few h =
      both_look known (exp_code k v base p) _ (exp_looks k known v base p few h) (refl, tt)
  exp_looks k known v (expr.Index base place index) p few h =
      let q : ℕ = target_end base p in
      let parts = or_parts (exp_stores k.tables known base) (exp_stores k.tables known index) h in
      both_look known (target_code k v base p ++ exp_code k v index q) _
      (both_look known (target_code k v base p) _ (target_looks k known v base p few parts.0)
      (exp_looks k known v index q few parts.1)) (refl, tt)
  exp_looks k known v (expr.Unary unary.Negate place x) p few h = (
    refl,
    both_look known (exp_code k v x (suc p)) _ (exp_looks k known v x (suc p) few h)
        (refl, tt),
  )
  exp_looks k known v (expr.Unary unary.Complement place x) p few h = (
    refl,
    both_look known (exp_code k v x (suc p)) _ (exp_looks k known v x (suc p) few h)
        (refl, tt),
  )
  exp_looks k known v (expr.Unary unary.Not place x) p few h =
      both_look known (exp_code k v x p) _ (exp_looks k known v x p few h) (refl, (refl, tt))
  exp_looks k known v (expr.Unary (unary.Cast n) place x) p few h = exp_looks k known v x p few h
  exp_looks k known v (expr.Binary o place x y) p few h =
      let q : ℕ = exp_end x p in
      let form : Form = typed_form (sides_type k.tables v.scopes o x y) (form_of o) in
      let parts = or_parts (exp_stores k.tables known x) (exp_stores k.tables known y) h in
      both_look known (exp_code k v x p) _ (exp_looks k known v x p few parts.0)
      (form_looks known form k.node (exp_code k v y) (exp_end y) (reg_of k v y)
      (reg_of k v x q) q (λ z. exp_looks k known v y z few parts.1))
  exp_looks k known v (expr.Conditional c place x y) p few h =
      let p1 : ℕ = exp_end c p in
      let p2 : ℕ = exp_end x (suc p1) in
      let parts = or_parts (exp_stores k.tables known c)
      (exp_stores k.tables known x || exp_stores k.tables known y) h in
      let sides = or_parts (exp_stores k.tables known x) (exp_stores k.tables known y) parts.1 in
      both_look known (exp_code k v c p) _ (exp_looks k known v c p few parts.0) (
        refl,
        both_look known (exp_code k v x (suc p1)) _ (exp_looks k known v x (suc p1) few sides.0) (
          refl,
          (
            refl,
            both_look known (exp_code k v y (suc (suc p2))) _
                (exp_looks k known v y (suc (suc p2)) few sides.1) (refl, tt),
          ),
        ),
      )

  pub target_looks : (k : Context) (known : List Bool) (v : Variables) (e : ExprTree) (p : ℕ)
      → length known ≤ nowhere → exp_stores k.tables known e ≡ false
      → AllLook known (target_code k v e p)
  target_looks k known v (expr.Root name) p few h = tt
  target_looks k known v (expr.Arrow base place name) p few h = exp_looks k known v base p few h
  target_looks k known v (expr.Index base place index) p few h =
      let parts = or_parts (exp_stores k.tables known base) (exp_stores k.tables known index) h in
      both_look known (target_code k v base p) _ (target_looks k known v base p few parts.0)
      (exp_looks k known v index (target_end base p) few parts.1)
  target_looks k known v (expr.Number m) p few h = tt
  target_looks k known v expr.Null p few h = tt
  target_looks k known v (expr.Variable name) p few h = tt
  target_looks k known v (expr.Call name all) p few h = tt
  target_looks k known v (expr.New place name) p few h = tt
  target_looks k known v (expr.Unary o place x) p few h = tt
  target_looks k known v (expr.Binary o place x y) p few h = tt
  target_looks k known v (expr.Conditional c place x y) p few h = tt

  pub arguments_look : (k : Context) (known : List Bool) (v : Variables) (es : Arguments) (p : ℕ)
      → length known ≤ nowhere → arguments_store k.tables known es ≡ false
      → AllLook known (arguments_code k v es p)
  arguments_look k known v expr.None p few h = tt
  arguments_look k known v (expr.More first x rest) p few h =
      let parts = or_parts (exp_stores k.tables known x) (arguments_store k.tables known rest) h in
      both_look known (exp_code k v x p) _ (exp_looks k known v x p few parts.0)
      (arguments_look k known v rest (exp_end x p) few parts.1)
