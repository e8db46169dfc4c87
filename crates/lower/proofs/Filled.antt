-- Code whose holes are filled later is the code written with known places.
use Rattle.std.proofs.Common.{◌≡◌, ◌≢◌, ℕ, ℤ, pos, suc, ◌<◌, ◌≤◌, Bool, true, false, List, [], ◌∷◌}
use Rattle.std.proofs.Common.{◌++◌, map, length, refl, sym, ap, subst, arith, ⊎_elim}
use Rattle.std.specs.Prelude.{nat_eq, if◌then◌else◌, Option, None, Some}
use Rattle.std.proofs.lemmas.List.{map-append}
use Rattle.std.proofs.lemmas.Bool.Decides.{eqb_tells}
use Rattle.nvm_base.specs.declared.op.BinOp.{BinOp}
use Rattle.c_tree.specs.declared.expr.IntType.{IntType}
use Rattle.c_tree.specs.declared.expr.UnaryOp.TheVariants as unary
use Rattle.c_tree.specs.declared.stmt.AssignOp.TheVariants as assign
use Rattle.c_tree.specs.Operators.{update_binary}
use Rattle.c_tree.specs.ExprTree as expr
use Rattle.c_tree.specs.ExprTree.{ExprTree, Arguments, Ident}
use Rattle.c_tree.specs.StmtTree as stmt
use Rattle.c_tree.specs.StmtTree.{StmtTree, Statements, SimpleTree, FirstTree, InitialTree}
use Rattle.c_types.specs.Expressions.{sides_type}
use Rattle.ir.specs.declared.instruction.Instruction.{Instruction}
use Rattle.lower.specs.declared.form.Form.{Form}
use Rattle.lower.specs.declared.form.Form.TheVariants.{Both, Either, Direct, Exchanged}
use Rattle.lower.specs.Forms.{form_of, typed_form, operation_of}
use Rattle.lower.specs.Names.{Variables, inner_variables, variable_of}
use Rattle.lower.specs.inside.Holes.{to_place, hole_filled, fill_from}
use Rattle.lower.specs.Lowers.{Context, exp_end, exp_code, reg_of, target_end, target_code}
use Rattle.lower.specs.Lowers.{arguments_end, arguments_code, form_end, form_code, or_end, or_code}
use Rattle.lower.specs.Lowers.{set_end, set_code, update_end, update_code, update_operation}
use Rattle.lower.specs.Lowers.{step_operation}
use Rattle.lower.specs.Lowers.{simple_end, simple_code, initial_end, initial_code, first_end}
use Rattle.lower.specs.Lowers.{first_code, third_end, third_code, variables_after}
use Rattle.lower.specs.Lowers.{variables_after_first, stmt_end, stmt_code, statements_end}
use Rattle.lower.specs.Lowers.{statements_code}
use Rattle.lower.proofs.Ends.{form_end_typed}
use Rattle.lower.proofs.Ends.{form_end_le, exp_end_le, arguments_end_le, or_end_le, third_end_le}
use Rattle.lower.proofs.Ends.{stmt_end_le, statements_end_le}

pub to_place_same : (h place q : ℕ) → q < h → to_place h place q ≡ q
to_place_same h place q lt =
    ⊎_elim
    (λ (d : (nat_eq q h ≡ true) × (q ≡ h)). absurd (omega (arith, d.1)))
    (λ (d : (nat_eq q h ≡ false) × (q ≢ h)). ap (λ (b : Bool). if b then place else q) d.0)
    (eqb_tells q h)

form_filled : (f : Form) (node : ℕ → ℕ) (code : ℕ → List Instruction) (end reg : ℕ → ℕ)
    (on p h place : ℕ)
    → ((x : ℕ) → end x < h → map (hole_filled h place) (code x) ≡ code x) → ((x : ℕ) → x ≤ end x)
    → form_end f end p < h
    → map (hole_filled h place) (form_code f node code end reg on p) ≡ form_code f node code
    end reg on p
form_filled Both node code end reg on p h place same le lt =
    let q : ℕ = end (suc p) in
    simp (
      map-append,
      same (suc p) (omega arith),
      to_place_same h place (suc (suc (suc (suc q)))) lt,
    )
form_filled Either node code end reg on p h place same le lt =
    let q : ℕ = end (suc (suc p)) in
    simp (
      map-append,
      same (suc (suc p)) (omega arith),
      to_place_same h place (suc (suc (suc (suc q)))) lt,
      to_place_same h place (suc q) (omega arith),
    )
form_filled (Direct o) node code end reg on p h place same le lt =
    simp (map-append, same p (omega arith))
form_filled (Exchanged o) node code end reg on p h place same le lt =
    simp (map-append, same p (omega arith))

binary_filled : (f : Form) (k : Context) (v : Variables) (a b : ExprTree) (p h place : ℕ)
    → form_end f (exp_end b) (exp_end a p) < h
    → ((x : ℕ) → exp_end b x < h → map (hole_filled h place) (exp_code k v b x) ≡ exp_code k v b x)
    → (exp_end a p < h → map (hole_filled h place) (exp_code k v a p) ≡ exp_code k v a p)
    → map (hole_filled h place) (exp_code k v a p ++ form_code f k.node (exp_code k v b) (exp_end b)
    (reg_of k v b) (reg_of k v a (exp_end a p)) (exp_end a p))
    ≡ exp_code k v a p ++ form_code f k.node (exp_code k v b) (exp_end b) (reg_of k v b)
    (reg_of k v a (exp_end a p)) (exp_end a p)
binary_filled f k v a b p h place lt right left =
    let q : ℕ = exp_end a p in
    let le : q ≤ form_end f (exp_end b) q = form_end_le f (exp_end b) q (λ x. exp_end_le b x) in
    simp (
      map-append,
      left (omega arith),
      form_filled f k.node (exp_code k v b) (exp_end b)
          (reg_of k v b) (reg_of k v a q) q h place right (λ x. exp_end_le b x) lt,
    )

mutual
  pub exp_filled : (k : Context) (v : Variables) (e : ExprTree) (p h place : ℕ) → exp_end e p < h
      → map (hole_filled h place) (exp_code k v e p) ≡ exp_code k v e p
  exp_filled k v (expr.Number n) p h place lt = refl
  exp_filled k v expr.Null p h place lt = refl
  exp_filled k v (expr.Variable name) p h place lt = refl
  exp_filled k v (expr.Call name all) p h place lt =
      simp (map-append, arguments_filled k v all p h place (omega arith))
  exp_filled k v (expr.Root name) p h place lt = refl
  exp_filled k v (expr.New at name) p h place lt = refl
  exp_filled k v (expr.Arrow base at name) p h place lt =
      simp (map-append, exp_filled k v base p h place (omega arith))
  exp_filled k v (expr.Index base at index) p h place lt =
      let le : target_end base p ≤ exp_end index (target_end base p) =
      exp_end_le index (target_end base p) in
      simp (
        map-append,
        target_filled k v base p h place (omega arith),
        exp_filled k v index (target_end base p) h place (omega arith),
      )
  exp_filled k v (expr.Unary unary.Negate at a) p h place lt =
      simp (map-append, exp_filled k v a (suc p) h place (omega arith))
  exp_filled k v (expr.Unary unary.Complement at a) p h place lt =
      simp (map-append, exp_filled k v a (suc p) h place (omega arith))
  exp_filled k v (expr.Unary unary.Not at a) p h place lt =
      simp (map-append, exp_filled k v a p h place (omega arith))
  exp_filled k v (expr.Unary (unary.Cast n) at a) p h place lt = exp_filled k v a p h place lt
  exp_filled k v (expr.Binary o at a b) p h place lt =
      let n : IntType = sides_type k.tables v.scopes o a b in
      binary_filled (typed_form n (form_of o)) k v a b p h place
      (subst (λ (x : ℕ). x < h) (sym (form_end_typed n (form_of o) (exp_end b) (exp_end a p))) lt)
      (λ x. exp_filled k v b x h place) (λ less. exp_filled k v a p h place less)
  exp_filled k v (expr.Conditional c at a b) p h place lt =
      let p1 : ℕ = exp_end c p in
      let p2 : ℕ = exp_end a (suc p1) in
      let le1 : suc p1 ≤ p2 = exp_end_le a (suc p1) in
      let le2 : suc (suc p2) ≤ exp_end b (suc (suc p2)) = exp_end_le b (suc (suc p2)) in
      simp (
        map-append,
        exp_filled k v c p h place (omega arith),
        exp_filled k v a (suc p1) h place (omega arith),
        exp_filled k v b (suc (suc p2)) h place (omega arith),
        to_place_same h place (suc (exp_end b (suc (suc p2)))) lt,
      )

  pub target_filled : (k : Context) (v : Variables) (e : ExprTree) (p h place : ℕ)
      → target_end e p < h → map (hole_filled h place) (target_code k v e p) ≡ target_code k v e p
  target_filled k v (expr.Arrow base at name) p h place lt = exp_filled k v base p h place lt
  target_filled k v (expr.Index base at index) p h place lt =
      let le : target_end base p ≤ exp_end index (target_end base p) =
      exp_end_le index (target_end base p) in
      simp (
        map-append,
        target_filled k v base p h place (omega arith),
        exp_filled k v index (target_end base p) h place lt,
      )
  target_filled k v (expr.Root name) p h place lt = refl
  target_filled k v (expr.Number n) p h place lt = refl
  target_filled k v expr.Null p h place lt = refl
  target_filled k v (expr.Variable name) p h place lt = refl
  target_filled k v (expr.Call name all) p h place lt = refl
  target_filled k v (expr.New at name) p h place lt = refl
  target_filled k v (expr.Unary o at a) p h place lt = refl
  target_filled k v (expr.Binary o at a b) p h place lt = refl
  target_filled k v (expr.Conditional c at a b) p h place lt = refl

  pub arguments_filled : (k : Context) (v : Variables) (es : Arguments) (p h place : ℕ)
      → arguments_end es p < h → map (hole_filled h place) (arguments_code k v es p)
      ≡ arguments_code k v es p
  arguments_filled k v expr.None p h place lt = refl
  arguments_filled k v (expr.More first value rest) p h place lt =
      let le : exp_end value p ≤ arguments_end rest (exp_end value p) =
      arguments_end_le rest (exp_end value p) in
      simp (
        map-append,
        exp_filled k v value p h place (omega arith),
        arguments_filled k v rest (exp_end value p) h place lt,
      )

or_filled : (k : Context) (v : Variables) (n : ℤ) (e : Option ExprTree) (p h place : ℕ)
    → or_end e p < h → map (hole_filled h place) (or_code k v n e p) ≡ or_code k v n e p
or_filled k v n None p h place lt = refl
or_filled k v n (Some e) p h place lt = exp_filled k v e p h place lt

initial_filled : (k : Context) (v : Variables) (i : Option InitialTree) (p h place : ℕ)
    → initial_end i p < h → map (hole_filled h place) (initial_code k v i p) ≡ initial_code k v i p
initial_filled k v None p h place lt = refl
initial_filled k v (Some i) p h place lt =
    simp (map-append, exp_filled k v i.value p h place (omega arith))

set_filled : (k : Context) (v : Variables) (name : Option Ident) (target : ExprTree) (at : ℕ)
    (value : ExprTree) (p h place : ℕ) → set_end name target value p < h
    → map (hole_filled h place) (set_code k v name target at value p) ≡ set_code k v name target
    at value p
set_filled k v (Some name) target at value p h place lt =
    simp (map-append, exp_filled k v value p h place (omega arith))
set_filled k v None target at value p h place lt =
    let le : target_end target p ≤ exp_end value (target_end target p) =
    exp_end_le value (target_end target p) in
    simp (
      map-append,
      target_filled k v target p h place (omega arith),
      exp_filled k v value (target_end target p) h place (omega arith),
    )

update_filled : (k : Context) (v : Variables) (name : Option Ident) (target : ExprTree) (at : ℕ)
    (o : BinOp) (value : Option ExprTree) (p h place : ℕ) → update_end name target value p < h
    → map (hole_filled h place) (update_code k v name target at o value p) ≡ update_code k v name
    target at o value p
update_filled k v (Some name) target at o value p h place lt =
    simp (map-append, or_filled k v (pos 1) value p h place (omega arith))
update_filled k v None target at o value p h place lt =
    let q : ℕ = suc (target_end target p) in
    let le : q ≤ or_end value q = or_end_le value q in
    simp (
      map-append,
      target_filled k v target p h place (omega arith),
      or_filled k v (pos 1) value q h place (omega arith),
    )

pub simple_filled : (k : Context) (v : Variables) (x : SimpleTree) (p h place : ℕ)
    → simple_end x p < h → map (hole_filled h place) (simple_code k v x p) ≡ simple_code k v x p
simple_filled k v (stmt.Assign target assign.Set at value) p h place lt =
    set_filled k v (variable_of target) target at value p h place lt
simple_filled k v (stmt.Assign target (assign.Update o) at value) p h place lt =
    update_filled k v (variable_of target) target at
    (operation_of (sides_type k.tables v.scopes (update_binary o) target value)
    (update_operation o)) (Some value) p h place lt
simple_filled k v (stmt.Step target o at) p h place lt =
    update_filled k v (variable_of target) target at (step_operation o) None p h place lt
simple_filled k v (stmt.Call name all) p h place lt =
    exp_filled k v (expr.Call name all) p h place lt
simple_filled k v (stmt.Free at pointer) p h place lt =
    simp (map-append, exp_filled k v pointer p h place (omega arith))
simple_filled k v (stmt.Abort at) p h place lt = refl

first_filled : (k : Context) (v : Variables) (f : Option FirstTree) (p h place : ℕ)
    → first_end f p < h → map (hole_filled h place) (first_code k v f p) ≡ first_code k v f p
first_filled k v None p h place lt = refl
first_filled k v (Some (stmt.Declare d)) p h place lt = initial_filled k v d.initial p h place lt
first_filled k v (Some (stmt.Simply x)) p h place lt = simple_filled k v x p h place lt

pub third_filled : (k : Context) (v : Variables) (x : Option SimpleTree) (p h place : ℕ)
    → third_end x p < h → map (hole_filled h place) (third_code k v x p) ≡ third_code k v x p
third_filled k v None p h place lt = refl
third_filled k v (Some x) p h place lt = simple_filled k v x p h place lt

mutual
  pub stmt_filled : (k : Context) (v : Variables) (x : StmtTree) (out again p h place : ℕ)
      → stmt_end x p < h
      → map (hole_filled h place) (stmt_code k v x out again p) ≡ stmt_code k v x
      (to_place h place out) (to_place h place again) p
  stmt_filled k v stmt.Empty out again p h place lt = refl
  stmt_filled k v (stmt.Declares d) out again p h place lt =
      initial_filled k v d.initial p h place lt
  stmt_filled k v (stmt.Simple x) out again p h place lt = simple_filled k v x p h place lt
  stmt_filled k v (stmt.Block all) out again p h place lt =
      statements_filled k (inner_variables v) all out again p h place lt
  stmt_filled k v (stmt.If c a) out again p h place lt =
      let p1 : ℕ = exp_end c p in
      let le : suc p1 ≤ stmt_end a (suc p1) = stmt_end_le a (suc p1) in
      simp (
        map-append,
        exp_filled k v c p h place (omega arith),
        stmt_filled k (inner_variables v) a out again (suc p1) h place lt,
      )
  stmt_filled k v (stmt.IfElse c a b) out again p h place lt =
      let p1 : ℕ = exp_end c p in
      let p2 : ℕ = stmt_end a (suc p1) in
      let le1 : suc p1 ≤ p2 = stmt_end_le a (suc p1) in
      let le2 : suc p2 ≤ stmt_end b (suc p2) = stmt_end_le b (suc p2) in
      simp (
        map-append,
        exp_filled k v c p h place (omega arith),
        stmt_filled k (inner_variables v) a out again (suc p1) h place (omega arith),
        stmt_filled k (inner_variables v) b out again (suc p2) h place lt,
        to_place_same h place (stmt_end b (suc p2)) lt,
      )
  stmt_filled k v (stmt.While at c a) out again p h place lt =
      let p1 : ℕ = exp_end c (suc p) in
      let p2 : ℕ = stmt_end a (suc p1) in
      let le1 : suc p ≤ p1 = exp_end_le c (suc p) in
      let le2 : suc p1 ≤ p2 = stmt_end_le a (suc p1) in
      simp (
        map-append,
        exp_filled k v c (suc p) h place (omega arith),
        stmt_filled k (inner_variables v) a (suc p2) p (suc p1) h place (omega arith),
        to_place_same h place (suc p2) lt,
        to_place_same h place p (omega arith),
      )
  stmt_filled k v (stmt.Do at a c) out again p h place lt =
      let p1 : ℕ = stmt_end a p in
      let p2 : ℕ = exp_end c (suc p1) in
      let le1 : p ≤ p1 = stmt_end_le a p in
      let le2 : suc p1 ≤ p2 = exp_end_le c (suc p1) in
      simp (
        map-append,
        stmt_filled k (inner_variables v) a (suc (suc p2)) p1 p h place (omega arith),
        exp_filled k v c (suc p1) h place (omega arith),
        to_place_same h place (suc (suc p2)) lt,
        to_place_same h place p1 (omega arith),
        to_place_same h place p (omega arith),
      )
  stmt_filled k v (stmt.For at first c third a) out again p h place lt =
      let u : Variables = variables_after_first k first p (inner_variables v) in
      let p0 : ℕ = first_end first p in
      let p1 : ℕ = or_end c (suc p0) in
      let p2 : ℕ = stmt_end a (suc p1) in
      let p3 : ℕ = third_end third p2 in
      let le1 : suc p0 ≤ p1 = or_end_le c (suc p0) in
      let le2 : suc p1 ≤ p2 = stmt_end_le a (suc p1) in
      let le3 : p2 ≤ p3 = third_end_le third p2 in
      simp (
        map-append,
        first_filled k (inner_variables v) first p h place (omega arith),
        or_filled k u (pos 1) c (suc p0) h place (omega arith),
        stmt_filled k (inner_variables u) a (suc p3) p2 (suc p1) h place (omega arith),
        third_filled k u third p2 h place (omega arith),
        to_place_same h place (suc p3) lt,
        to_place_same h place p2 (omega arith),
        to_place_same h place p0 (omega arith),
      )
  stmt_filled k v stmt.Break out again p h place lt = refl
  stmt_filled k v stmt.Continue out again p h place lt = refl
  stmt_filled k v (stmt.Return at value) out again p h place lt =
      simp (map-append, or_filled k v (pos 0) value p h place (omega arith))

  pub statements_filled : (k : Context) (v : Variables) (xs : Statements) (out again p h place : ℕ)
      → statements_end xs p < h
      → map (hole_filled h place) (statements_code k v xs out again p) ≡ statements_code k v xs
      (to_place h place out) (to_place h place again) p
  statements_filled k v stmt.Nothing out again p h place lt = refl
  statements_filled k v (stmt.Then x xs) out again p h place lt =
      let le : stmt_end x p ≤ statements_end xs (stmt_end x p) =
      statements_end_le xs (stmt_end x p) in
      simp (
        map-append,
        stmt_filled k v x out again p h place (omega arith),
        statements_filled k (variables_after k x p v) xs out again (stmt_end x p) h place lt,
      )

-- filling only from the place where a part begins
pub fill_from_after : (h : ℕ) (c b : List Instruction) (place : ℕ)
    → fill_from h (length c) place (c ++ b) ≡ c ++ map (hole_filled h place) b
fill_from_after h [] [] place = refl
fill_from_after h [] (i ∷ b) place =
    ap (λ l. hole_filled h place i ∷ l) (fill_from_after h [] b place)
fill_from_after h (i ∷ c) b place = ap (λ l. i ∷ l) (fill_from_after h c b place)
