-- The code written for the parts of a statement, put together.
use Rattle.std.proofs.Common.{◌≡◌, ℕ, zero, suc, ◌+◌, ◌≤◌, ◌^◌, pos, List, [], ◌∷◌, ◌++◌, length}
use Rattle.std.proofs.Common.{map, refl, sym, ap, ◌∙◌, arith, append_assoc, length-append}
use Rattle.std.proofs.Common.{length-set}
use Rattle.std.specs.Prelude.{slice_set, Option, None, Some}
use Rattle.std.proofs.Math.Seq.{set-append_seam}
use Rattle.std.proofs.lemmas.List.{append-nil, map-append}
use Rattle.nvm_base.specs.declared.op.BinOp.{BinOp}
use Rattle.pool_map.specs.declared.trap.TrapKind.TheVariants as trap
use Rattle.c_tree.specs.declared.stmt.AssignOp.TheVariants as assign
use Rattle.c_tree.specs.declared.stmt.UpdateOp.{UpdateOp}
use Rattle.c_tree.specs.declared.stmt.StepOp.{StepOp}
use Rattle.c_tree.specs.Operators.{update_binary}
use Rattle.c_types.specs.Expressions.{type_of, sides_type}
use Rattle.c_tree.specs.ExprTree as expr
use Rattle.c_tree.specs.ExprTree.{ExprTree, Arguments, Ident}
use Rattle.c_tree.specs.StmtTree as stmt
use Rattle.c_tree.specs.StmtTree.{StmtTree, Statements, SimpleTree, FirstTree, DeclarationTree}
use Rattle.c_tree.specs.StmtTree.{InitialTree}
use Rattle.c_tree.specs.Program.{source_line}
use Rattle.c_tree.proofs.Trees.{stmt_of-Block}
use Rattle.c_types.specs.Tables.{declared_type, pointed_struct}
use Rattle.c_types.specs.declared.value_type.ValueType.{ValueType}
use Rattle.ir.specs.declared.instruction.Target.{Target}
use Rattle.ir.specs.declared.instruction.Instruction.{Instruction}
use Rattle.ir.specs.declared.instruction.Instruction.TheVariants.{Const, Copy, Bin, Jump, Branch}
use Rattle.ir.specs.declared.instruction.Instruction.TheVariants.{Load, Store, Free, Return, Tick}
use Rattle.ir.specs.declared.instruction.Instruction.TheVariants.{Trap}
use Rattle.lower.specs.Names.{Variables, inner_variables, variable_declared, register_of}
use Rattle.lower.specs.Names.{variable_of, struct_kind_at}
use Rattle.lower.specs.Forms.{operation_of}
use Rattle.lower.specs.inside.Names.{outer_variables}
use Rattle.lower.specs.inside.Holes.{leave, third_part, to_place, hole_filled, fill_from}
use Rattle.lower.specs.Lowers.{Context, exp_end, exp_code, reg_of, target_end, target_code}
use Rattle.lower.specs.Lowers.{target_of, or_end, or_code, or_reg, set_end, set_code, update_end}
use Rattle.lower.specs.Lowers.{update_code, update_operation, step_operation, initial_end}
use Rattle.lower.specs.Lowers.{first_end, first_code}
use Rattle.lower.specs.Lowers.{variables_after_first, third_end, third_code, variables_after}
use Rattle.lower.specs.Lowers.{stmt_end, stmt_code, statements_code}
use Rattle.lower.specs.inside.Lowers.{variables_after_all, for_end, for_code}
use Rattle.lower.specs.inside.Added.{Put, ExprAdded, TargetAdded, OrAdded, InitialAdded}
use Rattle.lower.specs.inside.Added.{SimpleAdded, FirstAdded, ThirdAdded, StmtAdded}
use Rattle.lower.specs.inside.Added.{StatementsAdded, BodyAdded, ForAdded, UpdateAdded, IfAdded}
use Rattle.lower.specs.inside.Added.{ElseAdded, WhileAdded, DoAdded, ReturnAdded}
use Rattle.lower.proofs.Ends.{exp_end_le, or_end_le, stmt_end_le, third_end_le}
use Rattle.lower.proofs.ExprAdds.{put_long, one_more, seam}
use Rattle.lower.proofs.Filled.{to_place_same, exp_filled, stmt_filled, third_filled}
use Rattle.lower.proofs.Filled.{fill_from_after}

-- a statement changes only the innermost scope
outer_declared : (name : List ℕ) (ty : ValueType) (r : ℕ) (v : Variables)
    → outer_variables (variable_declared name ty r v) ≡ outer_variables v
outer_declared name ty r v = outer_parts name ty r v.scopes v.locals
  where
    outer_parts : (name : List ℕ) (ty : ValueType) (r : ℕ) (s : _) (l : _)
        → outer_variables (variable_declared name ty r (record { scopes = s; locals = l }))
        ≡ outer_variables (record { scopes = s; locals = l })
    outer_parts name ty r [] [] = refl
    outer_parts name ty r (x ∷ xs) [] = refl
    outer_parts name ty r [] (y ∷ ys) = refl
    outer_parts name ty r (x ∷ xs) (y ∷ ys) = refl

outer_after : (k : Context) (x : StmtTree) (p : ℕ) (v : Variables)
    → outer_variables (variables_after k x p v) ≡ outer_variables v
outer_after k (stmt.Declares d) p v =
    outer_declared d.name.text (declared_type k.tables d.ty) (k.node (initial_end d.initial p)) v
outer_after k stmt.Empty p v = refl
outer_after k (stmt.Simple x) p v = refl
outer_after k (stmt.Block all) p v = refl
outer_after k (stmt.If c a) p v = refl
outer_after k (stmt.IfElse c a b) p v = refl
outer_after k (stmt.While place c a) p v = refl
outer_after k (stmt.Do place a c) p v = refl
outer_after k (stmt.For place first c third a) p v = refl
outer_after k stmt.Break p v = refl
outer_after k stmt.Continue p v = refl
outer_after k (stmt.Return place value) p v = refl

outer_after_all : (k : Context) (xs : Statements) (p : ℕ) (v : Variables)
    → outer_variables (variables_after_all k xs p v) ≡ outer_variables v
outer_after_all k stmt.Nothing p v = refl
outer_after_all k (stmt.Then x xs) p v =
    outer_after_all k xs (stmt_end x p) (variables_after k x p v) ∙ outer_after k x p v

outer_after_first : (k : Context) (f : Option FirstTree) (p : ℕ) (v : Variables)
    → outer_variables (variables_after_first k f p v) ≡ outer_variables v
outer_after_first k None p v = refl
outer_after_first k (Some (stmt.Declare d)) p v =
    outer_declared d.name.text (declared_type k.tables d.ty) (k.node (initial_end d.initial p)) v
outer_after_first k (Some (stmt.Simply x)) p v = refl

-- a branch that was written before its target was known
patched : (c c5 c6 M : List Instruction) (r n off : ℕ) → n ≡ length c → c5 ≡ c ++ Branch r 0 ∷ M
    → c6 ≡ slice_set c5 n (Branch r off) → c6 ≡ c ++ Branch r off ∷ M
patched c c5 c6 M r n off hn h5 h6 = h6 ∙ ap (λ l. slice_set l n (Branch r off)) h5
    ∙ ap (λ i. slice_set (c ++ Branch r 0 ∷ M) i (Branch r off)) hn ∙ set-append_seam c (Branch r 0)
    M (Branch r off)

-- filling the code after a branch
filled_after : (h place : ℕ) (c c6 c7 M : List Instruction) (b : Instruction) (n : ℕ) → n ≡ length c
    → c6 ≡ c ++ b ∷ M → c7 ≡ fill_from h (n + 1) place c6
    → c7 ≡ c ++ b ∷ map (hole_filled h place) M
filled_after h place c c6 c7 M b n hn h6 h7 =
    let front : List Instruction = c ++ b ∷ [] in
    let lf : n + 1 ≡ length front = ap (λ i. i + 1) hn ∙ sym (length-append c (b ∷ [])) in
    let f6 : c6 ≡ front ++ M = h6 ∙ sym (append_assoc c (b ∷ []) M) in
    h7 ∙ ap (fill_from h (n + 1) place) f6 ∙ ap (λ i. fill_from h i place (front ++ M)) lf
    ∙ fill_from_after h front M place ∙ append_assoc c (b ∷ []) (map (hole_filled h place) M)

-- filling the code from its beginning on
body_filled : (h place : ℕ) (c c1 c2 M : List Instruction) (top : ℕ) → top ≡ length c
    → c1 ≡ c ++ M → c2 ≡ fill_from h top place c1 → c2 ≡ c ++ map (hole_filled h place) M
body_filled h place c c1 c2 M top ht h1 h2 =
    h2 ∙ ap (fill_from h top place) h1 ∙ ap (λ i. fill_from h i place (c ++ M)) ht
    ∙ fill_from_after h c M place

fill_long : (h n place : ℕ) (c : List Instruction) → length (fill_from h n place c) ≡ length c
fill_long h n place [] = refl
fill_long h zero place (i ∷ is) = ap suc (fill_long h zero place is)
fill_long h (suc n) place (i ∷ is) = ap suc (fill_long h n place is)

pub fill_from_long : (h n place : ℕ) (c c1 : List Instruction) → c1 ≡ fill_from h n place c
    → length c1 ≡ length c
fill_from_long h n place c c1 e = ap length e ∙ fill_long h n place c

pub body_added : (k : Context) (v : Variables) (x : StmtTree) (out again : ℕ)
    (c c1 : List Instruction) (u w : Variables)
    → StmtAdded k (inner_variables v) x out again c c1 u → w ≡ outer_variables u
    → BodyAdded k v x out again c c1 w
body_added k v x out again c c1 u w h is = record {
  code = h.code;
  long = h.long;
  variables = is ∙ ap outer_variables h.variables ∙ outer_after k x (length c) (inner_variables v);
}

pub block_added : (k : Context) (v : Variables) (xs : Statements) (out again : ℕ)
    (c c1 : List Instruction) (u w : Variables)
    → StatementsAdded k (inner_variables v) xs out again c c1 u → w ≡ outer_variables u
    → StmtAdded k v (stmt.Block xs) out again c c1 w
block_added k v xs out again c c1 u w h is = record {
  code = h.code;
  long = h.long;
  variables = is ∙ ap outer_variables h.variables ∙ outer_after_all k xs (length c)
      (inner_variables v);
}

pub simple_stmt : (k : Context) (v : Variables) (x : SimpleTree) (out again : ℕ)
    (c c1 : List Instruction)
    → SimpleAdded k v x c c1 → StmtAdded k v (stmt.Simple x) out again c c1 v
simple_stmt k v x out again c c1 h = record { code = h.code; long = h.long; variables = refl }

pub initial_none : (k : Context) (v : Variables) (c c1 : List Instruction) (r : ℕ)
    → Put k (λ to. Const to (pos 0)) c c1 r → InitialAdded k v None c c1 r
initial_none k v c c1 r h = record {
  code = h.code ∙ ap (λ x. c ++ Const x (pos 0) ∷ []) h.register;
  long = put_long k (λ to. Const to (pos 0)) c c1 r h;
  register = h.register;
}

pub initial_some : (k : Context) (v : Variables) (i : InitialTree)
    (c c1 c2 : List Instruction) (x r : ℕ)
    → ExprAdded k v i.value c c1 x → Put k (λ to. Copy to x) c1 c2 r
    → InitialAdded k v (Some i) c c2 r
initial_some k v i c c1 c2 x r h p =
    let q : ℕ = exp_end i.value (length c) in
    let r' : r ≡ k.node (suc q) = p.register ∙ ap (λ n. k.node (suc n)) h.long in
    let x' : x ≡ reg_of k v i.value q = h.register ∙ ap (reg_of k v i.value) h.long in
    record {
      code = seam c c1 c2 (exp_code k v i.value (length c)) (Copy r x ∷ []) h.code p.code
          ∙ ap (λ y. c ++ (exp_code k v i.value (length c) ++ Copy y x ∷ [])) r'
          ∙ ap (λ y. c ++ (exp_code k v i.value (length c) ++ Copy (k.node (suc q)) y ∷ [])) x';
      long = put_long k (λ to. Copy to x) c1 c2 r p ∙ ap suc h.long;
      register = r';
    }

pub declaration_first : (k : Context) (v : Variables) (d : DeclarationTree)
    (c c1 : List Instruction) (r : ℕ) (u : Variables)
    → InitialAdded k v d.initial c c1 r
    → u ≡ variable_declared d.name.text (declared_type k.tables d.ty) r v
    → FirstAdded k v (Some (stmt.Declare d)) c c1 u
declaration_first k v d c c1 r u h is = record {
  code = h.code;
  long = h.long;
  variables = is ∙ ap (λ x. variable_declared d.name.text (declared_type k.tables d.ty) x v)
      h.register;
}

pub declaration_stmt : (k : Context) (v : Variables) (d : DeclarationTree) (out again : ℕ)
    (c c1 : List Instruction) (u : Variables)
    → FirstAdded k v (Some (stmt.Declare d)) c c1 u
    → StmtAdded k v (stmt.Declares d) out again c c1 u
declaration_stmt k v d out again c c1 u h =
    record { code = h.code; long = h.long; variables = h.variables }

pub first_simple : (k : Context) (v : Variables) (x : SimpleTree) (c c1 : List Instruction)
    → SimpleAdded k v x c c1 → FirstAdded k v (Some (stmt.Simply x)) c c1 v
first_simple k v x c c1 h = record { code = h.code; long = h.long; variables = refl }

pub first_none : (k : Context) (v : Variables) (c : List Instruction) → FirstAdded k v None c c v
first_none k v c = record { code = sym (append-nil c); long = refl; variables = refl }

pub third_some : (k : Context) (v : Variables) (x : SimpleTree) (c c1 : List Instruction)
    → SimpleAdded k v x c c1 → ThirdAdded k v (Some x) c c1
third_some k v x c c1 h = record { code = h.code; long = h.long }

pub third_none : (k : Context) (v : Variables) (c : List Instruction) → ThirdAdded k v None c c
third_none k v c = record { code = sym (append-nil c); long = refl }

pub empty_added : (k : Context) (v : Variables) (out again : ℕ) (c : List Instruction)
    → StmtAdded k v stmt.Empty out again c c v
empty_added k v out again c = record { code = sym (append-nil c); long = refl; variables = refl }

pub break_added : (k : Context) (v : Variables) (out again : ℕ) (c c1 : List Instruction)
    → c1 ≡ c ++ Jump out ∷ [] → StmtAdded k v stmt.Break out again c c1 v
break_added k v out again c c1 e =
    record { code = e; long = one_more c c1 (Jump out) e; variables = refl }

pub continue_added : (k : Context) (v : Variables) (out again : ℕ) (c c1 : List Instruction)
    → c1 ≡ c ++ Jump again ∷ [] → StmtAdded k v stmt.Continue out again c c1 v
continue_added k v out again c c1 e =
    record { code = e; long = one_more c c1 (Jump again) e; variables = refl }

pub return_added : (k : Context) (v : Variables) (value : Option ExprTree)
    (c c1 c2 : List Instruction) (r : ℕ)
    → OrAdded k v (pos 0) value c c1 r → c2 ≡ c1 ++ Return r ∷ [] → ReturnAdded k v value c c2
return_added k v value c c1 c2 r h e =
    let r' : r ≡ or_reg k v value (or_end value (length c)) =
    h.register ∙ ap (or_reg k v value) h.long in
    record {
      code = seam c c1 c2 (or_code k v (pos 0) value (length c)) (Return r ∷ []) h.code e
          ∙ ap (λ y. c ++ (or_code k v (pos 0) value (length c) ++ Return y ∷ [])) r';
      long = one_more c1 c2 (Return r) e ∙ ap suc h.long;
    }

pub if_part_added : (k : Context) (v : Variables) (e : ExprTree) (a : StmtTree)
    (out again ahead : ℕ) (c c1 c2 c3 c4 : List Instruction) (u : Variables) (r n m : ℕ)
    → ExprAdded k v e c c1 r → n ≡ length c1 → c2 ≡ c1 ++ Branch r 0 ∷ []
    → BodyAdded k v a out again c2 c3 u → m ≡ length c3
    → c4 ≡ slice_set c3 n (Branch r (m + ahead)) → IfAdded k v e a out again ahead c c4 u
if_part_added k v e a out again ahead c c1 c2 c3 c4 u r n m he hn h2 ha hm h4 =
    let p1 : ℕ = exp_end e (length c) in
    let p2 : ℕ = stmt_end a (suc p1) in
    let q2 : length c2 ≡ suc p1 = one_more c1 c2 (Branch r 0) h2 ∙ ap suc he.long in
    let q3 : length c3 ≡ p2 = ha.long ∙ ap (stmt_end a) q2 in
    let A : List Instruction = stmt_code k (inner_variables v) a out again (suc p1) in
    let E : List Instruction = exp_code k v e (length c) in
    let e3 : c3 ≡ c2 ++ A = ha.code
    ∙ ap (λ i. c2 ++ stmt_code k (inner_variables v) a out again i) q2 in
    let s3 : c3 ≡ c1 ++ Branch r 0 ∷ A = seam c1 c2 c3 (Branch r 0 ∷ []) A h2 e3 in
    let s4 : c4 ≡ c1 ++ Branch r (m + ahead) ∷ A = patched c1 c3 c4 A r n (m + ahead) hn s3 h4 in
    let s0 : c4 ≡ c ++ (E ++ Branch r (m + ahead) ∷ A) =
    seam c c1 c4 E (Branch r (m + ahead) ∷ A) he.code s4 in
    let r' : r ≡ reg_of k v e p1 = he.register ∙ ap (reg_of k v e) he.long in
    record {
      code = s0 ∙ ap (λ i. c ++ (E ++ Branch r (i + ahead) ∷ A)) (hm ∙ q3)
          ∙ ap (λ i. c ++ (E ++ Branch i (p2 + ahead) ∷ A)) r';
      long = ap length h4 ∙ length-set c3 n (Branch r (m + ahead)) ∙ q3;
      variables = ha.variables;
    }

pub else_part_added : (k : Context) (v : Variables) (b : StmtTree) (out again : ℕ)
    (c c1 c2 c3 : List Instruction) (u : Variables) (n m : ℕ)
    → n ≡ length c → c1 ≡ c ++ Jump 0 ∷ [] → BodyAdded k v b out again c1 c2 u → m ≡ length c2
    → c3 ≡ slice_set c2 n (Jump m) → ElseAdded k v b out again c c3 u
else_part_added k v b out again c c1 c2 c3 u n m hn h1 hb hm h3 =
    let p : ℕ = length c in
    let l1 : length c1 ≡ suc p = one_more c c1 (Jump 0) h1 in
    let l2 : length c2 ≡ stmt_end b (suc p) = hb.long ∙ ap (stmt_end b) l1 in
    let B : List Instruction = stmt_code k (inner_variables v) b out again (suc p) in
    let e2 : c2 ≡ c1 ++ B = hb.code
    ∙ ap (λ i. c1 ++ stmt_code k (inner_variables v) b out again i) l1 in
    let s2 : c2 ≡ c ++ Jump 0 ∷ B = seam c c1 c2 (Jump 0 ∷ []) B h1 e2 in
    let s3 : c3 ≡ c ++ Jump m ∷ B = h3 ∙ ap (λ l. slice_set l n (Jump m)) s2
    ∙ ap (λ i. slice_set (c ++ Jump 0 ∷ B) i (Jump m)) hn
    ∙ set-append_seam c (Jump 0) B (Jump m) in
    record {
      code = s3 ∙ ap (λ i. c ++ Jump i ∷ B) (hm ∙ l2);
      long = ap length h3 ∙ length-set c2 n (Jump m) ∙ l2;
      variables = hb.variables;
    }

pub if_added : (k : Context) (v : Variables) (e : ExprTree) (a : StmtTree) (out again : ℕ)
    (c c1 : List Instruction) (u : Variables)
    → IfAdded k v e a out again 0 c c1 u → StmtAdded k v (stmt.If e a) out again c c1 u
if_added k v e a out again c c1 u h =
    let p1 : ℕ = exp_end e (length c) in
    let z : stmt_end a (suc p1) + 0 ≡ stmt_end a (suc p1) = omega arith in
    record {
      code = h.code ∙ ap (λ i. c ++ (exp_code k v e (length c)
          ++ (Branch (reg_of k v e p1) i ∷ stmt_code k (inner_variables v) a out again (suc p1))))
          z;
      long = h.long;
      variables = h.variables;
    }

pub if_else_added : (k : Context) (v : Variables) (e : ExprTree) (a b : StmtTree) (out again : ℕ)
    (c c1 c2 : List Instruction) (u w : Variables)
    → IfAdded k v e a out again 1 c c1 u → ElseAdded k u b out again c1 c2 w
    → StmtAdded k v (stmt.IfElse e a b) out again c c2 w
if_else_added k v e a b out again c c1 c2 u w h hb =
    let p1 : ℕ = exp_end e (length c) in
    let p2 : ℕ = stmt_end a (suc p1) in
    let E : List Instruction = exp_code k v e (length c) in
    let A : List Instruction = stmt_code k (inner_variables v) a out again (suc p1) in
    let B : List Instruction = Jump (stmt_end b (suc p2)) ∷ stmt_code k (inner_variables v) b out
    again (suc p2) in
    let z : p2 + 1 ≡ suc p2 = omega arith in
    let M : List Instruction = Branch (reg_of k v e p1) (p2 + 1) ∷ A in
    let e2 : c2 ≡ c1 ++ B = hb.code
    ∙ ap (λ x. c1 ++ (Jump (stmt_end b (suc (length c1))) ∷ stmt_code k (inner_variables x) b out
    again (suc (length c1)))) h.variables
    ∙ ap (λ n. c1 ++ (Jump (stmt_end b (suc n)) ∷ stmt_code k (inner_variables v) b out again
    (suc n))) h.long in
    record {
      code = seam c c1 c2 (E ++ M) B h.code e2 ∙ ap (λ l. c ++ l) (append_assoc E M B)
          ∙ ap (λ i. c ++ (E ++ (Branch (reg_of k v e p1) i ∷ (A ++ B)))) z;
      long = hb.long ∙ ap (λ n. stmt_end b (suc n)) h.long;
      variables = hb.variables ∙ h.variables;
    }

pub while_added : (k : Context) (v : Variables) (e : ExprTree) (a : StmtTree)
    (c c1 c2 c3 c4 c5 c6 c7 : List Instruction) (u : Variables) (r top n m : ℕ)
    → top ≡ length c → c1 ≡ c ++ Tick ∷ [] → ExprAdded k v e c1 c2 r → n ≡ length c2
    → c3 ≡ c2 ++ Branch r 0 ∷ []
    → BodyAdded k v a leave top c3 c4 u → m ≡ length c4 → length c4 ≤ 2 ^ 29
    → c5 ≡ c4 ++ Jump top ∷ [] → c6 ≡ slice_set c5 n (Branch r (m + 1))
    → c7 ≡ fill_from leave (n + 1) (m + 1) c6 → WhileAdded k v e a c c7 u
while_added k v e a c c1 c2 c3 c4 c5 c6 c7 u r top n m ht h1 he hn h3 ha hm small h5 h6 h7 =
    let p : ℕ = length c in
    let p1 : ℕ = exp_end e (suc p) in
    let p2 : ℕ = stmt_end a (suc p1) in
    let q1 : length c1 ≡ suc p = one_more c c1 Tick h1 in
    let q2 : length c2 ≡ p1 = he.long ∙ ap (exp_end e) q1 in
    let q3 : length c3 ≡ suc p1 = one_more c2 c3 (Branch r 0) h3 ∙ ap suc q2 in
    let q4 : length c4 ≡ p2 = ha.long ∙ ap (stmt_end a) q3 in
    let off : m + 1 ≡ suc p2 = omega (arith, hm, q4) in
    let A : List Instruction = stmt_code k (inner_variables v) a leave p (suc p1) in
    let F : List Instruction = stmt_code k (inner_variables v) a (suc p2) p (suc p1) in
    let e4 : c4 ≡ c3 ++ A = ha.code
    ∙ ap (λ i. c3 ++ stmt_code k (inner_variables v) a leave i (length c3)) ht
    ∙ ap (λ i. c3 ++ stmt_code k (inner_variables v) a leave p i) q3 in
    let s5 : c5 ≡ c3 ++ (A ++ Jump top ∷ []) = seam c3 c4 c5 A (Jump top ∷ []) e4 h5 in
    let t5 : c5 ≡ c2 ++ Branch r 0 ∷ (A ++ Jump top ∷ []) =
    seam c2 c3 c5 (Branch r 0 ∷ []) (A ++ Jump top ∷ []) h3 s5 in
    let s6 : c6 ≡ c2 ++ Branch r (m + 1) ∷ (A ++ Jump top ∷ []) =
    patched c2 c5 c6 (A ++ Jump top ∷ []) r n (m + 1) hn t5 h6 in
    let s7 : c7 ≡ c2 ++ Branch r (m + 1) ∷ map (hole_filled leave (m + 1)) (A ++ Jump top ∷ []) =
    filled_after leave (m + 1) c2 c6 c7 (A ++ Jump top ∷ []) (Branch r (m + 1)) n hn s6 h7 in
    let le1 : suc p ≤ p1 = exp_end_le e (suc p) in
    let le2 : suc p1 ≤ p2 = stmt_end_le a (suc p1) in
    let room : p2 ≤ 2 ^ 29 = omega (arith, q4, small) in
    let stay : to_place leave (m + 1) p ≡ p = to_place_same leave (m + 1) p (omega arith) in
    let fa : map (hole_filled leave (m + 1)) A ≡ F =
    stmt_filled k (inner_variables v) a leave p (suc p1) leave (m + 1) (omega arith)
    ∙ ap (λ i. stmt_code k (inner_variables v) a (m + 1) i (suc p1)) stay
    ∙ ap (λ i. stmt_code k (inner_variables v) a i p (suc p1)) off in
    let fb : map (hole_filled leave (m + 1)) (A ++ Jump top ∷ []) ≡ F ++ Jump p ∷ [] =
    ap (λ i. map (hole_filled leave (m + 1)) (A ++ Jump i ∷ [])) ht
    ∙ map-append (hole_filled leave (m + 1)) A (Jump p ∷ [])
    ∙ ap (λ i. map (hole_filled leave (m + 1)) A ++ Jump i ∷ []) stay
    ∙ ap (λ l. l ++ Jump p ∷ []) fa in
    let E : List Instruction = exp_code k v e (suc p) in
    let e2 : c2 ≡ c1 ++ E = he.code ∙ ap (λ i. c1 ++ exp_code k v e i) q1 in
    let t2 : c2 ≡ c ++ Tick ∷ E = seam c c1 c2 (Tick ∷ []) E h1 e2 in
    let r' : r ≡ reg_of k v e p1 = he.register ∙ ap (reg_of k v e) q2 in
    let s8 : c7 ≡ c2 ++ Branch (reg_of k v e p1) (suc p2) ∷ (F ++ Jump p ∷ []) =
    s7 ∙ ap (λ l. c2 ++ Branch r (m + 1) ∷ l) fb
    ∙ ap (λ i. c2 ++ Branch r i ∷ (F ++ Jump p ∷ [])) off
    ∙ ap (λ i. c2 ++ Branch i (suc p2) ∷ (F ++ Jump p ∷ [])) r' in
    let l5 : length c5 ≡ suc p2 = one_more c4 c5 (Jump top) h5 ∙ ap suc q4 in
    let l6 : length c6 ≡ suc p2 = ap length h6 ∙ length-set c5 n (Branch r (m + 1)) ∙ l5 in
    let l7 : length c7 ≡ suc p2 = fill_from_long leave (n + 1) (m + 1) c6 c7 h7 ∙ l6 in
    record {
      code = seam c c2 c7 (Tick ∷ E) (Branch (reg_of k v e p1) (suc p2) ∷ (F ++ Jump p ∷ [])) t2 s8;
      long = l7;
      variables = ha.variables;
    }

pub do_added : (k : Context) (v : Variables) (a : StmtTree) (e : ExprTree)
    (c c1 c2 c3 c4 c5 c6 c7 : List Instruction) (u : Variables) (r top m n : ℕ)
    → top ≡ length c → BodyAdded k v a leave third_part c c1 u → m ≡ length c1 → length c1 ≤ 2 ^ 29
    → c2 ≡ fill_from third_part top m c1 → c3 ≡ c2 ++ Tick ∷ [] → ExprAdded k u e c3 c4 r
    → n ≡ length c4 → length c4 ≤ 2 ^ 29 → c5 ≡ c4 ++ Branch r (n + 2) ∷ []
    → c6 ≡ c5 ++ Jump top ∷ [] → c7 ≡ fill_from leave top (n + 2) c6 → DoAdded k v a e c c7 u
do_added k v a e c c1 c2 c3 c4 c5 c6 c7 u r top m n ht ha hm room h2 h3 he hn small h5 h6 h7 =
    let p : ℕ = length c in
    let p1 : ℕ = stmt_end a p in
    let p2 : ℕ = exp_end e (suc p1) in
    let q : ℕ = suc (suc p2) in
    let A : List Instruction = stmt_code k (inner_variables v) a leave third_part p in
    let A1 : List Instruction = stmt_code k (inner_variables v) a leave p1 p in
    let A2 : List Instruction = stmt_code k (inner_variables v) a q p1 p in
    let q1 : length c1 ≡ p1 = ha.long in
    let q2 : length c2 ≡ p1 = fill_from_long third_part top m c1 c2 h2 ∙ q1 in
    let q3 : length c3 ≡ suc p1 = one_more c2 c3 Tick h3 ∙ ap suc q2 in
    let q4 : length c4 ≡ p2 = he.long ∙ ap (exp_end e) q3 in
    let off : n + 2 ≡ q = omega (arith, hn, q4) in
    let le1 : p ≤ p1 = stmt_end_le a p in
    let le2 : suc p1 ≤ p2 = exp_end_le e (suc p1) in
    let most : p2 ≤ 2 ^ 29 = omega (arith, q4, small) in
    let fa1 : map (hole_filled third_part m) A ≡ A1 =
    stmt_filled k (inner_variables v) a leave third_part p third_part m (omega arith)
    ∙ ap (λ i. stmt_code k (inner_variables v) a leave i p) (hm ∙ q1) in
    let e2 : c2 ≡ c ++ A1 = body_filled third_part m c c1 c2 A top ht ha.code h2
    ∙ ap (λ l. c ++ l) fa1 in
    let E : List Instruction = exp_code k v e (suc p1) in
    let B : List Instruction = Branch (reg_of k v e p2) q ∷ Jump p ∷ [] in
    let e4 : c4 ≡ c3 ++ E = he.code ∙ ap (λ x. c3 ++ exp_code k x e (length c3)) ha.variables
    ∙ ap (λ i. c3 ++ exp_code k v e i) q3 in
    let r' : r ≡ reg_of k v e p2 = he.register ∙ ap (λ x. reg_of k x e (length c4)) ha.variables
    ∙ ap (reg_of k v e) q4 in
    let e5 : c5 ≡ c4 ++ Branch (reg_of k v e p2) q ∷ [] = h5
    ∙ ap (λ i. c4 ++ Branch r i ∷ []) off ∙ ap (λ i. c4 ++ Branch i q ∷ []) r' in
    let e6 : c6 ≡ c5 ++ Jump p ∷ [] = h6 ∙ ap (λ i. c5 ++ Jump i ∷ []) ht in
    let s5 : c6 ≡ c4 ++ B = seam c4 c5 c6 (Branch (reg_of k v e p2) q ∷ []) (Jump p ∷ []) e5 e6 in
    let s4 : c6 ≡ c3 ++ (E ++ B) = seam c3 c4 c6 E B e4 s5 in
    let s3 : c6 ≡ c2 ++ Tick ∷ (E ++ B) = seam c2 c3 c6 (Tick ∷ []) (E ++ B) h3 s4 in
    let s2 : c6 ≡ c ++ (A1 ++ Tick ∷ (E ++ B)) = seam c c2 c6 A1 (Tick ∷ (E ++ B)) e2 s3 in
    let stay : to_place leave (n + 2) p1 ≡ p1 = to_place_same leave (n + 2) p1 (omega arith) in
    let back : to_place leave (n + 2) p ≡ p = to_place_same leave (n + 2) p (omega arith) in
    let fa2 : map (hole_filled leave (n + 2)) A1 ≡ A2 =
    stmt_filled k (inner_variables v) a leave p1 p leave (n + 2) (omega arith)
    ∙ ap (λ i. stmt_code k (inner_variables v) a (n + 2) i p) stay
    ∙ ap (λ i. stmt_code k (inner_variables v) a i p1 p) off in
    let fe : map (hole_filled leave (n + 2)) E ≡ E =
    exp_filled k v e (suc p1) leave (n + 2) (omega arith) in
    let fm : map (hole_filled leave (n + 2)) (A1 ++ Tick ∷ (E ++ B)) ≡ A2 ++ Tick ∷ (E ++ B) =
    simp (map-append, fa2, fe, back) in
    let l6 : length c6 ≡ q = one_more c5 c6 (Jump top) h6
    ∙ ap suc (one_more c4 c5 (Branch r (n + 2)) h5 ∙ ap suc q4) in
    record {
      code = body_filled leave (n + 2) c c6 c7 (A1 ++ Tick ∷ (E ++ B)) top ht s2 h7
          ∙ ap (λ l. c ++ l) fm;
      long = fill_from_long leave top (n + 2) c6 c7 h7 ∙ l6;
      variables = ha.variables;
    }

pub for_added : (k : Context) (v : Variables) (e : Option ExprTree) (third : Option SimpleTree)
    (a : StmtTree) (c c1 c2 c3 c4 c5 c6 c7 c8 c9 : List Instruction) (u : Variables)
    (r top n m l : ℕ)
    → top ≡ length c → c1 ≡ c ++ Tick ∷ [] → OrAdded k v (pos 1) e c1 c2 r → n ≡ length c2
    → c3 ≡ c2 ++ Branch r 0 ∷ []
    → BodyAdded k v a leave third_part c3 c4 u → m ≡ length c4 → ThirdAdded k u third c4 c5
    → l ≡ length c5 → length c5 ≤ 2 ^ 29 → c6 ≡ c5 ++ Jump top ∷ []
    → c7 ≡ slice_set c6 n (Branch r (l + 1)) → c8 ≡ fill_from third_part (n + 1) m c7
    → c9 ≡ fill_from leave (n + 1) (l + 1) c8
    → ForAdded k v e third a c c9 u
for_added k v e third a c c1 c2 c3 c4 c5 c6 c7 c8 c9 u r top n m l ht h1 he hn h3 ha hm hc hl small
    h6 h7 h8 h9 =
    let p : ℕ = length c in
    let p1 : ℕ = or_end e (suc p) in
    let p2 : ℕ = stmt_end a (suc p1) in
    let p3 : ℕ = third_end third p2 in
    let q1 : length c1 ≡ suc p = one_more c c1 Tick h1 in
    let q2 : length c2 ≡ p1 = he.long ∙ ap (or_end e) q1 in
    let q3 : length c3 ≡ suc p1 = one_more c2 c3 (Branch r 0) h3 ∙ ap suc q2 in
    let q4 : length c4 ≡ p2 = ha.long ∙ ap (stmt_end a) q3 in
    let q5 : length c5 ≡ p3 = hc.long ∙ ap (third_end third) q4 in
    let off : l + 1 ≡ suc p3 = omega (arith, hl, q5) in
    let hm' : m ≡ p2 = hm ∙ q4 in
    let A : List Instruction = stmt_code k (inner_variables v) a leave third_part (suc p1) in
    let A1 : List Instruction = stmt_code k (inner_variables v) a leave p2 (suc p1) in
    let A2 : List Instruction = stmt_code k (inner_variables v) a (suc p3) p2 (suc p1) in
    let T : List Instruction = third_code k v third p2 in
    let M : List Instruction = A ++ (T ++ Jump p ∷ []) in
    let e4 : c4 ≡ c3 ++ A = ha.code
    ∙ ap (λ i. c3 ++ stmt_code k (inner_variables v) a leave third_part i) q3 in
    let e5 : c5 ≡ c4 ++ T = hc.code ∙ ap (λ x. c4 ++ third_code k x third (length c4)) ha.variables
    ∙ ap (λ i. c4 ++ third_code k v third i) q4 in
    let e6 : c6 ≡ c5 ++ Jump p ∷ [] = h6 ∙ ap (λ i. c5 ++ Jump i ∷ []) ht in
    let s6 : c6 ≡ c4 ++ (T ++ Jump p ∷ []) = seam c4 c5 c6 T (Jump p ∷ []) e5 e6 in
    let t6 : c6 ≡ c3 ++ M = seam c3 c4 c6 A (T ++ Jump p ∷ []) e4 s6 in
    let r6 : c6 ≡ c2 ++ Branch r 0 ∷ M = seam c2 c3 c6 (Branch r 0 ∷ []) M h3 t6 in
    let s7 : c7 ≡ c2 ++ Branch r (l + 1) ∷ M = patched c2 c6 c7 M r n (l + 1) hn r6 h7 in
    let s8 : c8 ≡ c2 ++ Branch r (l + 1) ∷ map (hole_filled third_part m) M =
    filled_after third_part m c2 c7 c8 M (Branch r (l + 1)) n hn s7 h8 in
    let le1 : suc p ≤ p1 = or_end_le e (suc p) in
    let le2 : suc p1 ≤ p2 = stmt_end_le a (suc p1) in
    let le3 : p2 ≤ p3 = third_end_le third p2 in
    let room : p3 ≤ 2 ^ 29 = omega (arith, q5, small) in
    let fa1 : map (hole_filled third_part m) A ≡ A1 =
    stmt_filled k (inner_variables v) a leave third_part (suc p1) third_part m (omega arith)
    ∙ ap (λ i. stmt_code k (inner_variables v) a leave i (suc p1)) hm' in
    let ft1 : map (hole_filled third_part m) T ≡ T =
    third_filled k v third p2 third_part m (omega arith) in
    let fj1 : to_place third_part m p ≡ p = to_place_same third_part m p (omega arith) in
    let fm1 : map (hole_filled third_part m) M ≡ A1 ++ (T ++ Jump p ∷ []) =
    map-append (hole_filled third_part m) A (T ++ Jump p ∷ [])
    ∙ ap (λ x. map (hole_filled third_part m) A ++ x)
    (map-append (hole_filled third_part m) T (Jump p ∷ [])
    ∙ ap (λ i. map (hole_filled third_part m) T ++ Jump i ∷ []) fj1
    ∙ ap (λ x. x ++ Jump p ∷ []) ft1)
    ∙ ap (λ x. x ++ (T ++ Jump p ∷ [])) fa1 in
    let M1 : List Instruction = A1 ++ (T ++ Jump p ∷ []) in
    let t8 : c8 ≡ c2 ++ Branch r (l + 1) ∷ M1 = s8 ∙ ap (λ x. c2 ++ Branch r (l + 1) ∷ x) fm1 in
    let s9 : c9 ≡ c2 ++ Branch r (l + 1) ∷ map (hole_filled leave (l + 1)) M1 =
    filled_after leave (l + 1) c2 c8 c9 M1 (Branch r (l + 1)) n hn t8 h9 in
    let stay : to_place leave (l + 1) p2 ≡ p2 = to_place_same leave (l + 1) p2 (omega arith) in
    let fa2 : map (hole_filled leave (l + 1)) A1 ≡ A2 =
    stmt_filled k (inner_variables v) a leave p2 (suc p1) leave (l + 1) (omega arith)
    ∙ ap (λ i. stmt_code k (inner_variables v) a (l + 1) i (suc p1)) stay
    ∙ ap (λ i. stmt_code k (inner_variables v) a i p2 (suc p1)) off in
    let ft2 : map (hole_filled leave (l + 1)) T ≡ T =
    third_filled k v third p2 leave (l + 1) (omega arith) in
    let fj2 : to_place leave (l + 1) p ≡ p = to_place_same leave (l + 1) p (omega arith) in
    let fm2 : map (hole_filled leave (l + 1)) M1 ≡ A2 ++ (T ++ Jump p ∷ []) =
    map-append (hole_filled leave (l + 1)) A1 (T ++ Jump p ∷ [])
    ∙ ap (λ x. map (hole_filled leave (l + 1)) A1 ++ x)
    (map-append (hole_filled leave (l + 1)) T (Jump p ∷ [])
    ∙ ap (λ i. map (hole_filled leave (l + 1)) T ++ Jump i ∷ []) fj2
    ∙ ap (λ x. x ++ Jump p ∷ []) ft2)
    ∙ ap (λ x. x ++ (T ++ Jump p ∷ [])) fa2 in
    let M2 : List Instruction = A2 ++ (T ++ Jump p ∷ []) in
    let E : List Instruction = or_code k v (pos 1) e (suc p) in
    let e2 : c2 ≡ c1 ++ E = he.code ∙ ap (λ i. c1 ++ or_code k v (pos 1) e i) q1 in
    let t2 : c2 ≡ c ++ Tick ∷ E = seam c c1 c2 (Tick ∷ []) E h1 e2 in
    let r' : r ≡ or_reg k v e p1 = he.register ∙ ap (or_reg k v e) q2 in
    let t9 : c9 ≡ c2 ++ Branch (or_reg k v e p1) (suc p3) ∷ M2 =
    s9 ∙ ap (λ x. c2 ++ Branch r (l + 1) ∷ x) fm2
    ∙ ap (λ i. c2 ++ Branch r i ∷ M2) off ∙ ap (λ i. c2 ++ Branch i (suc p3) ∷ M2) r' in
    let l6 : length c6 ≡ suc p3 = one_more c5 c6 (Jump top) h6 ∙ ap suc q5 in
    let l7 : length c7 ≡ suc p3 = ap length h7 ∙ length-set c6 n (Branch r (l + 1)) ∙ l6 in
    let l8 : length c8 ≡ suc p3 = fill_from_long third_part (n + 1) m c7 c8 h8 ∙ l7 in
    let l9 : length c9 ≡ suc p3 = fill_from_long leave (n + 1) (l + 1) c8 c9 h9 ∙ l8 in
    record {
      code = seam c c2 c9 (Tick ∷ E) (Branch (or_reg k v e p1) (suc p3) ∷ M2) t2 t9;
      long = l9;
      variables = ha.variables;
    }

pub for_stmt : (k : Context) (v : Variables) (place : ℕ) (f : Option FirstTree)
    (e : Option ExprTree) (third : Option SimpleTree) (a : StmtTree) (out again : ℕ)
    (c c1 c2 : List Instruction) (u w x : Variables)
    → FirstAdded k (inner_variables v) f c c1 u → ForAdded k u e third a c1 c2 w
    → x ≡ outer_variables w → StmtAdded k v (stmt.For place f e third a) out again c c2 x
for_stmt k v place f e third a out again c c1 c2 u w x hf hr is =
    let p0 : ℕ = first_end f (length c) in
    let u' : Variables = variables_after_first k f (length c) (inner_variables v) in
    let e2 : c2 ≡ c1 ++ for_code k u' e third a p0 =
    hr.code ∙ ap (λ y. c1 ++ for_code k y e third a (length c1)) hf.variables
    ∙ ap (λ i. c1 ++ for_code k u' e third a i) hf.long in
    record {
      code = seam c c1 c2 (first_code k (inner_variables v) f (length c))
          (for_code k u' e third a p0) hf.code e2;
      long = hr.long ∙ ap (for_end e third a) hf.long;
      variables = is ∙ ap outer_variables (hr.variables ∙ hf.variables)
          ∙ outer_after_first k f (length c) (inner_variables v);
    }

pub set_variable : (k : Context) (v : Variables) (target : ExprTree) (name : Ident) (place : ℕ)
    (value : ExprTree) (c c1 c2 : List Instruction) (x : ℕ)
    → variable_of target ≡ Some name → ExprAdded k v value c c1 x
    → c2 ≡ c1 ++ Copy (register_of name.text v) x ∷ []
    → SimpleAdded k v (stmt.Assign target assign.Set place value) c c2
set_variable k v target name place value c c1 c2 x is h e =
    let E : List Instruction = exp_code k v value (length c) in
    let x' : x ≡ reg_of k v value (exp_end value (length c)) =
    h.register ∙ ap (reg_of k v value) h.long in
    record {
      code = seam c c1 c2 E (Copy (register_of name.text v) x ∷ []) h.code e
          ∙ ap (λ y. c ++ (E ++ Copy (register_of name.text v) y ∷ [])) x'
          ∙ ap (λ n. c ++ set_code k v n target place value (length c)) (sym is);
      long = one_more c1 c2 (Copy (register_of name.text v) x) e ∙ ap suc h.long
          ∙ ap (λ n. set_end n target value (length c)) (sym is);
    }

pub set_target : (k : Context) (v : Variables) (target : ExprTree) (place : ℕ) (value : ExprTree)
    (c c1 c2 c3 : List Instruction) (t : Target) (x : ℕ)
    → variable_of target ≡ None → TargetAdded k v target c c1 t → ExprAdded k v value c1 c2 x
    → c3 ≡ c2 ++ Store t x (source_line k.tree place) ∷ []
    → SimpleAdded k v (stmt.Assign target assign.Set place value) c c3
set_target k v target place value c c1 c2 c3 t x is ht h e =
    let p1 : ℕ = target_end target (length c) in
    let p2 : ℕ = exp_end value p1 in
    let T : List Instruction = target_code k v target (length c) in
    let E : List Instruction = exp_code k v value p1 in
    let l2 : length c2 ≡ p2 = h.long ∙ ap (exp_end value) ht.long in
    let e2 : c2 ≡ c1 ++ E = h.code ∙ ap (λ i. c1 ++ exp_code k v value i) ht.long in
    let s3 : c3 ≡ c1 ++ (E ++ Store t x (source_line k.tree place) ∷ []) =
    seam c1 c2 c3 E (Store t x (source_line k.tree place) ∷ []) e2 e in
    let x' : x ≡ reg_of k v value p2 = h.register ∙ ap (reg_of k v value) l2 in
    record {
      code = seam c c1 c3 T (E ++ Store t x (source_line k.tree place) ∷ []) ht.code s3
          ∙ ap (λ y. c ++ (T ++ (E ++ Store y x (source_line k.tree place) ∷ []))) ht.target
          ∙ ap (λ y. c ++ (T ++ (E ++ Store (target_of k v target (length c)) y
          (source_line k.tree place) ∷ []))) x'
          ∙ ap (λ n. c ++ set_code k v n target place value (length c)) (sym is);
      long = one_more c2 c3 (Store t x (source_line k.tree place)) e ∙ ap suc l2
          ∙ ap (λ n. set_end n target value (length c)) (sym is);
    }

pub update_variable : (k : Context) (v : Variables) (target : ExprTree) (name : Ident) (place : ℕ)
    (o : BinOp) (value : Option ExprTree) (c c1 c2 c3 : List Instruction) (x r : ℕ)
    → variable_of target ≡ Some name → OrAdded k v (pos 1) value c c1 x
    → Put k (λ to. Bin o to (register_of name.text v) x) c1 c2 r
    → c3 ≡ c2 ++ Copy (register_of name.text v) r ∷ [] → UpdateAdded k v target place o value c c3
update_variable k v target name place o value c c1 c2 c3 x r is h ho e =
    let p1 : ℕ = or_end value (length c) in
    let m : ℕ = register_of name.text v in
    let E : List Instruction = or_code k v (pos 1) value (length c) in
    let r' : r ≡ k.node (suc p1) = ho.register ∙ ap (λ n. k.node (suc n)) h.long in
    let x' : x ≡ or_reg k v value p1 = h.register ∙ ap (or_reg k v value) h.long in
    let s2 : c3 ≡ c1 ++ (Bin o r m x ∷ Copy m r ∷ []) =
    seam c1 c2 c3 (Bin o r m x ∷ []) (Copy m r ∷ []) ho.code e in
    record {
      code = seam c c1 c3 E (Bin o r m x ∷ Copy m r ∷ []) h.code s2
          ∙ ap (λ y. c ++ (E ++ Bin o y m x ∷ Copy m y ∷ [])) r'
          ∙ ap (λ y. c ++ (E ++ Bin o (k.node (suc p1)) m y ∷ Copy m (k.node (suc p1)) ∷ [])) x'
          ∙ ap (λ n. c ++ update_code k v n target place o value (length c)) (sym is);
      long = one_more c2 c3 (Copy m r) e
          ∙ ap suc (put_long k (λ to. Bin o to m x) c1 c2 r ho ∙ ap suc h.long)
          ∙ ap (λ n. update_end n target value (length c)) (sym is);
    }

pub update_target : (k : Context) (v : Variables) (target : ExprTree) (place : ℕ) (o : BinOp)
    (value : Option ExprTree) (c c1 c2 c3 c4 c5 : List Instruction) (t : Target) (l x r : ℕ)
    → variable_of target ≡ None → TargetAdded k v target c c1 t → Put k (λ to. Load to t) c1 c2 l
    → OrAdded k v (pos 1) value c2 c3 x → Put k (λ to. Bin o to l x) c3 c4 r
    → c5 ≡ c4 ++ Store t r (source_line k.tree place) ∷ []
    → UpdateAdded k v target place o value c c5
update_target k v target place o value c c1 c2 c3 c4 c5 t l x r is ht hl h ho e =
    let p1 : ℕ = target_end target (length c) in
    let p2 : ℕ = or_end value (suc p1) in
    let T : List Instruction = target_code k v target (length c) in
    let E : List Instruction = or_code k v (pos 1) value (suc p1) in
    let w : ℕ = source_line k.tree place in
    let l2 : length c2 ≡ suc p1 = put_long k (λ to. Load to t) c1 c2 l hl ∙ ap suc ht.long in
    let l3 : length c3 ≡ p2 = h.long ∙ ap (or_end value) l2 in
    let l4 : length c4 ≡ suc p2 = put_long k (λ to. Bin o to l x) c3 c4 r ho ∙ ap suc l3 in
    let e3 : c3 ≡ c2 ++ E = h.code ∙ ap (λ i. c2 ++ or_code k v (pos 1) value i) l2 in
    let s4 : c5 ≡ c3 ++ (Bin o r l x ∷ Store t r w ∷ []) =
    seam c3 c4 c5 (Bin o r l x ∷ []) (Store t r w ∷ []) ho.code e in
    let s3 : c5 ≡ c2 ++ (E ++ Bin o r l x ∷ Store t r w ∷ []) =
    seam c2 c3 c5 E (Bin o r l x ∷ Store t r w ∷ []) e3 s4 in
    let s2 : c5 ≡ c1 ++ Load l t ∷ (E ++ Bin o r l x ∷ Store t r w ∷ []) =
    seam c1 c2 c5 (Load l t ∷ []) (E ++ Bin o r l x ∷ Store t r w ∷ []) hl.code s3 in
    let l' : l ≡ k.node (suc p1) = hl.register ∙ ap (λ n. k.node (suc n)) ht.long in
    let r' : r ≡ k.node (suc p2) = ho.register ∙ ap (λ n. k.node (suc n)) l3 in
    let x' : x ≡ or_reg k v value p2 = h.register ∙ ap (or_reg k v value) l3 in
    record {
      code = seam c c1 c5 T (Load l t ∷ (E ++ Bin o r l x ∷ Store t r w ∷ [])) ht.code s2
          ∙ ap (λ y. c ++ (T ++ (Load y t ∷ (E ++ Bin o r y x ∷ Store t r w ∷ [])))) l'
          ∙ ap (λ y. c ++ (T ++ (Load (k.node (suc p1)) t
          ∷ (E ++ Bin o y (k.node (suc p1)) x ∷ Store t y w ∷ [])))) r'
          ∙ ap (λ y. c ++ (T ++ (Load (k.node (suc p1)) t
          ∷ (E ++ Bin o (k.node (suc p2)) (k.node (suc p1)) y ∷ Store t (k.node (suc p2)) w
          ∷ [])))) x'
          ∙ ap (λ y. c ++ (T ++ (Load (k.node (suc p1)) y
          ∷ (E ++ Bin o (k.node (suc p2)) (k.node (suc p1)) (or_reg k v value p2)
          ∷ Store y (k.node (suc p2)) w ∷ [])))) ht.target
          ∙ ap (λ n. c ++ update_code k v n target place o value (length c)) (sym is);
      long = one_more c4 c5 (Store t r w) e ∙ ap suc l4
          ∙ ap (λ n. update_end n target value (length c)) (sym is);
    }

pub update_assign : (k : Context) (v : Variables) (target : ExprTree) (o : UpdateOp) (b : BinOp)
    (place : ℕ) (value : ExprTree) (c c1 : List Instruction)
    → UpdateAdded k v target place b (Some value) c c1
    → b ≡ operation_of (sides_type k.tables v.scopes (update_binary o) target value)
    (update_operation o) → SimpleAdded k v (stmt.Assign target (assign.Update o) place value) c c1
update_assign k v target o b place value c c1 h is = record {
  code = h.code ∙ ap (λ x. c ++ update_code k v (variable_of target) target place x (Some value)
      (length c)) is;
  long = h.long;
}

pub update_step : (k : Context) (v : Variables) (target : ExprTree) (o : StepOp) (place : ℕ)
    (c c1 : List Instruction)
    → UpdateAdded k v target place (step_operation o) None c c1
    → SimpleAdded k v (stmt.Step target o place) c c1
update_step k v target o place c c1 h = record { code = h.code; long = h.long }

pub call_simple : (k : Context) (v : Variables) (name : Ident) (all : Arguments)
    (c c1 : List Instruction) (r : ℕ)
    → ExprAdded k v (expr.Call name all) c c1 r → SimpleAdded k v (stmt.Call name all) c c1
call_simple k v name all c c1 r h = record { code = h.code; long = h.long }

pub free_added : (k : Context) (v : Variables) (place : ℕ) (pointer : ExprTree)
    (c c1 c2 : List Instruction) (r : ℕ)
    → ExprAdded k v pointer c c1 r
    → c2 ≡ c1 ++ Free r (struct_kind_at k.tables
    (pointed_struct (type_of k.tables v.scopes pointer))) (source_line k.tree place) ∷ []
    → SimpleAdded k v (stmt.Free place pointer) c c2
free_added k v place pointer c c1 c2 r h e =
    let E : List Instruction = exp_code k v pointer (length c) in
    let kind : ℕ = struct_kind_at k.tables
    (pointed_struct (type_of k.tables v.scopes pointer)) in
    let r' : r ≡ reg_of k v pointer (exp_end pointer (length c)) =
    h.register ∙ ap (reg_of k v pointer) h.long in
    record {
      code = seam c c1 c2 E (Free r kind (source_line k.tree place) ∷ []) h.code e
          ∙ ap (λ y. c ++ (E ++ Free y kind (source_line k.tree place) ∷ [])) r';
      long = one_more c1 c2 (Free r kind (source_line k.tree place)) e ∙ ap suc h.long;
    }

pub abort_added : (k : Context) (v : Variables) (place : ℕ) (c c1 : List Instruction)
    → c1 ≡ c ++ Trap trap.Abort ∷ [] → SimpleAdded k v (stmt.Abort place) c c1
abort_added k v place c c1 e = record { code = e; long = one_more c c1 (Trap trap.Abort) e }

-- one statement in the loop over the remaining ones
pub statements_code_more : (k : Context) (v : Variables) (x : StmtTree) (rest : Statements)
    (out again : ℕ) (c c1 : List Instruction) (u : Variables) → StmtAdded k v x out again c c1 u
    → c1 ++ statements_code k u rest out again (length c1) ≡ c ++ statements_code k v
    (stmt.Then x rest) out again (length c)
statements_code_more k v x rest out again c c1 u h =
    ap (λ y. c1 ++ statements_code k y rest out again (length c1)) h.variables
    ∙ ap (λ n. c1 ++ statements_code k (variables_after k x (length c) v) rest out again n) h.long
    ∙ ap (λ l. l ++ statements_code k (variables_after k x (length c) v) rest out again
    (stmt_end x (length c))) h.code
    ∙ append_assoc c (stmt_code k v x out again (length c))
    (statements_code k (variables_after k x (length c) v) rest out again (stmt_end x (length c)))

pub after_all_more : (k : Context) (v : Variables) (x : StmtTree) (rest : Statements)
    (out again : ℕ) (c c1 : List Instruction) (u : Variables) → StmtAdded k v x out again c c1 u
    → variables_after_all k rest (length c1) u ≡ variables_after_all k (stmt.Then x rest)
    (length c) v
after_all_more k v x rest out again c c1 u h =
    ap (λ n. variables_after_all k rest n u) h.long
    ∙ ap (variables_after_all k rest (stmt_end x (length c))) h.variables

pub while_stmt : (k : Context) (v : Variables) (place : ℕ) (e : ExprTree) (a : StmtTree)
    (out again : ℕ) (c c1 : List Instruction) (u : Variables)
    → WhileAdded k v e a c c1 u → StmtAdded k v (stmt.While place e a) out again c c1 u
while_stmt k v place e a out again c c1 u h =
    record { code = h.code; long = h.long; variables = h.variables }

pub do_stmt : (k : Context) (v : Variables) (place : ℕ) (a : StmtTree) (e : ExprTree)
    (out again : ℕ) (c c1 : List Instruction) (u : Variables)
    → DoAdded k v a e c c1 u → StmtAdded k v (stmt.Do place a e) out again c c1 u
do_stmt k v place a e out again c c1 u h =
    record { code = h.code; long = h.long; variables = h.variables }

pub return_stmt : (k : Context) (v : Variables) (place : ℕ) (value : Option ExprTree)
    (out again : ℕ) (c c1 : List Instruction)
    → ReturnAdded k v value c c1 → StmtAdded k v (stmt.Return place value) out again c c1 v
return_stmt k v place value out again c c1 h =
    record { code = h.code; long = h.long; variables = refl }

pub ruleset statements = (
  stmt_of-Block,
  body_added,
  block_added,
  simple_stmt,
  initial_none,
  initial_some,
  declaration_first,
  declaration_stmt,
  first_simple,
  first_none,
  third_some,
  third_none,
  empty_added,
  break_added,
  continue_added,
  return_added,
  if_part_added,
  else_part_added,
  if_added,
  if_else_added,
  while_added,
  do_added,
  for_added,
  for_stmt,
  while_stmt,
  do_stmt,
  return_stmt,
  set_variable,
  set_target,
  update_variable,
  update_target,
  update_assign,
  update_step,
  call_simple,
  free_added,
  abort_added,
)
