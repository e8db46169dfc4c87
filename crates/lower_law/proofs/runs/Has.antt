-- Code at its place: the code after that of a tree begins where the tree's code ends.
use Rattle.std.proofs.Common.{◌≡◌, ℕ, suc, ℤ, pos, List, [], ◌∷◌, ◌++◌, Option, Some, None}
use Rattle.std.proofs.Common.{append_assoc, subst}
use Rattle.nvm_base.specs.declared.op.BinOp.{BinOp}
use Rattle.nvm_base.specs.declared.op.BinOp.TheVariants as op
use Rattle.c_tree.specs.declared.expr.IntType.{IntType}
use Rattle.c_tree.specs.declared.expr.UnaryOp.TheVariants as unary
use Rattle.c_tree.specs.declared.stmt.AssignOp.TheVariants as assign
use Rattle.c_tree.specs.Operators.{update_binary}
use Rattle.c_tree.specs.ExprTree as expr
use Rattle.c_tree.specs.ExprTree.{ExprTree, Arguments, Ident}
use Rattle.c_tree.specs.StmtTree as stmt
use Rattle.c_tree.specs.StmtTree.{StmtTree, Statements, SimpleTree, FirstTree, InitialTree}
use Rattle.c_tree.specs.Program.{source_line}
use Rattle.c_types.specs.Expressions.{type_of, sides_type}
use Rattle.c_types.specs.Tables.{pointed_struct}
use Rattle.ir.specs.declared.instruction.Target.{Target}
use Rattle.ir.specs.declared.instruction.Instruction.{Instruction}
use Rattle.ir.specs.declared.instruction.Instruction.TheVariants.{Const, Copy, Bin, Jump, Branch}
use Rattle.ir.specs.declared.instruction.Instruction.TheVariants.{Load, Store, Free, Call, Return}
use Rattle.ir.specs.declared.instruction.Instruction.TheVariants.{Tick}
use Rattle.ir.specs.declared.function.Ir.{Ir}
use Rattle.ir.specs.Places.{instruction_at}
use Rattle.lower.specs.declared.form.Form.{Form}
use Rattle.lower.specs.declared.form.Form.TheVariants.{Both, Either, Direct, Exchanged}
use Rattle.lower.specs.Forms.{form_of, typed_form, operation_of}
use Rattle.lower.specs.Names.{Variables, inner_variables, register_of, function_number}
use Rattle.lower.specs.Names.{struct_kind_at, variable_of}
use Rattle.lower.specs.Lowers.{Context, exp_end, exp_code, reg_of, target_end, target_code}
use Rattle.lower.specs.Lowers.{target_of, arguments_end, arguments_code, registers_of, form_end}
use Rattle.lower.specs.Lowers.{form_code, truth_code, or_end, or_code, or_reg, set_end, set_code}
use Rattle.lower.specs.Lowers.{update_end, update_code, update_operation, step_operation}
use Rattle.lower.specs.Lowers.{simple_end, simple_code}
use Rattle.lower.specs.Lowers.{initial_end, initial_code, first_end, first_code}
use Rattle.lower.specs.Lowers.{variables_after_first, third_end, third_code, variables_after}
use Rattle.lower.specs.Lowers.{stmt_end, stmt_code, statements_end, statements_code}
use Rattle.lower.proofs.Ends.{form_end_typed}

module _ (ir : Ir) (f : ℕ) where
  abbrev pub At : ℕ → Instruction → Type 0
  At p i = instruction_at ir.functions f p ≡ Some i

  abbrev pub HasAt : ℕ → List Instruction → Type 0
  HasAt p [] = Unit {0}
  HasAt p (i ∷ is) = At p i × HasAt (suc p) is

  module _ (k : Context) where
    pub form_has : (form : Form) (code : ℕ → List Instruction) (end reg : ℕ → ℕ) (on p : ℕ)
        (rest : List Instruction) → ((x : ℕ) (r : List Instruction) → HasAt x (code x ++ r)
        → HasAt (end x) r)
        → HasAt p (form_code form k.node code end reg on p ++ rest)
        → HasAt (form_end form end p) rest
    form_has Both code end reg on p rest then h =
        let q : ℕ = end (suc p) in
        let to : ℕ = k.node (suc (suc (suc (suc q)))) in
        (then (suc p) (truth_code (reg q) to q ++ rest) (simp append_assoc at h.1)).1.1.1.1
    form_has Either code end reg on p rest then h =
        let q : ℕ = end (suc (suc p)) in
        let to : ℕ = k.node (suc (suc (suc (suc q)))) in
        (then (suc (suc p)) (truth_code (reg q) to q ++ rest) (simp append_assoc at h.1.1)).1.1.1.1
    form_has (Direct o) code end reg on p rest then h =
        let i : Instruction = Bin o (k.node (suc (end p))) on (reg (end p)) in
        (then p (i ∷ rest) (simp append_assoc at h)).1
    form_has (Exchanged o) code end reg on p rest then h =
        let i : Instruction = Bin o (k.node (suc (end p))) (reg (end p)) on in
        (then p (i ∷ rest) (simp append_assoc at h)).1

    mutual
      pub exp_has : (v : Variables) (e : ExprTree) (p : ℕ) (rest : List Instruction)
          → HasAt p (exp_code k v e p ++ rest) → HasAt (exp_end e p) rest
      exp_has v (expr.Number n) p rest h = h.1
      exp_has v expr.Null p rest h = h.1
      exp_has v (expr.Variable name) p rest h = h
      exp_has v (expr.Call name all) p rest h =
          let i : Instruction = Call (k.node (suc (suc (arguments_end all p))))
          (function_number k.tables name.text) (registers_of k v all p) in
          (arguments_has v all p (Tick ∷ i ∷ rest) (simp append_assoc at h)).1.1
      exp_has v (expr.Root name) p rest h = h.1
      exp_has v (expr.New place name) p rest h = h.1
      exp_has v (expr.Arrow base place name) p rest h =
          let i : Instruction = Load (k.node (suc (exp_end base p)))
          (target_of k v (expr.Arrow base place name) p) in
          (exp_has v base p (i ∷ rest) (simp append_assoc at h)).1
      exp_has v (expr.Index base place index) p rest h =
          let q : ℕ = target_end base p in
          let i : Instruction = Load (k.node (suc (exp_end index q)))
          (target_of k v (expr.Index base place index) p) in
          (exp_has v index q (i ∷ rest) (target_has v base p (exp_code k v index q ++ i ∷ rest)
          (simp append_assoc at h))).1
      exp_has v (expr.Unary unary.Negate place a) p rest h =
          let q : ℕ = exp_end a (suc p) in
          let i : Instruction = Bin op.Sub (k.node (suc q)) (k.node (suc p)) (reg_of k v a q) in
          (exp_has v a (suc p) (i ∷ rest) (simp append_assoc at h.1)).1
      exp_has v (expr.Unary unary.Complement place a) p rest h =
          let q : ℕ = exp_end a (suc p) in
          let i : Instruction = Bin op.Xor (k.node (suc q)) (k.node (suc p)) (reg_of k v a q) in
          (exp_has v a (suc p) (i ∷ rest) (simp append_assoc at h.1)).1
      exp_has v (expr.Unary unary.Not place a) p rest h =
          let q : ℕ = exp_end a p in
          let i : Instruction = Const (k.node (suc q)) (pos 0) in
          let j : Instruction = Bin op.Eq (k.node (suc (suc q))) (reg_of k v a q)
          (k.node (suc q)) in
          (exp_has v a p (i ∷ j ∷ rest) (simp append_assoc at h)).1.1
      exp_has v (expr.Unary (unary.Cast n) place a) p rest h = exp_has v a p rest h
      exp_has v (expr.Binary o place a b) p rest h =
          let q : ℕ = exp_end a p in
          let n : IntType = sides_type k.tables v.scopes o a b in
          let form : Form = typed_form n (form_of o) in
          let is : List Instruction = form_code form k.node (exp_code k v b) (exp_end b)
          (reg_of k v b) (reg_of k v a q) q in
          subst (λ (z : ℕ). HasAt z rest) (form_end_typed n (form_of o) (exp_end b) q)
          (form_has form (exp_code k v b) (exp_end b) (reg_of k v b) (reg_of k v a q) q rest
          (λ x r g. exp_has v b x r g)
          (exp_has v a p (is ++ rest) (simp append_assoc at h)))
      exp_has v (expr.Conditional c place a b) p rest h =
          let p1 : ℕ = exp_end c p in
          let p2 : ℕ = exp_end a (suc p1) in
          let q : ℕ = suc (suc p2) in
          let p3 : ℕ = exp_end b q in
          let to : ℕ = k.node (suc p3) in
          let last : List Instruction = Copy to (reg_of k v b p3) ∷ rest in
          let left : List Instruction = Copy to (reg_of k v a p2) ∷ Jump (suc p3)
          ∷ (exp_code k v b q ++ last) in
          let hc = exp_has v c p
          (Branch (reg_of k v c p1) q ∷ (exp_code k v a (suc p1) ++ left))
          (simp append_assoc at h) in
          let ha = exp_has v a (suc p1) left hc.1 in
          (exp_has v b q last ha.1.1).1

      pub target_has : (v : Variables) (e : ExprTree) (p : ℕ) (rest : List Instruction)
          → HasAt p (target_code k v e p ++ rest) → HasAt (target_end e p) rest
      target_has v (expr.Arrow base place name) p rest h = exp_has v base p rest h
      target_has v (expr.Index base place index) p rest h =
          exp_has v index (target_end base p) rest
          (target_has v base p (exp_code k v index (target_end base p) ++ rest)
          (simp append_assoc at h))
      target_has v (expr.Root name) p rest h = h
      target_has v (expr.Number n) p rest h = h
      target_has v expr.Null p rest h = h
      target_has v (expr.Variable name) p rest h = h
      target_has v (expr.Call name all) p rest h = h
      target_has v (expr.New place name) p rest h = h
      target_has v (expr.Unary o place a) p rest h = h
      target_has v (expr.Binary o place a b) p rest h = h
      target_has v (expr.Conditional c place a b) p rest h = h

      pub arguments_has : (v : Variables) (es : Arguments) (p : ℕ) (rest : List Instruction)
          → HasAt p (arguments_code k v es p ++ rest) → HasAt (arguments_end es p) rest
      arguments_has v expr.None p rest h = h
      arguments_has v (expr.More first value others) p rest h =
          arguments_has v others (exp_end value p) rest
          (exp_has v value p (arguments_code k v others (exp_end value p) ++ rest)
          (simp append_assoc at h))

    pub or_has : (v : Variables) (n : ℤ) (e : Option ExprTree) (p : ℕ) (rest : List Instruction)
        → HasAt p (or_code k v n e p ++ rest) → HasAt (or_end e p) rest
    or_has v n None p rest h = h.1
    or_has v n (Some e) p rest h = exp_has v e p rest h

    pub set_has : (v : Variables) (name : Option Ident) (target : ExprTree) (place : ℕ)
        (value : ExprTree) (p : ℕ) (rest : List Instruction)
        → HasAt p (set_code k v name target place value p ++ rest)
        → HasAt (set_end name target value p) rest
    set_has v (Some name) target place value p rest h =
        let i : Instruction = Copy (register_of name.text v) (reg_of k v value (exp_end value p)) in
        (exp_has v value p (i ∷ rest) (simp append_assoc at h)).1
    set_has v None target place value p rest h =
        let p1 : ℕ = target_end target p in
        let i : Instruction = Store (target_of k v target p) (reg_of k v value (exp_end value p1))
        (source_line k.tree place) in
        (exp_has v value p1 (i ∷ rest) (target_has v target p (exp_code k v value p1 ++ i ∷ rest)
        (simp append_assoc at h))).1

    pub update_has : (v : Variables) (name : Option Ident) (target : ExprTree) (place : ℕ)
        (o : BinOp) (value : Option ExprTree) (p : ℕ) (rest : List Instruction)
        → HasAt p (update_code k v name target place o value p ++ rest)
        → HasAt (update_end name target value p) rest
    update_has v (Some name) target place o value p rest h =
        let p1 : ℕ = or_end value p in
        let r : ℕ = register_of name.text v in
        let i : Instruction = Bin o (k.node (suc p1)) r (or_reg k v value p1) in
        let j : Instruction = Copy r (k.node (suc p1)) in
        (or_has v (pos 1) value p (i ∷ j ∷ rest) (simp append_assoc at h)).1.1
    update_has v None target place o value p rest h =
        let p1 : ℕ = target_end target p in
        let p2 : ℕ = or_end value (suc p1) in
        let x : Target = target_of k v target p in
        let l : Instruction = Load (k.node (suc p1)) x in
        let i : Instruction = Bin o (k.node (suc p2)) (k.node (suc p1)) (or_reg k v value p2) in
        let j : Instruction = Store x (k.node (suc p2)) (source_line k.tree place) in
        (or_has v (pos 1) value (suc p1) (i ∷ j ∷ rest)
        (target_has v target p (l ∷ (or_code k v (pos 1) value (suc p1) ++ i ∷ j ∷ rest))
        (simp append_assoc at h)).1).1.1

    pub simple_has : (v : Variables) (x : SimpleTree) (p : ℕ) (rest : List Instruction)
        → HasAt p (simple_code k v x p ++ rest) → HasAt (simple_end x p) rest
    simple_has v (stmt.Assign target assign.Set place value) p rest h =
        set_has v (variable_of target) target place value p rest h
    simple_has v (stmt.Assign target (assign.Update o) place value) p rest h =
        update_has v (variable_of target) target place
        (operation_of (sides_type k.tables v.scopes (update_binary o) target value)
        (update_operation o)) (Some value) p rest h
    simple_has v (stmt.Step target o place) p rest h =
        update_has v (variable_of target) target place (step_operation o) None p rest h
    simple_has v (stmt.Call name all) p rest h = exp_has v (expr.Call name all) p rest h
    simple_has v (stmt.Free place pointer) p rest h =
        let i : Instruction = Free (reg_of k v pointer (exp_end pointer p))
        (struct_kind_at k.tables (pointed_struct (type_of k.tables v.scopes pointer)))
        (source_line k.tree place) in
        (exp_has v pointer p (i ∷ rest) (simp append_assoc at h)).1
    simple_has v (stmt.Abort place) p rest h = h.1

    pub initial_has : (v : Variables) (x : Option InitialTree) (p : ℕ) (rest : List Instruction)
        → HasAt p (initial_code k v x p ++ rest) → HasAt (initial_end x p) rest
    initial_has v None p rest h = h.1
    initial_has v (Some x) p rest h =
        let q : ℕ = exp_end x.value p in
        let i : Instruction = Copy (k.node (suc q)) (reg_of k v x.value q) in
        (exp_has v x.value p (i ∷ rest) (simp append_assoc at h)).1

    pub first_has : (v : Variables) (x : Option FirstTree) (p : ℕ) (rest : List Instruction)
        → HasAt p (first_code k v x p ++ rest) → HasAt (first_end x p) rest
    first_has v None p rest h = h
    first_has v (Some (stmt.Declare d)) p rest h = initial_has v d.initial p rest h
    first_has v (Some (stmt.Simply x)) p rest h = simple_has v x p rest h

    pub third_has : (v : Variables) (x : Option SimpleTree) (p : ℕ) (rest : List Instruction)
        → HasAt p (third_code k v x p ++ rest) → HasAt (third_end x p) rest
    third_has v None p rest h = h
    third_has v (Some x) p rest h = simple_has v x p rest h

    mutual
      pub stmt_has : (v : Variables) (x : StmtTree) (out again p : ℕ) (rest : List Instruction)
          → HasAt p (stmt_code k v x out again p ++ rest) → HasAt (stmt_end x p) rest
      stmt_has v stmt.Empty out again p rest h = h
      stmt_has v (stmt.Declares d) out again p rest h = initial_has v d.initial p rest h
      stmt_has v (stmt.Simple x) out again p rest h = simple_has v x p rest h
      stmt_has v (stmt.Block all) out again p rest h =
          statements_has (inner_variables v) all out again p rest h
      stmt_has v (stmt.If c a) out again p rest h =
          let p1 : ℕ = exp_end c p in
          let b : Instruction = Branch (reg_of k v c p1) (stmt_end a (suc p1)) in
          stmt_has (inner_variables v) a out again (suc p1) rest
          (exp_has v c p (b ∷ (stmt_code k (inner_variables v) a out again (suc p1) ++ rest))
          (simp append_assoc at h)).1
      stmt_has v (stmt.IfElse c a b) out again p rest h =
          let p1 : ℕ = exp_end c p in
          let p2 : ℕ = stmt_end a (suc p1) in
          let i : Instruction = Branch (reg_of k v c p1) (suc p2) in
          let j : Instruction = Jump (stmt_end b (suc p2)) in
          let back : List Instruction = j
          ∷ (stmt_code k (inner_variables v) b out again (suc p2) ++ rest) in
          let hc = exp_has v c p (i ∷ (stmt_code k (inner_variables v) a out again (suc p1)
          ++ back)) (simp append_assoc at h) in
          stmt_has (inner_variables v) b out again (suc p2) rest
          (stmt_has (inner_variables v) a out again (suc p1) back hc.1).1
      stmt_has v (stmt.While place c a) out again p rest h =
          let p1 : ℕ = exp_end c (suc p) in
          let p2 : ℕ = stmt_end a (suc p1) in
          let i : Instruction = Branch (reg_of k v c p1) (suc p2) in
          let j : Instruction = Jump p in
          let hc = exp_has v c (suc p) (i
          ∷ (stmt_code k (inner_variables v) a (suc p2) p (suc p1) ++ j ∷ rest))
          (simp append_assoc at h.1) in
          (stmt_has (inner_variables v) a (suc p2) p (suc p1) (j ∷ rest) hc.1).1
      stmt_has v (stmt.Do place a c) out again p rest h =
          let p1 : ℕ = stmt_end a p in
          let p2 : ℕ = exp_end c (suc p1) in
          let i : Instruction = Branch (reg_of k v c p2) (suc (suc p2)) in
          let j : Instruction = Jump p in
          let hb = stmt_has (inner_variables v) a (suc (suc p2)) p1 p
          (Tick ∷ (exp_code k v c (suc p1) ++ i ∷ j ∷ rest)) (simp append_assoc at h) in
          (exp_has v c (suc p1) (i ∷ j ∷ rest) hb.1).1.1
      stmt_has v (stmt.For place first c third a) out again p rest h =
          let u : Variables = variables_after_first k first p (inner_variables v) in
          let p0 : ℕ = first_end first p in
          let p1 : ℕ = or_end c (suc p0) in
          let p2 : ℕ = stmt_end a (suc p1) in
          let p3 : ℕ = third_end third p2 in
          let i : Instruction = Branch (or_reg k u c p1) (suc p3) in
          let j : Instruction = Jump p0 in
          let back : List Instruction = third_code k u third p2 ++ j ∷ rest in
          let turn : List Instruction = i ∷ (stmt_code k (inner_variables u) a (suc p3) p2 (suc p1)
          ++ back) in
          let hf = first_has (inner_variables v) first p
          (Tick ∷ (or_code k u (pos 1) c (suc p0) ++ turn)) (simp append_assoc at h) in
          let hc = or_has u (pos 1) c (suc p0) turn hf.1 in
          (third_has u third p2 (j ∷ rest)
          (stmt_has (inner_variables u) a (suc p3) p2 (suc p1) back hc.1)).1
      stmt_has v stmt.Break out again p rest h = h.1
      stmt_has v stmt.Continue out again p rest h = h.1
      stmt_has v (stmt.Return place value) out again p rest h =
          let i : Instruction = Return (or_reg k v value (or_end value p)) in
          (or_has v (pos 0) value p (i ∷ rest) (simp append_assoc at h)).1

      pub statements_has : (v : Variables) (xs : Statements) (out again p : ℕ)
          (rest : List Instruction) → HasAt p (statements_code k v xs out again p ++ rest)
          → HasAt (statements_end xs p) rest
      statements_has v stmt.Nothing out again p rest h = h
      statements_has v (stmt.Then x xs) out again p rest h =
          statements_has (variables_after k x p v) xs out again (stmt_end x p) rest
          (stmt_has v x out again p (statements_code k (variables_after k x p v) xs out again
          (stmt_end x p) ++ rest) (simp append_assoc at h))
