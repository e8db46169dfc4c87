-- The code written for the parts of an expression, put together.
use Rattle.std.proofs.Common.{◌≡◌, ℕ, ℤ, suc, ◌+◌, pos, negsuc, List, [], ◌∷◌, ◌++◌, length, refl}
use Rattle.std.proofs.Common.{sym, ap, ◌∙◌, arith, append_assoc, length-append, length-set}
use Rattle.std.specs.Prelude.{slice_set, false, None, Some}
use Rattle.std.proofs.lemmas.List.{append-nil}
use Rattle.std.proofs.Math.Seq.{set-append_seam}
use Rattle.nvm_base.specs.declared.op.BinOp.{BinOp}
use Rattle.nvm_base.specs.declared.op.BinOp.TheVariants as op
use Rattle.c_tree.specs.declared.expr.IntType.{IntType}
use Rattle.c_tree.specs.declared.expr.UnaryOp.TheVariants as unary
use Rattle.c_tree.specs.declared.expr.BinaryOp.{BinaryOp}
use Rattle.c_tree.specs.ExprTree as expr
use Rattle.c_tree.specs.ExprTree.{ExprTree, Arguments, Ident}
use Rattle.c_tree.proofs.Trees.{expr_of-Call}
use Rattle.c_types.specs.Expressions.{type_of, sides_type}
use Rattle.ir.specs.declared.instruction.Target.{Target}
use Rattle.ir.specs.declared.instruction.Instruction.{Instruction}
use Rattle.ir.specs.declared.instruction.Instruction.TheVariants.{Const, Copy, Bin, Jump, Branch}
use Rattle.ir.specs.declared.instruction.Instruction.TheVariants.{Load, New, Call, Tick}
use Rattle.lower.specs.declared.form.Form.{Form}
use Rattle.lower.specs.declared.form.Form.TheVariants.{Both, Either, Direct, Exchanged}
use Rattle.lower.specs.Forms.{form_of, typed_form}
use Rattle.c_tree.specs.Program.{source_line}
use Rattle.lower.specs.Names.{Variables, register_of, kind_named, function_number, field_target}
use Rattle.lower.specs.Names.{element_target}
use Rattle.lower.specs.Lowers.{Context, exp_end, exp_code, reg_of, target_end, target_code}
use Rattle.lower.specs.Lowers.{target_of, arguments_end, arguments_code, registers_of, truth_code}
use Rattle.lower.specs.Lowers.{form_end, form_code}
use Rattle.lower.specs.inside.Added.{Put, ExprAdded, TargetAdded, ReadAdded, ArgumentsAdded}
use Rattle.lower.specs.inside.Added.{OrAdded, RightAdded, LeftAdded, OtherAdded, FirstConstant}
use Rattle.lower.specs.inside.Lowers.{left_code, other_end, other_code}
use Rattle.lower.proofs.Ends.{form_end_typed}

pub one_more : (c c1 : List Instruction) (i : Instruction) → c1 ≡ c ++ i ∷ []
    → length c1 ≡ suc (length c)
one_more c c1 i e = ap length e ∙ length-append c (i ∷ []) ∙ omega arith

pub put_long : (k : Context) (make : ℕ → Instruction) (c c1 : List Instruction) (r : ℕ)
    → Put k make c c1 r → length c1 ≡ suc (length c)
put_long k make c c1 r h = one_more c c1 (make r) h.code

-- an expression of one instruction
pub expr_put : (k : Context) (v : Variables) (e : ExprTree) (make : ℕ → Instruction)
    (c c1 : List Instruction) (r : ℕ)
    → Put k make c c1 r → exp_code k v e (length c) ≡ make (k.node (suc (length c))) ∷ []
    → exp_end e (length c) ≡ suc (length c)
    → ((q : ℕ) → reg_of k v e q ≡ k.node q) → ExprAdded k v e c c1 r
expr_put k v e make c c1 r h code end reg =
    let long : length c1 ≡ suc (length c) = put_long k make c c1 r h in
    record {
      code = h.code ∙ ap (λ x. c ++ make x ∷ []) h.register ∙ ap (λ l. c ++ l) (sym code);
      long = long ∙ sym end;
      register = h.register ∙ ap k.node (sym long) ∙ sym (reg (length c1));
    }

-- the code of one part, and then one instruction
pub seam : (c c1 c2 m rest : List Instruction) → c1 ≡ c ++ m → c2 ≡ c1 ++ rest
    → c2 ≡ c ++ (m ++ rest)
seam c c1 c2 m rest e1 e2 = e2 ∙ ap (λ l. l ++ rest) e1 ∙ append_assoc c m rest

pub read_added : (k : Context) (v : Variables) (e : ExprTree) (c c1 c2 : List Instruction)
    (t : Target) (r : ℕ)
    → TargetAdded k v e c c1 t → Put k (λ to. Load to t) c1 c2 r → ReadAdded k v e c c2 r
read_added k v e c c1 c2 t r h p =
    let r' : r ≡ k.node (suc (target_end e (length c))) =
    p.register ∙ ap (λ n. k.node (suc n)) h.long in
    record {
      code = seam c c1 c2 (target_code k v e (length c)) (Load r t ∷ []) h.code p.code
          ∙ ap (λ x. c ++ (target_code k v e (length c) ++ Load x t ∷ [])) r'
          ∙ ap (λ x. c ++ (target_code k v e (length c)
          ++ Load (k.node (suc (target_end e (length c)))) x ∷ [])) h.target;
      long = put_long k (λ to. Load to t) c1 c2 r p ∙ ap suc h.long;
      register = p.register ∙ ap k.node (sym (put_long k (λ to. Load to t) c1 c2 r p));
    }

pub read_root : (k : Context) (v : Variables) (name : Ident) (c c1 : List Instruction) (r : ℕ)
    → ReadAdded k v (expr.Root name) c c1 r → ExprAdded k v (expr.Root name) c c1 r
read_root k v name c c1 r h = record { code = h.code; long = h.long; register = h.register }

pub read_arrow : (k : Context) (v : Variables) (base : ExprTree) (place : ℕ) (name : Ident)
    (c c1 : List Instruction) (r : ℕ)
    → ReadAdded k v (expr.Arrow base place name) c c1 r
    → ExprAdded k v (expr.Arrow base place name) c c1 r
read_arrow k v base place name c c1 r h =
    record { code = h.code; long = h.long; register = h.register }

pub read_index : (k : Context) (v : Variables) (base : ExprTree) (place : ℕ) (index : ExprTree)
    (c c1 : List Instruction) (r : ℕ)
    → ReadAdded k v (expr.Index base place index) c c1 r
    → ExprAdded k v (expr.Index base place index) c c1 r
read_index k v base place index c c1 r h =
    record { code = h.code; long = h.long; register = h.register }

pub target_arrow : (k : Context) (v : Variables) (base : ExprTree) (place : ℕ) (name : Ident)
    (c c1 : List Instruction) (r : ℕ) (t : Target)
    → ExprAdded k v base c c1 r → t ≡ field_target k.tables (type_of k.tables v.scopes base) r
    name.text → TargetAdded k v (expr.Arrow base place name) c c1 t
target_arrow k v base place name c c1 r t h is = record {
  code = h.code;
  long = h.long;
  target = is ∙ ap (λ x. field_target k.tables (type_of k.tables v.scopes base) x name.text)
      (h.register ∙ ap (reg_of k v base) h.long);
}

pub target_index : (k : Context) (v : Variables) (base : ExprTree) (place : ℕ) (index : ExprTree)
    (c c1 c2 : List Instruction) (array t : Target) (r : ℕ)
    → TargetAdded k v base c c1 array → ExprAdded k v index c1 c2 r → t ≡ element_target array r
    → TargetAdded k v (expr.Index base place index) c c2 t
target_index k v base place index c c1 c2 array t r hb hi is =
    let long : length c2 ≡ exp_end index (target_end base (length c)) =
    hi.long ∙ ap (exp_end index) hb.long in
    record {
      code = seam c c1 c2 (target_code k v base (length c)) (exp_code k v index (length c1))
          hb.code hi.code
          ∙ ap (λ n. c ++ (target_code k v base (length c) ++ exp_code k v index n)) hb.long;
      long = long;
      target = is ∙ ap (λ x. element_target x r) hb.target
          ∙ ap (element_target (target_of k v base (length c)))
          (hi.register ∙ ap (reg_of k v index) long);
    }

pub call_added : (k : Context) (v : Variables) (name : Ident) (all : Arguments)
    (c c1 c2 c3 : List Instruction) (rs : List ℕ) (n to f : ℕ)
    → ArgumentsAdded k v all c c1 rs → n ≡ length c1 → to ≡ k.node (n + 2)
    → f ≡ function_number k.tables name.text
    → c2 ≡ c1 ++ Tick ∷ [] → c3 ≡ c2 ++ Call to f rs ∷ []
    → ExprAdded k v (expr.Call name all) c c3 to
call_added k v name all c c1 c2 c3 rs n to f h hn hto hf h2 h3 =
    let q : n + 2 ≡ suc (suc (arguments_end all (length c))) = omega (arith, hn, h.long) in
    let to' : to ≡ k.node (suc (suc (arguments_end all (length c)))) = hto ∙ ap k.node q in
    let e : c3 ≡ c1 ++ Tick ∷ Call to f rs ∷ [] = h3 ∙ ap (λ l. l ++ Call to f rs ∷ []) h2
    ∙ append_assoc c1 (Tick ∷ []) (Call to f rs ∷ []) in
    let long : length c3 ≡ suc (suc (arguments_end all (length c))) =
    ap length e ∙ length-append c1 (Tick ∷ Call to f rs ∷ []) ∙ omega (arith, h.long) in
    let code : c3 ≡ c ++ (arguments_code k v all (length c) ++ Tick ∷ Call to f rs ∷ []) =
    seam c c1 c3 (arguments_code k v all (length c)) (Tick ∷ Call to f rs ∷ []) h.code e in
    record {
      code = code ∙ ap (λ x. c ++ (arguments_code k v all (length c) ++ Tick ∷ Call x f rs ∷ []))
          to'
          ∙ ap (λ x. c ++ (arguments_code k v all (length c) ++ Tick
          ∷ Call (k.node (suc (suc (arguments_end all (length c))))) x rs ∷ [])) hf
          ∙ ap (λ l. c ++ (arguments_code k v all (length c) ++ Tick
          ∷ Call (k.node (suc (suc (arguments_end all (length c)))))
          (function_number k.tables name.text) l ∷ [])) h.registers;
      long = long;
      register = to' ∙ ap k.node (sym long);
    }

-- `-e` and `~e`: a constant, the operand, and an operation
pub constant_first : (k : Context) (v : Variables) (a : ExprTree) (n : ℤ) (o : BinOp)
    (c c1 c2 c3 : List Instruction) (z x r : ℕ)
    → Put k (λ to. Const to n) c c1 z → ExprAdded k v a c1 c2 x → Put k (λ to. Bin o to z x) c2 c3 r
    → FirstConstant k v n o a c c3 r
constant_first k v a n o c c1 c2 c3 z x r hz ha ho =
    let p : ℕ = suc (length c) in
    let l1 : length c1 ≡ p = put_long k (λ to. Const to n) c c1 z hz in
    let l2 : length c2 ≡ exp_end a p = ha.long ∙ ap (exp_end a) l1 in
    let l3 : length c3 ≡ suc (exp_end a p) = put_long k (λ to. Bin o to z x) c2 c3 r ho
    ∙ ap suc l2 in
    let r' : r ≡ k.node (suc (exp_end a p)) = ho.register ∙ ap (λ q. k.node (suc q)) l2 in
    let x' : x ≡ reg_of k v a (exp_end a p) = ha.register ∙ ap (reg_of k v a) l2 in
    let e2 : c2 ≡ c1 ++ exp_code k v a p = ha.code ∙ ap (λ q. c1 ++ exp_code k v a q) l1 in
    let e3 : c3 ≡ c1 ++ (exp_code k v a p ++ Bin o r z x ∷ []) =
    seam c1 c2 c3 (exp_code k v a p) (Bin o r z x ∷ []) e2 ho.code in
    let e : c3 ≡ c ++ (Const z n ∷ (exp_code k v a p ++ Bin o r z x ∷ [])) =
    seam c c1 c3 (Const z n ∷ []) (exp_code k v a p ++ Bin o r z x ∷ []) hz.code e3 in
    record {
      code = e ∙ ap (λ y. c ++ (Const y n ∷ (exp_code k v a p ++ Bin o r y x ∷ []))) hz.register
          ∙ ap (λ y. c ++ (Const (k.node p) n ∷ (exp_code k v a p ++ Bin o y (k.node p) x ∷ []))) r'
          ∙ ap (λ y. c ++ (Const (k.node p) n
          ∷ (exp_code k v a p ++ Bin o (k.node (suc (exp_end a p))) (k.node p) y ∷ []))) x';
      long = l3;
      register = ho.register ∙ ap k.node (sym (put_long k (λ to. Bin o to z x) c2 c3 r ho));
    }

pub negate_added : (k : Context) (v : Variables) (place : ℕ) (a : ExprTree)
    (c c1 : List Instruction) (r : ℕ)
    → FirstConstant k v (pos 0) op.Sub a c c1 r
    → ExprAdded k v (expr.Unary unary.Negate place a) c c1 r
negate_added k v place a c c1 r h = record { code = h.code; long = h.long; register = h.register }

pub complement_added : (k : Context) (v : Variables) (place : ℕ) (a : ExprTree)
    (c c1 : List Instruction) (r : ℕ)
    → FirstConstant k v (negsuc 0) op.Xor a c c1 r
    → ExprAdded k v (expr.Unary unary.Complement place a) c c1 r
complement_added k v place a c c1 r h =
    record { code = h.code; long = h.long; register = h.register }

-- a cast is its operand
pub cast_added : (k : Context) (v : Variables) (n : IntType) (place : ℕ) (a : ExprTree)
    (c c1 : List Instruction) (r : ℕ)
    → ExprAdded k v a c c1 r → ExprAdded k v (expr.Unary (unary.Cast n) place a) c c1 r
cast_added k v n place a c c1 r h = record { code = h.code; long = h.long; register = h.register }

pub not_added : (k : Context) (v : Variables) (place : ℕ) (a : ExprTree)
    (c c1 c2 c3 : List Instruction) (z x r : ℕ)
    → ExprAdded k v a c c1 x → Put k (λ to. Const to (pos 0)) c1 c2 z
    → Put k (λ to. Bin op.Eq to x z) c2 c3 r
    → ExprAdded k v (expr.Unary unary.Not place a) c c3 r
not_added k v place a c c1 c2 c3 z x r ha hz ho =
    let q : ℕ = exp_end a (length c) in
    let l2 : length c2 ≡ suc q = put_long k (λ to. Const to (pos 0)) c1 c2 z hz ∙ ap suc ha.long in
    let l3 : length c3 ≡ suc (length c2) = put_long k (λ to. Bin op.Eq to x z) c2 c3 r ho in
    let z' : z ≡ k.node (suc q) = hz.register ∙ ap (λ n. k.node (suc n)) ha.long in
    let r' : r ≡ k.node (suc (suc q)) = ho.register ∙ ap (λ n. k.node (suc n)) l2 in
    let x' : x ≡ reg_of k v a q = ha.register ∙ ap (reg_of k v a) ha.long in
    let e2 : c3 ≡ c1 ++ (Const z (pos 0) ∷ Bin op.Eq r x z ∷ []) =
    seam c1 c2 c3 (Const z (pos 0) ∷ []) (Bin op.Eq r x z ∷ []) hz.code ho.code in
    let e : c3 ≡ c ++ (exp_code k v a (length c) ++ Const z (pos 0) ∷ Bin op.Eq r x z ∷ []) =
    seam c c1 c3 (exp_code k v a (length c)) (Const z (pos 0) ∷ Bin op.Eq r x z ∷ [])
    ha.code e2 in
    record {
      code = e ∙ ap (λ y. c ++ (exp_code k v a (length c) ++ Const y (pos 0)
          ∷ Bin op.Eq r x y ∷ [])) z'
          ∙ ap (λ y. c ++ (exp_code k v a (length c) ++ Const (k.node (suc q)) (pos 0)
          ∷ Bin op.Eq y x (k.node (suc q)) ∷ [])) r'
          ∙ ap (λ y. c ++ (exp_code k v a (length c) ++ Const (k.node (suc q)) (pos 0)
          ∷ Bin op.Eq (k.node (suc (suc q))) y (k.node (suc q)) ∷ [])) x';
      long = l3 ∙ ap suc l2;
      register = ho.register ∙ ap k.node (sym l3);
    }

pub direct_added : (k : Context) (v : Variables) (o : BinOp) (on : ℕ) (b : ExprTree)
    (c c1 c2 : List Instruction) (y r : ℕ)
    → ExprAdded k v b c c1 y → Put k (λ to. Bin o to on y) c1 c2 r
    → RightAdded k v (Direct o) on b c c2 r
direct_added k v o on b c c1 c2 y r hb ho =
    let B : List Instruction = exp_code k v b (length c) in
    let q : ℕ = exp_end b (length c) in
    let l2 : length c2 ≡ suc (length c1) = put_long k (λ to. Bin o to on y) c1 c2 r ho in
    record {
      code = seam c c1 c2 B (Bin o r on y ∷ []) hb.code ho.code
          ∙ ap (λ x. c ++ (B ++ Bin o x on y ∷ [])) (ho.register ∙ ap (λ n. k.node (suc n)) hb.long)
          ∙ ap (λ x. c ++ (B ++ Bin o (k.node (suc q)) on x ∷ []))
          (hb.register ∙ ap (reg_of k v b) hb.long);
      long = l2 ∙ ap suc hb.long;
      register = ho.register ∙ ap k.node (sym l2);
    }

pub exchanged_added : (k : Context) (v : Variables) (o : BinOp) (on : ℕ) (b : ExprTree)
    (c c1 c2 : List Instruction) (y r : ℕ)
    → ExprAdded k v b c c1 y → Put k (λ to. Bin o to y on) c1 c2 r
    → RightAdded k v (Exchanged o) on b c c2 r
exchanged_added k v o on b c c1 c2 y r hb ho =
    let B : List Instruction = exp_code k v b (length c) in
    let q : ℕ = exp_end b (length c) in
    let l2 : length c2 ≡ suc (length c1) = put_long k (λ to. Bin o to y on) c1 c2 r ho in
    record {
      code = seam c c1 c2 B (Bin o r y on ∷ []) hb.code ho.code
          ∙ ap (λ x. c ++ (B ++ Bin o x y on ∷ [])) (ho.register ∙ ap (λ n. k.node (suc n)) hb.long)
          ∙ ap (λ x. c ++ (B ++ Bin o (k.node (suc q)) x on ∷ []))
          (hb.register ∙ ap (reg_of k v b) hb.long);
      long = l2 ∙ ap suc hb.long;
      register = ho.register ∙ ap k.node (sym l2);
    }

pub binary_added : (k : Context) (v : Variables) (o : BinaryOp) (place : ℕ) (a b : ExprTree)
    (c c1 c2 : List Instruction) (f : Form) (on r : ℕ)
    → ExprAdded k v a c c1 on → RightAdded k v f on b c1 c2 r
    → f ≡ typed_form (sides_type k.tables v.scopes o a b) (form_of o)
    → ExprAdded k v (expr.Binary o place a b) c c2 r
binary_added k v o place a b c c1 c2 f on r ha hb is =
    let A : List Instruction = exp_code k v a (length c) in
    let q : ℕ = exp_end a (length c) in
    let int : IntType = sides_type k.tables v.scopes o a b in
    record {
      code = seam c c1 c2 A (form_code f k.node (exp_code k v b) (exp_end b)
          (reg_of k v b) on (length c1)) ha.code hb.code
          ∙ ap (λ x. c ++ (A ++ form_code f k.node (exp_code k v b) (exp_end b)
          (reg_of k v b) x (length c1))) (ha.register ∙ ap (reg_of k v a) ha.long)
          ∙ ap (λ n. c ++ (A ++ form_code f k.node (exp_code k v b) (exp_end b)
          (reg_of k v b) (reg_of k v a q) n)) ha.long
          ∙ ap (λ g. c ++ (A ++ form_code g k.node (exp_code k v b) (exp_end b)
          (reg_of k v b) (reg_of k v a q) q)) is;
      long = hb.long ∙ ap (form_end f (exp_end b)) ha.long
          ∙ ap (λ g. form_end g (exp_end b) q) is
          ∙ form_end_typed int (form_of o) (exp_end b) q;
      register = hb.register;
    }

-- one instruction is overwritten
set_at : (l l1 c rest : List Instruction) (i j : Instruction) (n : ℕ) → l ≡ c ++ i ∷ rest
    → n ≡ length c → l1 ≡ slice_set l n j → l1 ≡ c ++ j ∷ rest
set_at l l1 c rest i j n is place e =
    e ∙ ap (λ l. slice_set l n j) is ∙ ap (λ n. slice_set (c ++ i ∷ rest) n j) place
    ∙ set-append_seam c i rest j

pub left_added : (k : Context) (v : Variables) (a : ExprTree) (c c1 c2 c3 : List Instruction)
    (on x n m : ℕ) → n ≡ length c → c1 ≡ c ++ Branch on 0 ∷ [] → ExprAdded k v a c1 c2 x
    → m ≡ length c2 → c3 ≡ slice_set c2 n (Branch on (m + 2)) → LeftAdded k v on a c c3 x
left_added k v a c c1 c2 c3 on x n m hn h1 ha hm h3 =
    let p : ℕ = suc (length c) in
    let q : ℕ = exp_end a p in
    let l1 : length c1 ≡ p = one_more c c1 (Branch on 0) h1 in
    let l2 : length c2 ≡ q = ha.long ∙ ap (exp_end a) l1 in
    let A : List Instruction = exp_code k v a p in
    let e2 : c2 ≡ c1 ++ A = ha.code ∙ ap (λ i. c1 ++ exp_code k v a i) l1 in
    let s0 : c2 ≡ c ++ Branch on 0 ∷ A = seam c c1 c2 (Branch on 0 ∷ []) A h1 e2 in
    let s3 : c3 ≡ c ++ Branch on (m + 2) ∷ A =
    set_at c2 c3 c A (Branch on 0) (Branch on (m + 2)) n s0 hn h3 in
    let m2 : m + 2 ≡ suc (suc q) = omega (arith, hm, l2) in
    let same : length c3 ≡ length c2 = ap length h3 ∙ length-set c2 n (Branch on (m + 2)) in
    record {
      code = s3 ∙ ap (λ i. c ++ Branch on i ∷ A) m2;
      long = same ∙ l2;
      register = ha.register ∙ ap (reg_of k v a) (sym same);
    }

pub other_added : (k : Context) (v : Variables) (b : ExprTree)
    (c c1 c2 c3 c4 c5 c6 : List Instruction) (x y n l to : ℕ)
    → n ≡ length c → c1 ≡ c ++ Copy 0 x ∷ [] → c2 ≡ c1 ++ Jump 0 ∷ []
    → ExprAdded k v b c2 c3 y → l ≡ length c3 → to ≡ k.node (l + 1)
    → c4 ≡ c3 ++ Copy to y ∷ [] → c5 ≡ slice_set c4 n (Copy to x)
    → c6 ≡ slice_set c5 (n + 1) (Jump (l + 1)) → OtherAdded k v x b c c6 to
other_added k v b c c1 c2 c3 c4 c5 c6 x y n l to hn h1 h2 hb hl hto h4 h5 h6 =
    let q : ℕ = exp_end b (suc (suc (length c))) in
    let l1 : length c1 ≡ suc (length c) = one_more c c1 (Copy 0 x) h1 in
    let l2 : length c2 ≡ suc (suc (length c)) = one_more c1 c2 (Jump 0) h2 ∙ ap suc l1 in
    let l3 : length c3 ≡ q = hb.long ∙ ap (exp_end b) l2 in
    let B : List Instruction = exp_code k v b (suc (suc (length c))) in
    let T : List Instruction = B ++ Copy to y ∷ [] in
    let e3 : c3 ≡ c2 ++ B = hb.code ∙ ap (λ i. c2 ++ exp_code k v b i) l2 in
    let s2 : c4 ≡ c2 ++ T = seam c2 c3 c4 B (Copy to y ∷ []) e3 h4 in
    let s1 : c4 ≡ c1 ++ Jump 0 ∷ T = seam c1 c2 c4 (Jump 0 ∷ []) T h2 s2 in
    let s0 : c4 ≡ c ++ Copy 0 x ∷ Jump 0 ∷ T = seam c c1 c4 (Copy 0 x ∷ []) (Jump 0 ∷ T) h1 s1 in
    let s5 : c5 ≡ c ++ Copy to x ∷ Jump 0 ∷ T =
    set_at c4 c5 c (Jump 0 ∷ T) (Copy 0 x) (Copy to x) n s0 hn h5 in
    let D : List Instruction = c ++ Copy to x ∷ [] in
    let d : n + 1 ≡ length D = omega (arith, hn, length-append c (Copy to x ∷ [])) in
    let s6 : c6 ≡ D ++ Jump (l + 1) ∷ T =
    set_at c5 c6 D T (Jump 0) (Jump (l + 1)) (n + 1)
    (s5 ∙ sym (append_assoc c (Copy to x ∷ []) (Jump 0 ∷ T))) d h6 in
    let code : c6 ≡ c ++ Copy to x ∷ Jump (l + 1) ∷ T =
    s6 ∙ append_assoc c (Copy to x ∷ []) (Jump (l + 1) ∷ T) in
    let e : l + 1 ≡ suc q = omega (arith, hl, l3) in
    let to' : to ≡ k.node (suc q) = hto ∙ ap k.node e in
    let y' : y ≡ reg_of k v b q = hb.register ∙ ap (reg_of k v b) l3 in
    let long : length c6 ≡ suc q =
    ap length h6 ∙ length-set c5 (n + 1) (Jump (l + 1)) ∙ ap length h5
    ∙ length-set c4 n (Copy to x) ∙ one_more c3 c4 (Copy to y) h4 ∙ ap suc l3 in
    record {
      code = code ∙ ap (λ i. c ++ Copy i x ∷ Jump (l + 1) ∷ (B ++ Copy i y ∷ [])) to'
          ∙ ap (λ i. c ++ Copy (k.node (suc q)) x ∷ Jump i
          ∷ (B ++ Copy (k.node (suc q)) y ∷ [])) e
          ∙ ap (λ i. c ++ Copy (k.node (suc q)) x ∷ Jump (suc q)
          ∷ (B ++ Copy (k.node (suc q)) i ∷ [])) y';
      long = long;
      register = to' ∙ ap k.node (sym long);
    }

pub conditional_added : (k : Context) (v : Variables) (x : ExprTree) (place : ℕ) (a b : ExprTree)
    (c c1 c2 c3 : List Instruction) (on y r : ℕ)
    → ExprAdded k v x c c1 on → LeftAdded k v on a c1 c2 y → OtherAdded k v y b c2 c3 r
    → ExprAdded k v (expr.Conditional x place a b) c c3 r
conditional_added k v x place a b c c1 c2 c3 on y r hx ha hb =
    let X : List Instruction = exp_code k v x (length c) in
    let p : ℕ = exp_end x (length c) in
    let q : ℕ = exp_end a (suc p) in
    let l2 : length c2 ≡ q = ha.long ∙ ap (λ n. exp_end a (suc n)) hx.long in
    let on' : on ≡ reg_of k v x p = hx.register ∙ ap (reg_of k v x) hx.long in
    let y' : y ≡ reg_of k v a q = ha.register ∙ ap (reg_of k v a) l2 in
    let A : List Instruction = left_code k v (reg_of k v x p) a p in
    let e2 : c2 ≡ c1 ++ A = ha.code ∙ ap (λ n. c1 ++ left_code k v n a (length c1)) on'
    ∙ ap (λ n. c1 ++ left_code k v (reg_of k v x p) a n) hx.long in
    let e3 : c3 ≡ c2 ++ other_code k v (reg_of k v a q) b q =
    hb.code ∙ ap (λ n. c2 ++ other_code k v n b (length c2)) y'
    ∙ ap (λ n. c2 ++ other_code k v (reg_of k v a q) b n) l2 in
    let s1 : c3 ≡ c1 ++ (A ++ other_code k v (reg_of k v a q) b q) =
    seam c1 c2 c3 A (other_code k v (reg_of k v a q) b q) e2 e3 in
    record {
      code = seam c c1 c3 X (A ++ other_code k v (reg_of k v a q) b q) hx.code s1;
      long = hb.long ∙ ap (other_end b) l2;
      register = hb.register;
    }

pub outcome_added : (on to n : ℕ) (c c1 c2 c3 c4 : List Instruction) → n ≡ length c
    → c1 ≡ c ++ Branch on (n + 3) ∷ [] → c2 ≡ c1 ++ Const to (pos 1) ∷ []
    → c3 ≡ c2 ++ Jump (n + 4) ∷ [] → c4 ≡ c3 ++ Const to (pos 0) ∷ []
    → c4 ≡ c ++ truth_code on to (length c)
outcome_added on to n c c1 c2 c3 c4 hn h1 h2 h3 h4 =
    let e3 : n + 3 ≡ suc (suc (suc (length c))) = omega (arith, hn) in
    let e4 : n + 4 ≡ suc (suc (suc (suc (length c)))) = omega (arith, hn) in
    let s2 : c4 ≡ c2 ++ (Jump (n + 4) ∷ Const to (pos 0) ∷ []) =
    seam c2 c3 c4 (Jump (n + 4) ∷ []) (Const to (pos 0) ∷ []) h3 h4 in
    let s1 : c4 ≡ c1 ++ (Const to (pos 1) ∷ Jump (n + 4) ∷ Const to (pos 0) ∷ []) =
    seam c1 c2 c4 (Const to (pos 1) ∷ []) (Jump (n + 4) ∷ Const to (pos 0) ∷ []) h2 s2 in
    let s0 : c4 ≡ c ++ (Branch on (n + 3) ∷ Const to (pos 1) ∷ Jump (n + 4) ∷ Const to (pos 0)
    ∷ []) = seam c c1 c4 (Branch on (n + 3) ∷ [])
    (Const to (pos 1) ∷ Jump (n + 4) ∷ Const to (pos 0) ∷ []) h1 s1 in
    s0 ∙ ap (λ i. c ++ (Branch on i ∷ Const to (pos 1) ∷ Jump (n + 4) ∷ Const to (pos 0) ∷ [])) e3
    ∙ ap (λ i. c ++ (Branch on (suc (suc (suc (length c)))) ∷ Const to (pos 1) ∷ Jump i
    ∷ Const to (pos 0) ∷ [])) e4

pub both_added : (k : Context) (v : Variables) (b : ExprTree) (c c1 c2 c3 c4 : List Instruction)
    (on x n m to : ℕ)
    → n ≡ length c → c1 ≡ c ++ Branch on 0 ∷ [] → ExprAdded k v b c1 c2 x → m ≡ length c2
    → to ≡ k.node (m + 4) → c3 ≡ c2 ++ truth_code x to (length c2)
    → c4 ≡ slice_set c3 n (Branch on (m + 3)) → RightAdded k v Both on b c c4 to
both_added k v b c c1 c2 c3 c4 on x n m to hn h1 hb hm hto h3 h4 =
    let q : ℕ = exp_end b (suc (length c)) in
    let l1 : length c1 ≡ suc (length c) = one_more c c1 (Branch on 0) h1 in
    let l2 : length c2 ≡ q = hb.long ∙ ap (exp_end b) l1 in
    let m3 : m + 3 ≡ suc (suc (suc q)) = omega (arith, hm, l2) in
    let m4 : m + 4 ≡ suc (suc (suc (suc q))) = omega (arith, hm, l2) in
    let B : List Instruction = exp_code k v b (suc (length c)) in
    let O : List Instruction = truth_code x to (length c2) in
    let e2 : c2 ≡ c1 ++ B = hb.code ∙ ap (λ i. c1 ++ exp_code k v b i) l1 in
    let s1 : c3 ≡ c1 ++ (B ++ O) = seam c1 c2 c3 B O e2 h3 in
    let s0 : c3 ≡ c ++ Branch on 0 ∷ (B ++ O) = seam c c1 c3 (Branch on 0 ∷ []) (B ++ O) h1 s1 in
    let s4 : c4 ≡ c ++ Branch on (m + 3) ∷ (B ++ O) =
    h4 ∙ ap (λ l. slice_set l n (Branch on (m + 3))) s0
    ∙ ap (λ i. slice_set (c ++ Branch on 0 ∷ (B ++ O)) i (Branch on (m + 3))) hn
    ∙ set-append_seam c (Branch on 0) (B ++ O) (Branch on (m + 3)) in
    let to' : to ≡ k.node (suc (suc (suc (suc q)))) = hto ∙ ap k.node m4 in
    let x' : x ≡ reg_of k v b q = hb.register ∙ ap (reg_of k v b) l2 in
    let l3 : length c3 ≡ suc (suc (suc (suc (length c2)))) =
    ap length h3 ∙ length-append c2 O ∙ omega arith in
    let l4 : length c4 ≡ suc (suc (suc (suc q))) =
    ap length h4 ∙ length-set c3 n (Branch on (m + 3)) ∙ l3
    ∙ ap (λ i. suc (suc (suc (suc i)))) l2 in
    record {
      code = s4 ∙ ap (λ i. c ++ Branch on i ∷ (B ++ O)) m3
          ∙ ap (λ i. c ++ Branch on (suc (suc (suc q))) ∷ (B ++ truth_code i to (length c2))) x'
          ∙ ap (λ i. c ++ Branch on (suc (suc (suc q)))
          ∷ (B ++ truth_code (reg_of k v b q) i (length c2))) to'
          ∙ ap (λ i. c ++ Branch on (suc (suc (suc q)))
          ∷ (B ++ truth_code (reg_of k v b q) (k.node (suc (suc (suc (suc q))))) i)) l2;
      long = l4;
      register = to' ∙ ap k.node (sym l4);
    }

pub either_added : (k : Context) (v : Variables) (b : ExprTree)
    (c c1 c2 c3 c4 c5 : List Instruction) (on x n m to : ℕ)
    → n ≡ length c → c1 ≡ c ++ Branch on (n + 2) ∷ [] → c2 ≡ c1 ++ Jump 0 ∷ []
    → ExprAdded k v b c2 c3 x → m ≡ length c3
    → to ≡ k.node (m + 4) → c4 ≡ c3 ++ truth_code x to (length c3)
    → c5 ≡ slice_set c4 (n + 1) (Jump (m + 1)) → RightAdded k v Either on b c c5 to
either_added k v b c c1 c2 c3 c4 c5 on x n m to hn h1 h2 hb hm hto h4 h5 =
    let q : ℕ = exp_end b (suc (suc (length c))) in
    let l1 : length c1 ≡ suc (length c) = one_more c c1 (Branch on (n + 2)) h1 in
    let l2 : length c2 ≡ suc (suc (length c)) = one_more c1 c2 (Jump 0) h2 ∙ ap suc l1 in
    let l3 : length c3 ≡ q = hb.long ∙ ap (exp_end b) l2 in
    let n1 : n + 1 ≡ length c1 = omega (arith, hn, l1) in
    let n2 : n + 2 ≡ suc (suc (length c)) = omega (arith, hn) in
    let m1 : m + 1 ≡ suc q = omega (arith, hm, l3) in
    let m4 : m + 4 ≡ suc (suc (suc (suc q))) = omega (arith, hm, l3) in
    let B : List Instruction = exp_code k v b (suc (suc (length c))) in
    let O : List Instruction = truth_code x to (length c3) in
    let e3 : c3 ≡ c2 ++ B = hb.code ∙ ap (λ i. c2 ++ exp_code k v b i) l2 in
    let s2 : c4 ≡ c2 ++ (B ++ O) = seam c2 c3 c4 B O e3 h4 in
    let s1 : c4 ≡ c1 ++ Jump 0 ∷ (B ++ O) = seam c1 c2 c4 (Jump 0 ∷ []) (B ++ O) h2 s2 in
    let s5 : c5 ≡ c1 ++ Jump (m + 1) ∷ (B ++ O) =
    h5 ∙ ap (λ l. slice_set l (n + 1) (Jump (m + 1))) s1
    ∙ ap (λ i. slice_set (c1 ++ Jump 0 ∷ (B ++ O)) i (Jump (m + 1))) n1
    ∙ set-append_seam c1 (Jump 0) (B ++ O) (Jump (m + 1)) in
    let s0 : c5 ≡ c ++ Branch on (n + 2) ∷ Jump (m + 1) ∷ (B ++ O) =
    seam c c1 c5 (Branch on (n + 2) ∷ []) (Jump (m + 1) ∷ (B ++ O)) h1 s5 in
    let to' : to ≡ k.node (suc (suc (suc (suc q)))) = hto ∙ ap k.node m4 in
    let x' : x ≡ reg_of k v b q = hb.register ∙ ap (reg_of k v b) l3 in
    let l4 : length c4 ≡ suc (suc (suc (suc (length c3)))) =
    ap length h4 ∙ length-append c3 O ∙ omega arith in
    let l5 : length c5 ≡ suc (suc (suc (suc q))) =
    ap length h5 ∙ length-set c4 (n + 1) (Jump (m + 1)) ∙ l4
    ∙ ap (λ i. suc (suc (suc (suc i)))) l3 in
    record {
      code = s0 ∙ ap (λ i. c ++ Branch on i ∷ Jump (m + 1) ∷ (B ++ O)) n2
          ∙ ap (λ i. c ++ Branch on (suc (suc (length c))) ∷ Jump i ∷ (B ++ O)) m1
          ∙ ap (λ i. c ++ Branch on (suc (suc (length c))) ∷ Jump (suc q)
          ∷ (B ++ truth_code i to (length c3))) x'
          ∙ ap (λ i. c ++ Branch on (suc (suc (length c))) ∷ Jump (suc q)
          ∷ (B ++ truth_code (reg_of k v b q) i (length c3))) to'
          ∙ ap (λ i. c ++ Branch on (suc (suc (length c))) ∷ Jump (suc q)
          ∷ (B ++ truth_code (reg_of k v b q) (k.node (suc (suc (suc (suc q))))) i)) l3;
      long = l5;
      register = to' ∙ ap k.node (sym l5);
    }

pub or_none : (k : Context) (v : Variables) (n : ℤ) (c c1 : List Instruction) (r : ℕ)
    → Put k (λ to. Const to n) c c1 r → OrAdded k v n None c c1 r
or_none k v n c c1 r h =
    let long : length c1 ≡ suc (length c) = put_long k (λ to. Const to n) c c1 r h in
    record {
      code = h.code ∙ ap (λ x. c ++ Const x n ∷ []) h.register;
      long = long;
      register = h.register ∙ ap k.node (sym long);
    }

pub or_some : (k : Context) (v : Variables) (n : ℤ) (e : ExprTree) (c c1 : List Instruction) (r : ℕ)
    → ExprAdded k v e c c1 r → OrAdded k v n (Some e) c c1 r
or_some k v n e c c1 r h = record { code = h.code; long = h.long; register = h.register }

pub number_added : (k : Context) (v : Variables) (n : ℤ) (c c1 : List Instruction) (r : ℕ)
    → Put k (λ to. Const to n) c c1 r → ExprAdded k v (expr.Number n) c c1 r
number_added k v n c c1 r h = expr_put k v (expr.Number n) (λ to. Const to n) c c1 r h refl refl
    (λ q. refl)

pub null_added : (k : Context) (v : Variables) (c c1 : List Instruction) (r : ℕ)
    → Put k (λ to. Const to (pos 0)) c c1 r → ExprAdded k v expr.Null c c1 r
null_added k v c c1 r h = expr_put k v expr.Null (λ to. Const to (pos 0)) c c1 r h refl refl
    (λ q. refl)

pub variable_added : (k : Context) (v : Variables) (name : Ident) (c : List Instruction) (r : ℕ)
    → r ≡ register_of name.text v → ExprAdded k v (expr.Variable name) c c r
variable_added k v name c r is = record { code = sym (append-nil c); long = refl; register = is }

pub new_added : (k : Context) (v : Variables) (place : ℕ) (name : Ident)
    (c c1 : List Instruction) (r : ℕ)
    → Put k (λ to. New to (kind_named k.tables name.text) false (source_line k.tree place)) c c1 r
    → ExprAdded k v (expr.New place name) c c1 r
new_added k v place name c c1 r h =
    expr_put k v (expr.New place name)
    (λ to. New to (kind_named k.tables name.text) false (source_line k.tree place)) c c1 r h refl
    refl (λ q. refl)

-- one argument in the loop over the remaining ones
pub arguments_code_more : (k : Context) (v : Variables) (e : ExprTree) (first : ℕ)
    (rest : Arguments) (c c1 : List Instruction) (r : ℕ) → ExprAdded k v e c c1 r
    → c1 ++ arguments_code k v rest (length c1) ≡ c ++ arguments_code k v (expr.More first e rest)
    (length c)
arguments_code_more k v e first rest c c1 r h =
    ap (λ n. c1 ++ arguments_code k v rest n) h.long
    ∙ ap (λ l. l ++ arguments_code k v rest (exp_end e (length c))) h.code
    ∙ append_assoc c (exp_code k v e (length c)) (arguments_code k v rest (exp_end e (length c)))

pub arguments_registers_more : (k : Context) (v : Variables) (e : ExprTree) (first : ℕ)
    (rest : Arguments) (c c1 : List Instruction) (r : ℕ) (rs : List ℕ) → ExprAdded k v e c c1 r
    → (rs ++ r ∷ []) ++ registers_of k v rest (length c1) ≡ rs
    ++ registers_of k v (expr.More first e rest) (length c)
arguments_registers_more k v e first rest c c1 r rs h =
    append_assoc rs (r ∷ []) (registers_of k v rest (length c1))
    ∙ ap (λ n. rs ++ r ∷ registers_of k v rest n) h.long
    ∙ ap (λ x. rs ++ x ∷ registers_of k v rest (exp_end e (length c)))
    (h.register ∙ ap (reg_of k v e) h.long)

pub ruleset expressions = (
  expr_of-Call,
  or_none,
  or_some,
  number_added,
  null_added,
  variable_added,
  new_added,
  read_added,
  read_root,
  read_arrow,
  read_index,
  target_arrow,
  target_index,
  call_added,
  constant_first,
  negate_added,
  complement_added,
  cast_added,
  not_added,
  direct_added,
  exchanged_added,
  binary_added,
  both_added,
  either_added,
  left_added,
  conditional_added,
  outcome_added,
)
