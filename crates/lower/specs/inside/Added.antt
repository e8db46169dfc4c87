-- What the functions that write code append to a list of instructions.
use Rattle.std.specs.Prelude.{◌≡◌, ◌+◌, ℕ, suc, ℤ, List, [], ◌∷◌, ◌++◌, length, Option, Bool}
use Rattle.std.specs.Prelude.{if◌then◌else◌}
use Rattle.nvm_base.specs.declared.op.BinOp.{BinOp}
use Rattle.c_tree.specs.ExprTree.{ExprTree, Arguments}
use Rattle.c_tree.specs.StmtTree as stmt
use Rattle.c_tree.specs.StmtTree.{StmtTree, Statements, SimpleTree, FirstTree, InitialTree}
use Rattle.c_tree.specs.ItemTree.{ParameterTree}
use Rattle.c_types.specs.Views.{tables_in}
use Rattle.ir.specs.declared.instruction.Target.{Target}
use Rattle.ir.specs.declared.instruction.Instruction.{Instruction}
use Rattle.ir.specs.declared.instruction.Instruction.TheVariants.{Const, Copy, Bin, Load, Jump}
use Rattle.ir.specs.declared.instruction.Instruction.TheVariants.{Branch}
use Rattle.lower.specs.declared.form.Form.{Form}
use Rattle.lower.specs.declared.source.Source.{Source}
use Rattle.lower.specs.Names.{Variables, inner_variables, variable_of}
use Rattle.lower.specs.Program.{parameters_end, parameters_code, variables_after_parameters}
use Rattle.lower.specs.Lowers.{Context, form_end, form_code, exp_end, exp_code, reg_of, target_end}
use Rattle.lower.specs.Lowers.{target_code, target_of, arguments_end, arguments_code, registers_of}
use Rattle.lower.specs.Lowers.{or_end, or_code, or_reg, initial_end, initial_code, simple_end}
use Rattle.lower.specs.Lowers.{simple_code, first_end, first_code, third_end, third_code, stmt_end}
use Rattle.lower.specs.Lowers.{stmt_code, statements_end, statements_code, variables_after}
use Rattle.lower.specs.Lowers.{variables_after_first, update_end, update_code}
use Rattle.lower.specs.inside.Lowers.{variables_after_all, left_code, other_end, other_code}
use Rattle.lower.specs.inside.Lowers.{for_end, for_code}

-- registers after the parameters' are named by places
abbrev pub context_of : Source → Context
context_of s = record {
  tables = tables_in s.program.now;
  tree = s.ast.now;
  node = λ q.
      s.parameters + q;
}

-- one instruction, which assigns the register of the place after it
pub record Put (k : Context) (make : ℕ → Instruction) (old new : List Instruction) (r : ℕ) :
    Type 0 where
  pub code : new ≡ old ++ make r ∷ []
  pub register : r ≡ k.node (suc (length old))

pub record ExprAdded (k : Context) (v : Variables) (e : ExprTree) (old new : List Instruction)
    (r : ℕ) : Type 0 where
  pub code : new ≡ old ++ exp_code k v e (length old)
  pub long : length new ≡ exp_end e (length old)
  pub register : r ≡ reg_of k v e (length new)

pub record TargetAdded (k : Context) (v : Variables) (e : ExprTree) (old new : List Instruction)
    (t : Target) : Type 0 where
  pub code : new ≡ old ++ target_code k v e (length old)
  pub long : length new ≡ target_end e (length old)
  pub target : t ≡ target_of k v e (length old)

-- an operation on a constant and an expression
pub record FirstConstant (k : Context) (v : Variables) (n : ℤ) (o : BinOp) (e : ExprTree)
    (old new : List Instruction) (r : ℕ) : Type 0 where
  pub code : new ≡ old ++ (Const (k.node (suc (length old))) n
      ∷ (exp_code k v e (suc (length old)) ++ Bin o (k.node (suc (exp_end e (suc (length old)))))
      (k.node (suc (length old))) (reg_of k v e (exp_end e (suc (length old)))) ∷ []))
  pub long : length new ≡ suc (exp_end e (suc (length old)))
  pub register : r ≡ k.node (length new)

-- an operator after its left side, which is in the register `on`
pub record RightAdded (k : Context) (v : Variables) (f : Form) (on : ℕ) (e : ExprTree)
    (old new : List Instruction) (r : ℕ) : Type 0 where
  pub code : new ≡ old ++ form_code f k.node (exp_code k v e) (exp_end e) (reg_of k v e) on
      (length old)
  pub long : length new ≡ form_end f (exp_end e) (length old)
  pub register : r ≡ k.node (length new)

-- the left side of `?`, whose condition is in the register `on`
pub record LeftAdded (k : Context) (v : Variables) (on : ℕ) (a : ExprTree)
    (old new : List Instruction) (r : ℕ) : Type 0 where
  pub code : new ≡ old ++ left_code k v on a (length old)
  pub long : length new ≡ exp_end a (suc (length old))
  pub register : r ≡ reg_of k v a (length new)

-- the right side of `?`, whose left side is in the register `left`
pub record OtherAdded (k : Context) (v : Variables) (left : ℕ) (b : ExprTree)
    (old new : List Instruction) (r : ℕ) : Type 0 where
  pub code : new ≡ old ++ other_code k v left b (length old)
  pub long : length new ≡ other_end b (length old)
  pub register : r ≡ k.node (length new)

-- a field or an element as a value: one load
pub record ReadAdded (k : Context) (v : Variables) (e : ExprTree) (old new : List Instruction)
    (r : ℕ) : Type 0 where
  pub code : new ≡ old ++ (target_code k v e (length old)
      ++ Load (k.node (suc (target_end e (length old)))) (target_of k v e (length old)) ∷ [])
  pub long : length new ≡ suc (target_end e (length old))
  pub register : r ≡ k.node (length new)

pub record ArgumentsAdded (k : Context) (v : Variables) (es : Arguments)
    (old new : List Instruction) (rs : List ℕ) : Type 0 where
  pub code : new ≡ old ++ arguments_code k v es (length old)
  pub long : length new ≡ arguments_end es (length old)
  pub registers : rs ≡ registers_of k v es (length old)

pub record OrAdded (k : Context) (v : Variables) (n : ℤ) (e : Option ExprTree)
    (old new : List Instruction) (r : ℕ) : Type 0 where
  pub code : new ≡ old ++ or_code k v n e (length old)
  pub long : length new ≡ or_end e (length old)
  pub register : r ≡ or_reg k v e (length new)

pub record InitialAdded (k : Context) (v : Variables) (i : Option InitialTree)
    (old new : List Instruction) (r : ℕ) : Type 0 where
  pub code : new ≡ old ++ initial_code k v i (length old)
  pub long : length new ≡ initial_end i (length old)
  pub register : r ≡ k.node (initial_end i (length old))

pub record SimpleAdded (k : Context) (v : Variables) (x : SimpleTree) (old new : List Instruction) :
    Type 0 where
  pub code : new ≡ old ++ simple_code k v x (length old)
  pub long : length new ≡ simple_end x (length old)

pub record FirstAdded (k : Context) (v : Variables) (f : Option FirstTree)
    (old new : List Instruction) (u : Variables) : Type 0 where
  pub code : new ≡ old ++ first_code k v f (length old)
  pub long : length new ≡ first_end f (length old)
  pub variables : u ≡ variables_after_first k f (length old) v

pub record ThirdAdded (k : Context) (v : Variables) (x : Option SimpleTree)
    (old new : List Instruction) : Type 0 where
  pub code : new ≡ old ++ third_code k v x (length old)
  pub long : length new ≡ third_end x (length old)

pub record StmtAdded (k : Context) (v : Variables) (x : StmtTree) (out again : ℕ)
    (old new : List Instruction) (u : Variables) : Type 0 where
  pub code : new ≡ old ++ stmt_code k v x out again (length old)
  pub long : length new ≡ stmt_end x (length old)
  pub variables : u ≡ variables_after k x (length old) v

pub record StatementsAdded (k : Context) (v : Variables) (xs : Statements) (out again : ℕ)
    (old new : List Instruction) (u : Variables) : Type 0 where
  pub code : new ≡ old ++ statements_code k v xs out again (length old)
  pub long : length new ≡ statements_end xs (length old)
  pub variables : u ≡ variables_after_all k xs (length old) v

-- a statement in a scope of its own
pub record BodyAdded (k : Context) (v : Variables) (x : StmtTree) (out again : ℕ)
    (old new : List Instruction) (u : Variables) : Type 0 where
  pub code : new ≡ old ++ stmt_code k (inner_variables v) x out again (length old)
  pub long : length new ≡ stmt_end x (length old)
  pub variables : u ≡ v

-- the parts of a `for` after the first one, from its place on
pub record ForAdded (k : Context) (v : Variables) (c : Option ExprTree) (third : Option SimpleTree)
    (x : StmtTree) (old new : List Instruction) (u : Variables) : Type 0 where
  pub code : new ≡ old ++ for_code k v c third x (length old)
  pub long : length new ≡ for_end c third x (length old)
  pub variables : u ≡ v

-- an assignment with an operator, `++` or `--`
pub record UpdateAdded (k : Context) (v : Variables) (target : ExprTree) (place : ℕ) (o : BinOp)
    (value : Option ExprTree) (old new : List Instruction) : Type 0 where
  pub code : new ≡ old ++ update_code k v (variable_of target) target place o value (length old)
  pub long : length new ≡ update_end (variable_of target) target value (length old)

-- the copy of a parameter that is assigned, and the register that every use means
pub record ParameterAdded (k : Context) (b : Bool) (n : ℕ) (old new : List Instruction) (r : ℕ) :
    Type 0 where
  pub code : new ≡ (if b then old ++ Copy (k.node (suc (length old))) n ∷ [] else old)
  pub register : r ≡ (if b then k.node (suc (length old)) else n)

pub record ParametersAdded (k : Context) (body : Statements) (xs : List ParameterTree)
    (v : Variables) (old new : List Instruction) (u : Variables) : Type 0 where
  pub code : new ≡ old ++ parameters_code k body 0 xs (length old)
  pub long : length new ≡ parameters_end body xs (length old)
  pub variables : u ≡ variables_after_parameters k body 0 xs (length old) v

-- a condition and the body; if the condition is 0 the code goes on n places after the body
pub record IfAdded (k : Context) (v : Variables) (e : ExprTree) (a : StmtTree) (out again ahead : ℕ)
    (old new : List Instruction) (u : Variables) : Type 0 where
  pub code : new ≡ old ++ (exp_code k v e (length old)
      ++ (Branch (reg_of k v e (exp_end e (length old))) (stmt_end a (suc (exp_end e (length old)))
      + ahead) ∷ stmt_code k (inner_variables v) a out again (suc (exp_end e (length old)))))
  pub long : length new ≡ stmt_end a (suc (exp_end e (length old)))
  pub variables : u ≡ v

-- the part after `else`, preceded by a jump over it
pub record ElseAdded (k : Context) (v : Variables) (b : StmtTree) (out again : ℕ)
    (old new : List Instruction) (u : Variables) : Type 0 where
  pub code : new ≡ old ++ (Jump (stmt_end b (suc (length old))) ∷ stmt_code k (inner_variables v) b
      out again (suc (length old)))
  pub long : length new ≡ stmt_end b (suc (length old))
  pub variables : u ≡ v

-- a statement that doesn't depend on the targets of break and continue
pub record WhileAdded (k : Context) (v : Variables) (e : ExprTree) (a : StmtTree)
    (old new : List Instruction) (u : Variables) : Type 0 where
  pub code : new ≡ old ++ stmt_code k v (stmt.While 0 e a) 0 0 (length old)
  pub long : length new ≡ stmt_end (stmt.While 0 e a) (length old)
  pub variables : u ≡ v

-- a loop that begins with its body
pub record DoAdded (k : Context) (v : Variables) (a : StmtTree) (e : ExprTree)
    (old new : List Instruction) (u : Variables) : Type 0 where
  pub code : new ≡ old ++ stmt_code k v (stmt.Do 0 a e) 0 0 (length old)
  pub long : length new ≡ stmt_end (stmt.Do 0 a e) (length old)
  pub variables : u ≡ v

pub record ReturnAdded (k : Context) (v : Variables) (value : Option ExprTree)
    (old new : List Instruction) : Type 0 where
  pub code : new ≡ old ++ stmt_code k v (stmt.Return 0 value) 0 0 (length old)
  pub long : length new ≡ stmt_end (stmt.Return 0 value) (length old)
