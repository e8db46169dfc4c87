-- What only bodies and proofs need beside `Lowers`.
use Rattle.std.specs.Prelude.{ℕ, suc, pos, List, [], ◌∷◌, ◌++◌, Option}
use Rattle.c_tree.specs.ExprTree.{ExprTree}
use Rattle.c_tree.specs.StmtTree as stmt
use Rattle.c_tree.specs.StmtTree.{StmtTree, Statements, SimpleTree}
use Rattle.ir.specs.declared.instruction.Instruction.{Instruction}
use Rattle.ir.specs.declared.instruction.Instruction.TheVariants.{Copy, Jump, Branch, Tick}
use Rattle.lower.specs.Names.{Variables, inner_variables}
use Rattle.lower.specs.Lowers.{Context, exp_end, reg_of, exp_code, or_end, or_reg, or_code}
use Rattle.lower.specs.Lowers.{third_end, third_code}
use Rattle.lower.specs.Lowers.{variables_after, stmt_end, stmt_code}

-- a `for` after its first part: a tick, the condition, the body, the third part and the jump back;
-- the codes of condition, body and third part are given
abbrev pub loop_code : (on p : ℕ) → (condition body third : List Instruction) → (out : ℕ)
    → List Instruction
loop_code on p condition body third out =
    Tick ∷ (condition ++ (Branch on out ∷ (body ++ (third ++ Jump p ∷ []))))

-- the left side of `?` after a branch over it, from p on; the condition is in the register `on`
abbrev pub left_code : Context → Variables → (on : ℕ) → ExprTree → ℕ → List Instruction
left_code s v on a p = Branch on (suc (suc (exp_end a (suc p)))) ∷ exp_code s v a (suc p)

-- the right side, from p on, and a copy after each side; the left one is in the register `left`
abbrev pub other_end : ExprTree → ℕ → ℕ
other_end b p = suc (exp_end b (suc (suc p)))

abbrev pub other_code : Context → Variables → (left : ℕ) → ExprTree → ℕ → List Instruction
other_code s v left b p =
    let q : ℕ = exp_end b (suc (suc p)) in
    Copy (s.node (suc q)) left ∷ Jump (suc q)
    ∷ (exp_code s v b (suc (suc p)) ++ Copy (s.node (suc q)) (reg_of s v b q) ∷ [])

abbrev pub variables_after_all : Context → Statements → ℕ → Variables → Variables
variables_after_all s stmt.Nothing p v = v
variables_after_all s (stmt.Then x xs) p v =
    variables_after_all s xs (stmt_end x p) (variables_after s x p v)

-- the parts of a `for` after the first one, from p on
abbrev pub for_end : Option ExprTree → Option SimpleTree → StmtTree → ℕ → ℕ
for_end c third a p = suc (third_end third (stmt_end a (suc (or_end c (suc p)))))

abbrev pub for_code : Context → Variables → Option ExprTree → Option SimpleTree → StmtTree → ℕ
    → List Instruction
for_code s v c third a p =
    let p1 : ℕ = or_end c (suc p) in
    let p2 : ℕ = stmt_end a (suc p1) in
    let p3 : ℕ = third_end third p2 in
    loop_code (or_reg s v c p1) p (or_code s v (pos 1) c (suc p))
    (stmt_code s (inner_variables v) a (suc p3) p2 (suc p1)) (third_code s v third p2) (suc p3)
