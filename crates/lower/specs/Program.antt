-- The code of functions and programs: copies of the parameters that a function assigns, its body,
-- and the return of 0.
use Rattle.std.specs.Prelude.{◌+◌, ℕ, suc, pos, List, [], ◌∷◌, ◌++◌, map, length}
use Rattle.std.specs.Prelude.{if◌then◌else◌}
use Rattle.c_tree.specs.StmtTree.{Statements}
use Rattle.c_tree.specs.ItemTree.{FunctionTree, ParameterTree}
use Rattle.c_tree.specs.Program.{Program, tree_of}
use Rattle.c_types.specs.Tables.{Tables, declared_type, tables_of}
use Rattle.c_types.specs.Shapes.{shapes_of}
use Rattle.ir.specs.declared.instruction.Instruction.{Instruction}
use Rattle.ir.specs.declared.instruction.Instruction.TheVariants.{Const, Copy, Return}
use Rattle.ir.specs.declared.function.IrFunction.{IrFunction}
use Rattle.ir.specs.declared.function.Ir.{Ir}
use Rattle.lower.specs.Names.{Variables, inner_variables, variable_declared}
use Rattle.lower.specs.Assigned.{is_assigned}
use Rattle.lower.specs.Lowers.{Context, statements_end, statements_code}

-- a parameter that the function assigns gets a second register, which every use means
abbrev pub parameters_end : Statements → List ParameterTree → ℕ → ℕ
parameters_end body [] p = p
parameters_end body (x ∷ xs) p =
    parameters_end body xs (if is_assigned x.name.text body then suc p else p)

abbrev pub parameters_code : Context → Statements → (n : ℕ) → List ParameterTree → ℕ
    → List Instruction
parameters_code k body n [] p = []
parameters_code k body n (x ∷ xs) p =
    if is_assigned x.name.text body then Copy (k.node (suc p)) n ∷ parameters_code k body (suc n) xs
    (suc p) else parameters_code k body (suc n) xs p

abbrev pub variables_after_parameters : Context → Statements → (n : ℕ) → List ParameterTree → ℕ
    → Variables → Variables
variables_after_parameters k body n [] p v = v
variables_after_parameters k body n (x ∷ xs) p v =
    if is_assigned x.name.text body
    then variables_after_parameters k body (suc n) xs (suc p)
    (variable_declared x.name.text (declared_type k.tables x.ty) (k.node (suc p)) v)
    else variables_after_parameters k body (suc n) xs p
    (variable_declared x.name.text (declared_type k.tables x.ty) n v)

abbrev pub no_variables : Variables
no_variables = inner_variables (record { scopes = []; locals = [] })

-- the copies of assigned parameters, the body, and the return of 0
abbrev pub function_code : Context → FunctionTree → List Instruction
function_code k f =
    let p : ℕ = parameters_end f.body f.parameters 0 in
    let q : ℕ = statements_end f.body p in
    parameters_code k f.body 0 f.parameters 0
    ++ (statements_code k (variables_after_parameters k f.body 0 f.parameters 0 no_variables)
    f.body q q p
    ++ Const (k.node (suc q)) (pos 0) ∷ Return (k.node (suc q)) ∷ [])

-- the context of a function with n parameters: registers after theirs are named by places
abbrev pub context_at : Tables → Program → ℕ → Context
context_at t tree n = record { tables = t; tree = tree; node = λ q. n + q }

-- a function with n argument registers, and a register for each place of its code
abbrev pub function_at : Tables → Program → ℕ → FunctionTree → IrFunction
function_at t tree n f =
    let code : List Instruction = function_code (context_at t tree n) f in
    record {
      name = f.name.text;
      parameters = n;
      registers = n + length code;
      tx = f.tx;
      code = code;
    }

abbrev pub lowered_function : Tables → Program → FunctionTree → IrFunction
lowered_function t tree f = function_at t tree (length f.parameters) f

-- the code of a program: its functions in the order of the text, and its shapes
abbrev pub lowered : Program → Ir
lowered tree = record {
  functions = map (lowered_function (tables_of (tree_of tree)) tree)
      (tables_of (tree_of tree)).functions;
  shapes = shapes_of tree;
}
