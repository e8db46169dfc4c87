-- The tokens of each instruction of a tree's code, in the order of `exp_code` and `stmt_code` of
-- lower, instruction by instruction: the token at which a trap of that instruction is told.
use Rattle.std.specs.Prelude.{ℕ, List, [], ◌∷◌, ◌++◌, Option, None, Some, if◌then◌else◌}
use Rattle.pool_map.specs.declared.trap.TrapKind.{TrapKind}
use Rattle.pool_map.specs.declared.trap.TrapKind.TheVariants as trap
use Rattle.c_tree.specs.declared.expr.UnaryOp.TheVariants as unary
use Rattle.c_tree.specs.declared.stmt.AssignOp.TheVariants as assign
use Rattle.c_tree.specs.ExprTree as expr
use Rattle.c_tree.specs.ExprTree.{ExprTree, Arguments, Ident}
use Rattle.c_tree.specs.StmtTree as stmt
use Rattle.c_tree.specs.StmtTree.{StmtTree, Statements, SimpleTree, FirstTree, InitialTree}
use Rattle.c_tree.specs.ItemTree.{FunctionTree, ParameterTree}
use Rattle.lower.specs.declared.form.Form.{Form}
use Rattle.lower.specs.declared.form.Form.TheVariants.{Both, Either, Direct, Exchanged}
use Rattle.lower.specs.Forms.{form_of}
use Rattle.lower.specs.Names.{variable_of}
use Rattle.lower.specs.Assigned.{is_assigned}
use Rattle.trap_line.specs.declared.spot.Spot.{Spot}

-- all traps are told at this token
abbrev pub spot : ℕ → Spot
spot place = record { place = place; index = place; log = place }

-- an instruction that never traps
abbrev pub never : Spot
never = spot 0

abbrev pub token_of : Spot → TrapKind → ℕ
token_of s trap.Index = s.index
token_of s trap.LogFull = s.log
token_of s trap.Null = s.place
token_of s trap.Stale = s.place
token_of s trap.Divide = s.place
token_of s trap.Steps = s.place
token_of s trap.Abort = s.place
token_of s trap.Depth = s.place

-- the `->` of a field or, of the root, its name
abbrev pub field_token : ExprTree → ℕ
field_token (expr.Arrow base place name) = place
field_token (expr.Root name) = name.place
field_token e = 0

-- an access to a target; log: the token at which a full log is told
abbrev pub access : ExprTree → (log : ℕ) → Spot
access (expr.Arrow base place name) log = record { place = place; index = place; log = log }
access (expr.Root name) log = record { place = name.place; index = name.place; log = log }
access (expr.Index base place index) log =
    record { place = field_token base; index = place; log = log }
access e log = record { place = 0; index = 0; log = log }

-- 1 if a register isn't 0, else 0
abbrev pub truth_spots : List Spot
truth_spots = never ∷ never ∷ never ∷ never ∷ []

-- an operator and its right side
abbrev pub form_spots : Form → (place : ℕ) → (right : List Spot) → List Spot
form_spots Both place right = never ∷ (right ++ truth_spots)
form_spots Either place right = never ∷ never ∷ (right ++ truth_spots)
form_spots (Direct o) place right = right ++ spot place ∷ []
form_spots (Exchanged o) place right = right ++ spot place ∷ []

-- the right side of `?` with a copy after each side, and a jump over it after the first copy
abbrev pub other_spots : (right : List Spot) → List Spot
other_spots right = never ∷ never ∷ (right ++ never ∷ [])

abbrev mutual
  pub exp_spots : ExprTree → List Spot
  exp_spots (expr.Number n) = never ∷ []
  exp_spots expr.Null = never ∷ []
  exp_spots (expr.Variable name) = []
  exp_spots (expr.Call name all) =
      arguments_spots all ++ spot name.place ∷ spot name.place ∷ []
  exp_spots (expr.Root name) = access (expr.Root name) 0 ∷ []
  exp_spots (expr.New place name) = spot place ∷ []
  exp_spots (expr.Arrow base place name) =
      exp_spots base ++ access (expr.Arrow base place name) 0 ∷ []
  exp_spots (expr.Index base place index) =
      (target_spots base ++ exp_spots index) ++ access (expr.Index base place index) 0 ∷ []
  exp_spots (expr.Unary unary.Negate place a) = never ∷ (exp_spots a ++ never ∷ [])
  exp_spots (expr.Unary unary.Complement place a) = never ∷ (exp_spots a ++ never ∷ [])
  exp_spots (expr.Unary unary.Not place a) = exp_spots a ++ never ∷ never ∷ []
  exp_spots (expr.Unary (unary.Cast n) place a) = exp_spots a
  exp_spots (expr.Binary o place a b) =
      exp_spots a ++ form_spots (form_of o) place (exp_spots b)
  exp_spots (expr.Conditional c place a b) =
      exp_spots c ++ never ∷ (exp_spots a ++ other_spots (exp_spots b))

  -- the base and the index of a field or an element
  pub target_spots : ExprTree → List Spot
  target_spots (expr.Arrow base place name) = exp_spots base
  target_spots (expr.Index base place index) = target_spots base ++ exp_spots index
  target_spots (expr.Root name) = []
  target_spots (expr.Number n) = []
  target_spots expr.Null = []
  target_spots (expr.Variable name) = []
  target_spots (expr.Call name all) = []
  target_spots (expr.New place name) = []
  target_spots (expr.Unary o place a) = []
  target_spots (expr.Binary o place a b) = []
  target_spots (expr.Conditional c place a b) = []

  pub arguments_spots : Arguments → List Spot
  arguments_spots expr.None = []
  arguments_spots (expr.More first value rest) = exp_spots value ++ arguments_spots rest

-- an optional value; if absent, it is a constant
abbrev pub or_spots : Option ExprTree → List Spot
or_spots None = never ∷ []
or_spots (Some e) = exp_spots e

abbrev pub set_spots : Option Ident → (target : ExprTree) → (place : ℕ) → (value : ExprTree)
    → List Spot
set_spots (Some name) target place value = exp_spots value ++ never ∷ []
set_spots None target place value =
    target_spots target ++ (exp_spots value ++ access target place ∷ [])

-- an update's operation is told at its operator
abbrev pub update_spots : Option Ident → (target : ExprTree) → (place : ℕ) → Option ExprTree
    → List Spot
update_spots (Some name) target place value = or_spots value ++ spot place ∷ never ∷ []
update_spots None target place value = target_spots target
    ++ (access target 0 ∷ (or_spots value ++ spot place ∷ access target place ∷ []))

abbrev pub simple_spots : SimpleTree → List Spot
simple_spots (stmt.Assign target assign.Set place value) =
    set_spots (variable_of target) target place value
simple_spots (stmt.Assign target (assign.Update o) place value) =
    update_spots (variable_of target) target place (Some value)
simple_spots (stmt.Step target o place) = update_spots (variable_of target) target place None
simple_spots (stmt.Call name all) = exp_spots (expr.Call name all)
simple_spots (stmt.Free place pointer) = exp_spots pointer ++ spot place ∷ []
simple_spots (stmt.Abort place) = spot place ∷ []

abbrev pub initial_spots : Option InitialTree → List Spot
initial_spots None = never ∷ []
initial_spots (Some i) = exp_spots i.value ++ never ∷ []

abbrev pub first_spots : Option FirstTree → List Spot
first_spots None = []
first_spots (Some (stmt.Declare d)) = initial_spots d.initial
first_spots (Some (stmt.Simply x)) = simple_spots x

abbrev pub third_spots : Option SimpleTree → List Spot
third_spots None = []
third_spots (Some x) = simple_spots x

abbrev mutual
  pub stmt_spots : StmtTree → List Spot
  stmt_spots stmt.Empty = []
  stmt_spots (stmt.Declares d) = initial_spots d.initial
  stmt_spots (stmt.Simple x) = simple_spots x
  stmt_spots (stmt.Block all) = statements_spots all
  stmt_spots (stmt.If c a) = exp_spots c ++ never ∷ stmt_spots a
  stmt_spots (stmt.IfElse c a b) =
      exp_spots c ++ never ∷ (stmt_spots a ++ never ∷ stmt_spots b)
  stmt_spots (stmt.While place c a) =
      spot place ∷ (exp_spots c ++ never ∷ (stmt_spots a ++ never ∷ []))
  stmt_spots (stmt.Do place a c) =
      stmt_spots a ++ spot place ∷ (exp_spots c ++ never ∷ never ∷ [])
  stmt_spots (stmt.For place first c third a) =
      first_spots first ++ spot place ∷ (or_spots c ++ never ∷ (stmt_spots a
      ++ (third_spots third ++ never ∷ [])))
  stmt_spots stmt.Break = never ∷ []
  stmt_spots stmt.Continue = never ∷ []
  stmt_spots (stmt.Return place value) = or_spots value ++ never ∷ []

  pub statements_spots : Statements → List Spot
  statements_spots stmt.Nothing = []
  statements_spots (stmt.Then x xs) = stmt_spots x ++ statements_spots xs

-- a copy of each parameter that the function assigns
abbrev pub parameters_spots : Statements → List ParameterTree → List Spot
parameters_spots body [] = []
parameters_spots body (x ∷ xs) =
    if is_assigned x.name.text body then never ∷ parameters_spots body xs
    else parameters_spots body xs

-- the copies of assigned parameters, the body, and the return of 0
abbrev pub function_spots : FunctionTree → List Spot
function_spots f = parameters_spots f.body f.parameters
    ++ (statements_spots f.body ++ never ∷ never ∷ [])
