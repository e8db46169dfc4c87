-- Which parts stand in a program, and in which scopes: a case for each place where one can stand.
use Rattle.std.specs.Prelude.{ℕ, ◌≡◌, ◌+◌, List, [], ◌∷◌, true, false, Option, Some}
use Rattle.std.specs.Prelude.{slice_get}
use Rattle.std.specs.Option.{option_map_or}
use Rattle.c_tree.specs.ExprTree.{ExprTree, Arguments, Ident}
use Rattle.c_tree.specs.ExprTree as expr
use Rattle.c_tree.specs.StmtTree.{StmtTree, Statements, SimpleTree, FirstTree, TypeTree}
use Rattle.c_tree.specs.StmtTree.{InitialTree, DeclarationTree}
use Rattle.c_tree.specs.StmtTree as stmt
use Rattle.c_tree.specs.ItemTree.{FieldTree, FunctionTree, ParameterTree}
use Rattle.c_tree.specs.declared.expr.BinaryOp.{BinaryOp}
use Rattle.c_tree.specs.declared.expr.UnaryOp.{UnaryOp}
use Rattle.c_tree.specs.declared.stmt.AssignOp.{AssignOp}
use Rattle.c_tree.specs.declared.stmt.StepOp.{StepOp}
use Rattle.c_types.specs.Tables.{Tables, StructTree, RootTree}
use Rattle.c_types.specs.Expressions.{Scope}
use Rattle.c_types.specs.Statements.{inner_scopes, scopes_after, scopes_after_first}
use Rattle.c_types.specs.Declarations.{scopes_after_parameter, scopes_after_parameters}
use Rattle.rules_law.specs.rules.Part.{Part}
use Rattle.rules_law.specs.rules.Part as part

-- a type as it is written
pub data InType : TypeTree → Part → Type 0 where
  written : {name : Ident} → InType (stmt.Pointer name) (part.PointerTo name)

mutual
  pub data InExpression (s : List Scope) : ExprTree → Part → Type 0 where
    itself : {e : ExprTree} → InExpression s e (part.Expression s e)
    made : {place : ℕ} {name : Ident} → InExpression s (expr.New place name) (part.PointerTo name)
    before_arrow : {base : ExprTree} {place : ℕ} {name : Ident} {p : Part}
        → InValue s base p → InExpression s (expr.Arrow base place name) p
    -- what stands before `[` isn't used as a value
    before_index : {base index : ExprTree} {place : ℕ} {p : Part}
        → InExpression s base p → InExpression s (expr.Index base place index) p
    index : {base index : ExprTree} {place : ℕ} {p : Part}
        → InValue s index p → InExpression s (expr.Index base place index) p
    operand : {op : UnaryOp} {a : ExprTree} {place : ℕ} {p : Part}
        → InValue s a p → InExpression s (expr.Unary op place a) p
    left : {op : BinaryOp} {a b : ExprTree} {place : ℕ} {p : Part}
        → InValue s a p → InExpression s (expr.Binary op place a b) p
    right : {op : BinaryOp} {a b : ExprTree} {place : ℕ} {p : Part}
        → InValue s b p → InExpression s (expr.Binary op place a b) p
    condition : {c a b : ExprTree} {place : ℕ} {p : Part}
        → InValue s c p → InExpression s (expr.Conditional c place a b) p
    left_side : {c a b : ExprTree} {place : ℕ} {p : Part}
        → InValue s a p → InExpression s (expr.Conditional c place a b) p
    right_side : {c a b : ExprTree} {place : ℕ} {p : Part}
        → InValue s b p → InExpression s (expr.Conditional c place a b) p
    called : {name : Ident} {all : Arguments}
        → InExpression s (expr.Call name all) (part.Called true name all)
    arguments : {name : Ident} {all : Arguments} {p : Part}
        → InArguments s name 0 all p → InExpression s (expr.Call name all) p

  -- an expression that is used as a value
  pub data InValue (s : List Scope) : ExprTree → Part → Type 0 where
    value : {e : ExprTree} → InValue s e (part.Value s e)
    of_value : {e : ExprTree} {p : Part} → InExpression s e p → InValue s e p

  -- the arguments from place i on
  pub data InArguments (s : List Scope) : Ident → ℕ → Arguments → Part → Type 0 where
    argument : {callee : Ident} {i first : ℕ} {e : ExprTree} {rest : Arguments}
        → InArguments s callee i (expr.More first e rest) (part.Argument s callee i first e)
    of_argument : {callee : Ident} {i first : ℕ} {e : ExprTree} {rest : Arguments} {p : Part}
        → InValue s e p → InArguments s callee i (expr.More first e rest) p
    later_argument : {callee : Ident} {i first : ℕ} {e : ExprTree} {rest : Arguments} {p : Part}
        → InArguments s callee (i + 1) rest p → InArguments s callee i (expr.More first e rest) p

pub data InSimple (s : List Scope) : SimpleTree → Part → Type 0 where
  simple : {x : SimpleTree} → InSimple s x (part.Simple s x)
  target : {a e : ExprTree} {op : AssignOp} {place : ℕ} {p : Part}
      → InValue s a p → InSimple s (stmt.Assign a op place e) p
  assigned : {a e : ExprTree} {op : AssignOp} {place : ℕ} {p : Part}
      → InValue s e p → InSimple s (stmt.Assign a op place e) p
  stepped : {a : ExprTree} {op : StepOp} {place : ℕ} {p : Part}
      → InValue s a p → InSimple s (stmt.Step a op place) p
  freed : {e : ExprTree} {place : ℕ} {p : Part} → InValue s e p → InSimple s (stmt.Free place e) p
  call : {name : Ident} {all : Arguments}
      → InSimple s (stmt.Call name all) (part.Called false name all)
  call_arguments : {name : Ident} {all : Arguments} {p : Part}
      → InArguments s name 0 all p → InSimple s (stmt.Call name all) p

pub data InDeclaration (s : List Scope) : DeclarationTree → Part → Type 0 where
  local : {d : DeclarationTree} → InDeclaration s d (part.Local s d)
  local_type : {d : DeclarationTree} {p : Part} → InType d.ty p → InDeclaration s d p
  initial : {d : DeclarationTree} {p : Part} (i : InitialTree)
      → d.initial ≡ Some i → InValue s i.value p → InDeclaration s d p

pub data InFirst (s : List Scope) : FirstTree → Part → Type 0 where
  first_declaration : {d : DeclarationTree} {p : Part}
      → InDeclaration s d p → InFirst s (stmt.Declare d) p
  first_simple : {x : SimpleTree} {p : Part} → InSimple s x p → InFirst s (stmt.Simply x) p

-- the scopes of a `for`'s condition, third part and body: that of its first part, and those around
abbrev pub for_scopes : Tables → Option FirstTree → List Scope → List Scope
for_scopes t first s =
    option_map_or (λ f. scopes_after_first t f (inner_scopes s)) first (inner_scopes s)

mutual
  -- a statement, in these scopes, of a function with that result
  pub data InStatement (t : Tables) (result : Option TypeTree)
      : List Scope → StmtTree → Part → Type 0 where
    declaration : {s : List Scope} {d : DeclarationTree} {p : Part}
        → InDeclaration s d p → InStatement t result s (stmt.Declares d) p
    simply : {s : List Scope} {x : SimpleTree} {p : Part}
        → InSimple s x p → InStatement t result s (stmt.Simple x) p
    block : {s : List Scope} {all : Statements} {p : Part}
        → InStatements t result (inner_scopes s) all p → InStatement t result s (stmt.Block all) p
    if_condition : {s : List Scope} {c : ExprTree} {a : StmtTree} {p : Part}
        → InValue s c p → InStatement t result s (stmt.If c a) p
    if_body : {s : List Scope} {c : ExprTree} {a : StmtTree} {p : Part}
        → InStatement t result (inner_scopes s) a p → InStatement t result s (stmt.If c a) p
    choice : {s : List Scope} {c : ExprTree} {a b : StmtTree} {p : Part}
        → InValue s c p → InStatement t result s (stmt.IfElse c a b) p
    then_body : {s : List Scope} {c : ExprTree} {a b : StmtTree} {p : Part}
        → InStatement t result (inner_scopes s) a p → InStatement t result s (stmt.IfElse c a b) p
    else_body : {s : List Scope} {c : ExprTree} {a b : StmtTree} {p : Part}
        → InStatement t result (inner_scopes s) b p → InStatement t result s (stmt.IfElse c a b) p
    while_condition : {s : List Scope} {place : ℕ} {c : ExprTree} {a : StmtTree} {p : Part}
        → InValue s c p → InStatement t result s (stmt.While place c a) p
    while_body : {s : List Scope} {place : ℕ} {c : ExprTree} {a : StmtTree} {p : Part}
        → InStatement t result (inner_scopes s) a p
        → InStatement t result s (stmt.While place c a) p
    do_body : {s : List Scope} {place : ℕ} {a : StmtTree} {c : ExprTree} {p : Part}
        → InStatement t result (inner_scopes s) a p → InStatement t result s (stmt.Do place a c) p
    do_condition : {s : List Scope} {place : ℕ} {a : StmtTree} {c : ExprTree} {p : Part}
        → InValue s c p → InStatement t result s (stmt.Do place a c) p
    for_first : {s : List Scope} {place : ℕ} {f : FirstTree} {c : Option ExprTree}
        {third : Option SimpleTree} {a : StmtTree} {p : Part}
        → InFirst (inner_scopes s) f p
        → InStatement t result s (stmt.For place (Some f) c third a) p
    for_condition : {s : List Scope} {place : ℕ} {first : Option FirstTree} {c : ExprTree}
        {third : Option SimpleTree} {a : StmtTree} {p : Part}
        → InValue (for_scopes t first s) c p
        → InStatement t result s (stmt.For place first (Some c) third a) p
    for_third : {s : List Scope} {place : ℕ} {first : Option FirstTree} {c : Option ExprTree}
        {x : SimpleTree} {a : StmtTree} {p : Part}
        → InSimple (for_scopes t first s) x p
        → InStatement t result s (stmt.For place first c (Some x) a) p
    for_body : {s : List Scope} {place : ℕ} {first : Option FirstTree} {c : Option ExprTree}
        {third : Option SimpleTree} {a : StmtTree} {p : Part}
        → InStatement t result (for_scopes t first s) a p
        → InStatement t result s (stmt.For place first c third a) p
    returned : {s : List Scope} {place : ℕ} {given : Option ExprTree}
        → InStatement t result s (stmt.Return place given) (part.Returned result s place given)
    returned_value : {s : List Scope} {place : ℕ} {e : ExprTree} {p : Part}
        → InValue s e p → InStatement t result s (stmt.Return place (Some e)) p

  pub data InStatements (t : Tables) (result : Option TypeTree)
      : List Scope → Statements → Part → Type 0 where
    here : {s : List Scope} {x : StmtTree} {xs : Statements} {p : Part}
        → InStatement t result s x p → InStatements t result s (stmt.Then x xs) p
    later : {s : List Scope} {x : StmtTree} {xs : Statements} {p : Part}
        → InStatements t result (scopes_after t x s) xs p
        → InStatements t result s (stmt.Then x xs) p

-- the parameters from place i on
pub data InParameters (t : Tables)
    : List Scope → ℕ → List ParameterTree → Part → Type 0 where
  parameter : {s : List Scope} {i : ℕ} {q : ParameterTree} {qs : List ParameterTree}
      → InParameters t s i (q ∷ qs) (part.Parameter s i q)
  parameter_type : {s : List Scope} {i : ℕ} {q : ParameterTree} {qs : List ParameterTree} {p : Part}
      → InType q.ty p → InParameters t s i (q ∷ qs) p
  later_parameter : {s : List Scope} {i : ℕ} {q : ParameterTree} {qs : List ParameterTree}
      {p : Part} → InParameters t (scopes_after_parameter t s q) (i + 1) qs p
      → InParameters t s i (q ∷ qs) p

-- a program whose tokens end at that place
pub data StandsIn (end : ℕ) (t : Tables) : Part → Type 0 where
  whole : StandsIn end t (part.Whole end)
  struct : (i : ℕ) {s : StructTree} → slice_get t.structs i ≡ Some s
      → StandsIn end t (part.Struct i s)
  field : (i j : ℕ) {s : StructTree} {f : FieldTree} → slice_get t.structs i ≡ Some s
      → slice_get s.fields j ≡ Some f → StandsIn end t (part.Field s j f)
  field_type : (i j : ℕ) {s : StructTree} {f : FieldTree} {p : Part}
      → slice_get t.structs i ≡ Some s
      → slice_get s.fields j ≡ Some f → InType f.ty p → StandsIn end t p
  root : (i : ℕ) {r : RootTree} → slice_get t.roots i ≡ Some r → StandsIn end t (part.Root i r)
  function : (i : ℕ) {f : FunctionTree} → slice_get t.functions i ≡ Some f
      → StandsIn end t (part.Function i f)
  result_type : (i : ℕ) {f : FunctionTree} {ty : TypeTree} {p : Part}
      → slice_get t.functions i ≡ Some f
      → f.result_type ≡ Some ty → InType ty p → StandsIn end t p
  -- the parameters and the outermost block of a function are one scope
  parameters : (i : ℕ) {f : FunctionTree} {p : Part} → slice_get t.functions i ≡ Some f
      → InParameters t (inner_scopes []) 0 f.parameters p → StandsIn end t p
  body : (i : ℕ) {f : FunctionTree} {p : Part} → slice_get t.functions i ≡ Some f
      → InStatements t f.result_type (scopes_after_parameters t (inner_scopes []) f.parameters)
      f.body p → StandsIn end t p
