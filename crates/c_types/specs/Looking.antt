-- Which functions store: they have an assignment, `++` or `--` whose target isn't a variable, a
-- `pm_new` or a `pm_free`, or they call a function that stores, wherever that stands in the body.
-- A transaction that is marked `const` may not.
use Rattle.std.specs.Prelude.{ℕ, zero, suc, List, [], ◌∷◌, ◌++◌, length, map, Bool, true, false}
use Rattle.std.specs.Prelude.{not, ◌||◌, Option, None, unwrap_or, slice_get}
use Rattle.std.specs.Option.{option_map_or}
use Rattle.c_tree.specs.ExprTree.{ExprTree, Arguments}
use Rattle.c_tree.specs.ExprTree as expr
use Rattle.c_tree.specs.StmtTree.{StmtTree, Statements, SimpleTree, FirstTree, DeclarationTree}
use Rattle.c_tree.specs.StmtTree as stmt
use Rattle.c_tree.specs.ItemTree.{FunctionTree}
use Rattle.c_types.specs.declared.broken.Rule.TheVariants.{BadTx}
use Rattle.c_types.specs.declared.broken.Broken.{Broken}
use Rattle.c_types.specs.Broken.{unless}
use Rattle.c_types.specs.Tables.{Tables, index_of, function_names}
use Rattle.c_types.specs.Transactions.{is_const}

-- of the functions, in their order, which are known to store; a name means the first of its name
abbrev pub is_known : Tables → List Bool → List ℕ → Bool
is_known t known name =
    option_map_or (λ i. unwrap_or (slice_get known i) false) (index_of name (function_names t))
    false

abbrev pub is_variable : ExprTree → Bool
is_variable (expr.Variable n) = true
is_variable (expr.Number n) = false
is_variable expr.Null = false
is_variable (expr.Call n all) = false
is_variable (expr.Root n) = false
is_variable (expr.New place n) = false
is_variable (expr.Arrow base place n) = false
is_variable (expr.Index base place index) = false
is_variable (expr.Unary op place e) = false
is_variable (expr.Binary op place a b) = false
is_variable (expr.Conditional c place a b) = false

-- whether an expression stores, where `known` are the functions that do
abbrev mutual
  pub exp_stores : Tables → (known : List Bool) → ExprTree → Bool
  exp_stores t known (expr.Number n) = false
  exp_stores t known expr.Null = false
  exp_stores t known (expr.Variable n) = false
  exp_stores t known (expr.Call n all) = is_known t known n.text || arguments_store t known all
  exp_stores t known (expr.Root n) = false
  exp_stores t known (expr.New place n) = true
  exp_stores t known (expr.Arrow base place n) = exp_stores t known base
  exp_stores t known (expr.Index base place index) =
      exp_stores t known base || exp_stores t known index
  exp_stores t known (expr.Unary op place e) = exp_stores t known e
  exp_stores t known (expr.Binary op place a b) = exp_stores t known a || exp_stores t known b
  exp_stores t known (expr.Conditional c place a b) =
      exp_stores t known c || (exp_stores t known a || exp_stores t known b)

  pub arguments_store : Tables → (known : List Bool) → Arguments → Bool
  arguments_store t known expr.None = false
  arguments_store t known (expr.More first e rest) =
      exp_stores t known e || arguments_store t known rest

-- a part that may be absent
abbrev pub value_stores : Tables → (known : List Bool) → Option ExprTree → Bool
value_stores t known e = option_map_or (exp_stores t known) e false

abbrev pub simple_stores : Tables → (known : List Bool) → SimpleTree → Bool
simple_stores t known (stmt.Assign target op place value) =
    not (is_variable target) || exp_stores t known value
simple_stores t known (stmt.Step target op place) = not (is_variable target)
simple_stores t known (stmt.Call n all) = is_known t known n.text || arguments_store t known all
simple_stores t known (stmt.Free place pointer) = true
simple_stores t known (stmt.Abort place) = false

abbrev pub declaration_stores : Tables → (known : List Bool) → DeclarationTree → Bool
declaration_stores t known d = option_map_or (λ i. exp_stores t known i.value) d.initial false

abbrev pub first_stores : Tables → (known : List Bool) → FirstTree → Bool
first_stores t known (stmt.Declare d) = declaration_stores t known d
first_stores t known (stmt.Simply x) = simple_stores t known x

-- the parts of a `for` beside its body
abbrev pub head_stores : Tables → (known : List Bool) → Option FirstTree → Option ExprTree
    → Option SimpleTree → Bool
head_stores t known first c third =
    option_map_or (first_stores t known) first false
    || (value_stores t known c || option_map_or (simple_stores t known) third false)

abbrev mutual
  pub statement_stores : Tables → (known : List Bool) → StmtTree → Bool
  statement_stores t known stmt.Empty = false
  statement_stores t known (stmt.Declares d) = declaration_stores t known d
  statement_stores t known (stmt.Simple x) = simple_stores t known x
  statement_stores t known (stmt.Block all) = statements_store t known all
  statement_stores t known (stmt.If c a) = exp_stores t known c || statement_stores t known a
  statement_stores t known (stmt.IfElse c a b) =
      exp_stores t known c || (statement_stores t known a || statement_stores t known b)
  statement_stores t known (stmt.While place c a) =
      exp_stores t known c || statement_stores t known a
  statement_stores t known (stmt.Do place a c) =
      exp_stores t known c || statement_stores t known a
  statement_stores t known (stmt.For place first c third a) =
      head_stores t known first c third || statement_stores t known a
  statement_stores t known stmt.Break = false
  statement_stores t known stmt.Continue = false
  statement_stores t known (stmt.Return place value) = value_stores t known value

  pub statements_store : Tables → (known : List Bool) → Statements → Bool
  statements_store t known stmt.Nothing = false
  statements_store t known (stmt.Then x xs) =
      statement_stores t known x || statements_store t known xs

-- which functions store, by what is known of those that they call
abbrev pub next_known : Tables → List Bool → List Bool
next_known t known = map (λ f. statements_store t known f.body) t.functions

-- the same, n times
abbrev pub known_after : Tables → (n : ℕ) → List Bool → List Bool
known_after t zero known = known
known_after t (suc n) known = known_after t n (next_known t known)

-- Which functions store. A call that reaches one that stores passes each function at most once, so
-- as many rounds as there are functions find all.
abbrev pub storing : Tables → List Bool
storing t = known_after t (length t.functions) (map (λ (f : FunctionTree). false) t.functions)

-- a function that is marked `const` doesn't store
abbrev pub look_broken : Tables → List Bool → FunctionTree → List Broken
look_broken t known f = unless (not (is_const f.mark) || not (statements_store t known f.body))
    f.name.place BadTx

abbrev pub looks_broken : Tables → List Bool → List FunctionTree → List Broken
looks_broken t known [] = []
looks_broken t known (f ∷ fs) = look_broken t known f ++ looks_broken t known fs
