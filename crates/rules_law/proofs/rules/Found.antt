-- What is among the broken rules of expressions and statements is broken by a part that stands
-- there.
use Rattle.std.proofs.Common.{refl, ◌≡◌, ℕ, ◌+◌, ◌⊎◌, inl, inr, true, false, List, [], ◌∷◌, ◌++◌}
use Rattle.std.specs.Prelude.{◌&&◌, not, Option, None, Some}
use Rattle.std.specs.Option.{option_map_or}
use Rattle.c_tree.specs.ExprTree.{ExprTree, Arguments, Ident}
use Rattle.c_tree.specs.ExprTree as expr
use Rattle.c_tree.specs.StmtTree.{StmtTree, Statements, SimpleTree, FirstTree, TypeTree}
use Rattle.c_tree.specs.StmtTree.{InitialTree, DeclarationTree}
use Rattle.c_tree.specs.StmtTree as stmt
use Rattle.c_tree.specs.ItemTree.{ParameterTree}
use Rattle.c_types.specs.declared.broken.Broken.{Broken}
use Rattle.c_types.specs.declared.broken.Rule.TheVariants.{Twice, Mismatch}
use Rattle.c_types.specs.Broken.{unless}
use Rattle.c_types.specs.LeastLaw.{IsAmong}
use Rattle.c_types.specs.Fits.{is_int, type_takes, comparable, joins_types, applies}
use Rattle.c_types.specs.Tables.{Tables, function_named, declared_type}
use Rattle.c_types.specs.Expressions.{Scope, arrow_broken, is_indexed, unindexed, kind_of, type_of}
use Rattle.c_types.specs.Expressions.{call_broken, parameters_of, parameter_type, argument_count}
use Rattle.c_types.specs.Expressions.{broken_in, broken_in_all, value_broken}
use Rattle.c_types.specs.Statements.{inner_scopes, is_declared, scopes_after, type_broken}
use Rattle.c_types.specs.Statements.{simple_broken, initial_broken, declaration_broken}
use Rattle.c_types.specs.Statements.{first_broken, return_broken, statement_broken}
use Rattle.c_types.specs.Statements.{statements_broken}
use Rattle.c_types.specs.Declarations.{parameters_broken, scopes_after_parameter, type_given}
use Rattle.rules_law.specs.rules.Part.{Part}
use Rattle.rules_law.specs.rules.Part as part
use Rattle.rules_law.specs.rules.Stands.{InType, InExpression, InValue, InArguments, InSimple}
use Rattle.rules_law.specs.rules.Stands.{InDeclaration, InFirst, for_scopes, InStatement}
use Rattle.rules_law.specs.rules.Stands.{InStatements, InParameters}
use Rattle.rules_law.specs.rules.Stands as at
use Rattle.rules_law.proofs.rules.Among.{either, among_left, among_right}
use Rattle.rules_law.proofs.rules.Own.{own, own_simple, own_initial, own_return, own_parameter}

-- a part that stands somewhere and breaks the rule
abbrev pub Found : Tables → Broken → (Part → Type 0) → Type 0
Found t b In = (p : Part) × In p × IsAmong b (own t p)

pub further : {In Out : Part → Type 0} (t : Tables) (b : Broken) → Found t b In
    → ((p : Part) → In p → Out p) → Found t b Out
further t b h f = (h.0, f h.0 h.1, h.2)

pub found_type : (t : Tables) (ty : TypeTree) (b : Broken) → IsAmong b (type_broken t ty)
    → Found t b (InType ty)
found_type t (stmt.Int n) b h = absurd h
found_type t (stmt.Pointer name) b h = (part.PointerTo name, at.written, h)

value_from : (t : Tables) (s : List Scope) (e : ExprTree) (b : Broken)
    → (IsAmong b (broken_in t s e) → Found t b (InExpression s e))
    → IsAmong b (value_broken t s e) → Found t b (InValue s e)
value_from t s e b rest h = either (broken_in t s e) (unindexed (kind_of t s e)) b h
    (λ h. further t b (rest h) (λ p d. at.of_value d))
    (λ h. (part.Value s e, at.value, h))

mutual
  pub found_expression : (t : Tables) (s : List Scope) (e : ExprTree) (b : Broken)
      → IsAmong b (broken_in t s e) → Found t b (InExpression s e)
  found_expression t s (expr.Number n) b h = absurd h
  found_expression t s expr.Null b h = absurd h
  found_expression t s (expr.Variable name) b h =
      (part.Expression s (expr.Variable name), at.itself, h)
  found_expression t s (expr.Root name) b h = (part.Expression s (expr.Root name), at.itself, h)
  found_expression t s (expr.New place name) b h = (part.PointerTo name, at.made, h)
  found_expression t s (expr.Arrow base place name) b h =
      either (value_broken t s base) (arrow_broken t (type_of t s base) place name) b h
      (λ h. further t b (value_from t s base b (λ h. found_expression t s base b h) h)
      (λ p d. at.before_arrow d))
      (λ h. (part.Expression s (expr.Arrow base place name), at.itself, h))
  found_expression t s (expr.Index base place index) b h =
      let last = unless (is_indexed (kind_of t s base) && is_int (type_of t s index)) place
      Mismatch in
      either (broken_in t s base) (value_broken t s index ++ last) b h
      (λ h. further t b (found_expression t s base b h) (λ p d. at.before_index d))
      (λ h. either (value_broken t s index) last b h
      (λ h. further t b (value_from t s index b (λ h. found_expression t s index b h) h)
      (λ p d. at.index d))
      (λ h. (part.Expression s (expr.Index base place index), at.itself, h)))
  found_expression t s (expr.Unary op place a) b h =
      either (value_broken t s a) (unless (applies op (type_of t s a)) place Mismatch) b h
      (λ h. further t b (value_from t s a b (λ h. found_expression t s a b h) h)
      (λ p d. at.operand d))
      (λ h. (part.Expression s (expr.Unary op place a), at.itself, h))
  found_expression t s (expr.Binary op place x y) b h =
      let last = unless (joins_types op (type_of t s x) (type_of t s y)) place Mismatch in
      either (value_broken t s x) (value_broken t s y ++ last) b h
      (λ h. further t b (value_from t s x b (λ h. found_expression t s x b h) h)
      (λ p d. at.left d))
      (λ h. either (value_broken t s y) last b h
      (λ h. further t b (value_from t s y b (λ h. found_expression t s y b h) h)
      (λ p d. at.right d))
      (λ h. (part.Expression s (expr.Binary op place x y), at.itself, h)))
  found_expression t s (expr.Conditional c place x y) b h =
      let last = unless (comparable (type_of t s x) (type_of t s y)) place Mismatch in
      either (value_broken t s c) (value_broken t s x ++ (value_broken t s y ++ last)) b h
      (λ h. further t b (value_from t s c b (λ h. found_expression t s c b h) h)
      (λ p d. at.condition d))
      (λ h. either (value_broken t s x) (value_broken t s y ++ last) b h
      (λ h. further t b (value_from t s x b (λ h. found_expression t s x b h) h)
      (λ p d. at.left_side d))
      (λ h. either (value_broken t s y) last b h
      (λ h. further t b (value_from t s y b (λ h. found_expression t s y b h) h)
      (λ p d. at.right_side d))
      (λ h. (part.Expression s (expr.Conditional c place x y), at.itself, h))))
  found_expression t s (expr.Call name all) b h =
      let f = function_named t name.text in
      either (call_broken true f (argument_count all) name.place)
      (broken_in_all t s (parameters_of f) 0 all) b h
      (λ h. (part.Called true name all, at.called, h))
      (λ h. further t b (found_arguments t s name 0 all b h) (λ p d. at.arguments d))

  pub found_arguments : (t : Tables) (s : List Scope) (callee : Ident) (i : ℕ) (all : Arguments)
      (b : Broken)
      → IsAmong b (broken_in_all t s (parameters_of (function_named t callee.text)) i all)
      → Found t b (InArguments s callee i all)
  found_arguments t s callee i expr.None b h = absurd h
  found_arguments t s callee i (expr.More first e rest) b h =
      let ps = parameters_of (function_named t callee.text) in
      let own = unless (type_takes (parameter_type t ps i) (type_of t s e)) first Mismatch in
      either (value_broken t s e) (own ++ broken_in_all t s ps (i + 1) rest) b h
      (λ h. further t b (value_from t s e b (λ h. found_expression t s e b h) h)
      (λ p d. at.of_argument d))
      (λ h. either own (broken_in_all t s ps (i + 1) rest) b h
      (λ h. (part.Argument s callee i first e, at.argument, h))
      (λ h. further t b (found_arguments t s callee (i + 1) rest b h)
      (λ p d. at.later_argument d)))

found_value : (t : Tables) (s : List Scope) (e : ExprTree) (b : Broken)
    → IsAmong b (value_broken t s e) → Found t b (InValue s e)
found_value t s e b h = value_from t s e b (found_expression t s e b) h

found_simple : (t : Tables) (s : List Scope) (x : SimpleTree) (b : Broken)
    → IsAmong b (simple_broken t s x) → Found t b (InSimple s x)
found_simple t s (stmt.Assign target op place e) b h =
    let last = own_simple t s (stmt.Assign target op place e) in
    either (value_broken t s target) (value_broken t s e ++ last) b h
    (λ h. further t b (found_value t s target b h) (λ p d. at.target d))
    (λ h. either (value_broken t s e) last b h
    (λ h. further t b (found_value t s e b h) (λ p d. at.assigned d))
    (λ h. (part.Simple s (stmt.Assign target op place e), at.simple, h)))
found_simple t s (stmt.Step target op place) b h =
    either (value_broken t s target) (own_simple t s (stmt.Step target op place)) b h
    (λ h. further t b (found_value t s target b h) (λ p d. at.stepped d))
    (λ h. (part.Simple s (stmt.Step target op place), at.simple, h))
found_simple t s (stmt.Call name all) b h =
    let f = function_named t name.text in
    either (call_broken false f (argument_count all) name.place)
    (broken_in_all t s (parameters_of f) 0 all) b h
    (λ h. (part.Called false name all, at.call, h))
    (λ h. further t b (found_arguments t s name 0 all b h) (λ p d. at.call_arguments d))
found_simple t s (stmt.Free place e) b h =
    either (value_broken t s e) (own_simple t s (stmt.Free place e)) b h
    (λ h. further t b (found_value t s e b h) (λ p d. at.freed d))
    (λ h. (part.Simple s (stmt.Free place e), at.simple, h))
found_simple t s (stmt.Abort place) b h = absurd h

-- an initial value: it, or the rule of its declaration
initial_found : (t : Tables) (s : List Scope) (d : DeclarationTree) (b : Broken)
    (o : Option InitialTree) → d.initial ≡ o
    → IsAmong b (option_map_or (initial_broken t s (declared_type t d.ty)) o [])
    → Found t b (InDeclaration s d)
    ⊎ IsAmong b (option_map_or (own_initial t s (declared_type t d.ty)) o [])
initial_found t s d b None is h = absurd h
initial_found t s d b (Some i) is h =
    either (value_broken t s i.value) (own_initial t s (declared_type t d.ty) i) b h
    (λ h. inl (further t b (found_value t s i.value b h) (λ p e. at.initial i is e)))
    (λ h. inr h)

found_declaration : (t : Tables) (s : List Scope) (d : DeclarationTree) (b : Broken)
    → IsAmong b (declaration_broken t s d) → Found t b (InDeclaration s d)
found_declaration t s d b h =
    let first = option_map_or (initial_broken t s (declared_type t d.ty)) d.initial [] in
    let own_first = option_map_or (own_initial t s (declared_type t d.ty)) d.initial [] in
    let last = unless (not (is_declared d.name.text s)) d.name.place Twice in
    either (type_broken t d.ty) (first ++ last) b h
    (λ h. further t b (found_type t d.ty b h) (λ p e. at.local_type e))
    (λ h. either first last b h
    (λ h. by (initial_found t s d b d.initial refl h))
    (λ h. (part.Local s d, at.local, among_right own_first last b h)))
  where
    by : Found t b (InDeclaration s d)
        ⊎ IsAmong b (option_map_or (own_initial t s (declared_type t d.ty)) d.initial [])
        → Found t b (InDeclaration s d)
    by (inl found) = found
    by (inr h) = (
      part.Local s d,
      at.local,
      among_left (option_map_or (own_initial t s (declared_type t d.ty)) d.initial [])
          (unless (not (is_declared d.name.text s)) d.name.place Twice) b h,
    )

found_first : (t : Tables) (s : List Scope) (f : FirstTree) (b : Broken)
    → IsAmong b (first_broken t s f) → Found t b (InFirst s f)
found_first t s (stmt.Declare d) b h =
    further t b (found_declaration t s d b h) (λ p e. at.first_declaration e)
found_first t s (stmt.Simply x) b h =
    further t b (found_simple t s x b h) (λ p e. at.first_simple e)

found_return : (t : Tables) (result : Option TypeTree) (s : List Scope) (place : ℕ)
    (o : Option ExprTree) (b : Broken)
    → IsAmong b (return_broken t (type_given t result) s place o)
    → Found t b (InStatement t result s (stmt.Return place o))
found_return t None s place None b h = absurd h
found_return t (Some ty) s place None b h =
    (part.Returned (Some ty) s place None, at.returned, h)
found_return t None s place (Some e) b h =
    either (value_broken t s e) (own_return t None s place (Some e)) b h
    (λ h. further t b (found_value t s e b h) (λ p d. at.returned_value d))
    (λ h. (part.Returned None s place (Some e), at.returned, h))
found_return t (Some ty) s place (Some e) b h =
    either (value_broken t s e) (own_return t (Some ty) s place (Some e)) b h
    (λ h. further t b (found_value t s e b h) (λ p d. at.returned_value d))
    (λ h. (part.Returned (Some ty) s place (Some e), at.returned, h))

-- the parts of a `for`
for_first_found : (t : Tables) (result : Option TypeTree) (s : List Scope)
    (place : ℕ) (first : Option FirstTree) (c : Option ExprTree) (third : Option SimpleTree)
    (a : StmtTree) (b : Broken)
    → IsAmong b (option_map_or (first_broken t (inner_scopes s)) first [])
    → Found t b (InStatement t result s (stmt.For place first c third a))
for_first_found t result s place None c third a b h = absurd h
for_first_found t result s place (Some f) c third a b h =
    further t b (found_first t (inner_scopes s) f b h) (λ p d. at.for_first d)

for_condition_found : (t : Tables) (result : Option TypeTree) (s : List Scope)
    (place : ℕ) (first : Option FirstTree) (c : Option ExprTree) (third : Option SimpleTree)
    (a : StmtTree) (b : Broken)
    → IsAmong b (option_map_or (value_broken t (for_scopes t first s)) c [])
    → Found t b (InStatement t result s (stmt.For place first c third a))
for_condition_found t result s place first None third a b h = absurd h
for_condition_found t result s place first (Some e) third a b h =
    further t b (found_value t (for_scopes t first s) e b h) (λ p d. at.for_condition d)

for_third_found : (t : Tables) (result : Option TypeTree) (s : List Scope)
    (place : ℕ) (first : Option FirstTree) (c : Option ExprTree) (third : Option SimpleTree)
    (a : StmtTree) (b : Broken)
    → IsAmong b (option_map_or (simple_broken t (for_scopes t first s)) third [])
    → Found t b (InStatement t result s (stmt.For place first c third a))
for_third_found t result s place first c None a b h = absurd h
for_third_found t result s place first c (Some x) a b h =
    further t b (found_simple t (for_scopes t first s) x b h) (λ p d. at.for_third d)

mutual
  pub found_statement : (t : Tables) (result : Option TypeTree) (s : List Scope) (x : StmtTree)
      (b : Broken) → IsAmong b (statement_broken t (type_given t result) s x)
      → Found t b (InStatement t result s x)
  found_statement t result s stmt.Empty b h = absurd h
  found_statement t result s (stmt.Declares d) b h =
      further t b (found_declaration t s d b h) (λ p e. at.declaration e)
  found_statement t result s (stmt.Simple x) b h =
      further t b (found_simple t s x b h) (λ p e. at.simply e)
  found_statement t result s (stmt.Block all) b h =
      further t b (found_statements t result (inner_scopes s) all b h) (λ p e. at.block e)
  found_statement t result s (stmt.If c a) b h =
      either (value_broken t s c) (statement_broken t (type_given t result) (inner_scopes s) a) b h
      (λ h. further t b (found_value t s c b h) (λ p e. at.if_condition e))
      (λ h. further t b (found_statement t result (inner_scopes s) a b h) (λ p e. at.if_body e))
  found_statement t result s (stmt.IfElse c x y) b h =
      let one = statement_broken t (type_given t result) (inner_scopes s) x in
      let other = statement_broken t (type_given t result) (inner_scopes s) y in
      either (value_broken t s c) (one ++ other) b h
      (λ h. further t b (found_value t s c b h) (λ p e. at.choice e))
      (λ h. either one other b h
      (λ h. further t b (found_statement t result (inner_scopes s) x b h) (λ p e. at.then_body e))
      (λ h. further t b (found_statement t result (inner_scopes s) y b h) (λ p e. at.else_body e)))
  found_statement t result s (stmt.While place c a) b h =
      either (value_broken t s c) (statement_broken t (type_given t result) (inner_scopes s) a) b h
      (λ h. further t b (found_value t s c b h) (λ p e. at.while_condition e))
      (λ h. further t b (found_statement t result (inner_scopes s) a b h)
      (λ p e. at.while_body e))
  found_statement t result s (stmt.Do place a c) b h =
      either (statement_broken t (type_given t result) (inner_scopes s) a) (value_broken t s c) b h
      (λ h. further t b (found_statement t result (inner_scopes s) a b h) (λ p e. at.do_body e))
      (λ h. further t b (found_value t s c b h) (λ p e. at.do_condition e))
  found_statement t result s (stmt.For place first c third a) b h =
      let one = option_map_or (first_broken t (inner_scopes s)) first [] in
      let two = option_map_or (value_broken t (for_scopes t first s)) c [] in
      let three = option_map_or (simple_broken t (for_scopes t first s)) third [] in
      let four = statement_broken t (type_given t result) (for_scopes t first s) a in
      either one (two ++ (three ++ four)) b h
      (λ h. for_first_found t result s place first c third a b h)
      (λ h. either two (three ++ four) b h
      (λ h. for_condition_found t result s place first c third a b h)
      (λ h. either three four b h
      (λ h. for_third_found t result s place first c third a b h)
      (λ h. further t b (found_statement t result (for_scopes t first s) a b h)
      (λ p e. at.for_body e))))
  found_statement t result s stmt.Break b h = absurd h
  found_statement t result s stmt.Continue b h = absurd h
  found_statement t result s (stmt.Return place value) b h =
      found_return t result s place value b h

  pub found_statements : (t : Tables) (result : Option TypeTree) (s : List Scope)
      (all : Statements) (b : Broken)
      → IsAmong b (statements_broken t (type_given t result) s all)
      → Found t b (InStatements t result s all)
  found_statements t result s stmt.Nothing b h = absurd h
  found_statements t result s (stmt.Then x xs) b h =
      either (statement_broken t (type_given t result) s x)
      (statements_broken t (type_given t result) (scopes_after t x s) xs) b h
      (λ h. further t b (found_statement t result s x b h) (λ p e. at.here e))
      (λ h. further t b (found_statements t result (scopes_after t x s) xs b h)
      (λ p e. at.later e))

pub found_parameters : (t : Tables) (s : List Scope) (i : ℕ) (qs : List ParameterTree)
    (b : Broken) → IsAmong b (parameters_broken t s i qs) → Found t b (InParameters t s i qs)
found_parameters t s i [] b h = absurd h
found_parameters t s i (q ∷ qs) b h =
    let rest = parameters_broken t (scopes_after_parameter t s q) (i + 1) qs in
    either (type_broken t q.ty ++ own_parameter s i q) rest b h
    (λ h. either (type_broken t q.ty) (own_parameter s i q) b h
    (λ h. further t b (found_type t q.ty b h) (λ p e. at.parameter_type e))
    (λ h. (part.Parameter s i q, at.parameter, h)))
    (λ h. further t b (found_parameters t (scopes_after_parameter t s q) (i + 1) qs b h)
    (λ p e. at.later_parameter e))
