-- What a part breaks by itself is among the broken rules of each expression and statement that it
-- stands in.
use Rattle.std.proofs.Common.{ℕ, ◌+◌, true, false, List, [], ◌++◌, sym, subst}
use Rattle.std.specs.Prelude.{◌&&◌, not, Option, None, Some}
use Rattle.std.specs.Option.{option_map_or}
use Rattle.c_tree.specs.ExprTree.{ExprTree, Arguments, Ident}
use Rattle.c_tree.specs.ExprTree as expr
use Rattle.c_tree.specs.StmtTree.{StmtTree, Statements, SimpleTree, FirstTree, TypeTree}
use Rattle.c_tree.specs.StmtTree.{InitialTree, DeclarationTree}
use Rattle.c_tree.specs.StmtTree as stmt
use Rattle.c_tree.specs.ItemTree.{ParameterTree}
use Rattle.c_types.specs.declared.broken.Broken.{Broken}
use Rattle.c_types.specs.declared.broken.Rule.TheVariants.{Twice, Mismatch}
use Rattle.c_types.specs.Broken.{unless}
use Rattle.c_types.specs.LeastLaw.{IsAmong}
use Rattle.c_types.specs.Fits.{is_int, type_takes, comparable, joins_types, applies}
use Rattle.c_types.specs.Tables.{Tables, function_named, declared_type}
use Rattle.c_types.specs.Expressions.{Scope, arrow_broken, is_indexed, unindexed, kind_of, type_of}
use Rattle.c_types.specs.Expressions.{call_broken, parameters_of, parameter_type, argument_count}
use Rattle.c_types.specs.Expressions.{broken_in, broken_in_all, value_broken}
use Rattle.c_types.specs.Statements.{inner_scopes, is_declared, scopes_after, type_broken}
use Rattle.c_types.specs.Statements.{simple_broken, initial_broken, declaration_broken}
use Rattle.c_types.specs.Statements.{first_broken, return_broken, statement_broken}
use Rattle.c_types.specs.Statements.{statements_broken}
use Rattle.c_types.specs.Declarations.{parameters_broken, scopes_after_parameter, type_given}
use Rattle.rules_law.specs.rules.Part.{Part}
use Rattle.rules_law.specs.rules.Stands.{InType, InExpression, InValue, InArguments, InSimple}
use Rattle.rules_law.specs.rules.Stands.{InDeclaration, InFirst, for_scopes, InStatement}
use Rattle.rules_law.specs.rules.Stands.{InStatements, InParameters}
use Rattle.rules_law.specs.rules.Stands as at
use Rattle.rules_law.proofs.rules.Among.{either, among_left, among_right}
use Rattle.rules_law.proofs.rules.Own.{own, own_expression, own_simple, own_initial, own_local}
use Rattle.rules_law.proofs.rules.Own.{own_return, own_parameter}

pub put_type : (t : Tables) (b : Broken) {ty : TypeTree} {p : Part} → InType ty p
    → IsAmong b (own t p) → IsAmong b (type_broken t ty)
put_type t b at.written h = h

-- the last of three lists
third : (xs ys zs : List Broken) (b : Broken) → IsAmong b zs → IsAmong b (xs ++ (ys ++ zs))
third xs ys zs b h = among_right xs (ys ++ zs) b (among_right ys zs b h)

second : (xs ys zs : List Broken) (b : Broken) → IsAmong b ys → IsAmong b (xs ++ (ys ++ zs))
second xs ys zs b h = among_right xs (ys ++ zs) b (among_left ys zs b h)

put_itself : (t : Tables) (s : List Scope) (e : ExprTree) (b : Broken)
    → IsAmong b (own_expression t s e) → IsAmong b (broken_in t s e)
put_itself t s (expr.Number n) b h = absurd h
put_itself t s expr.Null b h = absurd h
put_itself t s (expr.Variable name) b h = h
put_itself t s (expr.Call name all) b h = absurd h
put_itself t s (expr.Root name) b h = h
put_itself t s (expr.New place name) b h = absurd h
put_itself t s (expr.Arrow base place name) b h =
    among_right (value_broken t s base) (arrow_broken t (type_of t s base) place name) b h
put_itself t s (expr.Index base place index) b h =
    third (broken_in t s base) (value_broken t s index)
    (unless (is_indexed (kind_of t s base) && is_int (type_of t s index)) place Mismatch) b h
put_itself t s (expr.Unary op place a) b h =
    among_right (value_broken t s a) (unless (applies op (type_of t s a)) place Mismatch) b h
put_itself t s (expr.Binary op place x y) b h =
    third (value_broken t s x) (value_broken t s y)
    (unless (joins_types op (type_of t s x) (type_of t s y)) place Mismatch) b h
put_itself t s (expr.Conditional c place x y) b h =
    let last = unless (comparable (type_of t s x) (type_of t s y)) place Mismatch in
    among_right (value_broken t s c) (value_broken t s x ++ (value_broken t s y ++ last)) b
    (third (value_broken t s x) (value_broken t s y) last b h)

mutual
  pub put_expression : (t : Tables) (b : Broken) {s : List Scope} {e : ExprTree} {p : Part}
      → InExpression s e p → IsAmong b (own t p) → IsAmong b (broken_in t s e)
  put_expression t b {s} {e} at.itself h = put_itself t s e b h
  put_expression t b at.made h = h
  put_expression t b {s} (at.before_arrow {base = base} {place = place} {name = name} d) h =
      among_left (value_broken t s base) (arrow_broken t (type_of t s base) place name) b
      (put_value t b d h)
  put_expression t b {s} (at.before_index {base = base} {index = index} {place = place} d) h =
      among_left (broken_in t s base) (value_broken t s index ++ unless
      (is_indexed (kind_of t s base) && is_int (type_of t s index)) place Mismatch) b
      (put_expression t b d h)
  put_expression t b {s} (at.index {base = base} {index = index} {place = place} d) h =
      second (broken_in t s base) (value_broken t s index)
      (unless (is_indexed (kind_of t s base) && is_int (type_of t s index)) place Mismatch) b
      (put_value t b d h)
  put_expression t b {s} (at.operand {op = op} {a = a} {place = place} d) h =
      among_left (value_broken t s a) (unless (applies op (type_of t s a)) place Mismatch) b
      (put_value t b d h)
  put_expression t b {s} (at.left {op = op} {a = x} {b = y} {place = place} d) h =
      among_left (value_broken t s x) (value_broken t s y ++ unless
      (joins_types op (type_of t s x) (type_of t s y)) place Mismatch) b (put_value t b d h)
  put_expression t b {s} (at.right {op = op} {a = x} {b = y} {place = place} d) h =
      second (value_broken t s x) (value_broken t s y)
      (unless (joins_types op (type_of t s x) (type_of t s y)) place Mismatch) b
      (put_value t b d h)
  put_expression t b {s} (at.condition {c = c} {a = x} {b = y} {place = place} d) h =
      let last = unless (comparable (type_of t s x) (type_of t s y)) place Mismatch in
      among_left (value_broken t s c) (value_broken t s x ++ (value_broken t s y ++ last)) b
      (put_value t b d h)
  put_expression t b {s} (at.left_side {c = c} {a = x} {b = y} {place = place} d) h =
      let last = unless (comparable (type_of t s x) (type_of t s y)) place Mismatch in
      second (value_broken t s c) (value_broken t s x) (value_broken t s y ++ last) b
      (put_value t b d h)
  put_expression t b {s} (at.right_side {c = c} {a = x} {b = y} {place = place} d) h =
      let last = unless (comparable (type_of t s x) (type_of t s y)) place Mismatch in
      among_right (value_broken t s c) (value_broken t s x ++ (value_broken t s y ++ last)) b
      (second (value_broken t s x) (value_broken t s y) last b (put_value t b d h))
  put_expression t b {s} (at.called {name = name} {all = all}) h =
      among_left (call_broken true (function_named t name.text) (argument_count all) name.place)
      (broken_in_all t s (parameters_of (function_named t name.text)) 0 all) b h
  put_expression t b {s} (at.arguments {name = name} {all = all} d) h =
      among_right (call_broken true (function_named t name.text) (argument_count all) name.place)
      (broken_in_all t s (parameters_of (function_named t name.text)) 0 all) b
      (put_arguments t b d h)

  pub put_value : (t : Tables) (b : Broken) {s : List Scope} {e : ExprTree} {p : Part}
      → InValue s e p → IsAmong b (own t p) → IsAmong b (value_broken t s e)
  put_value t b {s} {e} at.value h =
      among_right (broken_in t s e) (unindexed (kind_of t s e)) b h
  put_value t b {s} {e} (at.of_value d) h =
      among_left (broken_in t s e) (unindexed (kind_of t s e)) b (put_expression t b d h)

  pub put_arguments : (t : Tables) (b : Broken) {s : List Scope} {callee : Ident} {i : ℕ}
      {all : Arguments} {p : Part} → InArguments s callee i all p → IsAmong b (own t p)
      → IsAmong b (broken_in_all t s (parameters_of (function_named t callee.text)) i all)
  put_arguments t b {s} {callee} (at.argument {i = i} {first = first} {e = e} {rest = rest}) h =
      let ps = parameters_of (function_named t callee.text) in
      second (value_broken t s e)
      (unless (type_takes (parameter_type t ps i) (type_of t s e)) first Mismatch)
      (broken_in_all t s ps (i + 1) rest) b h
  put_arguments t b {s} {callee}
      (at.of_argument {i = i} {first = first} {e = e} {rest = rest} d) h =
      let ps = parameters_of (function_named t callee.text) in
      among_left (value_broken t s e)
      (unless (type_takes (parameter_type t ps i) (type_of t s e)) first Mismatch
      ++ broken_in_all t s ps (i + 1) rest) b (put_value t b d h)
  put_arguments t b {s} {callee}
      (at.later_argument {i = i} {first = first} {e = e} {rest = rest} d) h =
      let ps = parameters_of (function_named t callee.text) in
      third (value_broken t s e)
      (unless (type_takes (parameter_type t ps i) (type_of t s e)) first Mismatch)
      (broken_in_all t s ps (i + 1) rest) b (put_arguments t b d h)

put_simple_itself : (t : Tables) (s : List Scope) (x : SimpleTree) (b : Broken)
    → IsAmong b (own_simple t s x) → IsAmong b (simple_broken t s x)
put_simple_itself t s (stmt.Assign target op place e) b h =
    third (value_broken t s target) (value_broken t s e)
    (own_simple t s (stmt.Assign target op place e)) b h
put_simple_itself t s (stmt.Step target op place) b h =
    among_right (value_broken t s target) (own_simple t s (stmt.Step target op place)) b h
put_simple_itself t s (stmt.Call name all) b h = absurd h
put_simple_itself t s (stmt.Free place e) b h =
    among_right (value_broken t s e) (own_simple t s (stmt.Free place e)) b h
put_simple_itself t s (stmt.Abort place) b h = absurd h

put_simple : (t : Tables) (b : Broken) {s : List Scope} {x : SimpleTree} {p : Part}
    → InSimple s x p → IsAmong b (own t p) → IsAmong b (simple_broken t s x)
put_simple t b {s} {x} at.simple h = put_simple_itself t s x b h
put_simple t b {s} (at.target {a = a} {e = e} {op = op} {place = place} d) h =
    among_left (value_broken t s a) (value_broken t s e ++ own_simple t s
    (stmt.Assign a op place e)) b (put_value t b d h)
put_simple t b {s} (at.assigned {a = a} {e = e} {op = op} {place = place} d) h =
    second (value_broken t s a) (value_broken t s e) (own_simple t s (stmt.Assign a op place e)) b
    (put_value t b d h)
put_simple t b {s} (at.stepped {a = a} {op = op} {place = place} d) h =
    among_left (value_broken t s a) (own_simple t s (stmt.Step a op place)) b (put_value t b d h)
put_simple t b {s} (at.freed {e = e} {place = place} d) h =
    among_left (value_broken t s e) (own_simple t s (stmt.Free place e)) b (put_value t b d h)
put_simple t b {s} (at.call {name = name} {all = all}) h =
    among_left (call_broken false (function_named t name.text) (argument_count all) name.place)
    (broken_in_all t s (parameters_of (function_named t name.text)) 0 all) b h
put_simple t b {s} (at.call_arguments {name = name} {all = all} d) h =
    among_right (call_broken false (function_named t name.text) (argument_count all) name.place)
    (broken_in_all t s (parameters_of (function_named t name.text)) 0 all) b
    (put_arguments t b d h)

initial_put : (t : Tables) (s : List Scope) (d : DeclarationTree) (b : Broken)
    (o : Option InitialTree)
    → IsAmong b (option_map_or (own_initial t s (declared_type t d.ty)) o [])
    → IsAmong b (option_map_or (initial_broken t s (declared_type t d.ty)) o [])
initial_put t s d b None h = absurd h
initial_put t s d b (Some i) h =
    among_right (value_broken t s i.value) (own_initial t s (declared_type t d.ty) i) b h

put_local : (t : Tables) (s : List Scope) (d : DeclarationTree) (b : Broken)
    → IsAmong b (own_local t s d) → IsAmong b (declaration_broken t s d)
put_local t s d b h =
    let first = option_map_or (initial_broken t s (declared_type t d.ty)) d.initial [] in
    let last = unless (not (is_declared d.name.text s)) d.name.place Twice in
    either (option_map_or (own_initial t s (declared_type t d.ty)) d.initial []) last b h
    (λ h. second (type_broken t d.ty) first last b (initial_put t s d b d.initial h))
    (λ h. third (type_broken t d.ty) first last b h)

put_declaration : (t : Tables) (b : Broken) {s : List Scope} {d : DeclarationTree} {p : Part}
    → InDeclaration s d p → IsAmong b (own t p) → IsAmong b (declaration_broken t s d)
put_declaration t b {s} {d} at.local h = put_local t s d b h
put_declaration t b {s} {d} (at.local_type e) h =
    let first = option_map_or (initial_broken t s (declared_type t d.ty)) d.initial [] in
    let last = unless (not (is_declared d.name.text s)) d.name.place Twice in
    among_left (type_broken t d.ty) (first ++ last) b (put_type t b e h)
put_declaration t b {s} {d} (at.initial i is e) h =
    let first = option_map_or (initial_broken t s (declared_type t d.ty)) d.initial [] in
    let last = unless (not (is_declared d.name.text s)) d.name.place Twice in
    second (type_broken t d.ty) first last b
    (subst (λ o. IsAmong b (option_map_or (initial_broken t s (declared_type t d.ty)) o []))
    (sym is)
    (among_left (value_broken t s i.value) (own_initial t s (declared_type t d.ty) i) b
    (put_value t b e h)))

put_first : (t : Tables) (b : Broken) {s : List Scope} {f : FirstTree} {p : Part}
    → InFirst s f p → IsAmong b (own t p) → IsAmong b (first_broken t s f)
put_first t b (at.first_declaration d) h = put_declaration t b d h
put_first t b (at.first_simple d) h = put_simple t b d h

put_return : (t : Tables) (result : Option TypeTree) (s : List Scope) (place : ℕ)
    (o : Option ExprTree) (b : Broken) → IsAmong b (own_return t result s place o)
    → IsAmong b (return_broken t (type_given t result) s place o)
put_return t None s place None b h = absurd h
put_return t (Some ty) s place None b h = h
put_return t None s place (Some e) b h =
    among_right (value_broken t s e) (own_return t None s place (Some e)) b h
put_return t (Some ty) s place (Some e) b h =
    among_right (value_broken t s e) (own_return t (Some ty) s place (Some e)) b h

abbrev for_one : Tables → List Scope → Option FirstTree → List Broken
for_one t s first = option_map_or (first_broken t (inner_scopes s)) first []

abbrev for_two : Tables → List Scope → Option FirstTree → Option ExprTree → List Broken
for_two t s first c = option_map_or (value_broken t (for_scopes t first s)) c []

abbrev for_three : Tables → List Scope → Option FirstTree → Option SimpleTree → List Broken
for_three t s first third = option_map_or (simple_broken t (for_scopes t first s)) third []

mutual
  pub put_statement : (t : Tables) (result : Option TypeTree) (b : Broken) {s : List Scope}
      {x : StmtTree} {p : Part} → InStatement t result s x p → IsAmong b (own t p)
      → IsAmong b (statement_broken t (type_given t result) s x)
  put_statement t result b (at.declaration d) h = put_declaration t b d h
  put_statement t result b (at.simply d) h = put_simple t b d h
  put_statement t result b (at.block d) h = put_statements t result b d h
  put_statement t result b (at.if_condition {s = s} {c = c} {a = a} d) h =
      among_left (value_broken t s c)
      (statement_broken t (type_given t result) (inner_scopes s) a) b (put_value t b d h)
  put_statement t result b (at.if_body {s = s} {c = c} {a = a} d) h =
      among_right (value_broken t s c)
      (statement_broken t (type_given t result) (inner_scopes s) a) b
      (put_statement t result b d h)
  put_statement t result b (at.choice {s = s} {c = c} {a = x} {b = y} d) h =
      among_left (value_broken t s c)
      (statement_broken t (type_given t result) (inner_scopes s) x
      ++ statement_broken t (type_given t result) (inner_scopes s) y) b (put_value t b d h)
  put_statement t result b (at.then_body {s = s} {c = c} {a = x} {b = y} d) h =
      second (value_broken t s c) (statement_broken t (type_given t result) (inner_scopes s) x)
      (statement_broken t (type_given t result) (inner_scopes s) y) b
      (put_statement t result b d h)
  put_statement t result b (at.else_body {s = s} {c = c} {a = x} {b = y} d) h =
      third (value_broken t s c) (statement_broken t (type_given t result) (inner_scopes s) x)
      (statement_broken t (type_given t result) (inner_scopes s) y) b
      (put_statement t result b d h)
  put_statement t result b (at.while_condition {s = s} {c = c} {a = a} d) h =
      among_left (value_broken t s c)
      (statement_broken t (type_given t result) (inner_scopes s) a) b (put_value t b d h)
  put_statement t result b (at.while_body {s = s} {c = c} {a = a} d) h =
      among_right (value_broken t s c)
      (statement_broken t (type_given t result) (inner_scopes s) a) b
      (put_statement t result b d h)
  put_statement t result b (at.do_body {s = s} {a = a} {c = c} d) h =
      among_left (statement_broken t (type_given t result) (inner_scopes s) a)
      (value_broken t s c) b (put_statement t result b d h)
  put_statement t result b (at.do_condition {s = s} {a = a} {c = c} d) h =
      among_right (statement_broken t (type_given t result) (inner_scopes s) a)
      (value_broken t s c) b (put_value t b d h)
  put_statement t result b
      (at.for_first {s = s} {f = f} {c = c} {third = last} {a = a} d) h =
      among_left (for_one t s (Some f)) (for_two t s (Some f) c ++ (for_three t s (Some f) last
      ++ statement_broken t (type_given t result) (for_scopes t (Some f) s) a)) b
      (put_first t b d h)
  put_statement t result b
      (at.for_condition {s = s} {first = first} {c = c} {third = last} {a = a} d) h =
      second (for_one t s first) (for_two t s first (Some c)) (for_three t s first last
      ++ statement_broken t (type_given t result) (for_scopes t first s) a) b (put_value t b d h)
  put_statement t result b
      (at.for_third {s = s} {first = first} {c = c} {x = x} {a = a} d) h =
      third (for_one t s first) (for_two t s first c) (for_three t s first (Some x)
      ++ statement_broken t (type_given t result) (for_scopes t first s) a) b
      (among_left (for_three t s first (Some x))
      (statement_broken t (type_given t result) (for_scopes t first s) a) b (put_simple t b d h))
  put_statement t result b
      (at.for_body {s = s} {first = first} {c = c} {third = last} {a = a} d) h =
      third (for_one t s first) (for_two t s first c) (for_three t s first last
      ++ statement_broken t (type_given t result) (for_scopes t first s) a) b
      (among_right (for_three t s first last)
      (statement_broken t (type_given t result) (for_scopes t first s) a) b
      (put_statement t result b d h))
  put_statement t result b (at.returned {s = s} {place = place} {given = given}) h =
      put_return t result s place given b h
  put_statement t result b (at.returned_value {s = s} {place = place} {e = e} d) h =
      among_left (value_broken t s e) (unless (option_map_or (λ ty. type_takes ty (type_of t s e))
      (type_given t result) false) place Mismatch) b (put_value t b d h)

  pub put_statements : (t : Tables) (result : Option TypeTree) (b : Broken) {s : List Scope}
      {all : Statements} {p : Part} → InStatements t result s all p → IsAmong b (own t p)
      → IsAmong b (statements_broken t (type_given t result) s all)
  put_statements t result b (at.here {s = s} {x = x} {xs = xs} d) h =
      among_left (statement_broken t (type_given t result) s x)
      (statements_broken t (type_given t result) (scopes_after t x s) xs) b
      (put_statement t result b d h)
  put_statements t result b (at.later {s = s} {x = x} {xs = xs} d) h =
      among_right (statement_broken t (type_given t result) s x)
      (statements_broken t (type_given t result) (scopes_after t x s) xs) b
      (put_statements t result b d h)

pub put_parameters : (t : Tables) (b : Broken) {s : List Scope} {i : ℕ}
    {qs : List ParameterTree} {p : Part} → InParameters t s i qs p → IsAmong b (own t p)
    → IsAmong b (parameters_broken t s i qs)
put_parameters t b (at.parameter {s = s} {i = i} {q = q} {qs = qs}) h =
    among_left (type_broken t q.ty ++ own_parameter s i q)
    (parameters_broken t (scopes_after_parameter t s q) (i + 1) qs) b
    (among_right (type_broken t q.ty) (own_parameter s i q) b h)
put_parameters t b (at.parameter_type {s = s} {i = i} {q = q} {qs = qs} d) h =
    among_left (type_broken t q.ty ++ own_parameter s i q)
    (parameters_broken t (scopes_after_parameter t s q) (i + 1) qs) b
    (among_left (type_broken t q.ty) (own_parameter s i q) b (put_type t b d h))
put_parameters t b (at.later_parameter {s = s} {i = i} {q = q} {qs = qs} d) h =
    among_right (type_broken t q.ty ++ own_parameter s i q)
    (parameters_broken t (scopes_after_parameter t s q) (i + 1) qs) b (put_parameters t b d h)
