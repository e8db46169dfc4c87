-- A body stores, where it is known of some functions that they do, exactly if a part that stands in
-- it stores or calls one of them.
use Rattle.std.proofs.Common.{◌≡◌, ℕ, ◌+◌, Bool, true, false, List, refl, sym, subst}
use Rattle.std.specs.Prelude.{◌||◌, not, Option, None, Some}
use Rattle.std.specs.Option.{option_map_or}
use Rattle.std.proofs.lemmas.Bool.{or_left, or_right, false≢true}
use Rattle.c_tree.specs.ExprTree.{ExprTree, Arguments, Ident}
use Rattle.c_tree.specs.ExprTree as expr
use Rattle.c_tree.specs.StmtTree.{StmtTree, Statements, SimpleTree, FirstTree, TypeTree}
use Rattle.c_tree.specs.StmtTree.{InitialTree, DeclarationTree}
use Rattle.c_tree.specs.StmtTree as stmt
use Rattle.c_types.specs.Tables.{Tables}
use Rattle.c_types.specs.Expressions.{Scope}
use Rattle.c_types.specs.Statements.{inner_scopes, scopes_after}
use Rattle.c_types.specs.Looking.{is_known, is_variable, exp_stores, arguments_store, value_stores}
use Rattle.c_types.specs.Looking.{simple_stores, declaration_stores, first_stores}
use Rattle.c_types.specs.Looking.{statement_stores, statements_store}
use Rattle.rules_law.specs.rules.Part.{Part}
use Rattle.rules_law.specs.rules.Part as part
use Rattle.rules_law.specs.rules.Stands.{InType, InExpression, InValue, InArguments, InSimple}
use Rattle.rules_law.specs.rules.Stands.{InDeclaration, InFirst, for_scopes, InStatement}
use Rattle.rules_law.specs.rules.Stands.{InStatements}
use Rattle.rules_law.specs.rules.Stands as at

abbrev pub makes : ExprTree → Bool
makes (expr.New place name) = true
makes _ = false

abbrev pub writes : SimpleTree → Bool
writes (stmt.Assign target op place e) = not (is_variable target)
writes (stmt.Step target op place) = not (is_variable target)
writes (stmt.Free place e) = true
writes _ = false

-- whether a part stores, without those that stand in it
abbrev pub part_stores : Tables → (known : List Bool) → Part → Bool
part_stores t known (part.Expression s e) = makes e
part_stores t known (part.Simple s x) = writes x
part_stores t known (part.Called used name all) = is_known t known name.text
part_stores t known _ = false

-- a part that stands somewhere and stores
abbrev pub Stored : Tables → List Bool → (Part → Type 0) → Type 0
Stored t known In = (p : Part) × In p × (part_stores t known p ≡ true)

further : {In Out : Part → Type 0} (t : Tables) (known : List Bool) → Stored t known In
    → ((p : Part) → In p → Out p) → Stored t known Out
further t known h f = (h.0, f h.0 h.1, h.2)

either : {C : Type 0} (a b : Bool) → (a || b) ≡ true → (a ≡ true → C) → (b ≡ true → C) → C
either true b h f g = f refl
either false b h f g = g h

never : {C : Type 0} → false ≡ true → C
never h = absurd (false≢true h)

mutual
  stored_expression : (t : Tables) (known : List Bool) (s : List Scope) (e : ExprTree)
      → exp_stores t known e ≡ true → Stored t known (InExpression s e)
  stored_expression t known s (expr.Number n) h = never h
  stored_expression t known s expr.Null h = never h
  stored_expression t known s (expr.Variable name) h = never h
  stored_expression t known s (expr.Root name) h = never h
  stored_expression t known s (expr.New place name) h =
      (part.Expression s (expr.New place name), at.itself, refl)
  stored_expression t known s (expr.Arrow base place name) h =
      further t known (stored_expression t known s base h) (λ p d. at.before_arrow (at.of_value d))
  stored_expression t known s (expr.Index base place index) h =
      either (exp_stores t known base) (exp_stores t known index) h
      (λ h. further t known (stored_expression t known s base h) (λ p d. at.before_index d))
      (λ h. further t known (stored_expression t known s index h) (λ p d. at.index (at.of_value d)))
  stored_expression t known s (expr.Unary op place a) h =
      further t known (stored_expression t known s a h) (λ p d. at.operand (at.of_value d))
  stored_expression t known s (expr.Binary op place a b) h =
      either (exp_stores t known a) (exp_stores t known b) h
      (λ h. further t known (stored_expression t known s a h) (λ p d. at.left (at.of_value d)))
      (λ h. further t known (stored_expression t known s b h) (λ p d. at.right (at.of_value d)))
  stored_expression t known s (expr.Conditional c place a b) h =
      either (exp_stores t known c) (exp_stores t known a || exp_stores t known b) h
      (λ h. further t known (stored_expression t known s c h) (λ p d. at.condition (at.of_value d)))
      (λ h. either (exp_stores t known a) (exp_stores t known b) h
      (λ h. further t known (stored_expression t known s a h) (λ p d. at.left_side (at.of_value d)))
      (λ h. further t known (stored_expression t known s b h)
      (λ p d. at.right_side (at.of_value d))))
  stored_expression t known s (expr.Call name all) h =
      either (is_known t known name.text) (arguments_store t known all) h
      (λ h. (part.Called true name all, at.called, h))
      (λ h. further t known (stored_arguments t known s name 0 all h) (λ p d. at.arguments d))

  stored_arguments : (t : Tables) (known : List Bool) (s : List Scope) (callee : Ident) (i : ℕ)
      (all : Arguments) → arguments_store t known all ≡ true
      → Stored t known (InArguments s callee i all)
  stored_arguments t known s callee i expr.None h = never h
  stored_arguments t known s callee i (expr.More first e rest) h =
      either (exp_stores t known e) (arguments_store t known rest) h
      (λ h. further t known (stored_expression t known s e h)
      (λ p d. at.of_argument (at.of_value d)))
      (λ h. further t known (stored_arguments t known s callee (i + 1) rest h)
      (λ p d. at.later_argument d))

stored_value : (t : Tables) (known : List Bool) (s : List Scope) (e : ExprTree)
    → exp_stores t known e ≡ true → Stored t known (InValue s e)
stored_value t known s e h =
    further t known (stored_expression t known s e h) (λ p d. at.of_value d)

stored_simple : (t : Tables) (known : List Bool) (s : List Scope) (x : SimpleTree)
    → simple_stores t known x ≡ true → Stored t known (InSimple s x)
stored_simple t known s (stmt.Assign target op place e) h =
    either (not (is_variable target)) (exp_stores t known e) h
    (λ h. (part.Simple s (stmt.Assign target op place e), at.simple, h))
    (λ h. further t known (stored_value t known s e h) (λ p d. at.assigned d))
stored_simple t known s (stmt.Step target op place) h =
    (part.Simple s (stmt.Step target op place), at.simple, h)
stored_simple t known s (stmt.Call name all) h =
    either (is_known t known name.text) (arguments_store t known all) h
    (λ h. (part.Called false name all, at.call, h))
    (λ h. further t known (stored_arguments t known s name 0 all h) (λ p d. at.call_arguments d))
stored_simple t known s (stmt.Free place e) h =
    (part.Simple s (stmt.Free place e), at.simple, refl)
stored_simple t known s (stmt.Abort place) h = never h

stored_initial : (t : Tables) (known : List Bool) (s : List Scope) (d : DeclarationTree)
    (o : Option InitialTree) → d.initial ≡ o
    → option_map_or (λ (i : InitialTree). exp_stores t known i.value) o false ≡ true
    → Stored t known (InDeclaration s d)
stored_initial t known s d None is h = never h
stored_initial t known s d (Some i) is h =
    further t known (stored_value t known s i.value h) (λ p e. at.initial i is e)

stored_declaration : (t : Tables) (known : List Bool) (s : List Scope) (d : DeclarationTree)
    → declaration_stores t known d ≡ true → Stored t known (InDeclaration s d)
stored_declaration t known s d h = stored_initial t known s d d.initial refl h

stored_first : (t : Tables) (known : List Bool) (s : List Scope) (f : FirstTree)
    → first_stores t known f ≡ true → Stored t known (InFirst s f)
stored_first t known s (stmt.Declare d) h =
    further t known (stored_declaration t known s d h) (λ p e. at.first_declaration e)
stored_first t known s (stmt.Simply x) h =
    further t known (stored_simple t known s x h) (λ p e. at.first_simple e)

-- the parts of a `for` that may be absent
for_first_stored : (t : Tables) (known : List Bool) (result : Option TypeTree) (s : List Scope)
    (place : ℕ) (first : Option FirstTree) (c : Option ExprTree) (third : Option SimpleTree)
    (a : StmtTree) → option_map_or (first_stores t known) first false ≡ true
    → Stored t known (InStatement t result s (stmt.For place first c third a))
for_first_stored t known result s place None c third a h = never h
for_first_stored t known result s place (Some f) c third a h =
    further t known (stored_first t known (inner_scopes s) f h) (λ p d. at.for_first d)

for_condition_stored : (t : Tables) (known : List Bool) (result : Option TypeTree)
    (s : List Scope) (place : ℕ) (first : Option FirstTree) (c : Option ExprTree)
    (third : Option SimpleTree) (a : StmtTree) → value_stores t known c ≡ true
    → Stored t known (InStatement t result s (stmt.For place first c third a))
for_condition_stored t known result s place first None third a h = never h
for_condition_stored t known result s place first (Some e) third a h =
    further t known (stored_value t known (for_scopes t first s) e h) (λ p d. at.for_condition d)

for_third_stored : (t : Tables) (known : List Bool) (result : Option TypeTree) (s : List Scope)
    (place : ℕ) (first : Option FirstTree) (c : Option ExprTree) (third : Option SimpleTree)
    (a : StmtTree) → option_map_or (simple_stores t known) third false ≡ true
    → Stored t known (InStatement t result s (stmt.For place first c third a))
for_third_stored t known result s place first c None a h = never h
for_third_stored t known result s place first c (Some x) a h =
    further t known (stored_simple t known (for_scopes t first s) x h) (λ p d. at.for_third d)

stored_return : (t : Tables) (known : List Bool) (result : Option TypeTree) (s : List Scope)
    (place : ℕ) (o : Option ExprTree) → value_stores t known o ≡ true
    → Stored t known (InStatement t result s (stmt.Return place o))
stored_return t known result s place None h = never h
stored_return t known result s place (Some e) h =
    further t known (stored_value t known s e h) (λ p d. at.returned_value d)

mutual
  stored_statement : (t : Tables) (known : List Bool) (result : Option TypeTree) (s : List Scope)
      (x : StmtTree) → statement_stores t known x ≡ true
      → Stored t known (InStatement t result s x)
  stored_statement t known result s stmt.Empty h = never h
  stored_statement t known result s (stmt.Declares d) h =
      further t known (stored_declaration t known s d h) (λ p e. at.declaration e)
  stored_statement t known result s (stmt.Simple x) h =
      further t known (stored_simple t known s x h) (λ p e. at.simply e)
  stored_statement t known result s (stmt.Block all) h =
      further t known (stored_statements t known result (inner_scopes s) all h) (λ p e. at.block e)
  stored_statement t known result s (stmt.If c a) h =
      either (exp_stores t known c) (statement_stores t known a) h
      (λ h. further t known (stored_value t known s c h) (λ p e. at.if_condition e))
      (λ h. further t known (stored_statement t known result (inner_scopes s) a h)
      (λ p e. at.if_body e))
  stored_statement t known result s (stmt.IfElse c a b) h =
      either (exp_stores t known c) (statement_stores t known a || statement_stores t known b) h
      (λ h. further t known (stored_value t known s c h) (λ p e. at.choice e))
      (λ h. either (statement_stores t known a) (statement_stores t known b) h
      (λ h. further t known (stored_statement t known result (inner_scopes s) a h)
      (λ p e. at.then_body e))
      (λ h. further t known (stored_statement t known result (inner_scopes s) b h)
      (λ p e. at.else_body e)))
  stored_statement t known result s (stmt.While place c a) h =
      either (exp_stores t known c) (statement_stores t known a) h
      (λ h. further t known (stored_value t known s c h) (λ p e. at.while_condition e))
      (λ h. further t known (stored_statement t known result (inner_scopes s) a h)
      (λ p e. at.while_body e))
  stored_statement t known result s (stmt.Do place a c) h =
      either (exp_stores t known c) (statement_stores t known a) h
      (λ h. further t known (stored_value t known s c h) (λ p e. at.do_condition e))
      (λ h. further t known (stored_statement t known result (inner_scopes s) a h)
      (λ p e. at.do_body e))
  stored_statement t known result s (stmt.For place first c third a) h =
      let one = option_map_or (first_stores t known) first false in
      let two = value_stores t known c in
      let three = option_map_or (simple_stores t known) third false in
      either (one || (two || three)) (statement_stores t known a) h
      (λ h. either one (two || three) h
      (λ h. for_first_stored t known result s place first c third a h)
      (λ h. either two three h
      (λ h. for_condition_stored t known result s place first c third a h)
      (λ h. for_third_stored t known result s place first c third a h)))
      (λ h. further t known (stored_statement t known result (for_scopes t first s) a h)
      (λ p e. at.for_body e))
  stored_statement t known result s stmt.Break h = never h
  stored_statement t known result s stmt.Continue h = never h
  stored_statement t known result s (stmt.Return place value) h =
      stored_return t known result s place value h

  pub stored_statements : (t : Tables) (known : List Bool) (result : Option TypeTree)
      (s : List Scope) (all : Statements) → statements_store t known all ≡ true
      → Stored t known (InStatements t result s all)
  stored_statements t known result s stmt.Nothing h = never h
  stored_statements t known result s (stmt.Then x xs) h =
      either (statement_stores t known x) (statements_store t known xs) h
      (λ h. further t known (stored_statement t known result s x h) (λ p e. at.here e))
      (λ h. further t known (stored_statements t known result (scopes_after t x s) xs h)
      (λ p e. at.later e))

-- the other way
made_stores : (t : Tables) (known : List Bool) (e : ExprTree) → makes e ≡ true
    → exp_stores t known e ≡ true
made_stores t known (expr.New place name) h = refl
made_stores t known _ h = never h

in_type : (t : Tables) (known : List Bool) {ty : TypeTree} {p : Part} {C : Type 0} → InType ty p
    → part_stores t known p ≡ true → C
in_type t known at.written h = never h

mutual
  expression_stores : (t : Tables) (known : List Bool) {s : List Scope} {e : ExprTree} {p : Part}
      → InExpression s e p → part_stores t known p ≡ true → exp_stores t known e ≡ true
  expression_stores t known {e = e} at.itself h = made_stores t known e h
  expression_stores t known at.made h = refl
  expression_stores t known (at.before_arrow d) h = in_value t known d h
  expression_stores t known (at.before_index {base = base} {index = index} d) h =
      or_left (exp_stores t known base) (exp_stores t known index)
      (expression_stores t known d h)
  expression_stores t known (at.index {base = base} {index = index} d) h =
      or_right (exp_stores t known base) (exp_stores t known index) (in_value t known d h)
  expression_stores t known (at.operand d) h = in_value t known d h
  expression_stores t known (at.left {a = a} {b = b} d) h =
      or_left (exp_stores t known a) (exp_stores t known b) (in_value t known d h)
  expression_stores t known (at.right {a = a} {b = b} d) h =
      or_right (exp_stores t known a) (exp_stores t known b) (in_value t known d h)
  expression_stores t known (at.condition {c = c} {a = a} {b = b} d) h =
      or_left (exp_stores t known c) (exp_stores t known a || exp_stores t known b)
      (in_value t known d h)
  expression_stores t known (at.left_side {c = c} {a = a} {b = b} d) h =
      or_right (exp_stores t known c) (exp_stores t known a || exp_stores t known b)
      (or_left (exp_stores t known a) (exp_stores t known b) (in_value t known d h))
  expression_stores t known (at.right_side {c = c} {a = a} {b = b} d) h =
      or_right (exp_stores t known c) (exp_stores t known a || exp_stores t known b)
      (or_right (exp_stores t known a) (exp_stores t known b) (in_value t known d h))
  expression_stores t known (at.called {name = name} {all = all}) h =
      or_left (is_known t known name.text) (arguments_store t known all) h
  expression_stores t known (at.arguments {name = name} {all = all} d) h =
      or_right (is_known t known name.text) (arguments_store t known all)
      (in_arguments t known d h)

  in_value : (t : Tables) (known : List Bool) {s : List Scope} {e : ExprTree} {p : Part}
      → InValue s e p → part_stores t known p ≡ true → exp_stores t known e ≡ true
  in_value t known at.value h = never h
  in_value t known (at.of_value d) h = expression_stores t known d h

  in_arguments : (t : Tables) (known : List Bool) {s : List Scope} {callee : Ident} {i : ℕ}
      {all : Arguments} {p : Part} → InArguments s callee i all p
      → part_stores t known p ≡ true → arguments_store t known all ≡ true
  in_arguments t known at.argument h = never h
  in_arguments t known (at.of_argument {e = e} {rest = rest} d) h =
      or_left (exp_stores t known e) (arguments_store t known rest) (in_value t known d h)
  in_arguments t known (at.later_argument {e = e} {rest = rest} d) h =
      or_right (exp_stores t known e) (arguments_store t known rest) (in_arguments t known d h)

-- a target in which a part stores is no variable
target_stores : (t : Tables) (known : List Bool) (a : ExprTree) → exp_stores t known a ≡ true
    → not (is_variable a) ≡ true
target_stores t known (expr.Variable name) h = never h
target_stores t known (expr.Number n) h = refl
target_stores t known expr.Null h = refl
target_stores t known (expr.Call name all) h = refl
target_stores t known (expr.Root name) h = refl
target_stores t known (expr.New place name) h = refl
target_stores t known (expr.Arrow base place name) h = refl
target_stores t known (expr.Index base place index) h = refl
target_stores t known (expr.Unary op place e) h = refl
target_stores t known (expr.Binary op place a b) h = refl
target_stores t known (expr.Conditional c place a b) h = refl

written_stores : (t : Tables) (known : List Bool) (x : SimpleTree) → writes x ≡ true
    → simple_stores t known x ≡ true
written_stores t known (stmt.Assign target op place e) h =
    or_left (not (is_variable target)) (exp_stores t known e) h
written_stores t known (stmt.Step target op place) h = h
written_stores t known (stmt.Call name all) h = never h
written_stores t known (stmt.Free place e) h = refl
written_stores t known (stmt.Abort place) h = never h

in_simple : (t : Tables) (known : List Bool) {s : List Scope} {x : SimpleTree} {p : Part}
    → InSimple s x p → part_stores t known p ≡ true → simple_stores t known x ≡ true
in_simple t known {x = x} at.simple h = written_stores t known x h
in_simple t known (at.target {a = a} {e = e} d) h =
    or_left (not (is_variable a)) (exp_stores t known e)
    (target_stores t known a (in_value t known d h))
in_simple t known (at.assigned {a = a} {e = e} d) h =
    or_right (not (is_variable a)) (exp_stores t known e) (in_value t known d h)
in_simple t known (at.stepped {a = a} d) h = target_stores t known a (in_value t known d h)
in_simple t known (at.freed d) h = refl
in_simple t known (at.call {name = name} {all = all}) h =
    or_left (is_known t known name.text) (arguments_store t known all) h
in_simple t known (at.call_arguments {name = name} {all = all} d) h =
    or_right (is_known t known name.text) (arguments_store t known all) (in_arguments t known d h)

in_declaration : (t : Tables) (known : List Bool) {s : List Scope} {d : DeclarationTree} {p : Part}
    → InDeclaration s d p → part_stores t known p ≡ true → declaration_stores t known d ≡ true
in_declaration t known at.local h = never h
in_declaration t known (at.local_type e) h = in_type t known e h
in_declaration t known (at.initial i is e) h =
    subst (λ (o : Option InitialTree).
    option_map_or (λ (i : InitialTree). exp_stores t known i.value) o false ≡ true)
    (sym is) (in_value t known e h)

in_first : (t : Tables) (known : List Bool) {s : List Scope} {f : FirstTree} {p : Part}
    → InFirst s f p → part_stores t known p ≡ true → first_stores t known f ≡ true
in_first t known (at.first_declaration d) h = in_declaration t known d h
in_first t known (at.first_simple d) h = in_simple t known d h

-- the three parts of a `for` beside its body, and the body
head_one : (a b c d : Bool) → a ≡ true → ((a || (b || c)) || d) ≡ true
head_one true b c d h = refl
head_one false b c d h = never h

head_two : (a b c d : Bool) → b ≡ true → ((a || (b || c)) || d) ≡ true
head_two true b c d h = refl
head_two false true c d h = refl
head_two false false c d h = never h

head_three : (a b c d : Bool) → c ≡ true → ((a || (b || c)) || d) ≡ true
head_three true b c d h = refl
head_three false true c d h = refl
head_three false false true d h = refl
head_three false false false d h = never h

mutual
  in_statement : (t : Tables) (known : List Bool) {result : Option TypeTree} {s : List Scope}
      {x : StmtTree} {p : Part} → InStatement t result s x p → part_stores t known p ≡ true
      → statement_stores t known x ≡ true
  in_statement t known (at.declaration d) h = in_declaration t known d h
  in_statement t known (at.simply d) h = in_simple t known d h
  in_statement t known (at.block d) h = in_statements t known d h
  in_statement t known (at.if_condition {c = c} {a = a} d) h =
      or_left (exp_stores t known c) (statement_stores t known a) (in_value t known d h)
  in_statement t known (at.if_body {c = c} {a = a} d) h =
      or_right (exp_stores t known c) (statement_stores t known a) (in_statement t known d h)
  in_statement t known (at.choice {c = c} {a = a} {b = b} d) h =
      or_left (exp_stores t known c) (statement_stores t known a || statement_stores t known b)
      (in_value t known d h)
  in_statement t known (at.then_body {c = c} {a = a} {b = b} d) h =
      or_right (exp_stores t known c) (statement_stores t known a || statement_stores t known b)
      (or_left (statement_stores t known a) (statement_stores t known b)
      (in_statement t known d h))
  in_statement t known (at.else_body {c = c} {a = a} {b = b} d) h =
      or_right (exp_stores t known c) (statement_stores t known a || statement_stores t known b)
      (or_right (statement_stores t known a) (statement_stores t known b)
      (in_statement t known d h))
  in_statement t known (at.while_condition {c = c} {a = a} d) h =
      or_left (exp_stores t known c) (statement_stores t known a) (in_value t known d h)
  in_statement t known (at.while_body {c = c} {a = a} d) h =
      or_right (exp_stores t known c) (statement_stores t known a) (in_statement t known d h)
  in_statement t known (at.do_body {a = a} {c = c} d) h =
      or_right (exp_stores t known c) (statement_stores t known a) (in_statement t known d h)
  in_statement t known (at.do_condition {a = a} {c = c} d) h =
      or_left (exp_stores t known c) (statement_stores t known a) (in_value t known d h)
  in_statement t known (at.for_first {f = f} {c = c} {third = third} {a = a} d) h =
      head_one (first_stores t known f) (value_stores t known c)
      (option_map_or (simple_stores t known) third false) (statement_stores t known a)
      (in_first t known d h)
  in_statement t known (at.for_condition {first = first} {c = c} {third = third} {a = a} d) h =
      head_two (option_map_or (first_stores t known) first false) (exp_stores t known c)
      (option_map_or (simple_stores t known) third false) (statement_stores t known a)
      (in_value t known d h)
  in_statement t known (at.for_third {first = first} {c = c} {x = x} {a = a} d) h =
      head_three (option_map_or (first_stores t known) first false) (value_stores t known c)
      (simple_stores t known x) (statement_stores t known a) (in_simple t known d h)
  in_statement t known (at.for_body {first = first} {c = c} {third = third} {a = a} d) h =
      or_right (option_map_or (first_stores t known) first false || (value_stores t known c
      || option_map_or (simple_stores t known) third false)) (statement_stores t known a)
      (in_statement t known d h)
  in_statement t known at.returned h = never h
  in_statement t known (at.returned_value d) h = in_value t known d h

  pub in_statements : (t : Tables) (known : List Bool) {result : Option TypeTree}
      {s : List Scope} {all : Statements} {p : Part} → InStatements t result s all p
      → part_stores t known p ≡ true → statements_store t known all ≡ true
  in_statements t known (at.here {x = x} {xs = xs} d) h =
      or_left (statement_stores t known x) (statements_store t known xs) (in_statement t known d h)
  in_statements t known (at.later {x = x} {xs = xs} d) h =
      or_right (statement_stores t known x) (statements_store t known xs)
      (in_statements t known d h)
