-- The code of statements that break no rule names only what exists.
use Rattle.std.proofs.Common.{◌≡◌, ℕ, ℤ, pos, suc, ◌+◌, ◌≤◌, ◌<◌, Bool, true, false, List, [], ◌∷◌}
use Rattle.std.proofs.Common.{length, refl, sym, subst, ◌∙◌, arith}
use Rattle.std.specs.Prelude.{is_some, Option, None, Some, if◌then◌else◌}
use Rattle.std.specs.Option.{option_map_or}
use Rattle.std.specs.List.{AllByRecursion}
use Rattle.std.proofs.lemmas.Bool.{false≢true}
use Rattle.std.proofs.lemmas.Option.{none-some, same_Some}
use Rattle.nvm_base.specs.declared.op.BinOp.{BinOp}
use Rattle.nvm_base.proofs.Lists.{all_append}
use Rattle.c_tree.specs.declared.stmt.AssignOp.TheVariants as assign
use Rattle.c_tree.specs.Operators.{update_binary}
use Rattle.c_tree.specs.ExprTree as expr
use Rattle.c_tree.specs.ExprTree.{ExprTree, Arguments, Ident}
use Rattle.c_tree.specs.StmtTree as stmt
use Rattle.c_tree.specs.StmtTree.{StmtTree, Statements, SimpleTree, FirstTree, DeclarationTree}
use Rattle.c_tree.specs.StmtTree.{InitialTree}
use Rattle.c_tree.specs.ItemTree.{FunctionTree, ParameterTree}
use Rattle.c_types.specs.declared.value_type.ValueType.{ValueType}
use Rattle.c_types.specs.declared.value_type.ValueType.TheVariants.{Int, Pointer, Null, Any}
use Rattle.c_types.specs.declared.broken.Rule.TheVariants.{UnknownName, Mismatch, NotAssignable}
use Rattle.c_types.specs.Broken.{unless}
use Rattle.c_types.specs.Fits.{is_int, is_pointer, assigns}
use Rattle.c_types.specs.Tables.{Tables, function_named, declared_type, pointed_struct}
use Rattle.c_types.specs.Expressions.{Scope, variable_type, value_broken, type_of, kind_of}
use Rattle.c_types.specs.Expressions.{broken_in, call_broken, parameters_of, argument_count}
use Rattle.c_types.specs.Expressions.{sides_type}
use Rattle.c_types.specs.Statements as types
use Rattle.c_types.specs.Statements.{is_target, type_broken, simple_broken, initial_broken}
use Rattle.c_types.specs.Statements.{declaration_broken, first_broken, return_broken}
use Rattle.c_types.specs.Statements.{statement_broken, statements_broken}
use Rattle.c_types.specs.Declarations as declarations
use Rattle.c_types.specs.Declarations.{parameter_broken, parameters_broken, scopes_after_parameter}
use Rattle.c_types.proofs.Unbroken.{none_left, none_right, holds}
use Rattle.ir.specs.declared.instruction.Instruction.TheVariants.{Copy}
use Rattle.ir.specs.declared.function.Ir.{Ir}
use Rattle.ir.specs.WellFormed.{IsTarget, IsKind, IsInstruction}
use Rattle.lower.specs.Assigned.{is_assigned}
use Rattle.lower.specs.Forms.{operation_of}
use Rattle.lower.specs.Names.{Variables, inner_variables, variable_declared, variable_register}
use Rattle.lower.specs.Names.{register_of, variable_of, struct_kind_at}
use Rattle.lower.specs.Lowers.{Context, exp_end, exp_code, reg_of, target_end, target_code}
use Rattle.lower.specs.Lowers.{target_of, arguments_end, arguments_code, or_end, or_code, or_reg}
use Rattle.lower.specs.Lowers.{set_end, set_code, update_end, update_code, update_operation}
use Rattle.lower.specs.Lowers.{step_operation}
use Rattle.lower.specs.Lowers.{simple_end, simple_code, initial_end, initial_code}
use Rattle.lower.specs.Lowers.{variables_after_declaration, first_end, first_code}
use Rattle.lower.specs.Lowers.{variables_after_first, third_end, third_code, variables_after}
use Rattle.lower.specs.Lowers.{stmt_end, stmt_code, statements_end, statements_code}
use Rattle.lower.specs.Program.{parameters_end, parameters_code, variables_after_parameters}
use Rattle.lower.proofs.Ends.{exp_end_le, or_end_le, third_end_le, stmt_end_le, statements_end_le}
use Rattle.lower.proofs.Sane.{IsKindOf, kind_of_struct}
use Rattle.lower.proofs.GoodTypes.{IsGood, Agree, found, found_register, declared_good}
use Rattle.lower.proofs.GoodTypes.{agree_declared}
use Rattle.lower.proofs.Alike.{IsSame, Alike, alike_same, alike_declared, value_same, or_same}
use Rattle.lower.proofs.Alike.{initial_same, simple_same, third_same}
use Rattle.lower.proofs.ExprSound.{IsPlaced, IsPlace, value_fits, type_good, reg_below}
use Rattle.lower.proofs.ExprSound.{call_takes, exp_sound, target_sound, arguments_sound}

-- the target of an assignment is a variable or a place
target_place : (e : ExprTree) → variable_of e ≡ None → is_target e ≡ true → IsPlace e
target_place (expr.Variable name) is e = absurd (some_none is)
  where
    some_none : Some name ≡ None → ⊥
    some_none e = cc
target_place (expr.Root name) is e = tt
target_place (expr.Arrow base place name) is e = tt
target_place (expr.Index base place index) is e = tt
target_place (expr.Number m) is e = absurd (false≢true e)
target_place expr.Null is e = absurd (false≢true e)
target_place (expr.Call name all) is e = absurd (false≢true e)
target_place (expr.New place name) is e = absurd (false≢true e)
target_place (expr.Unary o place a) is e = absurd (false≢true e)
target_place (expr.Binary o place a b) is e = absurd (false≢true e)
target_place (expr.Conditional c place a b) is e = absurd (false≢true e)

variable_below : (k : Context) (r : ℕ) (v : Variables) (e : ExprTree) (name : Ident)
    → Agree k.tables r v.scopes v.locals → variable_of e ≡ Some name
    → broken_in k.tables v.scopes e ≡ [] → register_of name.text v < r
variable_below k r v (expr.Variable x) name a is b =
    subst (λ (y : Ident). register_of y.text v < r) (same_Some x name is)
    (found_register k.tables r (variable_type x.text v.scopes) (variable_register x.text v.locals)
    (found k.tables r x.text v.scopes v.locals a)
    (holds (is_some (variable_type x.text v.scopes)) x.place UnknownName b))
variable_below k r v (expr.Root x) name a is b = absurd (none-some name is)
variable_below k r v (expr.Arrow base place x) name a is b = absurd (none-some name is)
variable_below k r v (expr.Index base place index) name a is b = absurd (none-some name is)
variable_below k r v (expr.Number m) name a is b = absurd (none-some name is)
variable_below k r v expr.Null name a is b = absurd (none-some name is)
variable_below k r v (expr.Call x all) name a is b = absurd (none-some name is)
variable_below k r v (expr.New place x) name a is b = absurd (none-some name is)
variable_below k r v (expr.Unary o place x) name a is b = absurd (none-some name is)
variable_below k r v (expr.Binary o place x y) name a is b = absurd (none-some name is)
variable_below k r v (expr.Conditional c place x y) name a is b = absurd (none-some name is)

place_sound : (k : Context) (ir : Ir) (r n : ℕ) (v : Variables) (e : ExprTree) (p : ℕ)
    → IsPlaced k ir r n → Agree k.tables r v.scopes v.locals → variable_of e ≡ None
    → is_target e ≡ true
    → value_broken k.tables v.scopes e ≡ [] → target_end e p < n
    → AllByRecursion (IsInstruction ir r n) (target_code k v e p)
    × IsTarget ir.shapes r (target_of k v e p)
place_sound k ir r n v e p h a is target b lt =
    let s = target_sound k ir r n v e p h a (target_place e is target)
    (none_left (broken_in k.tables v.scopes e) _ b) lt in (
      s.0,
      value_fits ir.shapes r (broken_in k.tables v.scopes e) (kind_of k.tables v.scopes e)
          (target_of k v e p) b s.1,
    )

value_below : (k : Context) (ir : Ir) (r n : ℕ) (v : Variables) (e : ExprTree) (q : ℕ)
    → IsPlaced k ir r n → Agree k.tables r v.scopes v.locals → value_broken k.tables v.scopes e ≡ []
    → q < n → reg_of k v e q < r
value_below k ir r n v e q h a b lt =
    reg_below k ir r n v e q h a (none_left (broken_in k.tables v.scopes e) _ b) lt

or_sound : (k : Context) (ir : Ir) (r n : ℕ) (v : Variables) (m : ℤ) (e : Option ExprTree) (p : ℕ)
    → IsPlaced k ir r n → Agree k.tables r v.scopes v.locals
    → option_map_or (value_broken k.tables v.scopes) e [] ≡ [] → or_end e p < n
    → AllByRecursion (IsInstruction ir r n) (or_code k v m e p) × (or_reg k v e (or_end e p) < r)
or_sound k ir r n v m None p h a b lt = ((h.below (suc p) lt, tt), h.below (suc p) lt)
or_sound k ir r n v m (Some e) p h a b lt =
    (exp_sound k ir r n v e p h a b lt, value_below k ir r n v e (exp_end e p) h a b lt)

set_sound : (k : Context) (ir : Ir) (r n : ℕ) (v : Variables) (name : Option Ident)
    (target : ExprTree) (place : ℕ) (value : ExprTree) (p : ℕ) → IsPlaced k ir r n
    → Agree k.tables r v.scopes v.locals
    → variable_of target ≡ name → is_target target ≡ true → value_broken k.tables v.scopes target
    ≡ [] → value_broken k.tables v.scopes value ≡ [] → set_end name target value p < n
    → AllByRecursion (IsInstruction ir r n) (set_code k v name target place value p)
set_sound k ir r n v (Some name) target place value p h a is good b c lt =
    all_append (IsInstruction ir r n) (exp_code k v value p) _
    (exp_sound k ir r n v value p h a c (omega (arith, lt))) (
      (
        variable_below k r v target name a is (none_left (broken_in k.tables v.scopes target) _ b),
        value_below k ir r n v value (exp_end value p) h a c (omega (arith, lt)),
      ),
      tt,
    )
set_sound k ir r n v None target place value p h a is good b c lt =
    let q : ℕ = target_end target p in
    let le : q ≤ exp_end value q = exp_end_le value q in
    let t = place_sound k ir r n v target p h a is good b (omega (arith, lt, le)) in
    all_append (IsInstruction ir r n) (target_code k v target p) _ t.0
    (all_append (IsInstruction ir r n) (exp_code k v value q) _
    (exp_sound k ir r n v value q h a c (omega (arith, lt)))
    ((value_below k ir r n v value (exp_end value q) h a c (omega (arith, lt)), t.1), tt))

update_sound : (k : Context) (ir : Ir) (r n : ℕ) (v : Variables) (name : Option Ident)
    (target : ExprTree) (place : ℕ) (o : BinOp) (value : Option ExprTree) (p : ℕ)
    → IsPlaced k ir r n
    → Agree k.tables r v.scopes v.locals
    → variable_of target ≡ name → is_target target ≡ true → value_broken k.tables v.scopes target
    ≡ [] → option_map_or (value_broken k.tables v.scopes) value [] ≡ []
    → update_end name target value p < n
    → AllByRecursion (IsInstruction ir r n) (update_code k v name target place o value p)
update_sound k ir r n v (Some name) target place o value p h a is good b c lt =
    let q : ℕ = or_end value p in
    let s = or_sound k ir r n v (pos 1) value p h a c (omega (arith, lt)) in
    let x : register_of name.text v < r =
    variable_below k r v target name a is (none_left (broken_in k.tables v.scopes target) _ b) in
    let to : k.node (suc q) < r = h.below (suc q) (omega (arith, lt)) in
    all_append (IsInstruction ir r n) (or_code k v (pos 1) value p) _ s.0 (
      (to, x, s.1),
      ((x, to), tt),
    )
update_sound k ir r n v None target place o value p h a is good b c lt =
    let p1 : ℕ = target_end target p in
    let p2 : ℕ = or_end value (suc p1) in
    let le : suc p1 ≤ p2 = or_end_le value (suc p1) in
    let t = place_sound k ir r n v target p h a is good b (omega (arith, lt, le)) in
    let s = or_sound k ir r n v (pos 1) value (suc p1) h a c (omega (arith, lt)) in
    let left : k.node (suc p1) < r = h.below (suc p1) (omega (arith, lt, le)) in
    let to : k.node (suc p2) < r = h.below (suc p2) (omega (arith, lt)) in
    all_append (IsInstruction ir r n) (target_code k v target p) _ t.0 (
      (left, t.1),
      all_append (IsInstruction ir r n) (or_code k v (pos 1) value (suc p1)) _ s.0
          ((to, left, s.1), ((to, t.1), tt)),
    )

pointer_kind : (k : Context) (ir : Ir) (r n : ℕ) (ty : ValueType) → IsPlaced k ir r n
    → IsGood k.tables ty → is_pointer ty ≡ true
    → IsKind ir.shapes (struct_kind_at k.tables (pointed_struct ty))
pointer_kind k ir r n (Pointer i) h g e =
    let kind : IsKindOf k.tables i g.0 = kind_of_struct k.tables i g.0 h.sane.structs g.1 g.2 in
    rw h.shapes kind.kind
pointer_kind k ir r n (Int to) h g e = absurd (false≢true e)
pointer_kind k ir r n Null h g e = absurd (false≢true e)
pointer_kind k ir r n Any h g e = absurd g

simple_sound : (k : Context) (ir : Ir) (r n : ℕ) (v : Variables) (x : SimpleTree) (p : ℕ)
    → IsPlaced k ir r n → Agree k.tables r v.scopes v.locals
    → simple_broken k.tables v.scopes x ≡ [] → simple_end x p < n
    → AllByRecursion (IsInstruction ir r n) (simple_code k v x p)
simple_sound k ir r n v (stmt.Assign target assign.Set place value) p h a b lt =
    let t : Tables = k.tables in
    let c : value_broken t v.scopes target ≡ [] = none_left (value_broken t v.scopes target) _ b in
    let rest = none_right (value_broken t v.scopes target) _ b in
    let d : value_broken t v.scopes value ≡ [] = none_left (value_broken t v.scopes value) _ rest in
    let good : is_target target ≡ true =
    holds (is_target target) place NotAssignable
    (none_right (unless (assigns assign.Set (type_of t v.scopes target)
    (type_of t v.scopes value)) place Mismatch) _
    (none_right (value_broken t v.scopes value) _ rest)) in
    set_sound k ir r n v (variable_of target) target place value p h a refl good c d lt
simple_sound k ir r n v (stmt.Assign target (assign.Update o) place value) p h a b lt =
    let t : Tables = k.tables in
    let c : value_broken t v.scopes target ≡ [] = none_left (value_broken t v.scopes target) _ b in
    let rest = none_right (value_broken t v.scopes target) _ b in
    let d : value_broken t v.scopes value ≡ [] = none_left (value_broken t v.scopes value) _ rest in
    let good : is_target target ≡ true =
    holds (is_target target) place NotAssignable
    (none_right (unless (assigns (assign.Update o) (type_of t v.scopes target)
    (type_of t v.scopes value)) place Mismatch) _
    (none_right (value_broken t v.scopes value) _ rest)) in
    update_sound k ir r n v (variable_of target) target place
    (operation_of (sides_type t v.scopes (update_binary o) target value) (update_operation o))
    (Some value) p h a refl good c d lt
simple_sound k ir r n v (stmt.Step target o place) p h a b lt =
    let t : Tables = k.tables in
    let c : value_broken t v.scopes target ≡ [] = none_left (value_broken t v.scopes target) _ b in
    let rest = none_right (value_broken t v.scopes target) _ b in
    let good : is_target target ≡ true =
    holds (is_target target) place NotAssignable
    (none_right (unless (is_int (type_of t v.scopes target)) place Mismatch) _ rest) in
    update_sound k ir r n v (variable_of target) target place (step_operation o) None p h a refl
    good c refl lt
simple_sound k ir r n v (stmt.Call name all) p h a b lt =
    let t : Tables = k.tables in
    let f : Option FunctionTree = function_named t name.text in
    let args = arguments_sound k ir r n v (parameters_of f) 0 all p h a
    (none_right (call_broken false f (argument_count all) name.place) _ b) (omega (arith, lt)) in
    all_append (IsInstruction ir r n) (arguments_code k v all p) _ args.0 (
      tt,
      (
        (
          h.below (suc (suc (arguments_end all p))) lt,
          args.1,
          call_takes k ir r n v false name all p h
              (none_left (call_broken false f (argument_count all) name.place) _ b),
        ),
        tt,
      ),
    )
simple_sound k ir r n v (stmt.Free place pointer) p h a b lt =
    let t : Tables = k.tables in
    let c : value_broken t v.scopes pointer ≡ [] =
    none_left (value_broken t v.scopes pointer) _ b in
    let good : is_pointer (type_of t v.scopes pointer) ≡ true =
    holds (is_pointer (type_of t v.scopes pointer)) place Mismatch
    (none_right (value_broken t v.scopes pointer) _ b) in
    all_append (IsInstruction ir r n) (exp_code k v pointer p) _
    (exp_sound k ir r n v pointer p h a c (omega (arith, lt))) (
      (
        value_below k ir r n v pointer (exp_end pointer p) h a c (omega (arith, lt)),
        pointer_kind k ir r n (type_of t v.scopes pointer) h (type_good t r v pointer h.sane a c)
            good,
      ),
      tt,
    )
simple_sound k ir r n v (stmt.Abort place) p h a b lt = (tt, tt)

initial_sound : (k : Context) (ir : Ir) (r n : ℕ) (v : Variables) (ty : ValueType)
    (i : Option InitialTree) (p : ℕ) → IsPlaced k ir r n → Agree k.tables r v.scopes v.locals
    → option_map_or (initial_broken k.tables v.scopes ty) i [] ≡ [] → initial_end i p < n
    → AllByRecursion (IsInstruction ir r n) (initial_code k v i p)
initial_sound k ir r n v ty None p h a b lt = (h.below (suc p) lt, tt)
initial_sound k ir r n v ty (Some i) p h a b lt =
    let c : value_broken k.tables v.scopes i.value ≡ [] =
    none_left (value_broken k.tables v.scopes i.value) _ b in
    all_append (IsInstruction ir r n) (exp_code k v i.value p) _
    (exp_sound k ir r n v i.value p h a c (omega (arith, lt))) (
      (
        h.below (suc (exp_end i.value p)) lt,
        value_below k ir r n v i.value (exp_end i.value p) h a c
            (omega (arith, lt)),
      ),
      tt,
    )

declaration_code_sound : (k : Context) (ir : Ir) (r n : ℕ) (s : List Scope) (v : Variables)
    (d : DeclarationTree) (p : ℕ) → IsPlaced k ir r n → Agree k.tables r v.scopes v.locals
    → IsSame s v.scopes
    → declaration_broken k.tables s d ≡ [] → initial_end d.initial p < n
    → AllByRecursion (IsInstruction ir r n) (initial_code k v d.initial p)
declaration_code_sound k ir r n s v d p h a same b lt =
    let t : Tables = k.tables in
    let rest = none_right (type_broken t d.ty) _ b in
    initial_sound k ir r n v (declared_type t d.ty) d.initial p h a
    (sym (initial_same t s v.scopes (declared_type t d.ty) same d.initial)
    ∙ none_left (option_map_or (initial_broken t s (declared_type t d.ty)) d.initial []) _ rest)
    lt

declaration_agree : (k : Context) (ir : Ir) (r n : ℕ) (s : List Scope) (v : Variables)
    (d : DeclarationTree) (p : ℕ) → IsPlaced k ir r n → Agree k.tables r v.scopes v.locals
    → declaration_broken k.tables s d ≡ [] → initial_end d.initial p < n
    → Agree k.tables r (variables_after_declaration k d p v).scopes
    (variables_after_declaration k d p v).locals
declaration_agree k ir r n s v d p h a b lt =
    agree_declared k.tables r d.name.text (declared_type k.tables d.ty)
    (k.node (initial_end d.initial p)) v
    (declared_good k.tables d.ty (none_left (type_broken k.tables d.ty) _ b))
    (h.below (initial_end d.initial p) lt) a

first_sound : (k : Context) (ir : Ir) (r n : ℕ) (s : List Scope) (v : Variables)
    (f : Option FirstTree) (p : ℕ) → IsPlaced k ir r n → Agree k.tables r v.scopes v.locals
    → IsSame s v.scopes
    → option_map_or (first_broken k.tables s) f [] ≡ [] → first_end f p < n
    → AllByRecursion (IsInstruction ir r n) (first_code k v f p)
    × Agree k.tables r (variables_after_first k f p v).scopes
    (variables_after_first k f p v).locals
first_sound k ir r n s v None p h a same b lt = (tt, a)
first_sound k ir r n s v (Some (stmt.Declare d)) p h a same b lt = (
  declaration_code_sound k ir r n s v d p h a same b lt,
  declaration_agree k ir r n s v d p h a b lt,
)
first_sound k ir r n s v (Some (stmt.Simply x)) p h a same b lt =
    (simple_sound k ir r n v x p h a (sym (simple_same k.tables s v.scopes same x) ∙ b) lt, a)

first_alike : (k : Context) (f : Option FirstTree) (p : ℕ) (s : List Scope) (v : Variables)
    → Alike s v.scopes → Alike (option_map_or (λ x. types.scopes_after_first k.tables x s) f s)
    (variables_after_first k f p v).scopes
first_alike k None p s v h = h
first_alike k (Some (stmt.Declare d)) p s v h =
    alike_declared d.name.text (declared_type k.tables d.ty) s v.scopes h
first_alike k (Some (stmt.Simply x)) p s v h = h

third_sound : (k : Context) (ir : Ir) (r n : ℕ) (v : Variables) (x : Option SimpleTree) (p : ℕ)
    → IsPlaced k ir r n → Agree k.tables r v.scopes v.locals
    → option_map_or (simple_broken k.tables v.scopes) x [] ≡ [] → third_end x p < n
    → AllByRecursion (IsInstruction ir r n) (third_code k v x p)
third_sound k ir r n v None p h a b lt = tt
third_sound k ir r n v (Some x) p h a b lt = simple_sound k ir r n v x p h a b lt

agree_after : (k : Context) (ir : Ir) (r n : ℕ) (gives : Option ValueType) (s : List Scope)
    (v : Variables) (x : StmtTree) (p : ℕ) → IsPlaced k ir r n → Agree k.tables r v.scopes v.locals
    → statement_broken k.tables gives s x ≡ [] → stmt_end x p < n
    → Agree k.tables r (variables_after k x p v).scopes (variables_after k x p v).locals
agree_after k ir r n gives s v (stmt.Declares d) p h a b lt =
    declaration_agree k ir r n s v d p h a b lt
agree_after k ir r n gives s v stmt.Empty p h a b lt = a
agree_after k ir r n gives s v (stmt.Simple x) p h a b lt = a
agree_after k ir r n gives s v (stmt.Block all) p h a b lt = a
agree_after k ir r n gives s v (stmt.If c x) p h a b lt = a
agree_after k ir r n gives s v (stmt.IfElse c x y) p h a b lt = a
agree_after k ir r n gives s v (stmt.While place c x) p h a b lt = a
agree_after k ir r n gives s v (stmt.Do place x c) p h a b lt = a
agree_after k ir r n gives s v (stmt.For place first c third x) p h a b lt = a
agree_after k ir r n gives s v stmt.Break p h a b lt = a
agree_after k ir r n gives s v stmt.Continue p h a b lt = a
agree_after k ir r n gives s v (stmt.Return place value) p h a b lt = a

after_alike : (k : Context) (x : StmtTree) (p : ℕ) (s : List Scope) (v : Variables)
    → Alike s v.scopes → Alike (types.scopes_after k.tables x s) (variables_after k x p v).scopes
after_alike k (stmt.Declares d) p s v h =
    alike_declared d.name.text (declared_type k.tables d.ty) s v.scopes h
after_alike k stmt.Empty p s v h = h
after_alike k (stmt.Simple x) p s v h = h
after_alike k (stmt.Block all) p s v h = h
after_alike k (stmt.If c a) p s v h = h
after_alike k (stmt.IfElse c a b) p s v h = h
after_alike k (stmt.While place c a) p s v h = h
after_alike k (stmt.Do place a c) p s v h = h
after_alike k (stmt.For place first c third a) p s v h = h
after_alike k stmt.Break p s v h = h
after_alike k stmt.Continue p s v h = h
after_alike k (stmt.Return place value) p s v h = h

return_value : (k : Context) (gives : Option ValueType) (s : List Scope) (place : ℕ)
    (value : Option ExprTree) → return_broken k.tables gives s place value ≡ []
    → option_map_or (value_broken k.tables s) value [] ≡ []
return_value k gives s place None b = refl
return_value k gives s place (Some e) b = none_left (value_broken k.tables s e) _ b

-- the rules are holds in scopes in which each name means what it means to the code
mutual
  pub stmt_sound : (k : Context) (ir : Ir) (r n : ℕ) (gives : Option ValueType) (s : List Scope)
      (v : Variables) (x : StmtTree) (out again p : ℕ) → IsPlaced k ir r n
      → Agree k.tables r v.scopes v.locals
      → IsSame s v.scopes → statement_broken k.tables gives s x ≡ [] → out < n → again < n
      → stmt_end x p < n → AllByRecursion (IsInstruction ir r n) (stmt_code k v x out again p)
  stmt_sound k ir r n gives s v stmt.Empty out again p h a same b o g lt = tt
  stmt_sound k ir r n gives s v (stmt.Declares d) out again p h a same b o g lt =
      declaration_code_sound k ir r n s v d p h a same b lt
  stmt_sound k ir r n gives s v (stmt.Simple x) out again p h a same b o g lt =
      simple_sound k ir r n v x p h a (sym (simple_same k.tables s v.scopes same x) ∙ b) lt
  stmt_sound k ir r n gives s v (stmt.Block all) out again p h a same b o g lt =
      statements_sound k ir r n gives (types.inner_scopes s) (inner_variables v) all out again p h
      (tt, a) (refl, same) b o g lt
  stmt_sound k ir r n gives s v (stmt.If c x) out again p h a same b o g lt =
      let t : Tables = k.tables in
      let p1 : ℕ = exp_end c p in
      let le : suc p1 ≤ stmt_end x (suc p1) = stmt_end_le x (suc p1) in
      let bc : value_broken t v.scopes c ≡ [] = sym (value_same t s v.scopes same c)
      ∙ none_left (value_broken t s c) _ b in
      all_append (IsInstruction ir r n) (exp_code k v c p) _
      (exp_sound k ir r n v c p h a bc (omega (arith, lt, le))) (
        (value_below k ir r n v c p1 h a bc (omega (arith, lt, le)), lt),
        stmt_sound k ir r n gives (types.inner_scopes s) (inner_variables v) x out again (suc p1) h
            (tt, a) same (none_right (value_broken t s c) _ b) o g lt,
      )
  stmt_sound k ir r n gives s v (stmt.IfElse c x y) out again p h a same b o g lt =
      let t : Tables = k.tables in
      let p1 : ℕ = exp_end c p in
      let p2 : ℕ = stmt_end x (suc p1) in
      let le : suc p1 ≤ p2 = stmt_end_le x (suc p1) in
      let le2 : suc p2 ≤ stmt_end y (suc p2) = stmt_end_le y (suc p2) in
      let bc : value_broken t v.scopes c ≡ [] = sym (value_same t s v.scopes same c)
      ∙ none_left (value_broken t s c) _ b in
      let rest = none_right (value_broken t s c) _ b in
      let bx : statement_broken t gives (types.inner_scopes s) x ≡ [] =
      none_left (statement_broken t gives (types.inner_scopes s) x) _ rest in
      let by : statement_broken t gives (types.inner_scopes s) y ≡ [] =
      none_right (statement_broken t gives (types.inner_scopes s) x) _ rest in
      all_append (IsInstruction ir r n) (exp_code k v c p) _
      (exp_sound k ir r n v c p h a bc (omega (arith, lt, le, le2))) (
        (value_below k ir r n v c p1 h a bc (omega (arith, lt, le, le2)), omega (arith, lt, le2)),
        all_append (IsInstruction ir r n) (stmt_code k (inner_variables v) x out again (suc p1)) _
            (stmt_sound k ir r n gives (types.inner_scopes s) (inner_variables v) x out
            again (suc p1)
            h (tt, a) same bx o g (omega (arith, lt, le2))) (
              lt,
              stmt_sound k ir r n gives (types.inner_scopes s) (inner_variables v) y out again
                  (suc p2) h (tt, a) same by o g lt,
            ),
      )
  stmt_sound k ir r n gives s v (stmt.While place c x) out again p h a same b o g lt =
      let t : Tables = k.tables in
      let p1 : ℕ = exp_end c (suc p) in
      let p2 : ℕ = stmt_end x (suc p1) in
      let le1 : suc p ≤ p1 = exp_end_le c (suc p) in
      let le2 : suc p1 ≤ p2 = stmt_end_le x (suc p1) in
      let bc : value_broken t v.scopes c ≡ [] = sym (value_same t s v.scopes same c)
      ∙ none_left (value_broken t s c) _ b in
      let start : p < n = omega (arith, lt, le1, le2) in (
        tt,
        all_append (IsInstruction ir r n) (exp_code k v c (suc p)) _
            (exp_sound k ir r n v c (suc p) h a bc (omega (arith, lt, le2))) (
              (value_below k ir r n v c p1 h a bc (omega (arith, lt, le2)), lt),
              all_append (IsInstruction ir r n)
                  (stmt_code k (inner_variables v) x (suc p2) p (suc p1))
                  _ (stmt_sound k ir r n gives (types.inner_scopes s) (inner_variables v) x
                  (suc p2) p
                  (suc p1) h (tt, a) same (none_right (value_broken t s c) _ b) lt start
                  (omega (arith, lt)))
                  (start, tt),
            ),
      )
  stmt_sound k ir r n gives s v (stmt.Do place x c) out again p h a same b o g lt =
      let t : Tables = k.tables in
      let p1 : ℕ = stmt_end x p in
      let p2 : ℕ = exp_end c (suc p1) in
      let le1 : p ≤ p1 = stmt_end_le x p in
      let le2 : suc p1 ≤ p2 = exp_end_le c (suc p1) in
      let bx : statement_broken t gives (types.inner_scopes s) x ≡ [] =
      none_left (statement_broken t gives (types.inner_scopes s) x) _ b in
      let bc : value_broken t v.scopes c ≡ [] = sym (value_same t s v.scopes same c)
      ∙ none_right (statement_broken t gives (types.inner_scopes s) x) _ b in
      all_append (IsInstruction ir r n) (stmt_code k (inner_variables v) x (suc (suc p2)) p1 p) _
      (stmt_sound k ir r n gives (types.inner_scopes s) (inner_variables v) x (suc (suc p2)) p1 p h
      (tt, a) same bx lt (omega (arith, lt, le2)) (omega (arith, lt, le2))) (
        tt,
        all_append (IsInstruction ir r n) (exp_code k v c (suc p1)) _
            (exp_sound k ir r n v c (suc p1) h a bc (omega (arith, lt))) (
              (value_below k ir r n v c p2 h a bc (omega (arith, lt)), lt),
              (omega (arith, lt, le1, le2), tt),
            ),
      )
  stmt_sound k ir r n gives s v (stmt.For place first c third x) out again p h a same b o g lt =
      let t : Tables = k.tables in
      let w : Variables = inner_variables v in
      let u : Variables = variables_after_first k first p w in
      let p0 : ℕ = first_end first p in
      let p1 : ℕ = or_end c (suc p0) in
      let p2 : ℕ = stmt_end x (suc p1) in
      let p3 : ℕ = third_end third p2 in
      let le1 : suc p0 ≤ p1 = or_end_le c (suc p0) in
      let le2 : suc p1 ≤ p2 = stmt_end_le x (suc p1) in
      let le3 : p2 ≤ p3 = third_end_le third p2 in
      let start : List Scope = types.inner_scopes s in
      let inner : List Scope = option_map_or (λ f. types.scopes_after_first t f start)
      first start in
      let alike : Alike inner u.scopes = first_alike k first p start w (refl, same) in
      let same_in : IsSame inner u.scopes = alike_same inner u.scopes alike in
      let b0 : option_map_or (first_broken t start) first [] ≡ [] =
      none_left (option_map_or (first_broken t start) first []) _ b in
      let r0 = none_right (option_map_or (first_broken t start) first []) _ b in
      let b1 : option_map_or (value_broken t u.scopes) c [] ≡ [] =
      sym (or_same t inner u.scopes same_in c)
      ∙ none_left (option_map_or (value_broken t inner) c []) _ r0 in
      let r1 = none_right (option_map_or (value_broken t inner) c []) _ r0 in
      let b2 : option_map_or (simple_broken t u.scopes) third [] ≡ [] =
      sym (third_same t inner u.scopes same_in third)
      ∙ none_left (option_map_or (simple_broken t inner) third []) _ r1 in
      let b3 : statement_broken t gives inner x ≡ [] =
      none_right (option_map_or (simple_broken t inner) third []) _ r1 in
      let s0 = first_sound k ir r n start w first p h (tt, a) same b0
      (omega (arith, lt, le1, le2, le3)) in
      let s1 = or_sound k ir r n u (pos 1) c (suc p0) h s0.1 b1 (omega (arith, lt, le2, le3)) in
      all_append (IsInstruction ir r n) (first_code k w first p) _ s0.0 (
        tt,
        all_append (IsInstruction ir r n) (or_code k u (pos 1) c (suc p0)) _ s1.0 (
          (s1.1, lt),
          all_append (IsInstruction ir r n) (stmt_code k (inner_variables u) x (suc p3) p2 (suc p1))
              _
              (stmt_sound k ir r n gives inner (inner_variables u) x (suc p3) p2 (suc p1) h
              (tt, s0.1) same_in b3 lt (omega (arith, lt, le3)) (omega (arith, lt, le3)))
              (all_append (IsInstruction ir r n) (third_code k u third p2) _
              (third_sound k ir r n u third p2 h s0.1 b2 (omega (arith, lt)))
              (omega (arith, lt, le1, le2, le3), tt)),
        ),
      )
  stmt_sound k ir r n gives s v stmt.Break out again p h a same b o g lt = (o, tt)
  stmt_sound k ir r n gives s v stmt.Continue out again p h a same b o g lt = (g, tt)
  stmt_sound k ir r n gives s v (stmt.Return place value) out again p h a same b o g lt =
      let e : option_map_or (value_broken k.tables v.scopes) value [] ≡ [] =
      sym (or_same k.tables s v.scopes same value) ∙ return_value k gives s place value b in
      let c = or_sound k ir r n v (pos 0) value p h a e (omega (arith, lt)) in
      all_append (IsInstruction ir r n) (or_code k v (pos 0) value p) _ c.0 (c.1, tt)

  pub statements_sound : (k : Context) (ir : Ir) (r n : ℕ) (gives : Option ValueType)
      (s : List Scope) (v : Variables) (xs : Statements) (out again p : ℕ) → IsPlaced k ir r n
      → Agree k.tables r v.scopes v.locals
      → Alike s v.scopes → statements_broken k.tables gives s xs ≡ [] → out < n → again < n
      → statements_end xs p < n → AllByRecursion (IsInstruction ir r n)
      (statements_code k v xs out again p)
  statements_sound k ir r n gives s v stmt.Nothing out again p h a alike b o g lt = tt
  statements_sound k ir r n gives s v (stmt.Then x xs) out again p h a alike b o g lt =
      let t : Tables = k.tables in
      let q : ℕ = stmt_end x p in
      let le : q ≤ statements_end xs q = statements_end_le xs q in
      let bx : statement_broken t gives s x ≡ [] = none_left (statement_broken t gives s x) _ b in
      let rest : statements_broken t gives (types.scopes_after t x s) xs ≡ [] =
      none_right (statement_broken t gives s x) _ b in
      all_append (IsInstruction ir r n) (stmt_code k v x out again p) _
      (stmt_sound k ir r n gives s v x out again p h a (alike_same s v.scopes alike) bx o g
      (omega (arith, lt, le)))
      (statements_sound k ir r n gives (types.scopes_after t x s) (variables_after k x p v) xs out
      again q h (agree_after k ir r n gives s v x p h a bx (omega (arith, lt, le)))
      (after_alike k x p s v alike) rest o g lt)

-- the parameters, the next of which is in register i
abbrev ParametersFit : Context → Ir → (r n : ℕ) → Statements → (i : ℕ) → List ParameterTree → ℕ
    → Variables → Type 0
ParametersFit k ir r n body i xs p v =
    AllByRecursion (IsInstruction ir r n) (parameters_code k body i xs p)
    × Agree k.tables r (variables_after_parameters k body i xs p v).scopes
    (variables_after_parameters k body i xs p v).locals
    × (declarations.scopes_after_parameters k.tables v.scopes xs
    ≡ (variables_after_parameters k body i xs p v).scopes)

pub parameters_end_le : (body : Statements) (xs : List ParameterTree) (p : ℕ)
    → p ≤ parameters_end body xs p
parameters_end_le body [] p = omega arith
parameters_end_le body (x ∷ xs) p =
    by_test (is_assigned x.name.text body) (λ q. parameters_end_le body xs q)
  where
    by_test : (b : Bool) → ((q : ℕ) → q ≤ parameters_end body xs q)
        → p ≤ parameters_end body xs (if b then suc p else p)
    by_test true le = omega (arith, le (suc p))
    by_test false le = le p

pub parameters_sound : (k : Context) (ir : Ir) (r n : ℕ) (body : Statements) (i j : ℕ)
    (xs : List ParameterTree) (p : ℕ) (v : Variables) → IsPlaced k ir r n
    → Agree k.tables r v.scopes v.locals
    → parameters_broken k.tables v.scopes j xs ≡ [] → i + length xs ≤ r
    → parameters_end body xs p < n → ParametersFit k ir r n body i xs p v
parameters_sound k ir r n body i j [] p v h a b room lt = (tt, a, refl)
parameters_sound k ir r n body i j (x ∷ xs) p v h a b room lt =
    let t : Tables = k.tables in
    let good : IsGood t (declared_type t x.ty) =
    declared_good t x.ty (none_left (type_broken t x.ty) _
    (none_left (parameter_broken t v.scopes j x) _ b)) in
    by_test (is_assigned x.name.text body) good
    (λ q y below less. parameters_sound k ir r n body (suc i) (j + 1) xs q
    (variable_declared x.name.text (declared_type t x.ty) y v) h
    (agree_declared t r x.name.text (declared_type t x.ty) y v good below a)
    (none_right (parameter_broken t v.scopes j x) _ b) (omega (arith, room)) less)
    lt
  where
    by_test : (c : Bool) → IsGood k.tables (declared_type k.tables x.ty)
        → ((q y : ℕ) → y < r → parameters_end body xs q < n
        → ParametersFit k ir r n body (suc i) xs q
        (variable_declared x.name.text (declared_type k.tables x.ty) y v))
        → parameters_end body xs (if c then suc p else p) < n
        → AllByRecursion (IsInstruction ir r n)
        (if c then Copy (k.node (suc p)) i ∷ parameters_code k body (suc i) xs (suc p)
        else parameters_code k body (suc i) xs p)
        × Agree k.tables r (if c then variables_after_parameters k body (suc i) xs (suc p)
        (variable_declared x.name.text (declared_type k.tables x.ty) (k.node (suc p)) v)
        else variables_after_parameters k body (suc i) xs p
        (variable_declared x.name.text (declared_type k.tables x.ty) i v)).scopes
        (if c then variables_after_parameters k body (suc i) xs (suc p)
        (variable_declared x.name.text (declared_type k.tables x.ty) (k.node (suc p)) v)
        else variables_after_parameters k body (suc i) xs p
        (variable_declared x.name.text (declared_type k.tables x.ty) i v)).locals
        × (declarations.scopes_after_parameters k.tables v.scopes (x ∷ xs)
        ≡ (if c then variables_after_parameters k body (suc i) xs (suc p)
        (variable_declared x.name.text (declared_type k.tables x.ty) (k.node (suc p)) v)
        else variables_after_parameters k body (suc i) xs p
        (variable_declared x.name.text (declared_type k.tables x.ty) i v)).scopes)
    by_test true good rest lt =
        let le : suc p ≤ parameters_end body xs (suc p) = parameters_end_le body xs (suc p) in
        let to : k.node (suc p) < r = h.below (suc p) (omega (arith, lt, le)) in
        let s = rest (suc p) (k.node (suc p)) to lt in
        (((to, omega (arith, room)), s.0), s.1, s.2)
    by_test false good rest lt = rest p i (omega (arith, room)) lt
