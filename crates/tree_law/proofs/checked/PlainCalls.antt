-- The code of an expression that breaks no rule calls no transaction, and has no log.
use Rattle.std.proofs.Common.{◌≡◌, ℕ, suc, ◌+◌, ◌≤◌, ◌<◌, Bool, true, false, List, [], ◌++◌, length}
use Rattle.std.proofs.Common.{ap, ◌∙◌, arith}
use Rattle.std.specs.Prelude.{nat_eq, ◌||◌, not, is_some, slice_get, Option, Some}
use Rattle.std.specs.List.{AllByRecursion}
use Rattle.std.proofs.lemmas.Option.{slice_get_within}
use Rattle.std.proofs.lemmas.Bool.{not-true}
use Rattle.nvm_base.proofs.Lists.{all_append}
use Rattle.c_tree.specs.declared.expr.UnaryOp.TheVariants as unary
use Rattle.c_tree.specs.ExprTree as expr
use Rattle.c_tree.specs.ExprTree.{ExprTree, Arguments, Ident}
use Rattle.c_tree.specs.ItemTree.{FunctionTree, ParameterTree}
use Rattle.c_types.specs.declared.broken.Rule.TheVariants.{Mismatch, Arity, BadTx}
use Rattle.c_types.specs.Broken.{unless}
use Rattle.c_types.specs.Fits.{type_takes}
use Rattle.c_types.specs.Tables.{Tables, index_of, function_names, function_named}
use Rattle.c_types.specs.Expressions.{Scope, value_broken, call_broken, parameters_of}
use Rattle.c_types.specs.Expressions.{parameter_type, argument_count, type_of, broken_in}
use Rattle.c_types.specs.Expressions.{broken_in_all, sides_type}
use Rattle.c_types.proofs.Unbroken.{none_left, none_right, holds}
use Rattle.ir.specs.declared.instruction.Instruction.{Instruction}
use Rattle.ir.specs.declared.instruction.Instruction.TheVariants.{Const, Copy, Bin, Jump, Branch}
use Rattle.ir.specs.declared.instruction.Instruction.TheVariants.{Load, Store, New, Free, Call}
use Rattle.ir.specs.declared.instruction.Instruction.TheVariants.{Return, Tick, Trap, Log}
use Rattle.lower.specs.declared.form.Form.{Form}
use Rattle.lower.specs.declared.form.Form.TheVariants.{Both, Either, Direct, Exchanged}
use Rattle.lower.specs.Forms.{form_of, typed_form}
use Rattle.lower.specs.Names.{Variables, found_number, function_number}
use Rattle.lower.specs.Lowers.{Context, exp_end, exp_code, reg_of, target_end, target_code}
use Rattle.lower.specs.Lowers.{arguments_code, form_code}
use Rattle.lower.proofs.Sane.{IsSane}
use Rattle.lower.proofs.GoodTypes.{callee, function_there}

-- function g exists, and is no transaction
abbrev pub IsPlain : Tables → ℕ → Type 0
IsPlain t g = (f : FunctionTree) × (slice_get t.functions g ≡ Some f) × (f.tx ≡ false)

-- an instruction is no log, and what it calls, if anything, is no transaction
abbrev pub IsPlainInstruction : Tables → Instruction → Type 0
IsPlainInstruction t (Call to g args) = IsPlain t g
IsPlainInstruction t (Const to value) = Unit {0}
IsPlainInstruction t (Copy to from) = Unit {0}
IsPlainInstruction t (Bin op to left right) = Unit {0}
IsPlainInstruction t (Jump place) = Unit {0}
IsPlainInstruction t (Branch on place) = Unit {0}
IsPlainInstruction t (Load to target) = Unit {0}
IsPlainInstruction t (Store target from line) = Unit {0}
IsPlainInstruction t (New to kind log_fill line) = Unit {0}
IsPlainInstruction t (Free from kind line) = Unit {0}
IsPlainInstruction t (Return from) = Unit {0}
IsPlainInstruction t Tick = Unit {0}
IsPlainInstruction t (Trap kind) = Unit {0}
IsPlainInstruction t (Log target) = ⊥

abbrev pub AllPlain : Tables → List Instruction → Type 0
AllPlain t is = AllByRecursion (IsPlainInstruction t) is

pub both_plain : (t : Tables) (is js : List Instruction) → AllPlain t is → AllPlain t js
    → AllPlain t (is ++ js)
both_plain t is js a b = all_append (IsPlainInstruction t) is js a b

-- a call that is allowed
pub call_plain : (t : Tables) (wanted : Bool) (name : Ident) (n : ℕ) → IsSane t
    → call_broken wanted (function_named t name.text) n name.place ≡ []
    → IsPlain t (function_number t name.text)
call_plain t wanted name n h e =
    let c = callee wanted (function_named t name.text) n name.place e in
    let f : FunctionTree = c.0 in
    let there : (i : ℕ) × (index_of name.text (function_names t) ≡ Some i)
    × (slice_get t.functions i ≡ Some f) = function_there t name.text f c.1 in
    let number : function_number t name.text ≡ there.0 =
    ap found_number there.1 ∙ small_number there.0
    (slice_get_within t.functions there.0 f there.2) h.functions in
    let plain : not f.tx ≡ true = holds (not f.tx) name.place BadTx
    (none_right (unless (nat_eq n (length f.parameters)) name.place Arity) _
    (none_right (unless (not wanted || is_some f.result_type) name.place Mismatch) _ c.2)) in
    (f, rw number there.2, not-true f.tx plain)
  where
    small_number : (n : ℕ) → n < length t.functions → length t.functions ≤ 1024
        → found_number (Some n) ≡ n
    small_number n lt le = omega (arith, lt, le)

form_plain : (t : Tables) (f : Form) (node : ℕ → ℕ) (code : ℕ → List Instruction) (end reg : ℕ → ℕ)
    (on p : ℕ) → ((q : ℕ) → AllPlain t (code q)) → AllPlain t (form_code f node code end reg on p)
form_plain t Both node code end reg on p all =
    (tt, both_plain t (code (suc p)) _ (all (suc p)) (tt, (tt, (tt, (tt, tt)))))
form_plain t Either node code end reg on p all =
    (tt, (tt, both_plain t (code (suc (suc p))) _ (all (suc (suc p))) (tt, (tt, (tt, (tt, tt))))))
form_plain t (Direct o) node code end reg on p all = both_plain t (code p) _ (all p) (tt, tt)
form_plain t (Exchanged o) node code end reg on p all = both_plain t (code p) _ (all p) (tt, tt)

value_own : (t : Tables) (s : List Scope) (e : ExprTree) → value_broken t s e ≡ []
    → broken_in t s e ≡ []
value_own t s e b = none_left (broken_in t s e) _ b

-- the rules are holds in any scopes, since the meaning of a function's name doesn't depend on them
mutual
  pub exp_plain : (k : Context) (s : List Scope) (v : Variables) (e : ExprTree) (p : ℕ)
      → IsSane k.tables → broken_in k.tables s e ≡ [] → AllPlain k.tables (exp_code k v e p)
  exp_plain k s v (expr.Number m) p h b = (tt, tt)
  exp_plain k s v expr.Null p h b = (tt, tt)
  exp_plain k s v (expr.Variable name) p h b = tt
  exp_plain k s v (expr.Call name all) p h b =
      let t : Tables = k.tables in
      let f : Option FunctionTree = function_named t name.text in
      both_plain t (arguments_code k v all p) _
      (arguments_plain k s v (parameters_of f) 0 all p h
      (none_right (call_broken true f (argument_count all) name.place) _ b)) (
        tt,
        (
          call_plain t true name (argument_count all) h
              (none_left (call_broken true f (argument_count all) name.place) _ b),
          tt,
        ),
      )
  exp_plain k s v (expr.Root name) p h b = (tt, tt)
  exp_plain k s v (expr.New place name) p h b = (tt, tt)
  exp_plain k s v (expr.Arrow base place name) p h b =
      let t : Tables = k.tables in
      both_plain t (exp_code k v base p) _
      (exp_plain k s v base p h (value_own t s base (none_left (value_broken t s base) _ b)))
      (tt, tt)
  exp_plain k s v (expr.Index base place index) p h b =
      let t : Tables = k.tables in
      let q : ℕ = target_end base p in
      let rest = none_right (broken_in t s base) _ b in
      both_plain t (target_code k v base p ++ exp_code k v index q) _
      (both_plain t (target_code k v base p) _
      (target_plain k s v base p h (none_left (broken_in t s base) _ b))
      (exp_plain k s v index q h (value_own t s index
      (none_left (value_broken t s index) _ rest))))
      (tt, tt)
  exp_plain k s v (expr.Unary unary.Negate place x) p h b =
      let t : Tables = k.tables in (
        tt,
        both_plain t (exp_code k v x (suc p)) _
            (exp_plain k s v x (suc p) h (value_own t s x (none_left (value_broken t s x) _ b)))
            (tt, tt),
      )
  exp_plain k s v (expr.Unary unary.Complement place x) p h b =
      let t : Tables = k.tables in (
        tt,
        both_plain t (exp_code k v x (suc p)) _
            (exp_plain k s v x (suc p) h (value_own t s x (none_left (value_broken t s x) _ b)))
            (tt, tt),
      )
  exp_plain k s v (expr.Unary unary.Not place x) p h b =
      let t : Tables = k.tables in
      both_plain t (exp_code k v x p) _
      (exp_plain k s v x p h (value_own t s x (none_left (value_broken t s x) _ b)))
      (tt, (tt, tt))
  exp_plain k s v (expr.Unary (unary.Cast n) place x) p h b =
      let t : Tables = k.tables in
      exp_plain k s v x p h (value_own t s x (none_left (value_broken t s x) _ b))
  exp_plain k s v (expr.Binary o place x y) p h b =
      let t : Tables = k.tables in
      let q : ℕ = exp_end x p in
      let bx : broken_in t s x ≡ [] = value_own t s x (none_left (value_broken t s x) _ b) in
      let by : broken_in t s y ≡ [] =
      value_own t s y (none_left (value_broken t s y) _ (none_right (value_broken t s x) _ b)) in
      both_plain t (exp_code k v x p) _ (exp_plain k s v x p h bx)
      (form_plain t (typed_form (sides_type t v.scopes o x y) (form_of o)) k.node (exp_code k v y)
      (exp_end y) (reg_of k v y) (reg_of k v x q) q (λ z. exp_plain k s v y z h by))
  exp_plain k s v (expr.Conditional c place x y) p h b =
      let t : Tables = k.tables in
      let p1 : ℕ = exp_end c p in
      let p2 : ℕ = exp_end x (suc p1) in
      let sides = none_right (value_broken t s c) _ b in
      let bc : broken_in t s c ≡ [] = value_own t s c (none_left (value_broken t s c) _ b) in
      let bx : broken_in t s x ≡ [] = value_own t s x (none_left (value_broken t s x) _ sides) in
      let by : broken_in t s y ≡ [] =
      value_own t s y (none_left (value_broken t s y) _
      (none_right (value_broken t s x) _ sides)) in
      both_plain t (exp_code k v c p) _ (exp_plain k s v c p h bc) (
        tt,
        both_plain t (exp_code k v x (suc p1)) _ (exp_plain k s v x (suc p1) h bx) (
          tt,
          (
            tt,
            both_plain t (exp_code k v y (suc (suc p2))) _
                (exp_plain k s v y (suc (suc p2)) h by) (tt, tt),
          ),
        ),
      )

  pub target_plain : (k : Context) (s : List Scope) (v : Variables) (e : ExprTree) (p : ℕ)
      → IsSane k.tables → broken_in k.tables s e ≡ [] → AllPlain k.tables (target_code k v e p)
  target_plain k s v (expr.Root name) p h b = tt
  target_plain k s v (expr.Arrow base place name) p h b =
      let t : Tables = k.tables in
      exp_plain k s v base p h (value_own t s base (none_left (value_broken t s base) _ b))
  target_plain k s v (expr.Index base place index) p h b =
      let t : Tables = k.tables in
      let rest = none_right (broken_in t s base) _ b in
      both_plain t (target_code k v base p) _
      (target_plain k s v base p h (none_left (broken_in t s base) _ b))
      (exp_plain k s v index (target_end base p) h
      (value_own t s index (none_left (value_broken t s index) _ rest)))
  target_plain k s v (expr.Number m) p h b = tt
  target_plain k s v expr.Null p h b = tt
  target_plain k s v (expr.Variable name) p h b = tt
  target_plain k s v (expr.Call name all) p h b = tt
  target_plain k s v (expr.New place name) p h b = tt
  target_plain k s v (expr.Unary o place x) p h b = tt
  target_plain k s v (expr.Binary o place x y) p h b = tt
  target_plain k s v (expr.Conditional c place x y) p h b = tt

  pub arguments_plain : (k : Context) (s : List Scope) (v : Variables) (ps : List ParameterTree)
      (i : ℕ) (es : Arguments) (p : ℕ) → IsSane k.tables → broken_in_all k.tables s ps i es ≡ []
      → AllPlain k.tables (arguments_code k v es p)
  arguments_plain k s v ps i expr.None p h b = tt
  arguments_plain k s v ps i (expr.More first x rest) p h b =
      let t : Tables = k.tables in
      let later : broken_in_all t s ps (i + 1) rest ≡ [] =
      none_right (unless (type_takes (parameter_type t ps i) (type_of t s x)) first Mismatch) _
      (none_right (value_broken t s x) _ b) in
      both_plain t (exp_code k v x p) _
      (exp_plain k s v x p h (value_own t s x (none_left (value_broken t s x) _ b)))
      (arguments_plain k s v ps (i + 1) rest (exp_end x p) h later)
