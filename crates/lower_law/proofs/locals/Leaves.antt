-- What instructions assign: those of expressions assign registers of places, which come after the
-- parameters.
use Rattle.std.proofs.Common.{◌≡◌, ℕ, suc, ◌≤◌, ℤ, Bool, true, false, List, ◌∷◌, ◌++◌, refl, sym}
use Rattle.std.proofs.Common.{◌∙◌, arith}
use Rattle.std.specs.Prelude.{Option, None, Some, if◌then◌else◌, bytes_eq}
use Rattle.std.specs.List.{AllByRecursion}
use Rattle.std.proofs.lemmas.Slice.Eq.{bytes_eq-Decides}
use Rattle.std.proofs.lemmas.Bool.{false≢true}
use Rattle.std.proofs.lemmas.Option.{same_Some}
use Rattle.nvm_base.proofs.Lists.{all_append}
use Rattle.c_tree.specs.declared.expr.IntType.{IntType}
use Rattle.c_tree.specs.declared.expr.UnaryOp.TheVariants as unary
use Rattle.c_tree.specs.ExprTree as expr
use Rattle.c_tree.specs.ExprTree.{ExprTree, Arguments}
use Rattle.c_tree.specs.StmtTree.{InitialTree}
use Rattle.c_types.specs.Expressions.{sides_type}
use Rattle.ir.specs.declared.instruction.Instruction.{Instruction}
use Rattle.lower.specs.declared.form.Form.{Form}
use Rattle.lower.specs.declared.form.Form.TheVariants.{Both, Either, Direct, Exchanged}
use Rattle.lower.specs.Forms.{form_of, typed_form}
use Rattle.lower.specs.Names.{Variables}
use Rattle.lower.specs.Lowers.{Context, exp_end, exp_code, reg_of, target_end, target_code}
use Rattle.lower.specs.Lowers.{arguments_end, arguments_code, form_code, truth_code, or_code}
use Rattle.lower.specs.Lowers.{initial_code}
use Rattle.code_meaning.specs.Parameters.{assigned_register}
use Rattle.lower_law.proofs.locals.Locals.{Entry, entry_register}

-- a register, if any, from n on
abbrev pub IsFrom : ℕ → Option ℕ → Type 0
IsFrom n None = Unit {0}
IsFrom n (Some r) = n ≤ r

abbrev pub Leaves : ℕ → Instruction → Type 0
Leaves n i = IsFrom n (assigned_register i)

abbrev pub AllLeave : ℕ → List Instruction → Type 0
AllLeave n is = AllByRecursion (Leaves n) is

pub both_leave : (n : ℕ) (is js : List Instruction) → AllLeave n is → AllLeave n js
    → AllLeave n (is ++ js)
both_leave n is js a b = all_append (Leaves n) is js a b

-- no name that the test accepts has a register below n; those are the parameters'
abbrev pub Spares : ℕ → List Entry → (List ℕ → Bool) → Type 0
Spares n es test = (name : List ℕ) (r : ℕ) → entry_register name es ≡ Some r
    → test name ≡ true → n ≤ r

pub bytes_self : (x : List ℕ) → bytes_eq x x ≡ true
bytes_self x = (bytes_eq-Decides x x).1 refl

pub bytes_swap : (x y : List ℕ) → bytes_eq x y ≡ true → bytes_eq y x ≡ true
bytes_swap x y e = (bytes_eq-Decides y x).1 (sym ((bytes_eq-Decides x y).0 e))

pub bytes_turned : (x y : List ℕ) → bytes_eq x y ≡ false → bytes_eq y x ≡ false
bytes_turned x y e = by_test (bytes_eq y x) refl
  where
    by_test : (b : Bool) → bytes_eq y x ≡ b → b ≡ false
    by_test true at = absurd (false≢true (sym e ∙ bytes_swap y x at))
    by_test false at = refl

-- a test that holds if one of its parts does
pub spares_part : (n : ℕ) (es : List Entry) (f g : List ℕ → Bool)
    → ((name : List ℕ) → g name ≡ true → f name ≡ true) → Spares n es f → Spares n es g
spares_part n es f g part h name r is e = h name r is (part name e)

-- a declared name has its own register
pub spares_declared : (n : ℕ) (es : List Entry) (x : Entry) (f g : List ℕ → Bool) → n ≤ x.register
    → ((name : List ℕ) → bytes_eq name x.name ≡ false → g name ≡ true → f name ≡ true)
    → Spares n es f
    → Spares n (x ∷ es) g
spares_declared n es x f g le part h name r is e = by_test (bytes_eq name x.name) refl is
  where
    by_test : (b : Bool) → bytes_eq name x.name ≡ b
        → (if b then Some x.register else entry_register name es) ≡ Some r → n ≤ r
    by_test true at is = let same : x.register ≡ r = same_Some x.register r is in
        omega (arith, le, same)
    by_test false at is = h name r is (part name at e)

module _ (n : ℕ) (k : Context) (from : (q : ℕ) → n ≤ k.node q) where
  pub outcome_leaves : (on to p : ℕ) → n ≤ to → AllLeave n (truth_code on to p)
  outcome_leaves on to p le = (tt, (le, (tt, (le, tt))))

  pub form_leaves : (f : Form) (code : ℕ → List Instruction) (end reg : ℕ → ℕ) (on p : ℕ)
      → ((q : ℕ) → AllLeave n (code q)) → AllLeave n (form_code f k.node code end reg on p)
  form_leaves Both code end reg on p all =
      let q : ℕ = end (suc p) in (
        tt,
        both_leave n (code (suc p)) _ (all (suc p))
            (outcome_leaves (reg q) (k.node (suc (suc (suc (suc q))))) q
            (from (suc (suc (suc (suc q)))))),
      )
  form_leaves Either code end reg on p all =
      let q : ℕ = end (suc (suc p)) in (
        tt,
        (
          tt,
          both_leave n (code (suc (suc p))) _ (all (suc (suc p)))
              (outcome_leaves (reg q) (k.node (suc (suc (suc (suc q))))) q
              (from (suc (suc (suc (suc q)))))),
        ),
      )
  form_leaves (Direct o) code end reg on p all =
      both_leave n (code p) _ (all p) (from (suc (end p)), tt)
  form_leaves (Exchanged o) code end reg on p all =
      both_leave n (code p) _ (all p) (from (suc (end p)), tt)

  mutual
    pub exp_leaves : (v : Variables) (e : ExprTree) (p : ℕ) → AllLeave n (exp_code k v e p)
    exp_leaves v (expr.Number m) p = (from (suc p), tt)
    exp_leaves v expr.Null p = (from (suc p), tt)
    exp_leaves v (expr.Variable name) p = tt
    exp_leaves v (expr.Call name all) p =
        both_leave n (arguments_code k v all p) _ (arguments_leave v all p)
        (tt, (from (suc (suc (arguments_end all p))), tt))
    exp_leaves v (expr.Root name) p = (from (suc p), tt)
    exp_leaves v (expr.New place name) p = (from (suc p), tt)
    exp_leaves v (expr.Arrow base place name) p =
        both_leave n (exp_code k v base p) _ (exp_leaves v base p) (from (suc (exp_end base p)), tt)
    exp_leaves v (expr.Index base place index) p =
        let q : ℕ = target_end base p in
        both_leave n (target_code k v base p ++ exp_code k v index q) _
        (both_leave n (target_code k v base p) _ (target_leaves v base p) (exp_leaves v index q))
        (from (suc (exp_end index q)), tt)
    exp_leaves v (expr.Unary unary.Negate place a) p = (
      from (suc p),
      both_leave n (exp_code k v a (suc p)) _ (exp_leaves v a (suc p))
          (from (suc (exp_end a (suc p))), tt),
    )
    exp_leaves v (expr.Unary unary.Complement place a) p = (
      from (suc p),
      both_leave n (exp_code k v a (suc p)) _ (exp_leaves v a (suc p))
          (from (suc (exp_end a (suc p))), tt),
    )
    exp_leaves v (expr.Unary unary.Not place a) p =
        let q : ℕ = exp_end a p in
        both_leave n (exp_code k v a p) _ (exp_leaves v a p) (
          from (suc q),
          (from (suc (suc q)), tt),
        )
    exp_leaves v (expr.Unary (unary.Cast to) place a) p = exp_leaves v a p
    exp_leaves v (expr.Binary o place a b) p =
        let q : ℕ = exp_end a p in
        let form : Form = typed_form (sides_type k.tables v.scopes o a b) (form_of o) in
        both_leave n (exp_code k v a p) _ (exp_leaves v a p)
        (form_leaves form (exp_code k v b) (exp_end b) (reg_of k v b) (reg_of k v a q) q
        (λ z. exp_leaves v b z))
    exp_leaves v (expr.Conditional c place a b) p =
        let p1 : ℕ = exp_end c p in
        let p2 : ℕ = exp_end a (suc p1) in
        let p3 : ℕ = exp_end b (suc (suc p2)) in
        both_leave n (exp_code k v c p) _ (exp_leaves v c p) (
          tt,
          both_leave n (exp_code k v a (suc p1)) _ (exp_leaves v a (suc p1)) (
            from (suc p3),
            (
              tt,
              both_leave n (exp_code k v b (suc (suc p2))) _ (exp_leaves v b (suc (suc p2)))
                  (from (suc p3), tt),
            ),
          ),
        )

    pub target_leaves : (v : Variables) (e : ExprTree) (p : ℕ) → AllLeave n (target_code k v e p)
    target_leaves v (expr.Arrow base place name) p = exp_leaves v base p
    target_leaves v (expr.Index base place index) p =
        both_leave n (target_code k v base p) _ (target_leaves v base p)
        (exp_leaves v index (target_end base p))
    target_leaves v (expr.Root name) p = tt
    target_leaves v (expr.Number m) p = tt
    target_leaves v expr.Null p = tt
    target_leaves v (expr.Variable name) p = tt
    target_leaves v (expr.Call name all) p = tt
    target_leaves v (expr.New place name) p = tt
    target_leaves v (expr.Unary o place a) p = tt
    target_leaves v (expr.Binary o place a b) p = tt
    target_leaves v (expr.Conditional c place a b) p = tt

    pub arguments_leave : (v : Variables) (all : Arguments) (p : ℕ)
        → AllLeave n (arguments_code k v all p)
    arguments_leave v expr.None p = tt
    arguments_leave v (expr.More first e rest) p =
        both_leave n (exp_code k v e p) _ (exp_leaves v e p) (arguments_leave v rest (exp_end e p))

  pub or_leaves : (v : Variables) (m : ℤ) (e : Option ExprTree) (p : ℕ)
      → AllLeave n (or_code k v m e p)
  or_leaves v m None p = (from (suc p), tt)
  or_leaves v m (Some e) p = exp_leaves v e p

  pub initial_leaves : (v : Variables) (i : Option InitialTree) (p : ℕ)
      → AllLeave n (initial_code k v i p)
  initial_leaves v None p = (from (suc p), tt)
  initial_leaves v (Some i) p = both_leave n (exp_code k v i.value p) _ (exp_leaves v i.value p)
      (from (suc (exp_end i.value p)), tt)
