-- What the code that finds the functions that store needs: a call, a block, and the rounds.
use Rattle.std.proofs.Common.{◌≡◌, ℕ, zero, suc, ◌+◌, ◌-◌, ◌<◌, Bool, true, false, List, refl, sym}
use Rattle.std.proofs.Common.{ap, ◌∙◌, arith, Vec, Global}
use Rattle.std.specs.Prelude.{map, ◌||◌}
use Rattle.std.specs.Cmp.{booleans_Decides}
use Rattle.std.specs.Cmp.Lexicographic.{pointwise}
use Rattle.std.proofs.Math.Bool.{beq}
use Rattle.std.proofs.lemmas.Slice.Eq.{slice_eq-Decides}
use Rattle.c_tree.specs.declared.expr.Name.{Name}
use Rattle.c_tree.specs.declared.expr.Argument.{Argument}
use Rattle.c_tree.specs.declared.expr.Expr.{Expr}
use Rattle.c_tree.specs.declared.expr.Expr.TheVariants as expr
use Rattle.c_tree.specs.declared.stmt.Stmt.{Stmt}
use Rattle.c_tree.specs.declared.stmt.Stmt.TheVariants as stmt
use Rattle.c_tree.specs.ExprTree.{expr_of, arguments_in}
use Rattle.c_tree.specs.StmtTree.{stmt_of, statements_in}
use Rattle.c_tree.specs.ItemTree.{FunctionTree}
use Rattle.c_tree.proofs.Trees.{expr_of-Call, stmt_of-Block}
use Rattle.c_types.specs.Tables.{Tables}
use Rattle.c_types.specs.Looking.{is_known, exp_stores, arguments_store, statement_stores}
use Rattle.c_types.specs.Looking.{statements_store, next_known, known_after}

-- a call of a function that isn't known to store does so by its arguments
pub call_stores : (t : Tables) (known : List Bool) (e : Expr) (name : Name)
    (all : Vec Argument Global) (r : Bool) (xs : List Argument) → e ≡ expr.Call name all
    → is_known t known name.text ≡ false → r ≡ arguments_store t known (arguments_in xs)
    → xs ≡ all.items → r ≡ exp_stores t known (expr_of e)
call_stores t known e name all r xs is none told same =
    let items : Bool = arguments_store t known (arguments_in all.items) in
    told ∙ (ap (λ (ys : List Argument). arguments_store t known (arguments_in ys)) same
    ∙ (sym (ap (λ (b : Bool). b || items) none)
    ∙ sym (ap (exp_stores t known) (ap expr_of is ∙ expr_of-Call name all))))

pub block_stores : (t : Tables) (known : List Bool) (x : Stmt) (all : Vec Stmt Global) (r : Bool)
    (xs : List Stmt) → x ≡ stmt.Block all → r ≡ statements_store t known (statements_in xs)
    → xs ≡ all.items → r ≡ statement_stores t known (stmt_of x)
block_stores t known x all r xs is told same =
    told ∙ (ap (λ (ys : List Stmt). statements_store t known (statements_in ys)) same
    ∙ sym (ap (statement_stores t known) (ap stmt_of is ∙ stmt_of-Block all)))

-- what a round over a program's functions tells
pub round_is : (t : Tables) (fs : List FunctionTree) (known seen next : List Bool)
    → next ≡ map (λ (f : FunctionTree). statements_store t seen f.body) fs → seen ≡ known
    → fs ≡ t.functions → next ≡ next_known t known
round_is t fs known seen next told same all =
    told ∙ (ap (λ (k : List Bool). map (λ (f : FunctionTree). statements_store t k f.body) fs) same
    ∙ ap (map (λ (f : FunctionTree). statements_store t known f.body)) all)

-- a round is done
pub round_done : (t : Tables) (n i : ℕ) (known next all : List Bool) → i < n
    → next ≡ next_known t known → known_after t (n - i) known ≡ all
    → known_after t (n - (i + 1)) next ≡ all
round_done t n i known next all lt is left =
    let one : n - i ≡ suc (n - (i + 1)) = omega (arith, lt) in
    ap (known_after t (n - (i + 1))) is
    ∙ (sym (ap (λ (m : ℕ). known_after t m known) one) ∙ left)

-- where a round tells nothing new, no further round does
pub rounds_stay : (t : Tables) (n : ℕ) (known : List Bool) → next_known t known ≡ known
    → known_after t n known ≡ known
rounds_stay t zero known same = refl
rounds_stay t (suc n) known same = ap (known_after t n) same ∙ rounds_stay t n known same

pub rounds_end : (t : Tables) (n : ℕ) (known next all xs ys : List Bool) (r : Bool)
    → r ≡ pointwise beq xs ys → xs ≡ next → ys ≡ known → r ≡ true → next ≡ next_known t known
    → known_after t n known ≡ all → known ≡ all
rounds_end t n known next all xs ys r compared one other same is left =
    let e : xs ≡ ys = (slice_eq-Decides booleans_Decides xs ys r compared).0 same in
    let nothing : next_known t known ≡ known = sym is ∙ (sym one ∙ (e ∙ other)) in
    sym (rounds_stay t n known nothing) ∙ left
