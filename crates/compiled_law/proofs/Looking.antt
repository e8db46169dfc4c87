-- A transaction of a compiled program that is marked `const` isn't among the functions that store.
use Rattle.std.proofs.Common.{◌≡◌, ℕ, Bool, true, false, List, [], Some, refl, sym, ap, ◌∙◌}
use Rattle.std.specs.Prelude.{not, slice_get, unwrap_or, Option, option_map}
use Rattle.std.specs.Option.{option_map_or}
use Rattle.std.proofs.lemmas.Bool.{false≢true}
use Rattle.std.proofs.lemmas.Option.{slice_get-map}
use Rattle.c_tree.specs.declared.item.Marked.{Marked}
use Rattle.c_tree.specs.declared.item.Marked.TheVariants as mark
use Rattle.c_tree.specs.ItemTree.{FunctionTree}
use Rattle.c_tree.specs.Program.{Program, tree_of}
use Rattle.c_types.specs.Fault.{breaks}
use Rattle.c_types.specs.Looking.{statements_store, storing}
use Rattle.c_types.specs.Tables.{Tables, tables_of}
use Rattle.c_types.specs.Transactions.{is_const}
use Rattle.rules_law.specs.rules.Stores.{Stores}
use Rattle.rules_law.proofs.rules.Storing.{storing_settled, stores_from}
use Rattle.rules_law.proofs.typed.Programs.{well_typed}
use Rattle.look_law.specs.Code.{looking_by}

const_is : (m : Marked) → is_const m ≡ true → m ≡ mark.Const
const_is mark.Plain is = absurd (false≢true is)
const_is mark.Abort is = absurd (false≢true is)
const_is mark.Const is = refl

-- what the rules refuse isn't there
no_store : (t : Tables) (f : FunctionTree) (b : Bool) → statements_store t (storing t) f.body ≡ b
    → (Stores t f → ⊥) → b ≡ false
no_store t f true stores none = absurd (none (stores_from t f stores))
no_store t f false stores none = refl

-- a function that is there and marked
pub named_const : (o : Option FunctionTree) (f : FunctionTree) → o ≡ Some f
    → option_map_or (λ (f : FunctionTree). is_const f.mark) o false ≡ true
    → is_const f.mark ≡ true
named_const o f named is =
    sym (ap (λ (x : Option FunctionTree).
    option_map_or (λ (f : FunctionTree). is_const f.mark) x false) named) ∙ is

pub only_looks : (tree : Program) (g : ℕ) (f : FunctionTree) → breaks tree ≡ []
    → slice_get (tables_of (tree_of tree)).functions g ≡ Some f → is_const f.mark ≡ true
    → looking_by (storing (tables_of (tree_of tree))) g ≡ true
only_looks tree g f checked found is =
    let t : Tables = tables_of (tree_of tree) in
    let none : statements_store t (storing t) f.body ≡ false =
    no_store t f (statements_store t (storing t) f.body) refl
    (((well_typed tree checked).functions g f found).looks (const_is f.mark is)) in
    let told : slice_get (storing t) g ≡ Some (statements_store t (storing t) f.body) =
    ap (λ (known : List Bool). slice_get known g) (sym (storing_settled t))
    ∙ slice_get-map (λ (f : FunctionTree). statements_store t (storing t) f.body) t.functions g
    ∙ ap (option_map (λ (f : FunctionTree). statements_store t (storing t) f.body)) found in
    ap (λ (o : Option Bool). not (unwrap_or o false)) told ∙ ap not none
