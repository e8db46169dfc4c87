-- The laws of the typing rules: what `c_types` lists is what the rows give, and the one that is
-- told is the least of them by place, number and limit.
use Rattle.std.specs.Prelude.{ℕ, ◌≡◌, ◌↔◌, List, true, false, length, Option, None, Some}
use Rattle.c_tree.specs.ExprTree.{ExprTree}
use Rattle.c_tree.specs.ItemTree.{FunctionTree}
use Rattle.c_tree.specs.Program.{Program, tree_of}
use Rattle.c_types.specs.declared.broken.Rule.{Rule}
use Rattle.c_types.specs.declared.broken.Broken.{Broken}
use Rattle.c_types.specs.declared.value_type.Kind.TheVariants as kind
use Rattle.c_types.specs.Tables.{Tables, tables_of}
use Rattle.c_types.specs.Expressions.{Scope, kind_of, type_of}
use Rattle.c_types.specs.Looking.{statements_store, storing}
use Rattle.c_types.specs.Broken.{is_before, least_broken}
use Rattle.c_types.specs.LeastLaw.{IsAmong}
use Rattle.c_types.specs.Fault.{breaks}
use Rattle.rules_law.specs.typed.Types.{StaticType, value_type}
use Rattle.rules_law.specs.typed.Expressions.{HasType}
use Rattle.rules_law.specs.rules.Part.{Part}
use Rattle.rules_law.specs.rules.Stands.{StandsIn}
use Rattle.rules_law.specs.rules.Stores.{Stores}
use Rattle.rules_law.specs.rules.Rules.{Breaks}
use Rattle.rules_law.specs.rules.Given.{Types, GivesArray, EndsAt}

-- some part of the tree breaks the rule, at the token of that place
abbrev pub IsBroken : Program → Rule → (place : ℕ) → Type 0
IsBroken tree rule place = (p : Part) × StandsIn (length tree.lines) (tables_of (tree_of tree)) p
    × Breaks (tables_of (tree_of tree)) p rule place

abbrev pub RowsLaw : Type 0
RowsLaw = (tree : Program) (b : Broken) → IsAmong b (breaks tree) ↔ IsBroken tree b.rule b.place

-- what is reported of a tree: nothing where no rule is broken, else the least broken rule
abbrev pub IsFault : Program → Option Broken → Type 0
IsFault tree None = (b : Broken) → IsBroken tree b.rule b.place → ⊥
IsFault tree (Some a) = IsBroken tree a.rule a.place
    × ((b : Broken) → IsBroken tree b.rule b.place → is_before b a ≡ false)

abbrev pub ToldLaw : Type 0
ToldLaw = (tree : Program) → IsFault tree (least_broken (breaks tree))

-- the functions that the check finds to store are those that do
abbrev pub StoresLaw : Type 0
StoresLaw = (t : Tables) (f : FunctionTree) →
    statements_store t (storing t) f.body ≡ true ↔ Stores t f

-- the types and the arrays that the rows speak of are those that the rules give
abbrev pub TypesLaw : Type 0
TypesLaw = (t : Tables) (s : List Scope) (e : ExprTree) (x : StaticType) →
    type_of t s e ≡ value_type x ↔ Types t s e x

abbrev pub ArraysLaw : Type 0
ArraysLaw = (t : Tables) (s : List Scope) (e : ExprTree) (x : StaticType) (n : ℕ) →
    kind_of t s e ≡ kind.Array (value_type x) n ↔ (GivesArray t s e x × EndsAt e n)

-- the types of specs/typed are types of these rules
abbrev pub TypedLaw : Type 0
TypedLaw = (t : Tables) (s : List Scope) (e : ExprTree) (x : StaticType) →
    HasType t s e x → Types t s e x
