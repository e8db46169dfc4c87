-- The law of typing: a tree breaks no typing rule exactly where it is well typed. And what an
-- expression denotes, by which a program's meaning finds fields, is the type that it has.
use Rattle.std.specs.Prelude.{◌≡◌, List, []}
use Rattle.c_tree.specs.ExprTree.{ExprTree}
use Rattle.c_tree.specs.Program.{Program, tree_of}
use Rattle.c_types.specs.Tables.{Tables, tables_of}
use Rattle.c_types.specs.Expressions.{Scope, type_of}
use Rattle.c_types.specs.Fault.{breaks}
use Rattle.rules_law.specs.typed.Types.{StaticType, value_type}
use Rattle.rules_law.specs.typed.Expressions.{HasType}
use Rattle.rules_law.specs.typed.Programs.{IsWellTyped}

abbrev pub AcceptedLaw : Type 0
AcceptedLaw = (tree : Program) → breaks tree ≡ [] → IsWellTyped (tables_of (tree_of tree))

abbrev pub CompleteLaw : Type 0
CompleteLaw = (tree : Program) → IsWellTyped (tables_of (tree_of tree)) → breaks tree ≡ []

abbrev pub TypeLaw : Type 0
TypeLaw = (t : Tables) (s : List Scope) (e : ExprTree) (x : StaticType) →
    HasType t s e x → type_of t s e ≡ value_type x
