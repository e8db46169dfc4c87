-- What only bodies and proofs need beside `Expressions`.
use Rattle.std.specs.Prelude.{◌+◌, List, [], ◌∷◌, ◌++◌, Bool, ◌&&◌, ◌||◌, if◌then◌else◌}
use Rattle.c_tree.specs.ExprTree.{Arguments, Ident}
use Rattle.c_types.specs.declared.value_type.ValueType.{ValueType}
use Rattle.c_types.specs.Tables.{Tables, function_named}
use Rattle.c_types.specs.Expressions.{Scope, call_type, parameters_of, argument_count, all_taken}

abbrev pub call_kind : Tables → List Scope → Bool → Ident → Arguments → ValueType
call_kind t s wanted name all = let f = function_named t name.text in
    call_type t wanted f (argument_count all) (all_taken t s (parameters_of f) 0 all)
