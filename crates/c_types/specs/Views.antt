-- The lists of a program's structs, root declarations and functions, as the look-up tables of the
-- code stand for them.
use Rattle.std.specs.Prelude.{List, map}
use Rattle.c_tree.specs.declared.item.StructDef.{StructDef}
use Rattle.c_tree.specs.declared.item.RootDecl.{RootDecl}
use Rattle.c_tree.specs.declared.item.Function.{Function}
use Rattle.c_tree.specs.ExprTree.{ident_of}
use Rattle.c_tree.specs.ItemTree.{field_tree, function_tree}
use Rattle.c_types.specs.Tables.{StructTree, RootTree, Tables}

abbrev pub struct_tree : StructDef → StructTree
struct_tree s = record { name = ident_of s.name; fields = map field_tree s.fields.items }

abbrev pub root_of : RootDecl → RootTree
root_of r = record { name = ident_of r.name; place = r.place }

pub record Gathered : Type 0 where
  pub structs : List StructTree
  pub roots : List RootTree
  pub functions : List Function

abbrev pub tables_in : Gathered → Tables
tables_in g = record {
  structs = g.structs;
  roots = g.roots;
  functions = map function_tree g.functions;
}
