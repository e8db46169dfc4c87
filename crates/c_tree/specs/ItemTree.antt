-- A program as a tree without pointers: a list of items.
use Rattle.std.specs.Prelude.{ℕ, ℤ, List, Option, Bool, map, option_map}
use Rattle.c_tree.specs.declared.item.Length.{Length}
use Rattle.c_tree.specs.declared.item.Field.{Field}
use Rattle.c_tree.specs.declared.item.Parameter.{Parameter}
use Rattle.c_tree.specs.declared.item.Function as written
use Rattle.c_tree.specs.declared.item.Marked.{Marked}
use Rattle.c_tree.specs.declared.item.Item.{Item}
use Rattle.c_tree.specs.declared.item.Item.TheVariants as node
use Rattle.c_tree.specs.ExprTree.{Ident, ident_of}
use Rattle.c_tree.specs.StmtTree.{TypeTree, type_tree, Statements, statements_in}

-- the length of an array, and the place of its number
pub record LengthTree : Type 0 where
  pub value : ℤ
  pub place : ℕ

pub record FieldTree : Type 0 where
  pub ty : TypeTree
  pub name : Ident
  pub len : Option LengthTree

pub record ParameterTree : Type 0 where
  pub ty : TypeTree
  pub name : Ident

-- `tx` says whether it is a transaction; the result is absent if it is `void`
pub record FunctionTree : Type 0 where
  pub tx : Bool
  pub mark : Marked
  pub result_type : Option TypeTree
  pub name : Ident
  pub parameters : List ParameterTree
  pub body : Statements

pub data ItemTree : Type 0 where
  Struct : Ident → List FieldTree → ItemTree
  Root : Ident → (place : ℕ) → ItemTree
  Function : FunctionTree → ItemTree

abbrev pub length_tree : Length → LengthTree
length_tree n = record { value = n.value; place = n.place }

abbrev pub field_tree : Field → FieldTree
field_tree f = record {
  ty = type_tree f.ty;
  name = ident_of f.name;
  len = option_map length_tree f.length;
}

abbrev pub parameter_of : Parameter → ParameterTree
parameter_of p = record { ty = type_tree p.ty; name = ident_of p.name }

abbrev pub function_tree : written.Function → FunctionTree
function_tree f = record {
  tx = f.tx;
  mark = f.mark;
  result_type = option_map type_tree f.result_type;
  name = ident_of f.name;
  parameters = map parameter_of f.parameters.items;
  body = statements_in f.body.items;
}

abbrev pub item_of : Item → ItemTree
item_of (node.Struct s) = Struct (ident_of s.name) (map field_tree s.fields.items)
item_of (node.Root r) = Root (ident_of r.name) r.place
item_of (node.Function f) = Function (function_tree f)

abbrev pub items_in : List Item → List ItemTree
items_in = map item_of
