-- Whether statements assign a variable. After another declaration of its name, the name means
-- another variable.
use Rattle.std.specs.Prelude.{ℕ, List, Bool, true, false, ◌||◌, bytes_eq, if◌then◌else◌, Option}
use Rattle.std.specs.Prelude.{None, Some}
use Rattle.std.specs.Option.{option_map_or}
use Rattle.c_tree.specs.ExprTree.{ExprTree, Ident}
use Rattle.c_tree.specs.StmtTree as stmt
use Rattle.c_tree.specs.StmtTree.{StmtTree, Statements, SimpleTree, FirstTree}
use Rattle.lower.specs.Names.{variable_of}

abbrev pub is_named : List ℕ → ExprTree → Bool
is_named name target = option_map_or (λ (n : Ident). bytes_eq n.text name)
    (variable_of target) false

abbrev pub is_assignment : List ℕ → SimpleTree → Bool
is_assignment name (stmt.Assign target op place value) = is_named name target
is_assignment name (stmt.Step target op place) = is_named name target
is_assignment name (stmt.Call callee all) = false
is_assignment name (stmt.Free place pointer) = false
is_assignment name (stmt.Abort place) = false

abbrev pub declares : List ℕ → StmtTree → Bool
declares name (stmt.Declares d) = bytes_eq d.name.text name
declares name stmt.Empty = false
declares name (stmt.Simple x) = false
declares name (stmt.Block all) = false
declares name (stmt.If c a) = false
declares name (stmt.IfElse c a b) = false
declares name (stmt.While place c a) = false
declares name (stmt.Do place a c) = false
declares name (stmt.For place first c third a) = false
declares name stmt.Break = false
declares name stmt.Continue = false
declares name (stmt.Return place value) = false

abbrev pub first_declares : List ℕ → Option FirstTree → Bool
first_declares name None = false
first_declares name (Some (stmt.Declare d)) = bytes_eq d.name.text name
first_declares name (Some (stmt.Simply x)) = false

abbrev pub first_assigns : List ℕ → Option FirstTree → Bool
first_assigns name None = false
first_assigns name (Some (stmt.Declare d)) = false
first_assigns name (Some (stmt.Simply x)) = is_assignment name x

abbrev pub third_assigns : List ℕ → Option SimpleTree → Bool
third_assigns name None = false
third_assigns name (Some x) = is_assignment name x

abbrev mutual
  pub assigns_name : List ℕ → StmtTree → Bool
  assigns_name name (stmt.Declares d) = false
  assigns_name name stmt.Empty = false
  assigns_name name (stmt.Simple x) = is_assignment name x
  assigns_name name (stmt.Block all) = is_assigned name all
  assigns_name name (stmt.If c a) = assigns_name name a
  assigns_name name (stmt.IfElse c a b) = if assigns_name name a then true else assigns_name name b
  assigns_name name (stmt.While place c a) = assigns_name name a
  assigns_name name (stmt.Do place a c) = assigns_name name a
  assigns_name name (stmt.For place first c third a) = if first_declares name first then false
      else (first_assigns name first || third_assigns name third || assigns_name name a)
  assigns_name name stmt.Break = false
  assigns_name name stmt.Continue = false
  assigns_name name (stmt.Return place value) = false

  -- the statements of one block
  pub is_assigned : List ℕ → Statements → Bool
  is_assigned name stmt.Nothing = false
  is_assigned name (stmt.Then x xs) = if declares name x then false else if assigns_name name x
      then true else is_assigned name xs
