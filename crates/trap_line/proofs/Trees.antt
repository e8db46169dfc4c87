-- What the bodies need of trees and lists.
use Rattle.std.proofs.lemmas.List.{take_all}
use Rattle.c_tree.proofs.Trees.{expr_of-Call, stmt_of-Block}
use Rattle.c_types.proofs.Gathered.{slice_get_functions}

pub ruleset trees = (expr_of-Call, stmt_of-Block)

pub ruleset found = (slice_get_functions, take_all)
