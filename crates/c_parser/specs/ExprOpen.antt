-- What is open after each token of an expression, production by production. The operators of an
-- expression are its binary and unary ones, each `?`, each `->`, each `[` and the `.` after `root`.
-- It doesn't count those inside its brackets, or between a `?` and its `:`, which are the operators
-- of an expression of their own.
use Rattle.std.specs.Prelude.{ℕ, ◌+◌, List, [], ◌∷◌, ◌++◌}
use Rattle.c_lexer.specs.declared.token.Placed.{Placed}
use Rattle.c_tree.specs.ExprTree.{ExprTree, Arguments}
use Rattle.c_tree.specs.Spelling.{Expression, unconditional, conditional, Level, level_zero}
use Rattle.c_tree.specs.Spelling.{level_suc, Chain, chain_end, chain_more, Unary, signed, cast}
use Rattle.c_tree.specs.Spelling.{unsigned}
use Rattle.c_tree.specs.Spelling.{Postfix, postfix, Parts, parts_end, field}
use Rattle.c_tree.specs.Spelling.{element, Primary, number, null, variable, call, root, new}
use Rattle.c_tree.specs.Spelling.{brackets, SpellsArguments, no_arguments, arguments, MoreArguments}
use Rattle.c_tree.specs.Spelling.{no_more, more}
use Rattle.c_parser.specs.Open.{OpenParts, none_open, one_open, in_bracket, so_far}

abbrev pub primary_operators : {ts : List Placed} {i j : ℕ} {e : ExprTree} → Primary ts i j e → ℕ
primary_operators (number is) = 0
primary_operators (null is) = 0
primary_operators (variable is) = 0
primary_operators (call is opens all) = 0
primary_operators (root is dot name) = 1
primary_operators (new is opens struct name close) = 0
primary_operators (brackets is inner close) = 0

abbrev pub parts_operators : {ts : List Placed} {i j : ℕ} {a e : ExprTree} → Parts ts i j a e → ℕ
parts_operators parts_end = 0
parts_operators (field is name others) = 1 + parts_operators others
parts_operators (element is inner close others) = 1 + parts_operators others

abbrev pub postfix_operators : {ts : List Placed} {i j : ℕ} {e : ExprTree} → Postfix ts i j e → ℕ
postfix_operators (postfix first parts) = primary_operators first + parts_operators parts

abbrev pub unary_operators : {ts : List Placed} {i j : ℕ} {e : ExprTree} → Unary ts i j e → ℕ
unary_operators (signed o is operand) = 1 + unary_operators operand
unary_operators (cast n is word close operand) = 1 + unary_operators operand
unary_operators (unsigned operand) = postfix_operators operand

abbrev mutual
  pub level_operators : {ts : List Placed} {l i j : ℕ} {e : ExprTree} → Level ts l i j e → ℕ
  level_operators (level_zero operand) = unary_operators operand
  level_operators (level_suc first others) = level_operators first + chain_operators others

  pub chain_operators : {ts : List Placed} {l i j : ℕ} {a e : ExprTree}
      → Chain ts l i j a e → ℕ
  chain_operators chain_end = 0
  chain_operators (chain_more o is operand others) =
      1 + (level_operators operand + chain_operators others)

abbrev pub expression_operators : {ts : List Placed} {i j : ℕ} {e : ExprTree}
    → Expression ts i j e → ℕ
expression_operators (unconditional operand) = level_operators operand
expression_operators (conditional condition is left colon right) =
    level_operators condition + (1 + expression_operators right)

abbrev mutual
  pub expression_open : {ts : List Placed} {i j : ℕ} {e : ExprTree}
      → Expression ts i j e → List OpenParts
  expression_open (unconditional operand) = level_open operand
  expression_open (conditional condition is left colon right) =
      level_open condition ++ so_far (level_operators condition + 1) (none_open
      ∷ (expression_open left ++ (none_open ∷ expression_open right)))

  pub level_open : {ts : List Placed} {l i j : ℕ} {e : ExprTree}
      → Level ts l i j e → List OpenParts
  level_open (level_zero operand) = unary_open operand
  level_open (level_suc first others) =
      level_open first ++ so_far (level_operators first) (chain_open others)

  pub chain_open : {ts : List Placed} {l i j : ℕ} {a e : ExprTree}
      → Chain ts l i j a e → List OpenParts
  chain_open chain_end = []
  chain_open (chain_more o is operand others) = so_far 1 (none_open
      ∷ (level_open operand ++ so_far (level_operators operand) (chain_open others)))

  pub unary_open : {ts : List Placed} {i j : ℕ} {e : ExprTree}
      → Unary ts i j e → List OpenParts
  unary_open (signed o is operand) = so_far 1 (none_open ∷ unary_open operand)
  -- a type's word is the operator of a cast
  unary_open (cast n is word close operand) = one_open
      ∷ so_far 1 (one_open ∷ none_open ∷ unary_open operand)
  unary_open (unsigned operand) = postfix_open operand

  pub postfix_open : {ts : List Placed} {i j : ℕ} {e : ExprTree}
      → Postfix ts i j e → List OpenParts
  postfix_open (postfix first parts) =
      primary_open first ++ so_far (primary_operators first) (parts_open parts)

  pub parts_open : {ts : List Placed} {i j : ℕ} {a e : ExprTree}
      → Parts ts i j a e → List OpenParts
  parts_open parts_end = []
  parts_open (field is name others) = so_far 1 (none_open ∷ none_open ∷ parts_open others)
  parts_open (element is inner close others) =
      so_far 1 (one_open ∷ (in_bracket (expression_open inner) ++ (none_open ∷ parts_open others)))

  pub primary_open : {ts : List Placed} {i j : ℕ} {e : ExprTree}
      → Primary ts i j e → List OpenParts
  primary_open (number is) = none_open ∷ []
  primary_open (null is) = none_open ∷ []
  primary_open (variable is) = none_open ∷ []
  primary_open (call is opens all) = none_open ∷ one_open ∷ arguments_open all
  primary_open (root is dot name) = none_open ∷ so_far 1 (none_open ∷ none_open ∷ [])
  primary_open (new is opens struct name close) =
      none_open ∷ one_open ∷ one_open ∷ one_open ∷ none_open ∷ []
  primary_open (brackets is inner close) =
      one_open ∷ (in_bracket (expression_open inner) ++ (none_open ∷ []))

  -- from the token after the opening bracket on
  pub arguments_open : {ts : List Placed} {i j : ℕ} {all : Arguments}
      → SpellsArguments ts i j all → List OpenParts
  arguments_open (no_arguments is) = none_open ∷ []
  arguments_open (arguments first others) = in_bracket (expression_open first) ++ more_open others

  pub more_open : {ts : List Placed} {i j : ℕ} {all : Arguments}
      → MoreArguments ts i j all → List OpenParts
  more_open (no_more is) = none_open ∷ []
  more_open (more is next others) =
      one_open ∷ (in_bracket (expression_open next) ++ more_open others)
