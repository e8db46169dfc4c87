-- What is open after each token of a statement, production by production. An expression is no
-- longer open after the token that ends it, and a body without braces is open up to the token after
-- its last one.
use Rattle.std.specs.Prelude.{ℕ, List, [], ◌∷◌, ◌++◌, Option, Bool, true, false, if◌then◌else◌}
use Rattle.c_lexer.specs.declared.token.Placed.{Placed}
use Rattle.c_tree.specs.ExprTree.{ExprTree}
use Rattle.c_tree.specs.StmtTree.{TypeTree, DeclarationTree, SimpleTree, FirstTree, StmtTree}
use Rattle.c_tree.specs.StmtTree.{Statements}
use Rattle.c_tree.specs.StmtSpelling.{Typed, int, pointer, Declares, plain, initial, Bracketed}
use Rattle.c_tree.specs.StmtSpelling.{bracketed, Acts, assigns, steps, Simply, acts, calls, frees}
use Rattle.c_tree.specs.StmtSpelling.{aborts, FirstPart, first_none, first_declares, first_simply}
use Rattle.c_tree.specs.StmtSpelling.{ValuePart, value_none, value_some, ThirdPart, third_none}
use Rattle.c_tree.specs.StmtSpelling.{third_some, Spells, empty, declares, simply, block, if_alone}
use Rattle.c_tree.specs.StmtSpelling.{if_else, repeats, repeats_after, counts, breaks, continues}
use Rattle.c_tree.specs.StmtSpelling.{returns, SpellsAll, nothing, something}
use Rattle.c_parser.specs.Open.{OpenParts, none_open, one_open, in_bracket, in_body}
use Rattle.c_parser.specs.ExprOpen.{expression_open, postfix_open, arguments_open}

abbrev pub typed_open : {ts : List Placed} {i j : ℕ} {t : TypeTree}
    → Typed ts i j t → List OpenParts
typed_open (int n is) = none_open ∷ []
typed_open (pointer is name star) = none_open ∷ none_open ∷ none_open ∷ []

abbrev pub declares_open : {ts : List Placed} {i j : ℕ} {d : DeclarationTree}
    → Declares ts i j d → List OpenParts
declares_open (plain ty name) = typed_open ty ++ (none_open ∷ [])
declares_open (initial ty name is value) = typed_open ty ++ (none_open ∷ none_open
    ∷ expression_open value)

abbrev pub bracketed_open : {ts : List Placed} {i j : ℕ} {e : ExprTree}
    → Bracketed ts i j e → List OpenParts
bracketed_open (bracketed is inner close) =
    one_open ∷ (in_bracket (expression_open inner) ++ (none_open ∷ []))

abbrev pub acts_open : {ts : List Placed} {i j : ℕ} {a : ExprTree} {s : SimpleTree}
    → Acts ts i j a s → List OpenParts
acts_open (assigns o is value) = none_open ∷ expression_open value
acts_open (steps o is) = none_open ∷ []

abbrev pub simply_open : {ts : List Placed} {i j : ℕ} {s : SimpleTree}
    → Simply ts i j s → List OpenParts
simply_open (acts target act) = postfix_open target ++ acts_open act
simply_open (calls is opens all) = none_open ∷ one_open ∷ arguments_open all
simply_open (frees is value) = none_open ∷ bracketed_open value
simply_open (aborts is opens close) = none_open ∷ one_open ∷ none_open ∷ []

abbrev pub first_open : {ts : List Placed} {i j : ℕ} {f : Option FirstTree}
    → FirstPart ts i j f → List OpenParts
first_open first_none = []
first_open (first_declares one) = declares_open one
first_open (first_simply one) = simply_open one

abbrev pub value_open : {ts : List Placed} {i j : ℕ} {c : Option ExprTree}
    → ValuePart ts i j c → List OpenParts
value_open value_none = []
value_open (value_some value) = expression_open value

abbrev pub third_open : {ts : List Placed} {i j : ℕ} {t : Option SimpleTree}
    → ThirdPart ts i j t → List OpenParts
third_open third_none = []
third_open (third_some one) = simply_open one

-- whether a statement stands in braces
abbrev pub has_braces : {ts : List Placed} {loop : Bool} {i j : ℕ} {s : StmtTree}
    → Spells ts loop i j s → Bool
has_braces (block is all close) = true
has_braces _ = false

-- the tokens of a body, in braces or not
abbrev pub body_open : Bool → List OpenParts → List OpenParts
body_open braces os = if braces then os else in_body os

abbrev mutual
  pub statement_open : {ts : List Placed} {loop : Bool} {i j : ℕ} {s : StmtTree}
      → Spells ts loop i j s → List OpenParts
  statement_open (empty is) = none_open ∷ []
  statement_open (declares one semicolon) = declares_open one ++ (none_open ∷ [])
  statement_open (simply one semicolon) = simply_open one ++ (none_open ∷ [])
  statement_open (block is all close) =
      one_open ∷ (in_bracket (statements_open all) ++ (none_open ∷ []))
  statement_open (if_alone is condition body other) =
      none_open ∷ (bracketed_open condition ++ body_open (has_braces body) (statement_open body))
  statement_open (if_else is condition body word other) =
      none_open ∷ (bracketed_open condition ++ (body_open (has_braces body) (statement_open body)
      ++ (none_open ∷ body_open (has_braces other) (statement_open other))))
  statement_open (repeats is condition body) =
      none_open ∷ (bracketed_open condition ++ body_open (has_braces body) (statement_open body))
  statement_open (repeats_after is body word condition semicolon) =
      none_open ∷ (body_open (has_braces body) (statement_open body) ++ (none_open
      ∷ (bracketed_open condition ++ (none_open ∷ []))))
  statement_open (counts is opens first semicolon condition second third close body) =
      none_open ∷ one_open ∷ (in_bracket (first_open first ++ (none_open
      ∷ (value_open condition ++ (none_open ∷ third_open third)))) ++ (none_open
      ∷ body_open (has_braces body) (statement_open body)))
  statement_open (breaks is semicolon) = none_open ∷ none_open ∷ []
  statement_open (continues is semicolon) = none_open ∷ none_open ∷ []
  statement_open (returns is value semicolon) = none_open ∷ (value_open value ++ (none_open ∷ []))

  pub statements_open : {ts : List Placed} {loop : Bool} {i j : ℕ} {all : Statements}
      → SpellsAll ts loop i j all → List OpenParts
  statements_open nothing = []
  statements_open (something one others) = statement_open one ++ statements_open others
