-- The weight of each token of a program: the open brackets, the open bodies without braces, and the
-- operators so far of the open expressions, all after the token.
use Rattle.std.specs.Prelude.{ℕ, List, [], ◌∷◌, ◌++◌, map, Option, Bool}
use Rattle.c_lexer.specs.declared.token.Placed.{Placed}
use Rattle.c_tree.specs.declared.item.Marked.{Marked}
use Rattle.c_tree.specs.StmtTree.{TypeTree}
use Rattle.c_tree.specs.ItemTree.{FieldTree, ParameterTree, ItemTree}
use Rattle.c_tree.specs.ItemSpelling.{SpellsField, single, array, SpellsFields, fields_end}
use Rattle.c_tree.specs.ItemSpelling.{fields_more, SpellsParameters, parameters_last}
use Rattle.c_tree.specs.ItemSpelling.{parameters_more, Signature, signature_none, signature_void}
use Rattle.c_tree.specs.ItemSpelling.{signature_some, ResultType, result_void, result_some}
use Rattle.c_tree.specs.ItemSpelling.{SpellsTransaction, unmarked, marked_abort, marked_const}
use Rattle.c_tree.specs.ItemSpelling.{SpellsFunction, function}
use Rattle.c_tree.specs.ItemSpelling.{SpellsItem, struct_def, root_decl, transaction}
use Rattle.c_tree.specs.ItemSpelling.{plain_function, SpellsItems, items_end, items_more}
use Rattle.c_tree.specs.ItemSpelling.{SpellsProgram}
use Rattle.c_parser.specs.Open.{OpenParts, open_weight, none_open, one_open, in_bracket}
use Rattle.c_parser.specs.StmtOpen.{typed_open, statements_open}

abbrev pub field_open : {ts : List Placed} {i j : ℕ} {f : FieldTree}
    → SpellsField ts i j f → List OpenParts
field_open (single ty name semicolon) = typed_open ty ++ (none_open ∷ none_open ∷ [])
field_open (array ty name opens number close semicolon) =
    typed_open ty ++ (none_open ∷ one_open ∷ one_open ∷ none_open ∷ none_open ∷ [])

abbrev pub fields_open : {ts : List Placed} {i j : ℕ} {fs : List FieldTree}
    → SpellsFields ts i j fs → List OpenParts
fields_open fields_end = []
fields_open (fields_more one others) = field_open one ++ fields_open others

-- from the token after the opening bracket on
abbrev pub parameters_open : {ts : List Placed} {i j : ℕ} {ps : List ParameterTree}
    → SpellsParameters ts i j ps → List OpenParts
parameters_open (parameters_last ty name close) =
    in_bracket (typed_open ty ++ (none_open ∷ [])) ++ (none_open ∷ [])
parameters_open (parameters_more ty name comma others) =
    in_bracket (typed_open ty ++ (none_open ∷ none_open ∷ [])) ++ parameters_open others

abbrev pub signature_open : {ts : List Placed} {i j : ℕ} {ps : List ParameterTree}
    → Signature ts i j ps → List OpenParts
signature_open (signature_none close) = none_open ∷ []
signature_open (signature_void is close) = one_open ∷ none_open ∷ []
signature_open (signature_some all) = parameters_open all

abbrev pub result_open : {ts : List Placed} {i j : ℕ} {r : Option TypeTree}
    → ResultType ts i j r → List OpenParts
result_open (result_void is) = none_open ∷ []
result_open (result_some ty) = typed_open ty

abbrev pub transaction_open : {ts : List Placed} {i j : ℕ} {a : Marked}
    → SpellsTransaction ts i j a → List OpenParts
transaction_open (unmarked is) = none_open ∷ []
transaction_open (marked_abort is word) = none_open ∷ none_open ∷ []
transaction_open (marked_const is word) = none_open ∷ none_open ∷ []

abbrev pub function_open : {ts : List Placed} {tx : Bool} {a : Marked} {i j : ℕ} {x : ItemTree}
    → SpellsFunction ts tx a i j x → List OpenParts
function_open (function result name opens signature brace body close) =
    result_open result ++ (none_open ∷ one_open ∷ (signature_open signature ++ (one_open
    ∷ (in_bracket (statements_open body) ++ (none_open ∷ [])))))

abbrev pub item_open : {ts : List Placed} {i j : ℕ} {x : ItemTree}
    → SpellsItem ts i j x → List OpenParts
item_open (struct_def is name opens one others close semicolon) =
    none_open ∷ none_open ∷ one_open ∷ (in_bracket (field_open one ++ fields_open others)
    ++ (none_open ∷ none_open ∷ []))
item_open (root_decl is struct name root semicolon) =
    none_open ∷ none_open ∷ none_open ∷ none_open ∷ none_open ∷ []
item_open (transaction mark one) = transaction_open mark ++ function_open one
item_open (plain_function one) = function_open one

abbrev pub items_open : {ts : List Placed} {i j : ℕ} {xs : List ItemTree}
    → SpellsItems ts i j xs → List OpenParts
items_open items_end = []
items_open (items_more one others) = item_open one ++ items_open others

abbrev pub spelled_weights : {ts : List Placed} {xs : List ItemTree}
    → SpellsProgram ts xs → List ℕ
spelled_weights spelled = map open_weight (items_open spelled)
