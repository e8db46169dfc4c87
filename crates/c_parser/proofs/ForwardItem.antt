-- Items that are spelled are run through, if nothing is too deep, and their tokens have their
-- weights.
use Rattle.std.proofs.Common.{ℕ, ◌+◌, ◌≡◌, List, [], ◌∷◌, ◌++◌, length, None, Bool, true, false}
use Rattle.std.proofs.Common.{refl, sym, ◌∙◌, subst, arith}
use Rattle.c_lexer.specs.declared.token.Placed.{Placed}
use Rattle.c_tree.specs.declared.expr.BinaryOp.TheVariants as op
use Rattle.c_tree.specs.declared.kind.Kind.{Kind}
use Rattle.c_tree.specs.declared.kind.Kind.TheVariants as kind
use Rattle.c_parser.specs.declared.want.Want.{Want}
use Rattle.c_parser.specs.declared.want.Want.TheVariants.{Ident, Digits, Semicolon, StructWord}
use Rattle.c_parser.specs.declared.want.Want.TheVariants.{RootWord, Round, Square, Block, TypeName}
use Rattle.c_parser.specs.declared.want.Want.TheVariants.{Fields, Length, Result, TxResult}
use Rattle.c_parser.specs.declared.want.Want.TheVariants.{OpenParameters, Parameters}
use Rattle.c_parser.specs.declared.want.Want.TheVariants.{MoreParameters, OpenBody}
use Rattle.c_parser.specs.declared.want.Want.TheVariants.{StructOrFunction, Items}
use Rattle.c_tree.specs.Kinds.{kind_at}
use Rattle.c_tree.specs.ItemTree.{FieldTree, ParameterTree, ItemTree}
use Rattle.c_tree.specs.StmtSpelling.{int, pointer, SpellsAll}
use Rattle.c_tree.specs.ItemSpelling.{SpellsField, single, array, SpellsFields, fields_end}
use Rattle.c_tree.specs.ItemSpelling.{fields_more, SpellsParameters, parameters_last}
use Rattle.c_tree.specs.ItemSpelling.{parameters_more, Signature, signature_none, signature_void}
use Rattle.c_tree.specs.ItemSpelling.{signature_some, result_void, result_some, unmarked}
use Rattle.c_tree.specs.ItemSpelling.{marked_abort, marked_const}
use Rattle.c_tree.specs.declared.item.Marked.{Marked}
use Rattle.c_tree.specs.declared.item.Marked.TheVariants as mark
use Rattle.c_tree.specs.ItemSpelling.{SpellsFunction, function, SpellsItem, struct_def, root_decl}
use Rattle.c_tree.specs.ItemSpelling.{transaction, plain_function, SpellsItems, items_end}
use Rattle.c_tree.specs.ItemSpelling.{items_more, SpellsProgram}
use Rattle.c_parser.specs.inside.Wants.{parser_step}
use Rattle.c_parser.specs.Open.{none_open, one_open, in_bracket}
use Rattle.c_parser.specs.StmtOpen.{statements_open}
use Rattle.c_parser.specs.Weight.{field_open, fields_open, parameters_open, signature_open}
use Rattle.c_parser.specs.Weight.{function_open, item_open, items_open}
use Rattle.c_parser.specs.inside.Fixes.{BeginsResult}
use Rattle.c_parser.specs.inside.Run.{Accepted, parse_run}
use Rattle.c_parser.specs.inside.Stacks.{weight}
use Rattle.c_parser.proofs.Steps.{run_end}
use Rattle.c_parser.proofs.RunsPast.{RunsPast, goes, begins_alike, ends_alike, stays, ◌▸◌}
use Rattle.c_parser.proofs.RunsPast.{inside_bracket}
use Rattle.c_parser.proofs.ForwardStmt.{TypeBegins, typed_begins, typed_step, typed_runs, all_run}

length_yields : (k : List Want) (t : Kind) → t ≡ kind.Semicolon
    → parser_step (Length ∷ k) t ≡ parser_step k t
length_yields k t is = subst (λ t. parser_step (Length ∷ k) t ≡ parser_step k t) (sym is) refl

field_runs : {ts : List Placed} {i j : ℕ} {f : FieldTree} (d : SpellsField ts i j f) (around : ℕ)
    (s below : List Want) → around ≡ weight below
    → parser_step s (kind_at ts i) ≡ typed_step (Ident ∷ Length ∷ Semicolon ∷ below) (kind_at ts i)
    → RunsPast ts i s j below around (field_open d)
field_runs {ts} (single {m = m} ty name semi) around s below same enter =
    typed_runs ty around s (Ident ∷ Length ∷ Semicolon ∷ below) (omega (arith, same)) enter
    ▸ ends_alike ts (m + 1) (Length ∷ Semicolon ∷ below) (Semicolon ∷ below)
    (length_yields (Semicolon ∷ below) (kind_at ts (m + 1)) semi)
    (goes ts m around none_open (Ident ∷ Length ∷ Semicolon ∷ below) (Length ∷ Semicolon ∷ below)
    kind.Name name tt refl (omega (arith, same)))
    ▸ goes ts (m + 1) around none_open (Semicolon ∷ below) below kind.Semicolon semi tt refl
    (omega (arith, same))
field_runs {ts} (array {m = m} ty name opens digits close semi) around s below same enter =
    typed_runs ty around s (Ident ∷ Length ∷ Semicolon ∷ below) (omega (arith, same)) enter
    ▸ goes ts m around none_open (Ident ∷ Length ∷ Semicolon ∷ below) (Length ∷ Semicolon ∷ below)
    kind.Name name tt refl (omega (arith, same))
    ▸ goes ts (m + 1) around one_open (Length ∷ Semicolon ∷ below)
    (Digits ∷ Square ∷ Semicolon ∷ below) kind.OpenSquare opens tt refl (omega (arith, same))
    ▸ goes ts (m + 1 + 1) around one_open (Digits ∷ Square ∷ Semicolon ∷ below)
    (Square ∷ Semicolon ∷ below) kind.Number digits tt refl (omega (arith, same))
    ▸ goes ts (m + 1 + 1 + 1) around none_open (Square ∷ Semicolon ∷ below) (Semicolon ∷ below)
    kind.CloseSquare close tt refl (omega (arith, same))
    ▸ goes ts (m + 1 + 1 + 1 + 1) around none_open (Semicolon ∷ below) below kind.Semicolon semi tt
    refl (omega (arith, same))

field_begins : {ts : List Placed} {i j : ℕ} {f : FieldTree} → SpellsField ts i j f
    → TypeBegins (kind_at ts i)
field_begins (single ty n z) = typed_begins ty
field_begins (array ty n o d c z) = typed_begins ty

fields_enter : (k : List Want) (t : Kind) → TypeBegins t
    → parser_step (Fields ∷ k) t ≡ typed_step (Ident ∷ Length ∷ Semicolon ∷ Fields ∷ k) t
fields_enter k (kind.Int y) h = refl
fields_enter k kind.Struct h = refl
fields_enter k _ h = absurd h

type_enters : (k : List Want) (t : Kind) → TypeBegins t
    → parser_step (TypeName ∷ k) t ≡ typed_step k t
type_enters k (kind.Int y) h = refl
type_enters k kind.Struct h = refl
type_enters k _ h = absurd h

parameters_enter : (k : List Want) (t : Kind) → TypeBegins t
    → parser_step (Parameters ∷ k) t ≡ typed_step (Ident ∷ MoreParameters ∷ k) t
parameters_enter k (kind.Int y) h = refl
parameters_enter k kind.Struct h = refl
parameters_enter k _ h = absurd h

result_enters : (k : List Want) (t : Kind) → TypeBegins t
    → parser_step (Result ∷ k) t ≡ typed_step k t
result_enters k (kind.Int y) h = refl
result_enters k kind.Struct h = refl
result_enters k _ h = absurd h

tx_enters : (k : List Want) (t : Kind) → BeginsResult t
    → parser_step (TxResult ∷ k) t ≡ parser_step (Result ∷ k) t
tx_enters k kind.Void h = refl
tx_enters k (kind.Int y) h = refl
tx_enters k kind.Struct h = refl
tx_enters k _ h = absurd h

pub function_result : {ts : List Placed} {tx : Bool} {b : Marked} {i j : ℕ} {x : ItemTree}
    → SpellsFunction ts tx b i j x → BeginsResult (kind_at ts i)
function_result (function (result_void is) n o s b a c) = subst BeginsResult (sym is) tt
function_result (function (result_some (int y is)) n o s b a c) = subst BeginsResult (sym is) tt
function_result (function (result_some (pointer is y z)) n o s b a c) =
    subst BeginsResult (sym is) tt

fields_run : {ts : List Placed} {i j : ℕ} {fs : List FieldTree} (d : SpellsFields ts i j fs)
    (around : ℕ) (k : List Want) → around ≡ weight (Fields ∷ k)
    → RunsPast ts i (Fields ∷ k) j (Fields ∷ k) around (fields_open d)
fields_run fields_end around k same = stays (Fields ∷ k)
fields_run {ts} {i} (fields_more f fs) around k same =
    field_runs f around (Fields ∷ k) (Fields ∷ k) same
    (fields_enter k (kind_at ts i) (field_begins f)) ▸ fields_run fs around k same

parameters_begin : {ts : List Placed} {i j : ℕ} {ps : List ParameterTree}
    → SpellsParameters ts i j ps → TypeBegins (kind_at ts i)
parameters_begin (parameters_last ty n c) = typed_begins ty
parameters_begin (parameters_more ty n c r) = typed_begins ty

some_run : {ts : List Placed} {i j : ℕ} {ps : List ParameterTree} (d : SpellsParameters ts i j ps)
    (around : ℕ) (s k : List Want) → around ≡ weight k
    → parser_step s (kind_at ts i) ≡ typed_step (Ident ∷ MoreParameters ∷ k) (kind_at ts i)
    → RunsPast ts i s j k around (parameters_open d)
some_run {ts} (parameters_last {m = m} ty name close) around s k same enter =
    inside_bracket refl (typed_runs ty (around + 1) s (Ident ∷ MoreParameters ∷ k)
    (omega (arith, same)) enter
    ▸ goes ts m (around + 1) none_open (Ident ∷ MoreParameters ∷ k) (MoreParameters ∷ k) kind.Name
    name tt refl (omega (arith, same)))
    ▸ goes ts (m + 1) around none_open (MoreParameters ∷ k) k kind.CloseRound close tt refl
    (omega (arith, same))
some_run {ts} (parameters_more {m = m} ty name comma rest) around s k same enter =
    inside_bracket refl (typed_runs ty (around + 1) s (Ident ∷ MoreParameters ∷ k)
    (omega (arith, same)) enter
    ▸ goes ts m (around + 1) none_open (Ident ∷ MoreParameters ∷ k) (MoreParameters ∷ k) kind.Name
    name tt refl (omega (arith, same))
    ▸ goes ts (m + 1) (around + 1) none_open (MoreParameters ∷ k)
    (TypeName ∷ Ident ∷ MoreParameters ∷ k) kind.Comma comma tt refl (omega (arith, same)))
    ▸ some_run rest around (TypeName ∷ Ident ∷ MoreParameters ∷ k) k same
    (type_enters (Ident ∷ MoreParameters ∷ k) (kind_at ts (m + 1 + 1)) (parameters_begin rest))

signature_runs : {ts : List Placed} {i j : ℕ} {ps : List ParameterTree} (d : Signature ts i j ps)
    (around : ℕ) (k : List Want) → around ≡ weight k
    → RunsPast ts i (Parameters ∷ k) j k around (signature_open d)
signature_runs {ts} {i} (signature_none is) around k same =
    goes ts i around none_open (Parameters ∷ k) k kind.CloseRound is tt refl (omega (arith, same))
signature_runs {ts} {i} (signature_void is close) around k same =
    goes ts i around one_open (Parameters ∷ k) (Round ∷ k) kind.Void is tt refl
    (omega (arith, same))
    ▸ goes ts (i + 1) around none_open (Round ∷ k) k kind.CloseRound close tt refl
    (omega (arith, same))
signature_runs {ts} {i} (signature_some ps) around k same =
    some_run ps around (Parameters ∷ k) k same
    (parameters_enter k (kind_at ts i) (parameters_begin ps))

-- a function, from the place after its result
after_result : {ts : List Placed} {n p : ℕ} {ps : List ParameterTree} {all : _} (m around : ℕ)
    → kind_at ts m ≡ kind.Name → kind_at ts (m + 1) ≡ kind.OpenRound
    → (sig : Signature ts (m + 1 + 1) n ps)
    → kind_at ts n ≡ kind.OpenBrace → (body : SpellsAll ts false (n + 1) p all)
    → kind_at ts p ≡ kind.CloseBrace → (k : List Want) → around ≡ weight k
    → RunsPast ts m (Ident ∷ OpenParameters ∷ OpenBody ∷ k) (p + 1) k around
    (none_open ∷ one_open ∷ (signature_open sig ++ (one_open
    ∷ (in_bracket (statements_open body) ++ (none_open ∷ [])))))
after_result {ts} {n} {p} m around name opens sig brace all close k same =
    goes ts m around none_open (Ident ∷ OpenParameters ∷ OpenBody ∷ k)
    (OpenParameters ∷ OpenBody ∷ k) kind.Name name tt refl (omega (arith, same))
    ▸ goes ts (m + 1) around one_open (OpenParameters ∷ OpenBody ∷ k) (Parameters ∷ OpenBody ∷ k)
    kind.OpenRound opens tt refl (omega (arith, same))
    ▸ signature_runs sig around (OpenBody ∷ k) (omega (arith, same))
    ▸ goes ts n around one_open (OpenBody ∷ k) (Block false ∷ k) kind.OpenBrace brace tt refl
    (omega (arith, same))
    ▸ inside_bracket refl (all_run all (around + 1) k (omega (arith, same)))
    ▸ goes ts p around none_open (Block false ∷ k) k kind.CloseBrace close tt refl
    (omega (arith, same))

transaction_runs : {ts : List Placed} {b : Marked} {i j : ℕ} {x : ItemTree}
    (d : SpellsFunction ts true b i j x) (around : ℕ) (k : List Want) → around ≡ weight k
    → RunsPast ts i (Result ∷ Ident ∷ OpenParameters ∷ OpenBody ∷ k) j k around (function_open d)
transaction_runs {ts} {i = i} (function {m = m} (result_void is) name opens sig brace all close)
    around k same =
    goes ts i around none_open (Result ∷ Ident ∷ OpenParameters ∷ OpenBody ∷ k)
    (Ident ∷ OpenParameters ∷ OpenBody ∷ k) kind.Void is tt refl (omega (arith, same))
    ▸ after_result m around name opens sig brace all close k same
transaction_runs {ts} {i = i} (function {m = m} (result_some ty) name opens sig brace all close)
    around k same =
    typed_runs ty around (Result ∷ Ident ∷ OpenParameters ∷ OpenBody ∷ k)
    (Ident ∷ OpenParameters ∷ OpenBody ∷ k) (omega (arith, same))
    (result_enters (Ident ∷ OpenParameters ∷ OpenBody ∷ k) (kind_at ts i) (typed_begins ty))
    ▸ after_result m around name opens sig brace all close k same

plain_runs : {ts : List Placed} {i j : ℕ} {x : ItemTree}
    (d : SpellsFunction ts false mark.Plain i j x) (around : ℕ) (k : List Want) → around ≡ weight k
    → RunsPast ts i (Items ∷ k) j (Items ∷ k) around (function_open d)
plain_runs {ts} {i} (function {m = m} (result_void is) name opens sig brace all close) around k
    same =
    goes ts i around none_open (Items ∷ k) (Ident ∷ OpenParameters ∷ OpenBody ∷ Items ∷ k) kind.Void
    is tt refl (omega (arith, same))
    ▸ after_result m around name opens sig brace all close (Items ∷ k) (omega (arith, same))
plain_runs {ts} {i} (function {m = m} (result_some (int y is)) name opens sig brace all close)
    around k same =
    goes ts i around none_open (Items ∷ k) (Ident ∷ OpenParameters ∷ OpenBody ∷ Items ∷ k)
    (kind.Int y) is tt refl (omega (arith, same))
    ▸ after_result m around name opens sig brace all close (Items ∷ k) (omega (arith, same))
plain_runs {ts} {i} (function {m = m} (result_some (pointer is called star)) name opens sig brace
    all close) around k same =
    (goes ts i around none_open (Items ∷ k) (Ident ∷ StructOrFunction ∷ Items ∷ k) kind.Struct is tt
    refl (omega (arith, same))
    ▸ goes ts (i + 1) around none_open (Ident ∷ StructOrFunction ∷ Items ∷ k)
    (StructOrFunction ∷ Items ∷ k) kind.Name called tt refl (omega (arith, same))
    ▸ goes ts (i + 1 + 1) around none_open (StructOrFunction ∷ Items ∷ k)
    (Ident ∷ OpenParameters ∷ OpenBody ∷ Items ∷ k) (kind.Operator op.Mul) star tt refl
    (omega (arith, same)))
    ▸ after_result m around name opens sig brace all close (Items ∷ k) (omega (arith, same))

item_runs : {ts : List Placed} {i j : ℕ} {x : ItemTree} (d : SpellsItem ts i j x) (around : ℕ)
    (k : List Want) → around ≡ weight k
    → RunsPast ts i (Items ∷ k) j (Items ∷ k) around (item_open d)
item_runs {ts} {i} (struct_def {n = n} is name brace f fs close semi) around k same =
    goes ts i around none_open (Items ∷ k) (Ident ∷ StructOrFunction ∷ Items ∷ k) kind.Struct is tt
    refl (omega (arith, same))
    ▸ goes ts (i + 1) around none_open (Ident ∷ StructOrFunction ∷ Items ∷ k)
    (StructOrFunction ∷ Items ∷ k) kind.Name name tt refl (omega (arith, same))
    ▸ goes ts (i + 1 + 1) around one_open (StructOrFunction ∷ Items ∷ k) (TypeName ∷ Ident ∷ Length
    ∷ Semicolon ∷ Fields ∷ Semicolon ∷ Items ∷ k) kind.OpenBrace brace tt refl (omega (arith, same))
    ▸ inside_bracket refl (field_runs f (around + 1)
    (TypeName ∷ Ident ∷ Length ∷ Semicolon ∷ Fields ∷ Semicolon ∷ Items ∷ k)
    (Fields ∷ Semicolon ∷ Items ∷ k) (omega (arith, same))
    (type_enters (Ident ∷ Length ∷ Semicolon ∷ Fields ∷ Semicolon ∷ Items ∷ k)
    (kind_at ts (i + 1 + 1 + 1)) (field_begins f))
    ▸ fields_run fs (around + 1) (Semicolon ∷ Items ∷ k) (omega (arith, same)))
    ▸ goes ts n around none_open (Fields ∷ Semicolon ∷ Items ∷ k) (Semicolon ∷ Items ∷ k)
    kind.CloseBrace close tt refl (omega (arith, same))
    ▸ goes ts (n + 1) around none_open (Semicolon ∷ Items ∷ k) (Items ∷ k) kind.Semicolon semi tt
    refl (omega (arith, same))
item_runs {ts} {i} (root_decl is word name root semi) around k same =
    goes ts i around none_open (Items ∷ k) (StructWord ∷ Ident ∷ RootWord ∷ Semicolon ∷ Items ∷ k)
    kind.Persistent is tt refl (omega (arith, same))
    ▸ goes ts (i + 1) around none_open (StructWord ∷ Ident ∷ RootWord ∷ Semicolon ∷ Items ∷ k)
    (Ident ∷ RootWord ∷ Semicolon ∷ Items ∷ k) kind.Struct word tt refl (omega (arith, same))
    ▸ goes ts (i + 1 + 1) around none_open (Ident ∷ RootWord ∷ Semicolon ∷ Items ∷ k)
    (RootWord ∷ Semicolon ∷ Items ∷ k) kind.Name name tt refl (omega (arith, same))
    ▸ goes ts (i + 1 + 1 + 1) around none_open (RootWord ∷ Semicolon ∷ Items ∷ k)
    (Semicolon ∷ Items ∷ k) kind.Root root tt refl (omega (arith, same))
    ▸ goes ts (i + 1 + 1 + 1 + 1) around none_open (Semicolon ∷ Items ∷ k) (Items ∷ k)
    kind.Semicolon semi tt refl (omega (arith, same))
item_runs {ts} {i} (transaction (unmarked is) f) around k same =
    goes ts i around none_open (Items ∷ k)
    (TxResult ∷ Ident ∷ OpenParameters ∷ OpenBody ∷ Items ∷ k) kind.Tx is tt refl
    (omega (arith, same))
    ▸ begins_alike ts (i + 1) (TxResult ∷ Ident ∷ OpenParameters ∷ OpenBody ∷ Items ∷ k)
    (Result ∷ Ident ∷ OpenParameters ∷ OpenBody ∷ Items ∷ k)
    (tx_enters (Ident ∷ OpenParameters ∷ OpenBody ∷ Items ∷ k) (kind_at ts (i + 1))
    (function_result f))
    (transaction_runs f around (Items ∷ k) (omega (arith, same)))
item_runs {ts} {i} (transaction (marked_abort is word) f) around k same =
    (goes ts i around none_open (Items ∷ k)
    (TxResult ∷ Ident ∷ OpenParameters ∷ OpenBody ∷ Items ∷ k) kind.Tx is tt refl
    (omega (arith, same))
    ▸ goes ts (i + 1) around none_open (TxResult ∷ Ident ∷ OpenParameters ∷ OpenBody ∷ Items ∷ k)
    (Result ∷ Ident ∷ OpenParameters ∷ OpenBody ∷ Items ∷ k) kind.Abort word tt refl
    (omega (arith, same)))
    ▸ transaction_runs f around (Items ∷ k) (omega (arith, same))
item_runs {ts} {i} (transaction (marked_const is word) f) around k same =
    (goes ts i around none_open (Items ∷ k)
    (TxResult ∷ Ident ∷ OpenParameters ∷ OpenBody ∷ Items ∷ k) kind.Tx is tt refl
    (omega (arith, same))
    ▸ goes ts (i + 1) around none_open (TxResult ∷ Ident ∷ OpenParameters ∷ OpenBody ∷ Items ∷ k)
    (Result ∷ Ident ∷ OpenParameters ∷ OpenBody ∷ Items ∷ k) kind.Const word tt refl
    (omega (arith, same)))
    ▸ transaction_runs f around (Items ∷ k) (omega (arith, same))
item_runs (plain_function f) around k same = plain_runs f around k same

items_run : {ts : List Placed} {i j : ℕ} {xs : List ItemTree} (d : SpellsItems ts i j xs)
    (around : ℕ) (k : List Want) → around ≡ weight k
    → RunsPast ts i (Items ∷ k) j (Items ∷ k) around (items_open d)
items_run items_end around k same = stays (Items ∷ k)
items_run (items_more x xs) around k same =
    item_runs x around k same ▸ items_run xs around k same

-- a whole program
pub program_past : (ts : List Placed) (xs : List ItemTree) (d : SpellsProgram ts xs)
    → RunsPast ts 0 (Items ∷ []) (length ts) (Items ∷ []) 0 (items_open d)
program_past ts xs d = items_run d 0 [] refl

pub program_runs : (ts : List Placed) (xs : List ItemTree) → SpellsProgram ts xs
    → parse_run None ts 0 (Items ∷ []) ≡ Accepted
program_runs ts xs d =
    (program_past ts xs d).run ∙ run_end None ts (length ts) (Items ∷ []) (omega arith)
