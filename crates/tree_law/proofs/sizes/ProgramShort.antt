-- The code of a program is short: at most four instructions for each of its tokens.
use Rattle.std.proofs.Common.{◌≡◌, ℕ, suc, ◌+◌, ◌*◌, ◌≤◌, List, [], ◌∷◌, map, length, Bool, true}
use Rattle.std.proofs.Common.{false, ap, ◌∙◌, arith}
use Rattle.std.specs.Prelude.{if◌then◌else◌, Option}
use Rattle.std.proofs.lemmas.List.{length-map}
use Rattle.c_lexer.specs.declared.token.Placed.{Placed}
use Rattle.c_tree.specs.Kinds.{ident_at}
use Rattle.c_tree.specs.StmtTree.{TypeTree, Statements}
use Rattle.c_tree.specs.ItemTree.{ParameterTree, FunctionTree, ItemTree}
use Rattle.c_tree.specs.ItemTree as tree
use Rattle.c_tree.specs.Program.{Program, tree_of}
use Rattle.c_tree.specs.ItemSpelling.{SpellsParameters, parameters_last, parameters_more, Signature}
use Rattle.c_tree.specs.ItemSpelling.{signature_none, signature_void, signature_some, ResultType}
use Rattle.c_tree.specs.declared.item.Marked.{Marked}
use Rattle.c_tree.specs.ItemSpelling.{result_void, result_some, unmarked, marked_abort}
use Rattle.c_tree.specs.ItemSpelling.{marked_const, SpellsFunction}
use Rattle.c_tree.specs.ItemSpelling.{function, SpellsItem, struct_def, root_decl, transaction}
use Rattle.c_tree.specs.ItemSpelling.{plain_function, SpellsItems, items_end, items_more}
use Rattle.c_tree.specs.ItemSpelling.{SpellsField, SpellsFields, fields_end, fields_more, single}
use Rattle.c_tree.specs.ItemSpelling.{array}
use Rattle.c_types.specs.Tables.{Tables, tables_of, function_trees}
use Rattle.lower.specs.Assigned.{is_assigned}
use Rattle.lower.specs.Program.{parameters_end, lowered_function, lowered}
use Rattle.code_meaning.specs.Whole.{whole}
use Rattle.tree_law.specs.sizes.Law.{SizeLaw, AllowedLaw}
use Rattle.tree_law.proofs.sizes.StmtLengths.{function_long}
use Rattle.tree_law.proofs.sizes.StmtShort.{typed_grows, statements_short}

-- a parameter costs at most one instruction
one_at_most : (b : Bool) (p : ℕ) → (if b then suc p else p) ≤ suc p
one_at_most true p = omega arith
one_at_most false p = omega arith

parameters_few : (body : Statements) (xs : List ParameterTree) (p : ℕ)
    → parameters_end body xs p ≤ p + length xs
parameters_few body [] p = omega arith
parameters_few body (x ∷ xs) p =
    let q : ℕ = if is_assigned x.name.text body then suc p else p in
    omega (arith, one_at_most (is_assigned x.name.text body) p, parameters_few body xs q)

parameters_short : {ts : List Placed} {i j : ℕ} {ps : List ParameterTree}
    → SpellsParameters ts i j ps → length ps + i ≤ j
parameters_short (parameters_last typed name closes) = omega (arith, typed_grows typed)
parameters_short (parameters_more typed name comma h) =
    omega (arith, typed_grows typed, parameters_short h)

signature_short : {ts : List Placed} {i j : ℕ} {ps : List ParameterTree} → Signature ts i j ps
    → length ps + i ≤ j
signature_short (signature_none closes) = omega arith
signature_short (signature_void is closes) = omega arith
signature_short (signature_some h) = parameters_short h

result_grows : {ts : List Placed} {i j : ℕ} {r : Option TypeTree} → ResultType ts i j r → i + 1 ≤ j
result_grows (result_void is) = omega arith
result_grows (result_some h) = typed_grows h

field_grows : {ts : List Placed} {i j : ℕ} {f : tree.FieldTree} → SpellsField ts i j f → i ≤ j
field_grows (single typed name ends) = omega (arith, typed_grows typed)
field_grows (array typed name opens number closes ends) = omega (arith, typed_grows typed)

fields_grow : {ts : List Placed} {i j : ℕ} {fs : List tree.FieldTree}
    → SpellsFields ts i j fs → i ≤ j
fields_grow fields_end = omega arith
fields_grow (fields_more h others) = omega (arith, field_grows h, fields_grow others)

module _ (t : Tables) (program : Program) where
  -- the code of the functions among these items
  abbrev code_in : List ItemTree → ℕ
  code_in xs = whole (map (lowered_function t program) (function_trees xs))

  function_short : {ts : List Placed} {tx : Bool} {b : Marked} {i j : ℕ} {x : ItemTree}
      (xs : List ItemTree) → SpellsFunction ts tx b i j x
      → code_in (x ∷ xs) + 4 * i ≤ code_in xs + 4 * j
  function_short {ts} xs (function {tx = tx} {a = b} {m = m} {r = r} {ps = ps} {all = all}
      result name opens signature brace body closes) =
      let f : FunctionTree = record {
        tx = tx;
        mark = b;
        result_type = r;
        name = ident_at ts m;
        parameters = ps;
        body = all;
      } in
      let q : ℕ = parameters_end all ps 0 in
      omega (
        arith,
        function_long t program f,
        parameters_few all ps 0,
        signature_short signature,
        result_grows result,
        statements_short body q,
      )

  item_short : {ts : List Placed} {i j : ℕ} {x : ItemTree} (xs : List ItemTree)
      → SpellsItem ts i j x → code_in (x ∷ xs) + 4 * i ≤ code_in xs + 4 * j
  item_short xs (struct_def is name opens field fields closes ends) =
      omega (arith, field_grows field, fields_grow fields)
  item_short xs (root_decl is word name root ends) = omega arith
  item_short xs (transaction (unmarked is) h) = omega (arith, function_short xs h)
  item_short xs (transaction (marked_abort is word) h) = omega (arith, function_short xs h)
  item_short xs (transaction (marked_const is word) h) = omega (arith, function_short xs h)
  item_short xs (plain_function h) = function_short xs h

  items_short : {ts : List Placed} {i j : ℕ} {xs : List ItemTree} → SpellsItems ts i j xs
      → code_in xs + 4 * i ≤ 4 * j
  items_short items_end = omega arith
  items_short (items_more {xs = xs} h others) = omega (arith, item_short xs h, items_short others)

pub size : SizeLaw
size tree tokens spells =
    let h : whole (lowered tree).functions + 4 * 0 ≤ 4 * length tokens =
    items_short (tables_of (tree_of tree)) tree spells in
    omega (arith, h)

pub allowed : AllowedLaw
allowed tree tokens spells lines =
    let long : length tree.lines ≡ length tokens =
    ap length lines ∙ length-map tokens (λ placed. placed.line) in
    omega (arith, long, size tree tokens spells)
