-- The constants in the code of statements and functions are words if the numbers among their tokens
-- are.
use Rattle.std.proofs.Common.{ℕ, ℤ, pos, suc, Bool, true, false, List, [], ◌∷◌, length}
use Rattle.std.specs.Prelude.{Option, None, Some, if◌then◌else◌}
use Rattle.std.specs.List.{AllByRecursion}
use Rattle.nvm_base.specs.declared.op.BinOp.{BinOp}
use Rattle.nvm_base.specs.Wrap.{IsWord}
use Rattle.c_lexer.specs.declared.token.Placed.{Placed}
use Rattle.c_tree.specs.declared.stmt.AssignOp.{AssignOp}
use Rattle.c_tree.specs.declared.stmt.AssignOp.TheVariants as assign
use Rattle.c_tree.specs.Kinds.{value_at}
use Rattle.c_tree.specs.Operators.{update_binary}
use Rattle.c_tree.specs.ExprTree.{ExprTree, Ident}
use Rattle.c_tree.specs.StmtTree as stmt
use Rattle.c_tree.specs.StmtTree.{StmtTree, Statements, SimpleTree, FirstTree, DeclarationTree}
use Rattle.c_tree.specs.StmtTree.{InitialTree}
use Rattle.c_tree.specs.StmtSpelling.{Declares, plain, initial, Bracketed, bracketed, Acts, assigns}
use Rattle.c_tree.specs.StmtSpelling.{steps, Simply, acts, calls, frees, aborts, FirstPart}
use Rattle.c_tree.specs.StmtSpelling.{first_none, first_declares, first_simply, ValuePart}
use Rattle.c_tree.specs.StmtSpelling.{value_none, value_some, ThirdPart, third_none, third_some}
use Rattle.c_tree.specs.StmtSpelling.{Spells, empty, declares, simply, block, if_alone, if_else}
use Rattle.c_tree.specs.StmtSpelling.{repeats, repeats_after, counts, breaks, continues, returns}
use Rattle.c_tree.specs.StmtSpelling.{SpellsAll, nothing, something}
use Rattle.c_tree.specs.ItemTree.{ItemTree, FunctionTree, ParameterTree}
use Rattle.c_tree.specs.declared.item.Marked.{Marked}
use Rattle.c_tree.specs.ItemSpelling.{SpellsFunction, function, SpellsItem, struct_def, root_decl}
use Rattle.c_tree.specs.ItemSpelling.{transaction, plain_function, SpellsItems, items_end}
use Rattle.c_tree.specs.ItemSpelling.{items_more}
use Rattle.c_tree.specs.Program.{Program}
use Rattle.c_types.specs.Expressions.{sides_type}
use Rattle.c_types.specs.Tables.{Tables, function_trees}
use Rattle.ir.specs.declared.instruction.Instruction.TheVariants.{Copy}
use Rattle.lower.specs.Assigned.{is_assigned}
use Rattle.lower.specs.Forms.{operation_of}
use Rattle.lower.specs.Names.{Variables, inner_variables, variable_of}
use Rattle.lower.specs.Lowers.{Context, exp_end, exp_code, target_end, target_code, arguments_code}
use Rattle.lower.specs.Lowers.{or_end, or_code, set_code, update_code, update_operation}
use Rattle.lower.specs.Lowers.{step_operation, simple_code, initial_code, first_end, first_code}
use Rattle.lower.specs.Lowers.{variables_after_first}
use Rattle.lower.specs.Lowers.{third_end, third_code, variables_after, stmt_end, stmt_code}
use Rattle.lower.specs.Lowers.{statements_end, statements_code}
use Rattle.lower.specs.Program.{parameters_end, parameters_code, variables_after_parameters}
use Rattle.lower.specs.Program.{no_variables, context_at, lowered_function}
use Rattle.tree_law.proofs.checked.ExprConstants.{AreWords, both_words, zero_word, one_word}
use Rattle.tree_law.proofs.checked.ExprConstants.{ExpWords, expression_words, postfix_words}
use Rattle.tree_law.proofs.checked.ExprConstants.{arguments_words}

abbrev OrWords : Context → Option ExprTree → Type 0
OrWords k e = (v : Variables) (m : ℤ) (p : ℕ) → IsWord m → AreWords (or_code k v m e p)

abbrev SimpleWords : Context → SimpleTree → Type 0
SimpleWords k x = (v : Variables) (p : ℕ) → AreWords (simple_code k v x p)

abbrev InitialWords : Context → Option InitialTree → Type 0
InitialWords k i = (v : Variables) (p : ℕ) → AreWords (initial_code k v i p)

abbrev FirstWords : Context → Option FirstTree → Type 0
FirstWords k f = (v : Variables) (p : ℕ) → AreWords (first_code k v f p)

abbrev ThirdWords : Context → Option SimpleTree → Type 0
ThirdWords k x = (v : Variables) (p : ℕ) → AreWords (third_code k v x p)

abbrev StmtWords : Context → StmtTree → Type 0
StmtWords k x = (v : Variables) (out again p : ℕ) → AreWords (stmt_code k v x out again p)

abbrev StatementsWords : Context → Statements → Type 0
StatementsWords k xs = (v : Variables) (out again p : ℕ)
    → AreWords (statements_code k v xs out again p)

none_words : (k : Context) → OrWords k None
none_words k v m p w = (w, tt)

some_words : (k : Context) (e : ExprTree) → ExpWords k e → OrWords k (Some e)
some_words k e h v m p w = (h v p).0

set_words : (k : Context) (v : Variables) (name : Option Ident) (target : ExprTree) (place : ℕ)
    (value : ExprTree) (p : ℕ) → ExpWords k target → ExpWords k value
    → AreWords (set_code k v name target place value p)
set_words k v (Some name) target place value p a b =
    both_words (exp_code k v value p) _ (b v p).0 (tt, tt)
set_words k v None target place value p a b =
    let q : ℕ = target_end target p in
    both_words (target_code k v target p) _ (a v p).1
    (both_words (exp_code k v value q) _ (b v q).0 (tt, tt))

update_words : (k : Context) (v : Variables) (name : Option Ident) (target : ExprTree) (place : ℕ)
    (o : BinOp) (value : Option ExprTree) (p : ℕ) → ExpWords k target → OrWords k value
    → AreWords (update_code k v name target place o value p)
update_words k v (Some name) target place o value p a b =
    both_words (or_code k v (pos 1) value p) _ (b v (pos 1) p one_word) (tt, (tt, tt))
update_words k v None target place o value p a b =
    let q : ℕ = suc (target_end target p) in
    both_words (target_code k v target p) _ (a v p).1
    (tt, both_words (or_code k v (pos 1) value q) _ (b v (pos 1) q one_word) (tt, (tt, tt)))

assign_words : (k : Context) (o : AssignOp) (target : ExprTree) (place : ℕ) (value : ExprTree)
    → ExpWords k target → ExpWords k value → SimpleWords k (stmt.Assign target o place value)
assign_words k assign.Set target place value a b v p =
    set_words k v (variable_of target) target place value p a b
assign_words k (assign.Update o) target place value a b v p =
    update_words k v (variable_of target) target place
    (operation_of (sides_type k.tables v.scopes (update_binary o) target value)
    (update_operation o)) (Some value) p a
    (some_words k value b)

module _ (k : Context) (ts : List Placed) (words : (i : ℕ) → IsWord (value_at ts i)) where
  declares_words : {i j : ℕ} {d : DeclarationTree} → Declares ts i j d → InitialWords k d.initial
  declares_words (plain typed name) v p = (zero_word, tt)
  declares_words (initial {e = e} typed name is h) v p =
      both_words (exp_code k v e p) _ (expression_words k ts words h v p).0 (tt, tt)

  bracketed_words : {i j : ℕ} {e : ExprTree} → Bracketed ts i j e → ExpWords k e
  bracketed_words (bracketed opens h closes) = expression_words k ts words h

  acts_words : {i j : ℕ} {a : ExprTree} {x : SimpleTree} → ExpWords k a → Acts ts i j a x
      → SimpleWords k x
  acts_words h (assigns {i = i} {a = a} {e = e} o is value) =
      assign_words k o a i e h (expression_words k ts words value)
  acts_words h (steps {i = i} {a = a} o is) =
      λ v p. update_words k v (variable_of a) a i (step_operation o) None p h (none_words k)

  simply_words : {i j : ℕ} {x : SimpleTree} → Simply ts i j x → SimpleWords k x
  simply_words (acts h act) = acts_words (postfix_words k ts words h) act
  simply_words (calls {all = all} name opens h) =
      λ v p. both_words (arguments_code k v all p) _ (arguments_words k ts words h v p)
      (tt, (tt, tt))
  simply_words (frees {e = e} is h) =
      λ v p. both_words (exp_code k v e p) _ (bracketed_words h v p).0 (tt, tt)
  simply_words (aborts is opens closes) = λ v p. (tt, tt)

  first_words : {i j : ℕ} {f : Option FirstTree} → FirstPart ts i j f → FirstWords k f
  first_words first_none v p = tt
  first_words (first_declares h) v p = declares_words h v p
  first_words (first_simply h) v p = simply_words h v p

  value_words : {i j : ℕ} {c : Option ExprTree} → ValuePart ts i j c → OrWords k c
  value_words value_none = none_words k
  value_words (value_some {e = e} h) = some_words k e (expression_words k ts words h)

  third_words : {i j : ℕ} {x : Option SimpleTree} → ThirdPart ts i j x → ThirdWords k x
  third_words third_none v p = tt
  third_words (third_some h) v p = simply_words h v p

  mutual
    stmt_words : {loop : Bool} {i j : ℕ} {x : StmtTree} → Spells ts loop i j x → StmtWords k x
    stmt_words (empty ends) v out again p = tt
    stmt_words (declares h ends) v out again p = declares_words h v p
    stmt_words (simply h ends) v out again p = simply_words h v p
    stmt_words (block opens h closes) v out again p =
        statements_words h (inner_variables v) out again p
    stmt_words (if_alone {e = e} {s = x} is c h alone) v out again p =
        both_words (exp_code k v e p) _ (bracketed_words c v p).0
        (tt, stmt_words h (inner_variables v) out again (suc (exp_end e p)))
    stmt_words (if_else {e = e} {a = x} {b = y} is c h other g) v out again p =
        let p1 : ℕ = suc (exp_end e p) in
        let p2 : ℕ = suc (stmt_end x p1) in
        both_words (exp_code k v e p) _ (bracketed_words c v p).0 (
          tt,
          both_words (stmt_code k (inner_variables v) x out again p1) _
              (stmt_words h (inner_variables v) out again p1)
              (tt, stmt_words g (inner_variables v) out again p2),
        )
    stmt_words (repeats {e = e} {s = x} is c h) v out again p =
        let p1 : ℕ = suc (exp_end e (suc p)) in
        let p2 : ℕ = suc (stmt_end x p1) in (
          tt,
          both_words (exp_code k v e (suc p)) _ (bracketed_words c v (suc p)).0 (
            tt,
            both_words (stmt_code k (inner_variables v) x p2 p p1) _
                (stmt_words h (inner_variables v) p2 p p1) (tt, tt),
          ),
        )
    stmt_words (repeats_after {e = e} {s = x} is h word c ends) v out again p =
        let p1 : ℕ = stmt_end x p in
        let q : ℕ = suc (suc (exp_end e (suc p1))) in
        both_words (stmt_code k (inner_variables v) x q p1 p) _
        (stmt_words h (inner_variables v) q p1 p) (
          tt,
          both_words (exp_code k v e (suc p1)) _ (bracketed_words c v (suc p1)).0 (tt, (tt, tt)),
        )
    stmt_words (counts {f = f} {c = c} {t = third} {s = x} is opens first one condition two last
        closes h) v out again p =
        let u : Variables = variables_after_first k f p (inner_variables v) in
        let p0 : ℕ = suc (first_end f p) in
        let p1 : ℕ = suc (or_end c p0) in
        let p2 : ℕ = stmt_end x p1 in
        let p3 : ℕ = suc (third_end third p2) in
        both_words (first_code k (inner_variables v) f p) _
        (first_words first (inner_variables v) p) (
          tt,
          both_words (or_code k u (pos 1) c p0) _ (value_words condition u (pos 1) p0 one_word) (
            tt,
            both_words (stmt_code k (inner_variables u) x p3 p2 p1) _
                (stmt_words h (inner_variables u) p3 p2 p1)
                (both_words (third_code k u third p2) _ (third_words last u p2) (tt, tt)),
          ),
        )
    stmt_words (breaks is ends) v out again p = (tt, tt)
    stmt_words (continues is ends) v out again p = (tt, tt)
    stmt_words (returns {c = c} is value ends) v out again p =
        both_words (or_code k v (pos 0) c p) _ (value_words value v (pos 0) p zero_word) (tt, tt)

    pub statements_words : {loop : Bool} {i j : ℕ} {xs : Statements} → SpellsAll ts loop i j xs
        → StatementsWords k xs
    statements_words nothing v out again p = tt
    statements_words (something {s = x} h others) v out again p =
        both_words (stmt_code k v x out again p) _ (stmt_words h v out again p)
        (statements_words others (variables_after k x p v) out again (stmt_end x p))

parameters_words : (k : Context) (body : Statements) (n : ℕ) (xs : List ParameterTree) (p : ℕ)
    → AreWords (parameters_code k body n xs p)
parameters_words k body n [] p = tt
parameters_words k body n (x ∷ xs) p =
    by_test (is_assigned x.name.text body) (λ q. parameters_words k body (suc n) xs q)
  where
    by_test : (b : Bool) → ((q : ℕ) → AreWords (parameters_code k body (suc n) xs q))
        → AreWords (if b then Copy (k.node (suc p)) n ∷ parameters_code k body (suc n) xs (suc p)
        else parameters_code k body (suc n) xs p)
    by_test true rest = (tt, rest (suc p))
    by_test false rest = rest p

module _ (t : Tables) (program : Program) (ts : List Placed) (words : (i : ℕ)
    → IsWord (value_at ts i)) where
  abbrev pub FunctionWords : FunctionTree → Type 0
  FunctionWords f = AreWords (lowered_function t program f).code

  function_words : {tx : Bool} {b : Marked} {i j : ℕ} {x : ItemTree} (xs : List ItemTree)
      → SpellsFunction ts tx b i j x → AllByRecursion FunctionWords (function_trees xs)
      → AllByRecursion FunctionWords (function_trees (x ∷ xs))
  function_words xs (function {tx = tx} {m = m} {r = r} {ps = ps} {all = all} result name opens
      signature brace body closes) rest =
      let k : Context = context_at t program (length ps) in
      let p : ℕ = parameters_end all ps 0 in
      let q : ℕ = statements_end all p in
      let v : Variables = variables_after_parameters k all 0 ps 0 no_variables in (
        both_words (parameters_code k all 0 ps 0) _ (parameters_words k all 0 ps 0)
            (both_words (statements_code k v all q q p) _ (statements_words k ts words body v q q p)
            (zero_word, (tt, tt))),
        rest,
      )

  item_words : {i j : ℕ} {x : ItemTree} (xs : List ItemTree) → SpellsItem ts i j x
      → AllByRecursion FunctionWords (function_trees xs)
      → AllByRecursion FunctionWords (function_trees (x ∷ xs))
  item_words xs (struct_def is name opens field fields closes ends) rest = rest
  item_words xs (root_decl is word name root ends) rest = rest
  item_words xs (transaction mark h) rest = function_words xs h rest
  item_words xs (plain_function h) rest = function_words xs h rest

  pub items_words : {i j : ℕ} {xs : List ItemTree} → SpellsItems ts i j xs
      → AllByRecursion FunctionWords (function_trees xs)
  items_words items_end = tt
  items_words (items_more {xs = xs} h others) = item_words xs h (items_words others)
