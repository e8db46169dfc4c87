-- The code of a statement is short: at most four instructions for each of its tokens.
use Rattle.std.proofs.Common.{ℕ, suc, ◌+◌, ◌*◌, ◌≤◌, List, Bool, arith}
use Rattle.std.specs.Prelude.{Option, None, Some}
use Rattle.c_lexer.specs.declared.token.Placed.{Placed}
use Rattle.c_tree.specs.declared.stmt.AssignOp.{AssignOp}
use Rattle.c_tree.specs.declared.stmt.AssignOp.TheVariants as assign
use Rattle.c_tree.specs.ExprTree.{ExprTree, Ident}
use Rattle.c_tree.specs.StmtTree.{TypeTree, DeclarationTree, SimpleTree, FirstTree, StmtTree}
use Rattle.c_tree.specs.StmtTree.{Statements}
use Rattle.c_tree.specs.StmtTree as tree
use Rattle.c_tree.specs.StmtSpelling.{Typed, int, pointer, Declares, plain, initial, Bracketed}
use Rattle.c_tree.specs.StmtSpelling.{bracketed, Acts, assigns, steps, Simply, acts, calls, frees}
use Rattle.c_tree.specs.StmtSpelling.{aborts, FirstPart, first_none, first_declares, first_simply}
use Rattle.c_tree.specs.StmtSpelling.{ValuePart, value_none, value_some, ThirdPart, third_none}
use Rattle.c_tree.specs.StmtSpelling.{third_some, Spells, empty, declares, simply, block, if_alone}
use Rattle.c_tree.specs.StmtSpelling.{if_else, repeats, repeats_after, counts, breaks, continues}
use Rattle.c_tree.specs.StmtSpelling.{returns, SpellsAll, nothing, something}
use Rattle.lower.specs.Names.{variable_of}
use Rattle.lower.specs.Lowers.{exp_end, target_end, or_end, set_end, update_end, simple_end}
use Rattle.lower.specs.Lowers.{initial_end, first_end, third_end, stmt_end, statements_end}
use Rattle.lower.proofs.Ends.{exp_end_le}
use Rattle.tree_law.proofs.sizes.ExprShort.{Short, Shorter, target_end_small, expression_short}
use Rattle.tree_law.proofs.sizes.ExprShort.{postfix_short, arguments_short}

pub typed_grows : {ts : List Placed} {i j : ℕ} {t : TypeTree} → Typed ts i j t → i + 1 ≤ j
typed_grows (int n is) = omega arith
typed_grows (pointer is name star) = omega arith

declares_short : {ts : List Placed} {i j : ℕ} {d : DeclarationTree} → Declares ts i j d
    → Short (initial_end d.initial) i j
declares_short (plain typed name) p = omega (arith, typed_grows typed)
declares_short (initial typed name sets h) p =
    omega (arith, typed_grows typed, expression_short h p)

bracketed_short : {ts : List Placed} {i j : ℕ} {e : ExprTree} → Bracketed ts i j e → Shorter e i j
bracketed_short (bracketed opens h closes) p = omega (arith, expression_short h p)

set_short : (name : Option Ident) (a e : ExprTree) (k i j : ℕ) → Shorter a k i → Shorter e (i + 1) j
    → Short (set_end name a e) k j
set_short (Some name) a e k i j ha he p = omega (arith, ha p, exp_end_le a p, he p)
set_short None a e k i j ha he p = omega (arith, ha p, target_end_small a p, he (target_end a p))

-- a value comes after the token of its operator; the 1 of `++` and `--` has only that token
update_short : (name : Option Ident) (a : ExprTree) (value : Option ExprTree) (k i j : ℕ)
    → Shorter a k i → ((p : ℕ) → or_end value p + 3 + 4 * i ≤ p + 4 * j)
    → Short (update_end name a value) k j
update_short (Some name) a value k i j ha hv p = omega (arith, ha p, exp_end_le a p, hv p)
update_short None a value k i j ha hv p =
    omega (arith, ha p, target_end_small a p, hv (suc (target_end a p)))

assign_short : (o : AssignOp) (a e : ExprTree) (k i j : ℕ) → Shorter a k i → Shorter e (i + 1) j
    → Short (simple_end (tree.Assign a o i e)) k j
assign_short assign.Set a e k i j ha he = set_short (variable_of a) a e k i j ha he
assign_short (assign.Update o) a e k i j ha he =
    update_short (variable_of a) a (Some e) k i j ha (λ p. omega (arith, he p))

acts_short : {ts : List Placed} {i j : ℕ} {a : ExprTree} {x : SimpleTree} (k : ℕ) → Shorter a k i
    → Acts ts i j a x → Short (simple_end x) k j
acts_short k h (assigns {i = i} {j = j} {a = a} {e = e} o is value) =
    assign_short o a e k i j h (expression_short value)
acts_short k h (steps {i = i} {a = a} o is) =
    update_short (variable_of a) a None k i (i + 1) h (λ p. omega arith)

simply_short : {ts : List Placed} {i j : ℕ} {x : SimpleTree} → Simply ts i j x
    → Short (simple_end x) i j
simply_short (acts {i = i} target h) p = acts_short i (postfix_short target) h p
simply_short (calls name opens h) p = omega (arith, arguments_short h p)
simply_short (frees is h) p = omega (arith, bracketed_short h p)
simply_short (aborts is opens closes) p = omega arith

first_short : {ts : List Placed} {i j : ℕ} {x : Option FirstTree} → FirstPart ts i j x
    → Short (first_end x) i j
first_short first_none p = omega arith
first_short (first_declares h) p = declares_short h p
first_short (first_simply h) p = simply_short h p

third_short : {ts : List Placed} {i j : ℕ} {x : Option SimpleTree} → ThirdPart ts i j x
    → Short (third_end x) i j
third_short third_none p = omega arith
third_short (third_some h) p = simply_short h p

-- an absent value is a constant
value_short : {ts : List Placed} {i j : ℕ} {e : Option ExprTree} → ValuePart ts i j e → (p : ℕ)
    → or_end e p + 4 * i ≤ p + 4 * j + 1
value_short value_none p = omega arith
value_short (value_some h) p = omega (arith, expression_short h p)

mutual
  stmt_short : {ts : List Placed} {loop : Bool} {i j : ℕ} {x : StmtTree} → Spells ts loop i j x
      → Short (stmt_end x) i j
  stmt_short (empty is) p = omega arith
  stmt_short (declares h ends) p = omega (arith, declares_short h p)
  stmt_short (simply h ends) p = omega (arith, simply_short h p)
  stmt_short (block opens h closes) p = omega (arith, statements_short h p)
  stmt_short (if_alone {e = e} is condition h alone) p =
      omega (arith, bracketed_short condition p, stmt_short h (suc (exp_end e p)))
  stmt_short (if_else {e = e} {a = a} is condition h other g) p =
      let q : ℕ = suc (exp_end e p) in
      omega (arith, bracketed_short condition p, stmt_short h q, stmt_short g (suc (stmt_end a q)))
  stmt_short (repeats {e = e} is condition h) p =
      omega (arith, bracketed_short condition (suc p), stmt_short h (suc (exp_end e (suc p))))
  stmt_short (repeats_after {e = e} {s = s} is h word condition ends) p =
      omega (arith, stmt_short h p, bracketed_short condition (suc (stmt_end s p)))
  stmt_short (counts {f = f} {c = c} {t = t} {s = s} is opens first ends condition ends1 third
      closes h) p =
      let q : ℕ = suc (first_end f p) in
      let r : ℕ = suc (or_end c q) in
      omega (
        arith,
        first_short first p,
        value_short condition q,
        stmt_short h r,
        third_short third (stmt_end s r),
      )
  stmt_short (breaks is ends) p = omega arith
  stmt_short (continues is ends) p = omega arith
  stmt_short (returns is h ends) p = omega (arith, value_short h p)

  pub statements_short : {ts : List Placed} {loop : Bool} {i j : ℕ} {xs : Statements}
      → SpellsAll ts loop i j xs → Short (statements_end xs) i j
  statements_short nothing p = omega arith
  statements_short (something {s = s} h others) p =
      omega (arith, stmt_short h p, statements_short others (stmt_end s p))
