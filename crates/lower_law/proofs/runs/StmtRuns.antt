-- The code of a statement does what the statement does.
use Rattle.std.proofs.Common.{◌≡◌, ℕ, suc, ◌+◌, ◌<◌, ◌≤◌, ℤ, pos, List, [], ◌∷◌, ◌++◌, length, refl}
use Rattle.std.proofs.Common.{ap, ◌∙◌, subst, arith, append_assoc}
use Rattle.std.specs.Prelude.{Option, None, Some}
use Rattle.c_tree.specs.ExprTree.{ExprTree}
use Rattle.c_tree.specs.StmtTree as stmt
use Rattle.c_tree.specs.StmtTree.{StmtTree, Statements, FirstTree, DeclarationTree, InitialTree}
use Rattle.c_types.specs.Tables.{declared_type}
use Rattle.pool_map.specs.PoolMap.{PoolMap}
use Rattle.c_meaning.specs.Locals.{Local}
use Rattle.c_meaning.specs.Meaning as meaning
use Rattle.c_meaning.specs.Meaning.{Out, StmtEnd, Next, Gave, Calls, then_next, at_zero, value_of}
use Rattle.c_meaning.specs.Meaning.{condition_of, in_scope, turns, end_of_stmt, ends_of}
use Rattle.c_meaning.specs.Accesses.{Access, CallAccesses, on_next, value_accesses}
use Rattle.c_meaning.specs.Accesses.{optional_accesses, first_accesses, third_accesses}
use Rattle.c_meaning.specs.Accesses.{turn_accesses, stmt_accesses, statement_accesses}
use Rattle.ir.specs.declared.instruction.Instruction.{Instruction}
use Rattle.ir.specs.declared.instruction.Instruction.TheVariants.{Jump, Branch, Return, Tick}
use Rattle.ir.specs.declared.function.Ir.{Ir}
use Rattle.lower.specs.Names.{Variables, inner_variables, variable_declared}
use Rattle.lower.specs.Lowers.{Context, exp_end, exp_code, reg_of, or_end, or_code, or_reg}
use Rattle.lower.specs.Lowers.{simple_end, initial_end, first_end, first_code}
use Rattle.lower.specs.Lowers.{variables_after_first, third_end, third_code, variables_after}
use Rattle.lower.specs.Lowers.{stmt_end, stmt_code, statements_end, statements_code}
use Rattle.lower.proofs.Ends.{exp_end_le, or_end_le, simple_end_le, first_end_le, third_end_le}
use Rattle.lower.proofs.Ends.{stmt_end_le, statements_end_le}
use Rattle.code_meaning.specs.Code.{Frame, gives, register_at}
use Rattle.lower_law.proofs.runs.Paths.{path_then, path_step, acted, silent}
use Rattle.lower_law.proofs.runs.Has.{At, HasAt, exp_has, or_has, first_has, third_has, stmt_has}
use Rattle.lower_law.proofs.locals.Locals.{Entry, Holds, below_more}
use Rattle.lower_law.proofs.locals.Scopes.{Over, over, over_less, length_held, scope_end}
use Rattle.lower_law.proofs.locals.Scopes.{differs_below}
use Rattle.lower_law.proofs.names.StmtFits.{DeclarationFits, FirstFits, StmtFits, StatementsFit}
use Rattle.lower_law.proofs.names.StmtFits.{entry_in}
use Rattle.lower_law.proofs.names.StmtFits.{first_entries, entries_after}
use Rattle.lower_law.proofs.runs.ExprSteps.{CallsRun, Gives, puts, at_branch}
use Rattle.lower_law.proofs.runs.StmtSteps.{or_value, Runs, runs_map, runs_scope, value_then}
use Rattle.lower_law.proofs.runs.StmtSteps.{value_quiet, next_then, turn_then, branch_runs}
use Rattle.lower_law.proofs.runs.StmtSteps.{then_jump}
use Rattle.lower_law.proofs.runs.StmtSteps.{stands_still, still_at, back_jump, jump_runs, loop_runs}
use Rattle.lower_law.proofs.runs.SimpleRuns.{Scoped, scoped_after, held_at, exp_gives, or_gives}
use Rattle.lower_law.proofs.runs.SimpleRuns.{simple_runs, third_runs, declaration_runs}

module _ (ir : Ir) (m f : ℕ) (k : Context) (rises : (p q : ℕ) → p < q → k.node p < k.node q)
    (below : List Frame) (calls : Calls) (seen : CallAccesses)
    (run : CallsRun k.tables ir m f below calls seen) where
  pub initial_lt : (i : Option InitialTree) (p : ℕ) → p < initial_end i p
  initial_lt None p = omega arith
  initial_lt (Some i) p = omega (arith, exp_end_le i.value p)

  scoped_inside : (v : Variables) (es : List Entry) (p : ℕ)
      → Scoped ir m f k rises below calls seen run v es p
      → Scoped ir m f k rises below calls seen run (inner_variables v) es p
  scoped_inside v es p s = record {
    agrees = λ name. s.agrees name;
    apart = s.apart;
    under = s.under;
  }

  scoped_declared : (v : Variables) (es : List Entry) (d : DeclarationTree) (p : ℕ)
      → Scoped ir m f k rises below calls seen run v es p → DeclarationFits k ir v es d
      → Scoped ir m f k rises below calls seen run
      (variable_declared d.name.text (declared_type k.tables d.ty)
      (k.node (initial_end d.initial p)) v) (entry_in k ir d (k.node (initial_end d.initial p))
      ∷ es) (initial_end d.initial p)
  scoped_declared v es d p s fits =
      let q : ℕ = initial_end d.initial p in
      let up : k.node p < k.node q = rises p q (initial_lt d.initial p) in
      record {
        agrees = fits.1 (k.node q);
        apart = (differs_below (k.node p) (k.node q) es s.under up, s.apart);
        under = (self (k.node q), below_more (k.node p) (k.node q) es (omega (arith, up)) s.under);
      }
    where
      self : (n : ℕ) → n ≤ n
      self n = omega arith

  scoped_first : (v : Variables) (es : List Entry) (x : Option FirstTree) (p : ℕ)
      → Scoped ir m f k rises below calls seen run v es p → FirstFits k ir v es x
      → Scoped ir m f k rises below calls seen run (variables_after_first k x p v)
      (first_entries k ir x p es) (first_end x p)
  scoped_first v es None p s fits = s
  scoped_first v es (Some (stmt.Declare d)) p s fits = scoped_declared v es d p s fits
  scoped_first v es (Some (stmt.Simply x)) p s fits =
      scoped_after ir m f k rises below calls seen run v es p (simple_end x p) (simple_end_le x p) s

  scoped_from_after : (v : Variables) (es : List Entry) (x : StmtTree) (p : ℕ)
      → Scoped ir m f k rises below calls seen run v es p → StmtFits k ir v es x p
      → Scoped ir m f k rises below calls seen run (variables_after k x p v)
      (entries_after k ir x p es) (stmt_end x p)
  scoped_from_after v es (stmt.Declares d) p s fits = scoped_declared v es d p s fits
  scoped_from_after v es stmt.Empty p s fits = s
  scoped_from_after v es (stmt.Simple x) p s fits =
      scoped_after ir m f k rises below calls seen run v es p (stmt_end (stmt.Simple x) p)
      (stmt_end_le (stmt.Simple x) p) s
  scoped_from_after v es (stmt.Block all) p s fits =
      scoped_after ir m f k rises below calls seen run v es p (stmt_end (stmt.Block all) p)
      (stmt_end_le (stmt.Block all) p) s
  scoped_from_after v es (stmt.If c a) p s fits =
      scoped_after ir m f k rises below calls seen run v es p (stmt_end (stmt.If c a) p)
      (stmt_end_le (stmt.If c a) p) s
  scoped_from_after v es (stmt.IfElse c a b) p s fits =
      scoped_after ir m f k rises below calls seen run v es p (stmt_end (stmt.IfElse c a b) p)
      (stmt_end_le (stmt.IfElse c a b) p) s
  scoped_from_after v es (stmt.While place c a) p s fits =
      scoped_after ir m f k rises below calls seen run v es p (stmt_end (stmt.While place c a) p)
      (stmt_end_le (stmt.While place c a) p) s
  scoped_from_after v es (stmt.Do place a c) p s fits =
      scoped_after ir m f k rises below calls seen run v es p (stmt_end (stmt.Do place a c) p)
      (stmt_end_le (stmt.Do place a c) p) s
  scoped_from_after v es (stmt.For place first c third a) p s fits =
      scoped_after ir m f k rises below calls seen run v es p
      (stmt_end (stmt.For place first c third a) p)
      (stmt_end_le (stmt.For place first c third a) p) s
  scoped_from_after v es stmt.Break p s fits =
      scoped_after ir m f k rises below calls seen run v es p (suc p) (omega arith) s
  scoped_from_after v es stmt.Continue p s fits =
      scoped_after ir m f k rises below calls seen run v es p (suc p) (omega arith) s
  scoped_from_after v es (stmt.Return place value) p s fits =
      scoped_after ir m f k rises below calls seen run v es p (stmt_end (stmt.Return place value) p)
      (stmt_end_le (stmt.Return place value) p) s

  over_after : (x : StmtTree) (p : ℕ) (es : List Entry) (ls : List Local) (regs : List ℤ)
      → Over (entries_after k ir x p es) ls regs → Over es ls regs
  over_after (stmt.Declares d) p es ls regs h =
      over_less (entry_in k ir d (k.node (initial_end d.initial p))) es ls regs h
  over_after stmt.Empty p es ls regs h = h
  over_after (stmt.Simple x) p es ls regs h = h
  over_after (stmt.Block all) p es ls regs h = h
  over_after (stmt.If c a) p es ls regs h = h
  over_after (stmt.IfElse c a b) p es ls regs h = h
  over_after (stmt.While place c a) p es ls regs h = h
  over_after (stmt.Do place a c) p es ls regs h = h
  over_after (stmt.For place first c third a) p es ls regs h = h
  over_after stmt.Break p es ls regs h = h
  over_after stmt.Continue p es ls regs h = h
  over_after (stmt.Return place value) p es ls regs h = h

  over_first : (x : Option FirstTree) (p : ℕ) (es : List Entry) (ls : List Local) (regs : List ℤ)
      → Over (first_entries k ir x p es) ls regs → Over es ls regs
  over_first None p es ls regs h = h
  over_first (Some (stmt.Declare d)) p es ls regs h =
      over_less (entry_in k ir d (k.node (initial_end d.initial p))) es ls regs h
  over_first (Some (stmt.Simply x)) p es ls regs h = h

  -- the scope that a statement leaves
  leave_scope : (out again next s p q : ℕ) (es : List Entry) (ls : List Local) (regs0 : List ℤ)
      (N : List Local → List ℤ → Type 0) (regs : List ℤ) (w : PoolMap) (t : ℕ)
      (done : List Access) (o : StmtEnd)
      → Holds es ls regs0 → ((ls' : List Local) (r : List ℤ) → N ls' r → Over es ls' r)
      → Runs ir m f k rises below calls seen run out again next s p q N (Over es) regs w t done o
      → Runs ir m f k rises below calls seen run out again next s p q (Holds es) (Holds es) regs w t
      done (in_scope (length ls) o)
  leave_scope out again next s p q es ls regs0 N regs w t done o held up r =
      runs_scope ir m f k rises below calls seen run out again next s p q (length ls) N (Over es)
      (Holds es) (Holds es) regs w t done o
      (λ ls' r n. scope_end (length ls) es ls' r (length_held es ls regs0 held) (up ls' r n))
      (λ ls' r l. scope_end (length ls) es ls' r (length_held es ls regs0 held) l) r

  widen : (out again next s p q : ℕ) (es : List Entry) (regs : List ℤ) (w : PoolMap) (t : ℕ)
      (done : List Access) (o : StmtEnd)
      → Runs ir m f k rises below calls seen run out again next s p q (Holds es) (Holds es) regs w t
      done o
      → Runs ir m f k rises below calls seen run out again next s p q (Holds es) (Over es) regs w t
      done o
  widen out again next s p q es regs w t done o r =
      runs_map ir m f k rises below calls seen run out again next s p q (Holds es) (Holds es)
      (Holds es) (Over es) regs w t done o (λ ls r h. h) (λ ls r h. over es ls r h) r

  condition_is : (c : Option ExprTree) (ls : List Local) (w : PoolMap) (t : ℕ)
      → or_value k calls (pos 1) c ls w t ≡ condition_of k.tables calls c ls w t
  condition_is None ls w t = refl
  condition_is (Some e) ls w t = refl

  first_runs : (v : Variables) (es : List Entry) (x : Option FirstTree) (out again p : ℕ)
      (rest : List Instruction) (ls : List Local) (regs : List ℤ) (w : PoolMap) (t : ℕ)
      → Scoped ir m f k rises below calls seen run v es p → FirstFits k ir v es x
      → HasAt ir f p (first_code k v x p ++ rest) → Holds es ls regs
      → Runs ir m f k rises below calls seen run out again (first_end x p) p p (first_end x p)
      (Holds (first_entries k ir x p es)) (Over es) regs w t
      (first_accesses k.tables calls seen x ls w t) (meaning.end_of_first k.tables calls x ls w t)
  first_runs v es None out again p rest ls regs w t s fits h held =
      stands_still ir m f k rises below calls seen run out again p (Holds es)
      (Over es) ls regs w t held
  first_runs v es (Some (stmt.Declare d)) out again p rest ls regs w t s fits h held =
      declaration_runs ir m f k rises below calls seen run v es d d.initial out again p rest ls
      (Over es) regs w t s fits.0 h held
  first_runs v es (Some (stmt.Simply x)) out again p rest ls regs w t s fits h held =
      simple_runs ir m f k rises below calls seen run v es x out again p rest ls
      (Over es) regs w t s fits h held

  -- the body of a loop or of an if, in a scope of its own
  inner_of : (es : List Entry) (a : StmtTree) (out again p : ℕ) (ls : List Local) (regs : List ℤ)
      (w : PoolMap) (t : ℕ) → Holds es ls regs
      → Runs ir m f k rises below calls seen run out again (stmt_end a p) p p (stmt_end a p)
      (Holds (entries_after k ir a p es)) (Over es) regs w t
      (stmt_accesses k.tables calls seen a ls w t) (end_of_stmt k.tables calls a ls w t)
      → Runs ir m f k rises below calls seen run out again (stmt_end a p) p p (stmt_end a p)
      (Holds es) (Holds es) regs w t (stmt_accesses k.tables calls seen a ls w t)
      (in_scope (length ls) (end_of_stmt k.tables calls a ls w t))
  inner_of es a out again p ls regs w t held r =
      leave_scope out again (stmt_end a p) p p (stmt_end a p) es ls regs
      (Holds (entries_after k ir a p es)) regs w t (stmt_accesses k.tables calls seen a ls w t)
      (end_of_stmt k.tables calls a ls w t) held
      (λ ls' r o. over_after a p es ls' r (over (entries_after k ir a p es) ls' r o)) r

  body_of : (es : List Entry) (a : StmtTree) (out again p : ℕ) (ls : List Local) (regs : List ℤ)
      (w : PoolMap) (t : ℕ) → Holds es ls regs
      → Runs ir m f k rises below calls seen run out again (stmt_end a p) p p (stmt_end a p)
      (Holds (entries_after k ir a p es)) (Over es) regs w t
      (stmt_accesses k.tables calls seen a ls w t) (end_of_stmt k.tables calls a ls w t)
      → Runs ir m f k rises below calls seen run out again (stmt_end a p) p p (stmt_end a p)
      (Holds es) (Over es) regs w t (stmt_accesses k.tables calls seen a ls w t)
      (in_scope (length ls) (end_of_stmt k.tables calls a ls w t))
  body_of es a out again p ls regs w t held r =
      widen out again (stmt_end a p) p p (stmt_end a p) es regs w t
      (stmt_accesses k.tables calls seen a ls w t) (in_scope (length ls)
      (end_of_stmt k.tables calls a ls w t)) (inner_of es a out again p ls regs w t held r)

  module _ (small : (q : ℕ) (i : Instruction) → At ir f q i → q < m) where
    mutual
      pub stmt_runs : (v : Variables) (es : List Entry) (x : StmtTree) (out again p : ℕ)
          (rest : List Instruction) (ls : List Local) (regs : List ℤ) (w : PoolMap) (t : ℕ)
          → Scoped ir m f k rises below calls seen run v es p → StmtFits k ir v es x p
          → HasAt ir f p (stmt_code k v x out again p ++ rest) → Holds es ls regs
          → Runs ir m f k rises below calls seen run out again (stmt_end x p) p p (stmt_end x p)
          (Holds (entries_after k ir x p es)) (Over es) regs w t
          (stmt_accesses k.tables calls seen x ls w t) (end_of_stmt k.tables calls x ls w t)
      stmt_runs v es stmt.Empty out again p rest ls regs w t s fits h held =
          stands_still ir m f k rises below calls seen run out again p (Holds es) (Over es) ls
          regs w t held
      stmt_runs v es (stmt.Declares d) out again p rest ls regs w t s fits h held =
          declaration_runs ir m f k rises below calls seen run v es d d.initial out again p rest ls
          (Over es) regs w t s fits.0 h held
      stmt_runs v es (stmt.Simple x) out again p rest ls regs w t s fits h held =
          simple_runs ir m f k rises below calls seen run v es x out again p rest ls
          (Over es) regs w t s fits h held
      stmt_runs v es (stmt.Block all) out again p rest ls regs w t s fits h held =
          let q : ℕ = statements_end all p in
          let done : List Access = statement_accesses k.tables calls seen all ls w t in
          widen out again q p p q es regs w t done
          (in_scope (length ls) (ends_of k.tables calls all ls w t))
          (leave_scope out again q p p q es ls regs (Over es) regs w t done
          (ends_of k.tables calls all ls w t) held (λ ls' r o. o)
          (statements_run (inner_variables v) es all out again p rest ls regs w t
          (scoped_inside v es p s) fits h held))
      stmt_runs v es (stmt.If c a) out again p rest ls regs w t s fits h held =
          let p1 : ℕ = exp_end c p in
          let q : ℕ = stmt_end a (suc p1) in
          let rc : ℕ = reg_of k v c p1 in
          let turn : List Instruction = Branch rc q
          ∷ (stmt_code k (inner_variables v) a out again (suc p1) ++ rest) in
          let ha : HasAt ir f p (exp_code k v c p ++ turn) = simp append_assoc at h in
          let hc : HasAt ir f p1 turn = exp_has ir f k v c p turn ha in
          let le : p ≤ p1 = exp_end_le c p in
          let le1 : suc p1 ≤ q = stmt_end_le a (suc p1) in
          let s1 : Scoped ir m f k rises below calls seen run (inner_variables v) es (suc p1) =
          scoped_inside v es (suc p1) (scoped_after ir m f k rises below calls seen run v es p
          (suc p1) (omega (arith, le)) s) in
          value_then ir m f k rises below calls seen run (λ regs x. register_at regs rc ≡ x) out
          again q p p1 q (Holds es) (Over es) regs w t (value_accesses k.tables calls seen c ls w t)
          (value_of k.tables calls c ls w t)
          (λ x w t. at_zero x [] (stmt_accesses k.tables calls seen a ls w t))
          (λ x w t. at_zero x (Next ls w t)
          (in_scope (length ls) (end_of_stmt k.tables calls a ls w t))) (omega (arith, le1))
          (exp_gives ir m f k rises below calls seen run v es c p turn ls regs w t s fits.0 ha held)
          (λ x w1 t1 regs1 f1 same e1. let held1 : Holds es ls regs1 = held_at ir m f k rises below
          calls seen run v es p ls regs regs1 s same held in
          branch_runs ir m f k rises below calls seen run out again q p1 q q (Holds es)
          (Over es) x regs1 w1 t1 [] (Next ls w1 t1) (stmt_accesses k.tables calls seen a ls w1 t1)
          (in_scope (length ls) (end_of_stmt k.tables calls a ls w1 t1)) le1
          (at_branch ir m f k rises below p1 q rc x regs1 w1 t1 hc.0 e1)
          (stands_still ir m f k rises below calls seen run out again q (Holds es)
          (Over es) ls regs1 w1 t1 held1) (body_of es a out again (suc p1) ls regs1 w1 t1 held1
          (stmt_runs (inner_variables v) es a out again (suc p1) rest ls regs1 w1 t1 s1 fits.1
          hc.1 held1)))
      stmt_runs v es (stmt.IfElse c a b) out again p rest ls regs w t s fits h held =
          let p1 : ℕ = exp_end c p in
          let p2 : ℕ = stmt_end a (suc p1) in
          let q : ℕ = stmt_end b (suc p2) in
          let rc : ℕ = reg_of k v c p1 in
          let back : List Instruction = Jump q
          ∷ (stmt_code k (inner_variables v) b out again (suc p2) ++ rest) in
          let turn : List Instruction = Branch rc (suc p2)
          ∷ (stmt_code k (inner_variables v) a out again (suc p1) ++ back) in
          let ha : HasAt ir f p (exp_code k v c p ++ turn) = simp append_assoc at h in
          let hc : HasAt ir f p1 turn = exp_has ir f k v c p turn ha in
          let hb : HasAt ir f p2 back = stmt_has ir f k (inner_variables v) a out again (suc p1)
          back hc.1 in
          let le : p ≤ p1 = exp_end_le c p in
          let le1 : suc p1 ≤ p2 = stmt_end_le a (suc p1) in
          let le2 : suc p2 ≤ q = stmt_end_le b (suc p2) in
          let s1 : Scoped ir m f k rises below calls seen run (inner_variables v) es (suc p1) =
          scoped_inside v es (suc p1) (scoped_after ir m f k rises below calls seen run v es p
          (suc p1) (omega (arith, le)) s) in
          let s2 : Scoped ir m f k rises below calls seen run (inner_variables v) es (suc p2) =
          scoped_inside v es (suc p2) (scoped_after ir m f k rises below calls seen run v es p
          (suc p2) (omega (arith, le, le1)) s) in
          value_then ir m f k rises below calls seen run (λ regs x. register_at regs rc ≡ x) out
          again q p p1 q (Holds es) (Over es) regs w t (value_accesses k.tables calls seen c ls w t)
          (value_of k.tables calls c ls w t)
          (λ x w t. at_zero x (stmt_accesses k.tables calls seen b ls w t)
          (stmt_accesses k.tables calls seen a ls w t))
          (λ x w t. at_zero x (in_scope (length ls) (end_of_stmt k.tables calls b ls w t))
          (in_scope (length ls) (end_of_stmt k.tables calls a ls w t))) (omega (arith, le1, le2))
          (exp_gives ir m f k rises below calls seen run v es c p turn ls regs w t s fits.0 ha held)
          (λ x w1 t1 regs1 f1 same e1. let held1 : Holds es ls regs1 = held_at ir m f k rises below
          calls seen run v es p ls regs regs1 s same held in
          branch_runs ir m f k rises below calls seen run out again q p1 (suc p2) q (Holds es)
          (Over es) x regs1 w1 t1 (stmt_accesses k.tables calls seen b ls w1 t1)
          (in_scope (length ls) (end_of_stmt k.tables calls b ls w1 t1))
          (stmt_accesses k.tables calls seen a ls w1 t1)
          (in_scope (length ls) (end_of_stmt k.tables calls a ls w1 t1)) (omega (arith, le1))
          (at_branch ir m f k rises below p1 (suc p2) rc x regs1 w1 t1 hc.0 e1)
          (body_of es b out again (suc p2) ls regs1 w1 t1 held1
          (stmt_runs (inner_variables v) es b out again (suc p2) rest ls regs1 w1 t1 s2 fits.2
          hb.1 held1))
          (then_jump ir m f k rises below calls seen run out again (suc p1) (suc p1) p2 q (Holds es)
          (Over es) regs1 w1 t1 (stmt_accesses k.tables calls seen a ls w1 t1)
          (in_scope (length ls) (end_of_stmt k.tables calls a ls w1 t1)) le2
          hb.0 (body_of es a out again (suc p1) ls regs1 w1 t1 held1
          (stmt_runs (inner_variables v) es a out again (suc p1) back ls regs1 w1 t1 s1 fits.1
          hc.1 held1))))
      stmt_runs v es (stmt.While place c a) out again p rest ls regs w t s fits h held =
          let p1 : ℕ = exp_end c (suc p) in
          let p2 : ℕ = stmt_end a (suc p1) in
          let q : ℕ = suc p2 in
          let rc : ℕ = reg_of k v c p1 in
          let turn : List Instruction = Branch rc q
          ∷ (stmt_code k (inner_variables v) a q p (suc p1) ++ Jump p ∷ rest) in
          let ha : HasAt ir f (suc p) (exp_code k v c (suc p) ++ turn) = simp append_assoc at h.1 in
          let hc : HasAt ir f p1 turn = exp_has ir f k v c (suc p) turn ha in
          let hj : HasAt ir f p2 (Jump p ∷ rest) =
          stmt_has ir f k (inner_variables v) a q p (suc p1) (Jump p ∷ rest) hc.1 in
          let le : suc p ≤ p1 = exp_end_le c (suc p) in
          let le1 : suc p1 ≤ p2 = stmt_end_le a (suc p1) in
          let s0 : Scoped ir m f k rises below calls seen run v es (suc p) =
          scoped_after ir m f k rises below calls seen run v es p (suc p) (omega arith) s in
          let s1 : Scoped ir m f k rises below calls seen run (inner_variables v) es (suc p1) =
          scoped_inside v es (suc p1) (scoped_after ir m f k rises below calls seen run v es p
          (suc p1) (omega (arith, le)) s) in
          loop_runs ir m f k rises below calls seen run place out again p p1 p q q q rc (Holds es)
          (Over es)
          (λ ls w t. value_of k.tables calls c ls w t) (λ ls w t.
          in_scope (length ls) (end_of_stmt k.tables calls a ls w t)) (λ ls w t. Next ls w t)
          (λ ls w t. value_accesses k.tables calls seen c ls w t)
          (λ ls w t. stmt_accesses k.tables calls seen a ls w t) (λ ls w t. []) le
          (omega (arith, le1)) (omega arith) (omega (arith, small p2 (Jump p) hj.0)) h.0 hc.0
          (λ ls regs w t held. exp_gives ir m f k rises below calls seen run v es c
          (suc p) turn ls regs w t s0 fits.0 ha held)
          (λ ls regs regs1 same held. held_at ir m f k rises below calls seen run v es
          (suc p) ls regs regs1 s0 same held)
          (λ ls regs w t held. back_jump ir m f k rises below calls seen run q p p (suc p1)
          (suc p1) p2 (Holds es) (Holds es) regs w t (stmt_accesses k.tables calls seen a ls w t)
          (in_scope (length ls) (end_of_stmt k.tables calls a ls w t)) hj.0
          (inner_of es a q p (suc p1) ls regs w t held
          (stmt_runs (inner_variables v) es a q p (suc p1) (Jump p ∷ rest) ls regs w t s1 fits.1
          hc.1 held)))
          (λ ls regs w t held. still_at ir m f k rises below calls seen run out again p q (Holds es)
          (Over es) ls regs w t held)
          t ls regs w t (omega arith) held
      stmt_runs v es (stmt.Do place a c) out again p rest ls regs w t s fits h held =
          let p1 : ℕ = stmt_end a p in
          let p2 : ℕ = exp_end c (suc p1) in
          let q : ℕ = suc (suc p2) in
          let rc : ℕ = reg_of k v c p2 in
          let turn : List Instruction = Branch rc q ∷ Jump p ∷ rest in
          let later : List Instruction = Tick ∷ (exp_code k v c (suc p1) ++ turn) in
          let ha : HasAt ir f p (stmt_code k (inner_variables v) a q p1 p ++ later) =
          simp append_assoc at h in
          let hb : HasAt ir f p1 later =
          stmt_has ir f k (inner_variables v) a q p1 p later ha in
          let hc : HasAt ir f p2 turn = exp_has ir f k v c (suc p1) turn hb.1 in
          let le : p ≤ p1 = stmt_end_le a p in
          let le1 : suc p1 ≤ p2 = exp_end_le c (suc p1) in
          let room : suc p2 < m = small (suc p2) (Jump p) hc.1.0 in
          let s0 : Scoped ir m f k rises below calls seen run v es (suc p1) =
          scoped_after ir m f k rises below calls seen run v es p (suc p1) (omega (arith, le)) s in
          let test : List Local → PoolMap → ℕ → Out ℤ =
          λ ls w t. value_of k.tables calls c ls w t in
          let body : List Local → PoolMap → ℕ → StmtEnd =
          λ ls w t. in_scope (length ls) (end_of_stmt k.tables calls a ls w t) in
          let tests : List Local → PoolMap → ℕ → List Access =
          λ ls w t. value_accesses k.tables calls seen c ls w t in
          let bodies : List Local → PoolMap → ℕ → List Access =
          λ ls w t. stmt_accesses k.tables calls seen a ls w t in
          let round : (ls : List Local) (regs : List ℤ) (w : PoolMap) (t : ℕ) → Holds es ls regs
          → Runs ir m f k rises below calls seen run q p1 p1 p p p1 (Holds es) (Holds es) regs w t
          (bodies ls w t) (body ls w t) = λ ls regs w t held. inner_of es a q p1 p ls regs w t held
          (stmt_runs (inner_variables v) es a q p1 p later ls regs w t (scoped_inside v es p s)
          fits.0 ha held) in
          turn_then ir m f k rises below calls seen run out again q p1 p1 p p q (Holds es)
          (Holds es) (Over es) regs w t (bodies ls w t) (body ls w t)
          (λ ls w t. turn_accesses t test body (λ ls w t. Next ls w t) tests bodies
          (λ ls w t. []) ls w t) (λ ls w t. turns t place test body (λ ls w t. Next ls w t) ls w t)
          (omega (arith, le1)) (round ls regs w t held) (λ ls r h. h)
          (λ ls1 w1 t1 regs1 f1 held1. loop_runs ir m f k rises below calls seen run place out again
          p1 p2 p1 (q + p1) (q + p1) q rc (Holds es) (Over es) test body
          (λ ls w t. Next ls w t) tests bodies (λ ls w t. []) le1 (omega arith) (omega
          (arith, room, le1)) (omega (arith, room)) hb.0 hc.0 (λ ls regs w t held. exp_gives ir m f
          k rises below calls seen run v es c (suc p1) turn ls regs w t s0 fits.1 hb.1 held)
          (λ ls regs regs1 same held. held_at ir m f k rises below calls seen run v es
          (suc p1) ls regs regs1 s0 same held)
          (λ ls regs w t held. jump_runs ir m f k rises below calls seen run q p1 p1 (suc p2) p p p1
          (Holds es) (Holds es) regs w t (bodies ls w t) (body ls w t) hc.1.0
          (round ls regs w t held))
          (λ ls regs w t held. still_at ir m f k rises below calls seen run out again p1 (q + p1)
          (Holds es) (Over es) ls regs w t held)
          t1 ls1 regs1 w1 t1 (omega arith) held1)
      stmt_runs v es (stmt.For place first c third a) out again p rest ls regs w t s fits h held =
          let u : Variables = variables_after_first k first p (inner_variables v) in
          let us : List Entry = first_entries k ir first p es in
          let p0 : ℕ = first_end first p in
          let p1 : ℕ = or_end c (suc p0) in
          let p2 : ℕ = stmt_end a (suc p1) in
          let p3 : ℕ = third_end third p2 in
          let q : ℕ = suc p3 in
          let rc : ℕ = or_reg k u c p1 in
          let back : List Instruction = third_code k u third p2 ++ Jump p0 ∷ rest in
          let turn : List Instruction = Branch rc q
          ∷ (stmt_code k (inner_variables u) a q p2 (suc p1) ++ back) in
          let all : List Instruction = Tick ∷ (or_code k u (pos 1) c (suc p0) ++ turn) in
          let ha : HasAt ir f p (first_code k (inner_variables v) first p ++ all) =
          simp append_assoc at h in
          let hf : HasAt ir f p0 all = first_has ir f k (inner_variables v) first p all ha in
          let hc : HasAt ir f p1 turn = or_has ir f k u (pos 1) c (suc p0) turn hf.1 in
          let hb : HasAt ir f p2 back = stmt_has ir f k (inner_variables u) a q p2 (suc p1)
          back hc.1 in
          let hj : HasAt ir f p3 (Jump p0 ∷ rest) =
          third_has ir f k u third p2 (Jump p0 ∷ rest) hb in
          let le0 : p ≤ p0 = first_end_le first p in
          let le : suc p0 ≤ p1 = or_end_le c (suc p0) in
          let le1 : suc p1 ≤ p2 = stmt_end_le a (suc p1) in
          let le2 : p2 ≤ p3 = third_end_le third p2 in
          let sp : Scoped ir m f k rises below calls seen run u us p0 =
          scoped_first (inner_variables v) es first p (scoped_inside v es p s) fits.0 in
          let s0 : Scoped ir m f k rises below calls seen run u us (suc p0) =
          scoped_after ir m f k rises below calls seen run u us p0 (suc p0) (omega arith) sp in
          let s1 : Scoped ir m f k rises below calls seen run (inner_variables u) us (suc p1) =
          scoped_inside u us (suc p1) (scoped_after ir m f k rises below calls seen run u us p0
          (suc p1) (omega (arith, le)) sp) in
          let s2 : Scoped ir m f k rises below calls seen run u us p2 =
          scoped_after ir m f k rises below calls seen run u us p0 p2 (omega (arith, le, le1)) sp in
          let test : List Local → PoolMap → ℕ → Out ℤ =
          λ ls w t. condition_of k.tables calls c ls w t in
          let body : List Local → PoolMap → ℕ → StmtEnd =
          λ ls w t. in_scope (length ls) (end_of_stmt k.tables calls a ls w t) in
          let then_third : List Local → PoolMap → ℕ → StmtEnd =
          λ ls w t. meaning.end_of_third k.tables calls third ls w t in
          let go : List Local → PoolMap → ℕ → StmtEnd =
          λ ls w t. turns t place test body then_third ls w t in
          let tests : List Local → PoolMap → ℕ → List Access =
          λ ls w t. optional_accesses k.tables calls seen c ls w t in
          let bodies : List Local → PoolMap → ℕ → List Access =
          λ ls w t. stmt_accesses k.tables calls seen a ls w t in
          let thirds : List Local → PoolMap → ℕ → List Access =
          λ ls w t. third_accesses k.tables calls seen third ls w t in
          let goes : List Local → PoolMap → ℕ → List Access =
          λ ls w t. turn_accesses t test body then_third tests bodies thirds ls w t in
          let before : List Access = first_accesses k.tables calls seen first ls w t in
          let done : List Access =
          before ++ on_next (meaning.end_of_first k.tables calls first ls w t) goes in
          widen out again q p p q es regs w t done
          (in_scope (length ls) (then_next (meaning.end_of_first k.tables calls first ls w t) go))
          (leave_scope out again q p p q es ls regs (Holds us) regs w t done
          (then_next (meaning.end_of_first k.tables calls first ls w t) go) held (λ ls' r o.
          over_first first p es ls' r (over us ls' r o))
          (next_then ir m f k rises below calls seen run out again p0 q p p p0 q (Holds us)
          (Holds us) (Over es) regs w t before (meaning.end_of_first k.tables calls first ls w t)
          goes go (omega (arith, le, le1, le2)) (first_runs (inner_variables v) es first out again p
          all ls regs w t (scoped_inside v es p s) fits.0 ha held)
          (λ ls1 w1 t1 regs1 f1 held1. loop_runs ir m f k rises below calls seen run place out again
          p0 p1 p2
          p2 q q rc (Holds us) (Over es) test body then_third tests bodies thirds le (omega
          (arith, le1, le2)) (omega (arith, le2)) (omega (arith, small p3 (Jump p0) hj.0)) hf.0 hc.0
          (λ ls regs w t held. subst (λ (o : Out ℤ).
          Gives ir m f k rises below (λ regs x. register_at regs rc ≡ x) (suc p0) p1 regs w t
          (tests ls w t) o)
          (condition_is c ls w t) (or_gives ir m f k rises below calls seen run u us (pos 1) c
          (suc p0) turn ls regs w t s0 fits.1 hf.1 held))
          (λ ls regs regs1 same held. held_at ir m f k rises below calls seen run u us
          (suc p0) ls regs regs1 s0 same held)
          (λ ls regs w t held. inner_of us a q p2 (suc p1) ls regs w t held
          (stmt_runs (inner_variables u) us a q p2 (suc p1) back ls regs w t s1 fits.3 hc.1 held))
          (λ ls regs w t held. back_jump ir m f k rises below calls seen run out again p0 p2 p2 p3
          (Holds us) (Over es) regs w t (thirds ls w t)
          (meaning.end_of_third k.tables calls third ls w t) hj.0
          (third_runs ir m f k rises below calls seen run u us third out again p2
          (Jump p0 ∷ rest) ls (Over es) regs w t s2 fits.2 hb held))
          t1 ls1 regs1 w1 t1 (omega arith) held1)))
      stmt_runs v es stmt.Break out again p rest ls regs w t s fits h held =
          record {
            regs' = regs;
            path = path_step p t (ap (λ i. acted ir i f p regs below w t) h.0);
            holds = over es ls regs held;
          }
      stmt_runs v es stmt.Continue out again p rest ls regs w t s fits h held =
          record {
            regs' = regs;
            path = path_step p t (ap (λ i. acted ir i f p regs below w t) h.0);
            holds = over es ls regs held;
          }
      stmt_runs v es (stmt.Return place None) out again p rest ls regs w t s fits h held =
          let to : ℕ = k.node (suc p) in
          let g = puts ir m f k rises below p (suc p) (pos 0) regs w t (omega arith)
          (ap (λ i. acted ir i f p regs below w t) h.0) in
          path_then [] [] g.path (path_step (suc p) t
          (ap (λ i. acted ir i f (suc p) g.regs' below w t) h.1.0
          ∙ ap (λ u. silent (gives below u w t)) g.value))
      stmt_runs v es (stmt.Return place (Some e)) out again p rest ls regs w t s fits h held =
          let q : ℕ = exp_end e p in
          let re : ℕ = reg_of k v e q in
          let ha : HasAt ir f p (exp_code k v e p ++ Return re ∷ rest) = simp append_assoc at h in
          let hi : HasAt ir f q (Return re ∷ rest) = exp_has ir f k v e p (Return re ∷ rest) ha in
          value_quiet ir m f k rises below calls seen run (λ regs x. register_at regs re ≡ x) out
          again (suc q) p q (suc q) (Holds es) (Over es) regs w t
          (value_accesses k.tables calls seen e ls w t) (value_of k.tables calls e ls w t)
          (λ x w t. Gave x w t) (omega arith)
          (exp_gives ir m f k rises below calls seen run v es e p (Return re ∷ rest) ls regs w t s
          fits ha held)
          (λ x w1 t1 regs1 f1 s1 e1. path_step q t1 (ap (λ i. acted ir i f q regs1 below w1 t1) hi.0
          ∙ ap (λ u. silent (gives below u w1 t1)) e1))

      pub statements_run : (v : Variables) (es : List Entry) (xs : Statements) (out again p : ℕ)
          (rest : List Instruction) (ls : List Local) (regs : List ℤ) (w : PoolMap) (t : ℕ)
          → Scoped ir m f k rises below calls seen run v es p → StatementsFit k ir v es xs p
          → HasAt ir f p (statements_code k v xs out again p ++ rest) → Holds es ls regs
          → Runs ir m f k rises below calls seen run out again (statements_end xs p) p p
          (statements_end xs p) (Over es) (Over es) regs w t
          (statement_accesses k.tables calls seen xs ls w t) (ends_of k.tables calls xs ls w t)
      statements_run v es stmt.Nothing out again p rest ls regs w t s fits h held =
          stands_still ir m f k rises below calls seen run out again p (Over es)
          (Over es) ls regs w t (over es ls regs held)
      statements_run v es (stmt.Then x xs) out again p rest ls regs w t s fits h held =
          let p1 : ℕ = stmt_end x p in
          let q : ℕ = statements_end xs p1 in
          let u : Variables = variables_after k x p v in
          let us : List Entry = entries_after k ir x p es in
          let later : List Instruction = statements_code k u xs out again p1 ++ rest in
          let ha : HasAt ir f p (stmt_code k v x out again p ++ later) = simp append_assoc at h in
          let hb : HasAt ir f p1 later = stmt_has ir f k v x out again p later ha in
          next_then ir m f k rises below calls seen run out again p1 q p p p1 q (Holds us) (Over es)
          (Over es) regs w t (stmt_accesses k.tables calls seen x ls w t)
          (end_of_stmt k.tables calls x ls w t)
          (λ ls w t. statement_accesses k.tables calls seen xs ls w t)
          (λ ls w t. ends_of k.tables calls xs ls w t) (statements_end_le xs p1)
          (stmt_runs v es x out again p later ls regs w t s fits.0 ha held)
          (λ ls1 w1 t1 regs1 f1 held1. runs_map ir m f k rises below calls seen run out again q p1
          p1 q (Over us) (Over us) (Over es) (Over es) regs1 w1 t1
          (statement_accesses k.tables calls seen xs ls1 w1 t1)
          (ends_of k.tables calls xs ls1 w1 t1) (λ ls r o. over_after x p es ls r o) (λ ls r o.
          over_after x p es ls r o)
          (statements_run u us xs out again p1 rest ls1 regs1 w1 t1
          (scoped_from_after v es x p s fits.0) fits.1 hb held1))
