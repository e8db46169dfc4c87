-- The code of assignments, updates, calls, frees, aborts and declarations does what they do.
use Rattle.std.proofs.Common.{◌≡◌, ℕ, suc, ◌<◌, ◌≤◌, ℤ, pos, List, [], ◌∷◌, ◌++◌, refl, sym, ap}
use Rattle.std.proofs.Common.{◌∙◌, subst, arith, append_assoc}
use Rattle.std.specs.Prelude.{Option, None, Some, option_map}
use Rattle.std.specs.Option.{option_map_or}
use Rattle.nvm_base.specs.declared.op.BinOp.{BinOp}
use Rattle.nvm_base.specs.declared.op.BinOp.TheVariants as op
use Rattle.c_tree.specs.declared.expr.IntType.{IntType}
use Rattle.c_tree.specs.declared.expr.IntType.TheVariants.{Signed, Unsigned}
use Rattle.c_tree.specs.declared.expr.BinaryOp.{BinaryOp}
use Rattle.c_tree.specs.declared.expr.BinaryOp.TheVariants as binary
use Rattle.c_tree.specs.declared.stmt.AssignOp.TheVariants as assign
use Rattle.c_tree.specs.declared.stmt.UpdateOp.{UpdateOp}
use Rattle.c_tree.specs.declared.stmt.UpdateOp.TheVariants as updating
use Rattle.c_tree.specs.declared.stmt.StepOp.TheVariants as stepping
use Rattle.c_tree.specs.Operators.{update_binary}
use Rattle.c_tree.specs.ExprTree as expr
use Rattle.c_tree.specs.ExprTree.{ExprTree, Ident}
use Rattle.c_tree.specs.StmtTree as stmt
use Rattle.c_tree.specs.StmtTree.{SimpleTree, DeclarationTree, InitialTree}
use Rattle.c_tree.specs.Program.{source_line}
use Rattle.c_types.specs.Tables.{declared_type, pointed_struct, number_at}
use Rattle.c_types.specs.Expressions.{type_of, sides_type}
use Rattle.pool_map.specs.PoolMap.{PoolMap}
use Rattle.pool_map.specs.declared.trap.TrapKind.TheVariants as trap
use Rattle.c_meaning.specs.Locals.{Local, value_named, assigned, local_declared as with_declared}
use Rattle.c_meaning.specs.Operators.{binary_of}
use Rattle.c_meaning.specs.Access.{word_named, target_field, free_object, struct_slot}
use Rattle.c_meaning.specs.Access.{struct_pointed_by}
use Rattle.c_meaning.specs.Meaning as meaning
use Rattle.c_meaning.specs.Meaning.{Got, Next, Calls, then_do, with_value, or_trap, loaded}
use Rattle.c_meaning.specs.Meaning.{value_of, pointer_of, operands_of, stored_end, assign_to}
use Rattle.c_meaning.specs.Meaning.{update, freed, placed_trap, at_target, at_place, located}
use Rattle.c_meaning.specs.Meaning.{target_local}
use Rattle.c_meaning.specs.Accesses.{Access, CallAccesses, on_value, read_at, write_at}
use Rattle.c_meaning.specs.Accesses.{free_accesses, value_accesses, pointer_accesses}
use Rattle.c_meaning.specs.Accesses.{operand_accesses, set_accesses, update_accesses}
use Rattle.c_meaning.specs.Accesses.{simple_accesses, optional_accesses, third_accesses}
use Rattle.ir.specs.declared.instruction.Target.{Target}
use Rattle.ir.specs.declared.instruction.Instruction.{Instruction}
use Rattle.ir.specs.declared.instruction.Instruction.TheVariants.{Copy, Bin, Load, Store, Free}
use Rattle.ir.specs.declared.function.Ir.{Ir}
use Rattle.lower.specs.Forms.{operation_of}
use Rattle.lower.specs.Names.{Variables, register_of, variable_of, struct_kind_at, element_target}
use Rattle.lower.specs.Lowers.{Context, exp_end, exp_code, reg_of, target_end, target_code}
use Rattle.lower.specs.Lowers.{target_of, or_end, or_code, or_reg, set_end, set_code, update_end}
use Rattle.lower.specs.Lowers.{update_code, update_operation, simple_end, simple_code, initial_end}
use Rattle.lower.specs.Lowers.{initial_code, third_end, third_code}
use Rattle.lower.proofs.Ends.{exp_end_le, target_end_le, or_end_le}
use Rattle.code_meaning.specs.Code.{Frame, Here, Goes, Move, Spot, register_at, put_register}
use Rattle.code_meaning.specs.Code.{word_of, with_word, spot_of, base_in, index_in, slot_of}
use Rattle.code_meaning.specs.Code.{store_spot}
use Rattle.lower_law.proofs.runs.Paths.{path_step, path_ends, acted, stepped, silent}
use Rattle.lower_law.proofs.runs.Has.{At, HasAt, exp_has, target_has, or_has}
use Rattle.lower_law.proofs.locals.Locals.{Entry, Agrees, Holds, AreBelow, Same, entry_register}
use Rattle.lower_law.proofs.locals.Locals.{value_held, held_after, below_more, scopes_held}
use Rattle.lower_law.proofs.locals.Locals.{register_found}
use Rattle.lower_law.proofs.locals.Sides.{sides_met}
use Rattle.lower_law.proofs.locals.Scopes.{AreApart, declared_held, assigned_held}
use Rattle.lower_law.proofs.names.Fits.{WordFits, ExpFits}
use Rattle.lower_law.proofs.names.StmtFits.{PlaceFits, TargetFits, OrFits, SimpleFits, InitialFits}
use Rattle.lower_law.proofs.names.StmtFits.{ThirdFits, entry_in}
use Rattle.lower_law.proofs.runs.ExprSteps.{CallsRun, Gives, grows, gives_then, gives_quiet, puts}
use Rattle.lower_law.proofs.runs.ExprSteps.{last_gives, stays, field_gives, element_fits}
use Rattle.lower_law.proofs.runs.ExprSteps.{element_base}
use Rattle.lower_law.proofs.runs.ExprSteps.{element_index}
use Rattle.lower_law.proofs.runs.ExprRuns.{reg_le, pointer_kept, pointer_word, exp_runs}
use Rattle.lower_law.proofs.runs.ExprRuns.{pointer_runs}
use Rattle.lower_law.proofs.runs.StmtSteps.{local_is, or_value, Runs, value_then, value_quiet}
use Rattle.lower_law.proofs.runs.StmtSteps.{stands_still, stores, store_runs, frees, free_runs}
use Rattle.lower_law.proofs.runs.StmtSteps.{operands_at}

-- the operation of an update is its operator
update_same : (o : UpdateOp) (n : IntType) (x y : ℤ) → binary_of (update_binary o) n x y
    ≡ word_of (operation_of n (update_operation o)) x y
update_same updating.Mul Signed x y = refl
update_same updating.Mul Unsigned x y = refl
update_same updating.Div Signed x y = refl
update_same updating.Div Unsigned x y = refl
update_same updating.Rem Signed x y = refl
update_same updating.Rem Unsigned x y = refl
update_same updating.Add Signed x y = refl
update_same updating.Add Unsigned x y = refl
update_same updating.Sub Signed x y = refl
update_same updating.Sub Unsigned x y = refl
update_same updating.ShiftLeft Signed x y = refl
update_same updating.ShiftLeft Unsigned x y = refl
update_same updating.ShiftRight Signed x y = refl
update_same updating.ShiftRight Unsigned x y = refl
update_same updating.And Signed x y = refl
update_same updating.And Unsigned x y = refl
update_same updating.Xor Signed x y = refl
update_same updating.Xor Unsigned x y = refl
update_same updating.Or Signed x y = refl
update_same updating.Or Unsigned x y = refl

module _ (ir : Ir) (m f : ℕ) (k : Context) (rises : (p q : ℕ) → p < q → k.node p < k.node q)
    (below : List Frame) (calls : Calls) (seen : CallAccesses)
    (run : CallsRun k.tables ir m f below calls seen) where
  module _ (v : Variables) (es : List Entry) where
    -- the names and the registers of the locals at p
    pub record Scoped (p : ℕ) : Type 0 where
      pub agrees : Agrees v es
      pub apart : AreApart es
      pub under : AreBelow (k.node p) es

    pub scoped_after : (p q : ℕ) → p ≤ q → Scoped p → Scoped q
    scoped_after p q le s = record {
      agrees = s.agrees;
      apart = s.apart;
      under = below_more (k.node p) (k.node q) es (grows ir m f k rises below p q le) s.under;
    }

    pub held_at : (p : ℕ) (ls : List Local) (regs regs1 : List ℤ) → Scoped p
        → Same (k.node p) regs regs1 → Holds es ls regs → Holds es ls regs1
    held_at p ls regs regs1 s same held = held_after (k.node p) es ls regs regs1 s.under same held

    pub exp_gives : (e : ExprTree) (p : ℕ) (rest : List Instruction) (ls : List Local)
        (regs : List ℤ) (w : PoolMap) (t : ℕ) → Scoped p → ExpFits k ir v es e
        → HasAt ir f p (exp_code k v e p ++ rest) → Holds es ls regs
        → Gives ir m f k rises below (λ regs x. register_at regs (reg_of k v e (exp_end e p)) ≡ x) p
        (exp_end e p) regs w t (value_accesses k.tables calls seen e ls w t)
        (value_of k.tables calls e ls w t)
    exp_gives e p rest ls regs w t s fits h held =
        exp_runs ir m f k rises below calls seen run v es s.agrees ls e p rest regs w t fits h
        (record { under = s.under; holds = held })

    pub or_gives : (n : ℤ) (e : Option ExprTree) (p : ℕ) (rest : List Instruction) (ls : List Local)
        (regs : List ℤ) (w : PoolMap) (t : ℕ) → Scoped p → OrFits k ir v es e
        → HasAt ir f p (or_code k v n e p ++ rest) → Holds es ls regs
        → Gives ir m f k rises below (λ regs x. register_at regs (or_reg k v e (or_end e p)) ≡ x) p
        (or_end e p) regs w t (optional_accesses k.tables calls seen e ls w t)
        (or_value k calls n e ls w t)
    or_gives n None p rest ls regs w t s fits h held =
        puts ir m f k rises below p (suc p) n regs w t (omega arith)
        (ap (λ i. acted ir i f p regs below w t) h.0)
    or_gives n (Some e) p rest ls regs w t s fits h held =
        exp_gives e p rest ls regs w t s fits h held

    pub exp_reg_le : (e : ExprTree) (p q : ℕ) → p ≤ q → Scoped p → ExpFits k ir v es e
        → reg_of k v e q ≤ k.node q
    exp_reg_le e p q le s fits =
        reg_le ir m f k rises below calls seen run v es s.agrees [] e p q le
        s.under fits

    -- a local gets a value
    pub sets : (out again p r : ℕ) (name : List ℕ) (x : ℤ) (ls : List Local) (L : List Local
        → List ℤ → Type 0) (regs : List ℤ) (w : PoolMap) (t : ℕ) → AreApart es
        → entry_register name es ≡ Some r → Holds es ls regs
        → stepped ir (Here f p regs below w t)
        ≡ silent (Goes (Here f (suc p) (put_register regs r x) below w t))
        → Runs ir m f k rises below calls seen run out again (suc p) p p (suc p) (Holds es) L regs w
        t [] (Next (assigned name x ls) w t)
    sets out again p r name x ls L regs w t apart is held st =
        record {
          regs' = put_register regs r x;
          path = path_step p t st;
          holds = assigned_held name r x es ls regs apart is held;
        }

    pub operands_run : (e : ExprTree) (p : ℕ) (rest : List Instruction) (ls : List Local)
        (regs : List ℤ) (w : PoolMap) (t : ℕ) → Scoped p → PlaceFits k ir v es e
        → HasAt ir f p (target_code k v e p ++ rest) → Holds es ls regs
        → Gives ir m f k rises below (operands_at ir m f k rises below calls seen run
        (target_of k v e p)) p (target_end e p) regs w t
        (operand_accesses k.tables calls seen e ls w t) (operands_of k.tables calls e ls w t)
    operands_run (expr.Root name) p rest ls regs w t s fits h held =
        stays ir m f k rises below (operands_at ir m f k rises below calls seen run
        (target_of k v (expr.Root name) p)) p regs w t (pos 0, None) (refl, refl)
    operands_run (expr.Arrow base place name) p rest ls regs w t s fits h held =
        let p1 : ℕ = exp_end base p in
        let x : Target = target_of k v (expr.Arrow base place name) p in
        gives_quiet ir m f k rises below (λ regs b. register_at regs (reg_of k v base p1) ≡ b)
        (operands_at ir m f k rises below calls seen run x) p p1 p1 regs w t
        (value_accesses k.tables calls seen base ls w t) (value_of k.tables calls base ls w t)
        (λ b w t. Got (b, None) w t) (exp_end_le base p) (omega arith)
        (exp_gives base p rest ls regs w t s fits.0 h held) (λ b w1 t1 regs1 s1 e1. stays ir m f k
        rises below (operands_at ir m f k rises below calls seen run x) p1 regs1 w1 t1 (b, None)
        (e1, refl))
    operands_run (expr.Index a place i) p rest ls regs w t s fits h held =
        let q : ℕ = target_end a p in
        let q1 : ℕ = exp_end i q in
        let x : Target = target_of k v a p in
        let ri : ℕ = reg_of k v i q1 in
        let ha : HasAt ir f p (target_code k v a p ++ (exp_code k v i q ++ rest)) =
        simp append_assoc at h in
        let hi : HasAt ir f q (exp_code k v i q ++ rest) =
        target_has ir f k v a p (exp_code k v i q ++ rest) ha in
        let le : p ≤ q = target_end_le a p in
        let le1 : q ≤ q1 = exp_end_le i q in
        gives_then ir m f k rises below (λ regs b. base_in regs x ≡ b)
        (operands_at ir m f k rises below calls seen run (element_target x ri)) p q q1 regs w t
        (pointer_accesses k.tables calls seen a ls w t) (pointer_of k.tables calls a ls w t)
        (λ b w t. value_accesses k.tables calls seen i ls w t)
        (λ b w t. then_do (value_of k.tables calls i ls w t) (λ j w t. Got (b, Some j) w t)) le
        le1
        (pointer_runs ir m f k rises below calls seen run v es s.agrees ls a p
        (exp_code k v i q ++ rest)
        regs w t fits.0 ha (record { under = s.under; holds = held }))
        (λ b w1 t1 regs1 s1 e1. gives_quiet ir m f k rises below (λ regs j. register_at regs ri ≡ j)
        (operands_at ir m f k rises below calls seen run (element_target x ri)) q q1 q1 regs1 w1 t1
        (value_accesses k.tables calls seen i ls w1 t1) (value_of k.tables calls i ls w1 t1)
        (λ j w t. Got (b, Some j) w t) le1 (omega arith) (exp_gives i q rest ls regs1 w1 t1
        (scoped_after p q le s) fits.1 hi (held_at p ls regs regs1 s s1 held))
        (λ j w2 t2 regs2 s2 e2. stays ir m f k rises below
        (operands_at ir m f k rises below calls seen run (element_target x ri)) q1 regs2 w2 t2
        (b, Some j) (
          element_base x ri regs2 ∙ pointer_kept ir m f k rises below calls seen run v es
              s.agrees ls a p regs1 regs2 s.under fits.0 s2 ∙ e1,
          element_index x ri regs2
              ∙ ap Some e2,
        )))
    operands_run (expr.Number n) p rest ls regs w t s fits h held = absurd fits
    operands_run expr.Null p rest ls regs w t s fits h held = absurd fits
    operands_run (expr.Variable name) p rest ls regs w t s fits h held = absurd fits
    operands_run (expr.Call name all) p rest ls regs w t s fits h held = absurd fits
    operands_run (expr.New place name) p rest ls regs w t s fits h held = absurd fits
    operands_run (expr.Unary o place a) p rest ls regs w t s fits h held = absurd fits
    operands_run (expr.Binary o place a b) p rest ls regs w t s fits h held = absurd fits
    operands_run (expr.Conditional c place a b) p rest ls regs w t s fits h held = absurd fits

    pub operands_kept : (e : ExprTree) (p : ℕ) (regs regs1 : List ℤ) (o : ℤ × Option ℤ) → Scoped p
        → PlaceFits k ir v es e → Same (k.node (target_end e p)) regs regs1
        → operands_at ir m f k rises below calls seen run (target_of k v e p) regs o
        → operands_at ir m f k rises below calls seen run (target_of k v e p) regs1 o
    operands_kept (expr.Root name) p regs regs1 o s fits same h = (h.0, h.1)
    operands_kept (expr.Arrow base place name) p regs regs1 o s fits same h = (
      same (reg_of k v base (exp_end base p))
          (exp_reg_le base p (exp_end base p) (exp_end_le base p) s fits.0) ∙ h.0,
      h.1,
    )
    operands_kept (expr.Index a place i) p regs regs1 o s fits same h =
        let q : ℕ = target_end a p in
        let q1 : ℕ = exp_end i q in
        let x : Target = target_of k v a p in
        let ri : ℕ = reg_of k v i q1 in
        let le : p ≤ q = target_end_le a p in
        let le1 : q ≤ q1 = exp_end_le i q in
        let up : k.node q ≤ k.node q1 = grows ir m f k rises below q q1 le1 in (
          element_base x ri regs1 ∙ pointer_kept ir m f k rises below calls seen run v es s.agrees
              [] a p regs regs1 s.under fits.0 (λ r small. same r (omega (arith, small, up)))
              ∙ sym (element_base x ri regs) ∙ h.0,
          element_index x ri regs1 ∙ ap Some
              (same ri (exp_reg_le i q q1 le1 (scoped_after p q le s) fits.1))
              ∙ sym (element_index x ri regs) ∙ h.1,
        )
    operands_kept (expr.Number n) p regs regs1 o s fits same h = absurd fits
    operands_kept expr.Null p regs regs1 o s fits same h = absurd fits
    operands_kept (expr.Variable name) p regs regs1 o s fits same h = absurd fits
    operands_kept (expr.Call name all) p regs regs1 o s fits same h = absurd fits
    operands_kept (expr.New place name) p regs regs1 o s fits same h = absurd fits
    operands_kept (expr.Unary u place a) p regs regs1 o s fits same h = absurd fits
    operands_kept (expr.Binary u place a b) p regs regs1 o s fits same h = absurd fits
    operands_kept (expr.Conditional c place a b) p regs regs1 o s fits same h = absurd fits

    pub operands_word : (e : ExprTree) (p : ℕ) → Scoped p → PlaceFits k ir v es e
        → WordFits k.tables ir.shapes es (target_field e) (target_of k v e p)
    operands_word (expr.Root name) p s fits = fits p
    operands_word (expr.Arrow base place name) p s fits = fits.1 p
    operands_word (expr.Index a place i) p s fits =
        element_fits k.tables ir es a (target_of k v a p)
        (reg_of k v i (exp_end i (target_end a p)))
        (pointer_word ir m f k rises below calls seen run v es s.agrees [] a p fits.0)
    operands_word (expr.Number n) p s fits = absurd fits
    operands_word expr.Null p s fits = absurd fits
    operands_word (expr.Variable name) p s fits = absurd fits
    operands_word (expr.Call name all) p s fits = absurd fits
    operands_word (expr.New place name) p s fits = absurd fits
    operands_word (expr.Unary u place a) p s fits = absurd fits
    operands_word (expr.Binary u place a b) p s fits = absurd fits
    operands_word (expr.Conditional c place a b) p s fits = absurd fits

    -- the checks and the store, after the operands
    pub store_at : (out again q : ℕ) (L : List Local → List ℤ → Type 0) (target e : ExprTree)
        (x : Target) (o : ℤ × Option ℤ) (r line : ℕ) (u : ℤ) (ls : List Local) (regs : List ℤ)
        (w : PoolMap) (t : ℕ) → WordFits k.tables ir.shapes es e x
        → operands_at ir m f k rises below calls seen run x regs o → register_at regs r ≡ u
        → At ir f q (Store x r line) → Holds es ls regs
        → Runs ir m f k rises below calls seen run out again (suc q) q q (suc q)
        (Holds es) L regs w t (write_at (at_target target (word_named k.tables ls w e o.0 o.1)) u)
        (stored_end (at_target target (word_named k.tables ls w e o.0 o.1)) u ls w t)
    store_at out again q L target e x o r line u ls regs w t fits is eu st held =
        let go : ℤ → Spot → Move = λ c a. Goes (Here f (suc q) regs below (store_spot w a c) t) in
        store_runs ir m f k rises below calls seen run out again q (Holds es) L target
        (word_named k.tables ls w e o.0 o.1) u ls regs w t held
        (ap (λ i. acted ir i f q regs below w t) st
        ∙ ap (λ c. stores f q (spot_of ir.shapes w x c (index_in regs x)) (register_at regs r)
        (go (register_at regs r))) is.0
        ∙ ap (λ c. stores f q (spot_of ir.shapes w x o.0 c) (register_at regs r)
        (go (register_at regs r))) is.1
        ∙ ap (λ c. stores f q (spot_of ir.shapes w x o.0 o.1) c (go c)) eu
        ∙ ap (λ c. stores f q c u (go u)) (sym (fits ls (scopes_held es ls regs held) w o.0 o.1)))

    pub set_runs : (name : Option Ident) (target : ExprTree) (place : ℕ) (value : ExprTree)
        (out again p : ℕ) (rest : List Instruction) (ls : List Local) (L : List Local → List ℤ
        → Type 0) (regs : List ℤ) (w : PoolMap) (t : ℕ) → Scoped p
        → TargetFits k ir v es name target → ExpFits k ir v es value
        → HasAt ir f p (set_code k v name target place value p ++ rest) → Holds es ls regs
        → Runs ir m f k rises below calls seen run out again (set_end name target value p) p p
        (set_end name target value p) (Holds es) L regs w t
        (set_accesses k.tables calls seen (option_map (λ (n : Ident). n.text) name) target value ls
        w t)
        (assign_to k.tables calls (option_map (λ (n : Ident). n.text) name) target
        (λ w t. value_of k.tables calls value ls w t) ls w t)
    set_runs (Some name) target place value out again p rest ls L regs w t s fits fits1 h held =
        let q : ℕ = exp_end value p in
        let rv : ℕ = reg_of k v value q in
        let i : Instruction = Copy (register_of name.text v) rv in
        let ha : HasAt ir f p (exp_code k v value p ++ i ∷ rest) = simp append_assoc at h in
        let hi : HasAt ir f q (i ∷ rest) = exp_has ir f k v value p (i ∷ rest) ha in
        value_quiet ir m f k rises below calls seen run (λ regs x. register_at regs rv ≡ x) out
        again (suc q) p q (suc q) (Holds es) L regs w t (value_accesses k.tables calls seen value ls
        w t) (value_of k.tables calls value ls w t)
        (λ x w t. Next (assigned name.text x ls) w t) (omega arith)
        (exp_gives value p (i ∷ rest) ls regs w t s fits1 ha held)
        (λ x w1 t1 regs1 f1 s1 e1. sets out again q fits.0 name.text x ls L regs1 w1 t1 s.apart
        fits.1 (held_at p ls regs regs1 s s1 held)
        (ap (λ i. acted ir i f q regs1 below w1 t1) hi.0
        ∙ ap (λ r. silent (Goes (Here f (suc q) (put_register regs1 r (register_at regs1 rv)) below
        w1 t1))) (register_found v es name.text fits.0 s.agrees fits.1)
        ∙ ap (λ u. silent (Goes (Here f (suc q) (put_register regs1 fits.0 u) below w1 t1))) e1))
    set_runs None target place value out again p rest ls L regs w t s fits fits1 h held =
        let p1 : ℕ = target_end target p in
        let p2 : ℕ = exp_end value p1 in
        let x : Target = target_of k v target p in
        let rv : ℕ = reg_of k v value p2 in
        let i : Instruction = Store x rv (source_line k.tree place) in
        let ha : HasAt ir f p (target_code k v target p ++ (exp_code k v value p1 ++ i ∷ rest)) =
        simp append_assoc at h in
        let hv : HasAt ir f p1 (exp_code k v value p1 ++ i ∷ rest) =
        target_has ir f k v target p (exp_code k v value p1 ++ i ∷ rest) ha in
        let hi : HasAt ir f p2 (i ∷ rest) = exp_has ir f k v value p1 (i ∷ rest) hv in
        let le : p ≤ p1 = target_end_le target p in
        let le1 : p1 ≤ p2 = exp_end_le value p1 in
        value_then ir m f k rises below calls seen run (operands_at ir m f k rises below calls seen
        run x) out again (suc p2) p p1 (suc p2) (Holds es) L regs w t
        (operand_accesses k.tables calls seen target ls w t)
        (operands_of k.tables calls target ls w t)
        (λ o w t. value_accesses k.tables calls seen value ls w t
        ++ on_value (value_of k.tables calls value ls w t)
        (λ u w t. write_at (located k.tables ls w target o.0 o.1) u))
        (λ o w t. with_value (value_of k.tables calls value ls w t)
        (λ u w t. stored_end (located k.tables ls w target o.0 o.1) u ls w t))
        (omega (arith, le1)) (operands_run target p (exp_code k v value p1 ++ i ∷ rest) ls regs w
        t s fits ha held)
        (λ o w1 t1 regs1 f1 s1 e1. value_then ir m f k rises below calls seen run (λ regs u.
        register_at regs rv ≡ u) out again (suc p2) p1 p2 (suc p2) (Holds es) L regs1 w1 t1
        (value_accesses k.tables calls seen value ls w1 t1)
        (value_of k.tables calls value ls w1 t1)
        (λ u w t. write_at (located k.tables ls w target o.0 o.1) u)
        (λ u w t. stored_end (located k.tables ls w target o.0 o.1) u ls w t)
        (omega arith) (exp_gives value p1 (i ∷ rest) ls regs1 w1 t1 (scoped_after p p1 le s) fits1
        hv (held_at p ls regs regs1 s s1 held))
        (λ u w2 t2 regs2 f2 s2 e2. store_at out again p2 L target (target_field target) x o rv
        (source_line k.tree place) u ls regs2 w2 t2 (operands_word target p s fits)
        (operands_kept target p regs1 regs2 o s fits s2 e1) e2 hi.0
        (held_at p1 ls regs1 regs2 (scoped_after p p1 le s) s2
        (held_at p ls regs regs1 s s1 held))))

    pub update_runs : (name : Option Ident) (target : ExprTree) (place : ℕ) (b : BinaryOp)
        (int : IntType) (o : BinOp) (value : Option ExprTree) (out again p : ℕ)
        (rest : List Instruction)
        (ls : List Local) (L : List Local → List ℤ → Type 0) (regs : List ℤ) (w : PoolMap) (t : ℕ)
        → ((x y : ℤ) → binary_of b int x y ≡ word_of o x y) → Scoped p
        → TargetFits k ir v es name target
        → OrFits k ir v es value → HasAt ir f p
        (update_code k v name target place o value p ++ rest)
        → Holds es ls regs
        → Runs ir m f k rises below calls seen run out again (update_end name target value p) p p
        (update_end name target value p) (Holds es) L regs w t
        (update_accesses k.tables calls seen (option_map (λ (n : Ident). n.text) name) target b int
        place (λ w t. or_value k calls (pos 1) value ls w t)
        (λ w t. optional_accesses k.tables calls seen value ls w t) ls w t)
        (update k.tables calls (option_map (λ (n : Ident). n.text) name) target b int place
        (λ w t. or_value k calls (pos 1) value ls w t) ls w t)
    update_runs (Some name) target place b int o value out again p rest ls L regs w t same s fits
        fits1 h held =
        let p1 : ℕ = or_end value p in
        let r : ℕ = register_of name.text v in
        let rv : ℕ = or_reg k v value p1 in
        let to : ℕ = k.node (suc p1) in
        let q : ℕ = suc (suc p1) in
        let i : Instruction = Bin o to r rv in
        let j : Instruction = Copy r to in
        let ha : HasAt ir f p (or_code k v (pos 1) value p ++ i ∷ j ∷ rest) =
        simp append_assoc at h in
        let hi : HasAt ir f p1 (i ∷ j ∷ rest) = or_has ir f k v (pos 1) value p (i ∷ j ∷ rest) ha in
        let le : p ≤ p1 = or_end_le value p in
        let found : register_of name.text v ≡ fits.0 =
        register_found v es name.text fits.0 s.agrees fits.1 in
        value_quiet ir m f k rises below calls seen run (λ regs y. register_at regs rv ≡ y) out
        again q p p1 q (Holds es) L regs w t (optional_accesses k.tables calls seen value ls w t)
        (or_value k calls (pos 1) value ls w t)
        (λ y w t. with_value (or_trap (binary_of b int (value_named name.text ls) y)
        (placed_trap trap.Divide place) w t)
        (λ u w t. Next (assigned name.text u ls) w t)) (omega arith)
        (or_gives (pos 1) value p (i ∷ j ∷ rest) ls regs w t s fits1 ha held)
        (λ y w1 t1 regs1 f1 s1 e1. let held1 : Holds es ls regs1 = held_at p ls regs regs1 s
        s1 held in
        let x : ℤ = value_named name.text ls in
        let ex : register_at regs1 r ≡ x =
        ap (register_at regs1) found ∙ value_held name.text es ls regs1 fits.0 held1 fits.1 in
        let go : ℤ → Move = λ u. Goes (Here f (suc p1) (put_register regs1 to u) below w1 t1) in
        value_quiet ir m f k rises below calls seen run (λ regs u. register_at regs to ≡ u) out
        again q p1 (suc p1) q (Holds es) L regs1 w1 t1 []
        (or_trap (binary_of b int x y) (placed_trap trap.Divide place) w1 t1)
        (λ u w t. Next (assigned name.text u ls) w t) (omega arith)
        (last_gives ir m f k rises below p1 place (binary_of b int x y) regs1 w1 t1
        (ap (λ i. acted ir i f p1 regs1 below w1 t1) hi.0
        ∙ ap (λ c. silent (with_word (word_of o c (register_at regs1 rv)) go)) ex
        ∙ ap (λ c. silent (with_word (word_of o x c) go)) e1
        ∙ ap (λ c. silent (with_word c go)) (sym (same x y))))
        (λ u w2 t2 regs2 f2 s2 e2. sets out again (suc p1) fits.0 name.text u ls L regs2 w2 t2
        s.apart fits.1 (held_at p1 ls regs1 regs2 (scoped_after p p1 le s) s2 held1)
        (ap (λ i. acted ir i f (suc p1) regs2 below w2 t2) hi.1.0
        ∙ ap (λ c. silent (Goes (Here f q (put_register regs2 c (register_at regs2 to)) below w2
        t2))) found
        ∙ ap (λ c. silent (Goes (Here f q (put_register regs2 fits.0 c) below w2 t2))) e2)))
    update_runs None target place b int o value out again p rest ls L regs w t same s fits
        fits1 h held =
        let p1 : ℕ = target_end target p in
        let p2 : ℕ = or_end value (suc p1) in
        let q : ℕ = suc (suc p2) in
        let x : Target = target_of k v target p in
        let got : ℕ = k.node (suc p1) in
        let to : ℕ = k.node (suc p2) in
        let rv : ℕ = or_reg k v value p2 in
        let line : ℕ = source_line k.tree place in
        let l : Instruction = Load got x in
        let i : Instruction = Bin o to got rv in
        let j : Instruction = Store x to line in
        let later : List Instruction = l ∷ (or_code k v (pos 1) value (suc p1) ++ i ∷ j ∷ rest) in
        let ha : HasAt ir f p (target_code k v target p ++ later) = simp append_assoc at h in
        let hl : HasAt ir f p1 later = target_has ir f k v target p later ha in
        let hi : HasAt ir f p2 (i ∷ j ∷ rest) =
        or_has ir f k v (pos 1) value (suc p1) (i ∷ j ∷ rest) hl.1 in
        let le : p ≤ p1 = target_end_le target p in
        let le1 : suc p1 ≤ p2 = or_end_le value (suc p1) in
        let sp1 : Scoped p1 = scoped_after p p1 le s in
        let sp2 : Scoped (suc p1) = scoped_after p (suc p1) (omega (arith, le)) s in
        let up : k.node p1 < k.node (suc p1) = rises p1 (suc p1) (omega arith) in
        let up2 : k.node (suc p1) ≤ k.node p2 = grows ir m f k rises below (suc p1) p2 le1 in
        let e : ExprTree = target_field target in
        let written : ℤ × Option ℤ → ℤ → PoolMap → ℕ → List Access =
        λ z u w t. write_at (located k.tables ls w target z.0 z.1) u in
        let divided : ℤ × Option ℤ → ℤ → ℤ → PoolMap → ℕ → List Access = λ z x y w t.
        on_value (or_trap (binary_of b int x y) (placed_trap trap.Divide place) w t) (written z) in
        let righted : ℤ × Option ℤ → ℤ → PoolMap → ℕ → List Access = λ z x w t.
        optional_accesses k.tables calls seen value ls w t
        ++ on_value (or_value k calls (pos 1) value ls w t) (divided z x) in
        value_then ir m f k rises below calls seen run (operands_at ir m f k rises below calls seen
        run x) out again q p p1 q (Holds es) L regs w t (operand_accesses k.tables calls seen target
        ls w t) (operands_of k.tables calls target ls w t)
        (λ z w t. read_at (located k.tables ls w target z.0 z.1)
        ++ on_value (loaded (located k.tables ls w target z.0 z.1) w t) (righted z))
        (λ z w t. with_value (loaded (located k.tables ls w target z.0 z.1) w t)
        (λ x w t. with_value (or_value k calls (pos 1) value ls w t)
        (λ y w t. with_value (or_trap (binary_of b int x y) (placed_trap trap.Divide place) w t)
        (λ u w t. stored_end (located k.tables ls w target z.0 z.1) u ls w t))))
        (omega (arith, le1)) (operands_run target p later ls regs w t s fits ha held)
        (λ z w1 t1 regs1 f1 s1 e1. let held1 : Holds es ls regs1 = held_at p ls regs regs1 s
        s1 held in
        value_then ir m f k rises below calls seen run (λ regs x. register_at regs got ≡ x) out
        again q p1 (suc p1) q (Holds es) L regs1 w1 t1
        (read_at (located k.tables ls w1 target z.0 z.1))
        (loaded (located k.tables ls w1 target z.0 z.1) w1 t1) (righted z)
        (λ x w t. with_value (or_value k calls (pos 1) value ls w t)
        (λ y w t. with_value (or_trap (binary_of b int x y) (placed_trap trap.Divide place) w t)
        (λ u w t. stored_end (located k.tables ls w target z.0 z.1) u ls w t))) (omega (arith, le1))
        (field_gives ir m f k rises below es ls p1 target e x z.0 z.1 regs1 w1 t1
        (operands_word target p s fits) e1.0 e1.1 hl.0 held1)
        (λ c w2 t2 regs2 f2 s2 e2. let held2 : Holds es ls regs2 = held_at p1 ls regs1 regs2 sp1
        s2 held1 in
        value_then ir m f k rises below calls seen run (λ regs y. register_at regs rv ≡ y) out again
        q (suc p1) p2 q (Holds es) L regs2 w2 t2
        (optional_accesses k.tables calls seen value ls w2 t2)
        (or_value k calls (pos 1) value ls w2 t2) (divided z c)
        (λ y w t. with_value (or_trap (binary_of b int c y) (placed_trap trap.Divide place) w t)
        (λ u w t. stored_end (located k.tables ls w target z.0 z.1) u ls w t)) (omega arith)
        (or_gives (pos 1) value (suc p1) (i ∷ j ∷ rest) ls regs2 w2 t2 sp2 fits1 hl.1 held2)
        (λ y w3 t3 regs3 f3 s3 e3. let held3 : Holds es ls regs3 = held_at (suc p1) ls regs2 regs3
        sp2 s3 held2 in
        let ec : register_at regs3 got ≡ c = s3 got (omega arith) ∙ e2 in
        let go : ℤ → Move = λ u. Goes (Here f (suc p2) (put_register regs3 to u) below w3 t3) in
        value_then ir m f k rises below calls seen run (λ regs u. register_at regs to ≡ u) out again
        q p2 (suc p2) q (Holds es) L regs3 w3 t3 []
        (or_trap (binary_of b int c y) (placed_trap trap.Divide place) w3 t3) (written z)
        (λ u w t. stored_end (located k.tables ls w target z.0 z.1) u ls w t) (omega arith)
        (last_gives ir m f k rises below p2 place (binary_of b int c y) regs3 w3 t3
        (ap (λ i. acted ir i f p2 regs3 below w3 t3) hi.0
        ∙ ap (λ d. silent (with_word (word_of o d (register_at regs3 rv)) go)) ec
        ∙ ap (λ d. silent (with_word (word_of o c d) go)) e3
        ∙ ap (λ d. silent (with_word d go)) (sym (same c y))))
        (λ u w4 t4 regs4 f4 s4 e4. let s14 : Same (k.node p1) regs1 regs4 = λ r small.
        s4 r (omega (arith, small, up, up2)) ∙ s3 r (omega (arith, small, up)) ∙ s2 r small in
        store_at out again (suc p2) L target e x z to line u ls regs4 w4 t4
        (operands_word target p s fits)
        (operands_kept target p regs1 regs4 z s fits s14 e1) e4 hi.1.0
        (held_at p1 ls regs1 regs4 sp1 s14 held1)))))

    pub simple_runs : (x : SimpleTree) (out again p : ℕ) (rest : List Instruction) (ls : List Local)
        (L : List Local → List ℤ → Type 0) (regs : List ℤ) (w : PoolMap) (t : ℕ) → Scoped p
        → SimpleFits k ir v es x → HasAt ir f p (simple_code k v x p ++ rest)
        → Holds es ls regs → Runs ir m f k rises below calls seen run out again (simple_end x p) p p
        (simple_end x p) (Holds es) L regs w t (simple_accesses k.tables calls seen x ls w t)
        (meaning.end_of_simple k.tables calls x ls w t)
    simple_runs (stmt.Assign target assign.Set place value) out again p rest ls L regs w t s
        fits h held =
        subst (λ (o : Option (List ℕ)).
        Runs ir m f k rises below calls seen run out again
        (set_end (variable_of target) target value p) p p
        (set_end (variable_of target) target value p) (Holds es) L regs w t
        (set_accesses k.tables calls seen o target value ls w t)
        (assign_to k.tables calls o target (λ w t. value_of k.tables calls value ls w t) ls w t))
        (sym (local_is target))
        (set_runs (variable_of target) target place value out again p rest ls L regs w t s fits.0
        fits.1 h held)
    simple_runs (stmt.Assign target (assign.Update o) place value) out again p rest ls L regs w t s
        fits h held =
        let b : BinaryOp = update_binary o in
        let n : IntType = sides_type k.tables v.scopes b target value in
        subst (λ (int : IntType).
        Runs ir m f k rises below calls seen run out again
        (update_end (variable_of target) target (Some value) p) p p
        (update_end (variable_of target) target (Some value) p) (Holds es) L regs w t
        (update_accesses k.tables calls seen (target_local target) target b int place
        (λ w t. value_of k.tables calls value ls w t)
        (λ w t. value_accesses k.tables calls seen value ls w t) ls w t)
        (update k.tables calls (target_local target) target b int place
        (λ w t. value_of k.tables calls value ls w t) ls w t))
        (sym (sides_met k.tables v es ls s.agrees (scopes_held es ls regs held) b target value))
        (subst (λ (name : Option (List ℕ)).
        Runs ir m f k rises below calls seen run out again
        (update_end (variable_of target) target (Some value) p) p p
        (update_end (variable_of target) target (Some value) p) (Holds es) L regs w t
        (update_accesses k.tables calls seen name target b n place
        (λ w t. value_of k.tables calls value ls w t)
        (λ w t. value_accesses k.tables calls seen value ls w t) ls w t)
        (update k.tables calls name target b n place
        (λ w t. value_of k.tables calls value ls w t)
        ls w t)) (sym (local_is target))
        (update_runs (variable_of target) target place b n (operation_of n (update_operation o))
        (Some value) out again p rest ls L regs w t (update_same o n) s fits.0 fits.1 h held))
    simple_runs (stmt.Step target stepping.Up place) out again p rest ls L regs w t s fits h held =
        subst (λ (o : Option (List ℕ)).
        Runs ir m f k rises below calls seen run out again
        (update_end (variable_of target) target None p) p p
        (update_end (variable_of target) target None p) (Holds es) L regs w t
        (update_accesses k.tables calls seen o target binary.Add Signed place
        (λ w t. Got (pos 1) w t) (λ w t. []) ls w t)
        (update k.tables calls o target binary.Add Signed place (λ w t. Got (pos 1) w t) ls w t))
        (sym (local_is target))
        (update_runs (variable_of target) target place binary.Add Signed op.Add None out again p
        rest ls L regs w t (λ x y. refl) s fits tt h held)
    simple_runs (stmt.Step target stepping.Down place) out again p rest ls L regs w t s
        fits h held =
        subst (λ (o : Option (List ℕ)).
        Runs ir m f k rises below calls seen run out again
        (update_end (variable_of target) target None p) p p
        (update_end (variable_of target) target None p) (Holds es) L regs w t
        (update_accesses k.tables calls seen o target binary.Sub Signed place
        (λ w t. Got (pos 1) w t) (λ w t. []) ls w t)
        (update k.tables calls o target binary.Sub Signed place (λ w t. Got (pos 1) w t) ls w t))
        (sym (local_is target))
        (update_runs (variable_of target) target place binary.Sub Signed op.Sub None out again p
        rest ls L regs w t (λ x y. refl) s fits tt h held)
    simple_runs (stmt.Call name all) out again p rest ls L regs w t s fits h held =
        let q : ℕ = exp_end (expr.Call name all) p in
        value_quiet ir m f k rises below calls seen run (λ regs x. register_at regs
        (k.node q) ≡ x) out again q p q q (Holds es) L regs w t
        (value_accesses k.tables calls seen (expr.Call name all) ls w t)
        (value_of k.tables calls (expr.Call name all) ls w t)
        (λ x w t. Next ls w t) (omega arith)
        (exp_gives (expr.Call name all) p rest ls regs w t s fits h held)
        (λ x w1 t1 regs1 f1 s1 e1. stands_still ir m f k rises below calls seen run out again q
        (Holds es) L ls regs1 w1 t1 (held_at p ls regs regs1 s s1 held))
    simple_runs (stmt.Free place pointer) out again p rest ls L regs w t s fits h held =
        let q : ℕ = exp_end pointer p in
        let rp : ℕ = reg_of k v pointer q in
        let kind : ℕ = struct_kind_at k.tables
        (pointed_struct (type_of k.tables v.scopes pointer)) in
        let i : Instruction = Free rp kind (source_line k.tree place) in
        let ha : HasAt ir f p (exp_code k v pointer p ++ i ∷ rest) = simp append_assoc at h in
        let hi : HasAt ir f q (i ∷ rest) = exp_has ir f k v pointer p (i ∷ rest) ha in
        value_then ir m f k rises below calls seen run (λ regs x. register_at regs rp ≡ x) out again
        (suc q) p q (suc q) (Holds es) L regs w t
        (value_accesses k.tables calls seen pointer ls w t) (value_of k.tables calls pointer ls w t)
        (λ b w t. free_accesses k.tables ls w pointer b)
        (λ b w t. freed (at_place place (free_object k.tables ls w pointer b)) ls t) (omega arith)
        (exp_gives pointer p (i ∷ rest) ls regs w t s fits.0 ha held)
        (λ b w1 t1 regs1 f1 s1 e1. let held1 : Holds es ls regs1 = held_at p ls regs regs1 s
        s1 held in
        let go : PoolMap → Move = λ w. Goes (Here f (suc q) regs1 below w t1) in
        free_runs ir m f k rises below calls seen run out again q (Holds es) L place
        (struct_slot w1 (option_map (number_at k.tables) (struct_pointed_by k.tables ls pointer)) b)
        ls regs1 w1 t1 held1
        (ap (λ i. acted ir i f q regs1 below w1 t1) hi.0
        ∙ ap (λ c. frees f q (slot_of w1 kind c) w1 go) e1
        ∙ ap (λ c. frees f q c w1 go) (sym (fits.1 ls (scopes_held es ls regs1 held1) w1 b))))
    simple_runs (stmt.Abort place) out again p rest ls L regs w t s fits h held =
        path_ends p t (ap (λ i. acted ir i f p regs below w t) h.0)

    pub third_runs : (x : Option SimpleTree) (out again p : ℕ) (rest : List Instruction)
        (ls : List Local) (L : List Local → List ℤ → Type 0) (regs : List ℤ) (w : PoolMap) (t : ℕ)
        → Scoped p → ThirdFits k ir v es x → HasAt ir f p (third_code k v x p ++ rest)
        → Holds es ls regs → Runs ir m f k rises below calls seen run out again (third_end x p) p p
        (third_end x p) (Holds es) L regs w t (third_accesses k.tables calls seen x ls w t)
        (meaning.end_of_third k.tables calls x ls w t)
    third_runs None out again p rest ls L regs w t s fits h held =
        stands_still ir m f k rises below calls seen run out again p (Holds es) L ls regs w t held
    third_runs (Some x) out again p rest ls L regs w t s fits h held =
        simple_runs x out again p rest ls L regs w t s fits h held

    pub declaration_runs : (d : DeclarationTree) (i : Option InitialTree) (out again p : ℕ)
        (rest : List Instruction) (ls : List Local) (L : List Local → List ℤ → Type 0)
        (regs : List ℤ)
        (w : PoolMap) (t : ℕ) → Scoped p → InitialFits k ir v es i
        → HasAt ir f p (initial_code k v i p ++ rest) → Holds es ls regs
        → Runs ir m f k rises below calls seen run out again (initial_end i p) p p (initial_end i p)
        (Holds (entry_in k ir d (k.node (initial_end i p)) ∷ es)) L regs w t
        (option_map_or (λ (i : InitialTree). value_accesses k.tables calls seen i.value ls w t) i
        []) (with_value (option_map_or (λ (i : InitialTree). value_of k.tables calls i.value ls w t)
        i (Got (pos 0) w t)) (λ x w t. Next
        (with_declared d.name.text (declared_type k.tables d.ty) x ls) w t))
    declaration_runs d None out again p rest ls L regs w t s fits h held =
        let up : k.node p < k.node (suc p) = rises p (suc p) (omega arith) in
        record {
          regs' = put_register regs (k.node (suc p)) (pos 0);
          path = path_step p t (ap (λ i. acted ir i f p regs below w t) h.0);
          holds =
              declared_held (k.node p) (k.node (suc p)) d.name.text (declared_type k.tables d.ty)
              (pos 0) es ls regs s.under up held;
        }
    declaration_runs d (Some i) out again p rest ls L regs w t s fits h held =
        let q : ℕ = exp_end i.value p in
        let rv : ℕ = reg_of k v i.value q in
        let to : ℕ = k.node (suc q) in
        let c : Instruction = Copy to rv in
        let ha : HasAt ir f p (exp_code k v i.value p ++ c ∷ rest) = simp append_assoc at h in
        let hi : HasAt ir f q (c ∷ rest) = exp_has ir f k v i.value p (c ∷ rest) ha in
        let le : p ≤ q = exp_end_le i.value p in
        let up : k.node q < k.node (suc q) = rises q (suc q) (omega arith) in
        value_quiet ir m f k rises below calls seen run (λ regs x. register_at regs rv ≡ x) out
        again (suc q) p q (suc q) (Holds (entry_in k ir d to ∷ es)) L regs w t
        (value_accesses k.tables calls seen i.value ls w t) (value_of k.tables calls i.value ls w t)
        (λ x w t. Next (with_declared d.name.text (declared_type k.tables d.ty) x ls) w t)
        (omega arith) (exp_gives i.value p (c ∷ rest) ls regs w t s fits ha held)
        (λ x w1 t1 regs1 f1 s1 e1. record {
          regs' = put_register regs1 to x;
          path = path_step q t1 (ap (λ i. acted ir i f q regs1 below w1 t1) hi.0
              ∙ ap (λ u. silent (Goes (Here f (suc q) (put_register regs1 to u) below w1 t1))) e1);
          holds = declared_held (k.node q) to d.name.text (declared_type k.tables d.ty) x es ls
              regs1 (scoped_after p q le s).under up (held_at p ls regs regs1 s s1 held);
        })
