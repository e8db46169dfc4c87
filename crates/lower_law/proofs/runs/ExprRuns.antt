-- The code of an expression does what the expression does.
use Rattle.std.proofs.Common.{◌≡◌, ℕ, suc, ◌<◌, ◌≤◌, ℤ, pos, negsuc, List, [], ◌∷◌, ◌++◌, map, refl}
use Rattle.std.proofs.Common.{sym, ap, ◌∙◌, subst, arith, append_assoc}
use Rattle.std.specs.Prelude.{Option, None, Some}
use Rattle.std.specs.Option.{option_map_or}
use Rattle.nvm_base.specs.declared.op.BinOp.TheVariants as op
use Rattle.nvm_base.specs.Operations as word
use Rattle.c_tree.specs.declared.expr.IntType.{IntType}
use Rattle.c_tree.specs.declared.expr.UnaryOp.TheVariants as unary
use Rattle.c_tree.specs.ExprTree as expr
use Rattle.c_tree.specs.ExprTree.{ExprTree, Arguments}
use Rattle.c_tree.specs.ItemTree.{FunctionTree}
use Rattle.c_types.specs.Expressions.{sides_type}
use Rattle.c_types.specs.Tables.{number_at, words_at as struct_words}
use Rattle.pool_map.specs.Checks.{new_at}
use Rattle.pool_map.specs.PoolFits.{words_of}
use Rattle.pool_map.specs.PoolMap.{PoolMap, least_free}
use Rattle.pool_map.specs.declared.trap.TrapKind.TheVariants as trap
use Rattle.c_meaning.specs.Locals.{Local, value_named}
use Rattle.c_meaning.specs.Operators.{unary_of}
use Rattle.c_meaning.specs.Meaning as meaning
use Rattle.c_meaning.specs.Meaning.{Out, Got, Stops, Calls, then_do, at_zero, loaded, made, tick}
use Rattle.c_meaning.specs.Meaning.{called, value_of, pointer_of, values_of, placed_trap}
use Rattle.c_meaning.specs.Meaning.{binary_means}
use Rattle.c_meaning.specs.Accesses.{Access, CallAccesses, on_value, read_at, object_made}
use Rattle.c_meaning.specs.Accesses.{right_accesses, called_accesses, value_accesses}
use Rattle.c_meaning.specs.Accesses.{pointer_accesses, argument_accesses}
use Rattle.ir.specs.declared.instruction.Target.{Target}
use Rattle.ir.specs.declared.instruction.Instruction.{Instruction}
use Rattle.ir.specs.declared.instruction.Instruction.TheVariants.{Const, Copy, Bin, Jump, Branch}
use Rattle.ir.specs.declared.instruction.Instruction.TheVariants.{Load, Call, Tick}
use Rattle.ir.specs.declared.function.Ir.{Ir}
use Rattle.lower.specs.declared.form.Form.{Form}
use Rattle.lower.specs.Forms.{form_of, typed_form}
use Rattle.lower.specs.Names.{Variables, register_of, function_number, kind_named, element_target}
use Rattle.lower.specs.Lowers.{Context, exp_end, exp_code, reg_of, target_end, target_code}
use Rattle.lower.specs.Lowers.{target_of, arguments_end, arguments_code, registers_of, form_end}
use Rattle.lower.specs.Lowers.{form_code}
use Rattle.lower.proofs.Ends.{exp_end_le, target_end_le, arguments_end_le, form_end_le}
use Rattle.lower.proofs.Ends.{form_end_typed}
use Rattle.code_meaning.specs.Code.{Frame, Here, Goes, register_at, put_register, base_in}
use Rattle.code_meaning.specs.Code.{fields_of}
use Rattle.lower_law.proofs.runs.Paths.{acted, silent}
use Rattle.lower_law.proofs.runs.Has.{HasAt, exp_has, target_has, arguments_has}
use Rattle.lower_law.proofs.locals.Locals.{Entry, Agrees, Holds, AreBelow, Same, value_held}
use Rattle.lower_law.proofs.locals.Locals.{held_after}
use Rattle.lower_law.proofs.locals.Locals.{below_more, entry_below, register_found, scopes_held}
use Rattle.lower_law.proofs.locals.Sides.{sides_met}
use Rattle.lower_law.proofs.names.Fits.{WordFits, ExpFits, PointerFits, ArgumentsFit}
use Rattle.lower_law.proofs.runs.ExprSteps.{CallsRun, form_value, form_means, element_fits}
use Rattle.lower_law.proofs.runs.ExprSteps.{element_base}
use Rattle.lower_law.proofs.runs.ExprSteps.{element_index, grows, Gives, word_at, words_at, base_at}
use Rattle.lower_law.proofs.runs.ExprSteps.{after, gives_then, gives_quiet, puts, field_gives, news}
use Rattle.lower_law.proofs.runs.ExprSteps.{new_gives, stays, at_branch, branch_gives, hands_on}
use Rattle.lower_law.proofs.runs.ExprSteps.{copy_gives, copy_jumps, tick_gives, form_runs}

-- a value that nothing is done to
then_same : (o : Out ℤ) → then_do o (λ x w t. Got x w t) ≡ o
then_same (Got x w t) = refl
then_same (Stops trap) = refl

module _ (ir : Ir) (m f : ℕ) (k : Context) (rises : (p q : ℕ) → p < q → k.node p < k.node q)
    (below : List Frame) where
  module _ (calls : Calls) (seen : CallAccesses)
      (run : CallsRun k.tables ir m f below calls seen) (v : Variables) (es : List Entry)
      (agrees : Agrees v es) (ls : List Local) where
    -- at p the registers hold the locals, whose registers aren't those of later places
    pub record Ready (p : ℕ) (regs : List ℤ) : Type 0 where
      pub under : AreBelow (k.node p) es
      pub holds : Holds es ls regs

    pub ready_after : (p p1 : ℕ) (regs regs1 : List ℤ) → p ≤ p1 → Same (k.node p) regs regs1
        → Ready p regs → Ready p1 regs1
    ready_after p p1 regs regs1 le same h = record {
      under = below_more (k.node p) (k.node p1) es (grows ir m f k rises below p p1 le) h.under;
      holds = held_after (k.node p) es ls regs regs1 h.under same h.holds;
    }

    pub reg_le : (e : ExprTree) (p q : ℕ) → p ≤ q → AreBelow (k.node p) es → ExpFits k ir v es e
        → reg_of k v e q ≤ k.node q
    reg_le (expr.Variable name) p q le under fits =
        let small : fits.0 ≤ k.node p = entry_below (k.node p) name.text es fits.0 under fits.1 in
        let up : k.node p ≤ k.node q = grows ir m f k rises below p q le in
        let is : register_of name.text v ≡ fits.0 =
        register_found v es name.text fits.0 agrees fits.1 in
        omega (arith, small, up, is)
    reg_le (expr.Number n) p q le under fits = omega arith
    reg_le expr.Null p q le under fits = omega arith
    reg_le (expr.Call name all) p q le under fits = omega arith
    reg_le (expr.Root name) p q le under fits = omega arith
    reg_le (expr.New place name) p q le under fits = omega arith
    reg_le (expr.Arrow base place name) p q le under fits = omega arith
    reg_le (expr.Index base place index) p q le under fits = omega arith
    reg_le (expr.Unary unary.Negate place a) p q le under fits = omega arith
    reg_le (expr.Unary unary.Not place a) p q le under fits = omega arith
    reg_le (expr.Unary unary.Complement place a) p q le under fits = omega arith
    reg_le (expr.Unary (unary.Cast n) place a) p q le under fits = reg_le a p q le under fits
    reg_le (expr.Binary o place a b) p q le under fits = omega arith
    reg_le (expr.Conditional c place a b) p q le under fits = omega arith

    -- the base of an element keeps its value
    pub pointer_kept : (a : ExprTree) (p : ℕ) (regs regs1 : List ℤ) → AreBelow (k.node p) es
        → PointerFits k ir v es a → Same (k.node (target_end a p)) regs regs1
        → base_in regs1 (target_of k v a p) ≡ base_in regs (target_of k v a p)
    pointer_kept (expr.Root name) p regs regs1 under fits same = refl
    pointer_kept (expr.Arrow base place name) p regs regs1 under fits same =
        same (reg_of k v base (exp_end base p))
        (reg_le base p (exp_end base p) (exp_end_le base p) under fits.0)
    pointer_kept (expr.Number n) p regs regs1 under fits same = absurd fits
    pointer_kept expr.Null p regs regs1 under fits same = absurd fits
    pointer_kept (expr.Variable name) p regs regs1 under fits same = absurd fits
    pointer_kept (expr.Call name all) p regs regs1 under fits same = absurd fits
    pointer_kept (expr.New place name) p regs regs1 under fits same = absurd fits
    pointer_kept (expr.Index base place index) p regs regs1 under fits same = absurd fits
    pointer_kept (expr.Unary o place a) p regs regs1 under fits same = absurd fits
    pointer_kept (expr.Binary o place a b) p regs regs1 under fits same = absurd fits
    pointer_kept (expr.Conditional c place a b) p regs regs1 under fits same = absurd fits

    pub pointer_word : (a : ExprTree) (p : ℕ) → PointerFits k ir v es a
        → WordFits k.tables ir.shapes es a (target_of k v a p)
    pointer_word (expr.Root name) p fits = fits p
    pointer_word (expr.Arrow base place name) p fits = fits.1 p
    pointer_word (expr.Number n) p fits = absurd fits
    pointer_word expr.Null p fits = absurd fits
    pointer_word (expr.Variable name) p fits = absurd fits
    pointer_word (expr.Call name all) p fits = absurd fits
    pointer_word (expr.New place name) p fits = absurd fits
    pointer_word (expr.Index base place index) p fits = absurd fits
    pointer_word (expr.Unary o place a) p fits = absurd fits
    pointer_word (expr.Binary o place a b) p fits = absurd fits
    pointer_word (expr.Conditional c place a b) p fits = absurd fits

    mutual
      pub exp_runs : (e : ExprTree) (p : ℕ) (rest : List Instruction) (regs : List ℤ) (w : PoolMap)
          (t : ℕ) → ExpFits k ir v es e → HasAt ir f p (exp_code k v e p ++ rest) → Ready p regs
          → Gives ir m f k rises below (word_at ir m f k rises below (reg_of k v e (exp_end e p))) p
          (exp_end e p) regs w t (value_accesses k.tables calls seen e ls w t)
          (value_of k.tables calls e ls w t)
      exp_runs (expr.Number n) p rest regs w t fits h ready =
          puts ir m f k rises below p (suc p) n regs w t (omega arith)
          (ap (λ i. acted ir i f p regs below w t) h.0)
      exp_runs expr.Null p rest regs w t fits h ready =
          puts ir m f k rises below p (suc p) (pos 0) regs w t (omega arith)
          (ap (λ i. acted ir i f p regs below w t) h.0)
      exp_runs (expr.Variable name) p rest regs w t fits h ready =
          stays ir m f k rises below (word_at ir m f k rises below (register_of name.text v)) p regs
          w t (value_named name.text ls)
          (ap (register_at regs) (register_found v es name.text fits.0 agrees fits.1)
          ∙ value_held name.text es ls regs fits.0 ready.holds fits.1)
      exp_runs (expr.Call name all) p rest regs w t fits h ready =
          let p1 : ℕ = arguments_end all p in
          let to : ℕ = k.node (suc (suc p1)) in
          let fn : FunctionTree = fits.0.fn in
          let g : ℕ = function_number k.tables name.text in
          let rs : List ℕ = registers_of k v all p in
          let tail : List Instruction = Tick ∷ Call to g rs ∷ rest in
          let ha : HasAt ir f p (arguments_code k v all p ++ tail) = simp append_assoc at h in
          let hq : HasAt ir f p1 tail = arguments_has ir f k v all p tail ha in
          subst (λ (o : Option FunctionTree).
          Gives ir m f k rises below (word_at ir m f k rises below to) p (suc (suc p1)) regs w t
          (called_accesses seen o (argument_accesses k.tables calls seen all ls w t)
          (values_of k.tables calls all ls w t))
          (called calls name.place o (λ f. values_of k.tables calls all ls w t) w t))
          (sym fits.0.named)
          (gives_then ir m f k rises below (words_at ir m f k rises below rs)
          (word_at ir m f k rises below to) p p1 (suc (suc p1)) regs w t
          (argument_accesses k.tables calls seen all ls w t)
          (values_of k.tables calls all ls w t) (λ vs w t. tick t [] (λ t. seen fn vs w t))
          (λ vs w t.
          tick t (Stops (placed_trap trap.Steps name.place)) (λ t. calls name.place fn vs w t))
          (arguments_end_le all p) (omega arith)
          (arguments_run all p tail regs w t fits.1 ha ready)
          (λ vs w1 t1 regs1 s1 e1. tick_gives ir m f k rises below calls seen name.place p1 g fn rs
          vs regs1 w1 t1 run fits.0.stands e1 hq.0 hq.1.0))
      exp_runs (expr.Root name) p rest regs w t fits h ready =
          field_gives ir m f k rises below es ls p (expr.Root name) (expr.Root name)
          (target_of k v (expr.Root name) p) (pos 0) None regs w t (fits p) refl refl h.0
          ready.holds
      exp_runs (expr.New place name) p rest regs w t fits h ready =
          let kind : ℕ = kind_named k.tables name.text in
          let words : ℕ = words_of (fields_of ir.shapes kind) in
          let n : ℕ = number_at k.tables fits.place in
          subst (λ (o : Option ℕ).
          Gives ir m f k rises below (word_at ir m f k rises below (k.node (suc p))) p (suc p) regs
          w t (option_map_or (λ i.
          object_made (number_at k.tables i) (struct_words k.tables i) (least_free w)) o [])
          (made (option_map_or (λ i.
          new_at w (number_at k.tables i) (struct_words k.tables i) (least_free w)) o
          (pos 0, w)) t))
          (sym fits.named)
          (new_gives ir m f k rises below p n (struct_words k.tables fits.place) (least_free w) regs
          w t
          (ap (λ i. acted ir i f p regs below w t) h.0
          ∙ ap (λ j. news ir m f k rises below p j words (least_free w) regs w t) (sym fits.kind)
          ∙ ap (λ j. news ir m f k rises below p n j (least_free w) regs w t) (sym fits.words)))
      exp_runs (expr.Arrow base place name) p rest regs w t fits h ready =
          let p1 : ℕ = exp_end base p in
          let x : Target = target_of k v (expr.Arrow base place name) p in
          let i : Instruction = Load (k.node (suc p1)) x in
          let ha : HasAt ir f p (exp_code k v base p ++ i ∷ rest) = simp append_assoc at h in
          let hi : HasAt ir f p1 (i ∷ rest) = exp_has ir f k v base p (i ∷ rest) ha in
          let le : p ≤ p1 = exp_end_le base p in
          gives_then ir m f k rises below (word_at ir m f k rises below (reg_of k v base p1))
          (word_at ir m f k rises below (k.node (suc p1))) p p1 (suc p1) regs w t
          (value_accesses k.tables calls seen base ls w t) (value_of k.tables calls base ls w t)
          (λ b w t. read_at (meaning.located k.tables ls w (expr.Arrow base place name) b None))
          (λ b w t. loaded (meaning.located k.tables ls w (expr.Arrow base place name) b None) w
          t) le
          (omega arith) (exp_runs base p (i ∷ rest) regs w t fits.0 ha ready)
          (λ b w1 t1 regs1 s1 e1. field_gives ir m f k rises below es ls p1
          (expr.Arrow base place name) (expr.Arrow base place name) x b None regs1 w1 t1
          (fits.1 p) e1 refl hi.0
          (ready_after p p1 regs regs1 le s1 ready).holds)
      exp_runs (expr.Index a place i) p rest regs w t fits h ready =
          let q : ℕ = target_end a p in
          let q1 : ℕ = exp_end i q in
          let x : Target = target_of k v a p in
          let ri : ℕ = reg_of k v i q1 in
          let to : ℕ = k.node (suc q1) in
          let ld : Instruction = Load to (element_target x ri) in
          let ha : HasAt ir f p (target_code k v a p ++ (exp_code k v i q ++ ld ∷ rest)) =
          simp append_assoc at h in
          let hi : HasAt ir f q (exp_code k v i q ++ ld ∷ rest) =
          target_has ir f k v a p (exp_code k v i q ++ ld ∷ rest) ha in
          let hl : HasAt ir f q1 (ld ∷ rest) = exp_has ir f k v i q (ld ∷ rest) hi in
          let le : p ≤ q = target_end_le a p in
          let le1 : q ≤ q1 = exp_end_le i q in
          gives_then ir m f k rises below (base_at ir m f k rises below x)
          (word_at ir m f k rises below to) p q (suc q1) regs w t
          (pointer_accesses k.tables calls seen a ls w t) (pointer_of k.tables calls a ls w t)
          (λ b w t. value_accesses k.tables calls seen i ls w t
          ++ on_value (value_of k.tables calls i ls w t)
          (λ j w t. read_at (meaning.located k.tables ls w (expr.Index a place i) b (Some j))))
          (λ b w t. then_do (value_of k.tables calls i ls w t)
          (λ j w t. loaded (meaning.located k.tables ls w (expr.Index a place i) b (Some j)) w t))
          le (omega (arith, le1))
          (pointer_runs a p (exp_code k v i q ++ ld ∷ rest) regs w t fits.0 ha ready)
          (λ b w1 t1 regs1 s1 e1. let ready1 : Ready q regs1 = ready_after p q regs regs1 le
          s1 ready in
          gives_then ir m f k rises below (word_at ir m f k rises below ri)
          (word_at ir m f k rises below to) q q1 (suc q1) regs1 w1 t1
          (value_accesses k.tables calls seen i ls w1 t1) (value_of k.tables calls i ls w1 t1)
          (λ j w t. read_at (meaning.located k.tables ls w (expr.Index a place i) b (Some j)))
          (λ j w t. loaded (meaning.located k.tables ls w (expr.Index a place i) b (Some j)) w t)
          le1 (omega arith)
          (exp_runs i q (ld ∷ rest) regs1 w1 t1 fits.1 hi ready1)
          (λ j w2 t2 regs2 s2 e2. field_gives ir m f k rises below es ls q1
          (expr.Index a place i) a (element_target x ri) b (Some j) regs2 w2 t2
          (element_fits k.tables ir es a x ri (pointer_word a p fits.0))
          (element_base x ri regs2 ∙ pointer_kept a p regs1 regs2 ready.under fits.0 s2 ∙ e1)
          (element_index x ri regs2 ∙ ap Some e2) hl.0
          (ready_after q q1 regs1 regs2 le1 s2 ready1).holds))
      exp_runs (expr.Unary unary.Negate place a) p rest regs w t fits h ready =
          let q : ℕ = exp_end a (suc p) in
          let ra : ℕ = reg_of k v a q in
          let to : ℕ = k.node (suc q) in
          let i : Instruction = Bin op.Sub to (k.node (suc p)) ra in
          let ha : HasAt ir f (suc p) (exp_code k v a (suc p) ++ i ∷ rest) =
          simp append_assoc at h.1 in
          let hi : HasAt ir f q (i ∷ rest) = exp_has ir f k v a (suc p) (i ∷ rest) ha in
          let le : suc p ≤ q = exp_end_le a (suc p) in
          let g = puts ir m f k rises below p (suc p) (pos 0) regs w t (omega arith)
          (ap (λ i. acted ir i f p regs below w t) h.0) in
          after ir m f k rises below (word_at ir m f k rises below to) p (suc p) (suc q) regs
          g.regs' w w t t [] (value_accesses k.tables calls seen a ls w t) (omega arith) g.path
          g.same
          (then_do (value_of k.tables calls a ls w t)
          (λ x w t. Got (unary_of unary.Negate x) w t))
          (gives_quiet ir m f k rises below (word_at ir m f k rises below ra)
          (word_at ir m f k rises below to) (suc p) q (suc q) g.regs' w t
          (value_accesses k.tables calls seen a ls w t) (value_of k.tables calls a ls w t)
          (λ x w t. Got (unary_of unary.Negate x) w t) le
          (omega arith) (exp_runs a (suc p) (i ∷ rest) g.regs' w t fits ha
          (ready_after p (suc p) regs g.regs' (omega arith) g.same ready))
          (λ x w1 t1 regs1 s1 e1. let e0 : register_at regs1 (k.node (suc p)) ≡ pos 0 =
          s1 (k.node (suc p)) (omega arith) ∙ g.value in
          puts ir m f k rises below q (suc q) (word.sub (pos 0) x) regs1 w1 t1 (omega arith)
          (ap (λ i. acted ir i f q regs1 below w1 t1) hi.0
          ∙ ap (λ u. silent (Goes (Here f (suc q)
          (put_register regs1 to (word.sub u (register_at regs1 ra))) below w1 t1))) e0
          ∙ ap (λ u. silent (Goes (Here f (suc q) (put_register regs1 to (word.sub (pos 0) u)) below
          w1 t1))) e1)))
      exp_runs (expr.Unary unary.Complement place a) p rest regs w t fits h ready =
          let q : ℕ = exp_end a (suc p) in
          let ra : ℕ = reg_of k v a q in
          let to : ℕ = k.node (suc q) in
          let i : Instruction = Bin op.Xor to (k.node (suc p)) ra in
          let ha : HasAt ir f (suc p) (exp_code k v a (suc p) ++ i ∷ rest) =
          simp append_assoc at h.1 in
          let hi : HasAt ir f q (i ∷ rest) = exp_has ir f k v a (suc p) (i ∷ rest) ha in
          let le : suc p ≤ q = exp_end_le a (suc p) in
          let g = puts ir m f k rises below p (suc p) (negsuc 0) regs w t (omega arith)
          (ap (λ i. acted ir i f p regs below w t) h.0) in
          after ir m f k rises below (word_at ir m f k rises below to) p (suc p) (suc q) regs
          g.regs' w w t t [] (value_accesses k.tables calls seen a ls w t) (omega arith) g.path
          g.same
          (then_do (value_of k.tables calls a ls w t)
          (λ x w t. Got (unary_of unary.Complement x) w t))
          (gives_quiet ir m f k rises below (word_at ir m f k rises below ra)
          (word_at ir m f k rises below to) (suc p) q (suc q) g.regs' w t
          (value_accesses k.tables calls seen a ls w t) (value_of k.tables calls a ls w t)
          (λ x w t. Got (unary_of unary.Complement x) w t) le
          (omega arith) (exp_runs a (suc p) (i ∷ rest) g.regs' w t fits ha
          (ready_after p (suc p) regs g.regs' (omega arith) g.same ready))
          (λ x w1 t1 regs1 s1 e1. let e0 : register_at regs1 (k.node (suc p)) ≡ negsuc 0 =
          s1 (k.node (suc p)) (omega arith) ∙ g.value in
          puts ir m f k rises below q (suc q) (word.xor_of (negsuc 0) x) regs1 w1 t1 (omega arith)
          (ap (λ i. acted ir i f q regs1 below w1 t1) hi.0
          ∙ ap (λ u. silent (Goes (Here f (suc q)
          (put_register regs1 to (word.xor_of u (register_at regs1 ra))) below w1 t1))) e0
          ∙ ap (λ u. silent (Goes (Here f (suc q) (put_register regs1 to (word.xor_of (negsuc 0) u))
          below w1 t1))) e1)))
      exp_runs (expr.Unary unary.Not place a) p rest regs w t fits h ready =
          let q : ℕ = exp_end a p in
          let ra : ℕ = reg_of k v a q in
          let z : ℕ = k.node (suc q) in
          let to : ℕ = k.node (suc (suc q)) in
          let i : Instruction = Const z (pos 0) in
          let j : Instruction = Bin op.Eq to ra z in
          let ha : HasAt ir f p (exp_code k v a p ++ i ∷ j ∷ rest) = simp append_assoc at h in
          let hi : HasAt ir f q (i ∷ j ∷ rest) = exp_has ir f k v a p (i ∷ j ∷ rest) ha in
          let le : p ≤ q = exp_end_le a p in
          gives_quiet ir m f k rises below (word_at ir m f k rises below ra)
          (word_at ir m f k rises below to) p q (suc (suc q)) regs w t
          (value_accesses k.tables calls seen a ls w t)
          (value_of k.tables calls a ls w t) (λ x w t. Got (unary_of unary.Not x) w t) le
          (omega arith) (exp_runs a p (i ∷ j ∷ rest) regs w t fits ha ready)
          (λ x w1 t1 regs1 s1 e1. let g = puts ir m f k rises below q (suc q) (pos 0) regs1 w1 t1
          (omega arith) (ap (λ i. acted ir i f q regs1 below w1 t1) hi.0) in
          let e2 : register_at g.regs' ra ≡ x = g.same ra (reg_le a p q le ready.under fits) ∙ e1 in
          after ir m f k rises below (word_at ir m f k rises below to) q (suc q) (suc (suc q)) regs1
          g.regs' w1 w1 t1 t1 [] [] (omega arith) g.path g.same (Got (word.eq x (pos 0)) w1 t1)
          (puts ir m f k rises below (suc q) (suc (suc q)) (word.eq x (pos 0)) g.regs' w1 t1
          (omega arith) (ap (λ i. acted ir i f (suc q) g.regs' below w1 t1) hi.1.0
          ∙ ap (λ u. silent (Goes (Here f (suc (suc q))
          (put_register g.regs' to (word.eq u (register_at g.regs' z))) below w1 t1))) e2
          ∙ ap (λ u. silent (Goes (Here f (suc (suc q)) (put_register g.regs' to
          (word.eq x u)) below w1 t1))) g.value)))
      exp_runs (expr.Unary (unary.Cast n) place a) p rest regs w t fits h ready =
          subst (λ (out : Out ℤ). Gives ir m f k rises below
          (word_at ir m f k rises below (reg_of k v a (exp_end a p))) p (exp_end a p) regs w t
          (value_accesses k.tables calls seen a ls w t) out)
          (sym (then_same (value_of k.tables calls a ls w t)))
          (exp_runs a p rest regs w t fits h ready)
      exp_runs (expr.Binary o place a b) p rest regs w t fits h ready =
          let q : ℕ = exp_end a p in
          let ra : ℕ = reg_of k v a q in
          let n : IntType = sides_type k.tables v.scopes o a b in
          let form : Form = typed_form n (form_of o) in
          let end : ℕ = form_end form (exp_end b) q in
          let is : List Instruction = form_code form k.node (exp_code k v b) (exp_end b)
          (reg_of k v b) ra q in
          let left : Out ℤ = value_of k.tables calls a ls w t in
          let right : PoolMap → ℕ → Out ℤ = λ w t. value_of k.tables calls b ls w t in
          let ha : HasAt ir f p (exp_code k v a p ++ (is ++ rest)) = simp append_assoc at h in
          let hq : HasAt ir f q (is ++ rest) = exp_has ir f k v a p (is ++ rest) ha in
          let le : p ≤ q = exp_end_le a p in
          let means : value_of k.tables calls (expr.Binary o place a b) ls w t
          ≡ then_do left (λ x w t. form_value form place x right w t) =
          ap (λ (i : IntType). binary_means o i place left right)
          (sides_met k.tables v es ls agrees (scopes_held es ls regs ready.holds) o a b)
          ∙ (form_means o n place left right).0 in
          subst (λ (z : ℕ). Gives ir m f k rises below
          (word_at ir m f k rises below (k.node z)) p z regs w t
          (value_accesses k.tables calls seen (expr.Binary o place a b) ls w t)
          (value_of k.tables calls (expr.Binary o place a b) ls w t))
          (form_end_typed n (form_of o) (exp_end b) q)
          (subst (λ (out : Out ℤ). Gives ir m f k rises below
          (word_at ir m f k rises below (k.node end)) p end regs w t
          (value_accesses k.tables calls seen (expr.Binary o place a b) ls w t) out)
          (sym means)
          (gives_then ir m f k rises below (word_at ir m f k rises below ra)
          (word_at ir m f k rises below (k.node end)) p q end regs w t
          (value_accesses k.tables calls seen a ls w t)
          left (λ x w t. right_accesses o x (value_accesses k.tables calls seen b ls w t))
          (λ x w t. form_value form place x right w t) le
          (form_end_le form (exp_end b) q (λ z. exp_end_le b z))
          (exp_runs a p (is ++ rest) regs w t fits.0 ha ready)
          (λ x w1 t1 regs1 s1 e1. let ready1 : Ready q regs1 = ready_after p q regs regs1 le
          s1 ready in
          let more : List Access = value_accesses k.tables calls seen b ls w1 t1 in
          subst (λ l. Gives ir m f k rises below
          (word_at ir m f k rises below (k.node end)) q end regs1 w1 t1 l
          (form_value form place x right w1 t1))
          (sym ((form_means o n place left right).1 x more))
          (form_runs ir m f k rises below form place (exp_code k v b) (exp_end b)
          (reg_of k v b)
          right more ra q x rest regs1 w1 t1 (λ z. exp_end_le b z) (λ z r hz.
          exp_has ir f k v b z r hz)
          (λ z r lez hz. exp_runs b z r regs1 w1 t1 fits.1 hz
          (ready_after q z regs1 regs1 lez (λ r small. refl) ready1))
          (reg_le a p q le ready.under fits.0) e1 hq))))
      exp_runs (expr.Conditional c place a b) p rest regs w t fits h ready =
          let p1 : ℕ = exp_end c p in
          let p2 : ℕ = exp_end a (suc p1) in
          let q : ℕ = suc (suc p2) in
          let p3 : ℕ = exp_end b q in
          let end : ℕ = suc p3 in
          let rc : ℕ = reg_of k v c p1 in
          let ra : ℕ = reg_of k v a p2 in
          let rb : ℕ = reg_of k v b p3 in
          let to : ℕ = k.node end in
          let last : List Instruction = Copy to rb ∷ rest in
          let left : List Instruction = Copy to ra ∷ Jump end ∷ (exp_code k v b q ++ last) in
          let all : List Instruction = Branch rc q ∷ (exp_code k v a (suc p1) ++ left) in
          let hc : HasAt ir f p (exp_code k v c p ++ all) = simp append_assoc at h in
          let h1 : HasAt ir f p1 all = exp_has ir f k v c p all hc in
          let h2 : HasAt ir f p2 left = exp_has ir f k v a (suc p1) left h1.1 in
          let h3 : HasAt ir f p3 last = exp_has ir f k v b q last h2.1.1 in
          let le1 : p ≤ p1 = exp_end_le c p in
          let le2 : suc p1 ≤ p2 = exp_end_le a (suc p1) in
          let le3 : q ≤ p3 = exp_end_le b q in
          gives_then ir m f k rises below (word_at ir m f k rises below rc)
          (word_at ir m f k rises below to) p p1 end regs w t
          (value_accesses k.tables calls seen c ls w t) (value_of k.tables calls c ls w t)
          (λ x w t. at_zero x (value_accesses k.tables calls seen b ls w t)
          (value_accesses k.tables calls seen a ls w t))
          (λ x w t. at_zero x (value_of k.tables calls b ls w t) (value_of k.tables calls a ls w t))
          le1 (omega (arith, le2, le3)) (exp_runs c p all regs w t fits.0 hc ready)
          (λ x w1 t1 regs1 s1 e1. let ready1 : Ready p1 regs1 = ready_after p p1 regs regs1 le1
          s1 ready in
          branch_gives ir m f k rises below (word_at ir m f k rises below to) p1 q end x regs1 w1 t1
          (value_accesses k.tables calls seen b ls w1 t1) (value_of k.tables calls b ls w1 t1)
          (value_accesses k.tables calls seen a ls w1 t1) (value_of k.tables calls a ls w1 t1)
          (omega (arith, le2)) (at_branch ir m f k rises below p1 q rc x regs1 w1 t1 h1.0 e1)
          (hands_on ir m f k rises below rb to q p3 end regs1 w1 t1
          (value_accesses k.tables calls seen b ls w1 t1) (value_of k.tables calls b ls w1 t1) le3
          (omega arith) (exp_runs b q last regs1 w1 t1 fits.2 h2.1.1
          (ready_after p1 q regs1 regs1 (omega (arith, le2)) (λ r small. refl) ready1))
          (λ u w2 t2 regs2 e2. copy_gives ir m f k rises below p3 end rb u regs2 w2 t2
          (omega arith) h3.0 e2))
          (hands_on ir m f k rises below ra to (suc p1) p2 end regs1 w1 t1
          (value_accesses k.tables calls seen a ls w1 t1) (value_of k.tables calls a ls w1 t1) le2
          (omega (arith, le3)) (exp_runs a (suc p1) left regs1 w1 t1 fits.1 h1.1
          (ready_after p1 (suc p1) regs1 regs1 (omega arith) (λ r small. refl) ready1))
          (λ u w2 t2 regs2 e2. copy_jumps ir m f k rises below p2 end ra u regs2 w2 t2
          (omega (arith, le3)) h2.0 h2.1.0 e2)))

      pub pointer_runs : (a : ExprTree) (p : ℕ) (rest : List Instruction) (regs : List ℤ)
          (w : PoolMap) (t : ℕ) → PointerFits k ir v es a
          → HasAt ir f p (target_code k v a p ++ rest)
          → Ready p regs
          → Gives ir m f k rises below (base_at ir m f k rises below (target_of k v a p)) p
          (target_end a p) regs w t (pointer_accesses k.tables calls seen a ls w t)
          (pointer_of k.tables calls a ls w t)
      pointer_runs (expr.Root name) p rest regs w t fits h ready =
          stays ir m f k rises below (base_at ir m f k rises below
          (target_of k v (expr.Root name) p))
          p regs w t (pos 0) refl
      pointer_runs (expr.Arrow base place name) p rest regs w t fits h ready =
          exp_runs base p rest regs w t fits.0 h ready
      pointer_runs (expr.Number n) p rest regs w t fits h ready = absurd fits
      pointer_runs expr.Null p rest regs w t fits h ready = absurd fits
      pointer_runs (expr.Variable name) p rest regs w t fits h ready = absurd fits
      pointer_runs (expr.Call name all) p rest regs w t fits h ready = absurd fits
      pointer_runs (expr.New place name) p rest regs w t fits h ready = absurd fits
      pointer_runs (expr.Index base place index) p rest regs w t fits h ready = absurd fits
      pointer_runs (expr.Unary o place a) p rest regs w t fits h ready = absurd fits
      pointer_runs (expr.Binary o place a b) p rest regs w t fits h ready = absurd fits
      pointer_runs (expr.Conditional c place a b) p rest regs w t fits h ready = absurd fits

      pub arguments_run : (all : Arguments) (p : ℕ) (rest : List Instruction) (regs : List ℤ)
          (w : PoolMap) (t : ℕ) → ArgumentsFit k ir v es all
          → HasAt ir f p (arguments_code k v all p ++ rest) → Ready p regs
          → Gives ir m f k rises below (words_at ir m f k rises below (registers_of k v all p)) p
          (arguments_end all p) regs w t (argument_accesses k.tables calls seen all ls w t)
          (values_of k.tables calls all ls w t)
      arguments_run expr.None p rest regs w t fits h ready =
          stays ir m f k rises below (words_at ir m f k rises below []) p regs w t [] refl
      arguments_run (expr.More first e others) p rest regs w t fits h ready =
          let p1 : ℕ = exp_end e p in
          let q : ℕ = arguments_end others p1 in
          let re : ℕ = reg_of k v e p1 in
          let rs : List ℕ = registers_of k v others p1 in
          let ha : HasAt ir f p (exp_code k v e p ++ (arguments_code k v others p1 ++ rest)) =
          simp append_assoc at h in
          let ho : HasAt ir f p1 (arguments_code k v others p1 ++ rest) =
          exp_has ir f k v e p (arguments_code k v others p1 ++ rest) ha in
          let le : p ≤ p1 = exp_end_le e p in
          let le1 : p1 ≤ q = arguments_end_le others p1 in
          gives_then ir m f k rises below (word_at ir m f k rises below re)
          (words_at ir m f k rises below (re ∷ rs)) p p1 q regs w t
          (value_accesses k.tables calls seen e ls w t) (value_of k.tables calls e ls w t)
          (λ u w t. argument_accesses k.tables calls seen others ls w t)
          (λ u w t. then_do (values_of k.tables calls others ls w t) (λ us w t. Got (u ∷ us) w t))
          le le1 (exp_runs e p (arguments_code k v others p1 ++ rest) regs w t fits.0 ha ready)
          (λ u w1 t1 regs1 s1 e1. gives_quiet ir m f k rises below
          (words_at ir m f k rises below rs) (words_at ir m f k rises below (re ∷ rs)) p1 q q regs1
          w1 t1 (argument_accesses k.tables calls seen others ls w1 t1)
          (values_of k.tables calls others ls w1 t1) (λ us w t. Got (u ∷ us) w t) le1
          (omega arith) (arguments_run others p1 rest regs1 w1 t1 fits.1 ho
          (ready_after p p1 regs regs1 le s1 ready))
          (λ us w2 t2 regs2 s2 e2. let e3 : register_at regs2 re ≡ u =
          s2 re (reg_le e p p1 le ready.under fits.0) ∙ e1 in
          stays ir m f k rises below (words_at ir m f k rises below (re ∷ rs)) q regs2 w2 t2
          (u ∷ us) (ap (λ x. x ∷ map (register_at regs2) rs) e3 ∙ ap (λ xs. u ∷ xs) e2)))
