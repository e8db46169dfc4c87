-- The steps of an expression's code: values in registers, one after another, and the effect of each
-- instruction.
use Rattle.std.proofs.Common.{◌≡◌, ℕ, zero, suc, ◌<◌, ◌≤◌, ℤ, pos, negsuc, true, List, [], ◌∷◌}
use Rattle.std.proofs.Common.{◌++◌, map, refl, sym, ap, ◌∙◌, subst, arith, append_assoc, append-nil}
use Rattle.std.proofs.Common.{⊎_elim}
use Rattle.std.specs.Prelude.{Option, None, Some, Result, Ok, Err, if◌then◌else◌, slice_get}
use Rattle.std.proofs.lemmas.Bool.{cases_lt}
use Rattle.c_tree.specs.declared.expr.IntType.{IntType}
use Rattle.c_tree.specs.declared.expr.IntType.TheVariants.{Signed, Unsigned}
use Rattle.c_tree.specs.declared.expr.BinaryOp.{BinaryOp}
use Rattle.c_tree.specs.declared.expr.BinaryOp.TheVariants as binary
use Rattle.c_tree.specs.ExprTree.{ExprTree}
use Rattle.c_tree.specs.ItemTree.{FunctionTree}
use Rattle.c_types.specs.Tables.{Tables}
use Rattle.pool_map.specs.PoolMap.{PoolMap, read, read_root}
use Rattle.pool_map.specs.declared.trap.TrapKind.{TrapKind}
use Rattle.pool_map.specs.declared.trap.TrapKind.TheVariants as trap
use Rattle.pool_map.specs.declared.word.PoolWord.{PoolWord}
use Rattle.pool_map.specs.declared.word.PoolWord.TheVariants.{Root, Field}
use Rattle.c_meaning.specs.Locals.{Local}
use Rattle.c_meaning.specs.Access.{word_named}
use Rattle.c_meaning.specs.Meaning.{Out, Got, Stops, Calls, then_do, or_trap, loaded, at_zero, tick}
use Rattle.c_meaning.specs.Meaning.{binary_means, placed_trap, at_target, made}
use Rattle.c_meaning.specs.Accesses.{Access, Loaded, Wrote, Headed, CallAccesses, on_value, read_at}
use Rattle.c_meaning.specs.Accesses.{zeros_written, object_made, right_accesses}
use Rattle.ir.specs.declared.instruction.Target.{Target}
use Rattle.ir.specs.declared.instruction.Target.TheVariants as aim
use Rattle.ir.specs.declared.instruction.Instruction.{Instruction}
use Rattle.ir.specs.declared.instruction.Instruction.TheVariants.{Const, Copy, Bin, Jump, Branch}
use Rattle.ir.specs.declared.instruction.Instruction.TheVariants.{Load, Call, Tick}
use Rattle.ir.specs.declared.function.Ir.{Ir}
use Rattle.lower.specs.declared.form.Form.{Form}
use Rattle.lower.specs.declared.form.Form.TheVariants.{Both, Either, Direct, Exchanged}
use Rattle.lower.specs.Forms.{form_of, typed_form}
use Rattle.lower.specs.Names.{element_target}
use Rattle.lower.specs.Lowers.{Context, form_end, form_code, truth_code}
use Rattle.code_meaning.specs.Code.{Frame, Here, Trapped, Goes, Ends, Move, Spot, register_at}
use Rattle.pool_map.specs.Checks.{is_zero, new_at}
use Rattle.ir.specs.declared.site.Site.{Site}
use Rattle.code_meaning.specs.Code.{put_register, word_of, with_word, with_ok, spot_of, base_in}
use Rattle.code_meaning.specs.Code.{index_in, load_spot}
use Rattle.code_meaning.specs.Deeds.{Reads, if_ok, zeros, site, deeds_new}
use Rattle.code_meaning.proofs.Registers.{at_put_same}
use Rattle.lower_law.specs.Accesses.{access_of}
use Rattle.lower_law.proofs.runs.Paths.{Path, path_then, path_more, path_nil, path_none, path_step}
use Rattle.lower_law.proofs.runs.Paths.{path_ends, path_tick, doing, silent, acted, stepped}
use Rattle.lower_law.proofs.runs.Paths.{at-put_other}
use Rattle.lower_law.proofs.runs.Has.{At, HasAt}
use Rattle.lower_law.proofs.locals.Locals.{Entry, Holds, Same, scopes_held}
use Rattle.lower_law.proofs.names.Fits.{WordFits}

-- a call of a function, from its instruction on: at most m steps and its own
abbrev pub Called : Ir → (m f : ℕ) → List Frame → (to p : ℕ) (regs : List ℤ) (w : PoolMap) (t : ℕ)
    → List Access → Out ℤ → Type 0
Called ir m f below to p regs w t done (Got v w' t') =
    Path ir m (Here f p regs below w t) (Goes (Here f (suc p) (put_register regs to v) below w' t'))
    0 t (suc m) t' done
Called ir m f below to p regs w t done (Stops stop) =
    Path ir m (Here f p regs below w t) (Ends (Trapped stop.kind)) 0 t (suc m) 0 done

-- every call that a function makes does what the trees say, with their accesses
abbrev pub CallsRun : Tables → Ir → (m f : ℕ) → List Frame → Calls → CallAccesses → Type 0
CallsRun tables ir m f below calls seen =
    (place to g : ℕ) (fn : FunctionTree) (rs : List ℕ) (p : ℕ) (regs : List ℤ) (w : PoolMap) (t : ℕ)
    → slice_get tables.functions g ≡ Some fn → At ir f p (Call to g rs)
    → Called ir m f below to p regs w t (seen fn (map (register_at regs) rs) w t)
    (calls place fn (map (register_at regs) rs) w t)

-- the value of an operator, given its left side
abbrev pub form_value : Form → (place : ℕ) → ℤ → (PoolMap → ℕ → Out ℤ) → PoolMap → ℕ → Out ℤ
form_value Both place x b w t = at_zero x (Got (pos 0) w t)
    (then_do (b w t) (λ y w t. Got (at_zero y (pos 0) (pos 1)) w t))
form_value Either place x b w t = at_zero x
    (then_do (b w t) (λ y w t. Got (at_zero y (pos 0) (pos 1)) w t)) (Got (pos 1) w t)
form_value (Direct o) place x b w t =
    then_do (b w t) (λ y w t. or_trap (word_of o x y) (placed_trap trap.Divide place) w t)
form_value (Exchanged o) place x b w t =
    then_do (b w t) (λ y w t. or_trap (word_of o y x) (placed_trap trap.Divide place) w t)

-- the accesses of its right side that it makes
abbrev pub form_accesses : Form → ℤ → List Access → List Access
form_accesses Both x right = at_zero x [] right
form_accesses Either x right = at_zero x right []
form_accesses (Direct o) x right = right
form_accesses (Exchanged o) x right = right

pub form_means : (o : BinaryOp) (n : IntType) (place : ℕ) (a : Out ℤ) (b : PoolMap → ℕ → Out ℤ)
    → (binary_means o n place a b
    ≡ then_do a (λ x w t. form_value (typed_form n (form_of o)) place x b w t))
    × ((x : ℤ) (right : List Access) → right_accesses o x right
    ≡ form_accesses (typed_form n (form_of o)) x right)
form_means binary.Mul Signed place a b = (refl, λ x right. refl)
form_means binary.Mul Unsigned place a b = (refl, λ x right. refl)
form_means binary.Div Signed place a b = (refl, λ x right. refl)
form_means binary.Div Unsigned place a b = (refl, λ x right. refl)
form_means binary.Rem Signed place a b = (refl, λ x right. refl)
form_means binary.Rem Unsigned place a b = (refl, λ x right. refl)
form_means binary.Add Signed place a b = (refl, λ x right. refl)
form_means binary.Add Unsigned place a b = (refl, λ x right. refl)
form_means binary.Sub Signed place a b = (refl, λ x right. refl)
form_means binary.Sub Unsigned place a b = (refl, λ x right. refl)
form_means binary.ShiftLeft Signed place a b = (refl, λ x right. refl)
form_means binary.ShiftLeft Unsigned place a b = (refl, λ x right. refl)
form_means binary.ShiftRight Signed place a b = (refl, λ x right. refl)
form_means binary.ShiftRight Unsigned place a b = (refl, λ x right. refl)
form_means binary.Less Signed place a b = (refl, λ x right. refl)
form_means binary.Less Unsigned place a b = (refl, λ x right. refl)
form_means binary.LessEqual Signed place a b = (refl, λ x right. refl)
form_means binary.LessEqual Unsigned place a b = (refl, λ x right. refl)
form_means binary.Greater Signed place a b = (refl, λ x right. refl)
form_means binary.Greater Unsigned place a b = (refl, λ x right. refl)
form_means binary.GreaterEqual Signed place a b = (refl, λ x right. refl)
form_means binary.GreaterEqual Unsigned place a b = (refl, λ x right. refl)
form_means binary.Equal Signed place a b = (refl, λ x right. refl)
form_means binary.Equal Unsigned place a b = (refl, λ x right. refl)
form_means binary.NotEqual Signed place a b = (refl, λ x right. refl)
form_means binary.NotEqual Unsigned place a b = (refl, λ x right. refl)
form_means binary.And Signed place a b = (refl, λ x right. refl)
form_means binary.And Unsigned place a b = (refl, λ x right. refl)
form_means binary.Xor Signed place a b = (refl, λ x right. refl)
form_means binary.Xor Unsigned place a b = (refl, λ x right. refl)
form_means binary.Or Signed place a b = (refl, λ x right. refl)
form_means binary.Or Unsigned place a b = (refl, λ x right. refl)
form_means binary.Both n place a b = (refl, λ x right. refl)
form_means binary.Either n place a b = (refl, λ x right. refl)

-- an element's target is its field's with an index
pub element_fits : (tables : Tables) (ir : Ir) (es : List Entry) (e : ExprTree) (x : Target) (r : ℕ)
    → WordFits tables ir.shapes es e x → WordFits tables ir.shapes es e (element_target x r)
element_fits tables ir es e (aim.Root field index) r fits = λ ls s w b j. fits ls s w b j
element_fits tables ir es e (aim.Field base kind field index) r fits = λ ls s w b j. fits ls s w b j

pub element_base : (x : Target) (r : ℕ) (regs : List ℤ) → base_in regs (element_target x r)
    ≡ base_in regs x
element_base (aim.Root field index) r regs = refl
element_base (aim.Field base kind field index) r regs = refl

pub element_index : (x : Target) (r : ℕ) (regs : List ℤ) → index_in regs (element_target x r)
    ≡ Some (register_at regs r)
element_index (aim.Root field index) r regs = refl
element_index (aim.Field base kind field index) r regs = refl

-- the accesses of a new object, and those of a load
zeros_same : (a : Site) (s i n : ℕ) → map access_of (zeros a s i n) ≡ zeros_written s i n
zeros_same a s i zero = refl
zeros_same a s i (suc n) = ap (λ l. Wrote (Field s i) (pos 0) ∷ l) (zeros_same a s (suc i) n)

made_same : (f p kind words : ℕ) (o : Option ℕ) → map access_of (deeds_new f p kind words o)
    ≡ object_made kind words o
made_same f p kind words None = refl
made_same f p kind words (Some s) =
    ap (λ l. Headed s (pos kind) ∷ l) (zeros_same (site f p true) s 0 words)

abbrev pub loads : Result PoolWord TrapKind → (Spot → Move) → Move × List Access
loads o go = doing (with_ok o go) (map access_of (if_ok o (λ s. Reads s ∷ [])))

pub nothing_follows : {A : Type 0} (done : List Access) (o : Out A)
    → done ++ on_value o (λ v w t. []) ≡ done
nothing_follows done (Got v w t) = append-nil done
nothing_follows done (Stops trap) = append-nil done

module _ (ir : Ir) (m f : ℕ) (k : Context) (rises : (p q : ℕ) → p < q → k.node p < k.node q)
    (below : List Frame) where
  pub grows : (p q : ℕ) → p ≤ q → k.node p ≤ k.node q
  grows p q le = ⊎_elim (λ (lt : p < q). less p q (rises p q lt)) (λ (ge : q ≤ p).
      same p q (omega (arith, le, ge))) (cases_lt p q)
    where
      less : (p q : ℕ) → k.node p < k.node q → k.node p ≤ k.node q
      less p q lt = omega (arith, lt)

      same : (p q : ℕ) → p ≡ q → k.node p ≤ k.node q
      same p q e = subst (λ n. k.node p ≤ k.node n) e (omega arith)

  pub record Given {A : Type 0} (is : List ℤ → A → Type 0) (p q : ℕ) (regs : List ℤ) (w : PoolMap)
      (t : ℕ) (done : List Access) (v : A) (w' : PoolMap) (t' : ℕ) : Type 0 where
    pub regs' : List ℤ
    pub path : Path ir m (Here f p regs below w t) (Goes (Here f q regs' below w' t')) p t q t' done
    pub same : Same (k.node p) regs regs'
    pub value : is regs' v

  -- from p the code goes to q, with the value in its register, or traps, and makes these accesses
  abbrev pub Gives : {A : Type 0} (is : List ℤ → A → Type 0) (p q : ℕ) (regs : List ℤ) (w : PoolMap)
      (t : ℕ) (done : List Access) → Out A → Type 0
  Gives is p q regs w t done (Got v w' t') = Given is p q regs w t done v w' t'
  Gives is p q regs w t done (Stops stop) =
      Path ir m (Here f p regs below w t) (Ends (Trapped stop.kind)) p t q 0 done

  abbrev pub word_at : ℕ → List ℤ → ℤ → Type 0
  word_at r regs v = register_at regs r ≡ v

  abbrev pub words_at : List ℕ → List ℤ → List ℤ → Type 0
  words_at rs regs vs = map (register_at regs) rs ≡ vs

  abbrev pub base_at : Target → List ℤ → ℤ → Type 0
  base_at x regs b = base_in regs x ≡ b

  -- a first part, and what follows
  pub after : {A : Type 0} (is : List ℤ → A → Type 0) (p p1 q : ℕ) (regs regs1 : List ℤ)
      (w w1 : PoolMap) (t t1 : ℕ) (done later : List Access) → p ≤ p1
      → Path ir m (Here f p regs below w t) (Goes (Here f p1 regs1 below w1 t1)) p t p1 t1 done
      → Same (k.node p) regs regs1 → (o : Out A)
      → Gives is p1 q regs1 w1 t1 later o → Gives is p q regs w t (done ++ later) o
  after is p p1 q regs regs1 w w1 t t1 done later le path same (Got v w' t') g = record {
    regs' = g.regs';
    path = path_then done later path g.path;
    same = λ r small. let up : k.node p ≤ k.node p1 = grows p p1 le in
        g.same r (omega (arith, small, up)) ∙ same r small;
    value = g.value;
  }
  after is p p1 q regs regs1 w w1 t t1 done later le path same (Stops trap) g =
      path_then done later path g

  pub gives_then : {A B : Type 0} (is : List ℤ → A → Type 0) (is' : List ℤ → B → Type 0)
      (p p1 q : ℕ) (regs : List ℤ) (w : PoolMap) (t : ℕ) (done : List Access) (o : Out A)
      (later : A → PoolMap → ℕ → List Access) (go : A → PoolMap → ℕ → Out B)
      → p ≤ p1 → p1 ≤ q → Gives is p p1 regs w t done o
      → ((v : A) (w1 : PoolMap) (t1 : ℕ) (regs1 : List ℤ) → Same (k.node p) regs regs1 → is regs1 v
      → Gives is' p1 q regs1 w1 t1 (later v w1 t1) (go v w1 t1))
      → Gives is' p q regs w t (done ++ on_value o later) (then_do o go)
  gives_then is is' p p1 q regs w t done (Got v w1 t1) later go le le1 g cont =
      after is' p p1 q regs g.regs' w w1 t t1 done (later v w1 t1) le g.path g.same (go v w1 t1)
      (cont v w1 t1 g.regs' g.same g.value)
  gives_then is is' p p1 q regs w t done (Stops trap) later go le le1 g cont =
      path_nil done (path_more le1 g)

  -- no accesses follow
  pub gives_quiet : {A B : Type 0} (is : List ℤ → A → Type 0) (is' : List ℤ → B → Type 0)
      (p p1 q : ℕ) (regs : List ℤ) (w : PoolMap) (t : ℕ) (done : List Access) (o : Out A)
      (go : A → PoolMap → ℕ → Out B) → p ≤ p1 → p1 ≤ q → Gives is p p1 regs w t done o
      → ((v : A) (w1 : PoolMap) (t1 : ℕ) (regs1 : List ℤ) → Same (k.node p) regs regs1 → is regs1 v
      → Gives is' p1 q regs1 w1 t1 [] (go v w1 t1)) → Gives is' p q regs w t done (then_do o go)
  gives_quiet is is' p p1 q regs w t done o go le le1 g cont =
      subst (λ l. Gives is' p q regs w t l (then_do o go)) (nothing_follows done o)
      (gives_then is is' p p1 q regs w t done o (λ v w t. []) go le le1 g cont)

  -- a write to the register of a place after p
  pub put_same : (p q : ℕ) (v : ℤ) (regs : List ℤ) → p < q
      → Same (k.node p) regs (put_register regs (k.node q) v)
  put_same p q v regs lt r small =
      at-put_other regs (k.node q) r v (λ e. let up : k.node p < k.node q = rises p q lt in
      let same : k.node q ≡ r = e in absurd (omega (arith, small, up, same)))

  lands : (done : List Access) (p q : ℕ) (v : ℤ) (regs : List ℤ) (w w1 : PoolMap) (t : ℕ) → p < q
      → stepped ir (Here f p regs below w t)
      ≡ doing (Goes (Here f (suc p) (put_register regs (k.node q) v) below w1 t)) done
      → Gives (word_at (k.node q)) p (suc p) regs w t done (Got v w1 t)
  lands done p q v regs w w1 t lt st = record {
    regs' = put_register regs (k.node q) v;
    path = path_step p t st;
    same = put_same p q v regs lt;
    value = at_put_same regs (k.node q) v;
  }

  pub puts : (p q : ℕ) (v : ℤ) (regs : List ℤ) (w : PoolMap) (t : ℕ) → p < q
      → stepped ir (Here f p regs below w t)
      ≡ silent (Goes (Here f (suc p) (put_register regs (k.node q) v) below w t))
      → Gives (word_at (k.node q)) p (suc p) regs w t [] (Got v w t)
  puts p q v regs w t lt st = lands [] p q v regs w w t lt st

  -- a last instruction that may trap
  pub last_gives : (p place : ℕ) (o : Option ℤ) (regs : List ℤ) (w : PoolMap) (t : ℕ)
      → stepped ir (Here f p regs below w t) ≡ silent
      (with_word o (λ v. Goes (Here f (suc p) (put_register regs (k.node (suc p)) v) below w t)))
      → Gives (word_at (k.node (suc p))) p (suc p) regs w t []
      (or_trap o (placed_trap trap.Divide place) w t)
  last_gives p place None regs w t st = path_ends p t st
  last_gives p place (Some v) regs w t st = puts p (suc p) v regs w t (omega arith) st

  pub load_gives : (p : ℕ) (target : ExprTree) (o : Result PoolWord TrapKind) (regs : List ℤ)
      (w : PoolMap) (t : ℕ)
      → stepped ir (Here f p regs below w t) ≡ loads o
      (λ s. Goes (Here f (suc p) (put_register regs (k.node (suc p)) (load_spot w s)) below w t))
      → Gives (word_at (k.node (suc p))) p (suc p) regs w t (read_at (at_target target o))
      (loaded (at_target target o) w t)
  load_gives p target (Err kind) regs w t st = path_ends p t st
  load_gives p target (Ok (Root i)) regs w t st =
      lands (Loaded (Root i) ∷ []) p (suc p) (read_root w i) regs w w t (omega arith) st
  load_gives p target (Ok (Field s i)) regs w t st =
      lands (Loaded (Field s i) ∷ []) p (suc p) (read w s i) regs w w t (omega arith) st

  -- a load of a field's word, after its base and index; the target is the field or its element
  pub field_gives : (es : List Entry) (ls : List Local) (p : ℕ) (target e : ExprTree) (x : Target)
      (b : ℤ) (j : Option ℤ) (regs : List ℤ) (w : PoolMap) (t : ℕ)
      → WordFits k.tables ir.shapes es e x
      → base_in regs x ≡ b → index_in regs x ≡ j
      → At ir f p (Load (k.node (suc p)) x) → Holds es ls regs
      → Gives (word_at (k.node (suc p))) p (suc p) regs w t
      (read_at (at_target target (word_named k.tables ls w e b j)))
      (loaded (at_target target (word_named k.tables ls w e b j)) w t)
  field_gives es ls p target e x b j regs w t fits eb ej st held =
      let go : Spot → Move = λ s. Goes
      (Here f (suc p) (put_register regs (k.node (suc p)) (load_spot w s)) below w t) in
      load_gives p target (word_named k.tables ls w e b j) regs w t
      (ap (λ i. acted ir i f p regs below w t) st
      ∙ ap (λ c. loads (spot_of ir.shapes w x c (index_in regs x)) go) eb
      ∙ ap (λ i. loads (spot_of ir.shapes w x b i) go) ej
      ∙ ap (λ o. loads o go) (sym (fits ls (scopes_held es ls regs held) w b j)))

  -- a new object
  abbrev pub news : (p kind words : ℕ) → Option ℕ → List ℤ → PoolMap → (t : ℕ)
      → Move × List Access
  news p kind words o regs w t =
      let r : ℤ × PoolMap = new_at w kind words o in
      doing (Goes (Here f (suc p) (put_register regs (k.node (suc p)) r.0) below r.1 t))
      (map access_of (deeds_new f p kind words o))

  pub new_gives : (p kind words : ℕ) (o : Option ℕ) (regs : List ℤ) (w : PoolMap) (t : ℕ)
      → stepped ir (Here f p regs below w t) ≡ news p kind words o regs w t
      → Gives (word_at (k.node (suc p))) p (suc p) regs w t (object_made kind words o)
      (made (new_at w kind words o) t)
  new_gives p kind words o regs w t st =
      let r : ℤ × PoolMap = new_at w kind words o in
      lands (object_made kind words o) p (suc p) r.0 regs w r.1 t (omega arith)
      (st ∙ ap (λ l. doing
      (Goes (Here f (suc p) (put_register regs (k.node (suc p)) r.0) below r.1 t)) l)
      (made_same f p kind words o))

  -- the same registers, another place
  pub moves : {A : Type 0} (is : List ℤ → A → Type 0) (p p1 q : ℕ) (regs : List ℤ) (w : PoolMap)
      (t : ℕ) (done : List Access) (o : Out A) → p < p1 → stepped ir (Here f p regs below w t)
      ≡ silent (Goes (Here f p1 regs below w t)) → Gives is p1 q regs w t done o
      → Gives is p q regs w t done o
  moves is p p1 q regs w t done o lt st g =
      after is p p1 q regs regs w w t t [] done (omega (arith, lt))
      (path_more lt (path_step p t st)) (λ r small. refl) o g

  pub at_branch : (p off r : ℕ) (x : ℤ) (regs : List ℤ) (w : PoolMap) (t : ℕ)
      → At ir f p (Branch r off) → register_at regs r ≡ x
      → stepped ir (Here f p regs below w t)
      ≡ silent (if is_zero x then Goes (Here f off regs below w t)
      else Goes (Here f (suc p) regs below w t))
  at_branch p off r x regs w t st e = ap (λ i. acted ir i f p regs below w t) st
      ∙ ap (λ v. silent (if is_zero v then Goes (Here f off regs below w t)
      else Goes (Here f (suc p) regs below w t))) e

  pub branch_gives : {A : Type 0} (is : List ℤ → A → Type 0) (p off q : ℕ) (x : ℤ) (regs : List ℤ)
      (w : PoolMap) (t : ℕ) (done : List Access) (a : Out A) (other : List Access) (b : Out A)
      → p < off → stepped ir (Here f p regs below w t)
      ≡ silent (if is_zero x then Goes (Here f off regs below w t)
      else Goes (Here f (suc p) regs below w t)) → Gives is off q regs w t done a
      → Gives is (suc p) q regs w t other b
      → Gives is p q regs w t (at_zero x done other) (at_zero x a b)
  branch_gives is p off q (pos zero) regs w t done a other b lt st ga gb =
      moves is p off q regs w t done a lt st ga
  branch_gives is p off q (pos (suc n)) regs w t done a other b lt st ga gb =
      moves is p (suc p) q regs w t other b (omega arith) st gb
  branch_gives is p off q (negsuc n) regs w t done a other b lt st ga gb =
      moves is p (suc p) q regs w t other b (omega arith) st gb

  pub stays : {A : Type 0} (is : List ℤ → A → Type 0) (p : ℕ) (regs : List ℤ) (w : PoolMap) (t : ℕ)
      (v : A) → is regs v → Gives is p p regs w t [] (Got v w t)
  stays is p regs w t v value = record {
    regs' = regs;
    path = path_none (Here f p regs below w t) p t;
    same = λ r small. refl;
    value = value;
  }

  -- the same value in another register, by the instructions that follow
  pub hands_on : (r to p q end : ℕ) (regs : List ℤ) (w : PoolMap) (t : ℕ) (done : List Access)
      (o : Out ℤ) → p ≤ q → q ≤ end → Gives (word_at r) p q regs w t done o
      → ((v : ℤ) (w1 : PoolMap) (t1 : ℕ) (regs1 : List ℤ) → word_at r regs1 v
      → Gives (word_at to) q end regs1 w1 t1 [] (Got v w1 t1))
      → Gives (word_at to) p end regs w t done o
  hands_on r to p q end regs w t done (Got v w1 t1) le le1 g cont =
      subst (λ l. Gives (word_at to) p end regs w t l (Got v w1 t1)) (append-nil done)
      (after (word_at to) p q end regs g.regs' w w1 t t1 done [] le g.path g.same (Got v w1 t1)
      (cont v w1 t1 g.regs' g.value))
  hands_on r to p q end regs w t done (Stops trap) le le1 g cont = path_more le1 g

  pub copy_gives : (p q r : ℕ) (v : ℤ) (regs : List ℤ) (w : PoolMap) (t : ℕ) → p < q
      → At ir f p (Copy (k.node q) r) → register_at regs r ≡ v
      → Gives (word_at (k.node q)) p (suc p) regs w t [] (Got v w t)
  copy_gives p q r v regs w t lt st e = puts p q v regs w t lt
      (ap (λ i. acted ir i f p regs below w t) st
      ∙ ap (λ u. silent (Goes (Here f (suc p) (put_register regs (k.node q) u) below w t))) e)

  -- a copy, and a jump to the place of the register
  pub copy_jumps : (p q r : ℕ) (v : ℤ) (regs : List ℤ) (w : PoolMap) (t : ℕ) → suc p < q
      → At ir f p (Copy (k.node q) r) → At ir f (suc p) (Jump q) → register_at regs r ≡ v
      → Gives (word_at (k.node q)) p q regs w t [] (Got v w t)
  copy_jumps p q r v regs w t lt st st1 e =
      let g = copy_gives p q r v regs w t (omega arith) st e in
      after (word_at (k.node q)) p (suc p) q regs g.regs' w w t t [] [] (omega arith) g.path g.same
      (Got v w t)
      (moves (word_at (k.node q)) (suc p) q q g.regs' w t [] (Got v w t) lt
      (ap (λ i. acted ir i f (suc p) g.regs' below w t) st1)
      (stays (word_at (k.node q)) q g.regs' w t v g.value))

  -- the two instructions that give 1 and jump over the one that gives 0
  pub one_gives : (p : ℕ) (regs : List ℤ) (w : PoolMap) (t : ℕ)
      → At ir f (suc p) (Const (k.node (suc (suc (suc (suc p))))) (pos 1))
      → At ir f (suc (suc p)) (Jump (suc (suc (suc (suc p)))))
      → Gives (word_at (k.node (suc (suc (suc (suc p)))))) (suc p) (suc (suc (suc (suc p)))) regs w
      t [] (Got (pos 1) w t)
  one_gives p regs w t st st1 =
      let q : ℕ = suc (suc (suc (suc p))) in
      let g = puts (suc p) q (pos 1) regs w t (omega arith)
      (ap (λ i. acted ir i f (suc p) regs below w t) st) in
      record {
        regs' = g.regs';
        path = path_then [] [] g.path (path_more (omega arith) (path_step (suc (suc p)) t
            (ap (λ i. acted ir i f (suc (suc p)) g.regs' below w t) st1)));
        same = g.same;
        value = g.value;
      }

  pub zero_gives : (p : ℕ) (regs : List ℤ) (w : PoolMap) (t : ℕ)
      → At ir f p (Const (k.node (suc p)) (pos 0))
      → Gives (word_at (k.node (suc p))) p (suc p) regs w t [] (Got (pos 0) w t)
  zero_gives p regs w t st = puts p (suc p) (pos 0) regs w t (omega arith)
      (ap (λ i. acted ir i f p regs below w t) st)

  -- 1 if a register isn't 0, else 0
  pub outcome_gives : (p r : ℕ) (y : ℤ) (rest : List Instruction) (regs : List ℤ) (w : PoolMap)
      (t : ℕ) → register_at regs r ≡ y
      → HasAt ir f p (truth_code r (k.node (suc (suc (suc (suc p))))) p ++ rest)
      → Gives (word_at (k.node (suc (suc (suc (suc p)))))) p (suc (suc (suc (suc p)))) regs w t []
      (Got (at_zero y (pos 0) (pos 1)) w t)
  outcome_gives p r (pos zero) rest regs w t e h =
      let off : ℕ = suc (suc (suc p)) in
      moves (word_at (k.node (suc off))) p off (suc off) regs w t [] (Got (pos 0) w t) (omega arith)
      (at_branch p off r (pos 0) regs w t h.0 e) (zero_gives off regs w t h.1.1.1.0)
  outcome_gives p r (pos (suc n)) rest regs w t e h =
      let off : ℕ = suc (suc (suc p)) in
      moves (word_at (k.node (suc off))) p (suc p) (suc off) regs w t [] (Got (pos 1) w t)
      (omega arith) (at_branch p off r (pos (suc n)) regs w t h.0 e)
      (one_gives p regs w t h.1.0 h.1.1.0)
  outcome_gives p r (negsuc n) rest regs w t e h =
      let off : ℕ = suc (suc (suc p)) in
      moves (word_at (k.node (suc off))) p (suc p) (suc off) regs w t [] (Got (pos 1) w t)
      (omega arith) (at_branch p off r (negsuc n) regs w t h.0 e)
      (one_gives p regs w t h.1.0 h.1.1.0)

  pub call_gives : (p : ℕ) (regs : List ℤ) (w : PoolMap) (t : ℕ) (done : List Access) (o : Out ℤ)
      → stepped ir (Here f p regs below w (suc t)) ≡ silent (Goes (Here f (suc p) regs below w t))
      → Called ir m f below (k.node (suc (suc p))) (suc p) regs w t done o
      → Gives (word_at (k.node (suc (suc p)))) p (suc (suc p)) regs w (suc t) done o
  call_gives p regs w t done (Got v w' t') st c = record {
    regs' = put_register regs (k.node (suc (suc p))) v;
    path = path_tick p (suc (suc p)) (omega arith) st c;
    same = put_same p (suc (suc p)) v regs (omega arith);
    value = at_put_same regs (k.node (suc (suc p))) v;
  }
  call_gives p regs w t done (Stops trap) st c = path_tick p (suc (suc p)) (omega arith) st c

  pub tick_gives : (calls : Calls) (seen : CallAccesses) (place p g : ℕ) (fn : FunctionTree)
      (rs : List ℕ) (vs regs : List ℤ) (w : PoolMap) (t : ℕ)
      → CallsRun k.tables ir m f below calls seen
      → slice_get k.tables.functions g ≡ Some fn → words_at rs regs vs → At ir f p Tick
      → At ir f (suc p) (Call (k.node (suc (suc p))) g rs)
      → Gives (word_at (k.node (suc (suc p)))) p (suc (suc p)) regs w t
      (tick t [] (λ t. seen fn vs w t))
      (tick t (Stops (placed_trap trap.Steps place)) (λ t. calls place fn vs w t))
  tick_gives calls seen place p g fn rs vs regs w zero run is args st st1 =
      path_more (omega arith) (path_ends p zero (ap (λ i. acted ir i f p regs below w zero) st))
  tick_gives calls seen place p g fn rs vs regs w (suc t) run is args st st1 =
      let to : ℕ = k.node (suc (suc p)) in
      let c = run place to g fn rs (suc p) regs w t is st1 in
      call_gives p regs w t (seen fn vs w t) (calls place fn vs w t)
      (ap (λ i. acted ir i f p regs below w (suc t)) st)
      (subst (λ l. Called ir m f below to (suc p) regs w t (seen fn l w t) (calls place fn l w t))
      args c)

  -- an operator and its right side, after its left side; the conditions on the right side hold at
  -- every later place
  pub form_runs : (form : Form) (place : ℕ) (code : ℕ → List Instruction) (end reg : ℕ → ℕ)
      (b : PoolMap → ℕ → Out ℤ) (right : List Access) (on p : ℕ) (x : ℤ) (rest : List Instruction)
      (regs : List ℤ) (w : PoolMap) (t : ℕ)
      → ((z : ℕ) → z ≤ end z) → ((z : ℕ) (r : List Instruction) → HasAt ir f z (code z ++ r)
      → HasAt ir f (end z) r)
      → ((z : ℕ) (r : List Instruction) → p ≤ z → HasAt ir f z (code z ++ r)
      → Gives (word_at (reg (end z))) z (end z) regs w t right (b w t))
      → on ≤ k.node p → register_at regs on ≡ x
      → HasAt ir f p (form_code form k.node code end reg on p ++ rest)
      → Gives (word_at (k.node (form_end form end p))) p (form_end form end p) regs w t
      (form_accesses form x right) (form_value form place x b w t)
  form_runs Both place code end reg b right on p x rest regs w t le has runs small is h =
      let q : ℕ = end (suc p) in
      let off : ℕ = suc (suc (suc q)) in
      let to : ℕ = k.node (suc off) in
      let leq : suc p ≤ q = le (suc p) in
      let hb : HasAt ir f (suc p) (code (suc p) ++ (truth_code (reg q) to q ++ rest)) =
      simp append_assoc at h.1 in
      let hq : HasAt ir f q (truth_code (reg q) to q ++ rest) =
      has (suc p) (truth_code (reg q) to q ++ rest) hb in
      branch_gives (word_at to) p off (suc off) x regs w t [] (Got (pos 0) w t) right
      (then_do (b w t) (λ y w t. Got (at_zero y (pos 0) (pos 1)) w t)) (omega (arith, leq))
      (at_branch p off on x regs w t h.0 is)
      (zero_gives off regs w t hq.1.1.1.0)
      (gives_quiet (word_at (reg q)) (word_at to) (suc p) q (suc off) regs w t right (b w t)
      (λ y w t. Got (at_zero y (pos 0) (pos 1)) w t) leq (omega arith)
      (runs (suc p) (truth_code (reg q) to q ++ rest) (omega arith) hb)
      (λ y w1 t1 regs1 s1 e1. outcome_gives q (reg q) y rest regs1 w1 t1 e1 hq))
  form_runs Either place code end reg b right on p x rest regs w t le has runs small is h =
      let p2 : ℕ = suc (suc p) in
      let q : ℕ = end p2 in
      let off : ℕ = suc (suc (suc q)) in
      let to : ℕ = k.node (suc off) in
      let leq : p2 ≤ q = le p2 in
      let hb : HasAt ir f p2 (code p2 ++ (truth_code (reg q) to q ++ rest)) =
      simp append_assoc at h.1.1 in
      let hq : HasAt ir f q (truth_code (reg q) to q ++ rest) =
      has p2 (truth_code (reg q) to q ++ rest) hb in
      branch_gives (word_at to) p p2 (suc off) x regs w t right
      (then_do (b w t) (λ y w t. Got (at_zero y (pos 0) (pos 1)) w t)) [] (Got (pos 1) w t)
      (omega arith) (at_branch p p2 on x regs w t h.0 is)
      (gives_quiet (word_at (reg q)) (word_at to) p2 q (suc off) regs w t right (b w t)
      (λ y w t. Got (at_zero y (pos 0) (pos 1)) w t) leq (omega arith)
      (runs p2 (truth_code (reg q) to q ++ rest) (omega arith) hb)
      (λ y w1 t1 regs1 s1 e1. outcome_gives q (reg q) y rest regs1 w1 t1 e1 hq))
      (moves (word_at to) (suc p) (suc q) (suc off) regs w t [] (Got (pos 1) w t)
      (omega (arith, leq))
      (ap (λ i. acted ir i f (suc p) regs below w t) h.1.0)
      (one_gives q regs w t hq.1.0 hq.1.1.0))
  form_runs (Direct o) place code end reg b right on p x rest regs w t le has runs small is h =
      let q : ℕ = end p in
      let to : ℕ = k.node (suc q) in
      let i : Instruction = Bin o to on (reg q) in
      let hb : HasAt ir f p (code p ++ i ∷ rest) = simp append_assoc at h in
      let hq : HasAt ir f q (i ∷ rest) = has p (i ∷ rest) hb in
      gives_quiet (word_at (reg q)) (word_at to) p q (suc q) regs w t right (b w t)
      (λ y w t. or_trap (word_of o x y) (placed_trap trap.Divide place) w t) (le p) (omega arith)
      (runs p (i ∷ rest) (omega arith) hb)
      (λ y w1 t1 regs1 s1 e1. let go : ℤ → Move = λ v.
      Goes (Here f (suc q) (put_register regs1 to v) below w1 t1) in
      last_gives q place (word_of o x y) regs1 w1 t1
      (ap (λ i. acted ir i f q regs1 below w1 t1) hq.0
      ∙ ap (λ u. silent (with_word (word_of o u (register_at regs1 (reg q))) go)) (s1 on small ∙ is)
      ∙ ap (λ u. silent (with_word (word_of o x u) go)) e1))
  form_runs (Exchanged o) place code end reg b right on p x rest regs w t le has runs small is h =
      let q : ℕ = end p in
      let to : ℕ = k.node (suc q) in
      let i : Instruction = Bin o to (reg q) on in
      let hb : HasAt ir f p (code p ++ i ∷ rest) = simp append_assoc at h in
      let hq : HasAt ir f q (i ∷ rest) = has p (i ∷ rest) hb in
      gives_quiet (word_at (reg q)) (word_at to) p q (suc q) regs w t right (b w t)
      (λ y w t. or_trap (word_of o y x) (placed_trap trap.Divide place) w t) (le p) (omega arith)
      (runs p (i ∷ rest) (omega arith) hb)
      (λ y w1 t1 regs1 s1 e1. let go : ℤ → Move = λ v.
      Goes (Here f (suc q) (put_register regs1 to v) below w1 t1) in
      last_gives q place (word_of o y x) regs1 w1 t1
      (ap (λ i. acted ir i f q regs1 below w1 t1) hq.0
      ∙ ap (λ u. silent (with_word (word_of o (register_at regs1 (reg q)) u) go)) (s1 on small ∙ is)
      ∙ ap (λ u. silent (with_word (word_of o u x) go)) e1))
