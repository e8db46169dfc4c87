-- The code of a function, and of all functions, does what the trees do, if their names fit.
use Rattle.std.proofs.Common.{◌≡◌, ℕ, zero, suc, ◌+◌, ◌*◌, ◌-◌, ◌<◌, ◌≤◌, ℤ, pos, Bool, true, false}
use Rattle.std.proofs.Common.{List, [], ◌∷◌, ◌++◌, map, length, refl, sym, ap, ◌∙◌, subst, arith}
use Rattle.std.proofs.Common.{rules, append-nil, ⊎_elim}
use Rattle.std.specs.Prelude.{Some, if◌then◌else◌, slice_get, slice_index_or, drop, option_map}
use Rattle.std.specs.Prelude.{option_and_then, nat_lt}
use Rattle.std.proofs.lemmas.Bool.{cases_lt}
use Rattle.std.proofs.lemmas.Option.{slice_get-map, slice_get_within, same_Some}
use Rattle.c_tree.specs.StmtTree.{Statements}
use Rattle.c_tree.specs.ItemTree.{FunctionTree, ParameterTree}
use Rattle.c_tree.specs.Program.{Program, tree_of}
use Rattle.c_types.specs.Tables.{Tables, tables_of, declared_type}
use Rattle.pool_map.specs.PoolMap.{PoolMap}
use Rattle.pool_map.specs.declared.trap.TrapKind.TheVariants as trap
use Rattle.c_meaning.specs.Locals.{Local, bound, local_declared as with_declared}
use Rattle.c_meaning.specs.Meaning.{Out, Got, Stops, StmtEnd, Next, Broke, Again, Gave, Traps}
use Rattle.c_meaning.specs.Meaning.{Calls, given, ends_of, function_value, calls_of}
use Rattle.c_meaning.specs.Accesses.{Access, CallAccesses, statement_accesses, function_accesses}
use Rattle.c_meaning.specs.Accesses.{call_accesses}
use Rattle.ir.specs.declared.instruction.Instruction.{Instruction}
use Rattle.ir.specs.declared.instruction.Instruction.TheVariants.{Const, Copy, Return}
use Rattle.ir.specs.declared.function.IrFunction.{IrFunction}
use Rattle.ir.specs.declared.function.Ir.{Ir}
use Rattle.ir.specs.Places.{instruction_at}
use Rattle.lower.specs.Assigned.{is_assigned}
use Rattle.lower.specs.Names.{Variables, variable_declared}
use Rattle.lower.specs.Lowers.{Context, statements_end, statements_code}
use Rattle.lower.specs.Program.{parameters_end, parameters_code, variables_after_parameters}
use Rattle.lower.specs.Program.{no_variables, function_code, context_at, lowered_function, lowered}
use Rattle.code_meaning.specs.Code as code
use Rattle.code_meaning.specs.Code.{Frame, frame, CodeState, Here, Ended, Trapped, Goes, Ends}
use Rattle.code_meaning.specs.Code.{gives, register_at, put_register, exec, opens, IsOver}
use Rattle.code_meaning.specs.Code.{code_start}
use Rattle.code_meaning.proofs.More.{end, done as same_deeds}
use Rattle.code_meaning.proofs.Registers.{at_put_same}
use Rattle.code_meaning.specs.Whole.{whole}
use Rattle.lower_law.specs.Law.{call_end, KeepsMeaning}
use Rattle.lower_law.specs.Accesses.{access_of, KeepsAccesses}
use Rattle.lower_law.proofs.runs.Paths.{Path, path_then, path_more, path_on, path_none, path_step}
use Rattle.lower_law.proofs.runs.Paths.{path_ends, path_first, acted, stepped, silent, seen_in}
use Rattle.lower_law.proofs.runs.Paths.{at-put_other}
use Rattle.lower_law.proofs.runs.Has.{At, HasAt, statements_has}
use Rattle.lower_law.proofs.locals.Locals.{Entry, Agrees, Holds, below_more}
use Rattle.lower_law.proofs.locals.Scopes.{Differs, Over, declared_held, differs_below}
use Rattle.lower_law.proofs.names.StmtFits.{StatementsFit}
use Rattle.lower_law.proofs.runs.ExprSteps.{Called, CallsRun, grows}
use Rattle.lower_law.proofs.runs.StmtSteps.{Runs}
use Rattle.lower_law.proofs.runs.SimpleRuns.{Scoped}
use Rattle.lower_law.proofs.runs.StmtRuns.{statements_run}

abbrev pub parameter_entry : Tables → ParameterTree → ℕ → Entry
parameter_entry t x r = record { name = x.name.text; ty = declared_type t x.ty; register = r }

abbrev pub parameter_entries : Context → Statements → (n : ℕ) → List ParameterTree → ℕ → List Entry
    → List Entry
parameter_entries k body n [] p es = es
parameter_entries k body n (x ∷ xs) p es =
    if is_assigned x.name.text body
    then parameter_entries k body (suc n) xs (suc p)
    (parameter_entry k.tables x (k.node (suc p)) ∷ es)
    else parameter_entries k body (suc n) xs p (parameter_entry k.tables x n ∷ es)

-- each parameter's name is new, in any register
abbrev pub ParametersFit : Tables → List ParameterTree → Variables → List Entry → Type 0
ParametersFit t [] v es = Unit {0}
ParametersFit t (x ∷ xs) v es =
    (r : ℕ) → Agrees (variable_declared x.name.text (declared_type t x.ty) r v)
    (parameter_entry t x r ∷ es) × ParametersFit t xs
    (variable_declared x.name.text (declared_type t x.ty) r v) (parameter_entry t x r ∷ es)

-- the names of a function fit
pub record FunctionFits (k : Context) (ir : Ir) (fn : FunctionTree) : Type 0 where
  pub parameters : ParametersFit k.tables fn.parameters no_variables []
  pub body : StatementsFit k ir (variables_after_parameters k fn.body 0 fn.parameters 0
      no_variables) (parameter_entries k fn.body 0 fn.parameters 0 []) fn.body
      (parameters_end fn.body fn.parameters 0)

head_is : (vs : List ℤ) → register_at vs 0 ≡ slice_index_or vs 0 (pos 0)
head_is [] = refl
head_is (v ∷ vs) = refl

tail_is : (vs : List ℤ) (i : ℕ) → register_at (drop 1 vs) i ≡ register_at vs (suc i)
tail_is [] i = refl
tail_is (v ∷ vs) i = refl

module _ (ir : Ir) (m f : ℕ) (k : Context) (rises : (p q : ℕ) → p < q → k.node p < k.node q)
    (below : List Frame) (calls : Calls) (seen : CallAccesses)
    (run : CallsRun k.tables ir m f below calls seen) (total : ℕ) (enough : total ≤ k.node 0) where
  -- the arguments from n on are in their registers
  abbrev ArgsAt : ℕ → List ℤ → List ℤ → Type 0
  ArgsAt n vs regs = (i : ℕ) → n + i < total → register_at regs (n + i) ≡ register_at vs i

  -- no entry has the register of a later parameter
  abbrev FreeFrom : ℕ → List Entry → Type 0
  FreeFrom n es = (r : ℕ) → n ≤ r → r < total → Differs r es

  record Bound (p q : ℕ) (rest : List Instruction) (v : Variables) (es : List Entry)
      (ls : List Local) (regs : List ℤ) (w : PoolMap) (t : ℕ) : Type 0 where
    pub regs' : List ℤ
    pub path : Path ir m (Here f p regs below w t) (Goes (Here f q regs' below w t)) p t q t []
    pub scoped : Scoped ir m f k rises below calls seen run v es q
    pub holds : Holds es ls regs'
    pub has : HasAt ir f q rest

  parameters_run : (body : Statements) (xs : List ParameterTree) (n p : ℕ) (rest : List Instruction)
      (v : Variables) (es : List Entry) (ls : List Local) (vs regs : List ℤ) (w : PoolMap) (t : ℕ)
      → n + length xs ≤ total → ParametersFit k.tables xs v es
      → Scoped ir m f k rises below calls seen run v es p → FreeFrom n es → ArgsAt n vs regs
      → Holds es ls regs → HasAt ir f p (parameters_code k body n xs p ++ rest)
      → Bound p (parameters_end body xs p) rest (variables_after_parameters k body n xs p v)
      (parameter_entries k body n xs p es) (bound k.tables xs vs ls) regs w t
  parameters_run body [] n p rest v es ls vs regs w t few fits s free args held h = record {
    regs' = regs;
    path = path_none (Here f p regs below w t) p t;
    scoped = s;
    holds = held;
    has = h;
  }
  parameters_run body (x ∷ xs) n p rest v es ls vs regs w t few fits s free args held h =
      by_test (is_assigned x.name.text body)
      (λ p1 r regs1 s1 free1 args1 held1 h1.
      parameters_run body xs (suc n) p1 rest
      (variable_declared x.name.text (declared_type k.tables x.ty) r v)
      (parameter_entry k.tables x r ∷ es)
      (with_declared x.name.text (declared_type k.tables x.ty) (slice_index_or vs 0 (pos 0)) ls)
      (drop 1 vs) regs1 w t (omega (arith, few)) (fits r).1 s1 free1 args1 held1 h1)
      h
    where
      arg_is : register_at regs n ≡ slice_index_or vs 0 (pos 0)
      arg_is = let e : n + 0 ≡ n = omega arith in
          ap (register_at regs) (sym e) ∙ args 0 (omega (arith, few)) ∙ head_is vs

      low : n < k.node p
      low = let up : k.node 0 ≤ k.node p = grows ir m f k rises below 0 p (omega arith) in
          omega (arith, few, enough, up)

      later : (i : ℕ) → suc n + i ≡ n + suc i
      later i = omega arith

      by_test : (b : Bool)
          → ((p1 r : ℕ) (regs1 : List ℤ)
          → Scoped ir m f k rises below calls seen run
          (variable_declared x.name.text (declared_type k.tables x.ty) r v)
          (parameter_entry k.tables x r ∷ es) p1
          → FreeFrom (suc n) (parameter_entry k.tables x r ∷ es) → ArgsAt (suc n) (drop 1 vs) regs1
          → Holds (parameter_entry k.tables x r ∷ es)
          (with_declared x.name.text (declared_type k.tables x.ty) (slice_index_or vs 0 (pos 0))
          ls) regs1 → HasAt ir f p1 (parameters_code k body (suc n) xs p1 ++ rest)
          → Bound p1 (parameters_end body xs p1) rest
          (variables_after_parameters k body (suc n) xs p1
          (variable_declared x.name.text (declared_type k.tables x.ty) r v))
          (parameter_entries k body (suc n) xs p1 (parameter_entry k.tables x r ∷ es))
          (bound k.tables xs (drop 1 vs)
          (with_declared x.name.text (declared_type k.tables x.ty) (slice_index_or vs 0 (pos 0))
          ls)) regs1 w t)
          → HasAt ir f p ((if b then Copy (k.node (suc p)) n ∷ parameters_code k body (suc n) xs
          (suc p) else parameters_code k body (suc n) xs p) ++ rest)
          → Bound p (parameters_end body xs (if b then suc p else p)) rest
          (if b then variables_after_parameters k body (suc n) xs (suc p)
          (variable_declared x.name.text (declared_type k.tables x.ty) (k.node (suc p)) v)
          else variables_after_parameters k body (suc n) xs p
          (variable_declared x.name.text (declared_type k.tables x.ty) n v))
          (if b then parameter_entries k body (suc n) xs (suc p)
          (parameter_entry k.tables x (k.node (suc p)) ∷ es)
          else parameter_entries k body (suc n) xs p (parameter_entry k.tables x n ∷ es))
          (bound k.tables xs (drop 1 vs)
          (with_declared x.name.text (declared_type k.tables x.ty) (slice_index_or vs 0 (pos 0))
          ls)) regs w t
      by_test true go h =
          let to : ℕ = k.node (suc p) in
          let up : k.node p < k.node (suc p) = rises p (suc p) (omega arith) in
          let s1 : Scoped ir m f k rises below calls seen run
          (variable_declared x.name.text (declared_type k.tables x.ty) to v)
          (parameter_entry k.tables x to ∷ es) (suc p) = record {
            agrees = (fits to).0;
            apart = (differs_below (k.node p) to es s.under up, s.apart);
            under = (same_le to, below_more (k.node p) to es (omega (arith, up)) s.under);
          } in
          let b = go (suc p) to (put_register regs to (slice_index_or vs 0 (pos 0))) s1
          (λ r le lt. (
            (λ is. let same : r ≡ to = is in
                absurd (omega (arith, same, lt, enough, up, node_le))),
            free r (omega (arith, le)) lt,
          ))
          (λ i lt. ap (register_at (put_register regs to (slice_index_or vs 0 (pos 0)))) (later i)
          ∙ at-put_other regs to (n + suc i) (slice_index_or vs 0 (pos 0))
          (λ is. let same : to ≡ n + suc i = is in
          absurd (omega (arith, same, lt, enough, up, node_le)))
          ∙ args (suc i) (omega (arith, lt)) ∙ sym (tail_is vs i))
          (declared_held (k.node p) to x.name.text (declared_type k.tables x.ty)
          (slice_index_or vs 0 (pos 0)) es ls regs s.under up held) h.1 in
          record {
            regs' = b.regs';
            path = path_then [] [] (path_step p t (ap (λ i. acted ir i f p regs below w t) h.0
                ∙ ap (λ u. silent (Goes (Here f (suc p) (put_register regs to u) below w t)))
                arg_is)) b.path;
            scoped = b.scoped;
            holds = b.holds;
            has = b.has;
          }
        where
          same_le : (a : ℕ) → a ≤ a
          same_le a = omega arith

          node_le : k.node 0 ≤ k.node p
          node_le = grows ir m f k rises below 0 p (omega arith)
      by_test false go h =
          go p n regs
          (record {
            agrees = (fits n).0;
            apart = (
              free n (omega arith) (omega (arith, few)),
              s.apart,
            );
            under = (omega (arith, low), s.under);
          })
          (λ r le lt. (
            (λ is. let same : r ≡ n = is in absurd (omega (arith, same, le))),
            free r (omega (arith, le)) lt,
          ))
          (λ i lt. ap (register_at regs) (later i) ∙ args (suc i) (omega (arith, lt))
          ∙ sym (tail_is vs i))
          (record { name = refl; ty = refl; value = arg_is }, held) h

-- from the entry of a function to its return
abbrev pub Returns : Ir → (m f q : ℕ) → List Frame → List ℤ → PoolMap → ℕ → List Access → Out ℤ
    → Type 0
Returns ir m f q below regs w t done (Got v w' t') =
    Path ir m (Here f 0 regs below w t) (gives below v w' t') 0 t q t' done
Returns ir m f q below regs w t done (Stops stop) =
    Path ir m (Here f 0 regs below w t) (Ends (Trapped stop.kind)) 0 t q 0 done

more_returns : (ir : Ir) (m f q q' : ℕ) (below : List Frame) (regs : List ℤ) (w : PoolMap) (t : ℕ)
    (done : List Access) (o : Out ℤ) → q ≤ q' → Returns ir m f q below regs w t done o
    → Returns ir m f q' below regs w t done o
more_returns ir m f q q' below regs w t done (Got v w' t') le r = path_more le r
more_returns ir m f q q' below regs w t done (Stops k) le r = path_more le r

module _ (ir : Ir) (m f : ℕ) (k : Context) (rises : (p q : ℕ) → p < q → k.node p < k.node q)
    (below : List Frame) (calls : Calls) (seen : CallAccesses)
    (run : CallsRun k.tables ir m f below calls seen) where
  -- the last two instructions return 0
  ends_zero : (q : ℕ) (regs : List ℤ) (w : PoolMap) (t : ℕ)
      → At ir f q (Const (k.node (suc q)) (pos 0)) → At ir f (suc q) (Return (k.node (suc q)))
      → Path ir m (Here f q regs below w t) (gives below (pos 0) w t) q t (suc (suc q)) t []
  ends_zero q regs w t st st1 =
      let to : ℕ = k.node (suc q) in
      path_then [] [] (path_step q t (ap (λ i. acted ir i f q regs below w t) st))
      (path_step (suc q) t (ap (λ i. acted ir i f (suc q) (put_register regs to (pos 0)) below w t)
      st1 ∙ ap (λ v. silent (gives below v w t)) (at_put_same regs to (pos 0))))

  returns_from : (p q : ℕ) (N L : List Local → List ℤ → Type 0) (regs0 regs : List ℤ) (w : PoolMap)
      (t : ℕ) (done : List Access) (o : StmtEnd) → Path ir m (Here f 0 regs0 below w t)
      (Goes (Here f p regs below w t)) 0
      t p t [] → At ir f q (Const (k.node (suc q)) (pos 0))
      → At ir f (suc q) (Return (k.node (suc q)))
      → Runs ir m f k rises below calls seen run q q q p p q N L regs w t done o
      → Returns ir m f (suc (suc q)) below regs0 w t done (given o)
  returns_from p q N L regs0 regs w t done (Next ls w' t') pre st st1 r =
      path_then [] done pre (path_on done r.path (ends_zero q r.regs' w' t' st st1))
  returns_from p q N L regs0 regs w t done (Broke ls w' t') pre st st1 r =
      path_then [] done pre (path_on done r.path (ends_zero q r.regs' w' t' st st1))
  returns_from p q N L regs0 regs w t done (Again ls w' t') pre st st1 r =
      path_then [] done pre (path_on done r.path (ends_zero q r.regs' w' t' st st1))
  returns_from p q N L regs0 regs w t done (Gave v w' t') pre st st1 r =
      path_then [] done pre (path_more (omega arith) r)
  returns_from p q N L regs0 regs w t done (Traps trap) pre st st1 r =
      path_then [] done pre (path_more (omega arith) r)

-- the instructions of a function from p on
has_from : (ir : Ir) (f : ℕ) (is : List Instruction) (p : ℕ)
    → ((j : ℕ) → instruction_at ir.functions f (p + j) ≡ slice_get is j) → HasAt ir f p is
has_from ir f [] p h = tt
has_from ir f (i ∷ is) p h =
    let e : p + 0 ≡ p = omega arith in (
      subst (λ n. instruction_at ir.functions f n ≡ Some i) e (h 0),
      has_from ir f is (suc p) (λ j. let e1 : suc p + j ≡ p + suc j = omega arith in
          ap (instruction_at ir.functions f) e1 ∙ h (suc j)),
    )

node_less : (n p q : ℕ) → p < q → n + p < n + q
node_less n p q lt = omega (arith, lt)

self_le : (n : ℕ) → n ≤ n + 0
self_le n = omega arith

-- a run that ends within j steps
past : (ir : Ir) (j : ℕ) (c : CodeState) (n : ℕ) (e : code.CodeEnd)
    → ((i : ℕ) → exec ir (n + i) c ≡ e) → n ≤ j → exec ir j c ≡ e
past ir j c n e comes le = let is : n + (j - n) ≡ j = omega (arith, le) in
    subst (λ i. exec ir i c ≡ e) is (comes (j - n))

past_sees : (ir : Ir) (j : ℕ) (c : CodeState) (n : ℕ) (done : List Access)
    → ((i : ℕ) → seen_in ir (n + i) c ≡ done ++ []) → n ≤ j → seen_in ir j c ≡ done
past_sees ir j c n done sees le = let is : n + (j - n) ≡ j = omega (arith, le) in
    subst (λ i. seen_in ir i c ≡ done) is (sees (j - n) ∙ append-nil done)

limit_reached : (a : ℕ) → 0 + suc a ≡ 256 → nat_lt (suc a) 256 ≡ false
limit_reached a e = let same : suc a ≡ 256 = omega (arith, e) in rw same refl

limit_ahead : (room a : ℕ) → suc room + suc a ≡ 256 → nat_lt (suc a) 256 ≡ true
limit_ahead room a e = let lt : suc a < 256 = omega (arith, e) in search (rules)

-- every function is in the code, and its names fit
pub record ProgramFits (t : Tables) (tree : Program) (ir : Ir) : Type 0 where
  pub stands : (g : ℕ) (fn : FunctionTree) → slice_get t.functions g ≡ Some fn
      → slice_get ir.functions g ≡ Some (lowered_function t tree fn)
  pub fits : (g : ℕ) (fn : FunctionTree) → slice_get t.functions g ≡ Some fn
      → FunctionFits (context_at t tree (length fn.parameters)) ir fn

module _ (t : Tables) (tree : Program) (ir : Ir) (m : ℕ) (fits : ProgramFits t tree ir)
    (short : (g : ℕ) (u : IrFunction) → slice_get ir.functions g ≡ Some u → length u.code ≤ m) where
  part_runs : (room g : ℕ) (below : List Frame) (fn : FunctionTree)
      → slice_get t.functions g ≡ Some fn
      → CallsRun t ir m g below (calls_of t room) (call_accesses t room)
      → (args : List ℤ) (w : PoolMap) (n : ℕ) → Returns ir m g m below args w n
      (function_accesses t (calls_of t room) (call_accesses t room) fn args w n)
      (function_value t (calls_of t room) fn args w n)
  part_runs room g below fn is run args w n =
      let total : ℕ = length fn.parameters in
      let k : Context = context_at t tree total in
      let calls : Calls = calls_of t room in
      let seen : CallAccesses = call_accesses t room in
      let rises : (p q : ℕ) → p < q → k.node p < k.node q = λ p q lt. node_less total p q lt in
      let u : IrFunction = lowered_function t tree fn in
      let stands : slice_get ir.functions g ≡ Some u = fits.stands g fn is in
      let named : FunctionFits k ir fn = fits.fits g fn is in
      let fetched : (j : ℕ) → instruction_at ir.functions g j ≡ slice_get u.code j =
      λ j. ap (option_and_then (λ (x : IrFunction). slice_get x.code j)) stands in
      let has : HasAt ir g 0 (function_code k fn) =
      has_from ir g (function_code k fn) 0 (λ j. let e : 0 + j ≡ j = omega arith in
      ap (instruction_at ir.functions g) e ∙ fetched j) in
      let p : ℕ = parameters_end fn.body fn.parameters 0 in
      let q : ℕ = statements_end fn.body p in
      let tail : List Instruction = Const (k.node (suc q)) (pos 0) ∷ Return (k.node (suc q)) ∷ [] in
      let v : Variables = variables_after_parameters k fn.body 0 fn.parameters 0 no_variables in
      let es : List Entry = parameter_entries k fn.body 0 fn.parameters 0 [] in
      let ls : List Local = bound t fn.parameters args [] in
      let b = parameters_run ir m g k rises below calls seen run total (self_le total) fn.body
      fn.parameters 0 0 (statements_code k v fn.body q q p ++ tail) no_variables [] [] args args w
      n (few total) named.parameters
      (record { agrees = λ name. (refl, refl); apart = tt; under = tt }) (λ r le lt. tt)
      (λ i lt. let e : 0 + i ≡ i = omega arith in ap (register_at args) e) tt has in
      let within : (j : ℕ) (i : Instruction) → At ir g j i → j < m =
      λ j i e. let a : j < length u.code = slice_get_within u.code j i (sym (fetched j) ∙ e) in
      let c : length u.code ≤ m = short g u stands in omega (arith, a, c) in
      let ending : HasAt ir g q tail = statements_has ir g k v fn.body q q p tail b.has in
      let r = statements_run ir m g k rises below calls seen run within v es fn.body q q p tail ls
      b.regs' w n b.scoped named.body b.has b.holds in
      more_returns ir m g (suc (suc q)) m below args w n
      (function_accesses t calls seen fn args w n) (function_value t calls fn args w n)
      (within (suc q) (Return (k.node (suc q))) ending.1.0)
      (returns_from ir m g k rises below calls seen run p q (Over es) (Over es) args b.regs' w n
      (statement_accesses t calls seen fn.body ls w n) (ends_of t calls fn.body ls w n) b.path
      ending.0 ending.1.0 r)
    where
      few : (total : ℕ) → 0 + total ≤ total
      few total = omega arith

  -- a call from its instruction on
  entered_at : (f g to p : ℕ) (below : List Frame) (regs args : List ℤ) (w : PoolMap) (n : ℕ)
      (done : List Access) (o : Out ℤ) → stepped ir (Here f p regs below w n)
      ≡ silent (Goes (Here g 0 args (frame f (suc p) regs to ∷ below) w n))
      → Returns ir m g m (frame f (suc p) regs to ∷ below) args w n done o
      → Called ir m f below to p regs w n done o
  entered_at f g to p below regs args w n done (Got v w' t') st r =
      path_first 0 (suc m) (omega arith) st r
  entered_at f g to p below regs args w n done (Stops k) st r =
      path_first 0 (suc m) (omega arith) st r

  opened : (f g to p : ℕ) (below : List Frame) (regs args : List ℤ) (w : PoolMap) (n : ℕ)
      (u : IrFunction) (b : Bool) → stepped ir (Here f p regs below w n)
      ≡ silent (opens (slice_get ir.functions g) g args (frame f (suc p) regs to ∷ below) w n)
      → slice_get ir.functions g ≡ Some u → nat_lt (suc (length below)) 256 ≡ b
      → stepped ir (Here f p regs below w n)
      ≡ silent (if b then Goes (Here g 0 args (frame f (suc p) regs to ∷ below) w n)
      else Ends (Trapped trap.Depth))
  opened f g to p below regs args w n u b st is lt =
      st ∙ ap (λ o. silent (opens o g args (frame f (suc p) regs to ∷ below) w n)) is
      ∙ ap (λ c. silent (if c then Goes (Here g 0 args (frame f (suc p) regs to ∷ below) w n)
      else Ends (Trapped trap.Depth))) lt

  calls_run : (room f : ℕ) (below : List Frame) → room + suc (length below) ≡ 256
      → CallsRun t ir m f below (calls_of t room) (call_accesses t room)
  calls_run zero f below e place to g fn rs p regs w n is st =
      path_more (omega arith) (path_ends 0 n
      (opened f g to p below regs (map (register_at regs) rs) w n (lowered_function t tree fn)
      false (ap (λ i. acted ir i f p regs below w n) st) (fits.stands g fn is)
      (limit_reached (length below) e)))
  calls_run (suc room) f below e place to g fn rs p regs w n is st =
      let args : List ℤ = map (register_at regs) rs in
      let above : List Frame = frame f (suc p) regs to ∷ below in
      entered_at f g to p below regs args w n
      (function_accesses t (calls_of t room) (call_accesses t room) fn args w n)
      (function_value t (calls_of t room) fn args w n)
      (opened f g to p below regs args w n (lowered_function t tree fn) true
      (ap (λ i. acted ir i f p regs below w n) st) (fits.stands g fn is)
      (limit_ahead room (length below) e))
      (part_runs room g above fn is (calls_run room g above (one_less room (length below) e)) args w
      n)
    where
      one_less : (room a : ℕ) → suc room + suc a ≡ 256 → room + suc (suc a) ≡ 256
      one_less room a e = omega (arith, e)

  ends_by : (f : ℕ) (args : List ℤ) (w : PoolMap) (n : ℕ) (done : List Access) (o : Out ℤ)
      → Returns ir m f m [] args w n done o
      → (exec ir ((n + 1) * m) (code_start f args w n) ≡ call_end o)
      × (seen_in ir ((n + 1) * m) (code_start f args w n) ≡ done)
  ends_by f args w n done (Got v w' t') r = (
    past ir ((n + 1) * m) (code_start f args w n) r.n (Ended w' v t') r.comes
        (omega (arith, r.cost)),
    past_sees ir ((n + 1) * m) (code_start f args w n) r.n done r.sees (omega (arith, r.cost)),
  )
  ends_by f args w n done (Stops stop) r = (
    past ir ((n + 1) * m) (code_start f args w n) r.n (Trapped stop.kind) r.comes
        (omega (arith, r.cost)),
    past_sees ir ((n + 1) * m) (code_start f args w n) r.n done r.sees (omega (arith, r.cost)),
  )

  pub ends_within : (g : ℕ) (fn : FunctionTree) (args : List ℤ) (w : PoolMap) (n : ℕ)
      → slice_get t.functions g ≡ Some fn → (exec ir ((n + 1) * m) (code_start g args w n)
      ≡ call_end (function_value t (calls_of t 255) fn args w n))
      × (seen_in ir ((n + 1) * m) (code_start g args w n)
      ≡ function_accesses t (calls_of t 255) (call_accesses t 255) fn args w n)
  ends_within g fn args w n is =
      ends_by g args w n (function_accesses t (calls_of t 255) (call_accesses t 255) fn args w n)
      (function_value t (calls_of t 255) fn args w n)
      (part_runs 255 g [] fn is (calls_run 255 g [] refl) args w n)

-- allowing more steps changes nothing of a run that has ended
longer : (ir : Ir) (e : code.CodeEnd) → IsOver e → (j n : ℕ) (c : CodeState) → j ≤ n
    → exec ir j c ≡ e → exec ir n c ≡ e
longer ir e over j n c le is = end ir j n c le (subst IsOver (sym is) over) ∙ is

is_over : (o : Out ℤ) → IsOver (call_end o)
is_over (Got v w t) = tt
is_over (Stops k) = tt

one_end : (ir : Ir) (j n : ℕ) (c : CodeState) (e e' : code.CodeEnd) → IsOver e → IsOver e'
    → exec ir j c ≡ e → exec ir n c ≡ e' → e ≡ e'
one_end ir j n c e e' over over' is is' =
    ⊎_elim
    (λ (lt : j < n). sym (longer ir e over j n c (omega (arith, lt)) is) ∙ is')
    (λ (le : n ≤ j). sym is ∙ longer ir e' over' n j c le is')
    (cases_lt j n)

-- each function is no longer than the whole code
pub whole_le : (us : List IrFunction) (g : ℕ) (u : IrFunction) → slice_get us g ≡ Some u
    → length u.code ≤ whole us
whole_le [] g u e = cc
whole_le (x ∷ us) zero u e = let same : x ≡ u = same_Some x u e in
    let len : length x.code ≡ length u.code = ap (λ (y : IrFunction). length y.code) same in
    omega (arith, len)
whole_le (x ∷ us) (suc g) u e = omega (arith, whole_le us g u e)

pub keeps : (t : Tables) (tree : Program) (ir : Ir) → ProgramFits t tree ir → KeepsMeaning t ir
keeps t tree ir fits = record {
  ends = λ g fn args w n is. (ends_within t tree ir (whole ir.functions) fits
      (whole_le ir.functions) g fn args w n is).0;
  only = λ g fn args w n e is means. one_end ir means.1.0 ((n + 1) * whole ir.functions)
      (code_start g args w n) e (call_end (function_value t (calls_of t 255) fn args w n)) means.0
      (is_over (function_value t (calls_of t 255) fn args w n)) means.1.1
      (ends_within t tree ir (whole ir.functions) fits (whole_le ir.functions) g fn args w n is).0;
}

-- the accesses of a run that has ended, whatever number of steps it was allowed
one_list : (ir : Ir) (j n : ℕ) (c : CodeState) (done : List Access) → IsOver (exec ir j c)
    → IsOver (exec ir n c) → seen_in ir n c ≡ done → seen_in ir j c ≡ done
one_list ir j n c done over over' is =
    ⊎_elim
    (λ (lt : j < n). ap (map access_of) (sym (same_deeds ir j n c (omega (arith, lt)) over)) ∙ is)
    (λ (le : n ≤ j). ap (map access_of) (same_deeds ir n j c le over') ∙ is)
    (cases_lt j n)

pub keeps_accesses : (t : Tables) (tree : Program) (ir : Ir) → ProgramFits t tree ir
    → KeepsAccesses t ir
keeps_accesses t tree ir fits = record {
  done = λ g fn args w n k is over. let h = ends_within t tree ir (whole ir.functions) fits
      (whole_le ir.functions) g fn args w n is in
      one_list ir k ((n + 1) * whole ir.functions) (code_start g args w n)
      (function_accesses t (calls_of t 255) (call_accesses t 255) fn args w n) over
      (subst IsOver (sym h.0) (is_over (function_value t (calls_of t 255) fn args w n))) h.1;
}

-- the functions of a program's code correspond to its trees, place by place
pub stands_in : (tree : Program) (g : ℕ) (fn : FunctionTree)
    → slice_get (tables_of (tree_of tree)).functions g ≡ Some fn
    → slice_get (lowered tree).functions g
    ≡ Some (lowered_function (tables_of (tree_of tree)) tree fn)
stands_in tree g fn is =
    let t : Tables = tables_of (tree_of tree) in
    slice_get-map (lowered_function t tree) t.functions g
    ∙ ap (option_map (lowered_function t tree)) is
