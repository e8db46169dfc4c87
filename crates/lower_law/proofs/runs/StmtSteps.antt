-- The steps of a statement's code: how it may end, what follows, branches, loops, stores and frees.
use Rattle.std.proofs.Common.{◌≡◌, ℕ, zero, suc, ◌+◌, ◌<◌, ◌≤◌, ℤ, pos, negsuc, false, List, []}
use Rattle.std.proofs.Common.{◌∷◌, ◌++◌, map, refl, ap, subst, arith}
use Rattle.std.specs.Prelude.{Option, None, Some, Result, Ok, Err, if◌then◌else◌, option_map}
use Rattle.c_tree.specs.ExprTree as expr
use Rattle.c_tree.specs.ExprTree.{ExprTree, Ident}
use Rattle.pool_map.specs.PoolMap.{PoolMap, free}
use Rattle.pool_map.specs.declared.trap.TrapKind.{TrapKind}
use Rattle.pool_map.specs.declared.word.PoolWord.{PoolWord}
use Rattle.pool_map.specs.declared.word.PoolWord.TheVariants.{Root, Field}
use Rattle.c_meaning.specs.Locals.{Local, oldest}
use Rattle.pool_map.specs.Checks.{is_zero, then_on}
use Rattle.c_meaning.specs.Meaning.{Out, Got, Stops, StmtEnd, Next, Broke, Again, Gave, Traps}
use Rattle.c_meaning.specs.Meaning.{Calls, with_value, then_next, at_zero, value_of, stored_end}
use Rattle.c_meaning.specs.Meaning.{target_local, freed, in_scope, after_turn, turns, at_target}
use Rattle.c_meaning.specs.Meaning.{at_place}
use Rattle.c_meaning.specs.Accesses.{Access, CallAccesses, on_value, on_next, on_turn, write_at}
use Rattle.c_meaning.specs.Accesses.{object_freed, turn_accesses}
use Rattle.ir.specs.declared.instruction.Target.{Target}
use Rattle.ir.specs.declared.instruction.Instruction.TheVariants.{Jump, Branch, Tick}
use Rattle.ir.specs.declared.function.Ir.{Ir}
use Rattle.lower.specs.Names.{variable_of}
use Rattle.lower.specs.Lowers.{Context}
use Rattle.code_meaning.specs.Code.{Frame, Here, Trapped, Goes, Ends, Move, Spot, gives}
use Rattle.code_meaning.specs.Code.{register_at, with_ok, base_in, index_in, store_spot}
use Rattle.code_meaning.specs.Deeds.{Writes, Heads, if_ok, site}
use Rattle.lower_law.specs.Accesses.{access_of}
use Rattle.lower_law.proofs.runs.Paths.{Path, path_then, path_more, path_nil, path_on, path_none}
use Rattle.lower_law.proofs.runs.Paths.{path_step, path_ends, path_tick, doing, silent, acted}
use Rattle.lower_law.proofs.runs.Paths.{stepped}
use Rattle.lower_law.proofs.runs.Has.{At}
use Rattle.lower_law.proofs.locals.Locals.{Same}
use Rattle.lower_law.proofs.runs.ExprSteps.{CallsRun, Gives, at_branch, nothing_follows}

-- the same path with other marks, n places on
pub path_shift : {ir : Ir} {m : ℕ} {c : _} {e : Move} {p t q t' : ℕ} {done : List Access} (n p' : ℕ)
    → p' ≤ n + p → Path ir m c e p t q t' done → Path ir m c e p' t (n + q) t' done
path_shift n p' le a = record {
  n = a.n;
  comes = a.comes;
  sees = a.sees;
  falls = a.falls;
  cost = omega (arith, le, a.cost);
}

-- the local that a target is
pub local_is : (e : ExprTree) → target_local e ≡ option_map (λ (n : Ident). n.text) (variable_of e)
local_is (expr.Number n) = refl
local_is expr.Null = refl
local_is (expr.Variable name) = refl
local_is (expr.Call name all) = refl
local_is (expr.Root name) = refl
local_is (expr.New place name) = refl
local_is (expr.Arrow base place name) = refl
local_is (expr.Index a place i) = refl
local_is (expr.Unary o place a) = refl
local_is (expr.Binary o place a b) = refl
local_is (expr.Conditional c place a b) = refl

-- an optional value; if absent, it is a constant
abbrev pub or_value : Context → Calls → ℤ → Option ExprTree → List Local → PoolMap → ℕ → Out ℤ
or_value k calls n None ls w t = Got n w t
or_value k calls n (Some e) ls w t = value_of k.tables calls e ls w t

-- a store, and a free, of an instruction at place p of function f
abbrev pub stores : (f p : ℕ) → Result PoolWord TrapKind → ℤ → (Spot → Move) → Move × List Access
stores f p o x go =
    doing (with_ok o go) (map access_of (if_ok o (λ s. Writes (site f p false) s x ∷ [])))

abbrev pub frees : (f p : ℕ) → Result ℕ TrapKind → PoolMap → (PoolMap → Move) → Move × List Access
frees f p o w go = doing (with_ok (then_on o (λ s. Ok (free w s))) go)
    (map access_of (if_ok o (λ s. Heads (site f p false) s (pos 0) ∷ [])))

module _ (ir : Ir) (m f : ℕ) (k : Context) (rises : (p q : ℕ) → p < q → k.node p < k.node q)
    (below : List Frame) (calls : Calls) (seen : CallAccesses)
    (run : CallsRun k.tables ir m f below calls seen) where
  pub record Came (place s p q : ℕ) (is : List ℤ → Type 0) (regs : List ℤ) (w : PoolMap) (t : ℕ)
      (done : List Access) (w' : PoolMap) (t' : ℕ) : Type 0 where
    pub regs' : List ℤ
    pub path : Path ir m (Here f s regs below w t) (Goes (Here f place regs' below w' t')) p t q t'
        done
    pub holds : is regs'

  -- from the place s the code does what a statement does, with these accesses: it reaches the place
  -- next, out or again, or the function returns a word, or it traps; p and q are the marks of its
  -- cost
  abbrev pub Runs : (out again next s p q : ℕ) (N L : List Local → List ℤ → Type 0) (regs : List ℤ)
      (w : PoolMap) (t : ℕ) (done : List Access) → StmtEnd → Type 0
  Runs out again next s p q N L regs w t done (Next ls w' t') =
      Came next s p q (N ls) regs w t done w' t'
  Runs out again next s p q N L regs w t done (Broke ls w' t') =
      Came out s p q (L ls) regs w t done w' t'
  Runs out again next s p q N L regs w t done (Again ls w' t') =
      Came again s p q (L ls) regs w t done w' t'
  Runs out again next s p q N L regs w t done (Gave v w' t') =
      Path ir m (Here f s regs below w t) (gives below v w' t') p t q t' done
  Runs out again next s p q N L regs w t done (Traps stop) =
      Path ir m (Here f s regs below w t) (Ends (Trapped stop.kind)) p t q 0 done

  pub runs_then : (out again next s s1 p p1 q : ℕ) (N L : List Local → List ℤ → Type 0)
      (regs regs1 : List ℤ) (w w1 : PoolMap) (t t1 : ℕ) (done later : List Access)
      → Path ir m (Here f s regs below w t) (Goes (Here f s1 regs1 below w1 t1)) p t p1 t1 done
      → (o : StmtEnd) → Runs out again next s1 p1 q N L regs1 w1 t1 later o
      → Runs out again next s p q N L regs w t (done ++ later) o
  runs_then out again next s s1 p p1 q N L regs regs1 w w1 t t1 done later path (Next ls w' t') r =
      record { regs' = r.regs'; path = path_then done later path r.path; holds = r.holds }
  runs_then out again next s s1 p p1 q N L regs regs1 w w1 t t1 done later path (Broke ls w' t') r =
      record { regs' = r.regs'; path = path_then done later path r.path; holds = r.holds }
  runs_then out again next s s1 p p1 q N L regs regs1 w w1 t t1 done later path (Again ls w' t') r =
      record { regs' = r.regs'; path = path_then done later path r.path; holds = r.holds }
  runs_then out again next s s1 p p1 q N L regs regs1 w w1 t t1 done later path (Gave v w' t') r =
      path_then done later path r
  runs_then out again next s s1 p p1 q N L regs regs1 w w1 t t1 done later path (Traps trap) r =
      path_then done later path r

  pub runs_more : (out again next s p q q' : ℕ) (N L : List Local → List ℤ → Type 0) (regs : List ℤ)
      (w : PoolMap) (t : ℕ) (done : List Access) (o : StmtEnd) → q ≤ q'
      → Runs out again next s p q N L regs w t done o
      → Runs out again next s p q' N L regs w t done o
  runs_more out again next s p q q' N L regs w t done (Next ls w' t') le r =
      record { regs' = r.regs'; path = path_more le r.path; holds = r.holds }
  runs_more out again next s p q q' N L regs w t done (Broke ls w' t') le r =
      record { regs' = r.regs'; path = path_more le r.path; holds = r.holds }
  runs_more out again next s p q q' N L regs w t done (Again ls w' t') le r =
      record { regs' = r.regs'; path = path_more le r.path; holds = r.holds }
  runs_more out again next s p q q' N L regs w t done (Gave v w' t') le r = path_more le r
  runs_more out again next s p q q' N L regs w t done (Traps trap) le r = path_more le r

  pub runs_shift : (n out again next s p p' q : ℕ) (N L : List Local → List ℤ → Type 0)
      (regs : List ℤ) (w : PoolMap) (t : ℕ) (done : List Access) (o : StmtEnd) → p' ≤ n + p
      → Runs out again next s p q N L regs w t done o
      → Runs out again next s p' (n + q) N L regs w t done o
  runs_shift n out again next s p p' q N L regs w t done (Next ls w' t') le r =
      record { regs' = r.regs'; path = path_shift n p' le r.path; holds = r.holds }
  runs_shift n out again next s p p' q N L regs w t done (Broke ls w' t') le r =
      record { regs' = r.regs'; path = path_shift n p' le r.path; holds = r.holds }
  runs_shift n out again next s p p' q N L regs w t done (Again ls w' t') le r =
      record { regs' = r.regs'; path = path_shift n p' le r.path; holds = r.holds }
  runs_shift n out again next s p p' q N L regs w t done (Gave v w' t') le r = path_shift n p' le r
  runs_shift n out again next s p p' q N L regs w t done (Traps trap) le r = path_shift n p' le r

  -- a tick pays for a turn
  pub runs_tick : (out again next p q : ℕ) (N L : List Local → List ℤ → Type 0) (regs : List ℤ)
      (w : PoolMap) (t : ℕ) (done : List Access) (o : StmtEnd)
      → stepped ir (Here f p regs below w (suc t)) ≡ silent (Goes (Here f (suc p) regs below w t))
      → Runs out again next (suc p) (suc p) (m + q) N L regs w t done o
      → Runs out again next p p q N L regs w (suc t) done o
  runs_tick out again next p q N L regs w t done (Next ls w' t') st r =
      record { regs' = r.regs'; path = path_tick p q (omega arith) st r.path; holds = r.holds }
  runs_tick out again next p q N L regs w t done (Broke ls w' t') st r =
      record { regs' = r.regs'; path = path_tick p q (omega arith) st r.path; holds = r.holds }
  runs_tick out again next p q N L regs w t done (Again ls w' t') st r =
      record { regs' = r.regs'; path = path_tick p q (omega arith) st r.path; holds = r.holds }
  runs_tick out again next p q N L regs w t done (Gave v w' t') st r =
      path_tick p q (omega arith) st r
  runs_tick out again next p q N L regs w t done (Traps trap) st r =
      path_tick p q (omega arith) st r

  -- what holds at the place that is reached, in other words
  pub runs_map : (out again next s p q : ℕ) (N L N' L' : List Local → List ℤ → Type 0)
      (regs : List ℤ) (w : PoolMap) (t : ℕ) (done : List Access) (o : StmtEnd)
      → ((ls : List Local) (r : List ℤ) → N ls r → N' ls r)
      → ((ls : List Local) (r : List ℤ) → L ls r → L' ls r)
      → Runs out again next s p q N L regs w t done o
      → Runs out again next s p q N' L' regs w t done o
  runs_map out again next s p q N L N' L' regs w t done (Next ls w' t') n l r =
      record { regs' = r.regs'; path = r.path; holds = n ls r.regs' r.holds }
  runs_map out again next s p q N L N' L' regs w t done (Broke ls w' t') n l r =
      record { regs' = r.regs'; path = r.path; holds = l ls r.regs' r.holds }
  runs_map out again next s p q N L N' L' regs w t done (Again ls w' t') n l r =
      record { regs' = r.regs'; path = r.path; holds = l ls r.regs' r.holds }
  runs_map out again next s p q N L N' L' regs w t done (Gave v w' t') n l r = r
  runs_map out again next s p q N L N' L' regs w t done (Traps trap) n l r = r

  -- the end of a scope
  pub runs_scope : (out again next s p q c : ℕ) (N L N' L' : List Local → List ℤ → Type 0)
      (regs : List ℤ) (w : PoolMap) (t : ℕ) (done : List Access) (o : StmtEnd)
      → ((ls : List Local) (r : List ℤ) → N ls r → N' (oldest c ls) r)
      → ((ls : List Local) (r : List ℤ) → L ls r → L' (oldest c ls) r)
      → Runs out again next s p q N L regs w t done o
      → Runs out again next s p q N' L' regs w t done (in_scope c o)
  runs_scope out again next s p q c N L N' L' regs w t done (Next ls w' t') n l r =
      record { regs' = r.regs'; path = r.path; holds = n ls r.regs' r.holds }
  runs_scope out again next s p q c N L N' L' regs w t done (Broke ls w' t') n l r =
      record { regs' = r.regs'; path = r.path; holds = l ls r.regs' r.holds }
  runs_scope out again next s p q c N L N' L' regs w t done (Again ls w' t') n l r =
      record { regs' = r.regs'; path = r.path; holds = l ls r.regs' r.holds }
  runs_scope out again next s p q c N L N' L' regs w t done (Gave v w' t') n l r = r
  runs_scope out again next s p q c N L N' L' regs w t done (Traps trap) n l r = r

  pub value_then : {A : Type 0} (is : List ℤ → A → Type 0) (out again next p p1 q : ℕ)
      (N L : List Local → List ℤ → Type 0) (regs : List ℤ) (w : PoolMap) (t : ℕ)
      (done : List Access) (o : Out A) (later : A → PoolMap → ℕ → List Access) (go : A → PoolMap → ℕ
      → StmtEnd) → p1 ≤ q → Gives ir m f k rises below is p p1 regs w t done o
      → ((v : A) (w1 : PoolMap) (t1 : ℕ) (regs1 : List ℤ) → t1 ≤ t → Same (k.node p) regs regs1
      → is regs1 v → Runs out again next p1 p1 q N L regs1 w1 t1 (later v w1 t1) (go v w1 t1))
      → Runs out again next p p q N L regs w t (done ++ on_value o later) (with_value o go)
  value_then is out again next p p1 q N L regs w t done (Got v w1 t1) later go le g cont =
      runs_then out again next p p1 p p1 q N L regs g.regs' w w1 t t1 done (later v w1 t1) g.path
      (go v w1 t1) (cont v w1 t1 g.regs' g.path.falls g.same g.value)
  value_then is out again next p p1 q N L regs w t done (Stops trap) later go le g cont =
      path_nil done (path_more le g)

  -- no accesses follow
  pub value_quiet : {A : Type 0} (is : List ℤ → A → Type 0) (out again next p p1 q : ℕ)
      (N L : List Local → List ℤ → Type 0) (regs : List ℤ) (w : PoolMap) (t : ℕ)
      (done : List Access) (o : Out A) (go : A → PoolMap → ℕ → StmtEnd) → p1 ≤ q
      → Gives ir m f k rises below is p p1 regs w t done o
      → ((v : A) (w1 : PoolMap) (t1 : ℕ) (regs1 : List ℤ) → t1 ≤ t → Same (k.node p) regs regs1
      → is regs1 v → Runs out again next p1 p1 q N L regs1 w1 t1 [] (go v w1 t1))
      → Runs out again next p p q N L regs w t done (with_value o go)
  value_quiet is out again next p p1 q N L regs w t done o go le g cont =
      subst (λ l. Runs out again next p p q N L regs w t l (with_value o go))
      (nothing_follows done o)
      (value_then is out again next p p1 q N L regs w t done o (λ v w t. []) go le g cont)

  pub next_then : (out again s1 next s p p1 q : ℕ) (N1 N L : List Local → List ℤ → Type 0)
      (regs : List ℤ) (w : PoolMap) (t : ℕ) (done : List Access) (o : StmtEnd)
      (later : List Local → PoolMap → ℕ → List Access) (go : List Local → PoolMap → ℕ → StmtEnd)
      → p1 ≤ q → Runs out again s1 s p p1 N1 L regs w t done o
      → ((ls : List Local) (w1 : PoolMap) (t1 : ℕ) (regs1 : List ℤ) → t1 ≤ t → N1 ls regs1
      → Runs out again next s1 p1 q N L regs1 w1 t1 (later ls w1 t1) (go ls w1 t1))
      → Runs out again next s p q N L regs w t (done ++ on_next o later) (then_next o go)
  next_then out again s1 next s p p1 q N1 N L regs w t done (Next ls w1 t1) later go le r cont =
      runs_then out again next s s1 p p1 q N L regs r.regs' w w1 t t1 done (later ls w1 t1) r.path
      (go ls w1 t1) (cont ls w1 t1 r.regs' r.path.falls r.holds)
  next_then out again s1 next s p p1 q N1 N L regs w t done (Broke ls w1 t1) later go le r cont =
      record { regs' = r.regs'; path = path_nil done (path_more le r.path); holds = r.holds }
  next_then out again s1 next s p p1 q N1 N L regs w t done (Again ls w1 t1) later go le r cont =
      record { regs' = r.regs'; path = path_nil done (path_more le r.path); holds = r.holds }
  next_then out again s1 next s p p1 q N1 N L regs w t done (Gave v w1 t1) later go le r cont =
      path_nil done (path_more le r)
  next_then out again s1 next s p p1 q N1 N L regs w t done (Traps trap) later go le r cont =
      path_nil done (path_more le r)

  -- the body of a turn reaches the third part, at the place c with the mark c1, or leaves the loop,
  -- to the place end
  pub turn_then : (out again end c c1 s p q : ℕ) (N B L : List Local → List ℤ → Type 0)
      (regs : List ℤ) (w : PoolMap) (t : ℕ) (done : List Access) (o : StmtEnd)
      (later : List Local → PoolMap → ℕ → List Access) (go : List Local → PoolMap → ℕ → StmtEnd)
      → c1 ≤ q → Runs end c c s p c1 B B regs w t done o
      → ((ls : List Local) (r : List ℤ) → B ls r → N ls r)
      → ((ls : List Local) (w1 : PoolMap) (t1 : ℕ) (regs1 : List ℤ) → t1 ≤ t → B ls regs1
      → Runs out again end c c1 q N L regs1 w1 t1 (later ls w1 t1) (go ls w1 t1))
      → Runs out again end s p q N L regs w t (done ++ on_turn o later) (after_turn o go)
  turn_then out again end c c1 s p q N B L regs w t done (Next ls w1 t1) later go le r leave cont =
      runs_then out again end s c p c1 q N L regs r.regs' w w1 t t1 done (later ls w1 t1) r.path
      (go ls w1 t1) (cont ls w1 t1 r.regs' r.path.falls r.holds)
  turn_then out again end c c1 s p q N B L regs w t done (Again ls w1 t1) later go le r leave cont =
      runs_then out again end s c p c1 q N L regs r.regs' w w1 t t1 done (later ls w1 t1) r.path
      (go ls w1 t1) (cont ls w1 t1 r.regs' r.path.falls r.holds)
  turn_then out again end c c1 s p q N B L regs w t done (Broke ls w1 t1) later go le r leave cont =
      record {
        regs' = r.regs';
        path = path_nil done (path_more le r.path);
        holds = leave ls r.regs' r.holds;
      }
  turn_then out again end c c1 s p q N B L regs w t done (Gave v w1 t1) later go le r leave cont =
      path_nil done (path_more le r)
  turn_then out again end c c1 s p q N B L regs w t done (Traps trap) later go le r leave cont =
      path_nil done (path_more le r)

  pub branch_runs : (out again next p off q : ℕ) (N L : List Local → List ℤ → Type 0) (x : ℤ)
      (regs : List ℤ) (w : PoolMap) (t : ℕ) (done : List Access) (a : StmtEnd)
      (other : List Access) (b : StmtEnd) → p < off
      → stepped ir (Here f p regs below w t)
      ≡ silent (if is_zero x then Goes (Here f off regs below w t)
      else Goes (Here f (suc p) regs below w t)) → Runs out again next off off q N L regs w t done a
      → Runs out again next (suc p) (suc p) q N L regs w t other b
      → Runs out again next p p q N L regs w t (at_zero x done other) (at_zero x a b)
  branch_runs out again next p off q N L (pos zero) regs w t done a other b lt st ra rb =
      runs_then out again next p off p off q N L regs regs w w t t [] done
      (path_more lt (path_step p t st)) a ra
  branch_runs out again next p off q N L (pos (suc n)) regs w t done a other b lt st ra rb =
      runs_then out again next p (suc p) p (suc p) q N L regs regs w w t t [] other
      (path_step p t st) b rb
  branch_runs out again next p off q N L (negsuc n) regs w t done a other b lt st ra rb =
      runs_then out again next p (suc p) p (suc p) q N L regs regs w w t t [] other
      (path_step p t st) b rb

  -- a jump after code that goes on at its end
  pub then_jump : (out again s p p1 q : ℕ) (N L : List Local → List ℤ → Type 0) (regs : List ℤ)
      (w : PoolMap) (t : ℕ) (done : List Access) (o : StmtEnd) → p1 < q → At ir f p1 (Jump q)
      → Runs out again p1 s p p1 N L regs w t done o → Runs out again q s p q N L regs w t done o
  then_jump out again s p p1 q N L regs w t done (Next ls w' t') lt st r =
      record {
        regs' = r.regs';
        path =
            path_on done r.path (path_more lt
            (path_step p1 t' (ap (λ i. acted ir i f p1 r.regs' below w' t') st)));
        holds = r.holds;
      }
  then_jump out again s p p1 q N L regs w t done (Broke ls w' t') lt st r =
      record { regs' = r.regs'; path = path_more (omega (arith, lt)) r.path; holds = r.holds }
  then_jump out again s p p1 q N L regs w t done (Again ls w' t') lt st r =
      record { regs' = r.regs'; path = path_more (omega (arith, lt)) r.path; holds = r.holds }
  then_jump out again s p p1 q N L regs w t done (Gave v w' t') lt st r =
      path_more (omega (arith, lt)) r
  then_jump out again s p p1 q N L regs w t done (Traps trap) lt st r =
      path_more (omega (arith, lt)) r

  pub stands_still : (out again p : ℕ) (N L : List Local → List ℤ → Type 0) (ls : List Local)
      (regs : List ℤ) (w : PoolMap) (t : ℕ) → N ls regs
      → Runs out again p p p p N L regs w t [] (Next ls w t)
  stands_still out again p N L ls regs w t h =
      record { regs' = regs; path = path_none (Here f p regs below w t) p t; holds = h }

  -- the same at a place with another mark
  pub still_at : (out again s q : ℕ) (N L : List Local → List ℤ → Type 0) (ls : List Local)
      (regs : List ℤ) (w : PoolMap) (t : ℕ) → N ls regs
      → Runs out again s s q q N L regs w t [] (Next ls w t)
  still_at out again s q N L ls regs w t h =
      record { regs' = regs; path = path_none (Here f s regs below w t) q t; holds = h }

  -- followed by a jump back to p0
  pub back_jump : (out again p0 s p p1 : ℕ) (N L : List Local → List ℤ → Type 0) (regs : List ℤ)
      (w : PoolMap) (t : ℕ) (done : List Access) (o : StmtEnd) → At ir f p1 (Jump p0)
      → Runs out again p1 s p p1 N L regs w t done o
      → Runs out again p0 s p (suc p1) N L regs w t done o
  back_jump out again p0 s p p1 N L regs w t done (Next ls w' t') st r =
      record {
        regs' = r.regs';
        path = path_on done r.path
            (path_step p1 t' (ap (λ i. acted ir i f p1 r.regs' below w' t') st));
        holds = r.holds;
      }
  back_jump out again p0 s p p1 N L regs w t done (Broke ls w' t') st r =
      record { regs' = r.regs'; path = path_more (omega arith) r.path; holds = r.holds }
  back_jump out again p0 s p p1 N L regs w t done (Again ls w' t') st r =
      record { regs' = r.regs'; path = path_more (omega arith) r.path; holds = r.holds }
  back_jump out again p0 s p p1 N L regs w t done (Gave v w' t') st r = path_more (omega arith) r
  back_jump out again p0 s p p1 N L regs w t done (Traps trap) st r = path_more (omega arith) r

  -- a jump, and code from its target on, with marks that go on from that of the jump
  pub jump_runs : (out again next s p0 p q : ℕ) (N L : List Local → List ℤ → Type 0)
      (regs : List ℤ) (w : PoolMap) (t : ℕ) (done : List Access) (o : StmtEnd)
      → At ir f s (Jump p0) → Runs out again next p0 p q N L regs w t done o
      → Runs out again next s s (suc s + q) N L regs w t done o
  jump_runs out again next s p0 p q N L regs w t done o st r =
      runs_then out again next s p0 s (suc s) (suc s + q) N L regs regs w w t t [] done
      (path_step s t (ap (λ i. acted ir i f s regs below w t) st)) o
      (runs_shift (suc s) out again next p0 p (suc s) q N L regs w t done o (omega arith) r)

  -- a loop: its tick at p, its condition up to p1, then its body, after which the run reaches c
  -- with the mark c1, and its third part, which leads back to p with the mark e; q is the loop's
  -- end
  pub loop_runs : (place out again p p1 c c1 e q r : ℕ) (N L : List Local → List ℤ → Type 0)
      (test : List Local → PoolMap → ℕ → Out ℤ) (body third : List Local → PoolMap → ℕ → StmtEnd)
      (tests bodies thirds : List Local → PoolMap → ℕ → List Access)
      → suc p ≤ p1 → suc p1 ≤ q → c1 ≤ m + q → e ≤ m + p → At ir f p Tick → At ir f p1 (Branch r q)
      → ((ls : List Local) (regs : List ℤ) (w : PoolMap) (t : ℕ) → N ls regs
      → Gives ir m f k rises below (λ regs v. register_at regs r ≡ v) (suc p) p1 regs w t
      (tests ls w t) (test ls w t))
      → ((ls : List Local) (regs regs1 : List ℤ) → Same (k.node (suc p)) regs regs1 → N ls regs
      → N ls regs1)
      → ((ls : List Local) (regs : List ℤ) (w : PoolMap) (t : ℕ) → N ls regs
      → Runs q c c (suc p1) (suc p1) c1 N N regs w t (bodies ls w t) (body ls w t))
      → ((ls : List Local) (regs : List ℤ) (w : PoolMap) (t : ℕ) → N ls regs
      → Runs out again p c c1 e N L regs w t (thirds ls w t) (third ls w t))
      → (n : ℕ) (ls : List Local) (regs : List ℤ) (w : PoolMap) (t : ℕ) → t ≤ n → N ls regs
      → Runs out again q p p q N L regs w t
      (turn_accesses n test body third tests bodies thirds ls w t)
      (turns n place test body third ls w t)
  loop_runs place out again p p1 c c1 e q r N L test body third tests bodies thirds le le1 le2 small
      st st1 tested kept passed led zero ls regs w zero tn holds =
      path_more (omega (arith, le, le1))
      (path_ends p zero (ap (λ i. acted ir i f p regs below w zero) st))
  loop_runs place out again p p1 c c1 e q r N L test body third tests bodies thirds le le1 le2 small
      st st1 tested kept passed led zero ls regs w (suc t) tn holds = absurd (omega (arith, tn))
  loop_runs place out again p p1 c c1 e q r N L test body third tests bodies thirds le le1 le2 small
      st st1 tested kept passed led (suc n) ls regs w zero tn holds =
      path_more (omega (arith, le, le1))
      (path_ends p zero (ap (λ i. acted ir i f p regs below w zero) st))
  loop_runs place out again p p1 c c1 e q r N L test body third tests bodies thirds le le1 le2 small
      st st1 tested kept passed led (suc n) ls regs w (suc t) tn holds =
      let go : List Local → PoolMap → ℕ → StmtEnd =
      λ ls w t. turns n place test body third ls w t in
      let goes : List Local → PoolMap → ℕ → List Access =
      λ ls w t. turn_accesses n test body third tests bodies thirds ls w t in
      let led_on : List Local → PoolMap → ℕ → List Access =
      λ ls w t. thirds ls w t ++ on_next (third ls w t) goes in
      let turned : ℤ → PoolMap → ℕ → List Access =
      λ v w t. at_zero v [] (bodies ls w t ++ on_turn (body ls w t) led_on) in
      runs_tick out again q p q N L regs w t
      (tests ls w t ++ on_value (test ls w t) turned)
      (with_value (test ls w t) (λ v w t.
      at_zero v (Next ls w t) (after_turn (body ls w t) (λ ls w t. then_next (third ls w t) go))))
      (ap (λ i. acted ir i f p regs below w (suc t)) st)
      (value_then (λ regs v. register_at regs r ≡ v) out again q (suc p) p1 (m + q) N L regs w t
      (tests ls w t) (test ls w t) turned (λ v w t. at_zero v (Next ls w t)
      (after_turn (body ls w t) (λ ls w t. then_next (third ls w t) go))) (omega (arith, le1))
      (tested ls regs w t holds)
      (λ v w1 t1 regs1 f1 s1 e1. let held1 : N ls regs1 = kept ls regs regs1 s1 holds in
      branch_runs out again q p1 q (m + q) N L v regs1 w1 t1 [] (Next ls w1 t1)
      (bodies ls w1 t1 ++ on_turn (body ls w1 t1) led_on)
      (after_turn (body ls w1 t1) (λ ls w t. then_next (third ls w t) go)) le1
      (at_branch ir m f k rises below p1 q r v regs1 w1 t1 st1 e1)
      (runs_more out again q q q q (m + q) N L regs1 w1 t1 [] (Next ls w1 t1) (omega arith)
      (stands_still out again q N L ls regs1 w1 t1 held1))
      (turn_then out again q c c1 (suc p1) (suc p1) (m + q) N N L regs1 w1 t1 (bodies ls w1 t1)
      (body ls w1 t1) led_on
      (λ ls w t. then_next (third ls w t) go) le2 (passed ls regs1 w1 t1 held1)
      (λ ls r h. h)
      (λ ls2 w2 t2 regs2 f2 held2. next_then out again p q c c1 e (m + q) N N L regs2 w2 t2
      (thirds ls2 w2 t2) (third ls2 w2 t2) goes go (omega (arith, le, le1, small))
      (led ls2 regs2 w2 t2 held2)
      (λ ls3 w3 t3 regs3 f3 held3. runs_shift m out again q p p e q N L regs3 w3 t3
      (goes ls3 w3 t3) (go ls3 w3 t3) small
      (loop_runs place out again p p1 c c1 e q r N L test body third tests bodies thirds le le1 le2
      small st st1 tested kept passed led n ls3 regs3 w3 t3 (omega (arith, tn, f1, f2, f3))
      held3))))))

  pub store_runs : (out again p : ℕ) (N L : List Local → List ℤ → Type 0) (target : ExprTree)
      (o : Result PoolWord TrapKind) (x : ℤ) (ls : List Local) (regs : List ℤ) (w : PoolMap) (t : ℕ)
      → N ls regs
      → stepped ir (Here f p regs below w t) ≡ stores f p o x
      (λ a. Goes (Here f (suc p) regs below (store_spot w a x) t))
      → Runs out again (suc p) p p (suc p) N L regs w t (write_at (at_target target o) x)
      (stored_end (at_target target o) x ls w t)
  store_runs out again p N L target (Err kind) x ls regs w t held st = path_ends p t st
  store_runs out again p N L target (Ok (Root i)) x ls regs w t held st =
      record { regs' = regs; path = path_step p t st; holds = held }
  store_runs out again p N L target (Ok (Field a i)) x ls regs w t held st =
      record { regs' = regs; path = path_step p t st; holds = held }

  -- an object that is freed
  pub free_runs : (out again p : ℕ) (N L : List Local → List ℤ → Type 0) (place : ℕ)
      (o : Result ℕ TrapKind) (ls : List Local) (regs : List ℤ) (w : PoolMap) (t : ℕ)
      → N ls regs
      → stepped ir (Here f p regs below w t)
      ≡ frees f p o w (λ w. Goes (Here f (suc p) regs below w t))
      → Runs out again (suc p) p p (suc p) N L regs w t (object_freed o)
      (freed (at_place place (then_on o (λ s. Ok (free w s)))) ls t)
  free_runs out again p N L place (Err kind) ls regs w t held st = path_ends p t st
  free_runs out again p N L place (Ok s) ls regs w t held st =
      record { regs' = regs; path = path_step p t st; holds = held }

  abbrev pub operands_at : Target → List ℤ → ℤ × Option ℤ → Type 0
  operands_at x regs o = (base_in regs x ≡ o.0) × (index_in regs x ≡ o.1)
