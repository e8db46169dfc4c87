-- How statements end: with a pool that fits, and with the locals' names and types as they must be.
use Rattle.std.proofs.Common.{◌≡◌, ◌≤◌, ℕ, zero, suc, ℤ, Bool, true, false, List, length, arith}
use Rattle.std.specs.Prelude.{if◌then◌else◌}
use Rattle.c_types.specs.Tables.{Tables}
use Rattle.c_types.specs.Expressions.{Scope}
use Rattle.c_meaning.specs.declared.trap_at.TrapAt.{TrapAt}
use Rattle.pool_map.specs.declared.trap.TrapKind.TheVariants as trap
use Rattle.pool_map.specs.PoolMap.{PoolMap}
use Rattle.pool_map.specs.Checks.{is_zero}
use Rattle.c_meaning.specs.Locals.{Local, scopes_of}
use Rattle.c_meaning.specs.Meaning.{Out, Got, Stops, StmtEnd, Next, Broke, Again, Gave, Traps}
use Rattle.c_meaning.specs.Meaning.{with_value, then_next, after_turn, in_scope, turns, tick}
use Rattle.c_meaning.specs.Meaning.{given, placed_trap}
use Rattle.sound_law.specs.Expressions.{Past}
use Rattle.sound_law.specs.Statements.{AfterNext, AfterTurn, TurnsFind}
use Rattle.sound_law.proofs.Expressions.{Fits, Leaves}
use Rattle.sound_law.proofs.Ticks.{Falls, EndsBelow}
use Rattle.sound_law.proofs.Declared.{Over, over_same, over_more, own_end}

after_fall : {A : Type 0} (n : ℕ) (o : Out A) (P Q : A → PoolMap → ℕ → Type 0) → Past o P
    → Falls n o → ((a : A) (p : PoolMap) (k : ℕ) → P a p k → k ≤ n → Q a p k) → Past o Q
after_fall n (Got a p k) P Q one le next = next a p k one le
after_fall n (Stops trap) P Q one le next = tt

module _ (t : Tables) where
  -- normally with locals of the scopes d, and by `break` or `continue` with those of c and newer
  -- ones
  abbrev pub EndsAs : (c d : List Scope) → StmtEnd → Type 0
  EndsAs c d (Next ls p k) = (scopes_of ls ≡ d) × Fits t p
  EndsAs c d (Broke ls p k) = Over c ls × Fits t p
  EndsAs c d (Again ls p k) = Over c ls × Fits t p
  EndsAs c d (Gave v p k) = Fits t p
  EndsAs c d (Traps trap) = Unit {0}

  abbrev pub EndsOver : List Scope → StmtEnd → Type 0
  EndsOver c (Next ls p k) = Over c ls × Fits t p
  EndsOver c (Broke ls p k) = Over c ls × Fits t p
  EndsOver c (Again ls p k) = Over c ls × Fits t p
  EndsOver c (Gave v p k) = Fits t p
  EndsOver c (Traps trap) = Unit {0}

  -- in any way with locals of the scopes c
  abbrev pub EndsWith : List Scope → StmtEnd → Type 0
  EndsWith c (Next ls p k) = (scopes_of ls ≡ c) × Fits t p
  EndsWith c (Broke ls p k) = (scopes_of ls ≡ c) × Fits t p
  EndsWith c (Again ls p k) = (scopes_of ls ≡ c) × Fits t p
  EndsWith c (Gave v p k) = Fits t p
  EndsWith c (Traps trap) = Unit {0}

  pub with_as : (c : List Scope) (e : StmtEnd) → EndsWith c e → EndsAs c c e
  with_as c (Next ls p k) h = h
  with_as c (Broke ls p k) h = (over_same c ls h.0, h.1)
  with_as c (Again ls p k) h = (over_same c ls h.0, h.1)
  with_as c (Gave v p k) h = h
  with_as c (Traps trap) h = tt

  pub with_over : (c : List Scope) (e : StmtEnd) → EndsWith c e → EndsOver c e
  with_over c (Next ls p k) h = (over_same c ls h.0, h.1)
  with_over c (Broke ls p k) h = (over_same c ls h.0, h.1)
  with_over c (Again ls p k) h = (over_same c ls h.0, h.1)
  with_over c (Gave v p k) h = h
  with_over c (Traps trap) h = tt

  pub value_ends : {A : Type 0} (o : Out A) (go : A → PoolMap → ℕ → StmtEnd)
      (P : A → PoolMap → ℕ → Type 0) (Q : StmtEnd → Type 0)
      → ((stop : TrapAt) → Q (Traps stop)) → Past o P
      → ((a : A) (p : PoolMap) (k : ℕ) → P a p k → Q (go a p k)) → Q (with_value o go)
  value_ends (Got a p k) go P Q trapped h next = next a p k h
  value_ends (Stops trap) go P Q trapped h next = trapped trap

  pub zero_ends : (c : Bool) (a b : StmtEnd) (Q : StmtEnd → Type 0) → Q a → Q b
      → Q (if c then a else b)
  zero_ends true a b Q left right = left
  zero_ends false a b Q left right = right

  -- one after another
  pub next_ends : (c : List Scope) (e : StmtEnd) (go : List Local → PoolMap → ℕ → StmtEnd)
      → EndsWith c e
      → ((ls : List Local) (p : PoolMap) (k : ℕ) → scopes_of ls ≡ c → Fits t p
      → EndsWith c (go ls p k)) → EndsWith c (then_next e go)
  next_ends c (Next ls p k) go h next = next ls p k h.0 h.1
  next_ends c (Broke ls p k) go h next = h
  next_ends c (Again ls p k) go h next = h
  next_ends c (Gave v p k) go h next = h
  next_ends c (Traps trap) go h next = tt

  more_over : (c : List Scope) (ls : List Local) (e : StmtEnd) → Over c ls
      → EndsOver (scopes_of ls) e → EndsOver c e
  more_over c ls (Next ks p k) over h = (over_more c ls ks over h.0, h.1)
  more_over c ls (Broke ks p k) over h = (over_more c ls ks over h.0, h.1)
  more_over c ls (Again ks p k) over h = (over_more c ls ks over h.0, h.1)
  more_over c ls (Gave v p k) over h = h
  more_over c ls (Traps trap) over h = tt

  -- after a statement that may declare a name
  pub declared_ends : (c d : List Scope) (e : StmtEnd)
      (go : List Local → PoolMap → ℕ → StmtEnd) → ((ls : List Local) → scopes_of ls ≡ d → Over c ls)
      → EndsAs c d e → ((ls : List Local) (p : PoolMap) (k : ℕ) → scopes_of ls ≡ d → Fits t p
      → EndsOver (scopes_of ls) (go ls p k)) → EndsOver c (then_next e go)
  declared_ends c d (Next ls p k) go over h next =
      more_over c ls (go ls p k) (over ls h.0) (next ls p k h.0 h.1)
  declared_ends c d (Broke ls p k) go over h next = h
  declared_ends c d (Again ls p k) go over h next = h
  declared_ends c d (Gave v p k) go over h next = h
  declared_ends c d (Traps trap) go over h next = tt

  pub declared_next : (c d : List Scope) (e : StmtEnd) (Q : List Local → PoolMap → ℕ → Type 0)
      → EndsAs c d e → ((ls : List Local) (p : PoolMap) (k : ℕ) → scopes_of ls ≡ d → Fits t p
      → Q ls p k) → AfterNext e Q
  declared_next c d (Next ls p k) Q h next = next ls p k h.0 h.1
  declared_next c d (Broke ls p k) Q h next = tt
  declared_next c d (Again ls p k) Q h next = tt
  declared_next c d (Gave v p k) Q h next = tt
  declared_next c d (Traps trap) Q h next = tt

  pub scope_ends : (ls : List Local) (e : StmtEnd) → EndsOver (scopes_of ls) e
      → EndsWith (scopes_of ls) (in_scope (length ls) e)
  scope_ends ls (Next ks p k) h = (own_end ls ks h.0, h.1)
  scope_ends ls (Broke ks p k) h = (own_end ls ks h.0, h.1)
  scope_ends ls (Again ks p k) h = (own_end ls ks h.0, h.1)
  scope_ends ls (Gave v p k) h = h
  scope_ends ls (Traps trap) h = tt

  pub given_leaves : (c : List Scope) (e : StmtEnd) → EndsOver c e → Leaves t (given e)
  given_leaves c (Next ls p k) h = h.1
  given_leaves c (Broke ls p k) h = h.1
  given_leaves c (Again ls p k) h = h.1
  given_leaves c (Gave v p k) h = h
  given_leaves c (Traps trap) h = tt

  pub turn_ends : (c : List Scope) (e : StmtEnd) (go : List Local → PoolMap → ℕ → StmtEnd)
      → EndsWith c e → ((ls : List Local) (p : PoolMap) (k : ℕ) → scopes_of ls ≡ c → Fits t p
      → EndsWith c (go ls p k)) → EndsWith c (after_turn e go)
  turn_ends c (Next ls p k) go h next = next ls p k h.0 h.1
  turn_ends c (Again ls p k) go h next = next ls p k h.0 h.1
  turn_ends c (Broke ls p k) go h next = h
  turn_ends c (Gave v p k) go h next = h
  turn_ends c (Traps trap) go h next = tt

  pub turn_next : (c : List Scope) (k : ℕ) (e : StmtEnd) (Q : List Local → PoolMap → ℕ → Type 0)
      → EndsWith c e → EndsBelow k e → ((ls : List Local) (p : PoolMap) (j : ℕ)
      → scopes_of ls ≡ c → Fits t p → j ≤ k → Q ls p j) → AfterTurn e Q
  turn_next c k (Next ls p j) Q h le next = next ls p j h.0 h.1 le
  turn_next c k (Again ls p j) Q h le next = next ls p j h.0 h.1 le
  turn_next c k (Broke ls p j) Q h le next = tt
  turn_next c k (Gave v p j) Q h le next = tt
  turn_next c k (Traps trap) Q h le next = tt

  third_next : (c : List Scope) (k : ℕ) (e : StmtEnd) (Q : List Local → PoolMap → ℕ → Type 0)
      → EndsWith c e → EndsBelow k e → ((ls : List Local) (p : PoolMap) (j : ℕ)
      → scopes_of ls ≡ c → Fits t p → j ≤ k → Q ls p j) → AfterNext e Q
  third_next c k (Next ls p j) Q h le next = next ls p j h.0 h.1 le
  third_next c k (Again ls p j) Q h le next = tt
  third_next c k (Broke ls p j) Q h le next = tt
  third_next c k (Gave v p j) Q h le next = tt
  third_next c k (Traps trap) Q h le next = tt

  -- a loop, from locals of the scopes c, which each of its parts keeps
  module _ (c : List Scope)
      (test : List Local → PoolMap → ℕ → Out ℤ) (Test : List Local → PoolMap → ℕ → Type 0)
      (body : List Local → PoolMap → ℕ → StmtEnd) (Body : List Local → PoolMap → ℕ → Type 0)
      (third : List Local → PoolMap → ℕ → StmtEnd) (Third : List Local → PoolMap → ℕ → Type 0)
      (tests : (ls : List Local) (p : PoolMap) (k : ℕ) → scopes_of ls ≡ c → Fits t p
      → Test ls p k × Leaves t (test ls p k))
      (bodies : (ls : List Local) (p : PoolMap) (k : ℕ) → scopes_of ls ≡ c → Fits t p
      → Body ls p k × EndsWith c (body ls p k))
      (thirds : (ls : List Local) (p : PoolMap) (k : ℕ) → scopes_of ls ≡ c → Fits t p
      → Third ls p k × EndsWith c (third ls p k)) where
    pub turns_find : ((ls : List Local) (p : PoolMap) (k : ℕ) → Falls k (test ls p k))
        → ((ls : List Local) (p : PoolMap) (k : ℕ) → EndsBelow k (body ls p k))
        → ((ls : List Local) (p : PoolMap) (k : ℕ) → EndsBelow k (third ls p k))
        → (n : ℕ) (ls : List Local) (p : PoolMap) (k : ℕ) → scopes_of ls ≡ c → Fits t p → k ≤ n
        → TurnsFind n test Test body Body third Third ls p k
    turns_find f g h zero ls p k is fits le = omega (arith, le)
    turns_find f g h (suc n) ls p zero is fits le = tt
    turns_find f g h (suc n) ls p (suc k) is fits le = (
      (tests ls p k is fits).0,
      after_fall k (test ls p k) (λ v p j. Fits t p) _ (tests ls p k is fits).1 (f ls p k)
          (λ v p j fits one e. (
            (bodies ls p j is fits).0,
            turn_next c j (body ls p j) _ (bodies ls p j is fits).1 (g ls p j)
                (λ ks p i is fits two. (
                  (thirds ks p i is fits).0,
                  third_next c i (third ks p i) _ (thirds ks p i is fits).1 (h ks p i)
                      (λ ks p m is fits three. turns_find f g h n ks p m is fits
                      (omega (arith, le, one, two, three))),
                )),
          )),
    )

    tick_ends : (stop : TrapAt) (k : ℕ) (go : ℕ → StmtEnd) → ((k : ℕ) → EndsWith c (go k))
        → EndsWith c (tick k (Traps stop) go)
    tick_ends stop zero go next = tt
    tick_ends stop (suc k) go next = next k

    pub turns_end : (n place : ℕ) (ls : List Local) (p : PoolMap) (k : ℕ) → scopes_of ls ≡ c
        → Fits t p → EndsWith c (turns n place test body third ls p k)
    turns_end zero place ls p k is fits = tt
    turns_end (suc n) place ls p k is fits = tick_ends (placed_trap trap.Steps place) k _ (λ k.
        value_ends (test ls p k) _ (λ v p k. Fits t p) (EndsWith c) (λ trap. tt)
        (tests ls p k is fits).1
        (λ v p k fits. zero_ends (is_zero v) (Next ls p k) _ (EndsWith c) (is, fits)
        (turn_ends c (body ls p k) _ (bodies ls p k is fits).1
        (λ ls p k is fits. next_ends c (third ls p k) _ (thirds ls p k is fits).1
        (λ ls p k is fits. turns_end n place ls p k is fits)))))
