-- A run of a file of functions: what the runtime does to the pool, in order, and how it ends.
use Rattle.std.specs.Prelude.{ℕ, zero, suc, ◌==◌, List, [], ◌++◌, length, slice_get, Option, Some}
use Rattle.std.specs.Prelude.{None, if◌then◌else◌}
use Rattle.pool_layout.specs.declared.limits.Sizes.{Sizes}
use Rattle.pm_machine.specs.declared.records.Policy.{Policy}
use Rattle.pm_machine.specs.Logging.{blank}
use Rattle.c_fragment.specs.Statement.{CFunction}
use Rattle.c_fragment.specs.State.{CState, PoolStep, variables_of}
use Rattle.c_fragment.specs.Meaning.{CStep, Goes, Returns, Traps, Undefined, c_step}

-- it has not ended within its number of steps, it returned, it trapped, or C gives it no meaning
pub data CRun : Type 0 where
  GoesOn : CRun
  Returned : (v : ℕ) → List PoolStep → CRun
  Trapped : (k : ℕ) → List PoolStep → CRun
  HasNoMeaning : CRun

-- these steps, and then the run
abbrev pub steps_before : List PoolStep → CRun → CRun
steps_before ps GoesOn = GoesOn
steps_before ps (Returned v qs) = Returned v (ps ++ qs)
steps_before ps (Trapped k qs) = Trapped k (ps ++ qs)
steps_before ps HasNoMeaning = HasNoMeaning

abbrev pub c_follow : (CState → CRun) → CStep → CRun
c_follow rest (Goes ps d) = steps_before ps (rest d)
c_follow rest (Returns v) = Returned v []
c_follow rest (Traps k) = Trapped k []
c_follow rest Undefined = HasNoMeaning

-- the run of at most k statements
abbrev pub c_run : Sizes → List CFunction → (k : ℕ) → CState → CRun
c_run z us zero c = GoesOn
c_run z us (suc k) c = c_follow (λ d. c_run z us k d) (c_step z us c)

-- function f begins on this heap, with an empty log and no dirty line
abbrev pub c_start : Policy → Sizes → (f : ℕ) → List ℕ → (ℕ → ℕ) → CFunction → CState
c_start p z f args heap u = record {
  function = f;
  place = 0;
  registers = variables_of u args;
  waiting = [];
  ticks = z.ticks;
  dirty = [];
  logging = blank p;
  heap = heap;
}

abbrev pub called_in : Policy → Sizes → List CFunction → (k f : ℕ) → List ℕ → (ℕ → ℕ)
    → Option CFunction → CRun
called_in p z us k f args heap None = HasNoMeaning
called_in p z us k f args heap (Some u) = if u.parameters == length args
    then c_run z us k (c_start p z f args heap u) else HasNoMeaning

-- The run of function f that the runtime calls with these arguments, of at most k statements. The
-- policy says whether a trap rolls the call back.
abbrev pub c_call : Policy → Sizes → List CFunction → (k f : ℕ) → List ℕ → (ℕ → ℕ) → CRun
c_call p z us k f args heap = called_in p z us k f args heap (slice_get us f)
