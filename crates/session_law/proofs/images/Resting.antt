-- A device that is at rest with a pool, and what a power cut leaves of it.
use Rattle.std.proofs.Common.{◌≡◌, ℕ, ◌<◌, Bool, true, false, List, ℤ, refl, sym, ap, ◌∙◌, subst}
use Rattle.std.proofs.Common.{if◌then◌else◌, nat_lt, None}
use Rattle.cache_model.specs.Cache.{Words, view}
use Rattle.pmem.specs.Device.{Device}
use Rattle.pool_layout.specs.declared.places.Place.TheVariants.{Heap}
use Rattle.pool_layout.specs.Places.{at}
use Rattle.pool_layout.specs.Places as places
use Rattle.pool_layout.specs.Sizes.{heap_words}
use Rattle.pool_layout.specs.Good.{Pool, Good}
use Rattle.pool_map.specs.declared.trap.TrapKind.{TrapKind}
use Rattle.pool_map.specs.declared.trap.TrapKind.TheVariants.{LogFull}
use Rattle.pool_map.specs.PoolMap.{PoolMap}
use Rattle.c_meaning.specs.Transaction.{Outcome, Done, Trap}
use Rattle.clobber_log.specs.Logs.{count_in}
use Rattle.pm_machine.specs.declared.effect.Effect.{Effect}
use Rattle.pm_machine.specs.declared.effect.End.{End}
use Rattle.pm_machine.specs.declared.effect.End.TheVariants.{Halted, Trapped}
use Rattle.pm_machine.specs.declared.records.Policy.TheVariants.{EndPool, RollBack}
use Rattle.pm_machine.specs.Effects.{heap_end, records_end}
use Rattle.pm_machine.specs.Machine.{Finished}
use Rattle.pm_machine.specs.Logging.{blank, takes, tx_run}
use Rattle.pm_machine.specs.Runs.{heap_in}
use Rattle.crash_law.specs.Pools.{IsBefore}
use Rattle.crash_law.specs.Law.{IsAtRest}
use Rattle.run_law.specs.Sound.{IsSoundRun}
use Rattle.cut_law.specs.Law.{pool_with}
use Rattle.cnvm_session.specs.declared.program.Program.{Program}
use Rattle.cnvm_session.specs.Marks.{policy_of}
use Rattle.cnvm_session.specs.Pool.{sizes_of}
use Rattle.session_law.specs.Source.{LogsBy, means, outcome_with, ComesBy, source_pool}
use Rattle.session_law.specs.Source.{HasSourceHeaders}
use Rattle.session_law.specs.Words.{HasPoolWords}
use Rattle.session_law.specs.Agrees.{Matches, RunsAs}
use Rattle.session_law.specs.State.{Pending, Down, SourceState, standing_as}
use Rattle.session_law.specs.Holds.{HoldsPool, IsResting, OwesNone}
use Rattle.session_law.proofs.logs.Exact.{run_recorded}
use Rattle.session_law.proofs.images.Ones.{rest_images}
use Rattle.session_law.proofs.images.Heaps.{pool_same, headers_same}

-- an image that is good with one heap is good with another if its heap has the words of that one
good_with : (pool : Pool) (d : ℕ) (h g image : Words)
    → ((w : ℕ) → w < heap_words pool.sizes → image (at (places.pool_of pool.sizes) (Heap w)) ≡ g w)
    → Good pool d h image → Good pool d g image
good_with pool d h g image same good =
    record {
      super = good.super;
      mark = good.mark;
      done = good.done;
      done_fits = good.done_fits;
      unsealed = good.unsealed;
      attempt = good.attempt;
      attempt_is = good.attempt_is;
      attempt_fits = good.attempt_fits;
      log = good.log;
      heap = same;
    }

-- a heap that the view has is the view's own
pub resting_at : (program : Program) (super : Words) (d : Device) (s : SourceState) (h : Words)
    → d.on ≡ true → IsAtRest d.cache
    → IsBefore (pool_with program.image super) s.done h s.last (view d.cache)
    → count_in (sizes_of program) (view d.cache) ≡ 0 → HoldsPool program h s
    → IsResting program super d s
resting_at program super d s h on rest before empty holds =
    let g : Words = heap_in (sizes_of program) d.cache in
    let same : (w : ℕ) → w < heap_words (sizes_of program) → h w ≡ g w =
    λ w less. sym (before.good.heap w less) in
    record {
      on = on;
      rest = rest;
      before = record {
        good = good_with (pool_with program.image super) s.done h g (view d.cache)
            (λ w less. refl) before.good;
        last_is = before.last_is;
      };
      empty = empty;
      holds = record {
        headers = headers_same program h g same holds.headers;
        pool = sym (pool_same program h g same) ∙ holds.pool;
        words = holds.words;
      };
    }

-- at rest nothing is owed
pub resting_owes : (program : Program) (super : Words) (d : Device) (s : SourceState)
    → IsResting program super d s → OwesNone program super d s
resting_owes program super d s resting =
    record {
      heap = heap_in (sizes_of program) d.cache;
      holds = resting.holds;
      left = rest_images (IsBefore (pool_with program.image super) s.done
          (heap_in (sizes_of program) d.cache) s.last) d.cache resting.rest resting.before;
    }

-- nor is it where the session went down
pub resting_down : (program : Program) (super : Words) (d : Device) (s : SourceState)
    → IsResting program super d s → OwesNone program super d (standing_as (Down None) s)
resting_down program super d s resting =
    let owes : OwesNone program super d s = resting_owes program super d s resting in
    record {
      heap = owes.heap;
      holds =
          record {
            headers = owes.holds.headers;
            pool = owes.holds.pool;
            words = owes.holds.words;
          };
      left = owes.left;
    }

-- a run that ends with this value and heap, as the source says

pub record HasHalted (program : Program) (o : Outcome) (v : ℤ) (h : Words) : Type 0 where
  pub pool : PoolMap
  pub is : o ≡ Done pool v
  pub headers : HasSourceHeaders program h
  pub holds : source_pool program h ≡ pool
  pub words : HasPoolWords pool

halted_of : (program : Program) (o : Outcome) (v : ℤ) (h : Words) → Matches program o (Halted v) h
    → HasHalted program o v h
halted_of program (Done pool value) v h is =
    record {
      pool = pool;
      is = ap (Done pool) (sym is.0);
      headers = is.1;
      holds = is.2;
      words = is.3;
    }
halted_of program (Trap trap) v h is = absurd is

pub trapped_of : (program : Program) (o : Outcome) (kind : TrapKind) (h : Words)
    → Matches program o (Trapped kind) h → o ≡ Trap kind
trapped_of program (Done pool value) kind h is = absurd is
trapped_of program (Trap trap) kind h is = ap Trap (sym is)

halted : (program : Program) (o : Outcome) (end : End) (v : ℤ) (h : Words) → end ≡ Halted v
    → Matches program o end h → HasHalted program o v h
halted program o end v h is matches =
    halted_of program o v h (subst (λ (e : End). Matches program o e h) is matches)

trapped : (program : Program) (o : Outcome) (end : End) (kind : TrapKind) (h : Words)
    → end ≡ Trapped kind → Matches program o end h → o ≡ Trap kind
trapped program o end kind h is matches =
    trapped_of program o kind h (subst (λ (e : End). Matches program o e h) is matches)

-- the policies of both kinds of transactions
pub ends_pool : (marked : Bool) → policy_of marked ≡ EndPool → marked ≡ false
ends_pool false is = refl
ends_pool true is = absurd (cc)

pub rolls_back : (marked : Bool) → policy_of marked ≡ RollBack → marked ≡ true
rolls_back true is = refl
rolls_back false is = absurd (cc)

-- a run that halts has room for its records
room_of : (program : Program) (pool : PoolMap) (tx : ℕ) (args : List ℤ) (logged : ℕ) (v : ℤ)
    (end : End) (g : Words) → end ≡ Halted v
    → Matches program (outcome_with program pool tx args logged) end g
    → nat_lt (sizes_of program).records logged ≡ false
room_of program pool tx args logged v end g is matches =
    go (nat_lt (sizes_of program).records logged) (subst (λ (e : End).
    Matches program (outcome_with program pool tx args logged) e g) is matches)
  where
    go : (b : Bool)
        → Matches program (if b then Trap LogFull else means program pool tx args) (Halted v) g
        → b ≡ false
    go false room = refl
    go true full = absurd full

-- what the source says of a known run of the machine, marked or not, on this pool
pub record Meant (marked : Bool) (program : Program) (pool : PoolMap) (owed : Pending)
    (h : Words) (end : End) (es : List Effect) : Type 0 where
  pub sound : IsSoundRun (policy_of marked) end es
  pub logged : ℕ
  pub logs : LogsBy marked program pool owed.tx owed.args logged
  pub matches :
      Matches program (outcome_with program pool owed.tx owed.args logged) end (heap_end h es)
  pub counted : (v : ℤ) → end ≡ Halted v → records_end 0 es ≡ logged

-- the run with this end and these effects, on the pool that the heap holds
pub meant : (marked : Bool) (program : Program) (s : SourceState) (owed : Pending) (h : Words)
    (end : End) (es : List Effect) → HoldsPool program h s
    → RunsAs program h owed.tx owed.args
    → tx_run (policy_of marked) program.image program.image.parts.most h owed.tx owed.args
    ≡ Finished end es
    → Meant marked program s.pool owed h end es
meant marked program s owed h end es holds runs ran =
    let pool : PoolMap = source_pool program h in
    let own = run_recorded marked program h owed.tx owed.args runs in
    let same_end : own.end ≡ end = let e = sym own.ran ∙ ran in cc in
    let same_effects : own.effects ≡ es = let e = sym own.ran ∙ ran in cc in
    let logged : ℕ = takes (blank (policy_of marked)) runs.effects in
    let here : Meant marked program pool owed h own.end own.effects = record {
      sound = own.sound;
      logged = logged;
      logs = runs.logs marked;
      matches = own.matches;
      counted = λ v is. own.counted (room_of program pool owed.tx owed.args logged v own.end
          (heap_end h own.effects) is own.matches);
    } in
    subst (λ (p : PoolMap). Meant marked program p owed h end es) holds.pool
    (subst (λ (x : End). Meant marked program pool owed h x es) same_end
    (subst (Meant marked program pool owed h own.end) same_effects here))

module _ (marked : Bool) (program : Program) (pool : PoolMap) (owed : Pending) (h : Words)
    (end : End) (es : List Effect) (own : Meant marked program pool owed h end es) where
  -- a run that ends with a value
  pub run_halted : (v : ℤ) → end ≡ Halted v →
      HasHalted program (outcome_with program pool owed.tx owed.args own.logged) v (heap_end h es)
  run_halted v is = halted program (outcome_with program pool owed.tx owed.args own.logged) end v
      (heap_end h es) is own.matches

  -- what its transaction comes to, with as many logged stores as the run has records
  pub run_done : (v : ℤ) (is : end ≡ Halted v) (l : ℕ) → l ≡ records_end 0 es →
      ComesBy marked program pool owed.tx owed.args l (Done (run_halted v is).pool v)
  run_done v is l records =
      subst (λ (n : ℕ).
      ComesBy marked program pool owed.tx owed.args n (Done (run_halted v is).pool v))
      (sym (records ∙ own.counted v is))
      (record { logs = own.logs; is = (run_halted v is).is })

  -- a run that traps
  pub run_trapped : (kind : TrapKind) → end ≡ Trapped kind →
      (logged : ℕ) × ComesBy marked program pool owed.tx owed.args logged (Trap kind)
  run_trapped kind is = (
    own.logged,
    record {
      logs = own.logs;
      is = trapped program (outcome_with program pool owed.tx owed.args own.logged) end kind
          (heap_end h es) is own.matches;
    },
  )
