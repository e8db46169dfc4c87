-- A transaction that was played turn by turn is a call.
use Rattle.std.proofs.Common.{◌≡◌, ◌≤◌, ◌+◌, ◌-◌, ℕ, zero, suc, List, [], ◌∷◌, ℤ, Option, Some}
use Rattle.std.proofs.Common.{None, Bool, true, false, if◌then◌else◌, refl, sym, ap, arith}
use Rattle.std.proofs.lemmas.Option.{none-some}
use Rattle.cache_model.specs.Event.{CacheEvent}
use Rattle.cache_model.specs.Cache.{Cache, view}
use Rattle.cache_model.specs.Play.{apply, play}
use Rattle.pmem.specs.Played.{PlaysAll}
use Rattle.pool_layout.specs.declared.limits.Sizes.{Sizes}
use Rattle.clobber_log.specs.Logs.{attempt_in, count_in}
use Rattle.pm_machine.specs.declared.image.Image.{Image}
use Rattle.pm_machine.specs.declared.records.Policy.TheVariants.{EndPool}
use Rattle.pool_map.specs.declared.trap.TrapKind.TheVariants.{LogFull}
use Rattle.pm_machine.specs.declared.effect.End.{End}
use Rattle.pm_machine.specs.declared.effect.End.TheVariants.{Halted, Trapped}
use Rattle.pm_machine.specs.Logging.{Logging, Plays, Stops, turn, missing, noted}
use Rattle.pm_machine.specs.Logging.{with_record, has_room}
use Rattle.pm_machine.specs.Machine.{State, StepOutcome, Goes, Ends, step, start}
use Rattle.pm_machine.specs.Runs.{heap_in, due, owing, played, end_of, due_on, logging_on}
use Rattle.tx_run.specs.Due.{due_seal, due_call, tail_steps}
use Rattle.tx_run.specs.Called.{call_steps}
use Rattle.tx_run.specs.Settled.{HasLogged}
use Rattle.workers_law.specs.AsCall.{quiet_on, begun_task, CalledLaw}
use Rattle.workers_law.specs.Fate.{task_steps}

pub plays_quiet : (lines : ℕ) (es : List CacheEvent) (c : Cache) →
    PlaysAll (quiet_on lines c) es (quiet_on lines (play c es))
plays_quiet lines [] c = refl
plays_quiet lines (e ∷ es) c = (((refl, none-some 0), tt), plays_quiet lines es (apply c e))

noted_more : (g : Logging) (o : Option ℕ) → g.count ≤ (noted g o).count
noted_more g None = omega arith
noted_more g (Some w) = omega arith

owing_more : (image : Image) (a k : ℕ) (g : Logging) (c : Cache) (o : StepOutcome) →
    ((h : Logging) (t : State) (d : Cache) → h.count ≤ (due image a k h t d).records) →
    g.count ≤ (owing image.parts.sizes a g (heap_in image.parts.sizes c)
    (λ es h t. due image a k h t (played image.parts.sizes a g c es))
    (turn image.parts.sizes.records g o)).records
owing_more image a k g c (Ends end) rest = omega arith
owing_more image a k g c (Goes e t) rest = go (has_room image.parts.sizes.records g (missing g e))
  where
    go : (b : Bool) → g.count ≤ (owing image.parts.sizes a g (heap_in image.parts.sizes c)
        (λ es h t. due image a k h t (played image.parts.sizes a g c es))
        (if b then Plays (with_record (missing g e) e) (noted g (missing g e)) t
        else Stops (Trapped LogFull))).records
    go true =
        let more = noted_more g (missing g e) in
        let later = rest (noted g (missing g e)) t
        (played image.parts.sizes a g c (with_record (missing g e) e)) in
        omega arith
    go false = omega arith

records_more : (image : Image) (a k : ℕ) (g : Logging) (s : State) (c : Cache) →
    g.count ≤ (due image a k g s c).records
records_more image a zero g s c = omega arith
records_more image a (suc k) g s c =
    owing_more image a k g c (step image s (heap_in image.parts.sizes c))
    (λ h t d. records_more image a k h t d)

logged : (image : Image) (tx : ℕ) (args : List ℤ) (c : Cache) →
    HasLogged ((due_on EndPool image (start image tx args) (play c (due_seal tx args c))).records
    - count_in image.parts.sizes (view (play c (due_seal tx args c)))) EndPool image
    (start image tx args) (play c (due_seal tx args c))
logged image tx args c =
    let b = play c (due_seal tx args c) in
    let z = image.parts.sizes in
    let more : count_in z (view b) ≤ (due_on EndPool image (start image tx args) b).records =
    records_more image (attempt_in z (view b)) image.parts.most (logging_on EndPool z b)
    (start image tx args) b in
    omega (arith, more)

-- no step follows a run where a trap ends the pool
no_tail : (z : Sizes) (end : End) (c : Cache) → tail_steps EndPool z end c ≡ 0
no_tail z (Halted v) c = refl
no_tail z (Trapped k) c = refl

with_none : (n m : ℕ) → m ≡ 0 → n + m ≡ n
with_none n m is = omega (arith, is)

steps_same : (image : Image) (tx : ℕ) (args : List ℤ) (lines : ℕ) (c : Cache) (k : ℕ) →
    k + task_steps image (begun_task image tx args) c
    ≡ k + call_steps EndPool image tx args (quiet_on lines c)
steps_same image tx args lines c k =
    let b = play c (due_seal tx args c) in
    let x = due_on EndPool image (start image tx args) b in
    ap (λ (m : ℕ). k + m)
    (sym (with_none x.steps
    (tail_steps EndPool image.parts.sizes (end_of x.fate) (play b x.events))
    (no_tail image.parts.sizes (end_of x.fate) (play b x.events))))

pub called : CalledLaw
called image tx args lines c k = (
  (λ v is. (
    record {
      fate = is;
      played = plays_quiet lines (due_call EndPool image tx args c) c;
      steps = steps_same image tx args lines c k;
    },
    logged image tx args c,
  )),
  (λ t is. (
    refl,
    record {
      fate = is;
      played = plays_quiet lines (due_call EndPool image tx args c) c;
      steps = steps_same image tx args lines c k;
    },
  )),
)
