-- What is kept of each worker between two commands, and what another worker's events leave of it.
use Rattle.std.proofs.Common.{◌≡◌, ◌≢◌, ⊎_elim, ℕ, ◌<◌, Bool, true, false, ◌==◌, cond, length}
use Rattle.std.proofs.Common.{Option, Some, None, refl, sym, ap, ◌∙◌, subst, arith, ne_eqb, eq-eqb}
use Rattle.std.proofs.lemmas.Bool.{cases_eq}
use Rattle.cache_model.specs.Cache.{Words, Cache}
use Rattle.cache_model.specs.Image.{Images}
use Rattle.pmem.specs.Device.{Device}
use Rattle.pool_layout.specs.Sizes.{pool_lines}
use Rattle.pool_layout.specs.Good.{Lost}
use Rattle.pool_map.specs.declared.trap.TrapKind.{TrapKind}
use Rattle.pool_map.specs.Trap.{trap_number}
use Rattle.crash_law.specs.Law.{AreMarked}
use Rattle.pool_workers.specs.declared.task.Task.{Task}
use Rattle.pool_workers.specs.Compartment.{first_line}
use Rattle.pool_workers.specs.Crew.{task_at, OtherTasksStay, StaysAside}
use Rattle.workers_law.specs.Fenced.{fenced_cache}
use Rattle.workers_law.proofs.Asides.{aside_in}
use Rattle.workers_law.proofs.Compartments.{apart}
use Rattle.cnvm_session.specs.declared.program.Program.{Program}
use Rattle.cnvm_session.specs.Marks.{rolls_back_of}
use Rattle.workers_session.specs.WorkersCommands.{Scene}
use Rattle.session_law.specs.State.{Pending, Standing, Ready, Down, Unusable, SourceState}
use Rattle.session_law.specs.Holds.{IsResting, OwesBy, HeldAs}
use Rattle.session_law.proofs.images.Resting.{resting_owes}
use Rattle.workers_source_law.specs.States.{States, RestStays}
use Rattle.workers_source_law.proofs.Stills.{still, own, fewer_fenced, marks_fenced, rest_fenced}
use Rattle.workers_source_law.proofs.Stills.{fewer_held}
use Rattle.workers_source_law.proofs.AtLook.{IsBusyIn, busy_fenced}

-- while the workers aren't down
abbrev pub UpAs : Standing → Program → Words → Option Task → Cache → SourceState → Type 0
UpAs Ready program super o c s = (o ≡ None) × IsResting program super (still c) s
UpAs (Down None) program super o c s = ⊥
UpAs (Down (Some call)) program super o c s =
    (t : Task) × (o ≡ Some t) × IsBusyIn program super call t c s
UpAs (Unusable kind) program super o c s = o ≡ None

-- a worker with this task and the cache of its compartment, in this state
pub record Stands (program : Program) (super : Words) (down : Bool) (o : Option Task) (c : Cache)
    (s : SourceState) : Type 0 where
  pub marked : AreMarked c
  pub held : HeldAs s.standing program super (still c) s
  pub up : down ≡ false → UpAs s.standing program super o c s

-- so it is for each; the words of lines 0 and 1 are the compartment's own
abbrev pub AllStand : Program → (supers : ℕ → Words) → Scene → States → Type 0
AllStand program supers x s =
    (j : ℕ) → j < length x.workers.tasks →
    Stands program (supers j) x.workers.down (task_at x.workers.tasks j) (own program j x.device)
    (s j)

-- states with another one for a worker

abbrev pub changed : ℕ → SourceState → States → States
changed worker u s j = cond (j == worker) u (s j)

pub changed_own : (worker : ℕ) (u : SourceState) (s : States) → changed worker u s worker ≡ u
changed_own worker u s = ap (λ (b : Bool). cond b u (s worker)) (eq-eqb worker worker refl)

pub changed_others : (worker : ℕ) (u : SourceState) (s : States)
    → RestStays worker s (changed worker u s)
changed_others worker u s j ne = ap (λ (b : Bool). cond b u (s j)) (ne_eqb j worker ne)

module _ (program : Program) (super : Words) where
  up_fenced : (st : Standing) (o : Option Task) (k : Bool) (c : Cache) (s : SourceState)
      → UpAs st program super o c s → UpAs st program super o (fenced_cache k c) s
  up_fenced Ready o k c s up = (up.0, rest_fenced program super k c s up.1)
  up_fenced (Down None) o k c s up = up
  up_fenced (Down (Some call)) o k c s up =
      (up.0, up.1, busy_fenced program super call up.0 s k c up.2)
  up_fenced (Unusable kind) o k c s up = up

  pub stands_fenced : (down : Bool) (o : Option Task) (k : Bool) (c : Cache) (s : SourceState)
      → Stands program super down o c s → Stands program super down o (fenced_cache k c) s
  stands_fenced down o k c s is = record {
    marked = marks_fenced k c is.marked;
    held = fewer_held program super s.standing (still c) (still (fenced_cache k c)) s
        (fewer_fenced k c) is.held;
    up = λ up. up_fenced s.standing o k c s (is.up up);
  }

  -- once the workers are down, nothing is known of a task
  pub stands_down : (down : Bool) (o p : Option Task) (c : Cache) (s : SourceState)
      → Stands program super down o c s → Stands program super true p c s
  stands_down down o p c s is = record {
    marked = is.marked;
    held = is.held;
    up = λ up. absurd cc;
  }

  pub stands_either : (down : Bool) (o : Option Task) (c : Cache) (s : SourceState)
      → Stands program super false o c s → Stands program super down o c s
  stands_either true o c s is = stands_down false o o c s is
  stands_either false o c s is = is

  -- the transaction that a busy worker owes
  pub record AtCall (t : Task) (c : Cache) (s : SourceState) : Type 0 where
    pub call : Pending
    pub standing : s.standing ≡ Down (Some call)
    pub busy : IsBusyIn program super call t c s

  pub busy_at : (o : Option Task) (t : Task) (c : Cache) (s : SourceState)
      → Stands program super false o c s → o ≡ Some t → AtCall t c s
  busy_at o t c s is busy = go s.standing refl (is.up refl)
    where
      go : (st : Standing) → s.standing ≡ st → UpAs st program super o c s → AtCall t c s
      go Ready standing up = let no = sym up.0 ∙ busy in absurd cc
      go (Down None) standing up = absurd up
      go (Down (Some call)) standing up = record {
        call = call;
        standing = standing;
        busy = subst (λ (u : Task). IsBusyIn program super call u c s)
            (let same = sym up.1 ∙ busy in cc) up.2;
      }
      go (Unusable kind) standing up = let no = sym up ∙ busy in absurd cc

  -- an idle worker whose compartment has no mark is at rest
  pub stands_work : (call : Pending) (down : Bool) (o : Option Task) (c : Cache) (s : SourceState)
      → s.standing ≡ Down (Some call) → AreMarked c → OwesBy false program super call (still c) s
      → rolls_back_of program call.tx ≡ false
      → (down ≡ false → (t : Task) × (o ≡ Some t) × IsBusyIn program super call t c s)
      → Stands program super down o c s
  stands_work call down o c s standing marked owes plain up = record {
    marked = marked;
    held = subst (λ (st : Standing). HeldAs st program super (still c) s) (sym standing)
        (subst (λ (b : Bool). OwesBy b program super call (still c) s) (sym plain) owes);
    up = λ is. subst (λ (st : Standing). UpAs st program super o c s) (sym standing) (up is);
  }

  pub stands_rest : (down : Bool) (c : Cache) (s : SourceState) → s.standing ≡ Ready
      → AreMarked c → IsResting program super (still c) s → Stands program super down None c s
  stands_rest down c s standing marked rests = record {
    marked = marked;
    held = subst (λ (st : Standing). HeldAs st program super (still c) s) (sym standing)
        (resting_owes program super (still c) s rests);
    up = λ is. subst (λ (st : Standing). UpAs st program super None c s) (sym standing)
        (refl, rests);
  }

  pub stands_lost : (down : Bool) (c : Cache) (s : SourceState) (kind : TrapKind)
      → s.standing ≡ Unusable kind → AreMarked c
      → Images (Lost program.image.parts.sizes (trap_number kind)) c
      → Stands program super down None c s
  stands_lost down c s kind standing marked lost = record {
    marked = marked;
    held = subst (λ (st : Standing). HeldAs st program super (still c) s) (sym standing) lost;
    up = λ is. subst (λ (st : Standing). UpAs st program super None c s) (sym standing) refl;
  }

module _ (program : Program) where
  -- another worker's compartment
  pub record IsAside (j : ℕ) (d b : Device) : Type 0 where
    pub fenced : Bool
    pub now : own program j b ≡ fenced_cache fenced (own program j d)

  pub other_aside : (worker j : ℕ) (d b : Device) → j ≢ worker
      → StaysAside program.image worker d b → IsAside j d b
  other_aside worker j d b ne aside = record {
    fenced = aside.fenced;
    now = aside_in (first_line program.image.parts.sizes worker)
        (pool_lines program.image.parts.sizes) (first_line program.image.parts.sizes j)
        (pool_lines program.image.parts.sizes) aside.fenced d.cache b.cache
        (apart (pool_lines program.image.parts.sizes) worker j (λ e. ne (sym e))) aside.others;
  }

  -- a worker's events leave the others as they were
  pub others_stand : (supers : ℕ → Words) (worker : ℕ) (x y : Scene) (s t : States)
      → length y.workers.tasks ≡ length x.workers.tasks
      → OtherTasksStay worker x.workers.tasks y.workers.tasks
      → StaysAside program.image worker x.device y.device → RestStays worker s t
      → x.workers.down ≡ false → AllStand program supers x s
      → (worker < length x.workers.tasks → Stands program (supers worker) y.workers.down
      (task_at y.workers.tasks worker) (own program worker y.device) (t worker))
      → AllStand program supers y t
  others_stand supers worker x y s t count tasks aside stay up all mine j less =
      ⊎_elim
      (λ (e : j ≡ worker). subst (λ (i : ℕ). Stands program (supers i) y.workers.down
      (task_at y.workers.tasks i) (own program i y.device) (t i)) (sym e)
      (mine (omega (arith, e, less, count))))
      (λ (ne : j ≢ worker).
      let there = other_aside worker j x.device y.device ne aside in
      subst (λ (u : SourceState). Stands program (supers j) y.workers.down
      (task_at y.workers.tasks j) (own program j y.device) u) (sym (stay j ne))
      (subst (λ (o : Option Task). Stands program (supers j) y.workers.down o
      (own program j y.device) (s j)) (sym (tasks j ne))
      (subst (λ (c : Cache). Stands program (supers j) y.workers.down (task_at x.workers.tasks j) c
      (s j)) (sym there.now)
      (stands_either program (supers j) y.workers.down (task_at x.workers.tasks j)
      (fenced_cache there.fenced (own program j x.device)) (s j)
      (stands_fenced program (supers j) false (task_at x.workers.tasks j) there.fenced
      (own program j x.device) (s j)
      (subst (λ (down : Bool). Stands program (supers j) down (task_at x.workers.tasks j)
      (own program j x.device) (s j)) up (all j (omega (arith, less, count)))))))))
      (cases_eq j worker)
