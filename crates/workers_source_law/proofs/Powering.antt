-- The recoveries after a power cut, one compartment after another.
use Rattle.std.proofs.Common.{◌≡◌, ◌≢◌, ⊎_elim, inl, inr, ℕ, zero, suc, ◌+◌, ◌<◌, ◌≤◌, Bool, true}
use Rattle.std.proofs.Common.{false, nat_lt, if◌then◌else◌, List, [], ◌∷◌, length, Option, Some}
use Rattle.std.proofs.Common.{None, refl, sym, ap, ◌∙◌, subst, arith}
use Rattle.std.proofs.lemmas.Bool.{cases_eq, ltb-true, ltb-false}
use Rattle.cache_model.specs.Cache.{Words, Cache, view}
use Rattle.cache_model.specs.Collapse.{bad}
use Rattle.cache_model.specs.declared.choice.Choice.{Choice}
use Rattle.pmem.specs.Device.{Device, memory_of, powered}
use Rattle.pool_layout.specs.Sizes.{pool_lines}
use Rattle.recovery.specs.declared.answer.RecoverAnswer.{RecoverAnswer}
use Rattle.pool_workers.specs.declared.task.Task.{Task}
use Rattle.pool_workers.specs.Compartment.{first_line}
use Rattle.pool_workers.specs.Crew.{task_at, compartment}
use Rattle.workers_law.specs.Fenced.{fenced_cache}
use Rattle.workers_law.specs.Power.{picks_in}
use Rattle.workers_law.proofs.Powers.{power, fenced}
use Rattle.cnvm_session.specs.declared.answer.Answer.TheVariants as answer
use Rattle.cnvm_session.specs.declared.answer.Answer.{Answer}
use Rattle.cnvm_session.specs.declared.program.Program.{Program}
use Rattle.cnvm_session.specs.Commands.{fallen}
use Rattle.cnvm_session.specs.Marks.{policy_of, owes_marked, owes_unsigned}
use Rattle.cnvm_session.specs.Outcomes.{answer_of_recovery}
use Rattle.workers_session.specs.declared.line.WorkersLine.{WorkersLine}
use Rattle.workers_session.specs.declared.line.WorkersLine.TheVariants as line
use Rattle.workers_session.specs.WorkersCommands.{Scene, Unchanged, ends_power, keeps_down}
use Rattle.workers_session.specs.WorkersCommands.{RecoversOne, RecoversFrom, cut_scene, PowersAll}
use Rattle.session_law.specs.Agrees.{Agrees}
use Rattle.session_law.specs.State.{SourceState}
use Rattle.session_law.specs.Answers.{Powers}
use Rattle.workers_source_law.specs.States.{States}
use Rattle.workers_source_law.specs.Lines.{worker_image, RecoveryLines, PowerLines}
use Rattle.workers_source_law.proofs.Stills.{own}
use Rattle.workers_source_law.proofs.Invariants.{Stands, AllStand, changed, changed_own}
use Rattle.workers_source_law.proofs.Invariants.{changed_others, stands_fenced, stands_down}
use Rattle.workers_source_law.proofs.Invariants.{stands_either, IsAside, other_aside}
use Rattle.workers_source_law.proofs.Recoveries.{recovered_kept, ends_keeps, IsLeft, left_cut}
use Rattle.workers_source_law.proofs.Recoveries.{left_fenced, left_stands, recovery_gives}

module _ (program : Program) (super : Words) where
  stands_flag : (down keeps : Bool) (o : Option Task) (c : Cache) (s : SourceState)
      → Stands program super down o c s
      → Stands program super (if keeps then true else down) o c s
  stands_flag down true o c s is = stands_down program super down o o c s is
  stands_flag down false o c s is = is

  stands_kept : (keeps down : Bool) (o : Option Task) (c : Cache) (s : SourceState)
      → Stands program super keeps o c s
      → Stands program super (if keeps then true else down) o c s
  stands_kept true down o c s is = is
  stands_kept false down o c s is = stands_either program super down o c s is

module _ (program : Program) (supers : ℕ → Words) where
  module _ (agrees : Agrees program) (images : ℕ → Words) where
    -- the compartments below w are recovered, and the others still have these images
    pub record IsHalf (w : ℕ) (z : Scene) (s : States) : Type 0 where
      pub done : (j : ℕ) → j < length z.workers.tasks → j < w →
          Stands program (supers j) z.workers.down (task_at z.workers.tasks j)
          (own program j z.device) (s j)
      pub left : (j : ℕ) → j < length z.workers.tasks → w ≤ j →
          IsLeft program (supers j) (own program j z.device) (s j)
      pub seen : (j : ℕ) → j < length z.workers.tasks → w ≤ j
          → view (own program j z.device) ≡ images j

    half_down : (w : ℕ) (z : Scene) (s : States) → IsHalf w z s → z.workers.down ≡ true
        → AllStand program supers z s
    half_down w z s half down j less = go (nat_lt j w) refl
      where
        go : (b : Bool) → nat_lt j w ≡ b → Stands program (supers j) z.workers.down
            (task_at z.workers.tasks j) (own program j z.device) (s j)
        go true is = half.done j less (ltb-true j w is)
        go false is =
            subst (λ (d : Bool). Stands program (supers j) d (task_at z.workers.tasks j)
            (own program j z.device) (s j)) (sym down)
            (left_stands program (supers j) (task_at z.workers.tasks j)
            (own program j z.device) (s j) (half.left j less (ltb-false j w is)))

    abbrev Gives : ℕ → States → List WorkersLine → Scene → Type 0
    Gives w s lines y =
        (t : States) × RecoveryLines program images w lines s t × AllStand program supers y t

    module _ (worker : ℕ) (x z : Scene) (s : States) (a : RecoverAnswer)
        (half : IsHalf worker x s) (on : x.device.on ≡ true)
        (less : worker < length x.workers.tasks)
        (one : RecoversOne program worker a x z) where
      abbrev super : Words
      super = supers worker

      abbrev its_answer : Answer
      its_answer =
          answer_of_recovery (owes_unsigned program (compartment program.image worker x.device)) a

      mine : IsLeft program super (own program worker x.device) (s worker)
      mine = half.left worker less (omega arith)

      given : (t : SourceState) × Powers program (s worker) (view (own program worker x.device))
          its_answer t
          × Stands program super (keeps_down a) None (own program worker z.device) t
      given = recovery_gives program super agrees (compartment program.image worker x.device)
          (compartment program.image worker z.device) (s worker) mine on a x.steps z.steps
          one.recovered

      abbrev after_it : States
      after_it = changed worker given.0 s

      still_on : ends_power a ≡ false → z.device.on ≡ true
      still_on = (recovered_kept (compartment program.image worker x.device)
          (compartment program.image worker z.device) mine.marked on a
          (policy_of (owes_marked program (compartment program.image worker x.device)))
          program.image x.steps z.steps one.recovered).on

      told : Powers program (s worker) (images worker) its_answer (after_it worker)
      told =
          subst (λ (u : SourceState). Powers program (s worker) (images worker)
          its_answer u) (sym (changed_own worker given.0 s))
          (subst (λ (v : Words). Powers program (s worker) v its_answer given.0)
          (half.seen worker less (omega arith)) given.1)

      its_own : Stands program super z.workers.down (task_at z.workers.tasks worker)
          (own program worker z.device) (after_it worker)
      its_own =
          subst (λ (u : SourceState). Stands program super z.workers.down
          (task_at z.workers.tasks worker) (own program worker z.device) u)
          (sym (changed_own worker given.0 s))
          (subst (λ (o : Option Task). Stands program super z.workers.down o
          (own program worker z.device) given.0) (sym one.dropped)
          (subst (λ (b : Bool). Stands program super b None (own program worker z.device) given.0)
          (sym one.down)
          (stands_kept program super (keeps_down a) x.workers.down None
          (own program worker z.device) given.0 given.2)))

      other : (j : ℕ) → j ≢ worker → IsAside program j x.device z.device
      other j ne = other_aside program worker j x.device z.device ne one.aside

      next : IsHalf (suc worker) z after_it
      next = record {
        done = λ j fits below. ⊎_elim
            (λ (e : j ≡ worker). subst (λ (i : ℕ). Stands program (supers i) z.workers.down
            (task_at z.workers.tasks i) (own program i z.device) (after_it i)) (sym e) its_own)
            (λ (ne : j ≢ worker). earlier j fits below ne) (cases_eq j worker);
        left = λ j fits more. later j fits more (λ e. absurd (omega (arith, e, more)));
        seen = λ j fits more. looks j fits more (λ e. absurd (omega (arith, e, more)));
      }
        where
          earlier : (j : ℕ) → j < length z.workers.tasks → j < suc worker → j ≢ worker
              → Stands program (supers j) z.workers.down (task_at z.workers.tasks j)
              (own program j z.device) (after_it j)
          earlier j fits below ne =
              let there = other j ne in
              subst (λ (u : SourceState). Stands program (supers j) z.workers.down
              (task_at z.workers.tasks j) (own program j z.device) u)
              (sym (changed_others worker given.0 s j ne))
              (subst (λ (o : Option Task). Stands program (supers j) z.workers.down o
              (own program j z.device) (s j)) (sym (one.others j ne))
              (subst (λ (c : Cache). Stands program (supers j) z.workers.down
              (task_at x.workers.tasks j) c (s j)) (sym there.now)
              (subst (λ (b : Bool). Stands program (supers j) b (task_at x.workers.tasks j)
              (fenced_cache there.fenced (own program j x.device)) (s j)) (sym one.down)
              (stands_flag program (supers j) x.workers.down (keeps_down a)
              (task_at x.workers.tasks j) (fenced_cache there.fenced (own program j x.device)) (s j)
              (stands_fenced program (supers j) x.workers.down (task_at x.workers.tasks j)
              there.fenced (own program j x.device) (s j)
              (half.done j (let count = one.count in omega arith) (lower j below ne)))))))
            where
              lower : (j : ℕ) → j < suc worker → j ≢ worker → j < worker
              lower j below ne = grind arith

          later : (j : ℕ) → j < length z.workers.tasks → suc worker ≤ j → j ≢ worker
              → IsLeft program (supers j) (own program j z.device) (after_it j)
          later j fits more ne =
              let there = other j ne in
              subst (λ (u : SourceState). IsLeft program (supers j) (own program j z.device) u)
              (sym (changed_others worker given.0 s j ne))
              (subst (λ (c : Cache). IsLeft program (supers j) c (s j)) (sym there.now)
              (left_fenced program (supers j) there.fenced (own program j x.device) (s j)
              (half.left j (let count = one.count in omega arith) (omega arith))))

          looks : (j : ℕ) → j < length z.workers.tasks → suc worker ≤ j → j ≢ worker
              → view (own program j z.device) ≡ images j
          looks j fits more ne =
              let there = other j ne in
              ap view there.now ∙ (fenced there.fenced (own program j x.device)).1
              ∙ half.seen j (let count = one.count in omega arith) (omega arith)

    by_over : (w : ℕ) (y z : Scene) (r : States) (rest : List WorkersLine) (a : RecoverAnswer)
        → IsHalf w z r → (ends_power a ≡ true → z.workers.down ≡ true)
        → (ends_power a ≡ true → Unchanged [] z rest y)
        → (ends_power a ≡ false → Gives w r rest y)
        → (over : Bool) → ends_power a ≡ over → Gives w r rest y
    by_over w y z r rest a half down over goes true is =
        let same = over is in (
          r,
          subst (λ (ls : List WorkersLine). RecoveryLines program images w ls r r) (sym same.0)
              refl,
          subst (λ (v : Scene). AllStand program supers v r) (sym same.1)
              (half_down w z r half (down is)),
        )
    by_over w y z r rest a half down over goes false is = goes is

    -- an interrupted recovery keeps the workers down
    down_if : (a : RecoverAnswer) (down now : Bool) → now ≡ (if keeps_down a then true else down)
        → ends_power a ≡ true → now ≡ true
    down_if a down now is over =
        is ∙ ap (λ (b : Bool). if b then true else down) (ends_keeps a over)

    pub recoveries_give : (n worker : ℕ) (x y : Scene) (s : States) (lines : List WorkersLine)
        → worker + n ≡ length x.workers.tasks → IsHalf worker x s → x.device.on ≡ true
        → RecoversFrom program worker n x lines y → Gives worker s lines y
    recoveries_give zero worker x y s lines count half on is = (
      s,
      subst (λ (ls : List WorkersLine). RecoveryLines program images worker ls s s) (sym is.0) refl,
      subst (λ (v : Scene). AllStand program supers v s) (sym is.1)
          (λ j less. half.done j less (omega arith)),
    )
    recoveries_give (suc n) worker x y s lines count half on is =
        let a = is.0 in
        let z = is.2 in
        let one = is.3 in
        let less : worker < length x.workers.tasks = omega arith in
        let r : States = after_it worker x z s a half on less one in
        let more = by_over (suc worker) y z r is.1 a (next worker x z s a half on less one)
        (down_if a x.workers.down z.workers.down one.down) is.5.0
        (λ goes. recoveries_give n (suc worker) z y r is.1
        (let same = one.count in omega arith)
        (next worker x z s a half on less one)
        (still_on worker x z s a half on less one goes) (is.5.1 goes)) (ends_power a) refl in (
          more.0,
          subst (λ (ls : List WorkersLine). RecoveryLines program images worker ls s more.0)
              (sym is.4) (
                its_answer worker x z s a half on less one,
                r,
                refl,
                told worker x z s a half on less one,
                changed_others worker (given worker x z s a half on less one).0 s,
                more.1,
              ),
          more.2,
        )

  -- the images that a power cut leaves
  abbrev images_left : Device → ℕ → Words
  images_left cut worker = worker_image program worker cut

  pub powers_give : (agrees : Agrees program) (choice : Choice) (x y : Scene) (s : States)
      (lines : List WorkersLine) → AllStand program supers x s
      → PowersAll program choice x lines y
      → (t : States) × PowerLines program (powered choice x.device) lines s t
      × AllStand program supers y t
  powers_give agrees choice x y s lines all is =
      fits (fallen 0 choice.picks) (bad (memory_of x.device) choice.picks) refl refl
    where
      refused : (at : ℕ) → lines ≡ line.Plain (answer.RefusedPick at) ∷ [] → y ≡ x
          → (t : States) × PowerLines program (powered choice x.device) lines s t
          × AllStand program supers y t
      refused at told same = (
        s,
        inl (at, told, refl),
        subst (λ (v : Scene). AllStand program supers v s) (sym same) all,
      )

      begins : IsHalf agrees (images_left (powered choice x.device)) 0 (cut_scene choice x) s
      begins = record {
        done = λ j fits below. absurd (omega (arith, below));
        left = λ j fits more.
            subst (λ (c : Cache). IsLeft program (supers j) c (s j))
            (sym (power (first_line program.image.parts.sizes j)
            (pool_lines program.image.parts.sizes) x.device.cache choice.rest choice.picks).0)
            (left_cut program (supers j) x.workers.down (task_at x.workers.tasks j)
            (own program j x.device) (s j) choice.rest
            (picks_in (first_line program.image.parts.sizes j)
            (pool_lines program.image.parts.sizes) choice.picks) (all j fits));
        seen = λ j fits more. refl;
      }

      fits : (falls lacks : Option ℕ) → fallen 0 choice.picks ≡ falls
          → bad (memory_of x.device) choice.picks ≡ lacks
          → (t : States) × PowerLines program (powered choice x.device) lines s t
          × AllStand program supers y t
      fits (Some l) lacks falls is_bad =
          let why = is.0 l falls in refused l why.0 why.1
      fits None (Some l) falls is_bad =
          let why = is.1 l falls is_bad in refused l why.0 why.1
      fits None None falls is_bad =
          let done = recoveries_give agrees (images_left (powered choice x.device))
          (length x.workers.tasks) 0 (cut_scene choice x) y s lines (omega arith) begins refl
          (is.2 falls is_bad) in
          (done.0, inr done.1, done.2)
