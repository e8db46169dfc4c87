-- A call of a transaction that only looks, on a device at rest: it is answered as the source says,
-- and changes nothing.
use Rattle.std.proofs.Common.{◌≡◌, ◌⊎◌, inl, inr, ⊎_elim, ℕ, ◌+◌, Bool, true, List, [], ◌∷◌, length}
use Rattle.std.proofs.Common.{Some, None, ℤ, refl, sym, ap, ◌∙◌, subst, arith}
use Rattle.cache_model.specs.Cache.{Words}
use Rattle.pmem.specs.Device.{Device}
use Rattle.pmem.specs.declared.answer.Phase.{Phase}
use Rattle.c_meaning.specs.Transaction.{Outcome, Done, Trap}
use Rattle.pm_machine.specs.declared.effect.Effect.{Effect}
use Rattle.pm_machine.specs.declared.effect.Effect.TheVariants.{Loads, Scans, Stores, Logs, Flushes}
use Rattle.pm_machine.specs.declared.effect.Effect.TheVariants.{Fences, Quiet}
use Rattle.pm_machine.specs.declared.effect.End.{End}
use Rattle.pm_machine.specs.declared.effect.End.TheVariants.{Halted, Trapped}
use Rattle.pm_machine.specs.declared.records.Policy.{Policy}
use Rattle.pm_machine.specs.declared.records.Policy.TheVariants.{EndPool, RollBack}
use Rattle.pm_machine.specs.declared.image.Image.{Image}
use Rattle.pm_machine.specs.Effects.{heap_end, records_end, steps_in}
use Rattle.pm_machine.specs.Machine.{start, Finished}
use Rattle.pm_machine.specs.Logging.{Logging, blank, begun, with_records, tx_run}
use Rattle.pm_machine.specs.Looking.{AreLooks}
use Rattle.pm_machine.specs.Law.{IsLookOf}
use Rattle.pm_machine.specs.Runs.{heap_in}
use Rattle.pm_machine.proofs.Looked.{look_run}
use Rattle.pm_machine.proofs.Recording.{records_law}
use Rattle.cut_law.specs.Steps.{back_steps, run_steps}
use Rattle.tx_run.specs.Looked.{look_answer, look_at, IsLooked}
use Rattle.tx_run.specs.declared.looking.LookAnswer.{LookAnswer}
use Rattle.tx_run.specs.declared.looking.LookAnswer.TheVariants as looked
use Rattle.cnvm_session.specs.declared.mode.Mode.TheVariants as mode
use Rattle.cnvm_session.specs.declared.answer.Answer.{Answer}
use Rattle.cnvm_session.specs.declared.answer.Answer.TheVariants as answer
use Rattle.cnvm_session.specs.declared.program.Program.{Program}
use Rattle.cnvm_session.specs.Commands.{tx_parameters}
use Rattle.cnvm_session.specs.Marks.{looks_of, policy_of, unsigned_of}
use Rattle.cnvm_session.specs.Outcomes.{answer_of_look, mode_of_look}
use Rattle.cnvm_session.specs.Pool.{sizes_of}
use Rattle.session_law.specs.Source.{means}
use Rattle.session_law.specs.Words.{AreWords}
use Rattle.session_law.specs.Agrees.{Agrees, Matches, RunsAs}
use Rattle.session_law.specs.State.{Standing, Ready, Down, SourceState, standing_as}
use Rattle.session_law.specs.Answers.{Looks}
use Rattle.session_law.specs.Holds.{IsResting, HoldsAs, Holds}
use Rattle.session_law.specs.Law.{RanToEnd, TakesBy}
use Rattle.session_law.proofs.Words.{held_words}
use Rattle.session_law.proofs.images.Resting.{resting_down, trapped_of}

-- what the source knows after a look: the same; or there was no memory, and the session is down
pub looked_state : (program : Program) (s t : SourceState) (tx : ℕ) (args : List ℤ) (a : Answer)
    → Looks program s tx args a t
    → (t ≡ s) ⊎ ((a ≡ answer.NoMemory) × (t ≡ standing_as (Down None) s))
looked_state program s t tx args (answer.Done v u l) is = inl is.2
looked_state program s t tx args (answer.Aborted kind) is = inl is.1
looked_state program s t tx args answer.NoMemory is = inr (refl, is)
looked_state program s t tx args answer.Silent is = absurd is
looked_state program s t tx args (answer.Trap kind) is = absurd is
looked_state program s t tx args (answer.Stopped p) is = absurd is
looked_state program s t tx args answer.DeviceFault is = absurd is
looked_state program s t tx args answer.RecoveredNone is = absurd is
looked_state program s t tx args (answer.RecoveredRedone v u l) is = absurd is
looked_state program s t tx args (answer.RecoveredTrap kind) is = absurd is
looked_state program s t tx args (answer.RecoveredAborted kind) is = absurd is
looked_state program s t tx args (answer.Shown text) is = absurd is
looked_state program s t tx args (answer.ShownDead trap text) is = absurd is
looked_state program s t tx args (answer.Last n v) is = absurd is
looked_state program s t tx args answer.RefusedDown is = absurd is
looked_state program s t tx args (answer.RefusedUnusable kind) is = absurd is
looked_state program s t tx args answer.RefusedUnknown is = absurd is
looked_state program s t tx args answer.RefusedArity is = absurd is
looked_state program s t tx args answer.RefusedNumbers is = absurd is
looked_state program s t tx args (answer.RefusedPick line) is = absurd is

-- a device that is on is seen to be on
never_off : (e : End) → look_answer e ≡ looked.Off → ⊥
never_off (Halted v) is = absurd cc
never_off (Trapped kind) is = absurd cc

pub look_is_on : (r : LookAnswer) (image : Image) (tx : ℕ) (args : List ℤ) (d : Device) (k k1 : ℕ)
    → d.on ≡ true → IsLooked r image tx args d k k1 → r ≡ looked.Off → ⊥
look_is_on r image tx args d k k1 on is off =
    ⊎_elim (λ ran. never_off (look_at image tx args d).end (sym ran.0 ∙ off))
    (λ none. let clash : looked.NoMemory ≡ looked.Off = sym none.0 ∙ off in absurd cc) (is.on on)

-- so its call is never stopped
pub stopped_look : (u : Bool) (r : LookAnswer) (at : Phase)
    → answer.Stopped at ≡ answer_of_look u r → r ≡ looked.Off
stopped_look u (looked.Done v) at is = absurd cc
stopped_look u (looked.Aborted kind) at is = absurd cc
stopped_look u looked.Off at is = refl
stopped_look u looked.NoMemory at is = absurd cc

-- a run that only looks takes no record
look_records : (C : ℕ) (g : Logging) (end : End) (es : List Effect) → AreLooks es
    → with_records C g end es ≡ Finished end es
look_records C g end [] looks = refl
look_records C g end (Loads w ∷ es) looks =
    ap (begun (Loads w ∷ [])) (look_records C g end es looks.1)
look_records C g end (Fences ∷ es) looks =
    ap (begun (Fences ∷ [])) (look_records C g end es looks.1)
look_records C g end (Quiet ∷ es) looks =
    ap (begun (Quiet ∷ [])) (look_records C g end es looks.1)
look_records C g end (Scans w apart m ∷ es) looks = let no = looks.0 in absurd cc
look_records C g end (Stores w x ∷ es) looks = let no = looks.0 in absurd cc
look_records C g end (Logs w ∷ es) looks = let no = looks.0 in absurd cc
look_records C g end (Flushes l ∷ es) looks = let no = looks.0 in absurd cc

-- it has a step for each effect, and one for its end
look_steps : (es : List Effect) → AreLooks es → (steps_in es ≡ length es)
    × ((n : ℕ) → records_end n es ≡ n)
look_steps [] looks = (refl, λ n. refl)
look_steps (Loads w ∷ es) looks =
    let rest = look_steps es looks.1 in
    let same = rest.0 in (omega (arith, same), rest.1)
look_steps (Fences ∷ es) looks =
    let rest = look_steps es looks.1 in
    let same = rest.0 in (omega (arith, same), rest.1)
look_steps (Quiet ∷ es) looks =
    let rest = look_steps es looks.1 in
    let same = rest.0 in (omega (arith, same), rest.1)
look_steps (Scans w apart m ∷ es) looks = let no = looks.0 in absurd cc
look_steps (Stores w x ∷ es) looks = let no = looks.0 in absurd cc
look_steps (Logs w ∷ es) looks = let no = looks.0 in absurd cc
look_steps (Flushes l ∷ es) looks = let no = looks.0 in absurd cc

-- and nothing to put back
look_back : (p : Policy) (end : End) (es : List Effect) → AreLooks es → back_steps p end es ≡ 0
look_back p (Halted v) es looks = refl
look_back EndPool (Trapped kind) es looks = refl
look_back RollBack (Trapped kind) es looks = (look_steps es looks).1 0

run_length : (p : Policy) (end : End) (es : List Effect) → AreLooks es
    → run_steps p end es ≡ length es + 1
run_length p end es looks =
    let steps = (look_steps es looks).0 in
    let back = look_back p end es looks in
    omega (arith, steps, back)

module _ (program : Program) (super : Words) (agrees : Agrees program) (d : Device)
    (s : SourceState) (resting : IsResting program super d s) (tx : ℕ) (args : List ℤ)
    (takes : tx_parameters program.image tx ≡ Some (length args)) (words : AreWords args)
    (looks : looks_of program tx ≡ true) where
  abbrev h : Words
  h = heap_in (sizes_of program) d.cache

  runs : RunsAs program h tx args
  runs = agrees.runs h tx args resting.holds.headers (held_words program h s resting.holds)
      words takes

  own : IsLookOf program.image program.image.parts.most (start program.image tx args) h runs.end
      runs.effects
  own = look_run program.image program.image.parts.most (start program.image tx args) h runs.end
      runs.effects runs.ran (runs.looks looks)

  -- the source's answer, on the heap as it is
  meant : Matches program (means program s.pool tx args) (look_at program.image tx args d).end h
  meant =
      subst (λ (e : End). Matches program (means program s.pool tx args) e h) (sym own.end_is)
      (subst (λ (g : Words). Matches program (means program s.pool tx args) runs.end g) own.heap_is
      (subst (λ (p : _). Matches program (means program p tx args) runs.end
      (heap_end h runs.effects)) resting.holds.pool runs.matches))

  done_of : (o : Outcome) (v : ℤ) → Matches program o (Halted v) h → o ≡ Done s.pool v
  done_of (Done pool value) v is =
      let same : pool ≡ s.pool = sym is.2 ∙ resting.holds.pool in
      λ i. Done (same i) (sym is.0 i)
  done_of (Trap kind) v is = absurd is

  abbrev Answered : LookAnswer → Type 0
  Answered r =
      (t : SourceState) × Looks program s tx args (answer_of_look (unsigned_of program tx) r) t
      × Holds program super (mode_of_look r) d t

  module _ (ready : s.standing ≡ Ready) where
    at_ready : Holds program super mode.Ready d s
    at_ready = subst (λ (x : Standing). HoldsAs x program super mode.Ready d s) (sym ready)
        (refl, resting)

    by_end : (e : End) → Matches program (means program s.pool tx args) e h
        → Answered (look_answer e)
    by_end (Halted v) is =
        (s, (done_of (means program s.pool tx args) v is, refl, refl, refl), at_ready)
    by_end (Trapped kind) is =
        (s, (trapped_of program (means program s.pool tx args) kind h is, refl), at_ready)

    pub look_runs : (r : LookAnswer) (k k1 : ℕ) → IsLooked r program.image tx args d k k1
        → Answered r
    look_runs r k k1 is =
        ⊎_elim (λ ran. subst Answered (sym ran.0)
        (by_end (look_at program.image tx args d).end meant))
        (λ none. subst Answered (sym none.0)
        (standing_as (Down None) s, refl, (refl, resting_down program super d s resting)))
        (is.on resting.on)

  -- a look that is run to its end takes the steps of its run
  look_counts : (u : Bool) (p : Policy) (r : LookAnswer) (k k1 : ℕ)
      → RanToEnd (answer_of_look u r)
      → IsLooked r program.image tx args d k k1
      → (tx_run p program.image program.image.parts.most h tx args
      ≡ Finished runs.end runs.effects) × (k1 ≡ k + run_steps p runs.end runs.effects)
  look_counts u p r k k1 ran_to is = (
    records_law program.image program.image.parts.most (blank p) (start program.image tx args) h
        runs.end runs.effects runs.ran
        ∙ look_records (sizes_of program).records (blank p) runs.end runs.effects
        (runs.looks looks),
    ⊎_elim counted (λ none. absurd (subst (λ (x : LookAnswer). RanToEnd (answer_of_look u x)) none.0
        ran_to)) (is.on resting.on),
  )
    where
      counted : (r ≡ look_answer (look_at program.image tx args d).end)
          × (k1 ≡ k + (look_at program.image tx args d).steps)
          → k1 ≡ k + run_steps p runs.end runs.effects
      counted ran =
          ran.1 ∙ ap (λ (n : ℕ). k + n) (own.steps_are
          ∙ sym (run_length p runs.end runs.effects (runs.looks looks)))

  pub look_takes : (marked u : Bool) (r : LookAnswer) (k k1 : ℕ) → RanToEnd (answer_of_look u r)
      → IsLooked r program.image tx args d k k1
      → (taken : ℕ) × TakesBy marked program (heap_in (sizes_of program) d.cache) tx args taken
      × (k1 ≡ k + taken)
  look_takes marked u r k k1 ran_to is =
      let counts = look_counts u (policy_of marked) r k k1 ran_to is in (
        run_steps (policy_of marked) runs.end runs.effects,
        (runs.end, runs.effects, counts.0, refl),
        counts.1,
      )
