-- A session is a chain of steps: it appends to the history, and keeps what the laws promise.
use Rattle.std.proofs.Common.{◌≡◌, ℕ, ℤ, ◌+◌, List, [], ◌∷◌, ◌++◌, length, refl, sym, ap, ◌∙◌}
use Rattle.std.proofs.Common.{subst, arith, append_assoc, append-nil, length-append}
use Rattle.std.specs.List.{AllByRecursion}
use Rattle.cache_model.specs.Cache.{Words}
use Rattle.pmem.specs.Device.{Device}
use Rattle.pool_layout.specs.Image.{image_words}
use Rattle.pool_map.specs.PoolMap.{PoolMap, empty_pool}
use Rattle.pm_machine.specs.Runs.{heap_in}
use Rattle.cnvm_script.specs.declared.command.Command.{Command}
use Rattle.cnvm_script.specs.declared.command.Command.TheVariants as command
use Rattle.cnvm_session.specs.declared.answer.Answer.{Answer}
use Rattle.cnvm_session.specs.declared.mode.Mode.{Mode}
use Rattle.cnvm_session.specs.declared.program.Program.{Program}
use Rattle.cnvm_session.specs.Commands.{call_number, Commanded}
use Rattle.cnvm_session.specs.Pool.{sizes_of}
use Rattle.session_law.specs.Source.{source_pool}
use Rattle.session_law.specs.Agrees.{Agrees}
use Rattle.session_law.specs.State.{Pending, Standing, Ready, SourceState}
use Rattle.session_law.specs.Holds.{HoldsAs, Holds}
use Rattle.session_law.specs.History.{recovered_by, LeadsTo, call_to, counted, call_in, calls_in}
use Rattle.session_law.specs.History.{called_by, done_by, history_after, answered_by, answered_in}
use Rattle.session_law.specs.History.{IsPart}
use Rattle.session_law.specs.Ran.{found_by, Moment, SessionStep, Ran, fresh_moment, OpenStep}
use Rattle.session_law.specs.Opened.{opened}
use Rattle.session_law.specs.Law.{SessionLaw, IsWordCommand, RunsAll, SessionRunLaw, KeptLaw}
use Rattle.session_law.specs.Law.{HasGrown, HistoryLaw, IsAfter, WholeLaw, OpenedLaw}
use Rattle.session_law.proofs.answers.Opening.{OpenedAnswers}
use Rattle.session_law.proofs.chains.Histories.{part_none, part_same, part_append, leads_append}
use Rattle.session_law.proofs.chains.Histories.{both}
use Rattle.session_law.proofs.chains.Histories.{same_done, powers_done, answer_done}

module _ (law : SessionLaw) (program : Program) (super : Words)
    (agrees : Agrees program) where
  -- the moment after a step
  pub steps_on : (c : Command) (x : Moment) (a : Answer) (n : Mode) (b : Device) (k1 : ℕ) →
      IsWordCommand c → Holds program super x.mode x.device x.state →
      Commanded program c x.mode x.device a n b x.steps k1
      → (t : SourceState)
      × SessionStep program super c x a
      (record {
        mode = n;
        device = b;
        steps = k1;
        state = t;
        history = history_after program x.state (found_by c x.device) c a x.history;
      })
  steps_on c x a n b k1 words holds did =
      let next = law program super c x.mode n x.device b x.state a x.steps k1 agrees words
      holds did in
      (next.0, record { did = did; meant = next.1; holds = next.2; history = refl })

  abbrev RunsAfter : List Command → List Answer → Moment → Mode → Device → ℕ → Type 0
  RunsAfter commands answers x n b k1 =
      (t : SourceState) × (history : List Pending)
      × Ran program super commands answers x
      (record { mode = n; device = b; steps = k1; state = t; history = history })

  pub runs_on :
      (commands : List Command) (answers : List Answer) (x : Moment) (n : Mode) (b : Device)
      (k1 : ℕ) →
      AllByRecursion IsWordCommand commands → Holds program super x.mode x.device x.state
      → RunsAll program commands answers x.mode x.device x.steps n b k1 →
      RunsAfter commands answers x n b k1
  runs_on [] [] x n b k1 words holds runs = (
    x.state,
    x.history,
    (λ i. record {
      mode = runs.0 i;
      device = runs.1 i;
      steps = runs.2 i;
      state = x.state;
      history = x.history;
    }),
  )
  runs_on [] (a ∷ answers) x n b k1 words holds runs = absurd runs
  runs_on (c ∷ commands) [] x n b k1 words holds runs = absurd runs
  runs_on (c ∷ commands) (a ∷ answers) x n b k1 words holds runs =
      let one = steps_on c x a runs.0 runs.1 runs.2 words.0 holds runs.3 in
      let y : Moment = record {
        mode = runs.0;
        device = runs.1;
        steps = runs.2;
        state = one.0;
        history = history_after program x.state (found_by c x.device) c a x.history;
      } in
      let rest = runs_on commands answers y n b k1 words.1 one.1.holds runs.4 in
      (rest.0, rest.1, (y, one.1, rest.2))

pub run_chain : SessionLaw → SessionRunLaw
run_chain law program super commands answers x n b k1 agrees words holds runs =
    runs_on law program super agrees commands answers x n b k1 words holds runs

pub chain_kept : KeptLaw
chain_kept program super [] [] x y holds same =
    subst (λ (z : Moment). Holds program super z.mode z.device z.state) (sym same) holds
chain_kept program super [] (a ∷ answers) x y holds ran = absurd ran
chain_kept program super (c ∷ commands) [] x y holds ran = absurd ran
chain_kept program super (c ∷ commands) (a ∷ answers) x y holds ran =
    chain_kept program super commands answers ran.0 y ran.1.holds ran.2

-- what one step has done

answered_done : (program : Program) (s : SourceState) (image : Words) (c : Command) (a : Answer) →
    IsPart (answered_by program c a) (done_by program s image c a)
answered_done program s image (command.Call name args) a =
    part_same (called_by (call_to (counted program (call_number program name)) args) a)
answered_done program s image (command.Power choice) a =
    part_none (done_by program s image (command.Power choice) a)
answered_done program s image (command.Stop left) a = refl
answered_done program s image (command.Fault at) a = refl
answered_done program s image command.Show a = refl
answered_done program s image command.ShowDead a = refl
answered_done program s image command.Last a = refl

pub chain_grows : HistoryLaw
chain_grows program super [] [] x y same =
    record {
      done = [];
      history = ap (λ (z : Moment). z.history) same ∙ sym (append-nil x.history);
      does = same_done program x.state y.state [] (ap (λ (z : Moment). z.state) same);
      answered = refl;
    }
chain_grows program super [] (a ∷ answers) x y ran = absurd ran
chain_grows program super (c ∷ commands) [] x y ran = absurd ran
chain_grows program super (c ∷ commands) (a ∷ answers) x y ran =
    let z : Moment = ran.0 in
    let one = ran.1 in
    let image : Words = found_by c x.device in
    let first : List Pending = done_by program x.state image c a in
    let rest = chain_grows program super commands answers z y ran.2 in
    record {
      done = first ++ rest.done;
      history =
          rest.history ∙ ap (λ (h : List Pending). h ++ rest.done) one.history
          ∙ append_assoc x.history first rest.done;
      does =
          both program x.state z.state y.state first rest.done (call_in program c)
          (calls_in program commands) (answer_done program x.state z.state image c a
          one.meant) rest.does;
      answered =
          part_append (answered_by program c a) first (answered_in program commands answers)
          rest.done (answered_done program x.state image c a) rest.answered;
    }

-- the pool after the history
after_grown :
    (program : Program) (first : PoolMap) (count : ℕ) (commands : List Command)
    (answers : List Answer) (x y : Moment) →
    IsAfter program first count x → HasGrown program commands answers x y →
    IsAfter program first count y
after_grown program first count commands answers x y is grown =
    let long : length y.history ≡ length x.history + length grown.done =
    ap (λ (h : List Pending). length h) grown.history ∙ length-append x.history grown.done in (
      subst (λ (h : List Pending). LeadsTo program first h y.state.pool) (sym grown.history)
          (leads_append program first x.state.pool y.state.pool x.history grown.done is.0
          grown.does.pool),
      omega (arith, long, is.1, grown.does.count),
    )

-- at rest the device's heap holds the pool
ready_pool :
    (program : Program) (super : Words) (m : Mode) (d : Device) (s : SourceState) (st : Standing) →
    st ≡ Ready → HoldsAs st program super m d s →
    source_pool program (heap_in (sizes_of program) d.cache) ≡ s.pool
ready_pool program super m d s st ready holds =
    (subst (λ (x : Standing). HoldsAs x program super m d s) ready holds).1.holds.pool

pub chain_whole : WholeLaw
chain_whole program super first count commands answers x y holds is ran =
    let afterwards : IsAfter program first count y =
    after_grown program first count commands answers x y is
    (chain_grows program super commands answers x y ran) in
    let kept = chain_kept program super commands answers x y holds ran in (
      afterwards,
      (λ ready. subst (LeadsTo program first y.history)
          (sym (ready_pool program super y.mode y.device y.state y.state.standing ready kept))
          afterwards.0),
    )

-- the first moments: a new pool, and one opened from an image

pub created_after : (program : Program) (d : Device) (k : ℕ) →
    IsAfter program (empty_pool (sizes_of program).root_words (sizes_of program).slots) 0
    (fresh_moment program d k)
created_after program d k = (refl, refl)

pub opened_after :
    (program : Program) (words : List ℤ) (d : Device) (k : ℕ) (a : Answer)
    (y : Moment) →
    OpenStep program words d k a y →
    IsAfter program (opened program (image_words words)).pool
    (opened program (image_words words)).done y
opened_after program words d k a y step =
    let does = powers_done program (opened program (image_words words)) y.state
    (image_words words) a step.meant in
    let long : length y.history ≡ length
    (recovered_by (opened program (image_words words)) (image_words words) a) =
    ap (λ (h : List Pending). length h) step.history in (
      subst (λ (h : List Pending).
          LeadsTo program (opened program (image_words words)).pool h y.state.pool)
          (sym step.history) does.pool,
      omega (arith, long, does.count),
    )

pub open_step : OpenedAnswers → OpenedLaw
open_step answers program words n d b a k k1 agrees are is opens =
    let next = answers program words n d b a k k1 agrees are is opens in
    (next.0, record { did = opens; meant = next.1; holds = next.2; history = refl })

-- two chains, one after the other, are one chain
pub ran_append :
    (program : Program) (super : Words) (cs ds : List Command)
    (first_answers bs : List Answer) (x y z : Moment) →
    Ran program super cs first_answers x y → Ran program super ds bs y z →
    Ran program super (cs ++ ds) (first_answers ++ bs) x z
ran_append program super [] ds [] bs x y z same second =
    subst (λ (w : Moment). Ran program super ds bs w z) same second
ran_append program super [] ds (a ∷ first_answers) bs x y z first second = absurd first
ran_append program super (c ∷ cs) ds [] bs x y z first second = absurd first
ran_append program super (c ∷ cs) ds (a ∷ first_answers) bs x y z first second = (
  first.0,
  first.1,
  ran_append program super cs ds first_answers bs first.0 y z
      first.2 second,
)
