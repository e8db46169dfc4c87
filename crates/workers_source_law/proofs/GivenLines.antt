-- Which lines turns and recoveries give, and which they never do.
use Rattle.std.proofs.Common.{◌≡◌, ℕ, zero, suc, Bool, true, false, nat_lt, if◌then◌else◌, List, []}
use Rattle.std.proofs.Common.{◌∷◌, ◌++◌, Option, None, Some, length, refl, subst, sym}
use Rattle.std.specs.List.{AllByRecursion}
use Rattle.cache_model.specs.Collapse.{bad}
use Rattle.cache_model.specs.declared.choice.Choice.{Choice}
use Rattle.pmem.specs.Device.{memory_of}
use Rattle.recovery.specs.declared.answer.RecoverAnswer.{RecoverAnswer}
use Rattle.recovery.specs.declared.answer.RecoverAnswer.TheVariants as recovered
use Rattle.pool_workers.specs.declared.answer.TurnAnswer.{TurnAnswer}
use Rattle.pool_workers.specs.declared.answer.TurnAnswer.TheVariants as turned
use Rattle.pool_workers.specs.Crew.{Tasks}
use Rattle.cnvm_session.specs.declared.answer.Answer.{Answer}
use Rattle.cnvm_session.specs.declared.answer.Answer.TheVariants as answer
use Rattle.cnvm_session.specs.declared.program.Program.{Program}
use Rattle.cnvm_session.specs.Commands.{fallen}
use Rattle.cnvm_session.specs.Outcomes.{answer_of_recovery}
use Rattle.workers_session.specs.declared.line.WorkersLine.{WorkersLine}
use Rattle.workers_session.specs.declared.line.WorkersLine.TheVariants as line
use Rattle.workers_session.specs.WorkersState.{stranger_in}
use Rattle.workers_session.specs.WorkersCommands.{Scene, Unchanged, stopped_lines, turn_lines}
use Rattle.workers_session.specs.WorkersCommands.{TurnList, TurnsKnown, TurnsGiven, rounds_of}
use Rattle.workers_session.specs.WorkersCommands.{FinishesAll, ends_power, RecoversFrom, cut_scene}
use Rattle.workers_session.specs.WorkersCommands.{PowersAll}

-- turns

-- an answer, or that there is no worker of this number
abbrev pub IsOfTurns : (count : ℕ) → WorkersLine → Type 0
IsOfTurns count (line.Own w a) = Unit {0}
IsOfTurns count (line.Plain a) = Unit {0}
IsOfTurns count (line.Started w) = ⊥
IsOfTurns count (line.RefusedWorker w) = nat_lt w count ≡ false
IsOfTurns count (line.RefusedBusy w) = ⊥
IsOfTurns count line.RefusedAbort = ⊥

abbrev pub AreOfTurns : (count : ℕ) → List WorkersLine → Type 0
AreOfTurns count lines = AllByRecursion (IsOfTurns count) lines

stranger : (count w : ℕ) (workers : List ℕ) → stranger_in count workers ≡ Some w
    → nat_lt w count ≡ false
stranger count w [] is = absurd cc
stranger count w (worker ∷ workers) is =
    by_test (nat_lt worker count) refl (stranger count w workers) is
  where
    by_test : (b : Bool) → nat_lt worker count ≡ b
        → (stranger_in count workers ≡ Some w → nat_lt w count ≡ false)
        → (if b then stranger_in count workers else Some worker) ≡ Some w → nat_lt w count ≡ false
    by_test true known more found = more found
    by_test false known more found =
        let same : worker ≡ w = cc in subst (λ (j : ℕ). nat_lt j count ≡ false) same known

module _ (count : ℕ) where
  turns_append : (xs ys : List WorkersLine) → AreOfTurns count xs → AreOfTurns count ys
      → AreOfTurns count (xs ++ ys)
  turns_append [] ys first second = second
  turns_append (x ∷ xs) ys first second = (first.0, turns_append xs ys first.1 second)

  stopped_of_turns : (worker : ℕ) (ts : Tasks) → AreOfTurns count (stopped_lines worker ts)
  stopped_of_turns worker [] = tt
  stopped_of_turns worker (None ∷ ts) = stopped_of_turns (suc worker) ts
  stopped_of_turns worker (Some t ∷ ts) = (tt, stopped_of_turns (suc worker) ts)

  lines_of_turn : (u : Bool) (a : TurnAnswer) (worker : ℕ) (ts : Tasks)
      → AreOfTurns count (turn_lines u a worker ts)
  lines_of_turn u turned.Idle worker ts = tt
  lines_of_turn u turned.Went worker ts = tt
  lines_of_turn u (turned.Done value logged) worker ts = (tt, tt)
  lines_of_turn u (turned.Trap kind) worker ts = (tt, tt)
  lines_of_turn u (turned.Aborted kind) worker ts = (tt, tt)
  lines_of_turn u turned.Off worker ts = stopped_of_turns 0 ts
  lines_of_turn u turned.Failed worker ts = (tt, tt)
  lines_of_turn u turned.NoMemory worker ts = (tt, tt)

  no_lines : (lines : List WorkersLine) → lines ≡ [] → AreOfTurns count lines
  no_lines lines is = subst (AreOfTurns count) (sym is) tt

  -- nothing more is done, or the rest is
  after : (over : Bool) (z : Scene) (rest : List WorkersLine) (y : Scene)
      → (over ≡ true → Unchanged [] z rest y) → (over ≡ false → AreOfTurns count rest)
      → AreOfTurns count rest
  after true z rest y ends goes = no_lines rest (ends refl).0
  after false z rest y ends goes = goes refl

  turn_list : (program : Program) (workers : List ℕ) (x : Scene) (lines : List WorkersLine)
      (y : Scene) → TurnList program workers x lines y → AreOfTurns count lines
  turn_list program [] x lines y is = no_lines lines is.0
  turn_list program (worker ∷ workers) x lines y is =
      let first : AreOfTurns count is.0 =
      subst (AreOfTurns count) (sym is.3.2) (lines_of_turn _ is.3.0 worker is.2.workers.tasks) in
      subst (AreOfTurns count) (sym is.4)
      (turns_append is.0 is.1 first
      (after is.2.workers.down is.2 is.1 y is.5.0
      (λ up. turn_list program workers is.2 is.1 y (is.5.1 up))))

module _ (program : Program) (x : Scene) (lines : List WorkersLine) (y : Scene) where
  abbrev count : ℕ
  count = length x.workers.tasks

  plain : (l : WorkersLine) → lines ≡ l ∷ [] → IsOfTurns count l → AreOfTurns count lines
  plain l is fits = subst (AreOfTurns count) (sym is) (fits, tt)

  turns_known : (o : Option ℕ) (workers : List ℕ) → stranger_in count workers ≡ o
      → TurnsKnown o program workers x lines y → AreOfTurns count lines
  turns_known (Some w) workers known is =
      plain (line.RefusedWorker w) is.0 (stranger count w workers known)
  turns_known None workers known is = turn_list count program workers x lines y is

  pub turns_say : (down : Bool) (workers : List ℕ) → TurnsGiven down program workers x lines y
      → AreOfTurns count lines
  turns_say true workers is = plain (line.Plain answer.RefusedDown) is.0 tt
  turns_say false workers is = turns_known (stranger_in count workers) workers refl is

  pub finish_says : (down : Bool) → FinishesAll down program x lines y → AreOfTurns count lines
  finish_says true is = plain (line.Plain answer.RefusedDown) is.0 tt
  finish_says false is = turn_list count program (rounds_of is.0 count) x lines y is.1

-- recoveries

-- no answer of a recovery refuses a pick
abbrev pub IsNoPick : Answer → Type 0
IsNoPick (answer.RefusedPick pick) = ⊥
IsNoPick a = Unit {0}

abbrev pub NamesNoPick : WorkersLine → Type 0
NamesNoPick (line.Own w a) = IsNoPick a
NamesNoPick l = Unit {0}

abbrev pub NameNoPick : List WorkersLine → Type 0
NameNoPick lines = AllByRecursion NamesNoPick lines

recovery_no_pick : (u : Bool) (a : RecoverAnswer) → IsNoPick (answer_of_recovery u a)
recovery_no_pick u recovered.Clean = tt
recovery_no_pick u (recovered.Redone value logged) = tt
recovery_no_pick u (recovered.Trap kind) = tt
recovery_no_pick u (recovered.Aborted kind) = tt
recovery_no_pick u (recovered.Unusable kind) = tt
recovery_no_pick u recovered.Numbers = tt
recovery_no_pick u (recovered.Off phase) = tt
recovery_no_pick u recovered.Failed = tt
recovery_no_pick u recovered.NoMemory = tt

no_more : (over : Bool) (z : Scene) (rest : List WorkersLine) (y : Scene)
    → (over ≡ true → Unchanged [] z rest y) → (over ≡ false → NameNoPick rest) → NameNoPick rest
no_more true z rest y ends goes = subst NameNoPick (sym (ends refl).0) tt
no_more false z rest y ends goes = goes refl

module _ (program : Program) where
  recovers : (n worker : ℕ) (x : Scene) (lines : List WorkersLine) (y : Scene)
      → RecoversFrom program worker n x lines y → NameNoPick lines
  recovers zero worker x lines y is = subst NameNoPick (sym is.0) tt
  recovers (suc n) worker x lines y is =
      subst NameNoPick (sym is.4) (
        recovery_no_pick _ is.0,
        no_more (ends_power is.0) is.2 is.1 y is.5.0
            (λ on. recovers n (suc worker) is.2 is.1 y (is.5.1 on)),
      )

  pub powers_say : (choice : Choice) (x : Scene) (lines : List WorkersLine) (y : Scene)
      → PowersAll program choice x lines y → NameNoPick lines
  powers_say choice x lines y is =
      fits (fallen 0 choice.picks) (bad (memory_of x.device) choice.picks) refl refl
    where
      fits : (falls lacks : Option ℕ) → fallen 0 choice.picks ≡ falls
          → bad (memory_of x.device) choice.picks ≡ lacks → NameNoPick lines
      fits (Some l) lacks falls is_bad = subst NameNoPick (sym (is.0 l falls).0) (tt, tt)
      fits None (Some l) falls is_bad = subst NameNoPick (sym (is.1 l falls is_bad).0) (tt, tt)
      fits None None falls is_bad =
          recovers (length x.workers.tasks) 0 (cut_scene choice x) lines y (is.2 falls is_bad)
