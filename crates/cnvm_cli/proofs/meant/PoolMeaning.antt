-- A run on the pool of a file means what the source says.
use Rattle.std.proofs.Common.{◌≡◌, ◌≢◌, inl, inr, List, [], ◌∷◌, ◌++◌, Option, Some, None, ℕ}
use Rattle.std.proofs.Common.{◌*◌, ◌/◌, length, ℤ, Bool, true, false, is_some, subst, sym, refl}
use Rattle.std.proofs.Common.{ap, ◌∙◌, arith, zero, suc}
use Rattle.std.specs.List.{AllByRecursion}
use Rattle.std.specs.Io.KnownBytes.{Keeps}
use Rattle.cache_model.specs.Cache.{Words}
use Rattle.pmem.specs.Device.{Device}
use Rattle.file_pmem.specs.File.{FileLines, HoldsWords}
use Rattle.file_pmem.specs.Found.{Found, Nothing, Taken, There, Opens}
use Rattle.file_pmem.specs.declared.pools.Held.TheVariants as held
use Rattle.pm_machine.specs.HeapPool.{words_from}
use Rattle.pool_layout.specs.Image.{image_words}
use Rattle.pool_layout.specs.Opened.{IsOpened}
use Rattle.cnvm_script.specs.declared.command.Command.{Command}
use Rattle.cnvm_session.specs.declared.program.Program.{Program}
use Rattle.cnvm_session.specs.Former.{first_other}
use Rattle.cnvm_session.specs.Pool.{sizes_of, wanted_of}
use Rattle.session_law.specs.Agrees.{Agrees}
use Rattle.session_law.specs.Holds.{Holds}
use Rattle.session_law.specs.Law.{IsWordCommand, super_words}
use Rattle.session_law.specs.Ran.{Moment, fresh_moment}
use Rattle.session_law.specs.Words.{AreWords}
use Rattle.session_law.proofs.answers.Creating.{created_rests}
use Rattle.session_law.proofs.chains.Chains.{open_step}
use Rattle.session_law.proofs.answers.Opening.{opened_answers}
use Rattle.session_law.proofs.Scripts.{script_words}
use Rattle.session_run.specs.declared.status.Status.{Status}
use Rattle.session_run.specs.declared.status.Status.TheVariants as status
use Rattle.session_run.specs.Held.{AnswersAs, FirstTold, RunsSome}
use Rattle.session_run.specs.Commands.{RunsAndWrites}
use Rattle.cnvm_session.specs.declared.mode.Mode.TheVariants.{Ready}
use Rattle.file_pmem.specs.declared.link.MirrorState.TheVariants.{Awake}
use Rattle.cnvm_cli.specs.Meant.{RanWith}
use Rattle.session_run.specs.Made.{Created}
use Rattle.cnvm_compile.specs.declared.asked.Asked.{Asked}
use Rattle.cnvm_compile.specs.declared.compiling.Compiled.{Compiled}
use Rattle.cnvm_compile.specs.Compilation.{IsCompiled}
use Rattle.file_law.specs.Moved.{moved_words}
use Rattle.cnvm_cli.specs.Former.{moved_moment}
use Rattle.cnvm_cli.specs.PoolMeant.{RanSome, HeldMeant, AnsweredMeant, MovedMeant, NewMeant}
use Rattle.cnvm_cli.specs.PoolMeant.{FileMeant, PlanOnFile, CallOnFile}
use Rattle.cnvm_cli.specs.PoolSide.{PoolSide, MakesPool, RunsFile, IsUnrun, IsKept, TellsFile}
use Rattle.cnvm_cli.specs.declared.refused.Refused.TheVariants as refused
use Rattle.cnvm_words.specs.declared.plan.Plan.{Plan}
use Rattle.cnvm_words.specs.declared.plan.Plan.TheVariants as plan
use Rattle.cnvm_cli.specs.Verdict.{HasCommands, TextsGive, asked_by}
use Rattle.cnvm_cli.specs.World.{Sources}
use Rattle.cnvm_cli.specs.inside.PoolEnds.{RunsOn, RunsNew, RunsMoved, FileEnds, PlanOnFileEnds}
use Rattle.cnvm_cli.proofs.meant.CrewMeaning.{crew_meant}
use Rattle.cnvm_cli.proofs.meant.Meaning.{run_all, run_part, opened_meant}
use Rattle.cnvm_cli.proofs.Moments.{opened_to}
use Rattle.cnvm_cli.proofs.meant.MovedMeaning.{moves_meant}
use Rattle.cnvm_cli.proofs.meant.ServeMeaning.{file_served}
use Rattle.cnvm_cli.proofs.texts.Sources.{known_bytes}
use Rattle.cnvm_cli.proofs.Statuses.{strict_memory}
use Rattle.cnvm_cli.proofs.Taking.{taken_map}
use Rattle.cnvm_cli.proofs.Usable.{sizes_same}

-- the first ones of words are words
first_words : (first rest : List Command) → AllByRecursion IsWordCommand (first ++ rest)
    → AllByRecursion IsWordCommand first
first_words [] rest words = tt
first_words (c ∷ first) rest words = (words.0, first_words first rest words.1)

-- what follows of each of four facts follows of what is told first
told_map : {A B : Bool → Option (List ℕ) → Type 0} {P S Q R : Option (List ℕ) → Type 0}
    → (none : Type 0) → ((unmet : Bool) (w : Option (List ℕ)) → A unmet w → B unmet w)
    → ((w : Option (List ℕ)) → P w → Q w)
    → ((w : Option (List ℕ)) → S w → R w) → (s : Status) (w w' : Option (List ℕ))
    → FirstTold A P S none s w w' → FirstTold B Q R none s w w'
told_map none all part some status.Done w w' h = (h.0, h.1, all false h.0 h.2)
told_map none all part some status.Unmet w w' h = (h.0, h.1, all true h.0 h.2)
told_map none all part some status.NoMemory w w' h = (h.0, h.1, part h.0 h.2)
told_map none all part some status.WriteFault w w' (inl h) = inl h
told_map none all part some status.WriteFault w w' (inr h) = inr (h.0, h.1, part h.0 h.2)
told_map none all part some status.DeviceFault w w' h = (h.0, h.1, some h.0 h.2)
told_map none all part some status.Usage w w' h = absurd h
told_map none all part some status.Program w w' h = absurd h
told_map none all part some status.Script w w' h = absurd h
told_map none all part some status.ReadFault w w' h = absurd h
told_map none all part some status.Image w w' h = absurd h
told_map none all part some status.PoolBusy w w' h = absurd h

module _ (program : Program) (agrees : Agrees program) (commands : List Command)
    (words : AllByRecursion IsWordCommand commands) where
  ran_some : (super : Words) (x : Moment) (w w' : Option (List ℕ)) (d' : Device) (k' : ℕ)
      → Holds program super x.mode x.device x.state
      → RunsSome program commands x.mode x.device w x.steps false d' w' k'
      → RanSome program super commands x w w' d' k'
  ran_some super x w w' d' k' holds r =
      let chain = run_all program super agrees r.0
      (first_words r.0 r.1 (subst (AllByRecursion IsWordCommand) r.2 words)) x d' w w' k' r.3 holds
      r.4 in (
        r.0,
        r.1,
        r.2,
        chain.0,
      )

  held_meant : (list : List ℤ) → AreWords list → IsOpened (wanted_of program) list
      → (result : Status) (before after : PoolSide)
      → RunsOn program commands result before after list
      → HeldMeant program commands list result before after
  held_meant list are opened result before after (kept, inl r) = (
    kept,
    inl (opened_meant program agrees commands words list are opened result before.out after.out
        before.held.device after.held.device before.steps after.steps r),
  )
  held_meant list are opened result before after (kept, inr r) =
      let o = r.2 in
      let first = open_step opened_answers program list o.1 before.held.device o.2 o.0 before.steps
      o.4 agrees are opened o.5 in
      let x : Moment = opened_to program list o.0 o.1 o.2 o.4 first.0 in (
        kept,
        inr (
          r.0,
          r.1,
          (
            o.0,
            x,
            o.3,
            first.1,
            o.6,
            ran_some (image_words list) x o.3 after.out after.held.device after.steps
                first.1.holds o.7,
          ),
        ),
      )

  new_meant : (result : Status) (b : Device) (before after : PoolSide)
      → Created program before.held.device b → RunsNew program commands result before after b
      → NewMeant program commands result b before after
  new_meant result b before after created r =
      let holds = created_rests program before.held.device b created in
      let x : Moment = fresh_moment program b before.steps in
      let super : Words = super_words program in
      let all : (unmet : Bool) (w : Option (List ℕ))
      → RunsAndWrites program commands Ready b w before.steps false after.held.device after.out
      after.steps unmet × (after.held.state ≡ Awake)
      → RanWith program super commands x unmet w after.out after.held.device after.steps
      × (after.held.state ≡ Awake) =
      λ unmet w h. (
        run_all program super agrees commands words x after.held.device w after.out after.steps
            unmet holds h.0,
        h.1,
      ) in
      let some : (w : Option (List ℕ))
      → RunsSome program commands Ready b w before.steps false after.held.device after.out
      after.steps × (after.held.state ≢ Awake)
      → RanSome program super commands x w after.out after.held.device after.steps
      × (after.held.state ≢ Awake) =
      λ w h. (ran_some super x w after.out after.held.device after.steps holds h.0, h.1) in (
        holds,
        told_map _ all
            (λ w h. run_part program super agrees commands words x after.held.device w after.out
            after.steps holds h)
            some
            result before.out after.out r,
      )

  made_meant : (result : Status) (before after : PoolSide)
      → MakesPool (RunsNew program commands result before after) program result before after
      → MakesPool (λ b. NewMeant program commands result b before after) program result before after
  made_meant result before after (inl silent) = inl silent
  made_meant result before after (inr (inl busy)) = inr (inl busy)
  made_meant result before after (inr (inr ran)) =
      inr (inr (ran.0, ran.1, new_meant result ran.0 before after ran.1 ran.2))

  -- the commands are answered from this moment on
  answered_meant : (super : Words) (y : Moment) (result : Status) (told : Option (List ℕ))
      (after : PoolSide) → Holds program super y.mode y.device y.state
      → AnswersAs program commands y.mode result after.held.state told after.out y.device
      after.held.device y.steps after.steps
      → AnsweredMeant program super commands y result told after
  answered_meant super y status.Done told after holds (ran, awake) = (
    run_all program super agrees commands words y after.held.device told after.out after.steps false
        holds ran,
    awake,
  )
  answered_meant super y status.Unmet told after holds (ran, awake) = (
    run_all program super agrees commands words y after.held.device told after.out after.steps true
        holds ran,
    awake,
  )
  answered_meant super y status.NoMemory told after holds ran =
      run_part program super agrees commands words y after.held.device told after.out after.steps
      holds ran
  answered_meant super y status.WriteFault told after holds ran =
      run_part program super agrees commands words y after.held.device told after.out after.steps
      holds ran
  answered_meant super y status.DeviceFault told after holds (ran, lost) =
      (ran_some super y told after.out after.held.device after.steps holds ran, lost)
  answered_meant super y status.Usage told after holds ran = absurd ran
  answered_meant super y status.Program told after holds ran = absurd ran
  answered_meant super y status.Script told after holds ran = absurd ran
  answered_meant super y status.ReadFault told after holds ran = absurd ran
  answered_meant super y status.Image told after holds ran = absurd ran
  answered_meant super y status.PoolBusy told after holds ran = absurd ran

  found_meant : (takes also : Option FileLines → Type 0)
      → ((shown : Option FileLines) → takes shown → also shown) → (result : Status)
      (before after : PoolSide)
      → RunsFile takes (RunsNew program commands result before after) program result before after
      → RunsFile also (λ b. NewMeant program commands result b before after) program result before
      after
  found_meant takes also so result before after (inl busy) = inl busy
  found_meant takes also so result before after (inr (inl silent)) = inr (inl silent)
  found_meant takes also so result before after (inr (inr (inl made))) =
      inr (inr (inl (made.0, made_meant result before after made.1)))
  found_meant takes also so result before after (inr (inr (inr held))) =
      inr (inr (inr (held.0, held.1, so held.0 held.2)))

-- a run on a former pool
module _ (former new : Program) (former_agrees : Agrees former) (agrees : Agrees new)
    (sizes : first_other former.typed new.typed ≡ None → sizes_of new ≡ sizes_of former)
    (commands : List Command) (words : AllByRecursion IsWordCommand commands) where
  moved_meant : (list : List ℤ) → AreWords list → IsOpened (wanted_of former) list
      → (result : Status) (before after : PoolSide)
      → RunsMoved former new commands result before after list
      → MovedMeant former new commands list result before after
  moved_meant list are opened result before after (inl (undone, runs)) =
      inl (undone, held_meant former former_agrees [] tt list are opened result before after runs)
  moved_meant list are opened result before after (inr (
    m,
    d,
    k,
    told,
    (a, opens, wrote, awake),
    moves,
  )) =
      let first = open_step opened_answers former list m before.held.device d a before.steps k
      former_agrees are opened opens in
      let x : Moment = opened_to former list a m d k first.0 in
      inr (
        a,
        x,
        told,
        first.1,
        wrote,
        moves_meant former new (image_words list) x result told after sizes first.1.holds
            (λ (b : Device). AnswersAs new commands m result after.held.state told after.out b
            after.held.device k after.steps)
            (λ super y. AnsweredMeant new super commands y result told after)
            (λ b holds answers. answered_meant new agrees commands words
            (moved_words new (image_words list)) (moved_moment b x) result told after holds answers)
            moves,
      )

pub file_meant : (asked : Asked) (moves : Bool) (told : Sources) (result : Status)
    (before after : PoolSide) → FileEnds asked moves told result before after
    → FileMeant asked moves told result before after
file_meant asked moves told result before after (inl refused) = inl refused
file_meant asked moves told result before after (inr ran) =
    let compiled : Compiled = ran.0 in
    let commands : List Command = ran.1 in
    let gives : TextsGive asked told.program told.script compiled commands = ran.2 in
    let from = known_bytes told.program (λ text. IsCompiled asked text compiled) gives.0 in
    let has = known_bytes told.script (HasCommands commands) gives.1 in
    let words : AllByRecursion IsWordCommand commands = script_words has.0 commands has.1.1 in
    let agrees = from.1.agrees in
    inr (
      compiled,
      commands,
      gives,
      found_meant compiled.program agrees commands words _ _
          (λ shown. taken_map result before after asked told.former compiled.program told.image
          (RunsOn compiled.program commands result before after)
          (λ list. HeldMeant compiled.program commands list result before after)
          (λ old. RunsMoved old.program compiled.program commands result before after)
          (λ old list. MovedMeant old.program compiled.program commands list result before after)
          (λ list are opened ran. held_meant compiled.program agrees commands words list are opened
          result before after ran)
          (λ old is list are opened ran.
          let text = known_bytes told.former (λ t. IsCompiled asked t old) is in
          moved_meant old.program compiled.program text.1.agrees agrees
          (sizes_same asked old compiled text from) commands words list are opened result before
          after ran)
          moves shown)
          result before after ran.3,
    )

-- the plan is known
plan_on_file : (asked : Plan) (told : Sources) (result : Status) (before after : PoolSide)
    → PlanOnFileEnds asked told result before after
    → PlanOnFile (Some asked) told result before after
plan_on_file (plan.Run p s slots records ticks from save strict) told result before after ends =
    ends
plan_on_file (plan.RunPool p s slots records ticks pool former strict) told result before after
    ends = (
      ends.0,
      ends.1,
      file_meant (asked_by slots records ticks) (is_some former) told ends.0 before after ends.2,
    )
plan_on_file (plan.Serve p slots records ticks) told result before after ends = ends
plan_on_file (plan.ServePool p slots records ticks pool former) told result before after ends =
    file_served (asked_by slots records ticks) (is_some former) told result before after ends
plan_on_file (plan.List p) told result before after ends = ends
plan_on_file (plan.Storm p start count reach plain slots records ticks) told result before after
    ends =
    ends
plan_on_file (plan.Why p) told result before after ends = ends
plan_on_file (plan.Workers p s workers slots records ticks) told result before after ends = ends
plan_on_file (plan.WorkersPool p s workers slots records ticks pool) told result before after ends =
    crew_meant (asked_by slots records ticks) workers told result before after ends
plan_on_file (plan.Emit p prefix header slots records ticks) told result before after ends = ends
plan_on_file (plan.Code p) told result before after ends = ends

pub plan_on_file_as : (words : Option Plan) (asked : Plan) (told : Sources) (result : Status)
    (before after : PoolSide) → words ≡ Some asked
    → PlanOnFileEnds asked told result before after → IsKept after.held
    → CallOnFile words told result before after
plan_on_file_as words asked told result before after is ends kept =
    subst (λ (w : Option Plan). CallOnFile w told result before after) (sym is)
    (kept, plan_on_file asked told result before after ends)

memory_of_plan : (asked : Plan) (told : Sources) (before after : PoolSide)
    → Keeps before.out after.out → IsUnrun before after
    → PlanOnFile (Some asked) told status.NoMemory before after
memory_of_plan (plan.Run p s slots records ticks from save strict) told before after keeps same =
    (same.held, same.found)
memory_of_plan (plan.RunPool p s slots records ticks pool former strict) told before after keeps
    same =
    (status.NoMemory, strict_memory strict, inl (refused.NoMemory, inl tt, (refl, keeps), same))
memory_of_plan (plan.Serve p slots records ticks) told before after keeps same =
    (same.held, same.found)
memory_of_plan (plan.ServePool p slots records ticks pool former) told before after keeps same =
    inl (refused.NoMemory, tt, (refl, keeps), same)
memory_of_plan (plan.List p) told before after keeps same = (same.held, same.found)
memory_of_plan (plan.Storm p start count reach plain slots records ticks) told before after keeps
    same =
    (same.held, same.found)
memory_of_plan (plan.Why p) told before after keeps same = (same.held, same.found)
memory_of_plan (plan.Workers p s workers slots records ticks) told before after keeps same =
    (same.held, same.found)
memory_of_plan (plan.WorkersPool p s workers slots records ticks pool) told before after keeps
    same =
    inl (refused.NoMemory, inl tt, (refl, keeps), same)
memory_of_plan (plan.Emit p prefix header slots records ticks) told before after keeps same =
    (same.held, same.found)
memory_of_plan (plan.Code p) told before after keeps same = (same.held, same.found)

-- a call that finds no memory to read its words
pub memory_on_file : (words : Option Plan) (told : Sources) (before after : PoolSide)
    → Keeps before.out after.out → IsUnrun before after → IsKept after.held
    → CallOnFile words told status.NoMemory before after
memory_on_file None told before after keeps same kept = (kept, (same.held, same.found))
memory_on_file (Some asked) told before after keeps same kept =
    (kept, memory_of_plan asked told before after keeps same)

-- where the name leads, if the port gave a file
pub tells_file : {F : Type 0} (content : F → Option FileLines) (f : F) (a b : Option Found)
    → Opens content (held.Held f) a b → TellsFile a (content f)
tells_file content f None b opens = tt
tells_file content f (Some Nothing) b opens = absurd opens
tells_file content f (Some Taken) b opens = absurd opens
tells_file content f (Some (There lines)) b opens = opens.0

length_from : (h : Words) (n w : ℕ) → length (words_from h w n) ≡ n
length_from h zero w = refl
length_from h (suc n) w = ap suc (length_from h n (suc w))

-- the file that was made of a pool's words
pub made_words : (a : Option FileLines) (h : Words) (ws : List ℤ) (n : ℕ)
    → ws ≡ words_from h 0 (8 * n) → HoldsWords a (length ws / 8) ws
    → HoldsWords a n (words_from h 0 (8 * n))
made_words a h ws n is holds =
    let long : length ws ≡ 8 * n = ap (λ (xs : List ℤ). length xs) is ∙ length_from h (8 * n) 0 in
    let count : length ws / 8 ≡ n = omega (arith, long) in
    subst (λ (xs : List ℤ). HoldsWords a n xs) is
    (subst (λ (m : ℕ). HoldsWords a m ws) count holds)
