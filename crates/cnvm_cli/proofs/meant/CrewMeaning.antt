-- A run of a script of workers on the compartments of a file means what its program's source says.
use Rattle.std.proofs.Common.{ℕ, ◌*◌, ◌++◌, List, [], ◌∷◌, Option, Result, Ok, Err, inl, inr, subst}
use Rattle.std.proofs.Common.{ℤ}
use Rattle.std.specs.List.{AllByRecursion}
use Rattle.pmem.specs.Device.{Device}
use Rattle.pool_layout.specs.Sizes.{pool_lines}
use Rattle.file_pmem.specs.File.{FileLines}
use Rattle.cnvm_session.specs.declared.program.Program.{Program}
use Rattle.cnvm_session.specs.Pool.{sizes_of}
use Rattle.workers_script.specs.declared.command.WorkersCommand.{WorkersCommand}
use Rattle.workers_script.specs.WorkersGrammar.{workers_script_meaning}
use Rattle.workers_session.specs.WorkersState.{new_workers}
use Rattle.workers_session.specs.WorkersCommands.{scene_of}
use Rattle.workers_run.specs.declared.fault.RunFault.{RunFault}
use Rattle.workers_run.specs.declared.fault.RunFault.TheVariants as fault
use Rattle.workers_run.specs.WorkersRan.{AreCreated}
use Rattle.workers_run.specs.WorkersHeld.{HeldAs, MadeAs}
use Rattle.session_law.specs.Agrees.{Agrees}
use Rattle.session_run.specs.declared.status.Status.{Status}
use Rattle.workers_source_law.specs.Law.{HasWordArgs}
use Rattle.workers_source_law.specs.Opened.{AreOpened}
use Rattle.workers_source_law.proofs.Opened.{opened_run, opened_part}
use Rattle.workers_source_law.proofs.Runs.{workers_run, workers_part}
use Rattle.workers_source_law.proofs.Scripts.{word_commands}
use Rattle.cnvm_compile.specs.declared.asked.Asked.{Asked}
use Rattle.cnvm_compile.specs.Compilation.{IsCompiled}
use Rattle.cnvm_cli.specs.CrewMeant.{HeldCrewMeant, NewCrewMeant, EndsCrew, CrewMeant}
use Rattle.cnvm_cli.specs.CrewOpened.{CrewRefuses, CrewGives, last_version}
use Rattle.cnvm_cli.specs.PoolSide.{PoolSide, MakesFile, TakesImage, RunsFound}
use Rattle.cnvm_cli.specs.Verdict.{SpellsIn}
use Rattle.cnvm_cli.specs.World.{Sources}
use Rattle.cnvm_cli.specs.inside.CrewEnds.{CrewImageEnds, CrewMissingEnds, CrewFoundEnds, CrewEnds}
use Rattle.cnvm_cli.proofs.texts.Sources.{known_bytes}

-- the arguments of the first ones are words
first_args : (first rest : List WorkersCommand) → AllByRecursion HasWordArgs (first ++ rest)
    → AllByRecursion HasWordArgs first
first_args [] rest args = tt
first_args (c ∷ first) rest args = (args.0, first_args first rest args.1)

module _ (program : Program) (agrees : Agrees program) (count : ℕ)
    (commands : List WorkersCommand) (args : AllByRecursion HasWordArgs commands) where
  held_meant : (words : List ℤ) → AreOpened program count words → (r : Result Unit RunFault)
      (before after : PoolSide)
      → HeldAs program count commands words r after.held.state before.out after.out
      before.held.device after.held.device before.steps after.steps
      → HeldCrewMeant program count commands r before after words
  held_meant words are (Ok u) before after h = (
    opened_run program count commands words before.out after.out before.held.device
        after.held.device before.steps after.steps agrees args are h.0,
    h.1,
  )
  held_meant words are (Err fault.Device) before after (inl unopened) = inl unopened
  held_meant words are (Err fault.Device) before after (inr h) =
      let some = h.0 in
      inr (
        (
          some.0,
          some.1,
          some.2,
          opened_run program count some.0 words before.out after.out before.held.device
              after.held.device before.steps after.steps agrees
              (first_args some.0 some.1 (subst (AllByRecursion HasWordArgs) some.2 args)) are
              some.3,
        ),
        h.1,
      )
  held_meant words are (Err fault.NoMemory) before after (inl unopened) = inl unopened
  held_meant words are (Err fault.NoMemory) before after (inr h) =
      inr (opened_part program count commands words before.out after.out before.held.device
      after.held.device before.steps after.steps agrees args are h)
  held_meant words are (Err fault.Write) before after h =
      opened_part program count commands words before.out after.out before.held.device
      after.held.device before.steps after.steps agrees args are h

  new_meant : (r : Result Unit RunFault) (b : Device) (before after : PoolSide)
      → AreCreated program count before.held.device b
      → MadeAs program commands (scene_of (new_workers count) b before.steps) r after.held.state
      before.out after.out after.held.device after.steps
      → NewCrewMeant program count commands r before after b
  new_meant (Ok u) b before after created h = (
    h.0,
    h.2,
    workers_run program count commands h.0 after.out before.held.device after.held.device
        before.steps after.steps agrees args (b, h.1, created, h.3),
    h.4,
  )
  new_meant (Err fault.Device) b before after created h =
      let some = h.3.0 in (
        h.0,
        h.2,
        (
          some.0,
          some.1,
          some.2,
          workers_run program count some.0 h.0 after.out before.held.device after.held.device
              before.steps after.steps agrees
              (first_args some.0 some.1 (subst (AllByRecursion HasWordArgs) some.2 args))
              (b, h.1, created, some.3),
        ),
        h.3.1,
      )
  new_meant (Err fault.NoMemory) b before after created h = (
    h.0,
    h.2,
    workers_part program count commands h.0 after.out before.held.device after.held.device
        before.steps after.steps agrees args (b, h.1, created, h.3),
  )
  new_meant (Err fault.Write) b before after created (inl part) = inl part
  new_meant (Err fault.Write) b before after created (inr h) =
      inr (
        h.0,
        h.2,
        workers_part program count commands h.0 after.out before.held.device after.held.device
            before.steps after.steps agrees args (b, h.1, created, h.3),
      )

  image_meant : (image : Option (List ℕ)) (shown : Option FileLines) (result : Status)
      (before after : PoolSide)
      → CrewImageEnds program count commands image shown result before after
      → TakesImage (CrewRefuses program count image) (CrewGives program count image)
      (λ words. EndsCrew result (λ r. HeldCrewMeant program count commands r before after words))
      (pool_lines (sizes_of program) * count) (last_version program count) shown result before
      after
  image_meant image shown result before after (inl refused) = inl refused
  image_meant image shown result before after (inr (inl silent)) = inr (inl silent)
  image_meant image shown result before after (inr (inr (words, gives, inl other))) =
      inr (inr (words, gives, inl other))
  image_meant image shown result before after (inr (inr (words, gives, inr ran))) =
      let given : CrewGives program count image words = gives in
      let ends = ran.1 in
      inr (inr (
        words,
        gives,
        inr (ran.0, (ends.0, ends.1, held_meant words given.0 ends.0 before after ends.2)),
      ))

  made_meant : (result : Status) (before after : PoolSide)
      → CrewMissingEnds program count commands result before after
      → MakesFile (AreCreated program count before.held.device)
      (λ b. EndsCrew result (λ r. NewCrewMeant program count commands r before after b)) result
      before after
  made_meant result before after (inl silent) = inl silent
  made_meant result before after (inr (inl busy)) = inr (inl busy)
  made_meant result before after (inr (inr ran)) =
      let ends = ran.2 in
      inr (inr (
        ran.0,
        ran.1,
        (ends.0, ends.1, new_meant ends.0 ran.0 before after ran.1 ends.2),
      ))

  found_meant : (image : Option (List ℕ)) (result : Status) (before after : PoolSide)
      → CrewFoundEnds program count commands image result before after
      → RunsFound
      (λ shown. TakesImage (CrewRefuses program count image) (CrewGives program count image)
      (λ words. EndsCrew result (λ r. HeldCrewMeant program count commands r before after words))
      (pool_lines (sizes_of program) * count) (last_version program count) shown result before
      after)
      (MakesFile (AreCreated program count before.held.device)
      (λ b. EndsCrew result (λ r. NewCrewMeant program count commands r before after b)) result
      before after) result before after
  found_meant image result before after (inl busy) = inl busy
  found_meant image result before after (inr (inl silent)) = inr (inl silent)
  found_meant image result before after (inr (inr (inl made))) =
      inr (inr (inl (made.0, made_meant result before after made.1)))
  found_meant image result before after (inr (inr (inr held))) =
      inr (inr (inr (
        held.0,
        held.1,
        image_meant image held.0 result before after held.2,
      )))

pub crew_meant : (asked : Asked) (count : ℕ) (told : Sources) (result : Status)
    (before after : PoolSide) → CrewEnds asked count told result before after
    → CrewMeant asked count told result before after
crew_meant asked count told result before after (inl refused) = inl refused
crew_meant asked count told result before after (inr ran) =
    let gives = ran.2 in
    let from = known_bytes told.program (λ text. IsCompiled asked text ran.0) gives.0 in
    let has = known_bytes told.script (SpellsIn workers_script_meaning ran.1) gives.1 in
    inr (
      ran.0,
      ran.1,
      gives.0,
      gives.1,
      found_meant ran.0.program from.1.agrees count ran.1 (word_commands has.0 ran.1 has.1.1)
          told.image result before after ran.3,
    )
