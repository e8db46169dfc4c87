-- Serving means what the source says.
use Rattle.std.proofs.Common.{◌≡◌, inl, inr, List, [], ◌∷◌, Option, Some, None, ℕ, ℤ, Result}
use Rattle.std.proofs.Common.{Bool, Ok, Err, IfSome, sym, refl, ◌∙◌}
use Rattle.cache_model.specs.Cache.{Words}
use Rattle.pmem.specs.Device.{Device}
use Rattle.pool_layout.specs.Image.{image_words}
use Rattle.pool_layout.specs.Opened.{IsOpened}
use Rattle.file_pmem.specs.File.{FileLines}
use Rattle.cnvm_script.specs.declared.command.Command.{Command}
use Rattle.cnvm_script.specs.Commands.{line_meaning}
use Rattle.cnvm_session.specs.declared.creating.StartFault.{StartFault}
use Rattle.cnvm_session.specs.declared.mode.Mode.{Mode}
use Rattle.cnvm_session.specs.declared.program.Program.{Program}
use Rattle.cnvm_session.specs.Former.{first_other}
use Rattle.cnvm_session.specs.Pool.{sizes_of, wanted_of}
use Rattle.session_law.specs.Agrees.{Agrees}
use Rattle.session_law.specs.Holds.{Holds}
use Rattle.session_law.specs.Law.{IsWordCommand, super_words}
use Rattle.session_law.specs.Ran.{Moment, fresh_moment}
use Rattle.session_law.specs.Words.{AreWords}
use Rattle.session_law.proofs.chains.Chains.{steps_on, open_step}
use Rattle.session_law.proofs.answers.Commands.{each_command}
use Rattle.session_law.proofs.answers.Creating.{created_rests}
use Rattle.session_law.proofs.answers.Opening.{opened_answers}
use Rattle.session_law.proofs.Scripts.{line_words}
use Rattle.session_run.specs.declared.status.Status.{Status}
use Rattle.session_run.specs.Made.{Created}
use Rattle.session_serve.specs.declared.serving.Served.{Served}
use Rattle.session_serve.specs.declared.serving.Served.TheVariants as served
use Rattle.session_serve.specs.Begins.{ServedAfter, NewServed, CreatedServed}
use Rattle.session_serve.specs.Begins.{OpenedServed, OpeningEnds}
use Rattle.session_serve.specs.Serves.{DoesMeaning, Serves, ServesTo, ServesPart, ServingEnds}
use Rattle.cnvm_compile.specs.declared.asked.Asked.{Asked}
use Rattle.cnvm_compile.specs.Compilation.{IsCompiled}
use Rattle.file_law.specs.Moved.{moved_words}
use Rattle.cnvm_cli.specs.Former.{moved_moment}
use Rattle.cnvm_cli.specs.PoolSide.{PoolSide, MakesPool, RunsFile}
use Rattle.cnvm_cli.specs.Serve.{LineMeant, LinesMeant, AllMeant, PartMeant, ServedFrom}
use Rattle.cnvm_cli.specs.Serve.{NewMeantTo, MemoryMeantTo, OpenMeantTo, MadeMeantTo, ServeMeant}
use Rattle.cnvm_cli.specs.Serve.{Concludes, OpeningMeantTo, ServesOkFrom, LinesMeantTo}
use Rattle.cnvm_cli.specs.Serve.{MovedMeantTo, ServeFileMeant}
use Rattle.cnvm_cli.specs.World.{Sources, Outside}
use Rattle.cnvm_cli.specs.inside.ServeEnds.{MemoryEnds, MadeServed, ServesOn, ServesNew, ServeEnds}
use Rattle.cnvm_cli.specs.inside.ServeEnds.{ServesFrom, ServesMoved}
use Rattle.cnvm_cli.proofs.Moments.{next_to, opened_to}
use Rattle.cnvm_cli.proofs.meant.MovedMeaning.{moves_meant}
use Rattle.cnvm_cli.proofs.texts.Sources.{known_bytes}
use Rattle.cnvm_cli.proofs.Taking.{taken_map}
use Rattle.cnvm_cli.proofs.Usable.{sizes_same}

-- what follows of the lines that are answered follows at each end
ends_map : {A B : List (List ℕ) → Type 0} {P Q : List (List ℕ) → List ℕ → Type 0}
    → ((given : List (List ℕ)) → A given → B given)
    → ((given : List (List ℕ)) (next : List ℕ) → P given next → Q given next)
    → (end : Served) (left left' : Option (List ℕ)) → ServingEnds end left left' A P
    → ServingEnds end left left' B Q
ends_map all part served.Done left left' (given, taken, end, h) =
    (given, taken, end, all given h)
ends_map all part served.ReadFault left left' (given, ahead, whole, taken, h) =
    (given, ahead, whole, taken, all given h)
ends_map all part served.LongLine left left' (given, long, h) = (given, long, all given h)
ends_map all part served.ManyLines left left' (given, ahead, many, taken, h) =
    (given, ahead, many, taken, all given h)
ends_map all part served.NoMemory left left' (inl (given, unread, ahead, few, taken, h)) =
    inl (given, unread, ahead, few, taken, all given h)
ends_map all part served.NoMemory left left' (inr (given, next, ahead, taken, h)) =
    inr (given, next, ahead, taken, part given next h)
ends_map all part served.WriteFault left left' (given, next, ahead, taken, h) =
    (given, next, ahead, taken, part given next h)
ends_map all part served.GivenUp left left' (given, ahead, some, taken, h) =
    (given, ahead, some, taken, all given h)

module _ (program : Program) (super : Words) (agrees : Agrees program) where
  -- the moment after a line
  abbrev LineTo : Option (Option Command) → Moment → (text : List ℕ) → Mode → Device → ℕ → Type 0
  LineTo meaning x text m d k =
      (y : Moment) × LineMeant meaning program super x text y
      × Holds program super y.mode y.device y.state
      × (y.mode ≡ m) × (y.device ≡ d) × (y.steps ≡ k)

  line_to : (meaning : Option (Option Command))
      → IfSome meaning (λ (o : Option Command). IfSome o IsWordCommand)
      → (x : Moment) (text : List ℕ) (m : Mode) (d : Device) (k : ℕ)
      → Holds program super x.mode x.device x.state
      → DoesMeaning meaning program x.mode x.device x.steps text m d k
      → LineTo meaning x text m d k
  line_to (Some (Some c)) words x text m d k holds (a, did, told) =
      let one = steps_on each_command program super agrees c x a m d k words holds did in
      let y : Moment = next_to program c x a m d k one.0 in
      (y, (a, one.1, told), one.1.holds, refl, refl, refl)
  line_to (Some None) words x text m d k holds (told, mode, device, steps) =
      (x, (told, refl), holds, sym mode, sym device, sym steps)
  line_to None words x text m d k holds (told, mode, device, steps) =
      (x, (told, refl), holds, sym mode, sym device, sym steps)

  -- the moment after lines
  abbrev LinesTo : List (List ℕ) → Moment → (w w' : Option (List ℕ)) → Mode → Device → ℕ → Type 0
  LinesTo given x w w' m d k =
      (y : Moment) × LinesMeant program super given x w y w'
      × Holds program super y.mode y.device y.state
      × (y.mode ≡ m) × (y.device ≡ d) × (y.steps ≡ k)

  lines_to : (given : List (List ℕ)) (x : Moment) (n m : Mode) (b d : Device)
      (w w' : Option (List ℕ)) (j k : ℕ) → Holds program super x.mode x.device x.state
      → x.mode ≡ n → x.device ≡ b → x.steps ≡ j → Serves program given n b w j m d w' k
      → LinesTo given x w w' m d k
  lines_to [] x n m b d w w' j k holds mode device steps (a, e, told, i) =
      (x, (refl, told), holds, mode ∙ sym a, device ∙ sym e, steps ∙ sym i)
  lines_to (line ∷ lines) x n m b d w w' j k holds mode device steps
      (text, m1, d1, w1, k1, does, told, rest) =
      let one = line_to (line_meaning line) (line_words line) x text m1 d1 k1 holds
      (rw (mode, device, steps) does) in
      let more = lines_to lines one.0 m1 m d1 d w1 w' k1 k one.2 one.3 one.4 one.5 rest in
      (more.0, (text, one.0, w1, one.1, told, more.1), more.2, more.3, more.4, more.5)

  all_to : (x : Moment) (d' : Device) (w w' : Option (List ℕ)) (k' : ℕ)
      → Holds program super x.mode x.device x.state → (given : List (List ℕ))
      → ServesTo program x.mode x.device w x.steps d' w' k' given
      → AllMeant program super x d' w' k' w given
  all_to x d' w w' k' holds given (m', serves) =
      let to = lines_to given x x.mode m' x.device d' w w' x.steps k' holds refl refl refl serves in
      (to.0, to.1, to.4, to.5)

  part_to : (x : Moment) (d' : Device) (w w' : Option (List ℕ)) (k' : ℕ)
      → Holds program super x.mode x.device x.state → (given : List (List ℕ)) (next : List ℕ)
      → ServesPart program x.mode x.device w x.steps d' w' k' given next
      → PartMeant program super x d' w' k' w given next
  part_to x d' w w' k' holds given next (m1, d1, w1, k1, serves, text, m', does, part) =
      let to = lines_to given x x.mode m1 x.device d1 w w1 x.steps k1 holds refl refl refl serves in
      let one = line_to (line_meaning next) (line_words next) to.0 text m' d' k' to.2
      (rw (to.3, to.4, to.5) does) in
      (to.0, w1, to.1, text, one.0, one.1, part, one.4, one.5)

  from_to : (end : Served) (text : List ℕ) (left left' : Option (List ℕ)) (x : Moment)
      (w w' : Option (List ℕ)) (d' : Device) (k' : ℕ)
      → Holds program super x.mode x.device x.state
      → ServedAfter end text left left' program x.mode x.device w x.steps d' w' k'
      → ServedFrom end text left left' program super x w w' d' k'
  from_to end text left left' x w w' d' k' holds (inl first) = inl first
  from_to end text left left' x w w' d' k' holds (inr (told, wrote, ends)) = inr (
    told,
    wrote,
    ends_map (all_to x d' told w' k' holds) (part_to x d' told w' k' holds) end left left' ends,
  )

module _ (program : Program) (agrees : Agrees program) where
  new_to : (end : Served) (left left' : Option (List ℕ)) (d b : Device) (w w' : Option (List ℕ))
      (d' : Device) (k k' : ℕ) → Created program d b
      → NewServed end left left' program b w k d' w' k'
      → NewMeantTo end left left' program b w w' d' k k'
  new_to end left left' d b w w' d' k k' made ends =
      let holds = created_rests program d b made in
      let super : Words = super_words program in (
        holds,
        from_to program super agrees end _ left left' (fresh_moment program b k) w w' d' k' holds
            ends,
      )

  memory_to : (r : Result Served StartFault) (left left' : Option (List ℕ))
      (w w' : Option (List ℕ)) (d d' : Device) (k k' : ℕ)
      → CreatedServed r left left' program d w k d' w' k'
      → MemoryMeantTo r left left' program w w' d d' k k'
  memory_to (Ok end) left left' w w' d d' k k' (b, made, ends) =
      (b, made, new_to end left left' d b w w' d' k k' made ends)
  memory_to (Err why) left left' w w' d d' k k' unmade = unmade

  made_to : (r : Result Served StartFault) (left left' : Option (List ℕ)) (d b : Device)
      (w w' : Option (List ℕ)) (d' : Device) (k k' : ℕ) → Created program d b
      → MadeServed r left left' program b w k d' w' k'
      → MadeMeantTo r left left' program b w w' d' k k'
  made_to (Ok end) left left' d b w w' d' k k' made ends =
      new_to end left left' d b w w' d' k k' made ends
  made_to (Err why) left left' d b w w' d' k k' made none = absurd none

  open_to : (r : Result Served StartFault) (left left' : Option (List ℕ)) (words : List ℤ)
      (w w' : Option (List ℕ)) (d d' : Device) (k k' : ℕ) → AreWords words
      → IsOpened (wanted_of program) words
      → OpenedServed r left left' program words d w k d' w' k'
      → OpenMeantTo r left left' program words w w' d d' k k'
  open_to (Ok end) left left' words w w' d d' k k' are opened (a, m, b, k1, opens, ends) =
      let first = open_step opened_answers program words m d b a k k1 agrees are opened opens in
      let x : Moment = opened_to program words a m b k1 first.0 in (
        a,
        x,
        first.1,
        from_to program (image_words words) agrees end _ left left' x w w' d' k' first.1.holds ends,
      )
  open_to (Err why) left left' words w w' d d' k k' are opened unopened = unopened

  makes_to : (left left' : Option (List ℕ)) (result : Status) (before after : PoolSide)
      → MakesPool (ServesNew left left' program result before after) program result before after
      → MakesPool (λ b. Concludes (λ r w. MadeMeantTo r left left' program b before.out w
      after.held.device before.steps after.steps) result after) program result before after
  makes_to left left' result before after (inl silent) = inl silent
  makes_to left left' result before after (inr (inl busy)) = inr (inl busy)
  makes_to left left' result before after (inr (inr (b, made, (r, w, status, stands, ends)))) =
      inr (inr (
        b,
        made,
        (
          r,
          w,
          status,
          stands,
          made_to r left left' before.held.device b before.out w after.held.device before.steps
              after.steps made ends,
        ),
      ))

  served_to : (left left' : Option (List ℕ)) (words : List ℤ) → AreWords words
      → IsOpened (wanted_of program) words → (result : Status) (before after : PoolSide)
      → ServesOn left left' program result before after words
      → Concludes (λ r w. OpenMeantTo r left left' program words before.out w before.held.device
      after.held.device before.steps after.steps) result after
  served_to left left' words are opened result before after (r, w, status, stands, ends) = (
    r,
    w,
    status,
    stands,
    open_to r left left' words before.out w before.held.device after.held.device before.steps
        after.steps are opened ends,
  )

  opening_to : (r : Result Served StartFault) (words : List ℤ) (w w' : Option (List ℕ))
      (d d' : Device) (k k' : ℕ) → AreWords words → IsOpened (wanted_of program) words
      → OpeningEnds r program words w w' d d' k k' → OpeningMeantTo r program words w w' d d' k k'
  opening_to (Ok end) words w w' d d' k k' are opened (a, m, opens, first) =
      let step = open_step opened_answers program words m d d' a k k' agrees are opened opens in
      (a, opened_to program words a m d' k' step.0, step.1, first, refl, refl)
  opening_to (Err why) words w w' d d' k k' are opened unopened = unopened

  runs_to : (takes also : Option FileLines → Type 0)
      → ((shown : Option FileLines) → takes shown → also shown) → (left left' : Option (List ℕ))
      (result : Status) (before after : PoolSide)
      → RunsFile takes (ServesNew left left' program result before after) program result before
      after
      → RunsFile also (λ b. Concludes (λ r w. MadeMeantTo r left left' program b before.out w
      after.held.device before.steps after.steps) result after) program result before after
  runs_to takes also so left left' result before after (inl busy) = inl busy
  runs_to takes also so left left' result before after (inr (inl silent)) = inr (inl silent)
  runs_to takes also so left left' result before after (inr (inr (inl (none, made)))) =
      inr (inr (inl (none, makes_to left left' result before after made)))
  runs_to takes also so left left' result before after (inr (inr (inr (shown, tells, taken)))) =
      inr (inr (inr (shown, tells, so shown taken)))

-- lines are answered from this moment on
lines_to_meant : (r : Result Served StartFault) (left left' : Option (List ℕ)) (program : Program)
    → Agrees program → (super : Words) (y : Moment) (told w : Option (List ℕ)) (after : PoolSide)
    → Holds program super y.mode y.device y.state
    → ServesFrom r left left' program y.mode y.device told y.steps after.held.device w after.steps
    → ServesOkFrom r left left' program super y told w after
lines_to_meant (Ok end) left left' program agrees super y told w after holds ends =
    ends_map (all_to program super agrees y after.held.device told w after.steps holds)
    (part_to program super agrees y after.held.device told w after.steps holds) end left left' ends
lines_to_meant (Err why) left left' program agrees super y told w after holds ends = absurd ends

-- a former pool is served
module _ (former new : Program) (former_agrees : Agrees former) (agrees : Agrees new)
    (sizes : first_other former.typed new.typed ≡ None → sizes_of new ≡ sizes_of former)
    (left left' : Option (List ℕ)) where
  served_on : (super : Words) (y : Moment) (result : Status) (told : Option (List ℕ))
      (after : PoolSide) → Holds new super y.mode y.device y.state
      → Concludes (λ r w. ServesFrom r left left' new y.mode y.device told y.steps
      after.held.device w after.steps) result
      after → LinesMeantTo left left' new super y result told after
  served_on super y result told after holds (r, w, status, stands, ends) =
      (r, w, status, stands, lines_to_meant r left left' new agrees super y told w after holds ends)

  moved_to : (words : List ℤ) → AreWords words → IsOpened (wanted_of former) words
      → (result : Status) (before after : PoolSide)
      → ServesMoved left left' former new result before after words
      → MovedMeantTo left left' former new words result before after
  moved_to words are opened result before after (inl (r, w, status, stands, ends)) =
      inl (
        r,
        w,
        status,
        stands,
        opening_to former former_agrees r words before.out w before.held.device after.held.device
            before.steps after.steps are opened ends,
      )
  moved_to words are opened result before after (inr (
    m,
    d,
    k,
    told,
    (a, opens, wrote, awake),
    moves,
  )) =
      let first = open_step opened_answers former words m before.held.device d a before.steps k
      former_agrees are opened opens in
      let x : Moment = opened_to former words a m d k first.0 in
      inr (
        a,
        x,
        told,
        first.1,
        wrote,
        moves_meant former new (image_words words) x result told after sizes first.1.holds
            (λ (b : Device). Concludes
            (λ r w. ServesFrom r left left' new m b told k after.held.device w after.steps)
            result after)
            (λ super y. LinesMeantTo left left' new super y result told after)
            (λ b holds served. served_on (moved_words new (image_words words)) (moved_moment b x)
            result told after holds served)
            moves,
      )

pub memory_served : (asked : Asked) (told : Sources) (result : Status) (before after : Outside)
    → MemoryEnds asked told result before.out after.out before.dev after.dev before.steps
    after.steps → ServeMeant asked told result before after
memory_served asked told result before after (inl refused) = inl refused
memory_served asked told result before after (inr (compiled, is, r, w, status, never, ends)) =
    let from = known_bytes told.program (λ text. IsCompiled asked text compiled) is in
    inr (
      compiled,
      is,
      r,
      w,
      status,
      never,
      memory_to compiled.program from.1.agrees r told.script told.rest before.out w before.dev
          after.dev before.steps after.steps ends,
    )

pub file_served : (asked : Asked) (moves : Bool) (told : Sources) (result : Status)
    (before after : PoolSide) → ServeEnds asked moves told result before after
    → ServeFileMeant asked moves told result before after
file_served asked moves told result before after (inl refused) = inl refused
file_served asked moves told result before after (inr (compiled, is, ran)) =
    let from = known_bytes told.program (λ text. IsCompiled asked text compiled) is in
    let agrees = from.1.agrees in
    inr (
      compiled,
      is,
      runs_to compiled.program agrees _ _
          (λ shown. taken_map result before after asked told.former compiled.program told.image
          (ServesOn told.script told.rest compiled.program result before after)
          (λ words. Concludes (λ r w. OpenMeantTo r told.script told.rest compiled.program words
          before.out w before.held.device after.held.device before.steps after.steps) result after)
          (λ old. ServesMoved told.script told.rest old.program compiled.program result before
          after)
          (λ old words. MovedMeantTo told.script told.rest old.program compiled.program words result
          before after)
          (λ words are opened ran. served_to compiled.program agrees told.script told.rest words are
          opened result before after ran)
          (λ old former words are opened ran.
          let text = known_bytes told.former (λ t. IsCompiled asked t old) former in
          moved_to old.program compiled.program text.1.agrees agrees
          (sizes_same asked old compiled text from) told.script told.rest words are opened result
          before after ran)
          moves shown)
          told.script told.rest result before after ran,
    )
