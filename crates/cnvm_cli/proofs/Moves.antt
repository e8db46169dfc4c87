-- How a former pool is taken and moved, as the bodies promise it.
use Rattle.std.proofs.Common.{◌≡◌, ◌≢◌, inl, inr, ℕ, ℤ, List, [], Option, Ok, Err, refl}
use Rattle.std.proofs.Common.{Result, sym, subst, ◌∙◌}
use Rattle.pmem.specs.Device.{Device}
use Rattle.file_pmem.specs.File.{FileLines}
use Rattle.file_pmem.specs.declared.link.MirrorState.{MirrorState}
use Rattle.file_pmem.specs.declared.link.MirrorState.TheVariants.{Awake}
use Rattle.cnvm_script.specs.declared.command.Command.{Command}
use Rattle.cnvm_session.specs.Former.{first_other}
use Rattle.cnvm_session.specs.declared.creating.StartFault.{StartFault}
use Rattle.cnvm_session.specs.declared.mode.Mode.{Mode}
use Rattle.cnvm_session.specs.declared.program.Program.{Program}
use Rattle.session_run.specs.declared.status.Status.{Status}
use Rattle.session_run.specs.declared.status.Status.TheVariants as status
use Rattle.session_run.specs.Held.{OpensTold, AnswersAs}
use Rattle.session_serve.specs.Begins as serve
use Rattle.session_serve.specs.Begins.{OpeningEnds}
use Rattle.session_serve.specs.declared.serving.Served.{Served}
use Rattle.cnvm_cli.specs.declared.former.FormerPool.{FormerPool}
use Rattle.cnvm_cli.specs.declared.former.Unheld.TheVariants as unheld
use Rattle.cnvm_cli.specs.declared.refused.Refused.{Refused}
use Rattle.cnvm_cli.specs.PoolSide.{PoolSide, RefusesFile}
use Rattle.cnvm_cli.specs.Serve.{StatusOf, StandsAt, Concludes}
use Rattle.cnvm_cli.specs.inside.FormerEnds.{TakesPool, IsPoolHeld, IsUnheld, MovesAs, TakesOver}
use Rattle.cnvm_cli.specs.inside.PoolEnds.{RunsOn, RunsMoved}
use Rattle.cnvm_cli.specs.inside.ServeEnds.{ServesFrom, ServesMoved}

-- what is run on the words of a file that holds a former pool
module _ (run : List ℤ → Type 0) (pool : FormerPool) (shown : Option FileLines) (result : Status)
    (before after : PoolSide) where
  pub pool_taken : IsPoolHeld pool shown → run pool.words
      → TakesPool run pool shown result before after
  pool_taken (shown', mended, newest) ran = inr (shown', mended, inr (newest, ran))

  pub pool_refused : (why : Refused) → IsUnheld pool shown (unheld.Refused why)
      → RefusesFile why result before after → TakesPool run pool shown result before after
  pool_refused why (shown', mended, other, long, others, newest, is) refuses =
      inr (
        shown',
        mended,
        inl (
          other,
          long,
          others,
          newest,
          subst (λ (y : Refused). RefusesFile y result before after) is refuses,
        ),
      )

-- what becomes of an opened pool
module _ (go : Device → Type 0) (former new : Program) (m : Mode) (d : Device) (k : ℕ)
    (result : Status) (told : Option (List ℕ)) (after : PoolSide) (other : Option (List ℕ))
    (is : other ≡ first_other former.typed new.typed) where
  pub moves_left : TakesOver new other m (Err result) told after.out d after.held.device
      after.held.state → after.steps ≡ k → MovesAs go former new m d k result told after
  moves_left (inl (unrecovered, status, out, device)) steps =
      inl (unrecovered, status, out, (device, steps))
  moves_left (inr (recovered, inl (name, some, tells, device))) steps =
      inr (recovered, inl (name, sym is ∙ some, tells, (device, steps)))
  moves_left (inr (recovered, inr (none, unmoved, out))) steps =
      inr (recovered, inr (sym is ∙ none, inl (unmoved, out, steps)))

  pub moves_over : (s : MirrorState) (b : Device) (w : Option (List ℕ))
      → TakesOver new other m (Ok tt) told w d b s
      → go b → MovesAs go former new m d k result told after
  moves_over s b w (recovered, none, plays, out, awake) goes =
      inr (recovered, inr (sym is ∙ none, inr (b, plays, goes)))

-- a run on a former pool
module _ (former new : Program) (commands : List Command) (result : Status)
    (before after : PoolSide) (given words : List ℤ) (same : given ≡ words) where
  pub run_early : result ≢ status.Done → RunsOn former [] result before after given
      → RunsMoved former new commands result before after words
  run_early undone runs =
      inl (undone, subst (λ (ws : List ℤ). RunsOn former [] result before after ws) same runs)

  module _ (m : Mode) (d : Device) (k : ℕ) (told : Option (List ℕ)) (s : MirrorState)
      (opens : OpensTold former given m s before.out told before.held.device d before.steps k)
    where
      awake : OpensTold former words m Awake before.out told before.held.device d before.steps k
      awake =
          let given_opens = subst
          (λ (ws : List ℤ). OpensTold former ws m s before.out told before.held.device d
          before.steps
          k) same opens in
          (given_opens.0, given_opens.1, given_opens.2, refl)

      pub run_left : MovesAs
          (λ b. AnswersAs new commands m result after.held.state told after.out b
          after.held.device k
          after.steps) former new m d k result told after
          → RunsMoved former new commands result before after words
      run_left moves = inr (m, d, k, told, awake, moves)

      pub run_moved : (other : Option (List ℕ)) → other ≡ first_other former.typed new.typed
          → (t : MirrorState) (b : Device) (w : Option (List ℕ))
          → TakesOver new other m (Ok tt) told w d b t
          → AnswersAs new commands m result after.held.state w after.out b after.held.device k
          after.steps
          → RunsMoved former new commands result before after words
      run_moved other is t b w over answers =
          run_left
          (moves_over
          (λ (c : Device). AnswersAs new commands m result after.held.state told after.out c
          after.held.device k after.steps)
          former new m d k result told after other is t b w over
          (subst
          (λ (v : Option (List ℕ)). AnswersAs new commands m result after.held.state v after.out b
          after.held.device k after.steps) over.3 answers))

-- a former pool is served
module _ (left left' : Option (List ℕ)) (former new : Program) (result : Status)
    (before after : PoolSide) (given words : List ℤ) (same : given ≡ words) where
  pub serve_early : (r : Result Served StartFault) (w : Option (List ℕ))
      → StatusOf r result w after.out → StandsAt r after.held.state
      → OpeningEnds r former given before.out w before.held.device after.held.device before.steps
      after.steps → ServesMoved left left' former new result before after words
  serve_early r w told stands ends =
      inl (
        r,
        w,
        told,
        stands,
        subst
            (λ (ws : List ℤ). OpeningEnds r former ws before.out w before.held.device
            after.held.device before.steps after.steps)
            same ends,
      )

  module _ (m : Mode) (d : Device) (k : ℕ) (told : Option (List ℕ)) (s : MirrorState)
      (opens : serve.OpensTold former given m s before.out told before.held.device d before.steps
      k) where
    served_awake : serve.OpensTold former words m Awake before.out told before.held.device d
        before.steps k
    served_awake =
        let given_opens = subst
        (λ (ws : List ℤ). serve.OpensTold former ws m s before.out told before.held.device d
        before.steps k) same opens in
        (given_opens.0, given_opens.1, given_opens.2, refl)

    pub serve_left : MovesAs
        (λ b. Concludes (λ r w. ServesFrom r left left' new m b told k after.held.device w
        after.steps) result after) former
        new m d k result told after
        → ServesMoved left left' former new result before after words
    serve_left moves = inr (m, d, k, told, served_awake, moves)

    pub serve_over : (other : Option (List ℕ)) → other ≡ first_other former.typed new.typed
        → (t : MirrorState) (b : Device) (v : Option (List ℕ))
        → TakesOver new other m (Ok tt) told v d b t → (r : Result Served StartFault)
        (w : Option (List ℕ)) → StatusOf r result w after.out → StandsAt r after.held.state
        → ServesFrom r left left' new m b v k after.held.device w after.steps
        → ServesMoved left left' former new result before after words
    serve_over other is t b v over r w status stands serves =
        serve_left
        (moves_over
        (λ (c : Device). Concludes (λ q u. ServesFrom q left left' new m c told k
        after.held.device u after.steps) result
        after)
        former new m d k result told after other is t b v over (
          r,
          w,
          status,
          stands,
          subst (λ (u : Option (List ℕ)). ServesFrom r left left' new m b u k after.held.device w
              after.steps) over.3
              serves,
        ))
