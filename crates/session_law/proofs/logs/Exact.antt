-- The run of a transaction with its log: it is full exactly if the source says so.
use Rattle.std.proofs.Common.{◌≡◌, ℕ, ◌+◌, if◌then◌else◌, nat_lt, Bool, true, false}
use Rattle.std.proofs.Common.{List, ℤ, refl, sym, ap, ◌∙◌, subst, arith}
use Rattle.cache_model.specs.Cache.{Words}
use Rattle.pool_map.specs.declared.trap.TrapKind.TheVariants.{LogFull}
use Rattle.pool_map.specs.PoolMap.{PoolMap}
use Rattle.c_meaning.specs.Transaction.{Outcome, Trap}
use Rattle.pm_machine.specs.declared.effect.Effect.{Effect}
use Rattle.pm_machine.specs.declared.effect.End.{End}
use Rattle.pm_machine.specs.declared.effect.End.TheVariants.{Trapped}
use Rattle.pm_machine.specs.declared.records.Policy.{Policy}
use Rattle.pm_machine.specs.Effects.{heap_end, records_end}
use Rattle.pm_machine.specs.Machine.{Finished, start}
use Rattle.pm_machine.specs.Logging.{blank, takes, tx_run}
use Rattle.pm_machine.specs.Law.{HasAllRecords}
use Rattle.pm_machine.proofs.Recording.{records_law, exact_law}
use Rattle.run_law.specs.Sound.{IsSoundRun}
use Rattle.run_law.proofs.Recorded.{records_sound}
use Rattle.cnvm_session.specs.declared.program.Program.{Program}
use Rattle.cnvm_session.specs.Marks.{policy_of}
use Rattle.cnvm_session.specs.Pool.{sizes_of}
use Rattle.session_law.specs.Agrees.{Matches, RunsAs}
use Rattle.session_law.specs.Source.{means, source_pool, outcome_with, ComesBy}
use Rattle.session_law.specs.Law.{ExactLaw, HeldRunLaw}
use Rattle.session_law.proofs.Words.{held_words}
use Rattle.session_law.proofs.logs.Logging.{one_logged}

-- The machine's run of a transaction with its log, which takes this number of records, unless the
-- log has fewer.
pub record Recorded (marked : Bool) (program : Program) (h : Words) (tx : ℕ) (args : List ℤ)
    (logged : ℕ) : Type 0 where
  pub end : End
  pub effects : List Effect
  pub ran : tx_run (policy_of marked) program.image program.image.parts.most h tx args
      ≡ Finished end effects
  pub sound : IsSoundRun (policy_of marked) end effects
  pub matches : Matches program (outcome_with program (source_pool program h) tx args logged) end
      (heap_end h effects)
  pub counted : nat_lt (sizes_of program).records logged ≡ false
      → records_end 0 effects ≡ logged

module _ (marked : Bool) (program : Program) (h : Words) (tx : ℕ) (args : List ℤ)
    (runs : RunsAs program h tx args) where
  abbrev p : Policy
  p = policy_of marked

  abbrev C : ℕ
  C = (sizes_of program).records

  abbrev logged : ℕ
  logged = takes (blank p) runs.effects

  abbrev means_here : Outcome
  means_here = means program (source_pool program h) tx args

  abbrev Comes : Bool → End → List Effect → Type 0
  Comes b end es = Matches program (if b then Trap LogFull else means_here) end (heap_end h es)
      × (b ≡ false → records_end 0 es ≡ logged)

  -- by whether there are more records than the log has
  comes : (b : Bool) (end1 : End) (es1 : List Effect) → (b ≡ true → end1 ≡ Trapped LogFull)
      → (b ≡ false → HasAllRecords (blank p) runs.end runs.effects end1 es1) → Comes b end1 es1
  comes true end1 es1 full fits = (
    subst (λ (e : End). Matches program (Trap LogFull) e (heap_end h es1)) (sym (full refl)) refl,
    λ no. let clash : true ≡ false = no in absurd cc,
  )
  comes false end1 es1 full fits =
      let all : HasAllRecords (blank p) runs.end runs.effects end1 es1 = fits refl in (
        subst (λ (g : Words). Matches program means_here end1 g) (sym (all.heap h))
            (subst (λ (e : End). Matches program means_here e (heap_end h runs.effects))
            (sym all.ends) runs.matches),
        λ room. let count : records_end 0 es1 ≡ 0 + logged = all.records in omega (arith, count),
      )

  pub run_recorded : Recorded marked program h tx args logged
  run_recorded =
      let exact = exact_law C (blank p) runs.end runs.effects (omega arith) in
      let zero_is : 0 + logged ≡ logged = omega arith in
      let told : Comes (nat_lt C logged) exact.0 exact.1 =
      comes (nat_lt C logged) exact.0 exact.1
      (λ more. exact.3 (ap (nat_lt C) zero_is ∙ more))
      (λ room. exact.4 (ap (nat_lt C) zero_is ∙ room)) in
      record {
        end = exact.0;
        effects = exact.1;
        ran = records_law program.image program.image.parts.most (blank p)
            (start program.image tx args) h runs.end runs.effects runs.ran ∙ exact.2;
        sound = records_sound p C runs.end exact.0 runs.effects exact.1 runs.sound exact.2;
        matches = told.0;
        counted = told.1;
      }

pub run_exact : ExactLaw
run_exact marked program h tx args logged outcome runs comes =
    let own = run_recorded marked program h tx args runs in
    let number : takes (blank (policy_of marked)) runs.effects ≡ logged =
    one_logged marked program (source_pool program h) tx args
    (takes (blank (policy_of marked)) runs.effects) logged (runs.logs marked) comes.logs in (
      own.end,
      own.effects,
      own.ran,
      subst (λ (o : Outcome). Matches program o own.end (heap_end h own.effects)) comes.is
          (subst (λ (n : ℕ). Matches program
          (outcome_with program (source_pool program h) tx args n) own.end
          (heap_end h own.effects)) number own.matches),
      subst (λ (n : ℕ). nat_lt (sizes_of program).records n ≡ false
          → records_end 0 own.effects ≡ n) number own.counted,
    )

-- the same on a heap that holds the source's pool
pub run_held : HeldRunLaw
run_held marked program h s tx args logged outcome agrees holds words takes comes =
    run_exact marked program h tx args logged outcome
    (agrees.runs h tx args holds.headers (held_words program h s holds) words takes)
    (subst (λ (p : PoolMap). ComesBy marked program p tx args logged outcome) (sym holds.pool)
    comes)
