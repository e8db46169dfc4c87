-- The effect of a turn of a transaction.
use Rattle.std.proofs.Common.{◌≡◌, ◌≢◌, ℕ, ◌-◌, ◌≤◌, ◌^◌, ◌==◌, if◌then◌else◌, Bool, true, false}
use Rattle.std.proofs.Common.{List, [], take, length, Option, Some, ℤ, w64, refl, sym, ap, ap₂, ◌∙◌}
use Rattle.std.proofs.Common.{subst, arith}
use Rattle.std.specs.Int.{cast_signed}
use Rattle.std.proofs.lemmas.Bool.{eqb-false}
use Rattle.cache_model.specs.Cache.{Cache, view}
use Rattle.pmem.specs.Device.{Device}
use Rattle.pmem.specs.Played.{PlaysAll}
use Rattle.pmem.specs.declared.answer.Phase.{Phase}
use Rattle.pmem.specs.declared.answer.Phase.TheVariants.{Unsealed, Sealing, Sealed}
use Rattle.pmem.specs.declared.answer.Refusal.TheVariants as refusal
use Rattle.pmem.proofs.Glue.{part_left, part_right}
use Rattle.pmem.proofs.Refused.{all_cache}
use Rattle.pool_layout.specs.declared.places.TheConstants.{DONE, ARGUMENTS}
use Rattle.pool_layout.specs.Sizes.{heap_words}
use Rattle.pool_layout.specs.declared.limits.Sizes.{Sizes}
use Rattle.pool_layout.specs.Places.{pool_of}
use Rattle.pool_layout.specs.Log.{count}
use Rattle.clobber_log.specs.Logs.{attempt_in, count_in}
use Rattle.args_log.specs.Next.{number_after}
use Rattle.args_log.specs.Seal.{sealing_events, seal_events}
use Rattle.args_log.specs.Sealing as sealing
use Rattle.args_log.specs.declared.sealing.SealAnswer.TheVariants as seal
use Rattle.pm_machine.specs.declared.effect.End.{End}
use Rattle.pm_machine.specs.declared.effect.End.TheVariants.{Trapped}
use Rattle.pool_map.specs.declared.trap.TrapKind.TheVariants.{Steps}
use Rattle.pm_machine.specs.declared.image.Image.{Image}
use Rattle.pm_machine.specs.declared.machine.Machine.{Machine}
use Rattle.pm_machine.specs.declared.records.Policy.TheVariants.{EndPool}
use Rattle.pm_machine.specs.declared.machine.Went.{Went}
use Rattle.pm_machine.specs.declared.machine.Went.TheVariants as went
use Rattle.pm_machine.specs.Logging.{Logging, Turn, Plays, Stops, turn_of}
use Rattle.pm_machine.specs.Machine.{State, step, start}
use Rattle.pm_machine.specs.Runs.{heap_in, AreLines, IsTurn, IfEnded, due_step, logging_on}
use Rattle.pm_machine.proofs.Range.{keeps_step}
use Rattle.pm_machine.proofs.Recording.{turn_keeps}
use Rattle.tx_run.specs.Due.{due_seal, due_unsealed}
use Rattle.pool_workers.specs.declared.answer.TurnAnswer.{TurnAnswer}
use Rattle.pool_workers.specs.declared.answer.TurnAnswer.TheVariants as answer
use Rattle.pool_workers.specs.declared.task.Stepped.{Stepped}
use Rattle.pool_workers.specs.declared.task.Task.{Task}
use Rattle.pool_workers.specs.declared.task.Task.TheVariants.{Begun, Running, Ending, Cut}
use Rattle.pool_workers.specs.Task.{machine_at, first_machine, going, sealed_task, stepped_task}
use Rattle.pool_workers.specs.Task.{Turned, IsTask}
use Rattle.pool_workers.specs.inside.Task.{stepped_left, stepped_answer}

pub going_task : (image : Image) (tx : ℕ) (m : Machine) (a k : ℕ) →
    AreLines (heap_words image.parts.sizes) m.processor.dirty → a ≤ 2 ^ 63 - 2 →
    IsTask image (going tx m a k)
going_task image tx m a k lines fits = by_test (k == 0) refl
  where
    by_test : (b : Bool) → (k == 0) ≡ b →
        IsTask image (if b then Ending tx (Trapped Steps) (length m.records.words)
        else Running tx m a k)
    by_test true is = tt
    by_test false is = (lines, fits, (let ne : k ≢ 0 = eqb-false k 0 is in omega arith))

module _ (image : Image) (tx : ℕ) (args : List ℤ) (s : Machine) (d b : Device) where
  pub seal_whole : (t : Task) → PlaysAll d (due_seal tx args d.cache) b →
      t ≡ sealed_task image tx s b.cache → Turned answer.Went image (Begun tx args s) (Some t) d b
  seal_whole t all is = (
    refl,
    ap Some (is
        ∙ ap (sealed_task image tx s) (all_cache (due_seal tx args d.cache) d b all)),
    all,
  )

  seal_part : (p : Phase) →
      sealing.Seals (seal.Off p) d (cast_signed w64 tx) (take ARGUMENTS args)
      (number_after (view d.cache DONE)) b
      → Turned answer.Off image (Begun tx args s) (Some (Cut p)) d b
  unfolding seal_events
  seal_part Unsealed h =
      (part_left (due_unsealed tx args d.cache) sealing_events refusal.Off d b h, h)
  seal_part Sealing h = (
    part_right (due_unsealed tx args d.cache) sealing_events refusal.Off d h.at_seal b h.stored
        h.went,
    record { between = h.at_seal; done = h.stored; went = h.went },
  )
  seal_part Sealed h = absurd h

  pub seal_cut : (p : Phase) (a : TurnAnswer) (o : Option Task) → a ≡ answer.Off →
      o ≡ Some (Cut p) →
      sealing.Seals (seal.Off p) d (cast_signed w64 tx) (take ARGUMENTS args)
      (number_after (view d.cache DONE)) b → Turned a image (Begun tx args s) o d b
  seal_cut p a o is_off is_cut h =
      subst (λ (x : TurnAnswer). Turned x image (Begun tx args s) o d b) (sym is_off)
      (subst (λ (x : Option Task). Turned answer.Off image (Begun tx args s) x d b) (sym is_cut)
      (seal_part p h))

-- a machine that was begun on no record, at its first place
pub first_is : (image : Image) (tx : ℕ) (args : List ℤ) (m : Machine) →
    m.processor ≡ start image tx args →
    m.records ≡ record { policy = EndPool; count = 0; words = [] } →
    m ≡ first_machine image tx args
first_is image tx args m state log = λ i. machine_at (state i) (log i)

-- after the seal, from the attempt and the records that were read
pub sealed_run : (image : Image) (tx : ℕ) (m n : Machine) (a r most : ℕ) (t : Task) (c : Cache)
    (y x : Sizes) → y ≡ image.parts.sizes → x ≡ image.parts.sizes → a ≡ attempt_in y (view c) →
    r ≡ count (pool_of x) a (view c) → most ≡ image.parts.most → n.processor ≡ m.processor →
    n.records ≡ record { policy = EndPool; count = r; words = [] } → t ≡ going tx n a most →
    t ≡ sealed_task image tx m c
sealed_run image tx m n a r most t c y x ys xs a_read r_read most_is state log is =
    let z = image.parts.sizes in
    let a_is : a ≡ attempt_in z (view c) = a_read ∙ ap (λ (s : Sizes). attempt_in s (view c)) ys in
    let r_is : r ≡ count_in z (view c) =
    r_read ∙ ap₂ (λ (s : Sizes) (b : ℕ). count (pool_of s) b (view c)) xs a_is in
    let log_is : n.records ≡ logging_on EndPool z c =
    log ∙ (λ i. record { policy = EndPool; count = r_is i; words = [] }) in
    is ∙ (λ i. going tx (machine_at (state i) (log_is i)) (a_is i) (most_is i))

-- what an instruction leaves, where the machine went as its turn goes
module _ (image : Image) (tx : ℕ) (m t : Machine) (a k : ℕ) (d b : Device) (w : Went) where
  abbrev next : Turn
  next = turn_of image m.records m.processor (heap_in image.parts.sizes d.cache)

  on_past : (x : Turn) → IsTurn went.On t.records t.processor x →
      going tx t a (k - 1) ≡ stepped_task tx a k m.records x
  on_past (Plays es h s) is =
      ap₂ (λ (g : Logging) (u : State). going tx (machine_at u g) a (k - 1)) is.0 is.1
  on_past (Stops end) is = absurd is

  over_past : (end : End) (x : Turn) → IsTurn (went.Ended end) t.records t.processor x →
      t.records ≡ m.records →
      Ending tx end (length t.records.words) ≡ stepped_task tx a k m.records x
  over_past end (Plays es h s) is same = absurd is
  over_past end (Stops other) is same =
      ap₂ (λ (e : End) (g : Logging). Ending tx e (length g.words)) is same

  pub on_task : IsTask image (Running tx m a k) → w ≡ went.On →
      IsTurn w t.records t.processor next → (j : ℕ) → IsTask image (going tx t a j)
  on_task task on is j =
      let z = image.parts.sizes in
      let heap = heap_in z d.cache in
      let o = step image m.processor heap in
      going_task image tx t a j
      (turn_keeps z.records (heap_words z) m.records t.records t.processor o
      (keeps_step image heap m.processor o task.0 refl)
      (subst (λ (v : Went). IsTurn v t.records t.processor next) on is)) task.1

  pub on_turned : (s : Stepped) → w ≡ went.On → IsTurn w t.records t.processor next →
      PlaysAll d (due_step image a m.records m.processor d.cache) b →
      stepped_answer s ≡ answer.Went → stepped_left s tx t a (k - 1) ≡ going tx t a (k - 1) →
      Turned (stepped_answer s) image (Running tx m a k) (Some (stepped_left s tx t a (k - 1))) d b
  on_turned s on is all told left =
      subst (λ (x : TurnAnswer). Turned x image (Running tx m a k)
      (Some (stepped_left s tx t a (k - 1))) d b) (sym told) (
        refl,
        ap Some (left
            ∙ on_past next (subst (λ (v : Went). IsTurn v t.records t.processor next) on is)),
        all,
      )

  pub over_turned : (end : End) (l : ℕ) → w ≡ went.Ended end →
      IsTurn w t.records t.processor next → IfEnded w (t.records ≡ m.records) →
      PlaysAll d (due_step image a m.records m.processor d.cache) b →
      l ≡ length t.records.words →
      Turned answer.Went image (Running tx m a k) (Some (Ending tx end l)) d b
  over_turned end l over is same all long = (
    refl,
    ap Some (ap (Ending tx end) long
        ∙ over_past end next
        (subst (λ (v : Went). IsTurn v t.records t.processor next) over is)
        (subst (λ (v : Went). IfEnded v (t.records ≡ m.records)) over same)),
    all,
  )
