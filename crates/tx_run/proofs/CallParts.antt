-- A seal, and the due events after it.
use Rattle.std.proofs.Common.{◌≡◌, ◌≤◌, ℕ, ◌+◌, List, ℤ, take, w64, inl, refl, subst}
use Rattle.std.specs.Int.{cast_signed}
use Rattle.cache_model.specs.Cache.{Cache, view}
use Rattle.cache_model.specs.Event.{CacheEvent}
use Rattle.cache_model.specs.Play.{play}
use Rattle.pmem.specs.Device.{Device}
use Rattle.pmem.specs.Played.{PlaysAll, PlaysPart}
use Rattle.pmem.specs.declared.answer.Refusal.{Refusal}
use Rattle.pmem.specs.declared.answer.Refusal.TheVariants as refusal
use Rattle.pmem.specs.declared.answer.Phase.{Phase}
use Rattle.pmem.specs.declared.answer.Phase.TheVariants.{Unsealed, Sealing, Sealed}
use Rattle.pmem.proofs.Glue.{all_append, part_left, part_right}
use Rattle.pmem.proofs.Refused.{all_cache, all_on}
use Rattle.pool_layout.specs.declared.places.TheConstants.{DONE, ARGUMENTS}
use Rattle.args_log.specs.Next.{number_after}
use Rattle.args_log.specs.Seal.{payload_events, unsealed_events, sealing_events, seal_events}
use Rattle.args_log.specs.Sealing as sealing
use Rattle.args_log.specs.declared.sealing.SealAnswer.TheVariants as seal
use Rattle.pm_machine.specs.declared.effect.End.{End}
use Rattle.pm_machine.specs.declared.records.Policy.{Policy}
use Rattle.pm_machine.specs.declared.image.Image.{Image}
use Rattle.pm_machine.specs.Machine.{State, start}
use Rattle.pm_machine.specs.Runs.{end_of, due_on}
use Rattle.tx_run.specs.declared.answer.CallAnswer.TheVariants as call
use Rattle.tx_run.specs.declared.answer.Settled.{Settled}
use Rattle.tx_run.specs.declared.answer.Settled.TheVariants.{Done, Trap, Aborted, Off, Failed}
use Rattle.tx_run.specs.declared.answer.Settled.TheVariants.{NoMemory}
use Rattle.tx_run.specs.Due.{due_run, run_steps, due_seal, due_unsealed, due_call}
use Rattle.tx_run.specs.Settled.{HasSettled, HasLogged, Settles}
use Rattle.tx_run.specs.inside.Settled.{call_answer}
use Rattle.tx_run.specs.Called.{call_steps, HasCalled, Called}

module _ (p : Policy) (image : Image) (tx : ℕ) (args : List ℤ) (d b : Device) where
  abbrev state : State
  state = start image tx args

  abbrev seal_of : List CacheEvent
  seal_of = due_seal tx args d.cache

  abbrev cache_after : Cache
  cache_after = play d.cache seal_of

  left : (why : Refusal) → PlaysPart why d seal_of b
      → PlaysPart why d (due_call p image tx args d.cache) b
  unfolding due_call
  left why q = part_left seal_of (due_run p image state cache_after) why d b q

  -- memory may be short before the first event
  pub short : PlaysPart refusal.NoMemory d (due_call p image tx args d.cache) d
  unfolding due_call seal_events unsealed_events payload_events
  short = inl (tt, refl)

  pub seal_off : (q : Phase) (k k1 : ℕ)
      → sealing.Seals (seal.Off q) d (cast_signed w64 tx) (take ARGUMENTS args)
      (number_after (view d.cache DONE)) b → Called (call.Off q) p image tx args d b k k1
  unfolding seal_events
  seal_off Unsealed k k1 h = (
    left refusal.Off
        (part_left (due_unsealed tx args d.cache) sealing_events refusal.Off d b h),
    h,
  )
  seal_off Sealing k k1 h = (
    left refusal.Off (part_right (due_unsealed tx args d.cache) sealing_events refusal.Off d
        h.at_seal b h.stored h.went),
    record { between = h.at_seal; done = h.stored; went = h.went },
  )
  seal_off Sealed k k1 h = absurd h

  pub seal_failed : (k k1 : ℕ) → PlaysPart refusal.Failed d seal_of b
      → Called call.Failed p image tx args d b k k1
  seal_failed k k1 h = left refusal.Failed h

  pub seal_short : (k k1 : ℕ) → PlaysPart refusal.NoMemory d seal_of b
      → Called call.NoMemory p image tx args d b k k1
  seal_short k k1 h = left refusal.NoMemory h

  module _ (m : Device) (sealed : PlaysAll d seal_of m) where
    same : m.cache ≡ cache_after
    same = all_cache seal_of d m sealed

    all : PlaysAll m (due_run p image state m.cache) b
        → PlaysAll d (due_call p image tx args d.cache) b
    unfolding due_call
    all h = all_append seal_of (due_run p image state cache_after) d m b sealed
        (subst (λ (c : Cache). PlaysAll m (due_run p image state c) b) same h)

    went : (why : Refusal) → PlaysPart why m (due_run p image state m.cache) b
        → PlaysPart why m (due_run p image state cache_after) b
    went why h = subst (λ (c : Cache). PlaysPart why m (due_run p image state c) b) same h

    right : (why : Refusal) → PlaysPart why m (due_run p image state m.cache) b
        → PlaysPart why d (due_call p image tx args d.cache) b
    unfolding due_call
    right why h = part_right seal_of (due_run p image state cache_after) why d m b sealed
        (went why h)

    ended : (e : End) (k k1 : ℕ) → HasSettled e p image state m b k k1
        → HasCalled e p image tx args d b k k1
    ended e k k1 h = record {
      fate = subst (λ (c : Cache). end_of (due_on p image state c).fate ≡ e) same h.fate;
      played = all h.played;
      steps = subst (λ (c : Cache). k1 ≡ k + run_steps p image state c) same h.steps;
    }

    pub still_on : m.on ≡ d.on
    still_on = all_on seal_of d m sealed

    pub spent_of : (k k1 : ℕ) → k1 ≤ k + run_steps p image state m.cache →
        k1 ≤ k + call_steps p image tx args d
    spent_of k k1 h = subst (λ (c : Cache). k1 ≤ k + run_steps p image state c) same h

    pub called_of : (a : Settled) (k k1 : ℕ) → Settles a p image state m b k k1
        → Called (call_answer a) p image tx args d b k k1
    called_of (Done v l) k k1 h = (ended _ k k1 h.0, subst (HasLogged l p image state) same h.1)
    called_of (Trap t) k k1 h = (h.0, ended _ k k1 h.1)
    called_of (Aborted t) k k1 h = (h.0, ended _ k k1 h.1)
    called_of Off k k1 h = (
      right refusal.Off h,
      record { between = m; done = sealed; went = went refusal.Off h },
    )
    called_of Failed k k1 h = right refusal.Failed h
    called_of NoMemory k k1 h = right refusal.NoMemory h
