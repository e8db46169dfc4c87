-- How a call is answered: by what the pool's line 2 says, and then by its due events.
use Rattle.std.specs.Prelude.{ℕ, ◌+◌, ◌≤◌, ◌≡◌, true, false, ℤ, List}
use Rattle.pmem.specs.Device.{Device}
use Rattle.pmem.specs.Played.{PlaysAll, PlaysPart}
use Rattle.pmem.specs.declared.answer.Phase.{Phase}
use Rattle.pmem.specs.declared.answer.Phase.TheVariants as phase
use Rattle.pmem.specs.declared.answer.Refusal.TheVariants as refusal
use Rattle.cache_model.specs.Play.{play}
use Rattle.args_log.specs.Seal.{sealing_events}
use Rattle.pm_machine.specs.declared.effect.End.{End}
use Rattle.pm_machine.specs.declared.effect.End.TheVariants.{Halted, Trapped}
use Rattle.pm_machine.specs.declared.records.Policy.{Policy}
use Rattle.pm_machine.specs.declared.records.Policy.TheVariants.{EndPool, RollBack}
use Rattle.pm_machine.specs.declared.image.Image.{Image}
use Rattle.pm_machine.specs.Machine.{start}
use Rattle.pm_machine.specs.Runs.{Due, end_of, due_on}
use Rattle.tx_run.specs.declared.answer.CallAnswer.{CallAnswer}
use Rattle.tx_run.specs.declared.answer.CallAnswer.TheVariants.{Done, Trap, Aborted, Off, Failed}
use Rattle.tx_run.specs.declared.answer.CallAnswer.TheVariants.{Unusable, Numbers, NoMemory}
use Rattle.cache_model.specs.Event.{CacheEvent}
use Rattle.cache_model.specs.Cache.{Cache, view}
use Rattle.pool_map.specs.declared.trap.TrapKind.{TrapKind}
use Rattle.tx_run.specs.declared.standing.Standing.TheVariants as stands
use Rattle.tx_run.specs.Standing.{standing_of}
use Rattle.tx_run.specs.Settled.{HasLogged}
use Rattle.tx_run.specs.Due.{due_run, run_steps, most_steps, due_seal, due_unsealed}
use Rattle.tx_run.specs.Due.{due_call}

-- the cache after the seal of a call
abbrev pub after_seal : (tx : ℕ) → List ℤ → Cache → Cache
after_seal tx args c = play c (due_seal tx args c)

-- the run of a call, on the cache after its seal
abbrev pub called_run : Policy → Image → (tx : ℕ) → List ℤ → Device → Due
called_run p image tx args d = due_on p image (start image tx args) (after_seal tx args d.cache)

-- the steps of a call that is played to its end
abbrev pub call_steps : Policy → Image → (tx : ℕ) → List ℤ → Device → ℕ
call_steps p image tx args d = run_steps p image (start image tx args) (after_seal tx args d.cache)

-- The run came to this end, and all due events were played; the step counter rose from k to k1 by
-- their steps.
pub record HasCalled (e : End) (p : Policy) (image : Image) (tx : ℕ) (args : List ℤ)
    (d b : Device) (k k1 : ℕ) : Type 0 where
  pub fate : end_of (called_run p image tx args d).fate ≡ e
  pub played : PlaysAll d (due_call p image tx args d.cache) b
  pub steps : k1 ≡ k + call_steps p image tx args d

-- the power went after all of the first events, at one of the next
pub record WentIn (d : Device) (b : Device) (first next : List CacheEvent) : Type 0 where
  pub between : Device
  pub done : PlaysAll d first between
  pub went : PlaysPart refusal.Off between next b

-- The power went: before the store of the seal was done, between it and the end of the seal, or
-- after the seal.
abbrev pub WentAt : Phase → Policy → Image → (tx : ℕ) → List ℤ → (d b : Device) → Type 0
WentAt phase.Unsealed p image tx args d b = PlaysPart refusal.Off d (due_unsealed tx args d.cache) b
WentAt phase.Sealing p image tx args d b = WentIn d b (due_unsealed tx args d.cache) sealing_events
WentAt phase.Sealed p image tx args d b =
    WentIn d b (due_seal tx args d.cache)
    (due_run p image (start image tx args) (after_seal tx args d.cache))

-- on a device that is on, of a pool that takes calls
abbrev pub Called : CallAnswer → Policy → Image → (tx : ℕ) → List ℤ → (d b : Device) → (k k1 : ℕ)
    → Type 0
Called (Done v l) p image tx args d b k k1 = HasCalled (Halted v) p image tx args d b k k1
    × HasLogged l p image (start image tx args) (after_seal tx args d.cache)
Called (Trap t) p image tx args d b k k1 =
    (p ≡ EndPool) × HasCalled (Trapped t) p image tx args d b k k1
Called (Aborted t) p image tx args d b k k1 =
    (p ≡ RollBack) × HasCalled (Trapped t) p image tx args d b k k1
Called (Off q) p image tx args d b k k1 =
    PlaysPart refusal.Off d (due_call p image tx args d.cache) b × WentAt q p image tx args d b
Called Failed p image tx args d b k k1 =
    PlaysPart refusal.Failed d (due_call p image tx args d.cache) b
Called NoMemory p image tx args d b k k1 =
    PlaysPart refusal.NoMemory d (due_call p image tx args d.cache) b
Called (Unusable t) p image tx args d b k k1 = ⊥
Called Numbers p image tx args d b k k1 = ⊥

-- A call over device d was answered by r; b is the device after it, and the counter rose from k to
-- k1. A pool that takes no call and a device that is off are left as they are, without a step. A
-- call takes at most the steps of its run and of what follows it, and at most the image's bound.
pub record IsTxCalled (r : CallAnswer) (p : Policy) (image : Image) (tx : ℕ) (args : List ℤ)
    (d b : Device) (k k1 : ℕ) : Type 0 where
  pub ready : d.on ≡ true → standing_of (view d.cache) ≡ stands.Ready →
      Called r p image tx args d b k k1
  pub unusable : (kind : TrapKind) → d.on ≡ true → standing_of (view d.cache) ≡ stands.Unusable kind
      →
      (r ≡ Unusable kind) × (b ≡ d) × (k1 ≡ k)
  pub numbers : d.on ≡ true → standing_of (view d.cache) ≡ stands.Numbers →
      (r ≡ Numbers) × (b ≡ d) × (k1 ≡ k)
  pub off : d.on ≡ false → (r ≡ Off phase.Unsealed) × (b ≡ d) × (k1 ≡ k)
  pub bound : d.on ≡ true → k1 ≤ k + call_steps p image tx args d
  pub most : k1 ≤ k + most_steps p image
