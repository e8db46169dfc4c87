-- The due events of a call: seal, run, and what follows its end. Each part is a function of the
-- cache in which it begins.
use Rattle.std.specs.Prelude.{ℕ, ◌+◌, ◌++◌, List, take, ℤ}
use Rattle.std.specs.Int.{w64, cast_signed}
use Rattle.cache_model.specs.Event.{CacheEvent}
use Rattle.cache_model.specs.Cache.{Cache, view}
use Rattle.cache_model.specs.Play.{play}
use Rattle.pool_layout.specs.declared.places.TheConstants.{LAST, DONE, ATTEMPT, ARGUMENTS}
use Rattle.pool_layout.specs.declared.limits.Sizes.{Sizes}
use Rattle.pool_map.specs.declared.trap.TrapKind.{TrapKind}
use Rattle.pool_map.specs.Trap.{trap_number}
use Rattle.clobber_log.specs.Logs.{count_in}
use Rattle.clobber_log.specs.Restore.{restore_events}
use Rattle.args_log.specs.Next.{number_after}
use Rattle.args_log.specs.Seal.{unsealed_events, seal_events}
use Rattle.args_log.specs.Retire.{retire_events, mark_events}
use Rattle.pm_machine.specs.declared.effect.End.{End}
use Rattle.pm_machine.specs.declared.effect.End.TheVariants.{Halted, Trapped}
use Rattle.pm_machine.specs.declared.records.Policy.{Policy}
use Rattle.pm_machine.specs.declared.records.Policy.TheVariants.{EndPool, RollBack}
use Rattle.pm_machine.specs.declared.image.Image.{Image}
use Rattle.pm_machine.specs.Machine.{State, start}
use Rattle.pm_machine.specs.Runs.{due_on, end_of}

-- the call is retired with a value
abbrev pub retiring : ℤ → Cache → List CacheEvent
retiring v c = retire_events v (number_after (view c DONE)) (number_after (view c ATTEMPT))

-- the call is retired with the last value as it is
abbrev pub retiring_still : Cache → List CacheEvent
retiring_still c = retiring (view c LAST) c

-- the call is rolled back: the logged words are restored, and it is retired with the last value as
-- it is
abbrev pub due_undo : Sizes → Cache → List CacheEvent
due_undo z c = restore_events z (view c) ++ retiring_still (play c (restore_events z (view c)))

-- after a trap: the pool is marked, or the call is rolled back
abbrev pub trap_events : Policy → Sizes → TrapKind → Cache → List CacheEvent
trap_events EndPool z k c = mark_events (trap_number k)
trap_events RollBack z k c = due_undo z c

-- after the run
abbrev pub tail_events : Policy → Sizes → End → Cache → List CacheEvent
tail_events p z (Halted v) c = retiring v c
tail_events p z (Trapped k) c = trap_events p z k c

-- the steps after a trap: to roll back takes one for each valid record
abbrev pub trap_steps : Policy → Sizes → Cache → ℕ
trap_steps EndPool z c = 0
trap_steps RollBack z c = count_in z (view c)

-- the steps after the run
abbrev pub tail_steps : Policy → Sizes → End → Cache → ℕ
tail_steps p z (Halted v) c = 0
tail_steps p z (Trapped k) c = trap_steps p z c

-- after the seal
abbrev pub due_run : Policy → Image → State → Cache → List CacheEvent
due_run p image s c =
    (due_on p image s c).events
    ++ tail_events p image.parts.sizes (end_of (due_on p image s c).fate)
    (play c (due_on p image s c).events)

-- the steps after the seal: the run's, and those after it
abbrev pub run_steps : Policy → Image → State → Cache → ℕ
run_steps p image s c =
    (due_on p image s c).steps
    + tail_steps p image.parts.sizes (end_of (due_on p image s c).fate)
    (play c (due_on p image s c).events)

-- the most steps after a seal
abbrev pub most_steps : Policy → Image → ℕ
most_steps EndPool image = image.parts.most
most_steps RollBack image = image.parts.most + image.parts.sizes.records

-- the seal, whose number is one more than that of the finished calls; and its part up to and
-- including the store of the seal
abbrev pub due_seal : (tx : ℕ) → List ℤ → Cache → List CacheEvent
due_seal tx args c = seal_events (cast_signed w64 tx) (take ARGUMENTS args)
    (number_after (view c DONE))

abbrev pub due_unsealed : (tx : ℕ) → List ℤ → Cache → List CacheEvent
due_unsealed tx args c = unsealed_events (cast_signed w64 tx) (take ARGUMENTS args)
    (number_after (view c DONE))

-- the call
unfoldable pub due_call : Policy → Image → (tx : ℕ) → List ℤ → Cache → List CacheEvent
due_call p image tx args c = due_seal tx args c ++ due_run p image (start image tx args)
    (play c (due_seal tx args c))
