-- What a session's device holds, by what the source knows of the session.
use Rattle.std.specs.Prelude.{◌≡◌, Bool, true, List, length, Some, None}
use Rattle.cache_model.specs.Cache.{view, Words}
use Rattle.cache_model.specs.Image.{Images}
use Rattle.pmem.specs.Device.{Device}
use Rattle.pool_map.specs.Trap.{trap_number}
use Rattle.clobber_log.specs.Logs.{count_in}
use Rattle.pm_machine.specs.declared.effect.Effect.{Effect}
use Rattle.pm_machine.specs.declared.effect.End.{End}
use Rattle.pm_machine.specs.Effects.{heap_end}
use Rattle.pm_machine.specs.Machine.{Finished}
use Rattle.pm_machine.specs.Logging.{tx_run}
use Rattle.pm_machine.specs.Runs.{heap_in}
use Rattle.pool_layout.specs.Good.{Lost}
use Rattle.crash_law.specs.Pools.{IsBefore}
use Rattle.crash_law.specs.Law.{IsAtRest, IsCut}
use Rattle.run_law.specs.Seen.{result_of, E, W}
use Rattle.cut_law.specs.Law.{call_of, pool_with}
use Rattle.cnvm_session.specs.declared.mode.Mode.{Mode}
use Rattle.cnvm_session.specs.declared.mode.Mode.TheVariants as mode
use Rattle.cnvm_session.specs.declared.program.Program.{Program}
use Rattle.cnvm_session.specs.Commands.{tx_parameters}
use Rattle.cnvm_session.specs.Marks.{rolls_back_of, policy_of}
use Rattle.cnvm_session.specs.Pool.{sizes_of}
use Rattle.session_law.specs.Source.{source_pool, HasSourceHeaders}
use Rattle.session_law.specs.Words.{AreWords, HasPoolWords}
use Rattle.session_law.specs.State.{Pending, Standing, Ready, Down, Unusable, SourceState}

-- the heap has valid headers and holds the source's pool, which is made of words
pub record HoldsPool (program : Program) (h : Words) (s : SourceState) : Type 0 where
  pub headers : HasSourceHeaders program h
  pub pool : source_pool program h ≡ s.pool
  pub words : HasPoolWords s.pool

-- At rest the device is on and each line has one version. The view is that of a pool with the
-- state's number of transactions done and value of the last, no record is valid, and the heap holds
-- the source's pool. `super` has the words of lines 0 and 1.
pub record IsResting (program : Program) (super : Words) (d : Device) (s : SourceState) :
    Type 0 where
  pub on : d.on ≡ true
  pub rest : IsAtRest d.cache
  pub before : IsBefore (pool_with program.image super) s.done (heap_in (sizes_of program) d.cache)
      s.last (view d.cache)
  pub empty : count_in (sizes_of program) (view d.cache) ≡ 0
  pub holds : HoldsPool program (heap_in (sizes_of program) d.cache) s

-- Nothing is owed: whatever a power cut leaves is such a pool, perhaps with valid records.
pub record OwesNone (program : Program) (super : Words) (d : Device) (s : SourceState) :
    Type 0 where
  pub heap : Words
  pub holds : HoldsPool program heap s
  pub left : Images (IsBefore (pool_with program.image super) s.done heap s.last) d.cache

-- A transaction is owed: whatever a power cut leaves is the pool before it, or owes it, or is its
-- end. The machine's run of it, with its log, starts on the heap of the last moment at rest.
pub record OwesBy (marked : Bool) (program : Program) (super : Words) (owed : Pending) (d : Device)
    (s : SourceState) : Type 0 where
  pub heap : Words
  pub holds : HoldsPool program heap s
  pub takes : tx_parameters program.image owed.tx ≡ Some (length owed.args)
  pub words : AreWords owed.args
  pub end : End
  pub effects : List Effect
  pub ran : tx_run (policy_of marked) program.image program.image.parts.most heap owed.tx owed.args
      ≡ Finished end effects
  pub left : Images (IsCut (pool_with program.image super) (call_of s.done owed.tx owed.args)
      (E (policy_of marked) effects) (W effects) heap (heap_end heap effects) s.last
      (result_of (policy_of marked) s.last end)) d.cache

abbrev pub HoldsAs : Standing → Program → Words → Mode → Device → SourceState → Type 0
HoldsAs Ready program super m d s = (m ≡ mode.Ready) × IsResting program super d s
HoldsAs (Down None) program super m d s = (m ≡ mode.Down) × OwesNone program super d s
HoldsAs (Down (Some owed)) program super m d s =
    (m ≡ mode.Down) × OwesBy (rolls_back_of program owed.tx) program super owed d s
HoldsAs (Unusable kind) program super m d s =
    (m ≡ mode.Unusable kind) × Images (Lost program.image.parts.sizes (trap_number kind)) d.cache
    × (d.on ≡ true)

abbrev pub Holds : Program → Words → Mode → Device → SourceState → Type 0
Holds program super m d s = HoldsAs s.standing program super m d s

-- What is known of whatever a power cut or a crash leaves of the device, by how the session stands.
abbrev pub HeldAs : Standing → Program → Words → Device → SourceState → Type 0
HeldAs Ready program super d s = OwesNone program super d s
HeldAs (Down None) program super d s = OwesNone program super d s
HeldAs (Down (Some owed)) program super d s =
    OwesBy (rolls_back_of program owed.tx) program super owed d s
HeldAs (Unusable kind) program super d s =
    Images (Lost program.image.parts.sizes (trap_number kind)) d.cache
