-- The premises of the laws of sessions are met by a new pool that is asked for its last value, but
-- for the premise that the image agrees with its source, which holds of each compiled program.
use Rattle.std.specs.Prelude.{true, Some, None, [], ◌∷◌, pos}
use Rattle.cache_model.specs.Cache.{blank}
use Rattle.pmem.specs.Device.{Device, blanked}
use Rattle.pmem.specs.Played.{PlaysAll}
use Rattle.pool_layout.specs.Sizes.{pool_lines}
use Rattle.args_log.specs.Created.{creation_events}
use Rattle.cnvm_script.specs.declared.command.Command.TheVariants as command
use Rattle.cnvm_session.specs.declared.answer.Answer.TheVariants as answer
use Rattle.cnvm_session.specs.declared.mode.Mode.TheVariants.{Ready}
use Rattle.cnvm_session.specs.declared.program.Program.{Program}
use Rattle.cnvm_session.specs.Pool.{sizes_of}
use Rattle.session_law.specs.State.{created}
use Rattle.session_law.specs.Holds.{Holds}
use Rattle.session_law.specs.Ran.{Ran, fresh_moment}
use Rattle.session_law.specs.Law.{super_words}

-- a device that refuses nothing
abbrev pub calm_device : Device
calm_device = record {
  lines = 0;
  cache = blank;
  on = true;
  left = None;
  armed = Some None;
  faults = 0;
}

pub record MeetsSession (program : Program) : Type 0 where
  pub device : Device
  pub made : PlaysAll (blanked (pool_lines (sizes_of program)) calm_device)
      (creation_events (sizes_of program) program.digest) device
  pub holds : Holds program (super_words program) Ready device (created program)
  pub ran : Ran program (super_words program) (command.Last ∷ [])
      (answer.Last (pos 0) (pos 0) ∷ []) (fresh_moment program device 0)
      (fresh_moment program device 0)

abbrev pub SessionMetLaw : Type 0
SessionMetLaw = (program : Program) → MeetsSession program
