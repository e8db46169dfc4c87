use Rattle.machine_law.proofs.emitted.SoundRun.{sound_run}
use Rattle.machine_law.proofs.emitted.TidyCode.{emits_tidy}
use Rattle.machine_law.proofs.sound_law.Goals as goal

pub returns-clause-code : goal.returns-clause-code
returns-clause-code c = emits_tidy

pub returns-clause-run : goal.returns-clause-run
returns-clause-run c = sound_run
