use Rattle.sound_law.proofs.Laws.{sound}
use Rattle.sound_law.proofs.Ticks.{never_full}
use Rattle.sound_law.proofs.Looks.{looks}
use Rattle.sound_law.proofs.law.Goals as goal

pub returns : goal.returns
returns c = record { sound = sound; never_full = never_full; looks = looks }
