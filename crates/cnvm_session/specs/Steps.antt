-- The most steps of a command, and of any command of a program.
use Rattle.std.specs.Prelude.{ℕ, ◌+◌, ◌*◌, Bool, true, false}
use Rattle.pmem.specs.Device.{Device, powered}
use Rattle.pm_machine.specs.declared.image.Image.{Image}
use Rattle.cnvm_script.specs.declared.command.Command.{Command}
use Rattle.cnvm_script.specs.declared.command.Command.TheVariants as command
use Rattle.cnvm_session.specs.declared.program.Program.{Program}
use Rattle.cnvm_session.specs.Marks.{owes_marked, has_marked}

-- The bound of the image on a run, and one step for each record. A recovery of a marked transaction
-- may restore each record twice: before the run, and where the run is undone.
abbrev pub bounded_steps : (marked : Bool) → Image → ℕ
bounded_steps false image = image.parts.sizes.records + image.parts.most
bounded_steps true image = 2 * image.parts.sizes.records + image.parts.most

-- the most steps of a command on a device
abbrev pub most_of_command : Program → Command → Device → ℕ
most_of_command program (command.Power choice) d =
    bounded_steps (owes_marked program (powered choice d)) program.image
most_of_command program c d = bounded_steps false program.image

-- the most steps of any command of a program, and of an opening
abbrev pub most_of_program : Program → ℕ
most_of_program program = bounded_steps (has_marked program) program.image
