-- The image of a program: the machine's code for its intermediate code with its logs, its
-- transactions and structs, and the bound on steps, by the pool's sizes and the number of tokens of
-- the text.
use Rattle.std.specs.Prelude.{ℕ}
use Rattle.pool_layout.specs.declared.limits.Sizes.{Sizes}
use Rattle.ir.specs.declared.function.Ir.{Ir}
use Rattle.clobber_pass.specs.declared.marking.MarkTable.{MarkTable}
use Rattle.instrument.specs.Insert.{logged_program}
use Rattle.pm_machine.specs.declared.image.ImageParts.{ImageParts}
use Rattle.codegen.specs.Emit.{parts_of}

abbrev pub image_of : MarkTable → Ir → Sizes → (tokens : ℕ) → ImageParts
image_of marks ir sizes tokens = parts_of (logged_program marks ir) sizes tokens
