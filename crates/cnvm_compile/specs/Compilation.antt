-- What the compiler makes of a text, for a pool of the sizes that are asked for.
use Rattle.std.specs.Prelude.{ℕ, List, ◌≡◌, length}
use Rattle.pool_layout.specs.Digest.{digest_of}
use Rattle.c_types.specs.Shapes.{shapes_of}
use Rattle.ir.specs.WellFormed.{IsWellFormed}
use Rattle.lower.specs.Program.{lowered}
use Rattle.clobber_pass.specs.Logged.{IsExact}
use Rattle.session_law.specs.Agrees.{Agrees}
use Rattle.cnvm_compile.specs.declared.asked.Asked.{Asked}
use Rattle.cnvm_compile.specs.declared.compiling.Compiled.{Compiled}
use Rattle.cnvm_compile.specs.FrontEnd.{AcceptsText, IsOnlyTreeOf}
use Rattle.cnvm_compile.specs.Made.{image_of}
use Rattle.cnvm_compile.specs.SizesAsked.{HasRoot, HasWidth, HasSizes}
use Rattle.cnvm_session.specs.Pool.{sizes_of}

-- The program of a text: its one tree, which breaks no rule; the code of the tree, without logs;
-- exact marks of the code's stores; the image of the code with the logs of these marks, for a pool
-- of the sizes asked for and of the root's words; and the digest of the text. The image agrees with
-- the source.
pub record IsCompiled (asked : Asked) (text : List ℕ) (compiled : Compiled) : Type 0 where
  pub accepted : AcceptsText text compiled.program.typed
  pub only : IsOnlyTreeOf text compiled.program.typed
  pub ir : compiled.ir ≡ lowered compiled.program.typed
  pub well_formed : IsWellFormed compiled.ir
  pub marks : IsExact compiled.ir.functions compiled.marks
  pub code : compiled.program.image.parts ≡
      image_of compiled.marks compiled.ir (sizes_of compiled.program)
      (length compiled.program.typed.lines)
  pub sizes : HasSizes asked.slots asked.records asked.ticks (sizes_of compiled.program)
  pub root : HasRoot (shapes_of compiled.program.typed) (sizes_of compiled.program)
  pub width : HasWidth (shapes_of compiled.program.typed) (sizes_of compiled.program)
  pub digest : compiled.program.digest ≡ digest_of text
  pub agrees : Agrees compiled.program
