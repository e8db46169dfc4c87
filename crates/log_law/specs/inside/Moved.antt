-- What only bodies and proofs need beside `Moved`.
use Rattle.std.specs.Prelude.{◌+◌, List, [], ◌∷◌}
use Rattle.ir.specs.declared.function.IrFunction.{IrFunction}
use Rattle.clobber_pass.specs.declared.marking.MarkTable.{MarkTable}
use Rattle.code_meaning.specs.Code.{Frame, frame, CodeState, Here, Move, Goes, Ends}
use Rattle.log_law.specs.inserted.Moved.{begins}

abbrev pub moved_frame : MarkTable → List IrFunction → Frame → Frame
moved_frame marks functions (frame f p regs to) = frame f (begins marks functions f p) regs to

abbrev pub moved_frames : MarkTable → List IrFunction → List Frame → List Frame
moved_frames marks functions [] = []
moved_frames marks functions (c ∷ below) =
    moved_frame marks functions c ∷ moved_frames marks functions below

abbrev pub moved_state : MarkTable → List IrFunction → CodeState → CodeState
moved_state marks functions (Here f p regs below w t) =
    Here f (begins marks functions f p) regs (moved_frames marks functions below) w t

abbrev pub move_moved : MarkTable → List IrFunction → Move → Move
move_moved marks functions (Goes c) = Goes (moved_state marks functions c)
move_moved marks functions (Ends e) = Ends e
