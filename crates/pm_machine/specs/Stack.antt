-- The call stack: open functions, the latest last, each with the same number of registers.
use Rattle.std.specs.Prelude.{ℕ, ◌-◌, ℤ, pos, List, [], ◌∷◌, ◌++◌, take, drop, replicate}
use Rattle.pm_machine.specs.declared.frame.Frame.{Frame}
use Rattle.pm_machine.specs.declared.frames.Waiting.{Waiting}

pub record Stack : Type 0 where
  pub frames : List Frame
  pub size : ℕ

-- an open function with n registers, the first of which hold these words and all others 0
abbrev pub frame_of : ℕ → Waiting → List ℤ → Frame
frame_of n w words = record {
  function = w.function;
  place = w.place;
  to = w.to;
  registers = words ++ replicate (n - w.used) (pos 0);
}

-- open functions of n registers, whose kept words are in one list
abbrev pub frames_of : ℕ → List Waiting → List ℤ → List Frame
frames_of n [] words = []
frames_of n (w ∷ ws) words = frame_of n w (take w.used words) ∷ frames_of n ws (drop w.used words)
