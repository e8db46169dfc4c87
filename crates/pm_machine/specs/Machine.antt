-- The machine: its state, one step, and a run. The heap isn't in the state: a step is given the
-- heap, and its effect says how the heap changes.
use Rattle.std.specs.Prelude.{ℕ, zero, suc, ◌+◌, ◌-◌, ◌/◌, ◌==◌, List, [], ◌∷◌, ◌++◌, length, take}
use Rattle.std.specs.Prelude.{drop, replicate, slice_get, slice_index_or, slice_set, Option, Some}
use Rattle.std.specs.Prelude.{None, if◌then◌else◌, nat_lt, nat_eq, ℤ, pos, negsuc, ◌+ℤ◌}
use Rattle.std.specs.Int.{w64, int_wrap}
use Rattle.std.specs.Ordering.{int_eq}
use Rattle.indexmap.specs.IndexSet.{insert_key}
use Rattle.cache_model.specs.Cache.{Words}
use Rattle.pool_layout.specs.Sizes.{heap_words, slot_words, slot_word}
use Rattle.pool_map.specs.declared.trap.TrapKind.{TrapKind}
use Rattle.pool_map.specs.declared.trap.TrapKind.TheVariants.{Steps, Depth}
use Rattle.pool_map.specs.Trap.{trap_of}
use Rattle.nvm_base.specs.Applied.{applied}
use Rattle.pm_machine.specs.declared.effect.Effect.{Effect}
use Rattle.pm_machine.specs.declared.effect.Effect.TheVariants.{Loads, Scans, Stores, Logs, Flushes}
use Rattle.pm_machine.specs.declared.effect.Effect.TheVariants.{Fences, Quiet}
use Rattle.pm_machine.specs.declared.effect.End.{End}
use Rattle.pm_machine.specs.declared.effect.End.TheVariants.{Halted, Trapped}
use Rattle.pm_machine.specs.declared.op.Op.{Op}
use Rattle.pm_machine.specs.declared.op.Op.TheVariants.{Const, Mov, Bin, Jmp, Jz, Load, Store, Find}
use Rattle.pm_machine.specs.declared.op.Op.TheVariants.{Log, Flush, Fence, Call, Ret, Tick, Trap}
use Rattle.pm_machine.specs.declared.op.Op.TheVariants.{Halt}
use Rattle.pm_machine.specs.declared.op.Function.{Function}
use Rattle.pm_machine.specs.Transactions.{entry_function}
use Rattle.pm_machine.specs.declared.image.Image.{Image}
use Rattle.pm_machine.specs.declared.frame.Frame.{Frame}
use Rattle.pm_machine.specs.Effects.{heap_past}
use Rattle.pm_machine.specs.Find.{least, looks}

-- The open function, the frames below it (the innermost last), the ticks left, the heap lines
-- stored to and not yet flushed, in the order of first stores, and the number of registers of a
-- frame.
pub record State : Type 0 where
  pub top : Frame
  pub below : List Frame
  pub ticks : ℕ
  pub dirty : List ℕ
  pub size : ℕ

-- a step goes on with an effect, or ends the run
pub data StepOutcome : Type 0 where
  Goes : Effect → State → StepOutcome
  Ends : End → StepOutcome

abbrev pub read_register : State → ℕ → ℤ
read_register s r = slice_index_or s.top.registers r (pos 0)

abbrev pub with_top : State → Frame → State
with_top s f = record {
  top = f;
  below = s.below;
  ticks = s.ticks;
  dirty = s.dirty;
  size = s.size;
}

abbrev pub frame_at : Frame → ℕ → Frame
frame_at f p = record { function = f.function; place = p; to = f.to; registers = f.registers }

abbrev pub moved_to : State → ℕ → State
moved_to s p = with_top s (frame_at s.top p)

-- goes on to the next place
abbrev pub passed : State → State
passed s = moved_to s (s.top.place + 1)

-- a register is written, and the run goes on to the next place
abbrev pub frame_with : Frame → ℕ → ℤ → Frame
frame_with f r v = record {
  function = f.function;
  place = f.place + 1;
  to = f.to;
  registers = slice_set f.registers r v;
}

abbrev pub written : State → ℕ → ℤ → State
written s r v = with_top s (frame_with s.top r v)

-- the heap word at an address, of H words
abbrev pub address_index : ℤ → Option ℕ
address_index (pos n) = Some n
address_index (negsuc n) = None

abbrev pub word_inside : ℕ → Option ℕ → Option ℕ
word_inside H None = None
word_inside H (Some w) = if nat_lt w H then Some w else None

abbrev pub word_at : ℕ → ℤ → Option ℕ
word_at H x = word_inside H (address_index x)

-- the heap word at R[a] + o, where the sum wraps
abbrev pub target : Image → State → ℕ → ℤ → Option ℕ
target image s a o = word_at (heap_words image.parts.sizes) (int_wrap w64 (read_register s a +ℤ o))

abbrev pub load : Words → State → ℕ → Option ℕ → StepOutcome
load heap s r None = Goes Quiet (written s r (pos 0))
load heap s r (Some w) = Goes (Loads w) (written s r (heap w))

-- writes the least free slot to a register
abbrev pub find : Image → Words → State → ℕ → StepOutcome
find image heap s r =
    Goes (Scans (slot_word image.parts.sizes 1) (slot_words image.parts.sizes)
    (looks image.parts.sizes heap))
    (written s r (pos (least image.parts.sizes heap)))

-- goes on to the next place, with the word's line dirty
abbrev pub stored : State → ℕ → State
stored s w = record {
  top = frame_at s.top (s.top.place + 1);
  below = s.below;
  ticks = s.ticks;
  dirty = insert_key nat_eq s.dirty (w / 8);
  size = s.size;
}

abbrev pub store : State → ℤ → Option ℕ → StepOutcome
store s x None = Goes Quiet (passed s)
store s x (Some w) = Goes (Stores w x) (stored s w)

-- LOG asks for a record of its word
abbrev pub log : State → Option ℕ → StepOutcome
log s None = Goes Quiet (passed s)
log s (Some w) = Goes (Logs w) (passed s)

abbrev pub cleaned : State → State
cleaned s = record {
  top = s.top;
  below = s.below;
  ticks = s.ticks;
  dirty = drop 1 s.dirty;
  size = s.size;
}

abbrev pub flush : State → Option ℕ → StepOutcome
flush s None = Goes Quiet (passed s)
flush s (Some l) = Goes (Flushes l) (cleaned s)

-- writes the values of the named registers into the registers from number i on
abbrev pub registers_placed : List ℤ → List ℤ → ℕ → List ℕ → List ℤ
registers_placed from to i [] = to
registers_placed from to i (a ∷ rest) =
    registers_placed from (slice_set to i (slice_index_or from a (pos 0))) (i + 1) rest

-- the state with the frame of a called function on top: its first registers hold the arguments, all
-- others 0
abbrev pub entered : State → ℕ → ℕ → List ℕ → State
entered s r f args = record {
  top = record {
    function = f;
    place = 0;
    to = r;
    registers = registers_placed s.top.registers
        (replicate s.size (pos 0)) 0 args;
  };
  below = s.below ++ frame_at s.top (s.top.place + 1) ∷ [];
  ticks = s.ticks;
  dirty = s.dirty;
  size = s.size;
}

abbrev pub call : State → ℕ → ℕ → List ℕ → StepOutcome
call s r f args = if nat_lt (length s.below + 1) 256 then Goes Quiet (entered s r f args)
    else Ends (Trapped Depth)

abbrev pub returned : State → ℤ → Frame → State
returned s v caller = record {
  top = record {
    function = caller.function;
    place = caller.place;
    to = caller.to;
    registers = slice_set caller.registers s.top.to v;
  };
  below = take (length s.below - 1) s.below;
  ticks = s.ticks;
  dirty = s.dirty;
  size = s.size;
}

abbrev pub return : State → ℤ → Option Frame → StepOutcome
return s v None = Ends (Halted v)
return s v (Some caller) = Goes Quiet (returned s v caller)

abbrev pub tick_spent : State → State
tick_spent s = record {
  top = frame_at s.top (s.top.place + 1);
  below = s.below;
  ticks = s.ticks
      - 1;
  dirty = s.dirty;
  size = s.size;
}

-- the trap of a number; a checked image has only numbers of traps
abbrev pub trap_at : Option TrapKind → TrapKind
trap_at None = Depth
trap_at (Some kind) = kind

-- One line of the machine's table, given the heap. Past the end of the code the run ends with the
-- trap depth, which never happens in a checked image.
abbrev pub execute : Image → Words → State → Option Op → StepOutcome
execute image heap s None = Ends (Trapped Depth)
execute image heap s (Some (Const r v)) = Goes Quiet (written s r v)
execute image heap s (Some (Mov r a)) = Goes Quiet (written s r (read_register s a))
execute image heap s (Some (Bin op r a b)) =
    Goes Quiet (written s r (applied op (read_register s a) (read_register s b)))
execute image heap s (Some (Jmp t)) = Goes Quiet (moved_to s t)
execute image heap s (Some (Jz a t)) =
    Goes Quiet (if int_eq (read_register s a) (pos 0) then moved_to s t else passed s)
execute image heap s (Some (Load r a o)) = load heap s r (target image s a o)
execute image heap s (Some (Store a o b)) = store s (read_register s b) (target image s a o)
execute image heap s (Some (Find r)) = find image heap s r
execute image heap s (Some (Log a o)) = log s (target image s a o)
execute image heap s (Some Flush) = flush s (slice_get s.dirty 0)
execute image heap s (Some Fence) = Goes Fences (passed s)
execute image heap s (Some (Call r f args)) = call s r f args
execute image heap s (Some (Ret a)) =
    return s (read_register s a) (slice_get s.below (length s.below - 1))
execute image heap s (Some Tick) = if s.ticks == 0 then Ends (Trapped Steps)
    else Goes Quiet (tick_spent s)
execute image heap s (Some (Trap k)) = Ends (Trapped (trap_at (trap_of k)))
execute image heap s (Some (Halt a)) = Ends (Halted (read_register s a))

abbrev pub fetch_in : ℕ → Option Function → Option Op
fetch_in p None = None
fetch_in p (Some f) = slice_get f.code p

abbrev pub fetch : Image → State → Option Op
fetch image s = fetch_in s.top.place (slice_get image.parts.functions s.top.function)

abbrev pub step : Image → State → Words → StepOutcome
step image s heap = execute image heap s (fetch image s)

-- a run: its end and its effects; its instructions are as many as the effects, and the last one
pub data Run : Type 0 where
  Unfinished : Run
  Finished : End → List Effect → Run

abbrev pub began : Effect → Run → Run
began e Unfinished = Unfinished
began e (Finished end es) = Finished end (e ∷ es)

abbrev pub follow : (Effect → State → Run) → StepOutcome → Run
follow rest (Goes e s) = began e (rest e s)
follow rest (Ends end) = Finished end []

-- The run of at most k instructions, where each LOG gets its record. It depends on no log.
abbrev pub run : Image → (k : ℕ) → State → Words → Run
run image zero s heap = Unfinished
run image (suc k) s heap =
    follow (λ e t. run image k t (heap_past heap e)) (step image s heap)

-- writes the words into the registers of a frame from number i on
abbrev pub registers_filled : List ℤ → ℕ → List ℤ → List ℤ
registers_filled to i [] = to
registers_filled to i (v ∷ vs) = registers_filled (slice_set to i v) (i + 1) vs

-- A transaction begins at its function's first place. Its parameters hold the arguments, and all
-- other registers 0.
abbrev pub start : Image → ℕ → List ℤ → State
start image tx args = record {
  top = record {
    function = entry_function (slice_get image.parts.txs (tx - 1));
    place = 0;
    to = 0;
    registers = registers_filled (replicate image.largest (pos 0)) 0 args;
  };
  below = [];
  ticks = image.parts.sizes.ticks;
  dirty = [];
  size = image.largest;
}

-- the run of a transaction on a heap, of at most k instructions
abbrev pub mrun : Image → ℕ → Words → ℕ → List ℤ → Run
mrun image k heap tx args = run image k (start image tx args) heap
