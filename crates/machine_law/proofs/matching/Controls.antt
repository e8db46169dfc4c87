-- Jumps, branches, calls and returns: one step of the machine each, except for the return of a
-- transaction.
use Rattle.std.proofs.Common.{◌≡◌, ℕ, zero, suc, ◌+◌, ◌<◌, ◌≤◌, Bool, true, false, List}
use Rattle.std.proofs.Common.{[], ◌∷◌, ◌++◌, length, map, replicate, slice_get, get_or, set, Option}
use Rattle.std.proofs.Common.{None, Some, ℤ, pos, negsuc, refl, sym, ap, ◌∙◌, subst, arith, ltb}
use Rattle.std.proofs.Common.{length-set}
use Rattle.std.specs.Prelude.{if◌then◌else◌, nat_lt, option_and_then}
use Rattle.std.specs.List.{AllByRecursion}
use Rattle.std.specs.Ordering.{int_eq}
use Rattle.std.proofs.lemmas.Bool.{lt-ltb, le-ltb}
use Rattle.cache_model.specs.Cache.{Words}
use Rattle.pool_map.specs.declared.trap.TrapKind.TheVariants as kinds
use Rattle.pool_map.specs.PoolMap.{PoolMap}
use Rattle.ir.specs.declared.instruction.Instruction.{Instruction}
use Rattle.ir.specs.declared.instruction.Instruction.TheVariants as ir
use Rattle.ir.specs.declared.function.IrFunction.{IrFunction}
use Rattle.ir.specs.declared.function.Ir.{Ir}
use Rattle.ir.specs.WellFormed.{TakesArgs}
use Rattle.code_meaning.specs.Code.{Here, Move, register_at, put_register, gives, opens}
use Rattle.pool_map.specs.Checks.{is_zero}
use Rattle.code_meaning.specs.Code.{open_limit}
use Rattle.code_meaning.specs.Code as code
use Rattle.pm_machine.specs.declared.effect.Effect.TheVariants.{Quiet}
use Rattle.pm_machine.specs.declared.effect.End.TheVariants.{Halted, Trapped}
use Rattle.pm_machine.specs.declared.frame.Frame.{Frame}
use Rattle.pm_machine.specs.declared.image.Image.{Image}
use Rattle.pm_machine.specs.declared.op.Op.{Op}
use Rattle.pm_machine.specs.declared.op.Op.TheVariants as op
use Rattle.pm_machine.specs.Machine.{fetch, fetch_in, moved_to, passed, frame_at, entered}
use Rattle.pm_machine.specs.Machine.{returned, registers_placed}
use Rattle.pm_machine.specs.Machine as machine
use Rattle.codegen.specs.Emit.{instruction_code, return_code}
use Rattle.ir.specs.Moving.{place_in}
use Rattle.machine_law.specs.emitted.Moments.{RunMoment, RunStage, On, Over, moment_after, staged}
use Rattle.machine_law.specs.emitted.Moments.{go}
use Rattle.machine_law.specs.emitted.Standing.{logged_before, table_of}
use Rattle.machine_law.specs.pieces.Shows.{done}
use Rattle.machine_law.specs.pieces.Stands.{Stands}
use Rattle.machine_law.specs.matching.Compiled.{IsCodeOf}
use Rattle.machine_law.specs.matching.Match.{IsOpenIn, is_outermost, Waits, AreMatched, MovesToo}
use Rattle.machine_law.specs.matching.Match.{own_steps, flushes}
use Rattle.machine_law.proofs.matching.Runs.{single, returns}
use Rattle.machine_law.proofs.matching.Registers.{set_put, placed_is, placed_length}
use Rattle.machine_law.proofs.matching.Places.{first_is, stands_op, place_next}
use Rattle.machine_law.proofs.matching.Compiled.{function_is, largest_room, well_at}
use Rattle.machine_law.proofs.matching.Frames.{nearest, others, as_many}
use Rattle.machine_law.proofs.matching.Moves.{Steps}

module _ (image : Image) (program : Ir) (c : IsCodeOf image program) (f p : ℕ) (regs : List ℤ)
    (callers : List code.Frame) (w : PoolMap) (t : ℕ) (m : RunMoment)
    (same : AreMatched image program f p regs callers w t m) where
  abbrev u : IrFunction
  u = same.top.u

  abbrev to_place : ℕ → ℕ
  to_place q = place_in (table_of image.parts.sizes program.shapes u) q

  abbrev marked : Bool
  marked = logged_before false u.code p

  abbrev Step : Option Instruction → Type 0
  Step o = Steps image program f p regs callers w t m o

  -- the function at another place, with the same registers
  opened : (q j : ℕ) → j ≡ to_place q
      → IsOpenIn image.parts.sizes program f q regs (is_outermost callers) (frame_at m.state.top j)
  opened q j register_at = record {
    u = u;
    found = same.top.found;
    tx = same.top.tx;
    function = same.top.function;
    place = register_at;
    holds = same.top.holds;
    room = same.top.room;
  }

  -- the instruction k places after the beginning of this instruction's code
  stands : (i : Instruction) → slice_get u.code p ≡ Some i → (k : ℕ) (o : Op) →
      slice_get (instruction_code image.parts.sizes program.shapes u.tx u.registers
      (table_of image.parts.sizes program.shapes u) (to_place p) marked i) k ≡ Some o →
      fetch_in (m.state.top.place + k) (slice_get image.parts.functions m.state.top.function)
      ≡ Some o
  stands i e k o there =
      ap (λ (g : ℕ). fetch_in (m.state.top.place + k) (slice_get image.parts.functions g))
      same.top.function
      ∙ ap (λ (j : ℕ). fetch_in (j + k) (slice_get image.parts.functions f)) same.top.place
      ∙ ap (fetch_in (to_place p + k)) (function_is image program c f u same.top.found)
      ∙ stands_op image.parts.sizes program.shapes u (c.room f u same.top.found) p i e k o there

  stands_first : (i : Instruction) → slice_get u.code p ≡ Some i → (o : Op) →
      slice_get (instruction_code image.parts.sizes program.shapes u.tx u.registers
      (table_of image.parts.sizes program.shapes u) (to_place p) marked i) 0 ≡ Some o
      → fetch image m.state ≡ Some o
  stands_first i e o there =
      let z : m.state.top.place + 0 ≡ m.state.top.place = omega arith in
      ap (λ (j : ℕ). fetch_in j (slice_get image.parts.functions m.state.top.function)) (sym z)
      ∙ stands i e 0 o there

  next_at : (i : Instruction) → slice_get u.code p ≡ Some i →
      length (instruction_code image.parts.sizes program.shapes u.tx u.registers
      (table_of image.parts.sizes program.shapes u) (to_place p) marked i) ≡ 1
      → m.state.top.place + 1 ≡ to_place (suc p)
  next_at i e wide =
      ap (λ (j : ℕ). j + 1) same.top.place
      ∙ ap (λ (k : ℕ). to_place p + k) (sym wide)
      ∙ sym (place_next image.parts.sizes program.shapes u (c.room f u same.top.found) p i e)

  -- a jump
  jumps : (q j : ℕ) → j ≡ to_place q
      → MovesToo image program [] (code.Goes (Here f q regs callers w t)) m
      (On (moment_after m Quiet (moved_to m.state j)))
  jumps q j register_at = record {
    to = moment_after m Quiet (moved_to m.state j);
    is = refl;
    match = record {
      top = opened q j register_at;
      below = same.below;
      size = same.size;
      ticks = same.ticks;
      stands = same.stands;
      fits = same.fits;
      clean = record { lines = same.clean.lines; distinct = same.clean.distinct };
    };
    shown = record { effects = []; seen = refl; shows = done };
  }

  one_step : (i : Instruction) (o : Op) (mv : Move) → slice_get u.code p ≡ Some i →
      slice_get (instruction_code image.parts.sizes program.shapes u.tx u.registers
      (table_of image.parts.sizes program.shapes u) (to_place p) marked i) 0 ≡ Some o →
      MovesToo image program [] mv m
      (staged m (machine.execute image m.heap m.state (Some o))) →
      (n : ℕ) × (n ≤ own_steps image.parts.sizes + flushes mv m)
      × MovesToo image program [] mv m (go image n m)
  one_step i o mv e there h = (
    suc zero,
    omega arith,
    subst (λ (g : RunStage). MovesToo image program [] mv m g)
        (sym (single image m o (stands_first i e o there))) h,
  )

  branches : (q : ℕ) (z : ℤ) → m.state.top.place + 1 ≡ to_place (suc p) →
      MovesToo image program [] (if is_zero z then code.Goes (Here f q regs callers w t)
      else code.Goes (Here f (suc p) regs callers w t)) m
      (staged m (machine.Goes Quiet (if int_eq z (pos 0) then moved_to m.state (to_place q)
      else passed m.state)))
  branches q (pos zero) next = jumps q (to_place q) refl
  branches q (pos (suc k)) next =
      let some : int_eq (pos (suc k)) (pos 0) ≡ false =
      (let above : ltb 0 (suc k) ≡ true = lt-ltb 0 (suc k) (omega arith) in
      let low : ltb (suc k) 0 ≡ false = le-ltb (suc k) 0 (omega arith) in rw (low, above) refl) in
      subst (λ (b : Bool). MovesToo image program [] (code.Goes (Here f (suc p) regs callers w t)) m
      (staged m (machine.Goes Quiet (if b then moved_to m.state (to_place q)
      else passed m.state)))) (sym some)
      (jumps (suc p) (m.state.top.place + 1) next)
  branches q (negsuc k) next = jumps (suc p) (m.state.top.place + 1) next

  -- a call
  module _ (r g : ℕ) (args : List ℕ) (next : m.state.top.place + 1 ≡ to_place (suc p))
      (low : AllByRecursion (λ a. a < u.registers) args) where
    abbrev deeper : List code.Frame
    deeper = code.frame f (suc p) regs r ∷ callers

    called : (v : IrFunction) → slice_get program.functions g ≡ Some v → v.tx ≡ false
        → AreMatched image program g 0 (map (register_at regs) args) deeper w t
        (moment_after m Quiet (entered m.state r g args))
    called v found plain =
        let size : v.registers + 8 ≤ m.state.size =
        (let most : v.registers + 8 ≤ image.largest = largest_room image program c g v found in
        omega (arith, same.size)) in
        let words : List ℤ = registers_placed m.state.top.registers
        (replicate m.state.size (pos 0)) 0 args in
        let long : length words ≡ m.state.size =
        placed_length m.state.top.registers args m.state.size in
        record {
          top = record {
            u = v;
            found = found;
            tx = plain;
            function = refl;
            place = sym (first_is image.parts.sizes program.shapes v (c.room g v found));
            holds = λ q few. placed_is u.registers regs m.state.top.registers args m.state.size q
                same.top.holds low (omega arith);
            room = omega arith;
          };
          below = (
            m.state.below,
            frame_at m.state.top (m.state.top.place + 1),
            refl,
            refl,
            opened (suc p) (m.state.top.place + 1) next,
            same.below,
          );
          size = same.size;
          ticks = same.ticks;
          stands = same.stands;
          fits = same.fits;
          clean = record { lines = same.clean.lines; distinct = same.clean.distinct };
        }

    calls_if : (v : IrFunction) → slice_get program.functions g ≡ Some v → v.tx ≡ false
        → (b : Bool) →
        MovesToo image program [] (if b
        then code.Goes (Here g 0 (map (register_at regs) args) deeper w t)
        else code.Ends (code.Trapped kinds.Depth)) m
        (staged m (if b then machine.Goes Quiet (entered m.state r g args)
        else machine.Ends (Trapped kinds.Depth)))
    calls_if v found plain true = record {
      to = moment_after m Quiet (entered m.state r g args);
      is = refl;
      match = called v found plain;
      shown = record { effects = []; seen = refl; shows = done };
    }
    calls_if v found plain false =
        record {
          last = m;
          is = refl;
          shown = record { effects = []; seen = refl; shows = done };
        }

    calls : slice_get u.code p ≡ Some (ir.Call r g args) → (o : Option IrFunction)
        → slice_get program.functions g ≡ o → TakesArgs o args →
        MovesToo image program [] (opens o g (map (register_at regs) args) deeper w t) m
        (staged m (machine.execute image m.heap m.state
        (Some (op.Call r g args))))
    calls e None is takes = absurd takes
    calls e (Some v) is takes =
        let depth : length m.state.below + 1 ≡ length deeper =
        omega (
          arith,
          as_many image.parts.sizes program m.state.top.to callers m.state.below
              same.below,
        ) in
        let plain : v.tx ≡ false = c.calls f p r g args v
        (ap (λ (o : Option IrFunction). option_and_then (λ (h : IrFunction). slice_get h.code p)
        o) same.top.found ∙ e) is in
        subst (λ (n : ℕ). MovesToo image program [] (if nat_lt (length deeper) open_limit
        then code.Goes (Here g 0 (map (register_at regs) args) deeper w t)
        else code.Ends (code.Trapped kinds.Depth)) m
        (staged m (if nat_lt n 256 then machine.Goes Quiet (entered m.state r g args)
        else machine.Ends (Trapped kinds.Depth)))) (sym depth)
        (calls_if v is plain (nat_lt (length deeper) 256))

  -- a return
  module _ (from : ℕ) (e : slice_get u.code p ≡ Some (ir.Return from))
      (low : from < u.registers) where
    stands_return : (b : Bool) → u.tx ≡ b → (k : ℕ) (o : Op)
        → slice_get (return_code b from ++ []) k ≡ Some o
        → fetch_in (m.state.top.place + k) (slice_get image.parts.functions m.state.top.function)
        ≡ Some o
    stands_return b tx k o there =
        stands (ir.Return from) e k o (subst (λ (d : Bool). slice_get (return_code d from ++ []) k
        ≡ Some o) (sym tx) there)

    -- the return of a transaction
    ends : u.tx ≡ true →
        (n : ℕ) × (n ≤ own_steps image.parts.sizes + length m.state.dirty)
        × MovesToo image program [] (code.Ends (code.Ended w (register_at regs from) t)) m
        (go image n m)
    ends tx =
        let z : m.state.top.place + 0 ≡ m.state.top.place = omega arith in
        let two : m.state.top.place + 2 ≡ m.state.top.place + 1 + 1 = omega arith in
        let first : fetch image m.state ≡ Some op.Flush =
        ap (λ (j : ℕ). fetch_in j (slice_get image.parts.functions m.state.top.function)) (sym z)
        ∙ stands_return true tx 0 op.Flush refl in
        let second : fetch image (passed m.state) ≡ Some op.Fence =
        stands_return true tx 1 op.Fence refl in
        let third : fetch image (passed (passed m.state)) ≡ Some (op.Halt from) =
        ap (λ (j : ℕ). fetch_in j (slice_get image.parts.functions m.state.top.function))
        (sym two) ∙ stands_return true tx 2 (op.Halt from) refl in
        let ended = returns image from m first second third in (
          length m.state.dirty + 3,
          omega arith,
          record {
            last = ended.last;
            is = ended.is ∙ ap (λ (v : ℤ). Over (Halted v) ended.last) (same.top.holds from low);
            stands = subst (λ (h : Words). Stands image.parts.sizes h w) (sym ended.heap_is)
                same.stands;
            fits = same.fits;
            shown = record { effects = []; seen = ended.seen_is; shows = done };
          },
        )

    -- the return of a called function
    back : (h q : ℕ) (rs : List ℤ) (r : ℕ) (cs : List code.Frame) → u.tx ≡ false
        → Waits image.parts.sizes program m.state.top.to (code.frame h q rs r ∷ cs) m.state.below →
        (n : ℕ) × (n ≤ own_steps image.parts.sizes + 0)
        × MovesToo image program [] (code.Goes
        (Here h q (put_register rs r (register_at regs from)) cs w t)) m (go image n m)
    back h q rs r cs tx waits =
        let hs : List Frame = waits.0 in
        let g : Frame = waits.1 in
        let waiting : IsOpenIn image.parts.sizes program h q rs (is_outermost cs) g = waits.4 in
        let z : m.state.top.place + 0 ≡ m.state.top.place = omega arith in
        let there : fetch image m.state ≡ Some (op.Ret from) =
        ap (λ (j : ℕ). fetch_in j (slice_get image.parts.functions m.state.top.function)) (sym z)
        ∙ stands_return false tx 0 (op.Ret from) refl in
        let v : ℤ = get_or m.state.top.registers from (pos 0) in
        let value : v ≡ register_at regs from = same.top.holds from low in
        let moves : go image (suc zero) m ≡ On (moment_after m Quiet (returned m.state v g)) =
        single image m (op.Ret from) there
        ∙ ap (λ (o : Option Frame). staged m (machine.return m.state v o))
        (nearest hs m.state.below g waits.2) in (
          suc zero,
          omega arith,
          record {
            to = moment_after m Quiet (returned m.state v g);
            is = moves;
            match = record {
              top = record {
                u = waiting.u;
                found = waiting.found;
                tx = waiting.tx;
                function = waiting.function;
                place = waiting.place;
                holds = subst (λ (k : ℕ). (j : ℕ) → j < waiting.u.registers
                    → get_or (set g.registers k v) j (pos 0)
                    ≡ register_at (put_register rs r (register_at regs from)) j) (sym waits.3)
                    (subst (λ (x : ℤ). (j : ℕ) → j < waiting.u.registers
                    → get_or (set g.registers r x) j (pos 0)
                    ≡ register_at (put_register rs r (register_at regs from)) j) (sym value)
                    (λ j few. set_put waiting.u.registers r rs g.registers (register_at regs from)
                    waiting.holds (omega (arith, waiting.room)) j few));
                room = let long : length (set g.registers m.state.top.to v) ≡ length g.registers =
                    length-set g.registers m.state.top.to v in omega (arith, waiting.room);
              };
              below = subst (λ (ks : List Frame). Waits image.parts.sizes program g.to cs ks)
                  (sym (others hs m.state.below g waits.2)) waits.5;
              size = same.size;
              ticks = same.ticks;
              stands = same.stands;
              fits = same.fits;
              clean = record { lines = same.clean.lines; distinct = same.clean.distinct };
            };
            shown = record { effects = []; seen = refl; shows = done };
          },
        )

    gives_back : (cs : List code.Frame) → u.tx ≡ is_outermost cs
        → Waits image.parts.sizes program m.state.top.to cs m.state.below →
        (n : ℕ)
        × (n ≤ own_steps image.parts.sizes + flushes (gives cs (register_at regs from) w t) m)
        × MovesToo image program [] (gives cs (register_at regs from) w t) m (go image n m)
    gives_back [] tx waits = ends tx
    gives_back (code.frame h q rs r ∷ cs) tx waits = back h q rs r cs tx waits

  pub jump_step : (q : ℕ) → slice_get u.code p ≡ Some (ir.Jump q) → Step (Some (ir.Jump q))
  jump_step q e = one_step (ir.Jump q) (op.Jmp (to_place q)) (code.Goes (Here f q regs callers w t))
      e refl (jumps q (to_place q) refl)

  pub branch_step : (on q : ℕ) → slice_get u.code p ≡ Some (ir.Branch on q)
      → Step (Some (ir.Branch on q))
  branch_step on q e =
      let low = well_at image program c f u same.top.found p (ir.Branch on q) e in
      one_step (ir.Branch on q) (op.Jz on (to_place q))
      (code.act program (Some (ir.Branch on q)) f p regs callers w t) e refl
      (subst (λ (z : ℤ). MovesToo image program [] (if is_zero z
      then code.Goes (Here f q regs callers w t) else code.Goes (Here f (suc p) regs callers w t))
      m
      (staged m (machine.execute image m.heap m.state
      (Some (op.Jz on (to_place q)))))) (same.top.holds on low.0)
      (branches q (get_or m.state.top.registers on (pos 0)) (next_at (ir.Branch on q) e refl)))

  pub call_step : (r g : ℕ) (args : List ℕ) → slice_get u.code p ≡ Some (ir.Call r g args)
      → Step (Some (ir.Call r g args))
  call_step r g args e =
      let well = well_at image program c f u same.top.found p (ir.Call r g args) e in
      one_step (ir.Call r g args) (op.Call r g args)
      (code.act program (Some (ir.Call r g args)) f p regs callers w t) e refl
      (calls r g args (next_at (ir.Call r g args) e refl) well.1 e (slice_get program.functions g)
      refl well.2)

  pub return_step : (from : ℕ) → slice_get u.code p ≡ Some (ir.Return from)
      → Step (Some (ir.Return from))
  return_step from e = gives_back from e
      (well_at image program c f u same.top.found p (ir.Return from) e) callers same.top.tx
      same.below
