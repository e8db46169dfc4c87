-- An instruction that stays in its function: its piece in its place.
use Rattle.std.proofs.Common.{◌≡◌, ℕ, zero, suc, ◌+◌, ◌<◌, Bool, true, false, List, length}
use Rattle.std.proofs.Common.{slice_get, get_or, Option, Some, ℤ, pos, refl, sym, ap, ◌∙◌, subst}
use Rattle.std.proofs.Common.{arith}
use Rattle.pool_map.specs.PoolFits.{PoolFits}
use Rattle.pool_map.specs.PoolMap.{PoolMap}
use Rattle.ir.specs.declared.instruction.Instruction.{Instruction}
use Rattle.ir.specs.declared.instruction.Instruction.TheVariants as ir
use Rattle.ir.specs.declared.function.IrFunction.{IrFunction}
use Rattle.ir.specs.declared.function.Ir.{Ir}
use Rattle.code_meaning.specs.Code.{Here, register_at}
use Rattle.code_meaning.specs.Code as code
use Rattle.code_meaning.specs.Deeds.{deeds_at}
use Rattle.pm_machine.specs.declared.effect.Effect.{Effect}
use Rattle.pm_machine.specs.declared.image.Image.{Image}
use Rattle.pm_alloc.specs.declared.local.Local.{Local}
use Rattle.pm_alloc.specs.LocalRun.{World, Loc, local_step}
use Rattle.pm_alloc.specs.Search.{temporaries}
use Rattle.pm_alloc.specs.Runs as alone
use Rattle.codegen.specs.Emit.{local_code}
use Rattle.ir.specs.Moving.{place_in}
use Rattle.machine_law.specs.emitted.Dirty.{IsCleanState}
use Rattle.machine_law.specs.emitted.Moments.{RunMoment, On, go}
use Rattle.machine_law.specs.emitted.Placed.{heard, Setting, Same, IsPlaced}
use Rattle.machine_law.specs.emitted.Standing.{logged_before, Stays, table_of}
use Rattle.machine_law.proofs.emitted.Dirty.{clean_all}
use Rattle.machine_law.proofs.emitted.Placed.{run_as}
use Rattle.machine_law.proofs.emitted.Standing.{stands_all}
use Rattle.machine_law.specs.pieces.Law.{PieceLaw, AgreesOnSites, PieceEnds}
use Rattle.machine_law.specs.pieces.Pools.{FitsMove, FitsLaw}
use Rattle.machine_law.specs.pieces.Words.{HoldWords}
use Rattle.machine_law.specs.matching.Compiled.{IsCodeOf, is_logged_in_code, logs_at, logs_fill}
use Rattle.machine_law.specs.matching.Match.{AreMatched}
use Rattle.machine_law.proofs.matching.Places.{place_next}
use Rattle.machine_law.proofs.matching.Compiled.{well_at}
use Rattle.machine_law.proofs.matching.Leads.{leads_on, piece_length}
use Rattle.machine_law.proofs.matching.Moves.{Steps, combined}

temporary_is : (x : ℕ → ℤ) (j : ℕ) → j < 8 → x j ≡ get_or (temporaries x) j (pos 0)
temporary_is x zero low = refl
temporary_is x (suc zero) low = refl
temporary_is x (suc (suc zero)) low = refl
temporary_is x (suc (suc (suc zero))) low = refl
temporary_is x (suc (suc (suc (suc zero)))) low = refl
temporary_is x (suc (suc (suc (suc (suc zero))))) low = refl
temporary_is x (suc (suc (suc (suc (suc (suc zero)))))) low = refl
temporary_is x (suc (suc (suc (suc (suc (suc (suc zero))))))) low = refl
temporary_is x (suc (suc (suc (suc (suc (suc (suc (suc j)))))))) low = absurd (omega arith)

module _ (piece_law : PieceLaw) (fits_law : FitsLaw) (image : Image) (program : Ir)
    (c : IsCodeOf image program) (f p : ℕ) (regs : List ℤ) (callers : List code.Frame)
    (w : PoolMap)
    (t : ℕ) (m : RunMoment) (words : HoldWords regs)
    (same : AreMatched image program f p regs callers w t m) where
  abbrev u : IrFunction
  u = same.top.u

  abbrev to_place : ℕ → ℕ
  to_place q = place_in (table_of image.parts.sizes program.shapes u) q

  abbrev marked : Bool
  marked = logged_before false u.code p

  abbrev Step : Option Instruction → Type 0
  Step o = Steps image program f p regs callers w t m o

  -- an instruction that stays in its function
  marked_is : (i : Instruction) → slice_get u.code p ≡ Some i
      → AgreesOnSites (is_logged_in_code program) f p marked i
  marked_is (ir.Store x from line) e =
      ap (λ (o : Option IrFunction). logs_at o p false) same.top.found
  marked_is (ir.New to kind fill line) e =
      ap (λ (o : Option IrFunction). logs_at o p true) same.top.found ∙ ap logs_fill e
  marked_is (ir.Const to v) e = tt
  marked_is (ir.Copy to from) e = tt
  marked_is (ir.Bin o to a b) e = tt
  marked_is (ir.Jump q) e = tt
  marked_is (ir.Branch on q) e = tt
  marked_is (ir.Load to x) e = tt
  marked_is (ir.Free from kind line) e = tt
  marked_is (ir.Call to g args) e = tt
  marked_is (ir.Return from) e = tt
  marked_is ir.Tick e = tt
  marked_is (ir.Trap k) e = tt
  marked_is (ir.Log x) e = tt

  module _ (i : Instruction) (e : slice_get u.code p ≡ Some i) (is : Stays i) where
    abbrev piece : List Local
    piece = local_code image.parts.sizes program.shapes marked i

    abbrev setting : Setting
    setting = record {
      function = f;
      base = u.registers;
      place = to_place p;
      to = m.state.top.to;
      below = m.state.below;
      size = m.state.size;
    }

    abbrev world : World
    world = record { heap = m.heap; seen = heard m.seen; ticks = t }

    abbrev temps : List ℤ
    temps = temporaries (λ j. get_or m.state.top.registers (u.registers + j) (pos 0))

    abbrev begins : Loc
    begins = record { at = 0; own = register_at regs; temp = temps; world = world }

    placed_here : IsPlaced image f u.registers (to_place p) piece
    placed_here = stands_all image image.parts.sizes program f u p i c.code.functions
        same.top.found (c.room f u same.top.found) e is

    starts : Same setting begins m
    starts = record {
      regs = m.state.top.registers;
      dirty = m.state.dirty;
      seen = m.seen;
      holds = record {
        eight = refl;
        room = same.top.room;
        own_is = same.top.holds;
        temp_is =
            λ j low. temporary_is (λ k. get_or m.state.top.registers (u.registers + k) (pos 0)) j
            low;
      };
      heard_is = refl;
      is = (let at_start : m.state.top.place ≡ to_place p + 0 = omega (arith, same.top.place) in
          λ j. record {
            state = record {
              top = record {
                function = same.top.function j;
                place = at_start j;
                to = m.state.top.to;
                registers = m.state.top.registers;
              };
              below = m.state.below;
              ticks = same.ticks j;
              dirty = m.state.dirty;
              size = m.state.size;
            };
            heap = m.heap;
            seen = m.seen;
          });
    }

    after_is : (n : ℕ) (rs : List ℤ) (v : PoolMap) (s : ℕ) (l : Loc) (es : List Effect)
        (b : RunMoment) → PieceEnds image.parts.sizes (length piece) world es rs v s l
        → Same setting l b → go image n m ≡ On b →
        code.act program (Some i) f p regs callers w t ≡ code.Goes (Here f (suc p) rs callers v s)
        → AreMatched image program f (suc p) rs callers v s b
    after_is n rs v s l es b past register_at comes moves =
        let next : to_place p + l.at ≡ to_place (suc p) =
        ap (λ (k : ℕ). to_place p + k)
        (past.place ∙ sym (piece_length image.parts.sizes program.shapes u.tx u.registers
        (table_of image.parts.sizes program.shapes u) (to_place p) marked i is))
        ∙ sym (place_next image.parts.sizes program.shapes u (c.room f u same.top.found) p i e) in
        let clean : IsCleanState image b.state = clean_all image n m b same.clean comes in
        let fits : PoolFits program.shapes v =
        subst (FitsMove program.shapes) moves
        (fits_law program u.registers (length u.code) f p t i regs callers w
        (well_at image program c f u same.top.found p i e) same.fits) in
        subst (AreMatched image program f (suc p) rs callers v s) (sym register_at.is)
        (record {
          top = record {
            u = u;
            found = same.top.found;
            tx = same.top.tx;
            function = refl;
            place = next;
            holds = λ r low. register_at.holds.own_is r low ∙ past.own r;
            room = register_at.holds.room;
          };
          below = same.below;
          size = same.size;
          ticks = ap (λ (k : World). k.ticks) past.world;
          stands = past.stands;
          fits = fits;
          clean = subst (λ (k : RunMoment). IsCleanState image k.state) register_at.is clean;
        })

    pub stays : Step (Some i)
    stays =
        let run = piece_law image.parts.sizes program u.registers (length u.code) f p i marked
        (is_logged_in_code program) regs callers w world temps c.fits same.fits same.stands words
        (well_at image program c f u same.top.found p i e) is (marked_is i e) refl in (
          run.0,
          omega (arith, run.1),
          combined image program setting f p (length piece) callers m world refl
              (deeds_at program.shapes f p regs w (Some i))
              (code.act program (Some i) f p regs callers w t)
              (alone.local_run (local_step image.parts.sizes piece) run.0 begins) (go image run.0 m)
              run.2 (leads_on f p callers program i regs w t is)
              (run_as image setting piece placed_here run.0 begins m starts)
              (λ rs v s l es b past register_at comes moves.
              after_is run.0 rs v s l es b past register_at comes moves),
        )
