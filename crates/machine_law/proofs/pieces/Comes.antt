-- A run of a part of a piece that shows deeds and keeps the piece's registers.
use Rattle.std.proofs.Common.{◌≡◌, ℕ, ◌+◌, Bool, List, [], ◌++◌, length, sym, ap, ◌∙◌, subst}
use Rattle.std.proofs.Common.{ℤ}
use Rattle.pool_layout.specs.declared.limits.Sizes.{Sizes}
use Rattle.pool_map.specs.PoolMap.{PoolMap}
use Rattle.ir.specs.declared.site.Site.{Site}
use Rattle.code_meaning.specs.Code.{Frame, Here, Ends, Trapped}
use Rattle.code_meaning.specs.Code as code
use Rattle.code_meaning.specs.Deeds.{Deed}
use Rattle.pool_map.specs.declared.trap.TrapKind.{TrapKind}
use Rattle.pool_map.specs.Trap.{trap_number}
use Rattle.pm_machine.specs.declared.effect.Effect.{Effect}
use Rattle.pm_alloc.specs.Runs.{Next, Goes, Traps, local_run}
use Rattle.pm_alloc.specs.LocalRun.{World, Loc, local_step}
use Rattle.pm_alloc.specs.declared.local.Local.{Local}
use Rattle.pm_alloc.proofs.Runs.{run_on}
use Rattle.machine_law.specs.pieces.Shows.{ShowsDeeds}
use Rattle.machine_law.specs.pieces.Law.{onward, PieceEnds, Does, goes, traps}
use Rattle.machine_law.proofs.pieces.Shown.{shown, onward_append}

module _ (s : Sizes) (logged : Site → Bool) where
  -- from world v the run r shows the deeds by the effects, and reaches the given place
  pub data Comes (v : World) (ds : List Deed) (es : List Effect) (there : World → Loc)
      (r : Next World Loc) : Type 0 where
    comes : ShowsDeeds s logged ds es → r ≡ Goes (there (onward v es v.ticks))
        → Comes v ds es there r

module _ (s : Sizes) (logged : Site → Bool) (piece : List Local) where
  -- one part after the other
  pub comes_on : (i j : ℕ) (l : Loc) (v : World) (ds cs : List Deed) (es fs : List Effect)
      (mid last : World → Loc) →
      Comes s logged v ds es mid (local_run (local_step s piece) i l) →
      Comes s logged (onward v es v.ticks) cs fs last
      (local_run (local_step s piece) j (mid (onward v es v.ticks))) →
      Comes s logged v (ds ++ cs) (es ++ fs) last (local_run (local_step s piece) (i + j) l)
  comes_on i j l v ds cs es fs mid last (comes first e) (comes second f) =
      comes (shown s logged ds cs es fs first second)
      (run_on (local_step s piece) i j l (mid (onward v es v.ticks)) _ e f
      ∙ ap (λ (u : World). Goes (last u)) (onward_append v es fs v.ticks v.ticks))

  -- the piece ends at the place that the part reaches
  pub done_by : (i : ℕ) (l : Loc) (v : World) (ds : List Deed) (es : List Effect) (last : World
      → Loc) (f p : ℕ) (regs : List ℤ) (below : List Frame) (w : PoolMap) (t : ℕ) →
      Comes s logged v ds es last (local_run (local_step s piece) i l) →
      PieceEnds s (length piece) v es regs w t (last (onward v es v.ticks)) →
      Does s logged (length piece) v ds (code.Goes (Here f p regs below w t))
      (local_run (local_step s piece) i l)
  done_by i l v ds es last f p regs below w t (comes shows e) afterwards =
      subst (λ (r : Next World Loc).
      Does s logged (length piece) v ds (code.Goes (Here f p regs below w t)) r) (sym e)
      (goes es shows afterwards)

  -- a trap after loads of headers
  pub traps_by : (i : ℕ) (l : Loc) (v : World) (es : List Effect) (k : TrapKind)
      → ShowsDeeds s logged [] es →
      local_run (local_step s piece) i l ≡ Traps (trap_number k) (onward v es v.ticks)
      → Does s logged (length piece) v [] (Ends (Trapped k)) (local_run (local_step s piece) i l)
  traps_by i l v es k shows e = subst (λ (r : Next World Loc).
      Does s logged (length piece) v [] (Ends (Trapped k)) r) (sym e) (traps k es shows)
