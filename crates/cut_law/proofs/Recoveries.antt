-- A recovery that is cut any number of times.
use Rattle.std.proofs.Common.{◌≡◌, ◌⊎◌, inl, ℕ, zero, suc, ◌≤◌, List, length, ℤ, subst}
use Rattle.cache_model.specs.Cache.{Words}
use Rattle.pm_machine.specs.declared.effect.Effect.{Effect}
use Rattle.pm_machine.specs.declared.effect.End.{End}
use Rattle.pm_machine.specs.declared.image.Image.{Image}
use Rattle.pm_machine.specs.Effects.{heap_end}
use Rattle.pm_machine.specs.declared.records.Policy.{Policy}
use Rattle.pm_machine.specs.Machine.{Finished}
use Rattle.pm_machine.specs.Logging.{tx_run}
use Rattle.crash_law.specs.Pools.{Owed}
use Rattle.crash_law.specs.Law.{IsEnd, KeepsLast, collapsed, AreInARow}
use Rattle.crash_law.proofs.Again.{collapsed_one, left_image}
use Rattle.run_law.specs.Seen.{result_of, E, W}
use Rattle.run_law.specs.Sound.{IsSoundRun}
use Rattle.recovery.specs.Due.{due_redo}
use Rattle.cut_law.specs.Law.{call_of, pool_with, IsRecoveredTo}
use Rattle.cut_law.proofs.Redoes.{cut_redo}
use Rattle.pool_layout.specs.declared.places.TheConstants.{ARGUMENTS}

module _ (p : Policy) (image : Image) (super : Words) (tx : ℕ) (args : List ℤ) (d : ℕ) (h : Words)
    (last : ℤ) (end : End) (es : List Effect) (few : length args ≤ ARGUMENTS)
    (ran : tx_run p image image.parts.most h tx args ≡ Finished end es)
    (sound : IsSoundRun p end es) where
  abbrev Recoverable : Words → Type 0
  Recoverable other = Owed (pool_with image super) (call_of d tx args) (E p es) (W es) h
      (KeepsLast (result_of p last end)) other
      ⊎ IsEnd (pool_with image super) (call_of d tx args) h (heap_end h es) (result_of p last end)
      other

  recovered : (one other : Words) → IsRecoveredTo p image super tx args d h last end es one other
      → Recoverable other
  recovered one other cut =
      left_image Recoverable (collapsed one) (due_redo p image tx args cut.n (collapsed one)) other
      (cut_redo p image super tx args (collapsed one) one d h last end es few (collapsed_one one)
      cut.owes.owed ran sound cut.n cut.owes.counted cut.owes.room).0
      cut.left

  again : (k : ℕ) (one other : Words) → Recoverable one →
      AreInARow (IsRecoveredTo p image super tx args d h last end es) k one other
      → Recoverable other
  again zero one other now same = subst Recoverable same now
  again (suc k) one other now cuts = again k cuts.0 other (recovered one cuts.0 cuts.1) cuts.2

  pub cut_again : (k : ℕ) (one other : Words) →
      Owed (pool_with image super) (call_of d tx args) (E p es) (W es) h
      (KeepsLast (result_of p last end))
      one →
      AreInARow (IsRecoveredTo p image super tx args d h last end es) k one other
      → Recoverable other
  cut_again k one other owed cuts = again k one other (inl owed) cuts
