-- What `show dead` does.
use Rattle.std.proofs.Common.{◌≡◌, ◌⊎◌, inl, inr, ℕ, List, true, refl, sym, ap, subst}
use Rattle.cache_model.specs.Cache.{view}
use Rattle.pmem.specs.Device.{Device}
use Rattle.pool_layout.specs.declared.limits.Sizes.{Sizes}
use Rattle.pool_map.specs.declared.shapes.Shapes.{Shapes}
use Rattle.pool_map.specs.declared.trap.TrapKind.{TrapKind}
use Rattle.pool_map.specs.PoolFits.{PoolFits}
use Rattle.pool_map.specs.PoolText.{pool_text}
use Rattle.pm_machine.specs.HeapPool.{heap_of, pool_in}
use Rattle.c_types.specs.Shapes.{shapes_of}
use Rattle.cnvm_session.specs.declared.answer.Answer.{Answer}
use Rattle.cnvm_session.specs.declared.answer.Answer.TheVariants as answer
use Rattle.cnvm_session.specs.declared.mode.Mode.{Mode}
use Rattle.cnvm_session.specs.declared.mode.Mode.TheVariants as mode
use Rattle.cnvm_session.specs.declared.program.Program.{Program}
use Rattle.cnvm_session.specs.Commands as commanded
use Rattle.cnvm_session.specs.Pool.{sizes_of}

-- a text, which is that of the pool if this fits; or there was no memory for it
module _ (shapes : Shapes) (z : Sizes) (kind : TrapKind) (d : Device) where
  abbrev IsText : List ℕ → Type 0
  IsText text = d.on ≡ true → PoolFits shapes (pool_in shapes z (heap_of z (view d.cache)))
      → text ≡ pool_text shapes (pool_in shapes z (heap_of z (view d.cache)))

  abbrev ToldDead : Answer → Type 0
  ToldDead a = ((text : List ℕ) × (a ≡ answer.ShownDead kind text) × IsText text)
      ⊎ (a ≡ answer.NoMemory)

  pub told_dead : (a : Answer) → commanded.TellsDead shapes z kind d a → ToldDead a
  told_dead (answer.ShownDead trap text) h =
      inl (text, ap (λ (k : TrapKind). answer.ShownDead k text) h.0, h.1)
  told_dead answer.NoMemory h = inr refl
  told_dead answer.Silent h = absurd h
  told_dead (answer.Done value unsigned logged) h = absurd h
  told_dead (answer.Trap t) h = absurd h
  told_dead (answer.Aborted t) h = absurd h
  told_dead (answer.Stopped p) h = absurd h
  told_dead answer.DeviceFault h = absurd h
  told_dead answer.RecoveredNone h = absurd h
  told_dead (answer.RecoveredRedone value unsigned logged) h = absurd h
  told_dead (answer.RecoveredTrap t) h = absurd h
  told_dead (answer.RecoveredAborted t) h = absurd h
  told_dead (answer.Shown text) h = absurd h
  told_dead (answer.Last n value) h = absurd h
  told_dead answer.RefusedDown h = absurd h
  told_dead (answer.RefusedUnusable t) h = absurd h
  told_dead answer.RefusedUnknown h = absurd h
  told_dead answer.RefusedArity h = absurd h
  told_dead answer.RefusedNumbers h = absurd h
  told_dead (answer.RefusedPick line) h = absurd h

-- in a session that no trap has ended `show dead` does what `show` does
module _ (program : Program) (m : Mode) (d : Device) (a : Answer) (n : Mode) (b : Device)
    (k k1 : ℕ) where
  abbrev DoesAs : Mode → Type 0
  DoesAs x = commanded.Shows (shapes_of program.typed) (sizes_of program) x d a n b k k1

  abbrev DoesDeadAs : Mode → Type 0
  DoesDeadAs x = commanded.ShowsDead (shapes_of program.typed) (sizes_of program) x d a n b k k1

  pub shows_ready : m ≡ mode.Ready → DoesDeadAs m → DoesAs m
  shows_ready is did = subst DoesAs (sym is) (subst DoesDeadAs is did)

  pub shows_down : m ≡ mode.Down → DoesDeadAs m → DoesAs m
  shows_down is did = subst DoesAs (sym is) (subst DoesDeadAs is did)
