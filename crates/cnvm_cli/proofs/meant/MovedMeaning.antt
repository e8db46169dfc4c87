-- What becomes of an opened former pool means what the source says.
use Rattle.std.proofs.Common.{◌≡◌, inl, inr, ℕ, List, Option, None}
use Rattle.cache_model.specs.Cache.{Words}
use Rattle.pmem.specs.Device.{Device}
use Rattle.cnvm_session.specs.Former.{first_other}
use Rattle.cnvm_session.specs.Pool.{sizes_of}
use Rattle.cnvm_session.specs.declared.program.Program.{Program}
use Rattle.session_law.specs.Holds.{Holds}
use Rattle.session_law.specs.Ran.{Moment}
use Rattle.file_law.specs.Moved.{moved_words}
use Rattle.file_law.proofs.Moving.{moved_holds}
use Rattle.session_run.specs.declared.status.Status.{Status}
use Rattle.cnvm_cli.specs.Former.{MovesOn, moved_moment}
use Rattle.cnvm_cli.specs.PoolSide.{PoolSide}
use Rattle.cnvm_cli.specs.inside.FormerEnds.{MovesAs}

module _ (former new : Program) (super : Words) (x : Moment) (result : Status)
    (told : Option (List ℕ)) (after : PoolSide)
    (sizes : first_other former.typed new.typed ≡ None → sizes_of new ≡ sizes_of former)
    (holds : Holds former super x.mode x.device x.state) (go : Device → Type 0)
    (goes : Words → Moment → Type 0)
    (so : (b : Device) → Holds new (moved_words new super) x.mode b x.state → go b
    → goes (moved_words new super) (moved_moment b x)) where
  pub moves_meant : MovesAs go former new x.mode x.device x.steps result told after
      → MovesOn goes former new super x result told after
  moves_meant (inl unrecovered) = inl unrecovered
  moves_meant (inr (recovered, inl shape)) = inr (recovered, inl shape)
  moves_meant (inr (recovered, inr (none, inl unmoved))) =
      inr (recovered, inr (none, inl unmoved))
  moves_meant (inr (recovered, inr (none, inr (b, plays, went)))) =
      let moved = moved_holds former new super x.mode x.device b x.state none (sizes none) recovered
      holds plays in
      inr (recovered, inr (none, inr (b, plays, moved, so b moved went)))
