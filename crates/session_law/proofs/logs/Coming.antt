-- What follows for the source and the log where a transaction comes to a value, or to a trap.
use Rattle.std.proofs.Common.{◌≡◌, ◌⊎◌, inl, inr, ℕ, ◌<◌, ◌≤◌, Bool, true, false, if◌then◌else◌}
use Rattle.std.proofs.Common.{nat_lt, List, ℤ, refl, sym, arith}
use Rattle.std.proofs.lemmas.Bool.{ltb-true, ltb-false}
use Rattle.pool_map.specs.declared.trap.TrapKind.{TrapKind}
use Rattle.pool_map.specs.declared.trap.TrapKind.TheVariants.{LogFull}
use Rattle.pool_map.specs.PoolMap.{PoolMap}
use Rattle.c_meaning.specs.Transaction.{Outcome, Trap}
use Rattle.cnvm_session.specs.declared.program.Program.{Program}
use Rattle.cnvm_session.specs.Pool.{sizes_of}
use Rattle.session_law.specs.Source.{means, outcome_with}

module _ (program : Program) (pool : PoolMap) (tx : ℕ) (args : List ℤ) (n : ℕ) where
  abbrev records : ℕ
  records = (sizes_of program).records

  abbrev o : Outcome
  o = means program pool tx args

  -- one that comes to a trap has a full log where its log records have no room, and else the
  -- source's trap
  pub comes_trap : (kind : TrapKind) → outcome_with program pool tx args n ≡ Trap kind →
      ((records < n) × (kind ≡ LogFull)) ⊎ ((n ≤ records) × (o ≡ Trap kind))
  comes_trap kind is = by_test (nat_lt records n) refl is
    where
      by_test : (b : Bool) → nat_lt records n ≡ b → (if b then Trap LogFull else o) ≡ Trap kind →
          ((records < n) × (kind ≡ LogFull)) ⊎ ((n ≤ records) × (o ≡ Trap kind))
      by_test true e is = let same : LogFull ≡ kind = cc in inl (ltb-true records n e, sym same)
      by_test false e is = inr (omega (arith, ltb-false records n e), is)
