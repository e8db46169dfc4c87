use Rattle.std.proofs.Common.{refl, sym, subst}
use Rattle.pmem.specs.Device.{Device, FaultsRose}
use Rattle.pmem.proofs.Parts.{IsOn, never_off, rose_part}
use Rattle.pool_workers.proofs.creating.create_pools.Goals as goal

pub returns-in-Err-Failed-clause-failed : goal.returns-in-Err-Failed-clause-failed
returns-in-Err-Failed-clause-failed g c _ =
    subst (λ (d : Device). FaultsRose d.faults (g.P.PmemWork.device c.create_all.new.dev).faults)
    c.in_default.ensures.done
    (rose_part _ _ _ _ c.in-Err-Failed.field-0-is c.in-Err-Failed.ensures.refused)

pub returns-in-Err-Off-clause-failed : goal.returns-in-Err-Off-clause-failed
returns-in-Err-Off-clause-failed g c _ =
    absurd (never_off _ _ _ _ c.in-Err-Off.field-0-is
    (subst IsOn (sym c.in_default.ensures.done) (refl, refl)) c.in-Err-Off.ensures.refused)

pub returns-in-Err-Off-clause-refused : goal.returns-in-Err-Off-clause-refused
returns-in-Err-Off-clause-refused g c =
    absurd (never_off _ _ _ _ c.in-Err-Off.field-0-is
    (subst IsOn (sym c.in_default.ensures.done) (refl, refl)) c.in-Err-Off.ensures.refused)
