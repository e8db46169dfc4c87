use Rattle.std.proofs.Common.{◌≡◌, refl, sym, ap, ◌∙◌, subst}
use Rattle.pmem.specs.Device.{Device, FaultsRose}
use Rattle.pmem.proofs.Parts.{IsOn, never_off, rose_part}
use Rattle.cnvm_session.specs.declared.creating.StartFault.TheVariants.{Failed}
use Rattle.cnvm_session.specs.Unmade.{cause_of}
use Rattle.cnvm_session.proofs.creating.create_pool.Goals as goal

pub of-requires : goal.of-requires
of-requires g c = record {
  on = λ off. never_off _ _ _ _ off (subst IsOn (sym c.in_default.ensures.done) (refl, refl))
      c.in-Err-play_creation.ensures.refused;
}

pub returns-in-Err-play_creation-clause-failed : goal.returns-in-Err-play_creation-clause-failed
returns-in-Err-play_creation-clause-failed g c is =
    let fails : c.of.result ≡ Failed = cc in
    let refused = c.in-Err-play_creation.ensures.refused in
    subst (λ (d : Device). FaultsRose d.faults (g.P.PmemWork.device c.play_creation.new.dev).faults)
    c.in_default.ensures.done (rose_part _ _ _ _ (sym c.of.ensures ∙ ap cause_of fails) refused)
