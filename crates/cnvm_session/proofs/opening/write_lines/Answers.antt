use Rattle.std.proofs.Common.{◌≡◌, refl, sym, ap, ◌∙◌, subst}
use Rattle.pmem.specs.Device.{Device, FaultsRose}
use Rattle.pmem.proofs.Parts.{IsOn, never_off, rose_part}
use Rattle.cnvm_session.specs.declared.creating.StartFault.TheVariants.{Failed}
use Rattle.cnvm_session.specs.Unmade.{cause_of}
use Rattle.cnvm_session.proofs.opening.write_lines.Goals as goal

pub of-requires : goal.of-requires
of-requires g c = record {
  on = λ off. never_off _ _ _ _ off (subst IsOn (sym c.in_default.ensures.done) (refl, refl))
      c.in-Err-play_opening.ensures.refused;
}

pub returns-in-Err-play_opening-clause-failed : goal.returns-in-Err-play_opening-clause-failed
returns-in-Err-play_opening-clause-failed g c is =
    let fails : c.of.result ≡ Failed = cc in
    subst (λ (d : Device). FaultsRose d.faults (g.P.PmemWork.device c.play_opening.new.dev).faults)
    c.in_default.ensures.done
    (rose_part _ _ _ _ (sym c.of.ensures ∙ ap cause_of fails) c.in-Err-play_opening.ensures.refused)
