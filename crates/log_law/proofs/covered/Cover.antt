-- A whole run, step by step.
use Rattle.std.proofs.Common.{ℕ, zero, suc, [], refl, inr}
use Rattle.std.proofs.lemmas.Bool.{false≢true}
use Rattle.ir.specs.declared.function.Ir.{Ir}
use Rattle.ir.specs.declared.site.Site.{Site}
use Rattle.ir.specs.Places.{instruction_at}
use Rattle.ir.specs.WellFormed.{IsWellFormed}
use Rattle.ir.specs.Walk.{at_start}
use Rattle.ir.specs.Walk.Walk.{none}
use Rattle.code_meaning.specs.Code.{Spot}
use Rattle.code_meaning.specs.Deeds.{deeds}
use Rattle.code_meaning.specs.Parameters.{KeepsParameters}
use Rattle.log_law.specs.covered.Law.{CoverLaw}
use Rattle.log_law.proofs.covered.Moments.{Later}
use Rattle.log_law.proofs.covered.Steps.{act_covers}

run_covers : (ir : Ir) → IsWellFormed ir → KeepsParameters ir.functions
    → (u : Spot) (a : Site) (n : ℕ) → Later ir u a (deeds ir n)
run_covers ir well keeps u a zero f p regs below w t k calls comes agrees =
    λ known first. absurd first
run_covers ir well keeps u a (suc n) f p regs below w t k calls comes agrees =
    act_covers ir well keeps u a (deeds ir n) (run_covers ir well keeps u a n) f p regs below w t k
    calls comes agrees (instruction_at ir.functions f p) refl

pub covered : CoverLaw
covered ir well keeps f tx args w t n u a input first =
    run_covers ir well keeps u a n f 0 args [] w t at_start [] (f, tx, none) (
      λ r s x h named l.
          false≢true h,
      λ x h l. false≢true h,
      tt,
    ) (inr input) first
