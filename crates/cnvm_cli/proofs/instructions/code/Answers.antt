use Rattle.std.proofs.Common.{inl, inr, refl}
use Rattle.cnvm_compile.specs.Compilation.{IsCompiled}
use Rattle.cnvm_cli.specs.declared.refused.Refused.TheVariants as refused
use Rattle.cnvm_cli.specs.Listed.{listing_sizes}
use Rattle.session_run.proofs.Running.{keeps_same}
use Rattle.cnvm_cli.proofs.texts.Sources.{known_bytes}
use Rattle.cnvm_cli.proofs.Statuses.{written_as}
use Rattle.cnvm_cli.proofs.instructions.code.Goals as goal

pub code_text-requires : goal.code_text-requires
code_text-requires g c =
    let is = known_bytes _ (λ text. IsCompiled listing_sizes text c.in-Ok.compiled)
    c.in-Ok.ensures.told in
    is.1.well_formed

pub returns-in-Ok-code_text-clause-ends : goal.returns-in-Ok-code_text-clause-ends
returns-in-Ok-code_text-clause-ends g c =
    inr (
      c.in-Ok.compiled,
      c.in-Ok.ensures.told,
      written_as _ _ _ _
          (rw (← c.in-Ok-code_text.ensures, ← c.as_str.ensures) c.put.ensures.tells),
    )

pub returns-clause-ends : goal.returns-clause-ends
returns-clause-ends g c = inl (refused.NoMemory, tt, (refl, keeps_same _))
