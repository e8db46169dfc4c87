use Rattle.std.proofs.Common.{inl, inr, refl}
use Rattle.cnvm_compile.specs.Compilation.{IsCompiled}
use Rattle.cnvm_cli.specs.declared.refused.Refused.TheVariants as refused
use Rattle.cnvm_cli.specs.Listed.{listing_sizes}
use Rattle.session_run.proofs.Running.{keeps_same}
use Rattle.cnvm_cli.proofs.texts.Sources.{known_bytes}
use Rattle.cnvm_cli.proofs.reasons.why.Goals as goal

pub explain-requires : goal.explain-requires
explain-requires g c =
    let is = known_bytes _ (λ text. IsCompiled listing_sizes text c.in-Ok.compiled)
    c.in-Ok.ensures.told in
    is.1.well_formed

pub returns-in-Ok-explain-clause-ends : goal.returns-in-Ok-explain-clause-ends
returns-in-Ok-explain-clause-ends g c =
    inr (
      c.in-Ok.compiled,
      c.in-Ok.ensures.told,
      c.in-Ok-explain.certificate,
      (c.in-Ok-explain.ensures.lists, c.in-Ok-explain.ensures.keeps),
      c.put_reasons.ensures.written,
    )

pub returns-clause-ends : goal.returns-clause-ends
returns-clause-ends g c = inl (refused.NoMemory, tt, (refl, keeps_same _))
