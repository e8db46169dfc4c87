use Rattle.std.proofs.Common.{inl, inr, refl}
use Rattle.cnvm_compile.specs.Compilation.{IsCompiled}
use Rattle.cnvm_cli.specs.declared.refused.Refused.TheVariants as refused
use Rattle.session_run.proofs.Running.{keeps_same}
use Rattle.cnvm_cli.proofs.texts.Sources.{known_bytes}
use Rattle.cnvm_cli.proofs.Statuses.{written_as}
use Rattle.cnvm_cli.proofs.native.emit.Goals as goal

pub emit_text-requires : goal.emit_text-requires
emit_text-requires g c =
    let is = known_bytes _ (λ text. IsCompiled c.args.asked text c.in-Ok.compiled)
    c.in-Ok.ensures.told in
    (c.args.asked, is.0, is.1)

pub returns-in-Ok-emit_text-clause-ends : goal.returns-in-Ok-emit_text-clause-ends
returns-in-Ok-emit_text-clause-ends g c =
    inr (
      c.in-Ok.compiled,
      c.in-Ok.ensures.told,
      written_as _ _ _ _
          (rw (← c.in-Ok-emit_text.ensures, ← c.as_str.ensures) c.put.ensures.tells),
    )

pub returns-clause-ends : goal.returns-clause-ends
returns-clause-ends g c = inl (refused.NoMemory, tt, (refl, keeps_same _))
