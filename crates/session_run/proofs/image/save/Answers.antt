use Rattle.std.proofs.Common.{◌≡◌, List, ℕ, inl, inr, refl, sym, ◌∙◌, subst}
use Rattle.std.specs.Io.KnownBytes.{Appends}
use Rattle.nvm_base.specs.Parts.{AppendsPart}
use Rattle.session_run.proofs.Pieces.{saved_is}
use Rattle.session_run.proofs.image.save.Goals as goal

pub returns-in-Ok-clause-saved : goal.returns-in-Ok-clause-saved
returns-in-Ok-clause-saved g c =
    let written = g.O.Sink.written in
    let device = g.P.PmemWork.device in
    inl (
      refl,
      subst (Appends (written c.args.out.now) (written c.write_lines.new.out))
          (saved_is (device c.args.dev.now) (device c.power_on.new.dev) c.pool_lines.result
          c.power_on.ensures (c.pool_lines.ensures ∙ sym c.requires.lines)) c.in-Ok.ensures.ok,
    )

pub returns-in-Err-clause-saved : goal.returns-in-Err-clause-saved
returns-in-Err-clause-saved g c =
    let written = g.O.Sink.written in
    let device = g.P.PmemWork.device in
    inr (inr (
      refl,
      subst (AppendsPart (written c.args.out.now) (written c.write_lines.new.out))
          (saved_is (device c.args.dev.now) (device c.power_on.new.dev) c.pool_lines.result
          c.power_on.ensures (c.pool_lines.ensures ∙ sym c.requires.lines)) c.in-Err.ensures.part,
    ))
