use Rattle.std.proofs.Common.{List, ℕ, inl, inr, refl, sym, ◌∙◌, subst}
use Rattle.session_run.specs.declared.status.Status.TheVariants as status
use Rattle.session_run.specs.Told.{TellsAs}
use Rattle.cnvm_cli.specs.Former.{shape_line}
use Rattle.cnvm_cli.proofs.former.take_over.Goals as goal

pub returns-in-Some-clause-over : goal.returns-in-Some-clause-over
returns-in-Some-clause-over g c =
    let out = g.K.Sink.written c.args.out.now in
    let told = g.K.Sink.written c.tell.new.out in
    inr (
      sym c.is_recovered.ensures ∙ c.if-not-is_recovered.false,
      inl (
        c.in-Some.name,
        c.in-Some.is,
        subst (λ (name : List ℕ). TellsAs status.Image (shape_line name) c.tell.result out told)
            c.as_str.ensures
            (c.tell.ensures.tells (shape_line c.as_str.result.now) c.shape_line.ensures),
        refl,
      ),
    )
