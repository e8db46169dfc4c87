use Rattle.std.proofs.Common.{inl, inr, sym, ◌∙◌}
use Rattle.cnvm_cli.proofs.former.read_other.Goals as goal

pub returns-then-is_between-clause-told : goal.returns-then-is_between-clause-told
returns-then-is_between-clause-told g c =
    inr (
      c.in-Ok.old,
      c.in-Ok.ensures.told,
      inr (sym c.is_between.ensures ∙ c.if-is_between.true, c.former_words.ensures.told),
    )

pub returns-else-is_between-clause-told : goal.returns-else-is_between-clause-told
returns-else-is_between-clause-told g c =
    inr (
      c.in-Ok.old,
      c.in-Ok.ensures.told,
      inl (sym c.is_between.ensures ∙ c.if-is_between.false, c.own_words.ensures.told),
    )
