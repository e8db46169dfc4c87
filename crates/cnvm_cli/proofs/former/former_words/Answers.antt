use Rattle.std.proofs.Common.{◌≡◌, List, ℕ, Ok, Err, inl, inr, refl, ap, ◌∙◌, subst}
use Rattle.cnvm_cli.specs.inside.FormerEnds.{RestReadAs, mended_head}
use Rattle.cnvm_cli.proofs.former.former_words.Goals as goal

pub returns-in-Ok-read_rest-clause-told : goal.returns-in-Ok-read_rest-clause-told
returns-in-Ok-read_rest-clause-told g c =
    let old = c.args.old.program in
    let words = c.in-Ok-read_rest.words in
    let same : c.in-Ok.head ≡ mended_head old c.args.head =
    c.in-Ok.ensures.bytes ∙ ap (λ (h : List ℕ). mended_head old h) c.as_slice.ensures in
    inr (
      words,
      subst
          (λ (h : List ℕ). RestReadAs old h (g.I.Source.left c.args.image.now) (Ok words)) same
          c.in-Ok-read_rest.ensures.told,
      c.former_pool.ensures.told,
    )

pub returns-in-Err-clause-told : goal.returns-in-Err-clause-told
returns-in-Err-clause-told g c =
    let old = c.args.old.program in
    let same : c.in-Ok.head ≡ mended_head old c.args.head =
    c.in-Ok.ensures.bytes ∙ ap (λ (h : List ℕ). mended_head old h) c.as_slice.ensures in
    inl (
      c.in-Err.why,
      refl,
      subst
          (λ (h : List ℕ). RestReadAs old h (g.I.Source.left c.args.image.now) (Err c.in-Err.why))
          same c.in-Err.ensures.told,
    )
