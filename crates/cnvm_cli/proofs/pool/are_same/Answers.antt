use Rattle.std.proofs.Common.{◌≡◌, true, false, sym, ◌∙◌}
use Rattle.std.specs.Cmp.Lexicographic.{pointwise_decides}
use Rattle.std.proofs.lemmas.Bool.{false≢true}
use Rattle.std.proofs.lemmas.Bool.Decides.{Decides-int_eq}
use Rattle.cnvm_cli.proofs.pool.are_same.Goals as goal

pub returns-clause-same : goal.returns-clause-same
returns-clause-same c = λ (e : c.eq.result ≡ true).
    (pointwise_decides Decides-int_eq c.args.held.now c.args.given.now).0
    (sym c.eq.ensures ∙ e)

pub returns-clause-other : goal.returns-clause-other
returns-clause-other c = λ (e : c.eq.result ≡ false) same. false≢true
    (sym e ∙ c.eq.ensures
    ∙ (pointwise_decides Decides-int_eq c.args.held.now c.args.given.now).1 same)
