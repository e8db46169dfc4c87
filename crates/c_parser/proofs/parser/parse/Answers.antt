use Rattle.std.proofs.Common.{ℕ, ◌≡◌, ◌+◌, sym, ap, ◌∙◌, subst}
use Rattle.c_parser.specs.Exact.{NoneBegins, SomeBegins, SomeSinks}
use Rattle.c_parser.specs.declared.fault.ParseFault.TheVariants.{Syntax, TooDeep}
use Rattle.c_parser.proofs.Laws.{light_where_accepted, none_at}
use Rattle.c_parser.proofs.Viable.{some_at, sinks_at}
use Rattle.c_parser.proofs.Accepting.{spelled_where_accepted, answered_at, through_err, gives_err}
use Rattle.c_parser.proofs.Accepting.{spelled_by}
use Rattle.c_tree.specs.ItemTree.{items_in}
use Rattle.c_tree.specs.ItemSpelling.{SpellsProgram}
use Rattle.c_parser.proofs.parser.parse.Goals as goal

pub returns-in_err-judge-clause-only : goal.returns-in_err-judge-clause-only
returns-in_err-judge-clause-only c = λ xs spells light.
    gives_err c.from_residual.result xs _ c.from_residual.ensures.1
    (answered_at c.args.tokens.now.tokens _ c.in_err-judge.ensures.refused xs spells light)

pub returns-in_err-judge-clause-none : goal.returns-in_err-judge-clause-none
returns-in_err-judge-clause-none c =
    through_err c.from_residual.result _ (λ f. (t : ℕ) → f ≡ Syntax t
    → NoneBegins c.args.tokens.now.tokens (t + 1)) c.from_residual.ensures.1
    (none_at c.args.tokens.now.tokens _ c.in_err-judge.ensures.refused)

pub returns-in_err-judge-clause-some : goal.returns-in_err-judge-clause-some
returns-in_err-judge-clause-some c =
    through_err c.from_residual.result _ (λ f. (t : ℕ) → f ≡ Syntax t
    → SomeBegins c.args.tokens.now.tokens t) c.from_residual.ensures.1
    (some_at c.args.tokens.now.tokens _ c.in_err-judge.ensures.refused)

pub returns-in_err-judge-clause-deep : goal.returns-in_err-judge-clause-deep
returns-in_err-judge-clause-deep c =
    through_err c.from_residual.result _ (λ f. (t : ℕ) → f ≡ TooDeep t
    → SomeSinks c.args.tokens.now.tokens t) c.from_residual.ensures.1
    (sinks_at c.args.tokens.now.tokens _ c.in_err-judge.ensures.refused)

pub returns-clause-found : goal.returns-clause-found
returns-clause-found c =
    subst (λ all. SpellsProgram c.args.tokens.now.tokens (items_in all))
    (sym c.in_ok-new.ensures.items)
    (spelled_by c.args.tokens.now.tokens c.in_ok-items.items.items
    (spelled_where_accepted c.args.tokens.now.tokens c.in_ok-judge.ensures.accepted)
    c.in_ok-items.ensures.spelled)

pub returns-clause-only : goal.returns-clause-only
returns-clause-only c = λ xs spells light. ap items_in c.in_ok-new.ensures.items
    ∙ c.in_ok-items.ensures.spelled xs spells

pub returns-clause-light : goal.returns-clause-light
returns-clause-light c = light_where_accepted c.args.tokens.now.tokens
    c.in_ok-judge.ensures.accepted
