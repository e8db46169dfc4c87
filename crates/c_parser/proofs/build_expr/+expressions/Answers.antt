use Rattle.std.proofs.Common.{◌≡◌, ◌≢◌, ◌<◌, ◌+◌, ◌∙◌, length, refl, ap, arith, rules}
use Rattle.c_tree.specs.declared.kind.Kind.TheVariants as kind
use Rattle.c_tree.specs.ExprTree.{arguments_in}
use Rattle.c_tree.specs.Kinds.{kind_at}
use Rattle.c_parser.proofs.FixesExpr.{led_expr, chain_begins, chain_steps, cast_word, parts_field}
use Rattle.c_parser.proofs.FixesExpr.{parts_element, parts_none, primary_null, primary_variable}
use Rattle.c_parser.proofs.FixesExpr.{primary_root, primary_new, primary_brackets, arguments_begin}
use Rattle.c_parser.proofs.build_expr.+expressions.Goals as goal

pub arguments-others-init : goal.arguments-others-init
arguments-others-init t c =
    let not : kind_at c.args.tokens.now.tokens c.args.at ≢ kind.CloseRound = search rules in
    record {
      stays = c.in_ok-value.ensures.stays;
      leads = arguments_begin _ _ _ _ _ _ not c.in_ok-value.ensures.fixes
          (ap arguments_in c.new-all.ensures.items) c.in_ok-add_argument.ensures;
    }

pub binary-loop-op-init : goal.binary-loop-op-init
binary-loop-op-init t c = record {
  stays = c.in_ok-first.ensures.stays;
  leads = chain_begins _ _ _ _ _ c.if-level-eq0.false c.in_ok-first.ensures.fixes;
}

pub binary-loop-op-preserved : goal.binary-loop-op-preserved
binary-loop-op-preserved t c = record {
  stays = omega (arith, c.in_ok-right.ensures.stays, c.place_after.ensures.stays);
  leads =
      chain_steps _ _ _ _ _ _ _ _ _ _ c.if-level-eq0.false c.loop-op.invariant.leads
      c.in-Some.ensures.op c.place_after.ensures.moves c.in_ok-right.ensures.fixes
      c.in_ok-left.ensures;
}

pub parts-returns-in_ok-base-in-Arrow-clause-fixes :
    goal.parts-returns-in_ok-base-in-Arrow-clause-fixes
parts-returns-in_ok-base-in-Arrow-clause-fixes t c =
    led_expr _ _ _ c.parts.ensures.fixes
    (parts_field _ _ _ _ _ _ _ c.in-Arrow.ensures.value c.place_after-place.ensures.moves
    c.place_after.ensures.moves c.in_ok-field-in-Arrow.ensures c.in_ok-base-in-Arrow.ensures)

pub parts-returns-in_ok-base-in-OpenSquare-clause-fixes :
    goal.parts-returns-in_ok-base-in-OpenSquare-clause-fixes
parts-returns-in_ok-base-in-OpenSquare-clause-fixes t c =
    led_expr _ _ _ c.parts-in-OpenSquare.ensures.fixes
    (parts_element _ _ _ _ _ _ _ _ c.in-OpenSquare.ensures.value
    c.place_after-in-OpenSquare.ensures.moves c.in_ok-index-in-OpenSquare.ensures.fixes
    c.place_after-in-OpenSquare-2.ensures.moves c.in_ok-base-in-OpenSquare.ensures)

pub parts-returns-in_default : goal.parts-returns-in_default
parts-returns-in_default t c = record {
  stays = omega arith;
  fixes = parts_none _ _ _ (λ h. c.in_default.not-Arrow (c.kind_at.ensures.value ∙ h))
      (λ h. c.in_default.not-OpenSquare (c.kind_at.ensures.value ∙ h));
}

pub primary-returns-else-eq-clause-fixes : goal.primary-returns-else-eq-clause-fixes
primary-returns-else-eq-clause-fixes t c =
    let not : kind_at c.args.tokens.now.tokens c.place_after-next.result ≢ kind.OpenRound =
    search rules in
    primary_variable _ _ _ _ _ c.in-Name.ensures.value c.place_after-next.ensures.moves not
    c.in_ok-name-in-Name.ensures refl

pub primary-returns-in_ok-name-in-Root-clause-fixes :
    goal.primary-returns-in_ok-name-in-Root-clause-fixes
primary-returns-in_ok-name-in-Root-clause-fixes t c =
    primary_root _ _ _ _ _ _ _ c.in-Root.ensures.value c.place_after-next.ensures.moves
    c.place_after-place.ensures.moves c.place_after-in-Root.ensures.moves
    c.in_ok-name-in-Root.ensures refl

pub primary-returns-in_ok-name-in-PmNew-clause-fixes :
    goal.primary-returns-in_ok-name-in-PmNew-clause-fixes
primary-returns-in_ok-name-in-PmNew-clause-fixes t c =
    primary_new _ _ _ _ _ _ _ _ _ c.in-PmNew.ensures.value c.place_after-next.ensures.moves
    c.place_after-in-PmNew.ensures.moves c.place_after-place-in-PmNew.ensures.moves
    c.place_after-in-PmNew-2.ensures.moves c.place_after-end.ensures.moves
    c.in_ok-name-in-PmNew.ensures refl

pub primary-returns-in_ok-inner-in-OpenRound-clause-fixes :
    goal.primary-returns-in_ok-inner-in-OpenRound-clause-fixes
primary-returns-in_ok-inner-in-OpenRound-clause-fixes t c =
    primary_brackets _ _ _ _ _ _ c.in-OpenRound.ensures.value c.place_after-next.ensures.moves
    c.in_ok-inner-in-OpenRound.ensures.fixes c.place_after-in-OpenRound.ensures.moves

pub primary-returns-in_default : goal.primary-returns-in_default
primary-returns-in_default t c = record {
  stays = c.place_after-next.ensures.stays;
  fixes =
      primary_null _ _ _ _ c.kind_at.ensures.value c.place_after-next.ensures.moves
      c.in_default.not-Number c.in_default.not-Name c.in_default.not-Root c.in_default.not-PmNew
      c.in_default.not-OpenRound;
}

pub unary-cast-requires : goal.unary-cast-requires
unary-cast-requires t c =
    let inside : c.args.at + 1 < length c.args.tokens.now.tokens = search rules in
    let here : c.place_after-in-Some-cast_at.result ≡ c.args.at + 1 =
    c.place_after-in-Some-cast_at.ensures.moves (omega (arith, inside)) in (
      search (rules, inside, here),
      (
        cast_word _ _ _ _ c.in-Some-cast_at.ensures.int c.place_after-in-Some-cast_at.ensures.moves,
        omega (arith, inside, here),
      ),
    )
