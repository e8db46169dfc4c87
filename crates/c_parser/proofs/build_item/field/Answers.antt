use Rattle.std.proofs.Common.{◌≡◌, ◌≢◌, ◌∙◌, rules}
use Rattle.std.specs.Prelude.{FitsSigned}
use Rattle.std.specs.Int.{w64}
use Rattle.std.proofs.lemmas.Int.{to_z-of_z}
use Rattle.c_tree.specs.declared.kind.Kind.TheVariants as kind
use Rattle.c_tree.specs.Kinds.{kind_at}
use Rattle.c_parser.proofs.FixesItem.{field_single, field_array}
use Rattle.c_parser.proofs.build_item.field.Goals as goal

pub returns-then-eq-clause-fixes : goal.returns-then-eq-clause-fixes
returns-then-eq-clause-fixes c =
    let opens : kind_at c.args.tokens.now.tokens c.place_after-next.result ≡ kind.OpenSquare =
    search rules in
    let fits : FitsSigned w64 c.value_at.result = search rules in
    field_array _ _ _ _ _ _ _ _ _ _ _ c.in_ok-ty.ensures.fixes c.in_ok-name.ensures
    c.place_after-next.ensures.moves opens c.place_after-number.ensures.moves
    (to_z-of_z w64 c.value_at.result fits ∙ c.value_at.ensures) c.place_after.ensures.moves
    c.place_after-then-eq.ensures.moves c.place_after-end.ensures.moves

pub returns-clause-fixes : goal.returns-clause-fixes
returns-clause-fixes c =
    let not : kind_at c.args.tokens.now.tokens c.place_after-next.result ≢ kind.OpenSquare =
    search rules in
    field_single _ _ _ _ _ _ _ c.in_ok-ty.ensures.fixes c.in_ok-name.ensures
    c.place_after-next.ensures.moves not c.place_after-2.ensures.moves
