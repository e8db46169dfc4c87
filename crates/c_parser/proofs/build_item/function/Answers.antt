use Rattle.c_parser.proofs.FixesItem.{function_read}
use Rattle.c_parser.proofs.build_item.function.Goals as goal

pub returns-clause-fixes : goal.returns-clause-fixes
returns-clause-fixes c =
    function_read _ _ _ _ _ _ _ _ _ _ _ _ _ _ c.in_ok-result_type.ensures.fixes c.in_ok-name.ensures
    c.place_after-open.ensures.moves c.place_after.ensures.moves
    c.in_ok-parameters.ensures.fixes c.place_after-2.ensures.moves c.in_ok-body.ensures.fixes
