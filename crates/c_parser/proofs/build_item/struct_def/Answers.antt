use Rattle.c_parser.proofs.FixesItem.{struct_read}
use Rattle.c_parser.proofs.build_item.struct_def.Goals as goal

pub returns-clause-fixes : goal.returns-clause-fixes
returns-clause-fixes c =
    struct_read _ _ _ _ _ _ _ _ _ _ c.place_after-place.ensures.moves c.in_ok-name.ensures
    c.place_after-open.ensures.moves c.place_after.ensures.moves c.in_ok-fields.ensures.fixes
    c.place_after-2.ensures.moves c.place_after-end.ensures.moves
