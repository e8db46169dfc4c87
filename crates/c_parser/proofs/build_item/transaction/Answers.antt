use Rattle.c_parser.proofs.FixesItem.{mark_plain, mark_abort, mark_const}
use Rattle.c_parser.proofs.build_item.transaction.Goals as goal

pub returns-in-Abort-clause-fixes : goal.returns-in-Abort-clause-fixes
returns-in-Abort-clause-fixes c =
    mark_abort _ _ _ _ c.place_after-place.ensures.moves c.in-Abort.ensures.value
    c.place_after.ensures.moves

pub returns-in-Const-clause-fixes : goal.returns-in-Const-clause-fixes
returns-in-Const-clause-fixes c =
    mark_const _ _ _ _ c.place_after-place.ensures.moves c.in-Const.ensures.value
    c.place_after-in-Const.ensures.moves

pub returns-in_default-clause-fixes : goal.returns-in_default-clause-fixes
returns-in_default-clause-fixes c =
    mark_plain _ _ _ _ c.place_after-place.ensures.moves c.kind_at.ensures.value
    c.in_default.not-Abort c.in_default.not-Const
