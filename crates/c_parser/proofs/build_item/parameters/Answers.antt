use Rattle.std.proofs.Common.{map, ap}
use Rattle.c_tree.specs.ItemTree.{parameter_of}
use Rattle.c_parser.proofs.FixesItem.{signature_empty, signature_of_void}
use Rattle.c_parser.proofs.build_item.parameters.Goals as goal

pub returns-in-CloseRound-clause-fixes : goal.returns-in-CloseRound-clause-fixes
returns-in-CloseRound-clause-fixes c =
    signature_empty _ _ _ _ c.in-CloseRound.ensures.value c.place_after.ensures.moves
    (ap (map parameter_of) c.new.ensures.items)

pub returns-in-Void-clause-fixes : goal.returns-in-Void-clause-fixes
returns-in-Void-clause-fixes c =
    signature_of_void _ _ _ _ _ c.in-Void.ensures.value c.place_after-in-Void.ensures.moves
    c.place_after-in-Void-2.ensures.moves (ap (map parameter_of) c.new-in-Void.ensures.items)
