use Rattle.codegen.proofs.Written.{object_found}
use Rattle.codegen.proofs.addresses.push_object.Goals as goal

pub returns-in_ok-push_at-in-Some-clause-code : goal.returns-in_ok-push_at-in-Some-clause-code
returns-in_ok-push_at-in-Some-clause-code c =
    object_found c.args.piece.now c.push_pointer_check.new.piece c.push_at.new.piece
    c.args.sizes.now c.args.base c.args.kind c.args.reach c.in-Some.reach
    c.in-Some.is c.in_ok-push_pointer_check-in-Some.ensures c.in_ok-push_at-in-Some.ensures
