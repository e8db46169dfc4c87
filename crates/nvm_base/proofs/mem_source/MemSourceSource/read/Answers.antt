use Rattle.std.proofs.Common.{arith}
use Rattle.std.proofs.lemmas.Grind.{common_steps}
use Rattle.nvm_base.proofs.Pieces.{left_copied}
use Rattle.nvm_base.proofs.mem_source.MemSourceSource.read.Goals as goal

-- src/mem_source.rt:61:5
pub returns-clause-bytes : goal.returns-clause-bytes
returns-clause-bytes c =
    left_copied c.args.self.now.left c.args.piece.now c.copy_from_slice.new.self
    c.self.inside.bytes.items
    c.self.inside.at c.min-count.result
    (grind (arith, common_steps))
    (grind (arith, common_steps))
    (grind (arith, common_steps))
