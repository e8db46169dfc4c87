use Rattle.std.specs.Prelude.{codes}
use Rattle.c_file.specs.Program.{number_line, counts_text}
use Rattle.c_file.proofs.Added.{step}
use Rattle.c_file.proofs.program.push_counts.Goals as goal

pub returns : goal.returns
unfolding counts_text
returns c =
    step c.args.text.now _ _ (number_line (codes "    CN_TRANSACTIONS = ") c.args.txs) _
    c.in_ok-push_number.ensures
    (step c.push_number.new.text _ _ (number_line (codes "    CN_STRUCTS = ") c.args.structs) _
    c.in_ok-push_number-2.ensures
    (step c.push_number-2.new.text _ _
    (number_line (codes "    CN_REGISTERS = ") c.args.registers) _
    c.in_ok-push_number-3.ensures
    (c.in_ok-push.ensures.ok)))
