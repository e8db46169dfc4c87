use Rattle.std.specs.Prelude.{codes}
use Rattle.c_file.specs.Program.{number_line, five_sizes}
use Rattle.c_file.proofs.Added.{step}
use Rattle.c_file.proofs.program.push_five.Goals as goal

pub returns : goal.returns
unfolding five_sizes
returns c =
    step c.args.text.now _ _ (number_line (codes "    CN_SLOTS = ") c.args.slots) _
    c.in_ok-push_number.ensures
    (step c.push_number.new.text _ _ (number_line (codes "    CN_LOG = ") c.args.records) _
    c.in_ok-push_number-2.ensures
    (step c.push_number-2.new.text _ _ (number_line (codes "    CN_ROOT = ") c.args.root_words) _
    c.in_ok-push_number-3.ensures
    (step c.push_number-3.new.text _ _ (number_line (codes "    CN_SLOT = ") c.args.slot_words) _
    c.in_ok-push_number-4.ensures
    (c.in_ok-push_number-5.ensures))))
