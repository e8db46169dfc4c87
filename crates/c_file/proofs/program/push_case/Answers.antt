use Rattle.std.proofs.Common.{◌+◌}
use Rattle.c_file.specs.declared.pieces.Wording.TheVariants.{Element}
use Rattle.c_file.specs.Pieces.{worded_from}
use Rattle.c_file.specs.Program.{case_head, case_text}
use Rattle.c_file.proofs.Added.{step}
use Rattle.c_file.proofs.program.push_case.Goals as goal

pub returns : goal.returns
unfolding case_text
returns c =
    step c.args.text.now _ _ (case_head (c.args.place + 1) c.args.entry.now.function) _
    c.in_ok-push_case_head.ensures
    (step c.push_case_head.new.text _ _ (worded_from Element 0 c.args.entry.now.parameters) _
    c.in_ok-push_all.ensures
    (c.in_ok-push.ensures.ok))
