use Rattle.std.specs.Prelude.{codes}
use Rattle.c_file.specs.declared.pieces.Wording.TheVariants.{Argument}
use Rattle.c_file.specs.declared.outside.TheConstants.{WORDS}
use Rattle.c_file.specs.Pieces.{worded_from, entry_head}
use Rattle.c_file.specs.File.{entry_defined}
use Rattle.c_file.proofs.Added.{step}
use Rattle.c_file.proofs.outside.push_entry.Goals as goal

pub returns : goal.returns
unfolding entry_defined
returns c =
    step c.args.text.now _ _ (codes "\n") _
    c.in_ok-push.ensures.ok
    (step c.push.new.self _ _ (entry_head c.args.prefix.now c.args.entry.now) _
    c.in_ok-push_head.ensures
    (step c.push_head.new.text _ _ (WORDS.now) _
    c.in_ok-push-2.ensures.ok
    (step c.push-2.new.self _ _ (worded_from Argument 0 c.args.entry.now.parameters) _
    c.in_ok-push_all.ensures
    (c.in_ok-push_call.ensures))))
