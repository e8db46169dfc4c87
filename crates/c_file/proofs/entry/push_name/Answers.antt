use Rattle.std.specs.Prelude.{codes}
use Rattle.c_file.specs.Pieces.{entry_name}
use Rattle.c_file.proofs.Added.{step}
use Rattle.c_file.proofs.entry.push_name.Goals as goal

pub returns : goal.returns
unfolding entry_name
returns c =
    step c.args.text.now _ _ (codes "struct cnvm_answer ") _
    c.in_ok-push.ensures.ok
    (step c.push.new.self _ _ (c.args.prefix.now) _
    c.in_ok-push-2.ensures.ok
    (step c.push-2.new.self _ _ (codes "_") _
    c.in_ok-push-3.ensures.ok
    (step c.push-3.new.self _ _ (c.args.name.now) _
    c.in_ok-push-4.ensures.ok
    (c.in_ok-push-5.ensures.ok))))
