use Rattle.std.proofs.Common.{◌++◌, ◌∙◌, Bool, List, ℕ, ap}
use Rattle.std.specs.Prelude.{codes}
use Rattle.c_file.specs.Pieces.{entry_name, entry_head, parameters_from}
use Rattle.c_file.proofs.Added.{step}
use Rattle.c_file.proofs.entry.push_head.Goals as goal

pub returns : goal.returns
unfolding entry_head
returns c =
    let named = c.in_ok-push_name.ensures
    ∙ ap (λ (l : List ℕ). c.args.text.now ++ entry_name c.args.prefix.now l) c.as_str.ensures in
    let listed = c.in_ok-push_parameters.ensures
    ∙ ap (λ (us : List Bool). c.push-2.new.self ++ parameters_from 0 us) c.as_slice.ensures in
    step c.args.text.now _ _ (entry_name c.args.prefix.now c.args.entry.now.name) _
    named
    (step c.push_name.new.text _ _ (c.args.prefix.now) _
    c.in_ok-push.ensures.ok
    (step c.push.new.self _ _ (codes "_pool *pool") _
    c.in_ok-push-2.ensures.ok
    (step c.push-2.new.self _ _ (parameters_from 0 c.args.entry.now.types) _
    listed
    (c.in_ok-push-3.ensures.ok))))
