use Rattle.std.proofs.Common.{◌++◌, ◌∙◌, List, ℤ, ap, flat_map}
use Rattle.c_file.specs.declared.program.TheConstants.{DIGEST}
use Rattle.c_file.specs.Program.{digest_item, digest_line}
use Rattle.c_file.proofs.Added.{step}
use Rattle.c_file.proofs.program.push_digest.Goals as goal

pub returns : goal.returns
unfolding digest_line
returns c =
    let words = c.in_ok-push_digest_words.ensures
    ∙ ap (λ (l : List ℤ). c.push.new.self ++ flat_map digest_item l) c.as_slice.ensures in
    step c.args.text.now _ _ (DIGEST.now) _
    c.in_ok-push.ensures.ok
    (step c.push.new.self _ _ (flat_map digest_item c.args.digest.now) _
    words
    (c.in_ok-push-2.ensures.ok))
