use Rattle.std.proofs.Common.{◌++◌, ◌∙◌, List, ℕ, ap, map}
use Rattle.c_fragment.specs.Text.{functions_text}
use Rattle.c_fragment.specs.Translation.{c_function}
use Rattle.c_file.specs.declared.program.TheConstants.{FUNCTIONS, RUN_BEGINS}
use Rattle.c_file.specs.Program.{cases_from, code_text}
use Rattle.c_file.proofs.Added.{step}
use Rattle.c_file.proofs.program.push_code.Goals as goal

pub returns : goal.returns
unfolding code_text
returns c =
    let printed = c.in_ok-push-2.ensures.ok
    ∙ ap (λ (l : List ℕ). c.push.new.self ++ l) (c.as_str.ensures ∙ c.in_ok-code.ensures) in
    step c.args.text.now _ _ (FUNCTIONS.now) _
    c.in_ok-push.ensures.ok
    (step c.push.new.self _ _
    (functions_text c.args.prefix.now (map c_function c.args.functions.now)) _
    printed
    (step c.push-2.new.self _ _ (RUN_BEGINS.now) _
    c.in_ok-push-3.ensures.ok
    (step c.push-3.new.self _ _ (cases_from 0 c.args.entries.now) _
    c.in_ok-push_cases.ensures
    (c.in_ok-push-4.ensures.ok))))
