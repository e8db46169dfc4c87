use Rattle.cnvm_cli.specs.RefusalText.{word_text}
use Rattle.cnvm_cli.proofs.texts.Digits.{appended_both}
use Rattle.cnvm_cli.proofs.refused.push_word.Goals as goal

pub returns : goal.returns
unfolding word_text
returns c = appended_both _ _ _ _ _ c.in_ok-push_half.ensures c.in_ok-push_half-2.ensures
