use Rattle.std.proofs.Common.{refl}
use Rattle.walk_maker.specs.WhyText.{says_past_free}
use Rattle.walk_maker.proofs.text.says_past_free.Goals as goal

pub returns-in-Always : goal.returns-in-Always
unfolding says_past_free
returns-in-Always c = rw c.in-Always.is refl

pub returns-in-PastFree : goal.returns-in-PastFree
unfolding says_past_free
returns-in-PastFree c = rw c.in-PastFree.is refl

pub returns-in-Clobber : goal.returns-in-Clobber
unfolding says_past_free
returns-in-Clobber c = rw c.in-Clobber.is refl
