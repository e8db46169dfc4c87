use Rattle.std.proofs.Common.{◌≡◌, false}
use Rattle.pool_layout.specs.Bytes.{word_in}
use Rattle.pool_layout.specs.Content.{is_valid}
use Rattle.pool_layout.proofs.Kept.{leading_to}
use Rattle.pool_layout.proofs.rules.Rules.leading.Goals as goal

pub returns-then-not-is_valid : goal.returns-then-not-is_valid
returns-then-not-is_valid c =
    let stop : is_valid c.args.self.now.layout (word_in c.args.bytes.now) c.loop-i.i ≡ false = cc in
    leading_to c.args.self.now.layout (word_in c.args.bytes.now) c.loop-i.i c.loop-i.invariant stop
