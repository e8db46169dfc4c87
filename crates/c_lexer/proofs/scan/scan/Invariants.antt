-- The cut of the remaining bytes, after the tokens kept so far, is the cut of the text.
use Rattle.std.proofs.Common.{◌≡◌, ◌+◌, ◌≤◌, length}
use Rattle.c_lexer.specs.Cuts.{cut_left, cut}
use Rattle.c_lexer.specs.inside.Cuts.{after_tokens}
use Rattle.c_lexer.proofs.scan.scan.Given as goal

abbrev pub invariant-loop-left : goal.invariant-loop-left
invariant-loop-left l = record {
  leads : after_tokens l.all.items (cut_left 0 l.spot l.left) ≡ cut l.text;
  room : length l.all.items ≤ 16384;
  lines : l.spot.line + length l.left ≤ 1 + length l.text;
  bytes : l.spot.at + length l.left ≡ length l.text;
  small : length l.text ≤ 262144;
}

abbrev pub decreases-loop-left : goal.decreases-loop-left
decreases-loop-left l = length l.left
