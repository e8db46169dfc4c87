-- Passing the rest of the piece from here gives the result of passing the whole piece from the
-- start.
use Rattle.std.proofs.Common.{◌≡◌, ◌+◌, ◌≤◌, drop}
use Rattle.c_lexer.specs.inside.Spots.{spot_past}
use Rattle.c_lexer.proofs.spot.Spot.pass.Given as goal

abbrev pub invariant-loop-byte : goal.invariant-loop-byte
invariant-loop-byte l = record {
  leads : spot_past l.self (drop l.byte-index l.piece) ≡ spot_past l.initial.self l.piece;
  line : l.self.line ≤ l.initial.self.line + l.byte-index;
  at : l.self.at ≡ l.initial.self.at + l.byte-index;
}
