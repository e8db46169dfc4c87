-- Passing the rest of the bytes from here gives the result of passing them all.
use Rattle.std.proofs.Common.{◌≡◌, ◌+◌, ◌≤◌, drop}
use Rattle.plain_notes.specs.Place.{past_bytes, text_start}
use Rattle.plain_notes.proofs.place.past_bytes.Given as goal

abbrev pub invariant-loop-byte : goal.invariant-loop-byte
invariant-loop-byte l = record {
  leads : past_bytes l.place (drop l.byte-index l.bytes) ≡ past_bytes text_start l.bytes;
  line : l.place.line ≤ 1 + l.byte-index;
  column : l.place.column ≤ 1 + l.byte-index;
}
