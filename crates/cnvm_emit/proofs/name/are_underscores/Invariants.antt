use Rattle.std.proofs.Common.{◌≡◌, drop}
use Rattle.std.specs.List.{list_all}
use Rattle.cnvm_emit.specs.Name.{is_underscore}
use Rattle.cnvm_emit.proofs.name.are_underscores.Given as goal

abbrev pub invariant-loop-byte : goal.invariant-loop-byte
invariant-loop-byte l =
    list_all is_underscore (drop l.byte-index l.bytes) ≡ list_all is_underscore l.bytes
