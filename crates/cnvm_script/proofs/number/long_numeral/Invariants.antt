use Rattle.std.proofs.Common.{◌≡◌, ◌<◌, ◌^◌, drop}
use Rattle.std.specs.List.{list_all}
use Rattle.std.specs.Char.{is_ascii_digit}
use Rattle.std.specs.Str.Parse.{digits_value_after}
use Rattle.cnvm_script.proofs.number.long_numeral.Given as goal

abbrev pub invariant-loop-byte : goal.invariant-loop-byte
invariant-loop-byte l = (l.value < 2 ^ 64)
    × (list_all is_ascii_digit (drop l.byte-index l.word) ≡ list_all is_ascii_digit l.word)
    × (digits_value_after 10 l.value (drop l.byte-index l.word) ≡ digits_value_after 10 0 l.word)
