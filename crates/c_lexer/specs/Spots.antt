-- What the bytes before a place determine: its line, counted from 1 by LF, their number, and
-- whether only spaces and tabs come before the place on its line.
use Rattle.std.specs.Prelude.{ℕ, [], ◌∷◌, ◌+◌, true, ◌&&◌, ◌==◌, if◌then◌else◌}
use Rattle.c_lexer.specs.declared.spot.Spot.{Spot}
use Rattle.c_lexer.specs.Bytes.{is_indent}

abbrev pub text_start : Spot
text_start = record { line = 1; at = 0; fresh = true }

abbrev pub past_byte : Spot → ℕ → Spot
past_byte spot b =
    if b == 10 then record { line = spot.line + 1; at = spot.at + 1; fresh = true }
    else record { line = spot.line; at = spot.at + 1; fresh = spot.fresh && is_indent b }
