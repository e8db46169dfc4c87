-- What only bodies and proofs need beside `Cuts`.
use Rattle.std.specs.Prelude.{◌≡◌, List, [], ◌∷◌, ◌++◌, ◌-◌, ◌≤◌, if◌then◌else◌}
use Rattle.c_lexer.specs.declared.token.Placed.{Placed}
use Rattle.c_lexer.specs.Cuts.{Cut, cut}

-- the cut with these tokens before it
abbrev pub after_tokens : List Placed → Cut → Cut
after_tokens tokens c = record { tokens = tokens ++ c.tokens; ending = c.ending }
