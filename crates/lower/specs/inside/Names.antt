-- What only bodies and proofs need beside `Names`.
use Rattle.std.specs.Prelude.{List, [], ◌∷◌}
use Rattle.c_types.specs.Statements as scopes
use Rattle.lower.specs.Names.{LocalRegister, Variables}

abbrev pub others : List (List LocalRegister) → List (List LocalRegister)
others [] = []
others (l ∷ ls) = ls

-- the scopes around the innermost one
abbrev pub outer_variables : Variables → Variables
outer_variables v = record { scopes = scopes.outer_scopes v.scopes; locals = others v.locals }
