-- What is open after a token of a program, in three numbers, and its weight, which is their sum. A
-- token's own bracket counts as open after an opening one, and no longer after a closing one.
use Rattle.std.specs.Prelude.{ℕ, ◌+◌, List, map}

pub record OpenParts : Type 0 where
  -- the open brackets
  pub brackets : ℕ
  -- the open bodies without braces
  pub bodies : ℕ
  -- the operators so far of the open expressions
  pub operators : ℕ

abbrev pub open_weight : OpenParts → ℕ
open_weight o = o.brackets + o.bodies + o.operators

-- nothing is open after the token
abbrev pub none_open : OpenParts
none_open = record { brackets = 0; bodies = 0; operators = 0 }

-- one bracket is open
abbrev pub one_open : OpenParts
one_open = record { brackets = 1; bodies = 0; operators = 0 }

-- the tokens of a part, with what is open after each, inside one more bracket
abbrev pub in_bracket : List OpenParts → List OpenParts
in_bracket os = map (λ o.
    record { brackets = o.brackets + 1; bodies = o.bodies; operators = o.operators }) os

-- inside one more body without braces
abbrev pub in_body : List OpenParts → List OpenParts
in_body os = map (λ o.
    record { brackets = o.brackets; bodies = o.bodies + 1; operators = o.operators }) os

-- after n more operators of the same expression
abbrev pub so_far : ℕ → List OpenParts → List OpenParts
so_far n os = map (λ o.
    record { brackets = o.brackets; bodies = o.bodies; operators = o.operators + n }) os
