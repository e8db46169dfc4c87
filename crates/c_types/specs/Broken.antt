-- Broken rules, each at the place of a token. Of several, the one at the least token is reported,
-- and at one token the one with the least number. The limits are one rule, ordered as in their
-- list.
use Rattle.std.specs.Prelude.{ℕ, List, [], ◌∷◌, Bool, ◌&&◌, ◌||◌, nat_eq, nat_lt, if◌then◌else◌}
use Rattle.std.specs.Prelude.{Option, None, Some}
use Rattle.c_types.specs.declared.fault.LimitKind.{LimitKind}
use Rattle.c_types.specs.declared.fault.LimitKind.TheVariants as limit
use Rattle.c_types.specs.declared.broken.Rule.{Rule}
use Rattle.c_types.specs.declared.broken.Rule.TheVariants.{UnknownName, Twice, Mismatch}
use Rattle.c_types.specs.declared.broken.Rule.TheVariants.{NotAssignable, Arity, TooBig, NoRoot}
use Rattle.c_types.specs.declared.broken.Rule.TheVariants.{BadTx}
use Rattle.c_types.specs.declared.broken.Broken.{Broken}

-- the number of a rule in the table of typing rules
abbrev pub rule_number : Rule → ℕ
rule_number UnknownName = 1
rule_number Twice = 2
rule_number Mismatch = 3
rule_number NotAssignable = 4
rule_number Arity = 5
rule_number (TooBig limit value) = 6
rule_number NoRoot = 7
rule_number BadTx = 8

-- the place of a limit in the table of limits
abbrev pub limit_number : LimitKind → ℕ
limit_number limit.Array = 1
limit_number limit.Struct = 2
limit_number limit.Root = 3
limit_number limit.Pointer = 4
limit_number limit.Structs = 5
limit_number limit.Functions = 6
limit_number limit.Parameters = 7

-- that of the limit that a rule names; 0 for a rule that names none
abbrev pub limit_in : Rule → ℕ
limit_in UnknownName = 0
limit_in Twice = 0
limit_in Mismatch = 0
limit_in NotAssignable = 0
limit_in Arity = 0
limit_in (TooBig limit value) = limit_number limit
limit_in NoRoot = 0
limit_in BadTx = 0

-- at one token the rule with the less number goes first, and of two limits the one listed first
abbrev pub rule_before : Rule → Rule → Bool
rule_before a b = nat_lt (rule_number a) (rule_number b)
    || (nat_eq (rule_number a) (rule_number b) && nat_lt (limit_in a) (limit_in b))

-- the rule at the less token goes first
abbrev pub is_before : Broken → Broken → Bool
is_before a b = nat_lt a.place b.place || (nat_eq a.place b.place && rule_before a.rule b.rule)

-- the lesser of the best so far and a new one
abbrev pub lesser : Option Broken → Broken → Option Broken
lesser None b = Some b
lesser (Some a) b = if is_before b a then Some b else Some a

-- the rule to report, of the one so far, if any, and a list of more
abbrev pub least_from : Option Broken → List Broken → Option Broken
least_from first [] = first
least_from first (b ∷ bs) = least_from (lesser first b) bs

-- the least of the broken rules, which is the one reported
abbrev pub least_broken : List Broken → Option Broken
least_broken bs = least_from None bs

-- the rule is broken at that place
abbrev pub broken_at : ℕ → Rule → List Broken
broken_at place rule = record { place = place; rule = rule } ∷ []

-- the rule is broken at that place unless this holds
abbrev pub unless : Bool → ℕ → Rule → List Broken
unless holds place rule = if holds then [] else broken_at place rule
