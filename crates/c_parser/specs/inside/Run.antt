-- The run over a list of tokens: which token is refused, and which one is too deep. The weight of a
-- token is that of what is open after it, so a closing bracket doesn't count its own pair.
use Rattle.std.specs.Prelude.{ℕ, ◌+◌, ◌≡◌, List, [], ◌∷◌, Option, Some, None, Bool, true, false}
use Rattle.std.specs.Prelude.{nat_lt, drop}
use Rattle.c_lexer.specs.declared.token.Placed.{Placed}
use Rattle.c_parser.specs.declared.fault.ParseFault.{ParseFault}
use Rattle.c_parser.specs.declared.fault.ParseFault.TheVariants as fault
use Rattle.c_tree.specs.declared.kind.Kind.TheVariants as kind
use Rattle.c_parser.specs.declared.want.Want.{Want}
use Rattle.c_tree.specs.Kinds.{token_kind}
use Rattle.c_parser.specs.inside.Wants.{parser_step}
use Rattle.c_parser.specs.inside.Stacks.{weight}

pub data Verdict : Type 0 where
  Accepted : Verdict
  Refused : ℕ → Verdict
  Deep : ℕ → Verdict

-- the verdict that the token is too deep, or else the given one
abbrev pub weighed : Bool → ℕ → Verdict → Verdict
weighed true i on = Deep i
weighed false i on = on

abbrev pub too_heavy : Option ℕ → List Want → Bool
too_heavy None k = false
too_heavy (Some limit) k = nat_lt limit (weight k)

abbrev pub ends : ℕ → Option (List Want) → Verdict
ends i None = Refused i
ends i (Some k) = Accepted

abbrev pub parse_on : Option ℕ → ℕ → Option (List Want) → (List Want → Verdict) → Verdict
parse_on limit i None on = Refused i
parse_on limit i (Some k) on = weighed (too_heavy limit k) i (on k)

-- the verdict on the remaining tokens, the first of which is at place i; without a limit nothing is
-- too deep
abbrev pub run_from : Option ℕ → List Placed → ℕ → List Want → Verdict
run_from limit [] i k = ends i (parser_step k kind.End)
run_from limit (t ∷ ts) i k = parse_on limit i (parser_step k (token_kind t.token))
    (λ k. run_from limit ts (i + 1) k)

unfoldable pub parse_run : Option ℕ → List Placed → ℕ → List Want → Verdict
parse_run limit ts i k = run_from limit (drop i ts) i k

-- what a refusal means for the run
abbrev pub ParseRefuses : ParseFault → Verdict → Type 0
ParseRefuses (fault.Syntax place) v = v ≡ Refused place
ParseRefuses (fault.TooDeep place) v = v ≡ Deep place
ParseRefuses fault.NoMemory v = Unit {0}

-- the result of a step, from the code's answer and the wants that it leaves
abbrev pub parser_stepped : Bool → List Want → Option (List Want)
parser_stepped true k = Some k
parser_stepped false k = None
