-- The refusal of a tree: the rule that is reported of all that it breaks, with the line and the
-- place of its token.
use Rattle.std.specs.Prelude.{ℕ, Option, option_map, length}
use Rattle.c_tree.specs.Program.{Program, source_line, tree_of}
use Rattle.c_types.specs.declared.fault.TypeFault.{TypeFault}
use Rattle.c_types.specs.declared.fault.TypeFault.TheVariants as fault
use Rattle.c_types.specs.declared.broken.Rule.{Rule}
use Rattle.c_types.specs.declared.broken.Rule.TheVariants.{UnknownName, Twice, Mismatch}
use Rattle.c_types.specs.declared.broken.Rule.TheVariants.{NotAssignable, Arity, TooBig, NoRoot}
use Rattle.c_types.specs.declared.broken.Rule.TheVariants.{BadTx}
use Rattle.c_types.specs.declared.broken.Broken.{Broken}
use Rattle.c_types.specs.Broken.{least_broken}
use Rattle.c_types.specs.Declarations.{broken}
use Rattle.std.specs.Prelude.{List}

-- the refusal for a rule that is broken at a token, whose place and line these are
abbrev pub fault_by : Rule → (place line : ℕ) → TypeFault
fault_by UnknownName place line = fault.UnknownName line place
fault_by Twice place line = fault.Twice line place
fault_by Mismatch place line = fault.Mismatch line place
fault_by NotAssignable place line = fault.NotAssignable line place
fault_by Arity place line = fault.Arity line place
fault_by (TooBig limit value) place line = fault.TooBig line place limit value
fault_by NoRoot place line = fault.NoRoot line place
fault_by BadTx place line = fault.BadTx line place

abbrev pub fault_of : Broken → ℕ → TypeFault
fault_of b line = fault_by b.rule b.place line

-- all rules that a tree breaks
abbrev pub breaks : Program → List Broken
breaks p = broken (length p.lines) (tree_of p)

abbrev pub refusal : Program → Option TypeFault
refusal p = option_map (λ b. fault_of b (source_line p b.place)) (least_broken (breaks p))
