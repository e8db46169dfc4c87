-- What only bodies and proofs need beside `FrontEnd`.
use Rattle.std.specs.Prelude.{◌≡◌, ◌≢◌, Some, Err, ⊤}
use Rattle.c_lexer.specs.TokenList.{Tokens}
use Rattle.c_constants.specs.declared.fault.ConstFault.TheVariants as constants
use Rattle.c_constants.specs.Passes.{tokens_left}
use Rattle.c_tree.specs.Program.{Program, tree_of}
use Rattle.c_types.specs.Fault.{refusal}
use Rattle.cnvm_compile.specs.declared.front_end.ProgramFault.{ProgramFault}
use Rattle.cnvm_compile.specs.declared.front_end.ProgramFault.TheVariants.{Lex, Constants}
use Rattle.cnvm_compile.specs.declared.front_end.ProgramFault.TheVariants.{Parse, Types, NoMemory}
use Rattle.cnvm_compile.specs.FrontEnd.{IsTree, RefusesToken}

-- each tree of these tokens is this one
abbrev pub IsOnlyTree : Tokens → Program → Type 0
IsOnlyTree list tree = (other : Program) → IsTree list other → tree_of tree ≡ tree_of other

-- how the constants of a list of tokens are refused; want of memory says nothing of the list
abbrev pub RefusesConstants : Tokens → ProgramFault → Type 0
RefusesConstants list (Constants fault) =
    (tokens_left list ≡ Err fault) × (fault ≢ constants.NoMemory)
RefusesConstants list NoMemory = ⊤
RefusesConstants list (Lex fault) = ⊥
RefusesConstants list (Parse fault line) = ⊥
RefusesConstants list (Types fault) = ⊥

-- how the tokens that constants leave are refused
abbrev pub RefusesList : Tokens → ProgramFault → Type 0
RefusesList list (Parse fault line) = RefusesToken list fault line
RefusesList list NoMemory = ⊤
RefusesList list (Lex fault) = ⊥
RefusesList list (Constants fault) = ⊥
RefusesList list (Types fault) = ⊥

abbrev pub RefusesTree : Program → ProgramFault → Type 0
RefusesTree tree (Types fault) = refusal tree ≡ Some fault
RefusesTree tree NoMemory = ⊤
RefusesTree tree (Lex fault) = ⊥
RefusesTree tree (Constants fault) = ⊥
RefusesTree tree (Parse fault line) = ⊥
