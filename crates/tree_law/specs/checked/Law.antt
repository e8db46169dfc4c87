-- Properties of each program that breaks no typing rule, and of its code: how large its structs,
-- its root and its functions are, that its constants are words, that no function calls a
-- transaction, that it has no logs yet, and which of its functions are transactions.
use Rattle.std.specs.Prelude.{◌≡◌, ◌≤◌, ◌+◌, ℕ, List, [], ◌∷◌, map, length, if◌then◌else◌, Some}
use Rattle.std.specs.Prelude.{slice_get}
use Rattle.c_lexer.specs.declared.token.Placed.{Placed}
use Rattle.c_lexer.specs.TokenList.{Tokens}
use Rattle.c_constants.specs.Left.{LeavesTokens}
use Rattle.c_tree.specs.ItemSpelling.{SpellsProgram}
use Rattle.c_tree.specs.Program.{Program, tree_of}
use Rattle.pool_map.specs.declared.shapes.StructShape.{StructShape}
use Rattle.pool_map.specs.declared.shapes.Shapes.{Shapes}
use Rattle.pool_map.specs.PoolFits.{words_of}
use Rattle.c_types.specs.Tables.{tables_of}
use Rattle.c_types.specs.Fault.{breaks}
use Rattle.c_types.specs.Shapes.{shapes_of, transactions_of}
use Rattle.ir.specs.declared.function.IrFunction.{IrFunction}
use Rattle.ir.specs.declared.instruction.Target.{Target}
use Rattle.ir.specs.declared.instruction.Instruction.TheVariants.{Log}
use Rattle.ir.specs.Places.{instruction_at}
use Rattle.code_meaning.specs.Calls.{CallsNoTransaction}
use Rattle.code_meaning.specs.Constants.{HasWordConstants}
use Rattle.lower.specs.Program.{lowered_function, lowered}
use Rattle.pool_map.specs.declared.limits.TheConstants.{OBJECT_WORDS, ROOT_WORDS}

-- at most 255 structs have numbers, and the words of each of them and of the root are limited
pub record AreSmall (shapes : Shapes) : Type 0 where
  pub few : length shapes.structs ≤ 255
  pub short : (k : ℕ) (shape : StructShape) → slice_get shapes.structs k ≡ Some shape
      → words_of shape.fields ≤ OBJECT_WORDS
  pub root : words_of shapes.root ≤ ROOT_WORDS

abbrev pub ShapesLaw : Type 0
ShapesLaw = (tree : Program) → breaks tree ≡ [] → AreSmall (shapes_of tree)

-- The root has a word: the grammar gives each struct a field, so the law needs a tree that tokens
-- spell.
abbrev pub RootHasWordLaw : Type 0
RootHasWordLaw = (tree : Program) (tokens : List Placed) → SpellsProgram tokens (tree_of tree)
    → breaks tree ≡ [] → 1 ≤ words_of (shapes_of tree).root

-- a function that is called is no transaction
abbrev pub CallsLaw : Type 0
CallsLaw = (tree : Program) → breaks tree ≡ [] → CallsNoTransaction (lowered tree).functions

-- the code has no logs: they are added later
abbrev pub LogsLaw : Type 0
LogsLaw = (tree : Program) → breaks tree ≡ [] → (f p : ℕ) (x : Target)
    → instruction_at (lowered tree).functions f p ≡ Some (Log x) → ⊥

-- there are at most 1,024 functions, each has at most 22 parameters, and a register for each of
-- them and for each of its instructions
pub record FunctionsAreFew (functions : List IrFunction) : Type 0 where
  pub few : length functions ≤ 1024
  pub parameters : (f : ℕ) (u : IrFunction) → slice_get functions f ≡ Some u → u.parameters ≤ 22
  pub registers : (f : ℕ) (u : IrFunction) → slice_get functions f ≡ Some u
      → u.registers ≡ u.parameters + length u.code

abbrev pub LimitsLaw : Type 0
LimitsLaw = (tree : Program) → breaks tree ≡ [] → FunctionsAreFew (lowered tree).functions

-- The constants of the code of a program's text are words, since the numbers of a text are, and the
-- values of the constants that it defines.
abbrev pub ConstantsLaw : Type 0
ConstantsLaw = (text : List ℕ) (list : Tokens) (tree : Program) → LeavesTokens text list
    → SpellsProgram list.tokens (tree_of tree) → HasWordConstants (lowered tree).functions

-- the functions of code that are marked as transactions
abbrev pub marked : List IrFunction → List IrFunction
marked [] = []
marked (u ∷ us) = if u.tx then u ∷ marked us else marked us

-- They are the tree's transactions, in the order of the text, each lowered, and so with its name
-- and as many parameters. This also holds for trees that break rules.
abbrev pub EntriesLaw : Type 0
EntriesLaw = (tree : Program) → marked (lowered tree).functions
    ≡ map (lowered_function (tables_of (tree_of tree)) tree) (transactions_of tree)
