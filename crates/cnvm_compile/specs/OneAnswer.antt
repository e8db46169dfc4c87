-- One text has one answer of the front end.
use Rattle.std.specs.Prelude.{ℕ, List, ◌≡◌, ⊤}
use Rattle.c_tree.specs.Program.{Program}
use Rattle.cnvm_compile.specs.declared.front_end.ProgramFault.{ProgramFault}
use Rattle.cnvm_compile.specs.declared.front_end.ProgramFault.TheVariants.{Lex, Constants}
use Rattle.cnvm_compile.specs.declared.front_end.ProgramFault.TheVariants.{Parse, Types, NoMemory}
use Rattle.cnvm_compile.specs.FrontEnd.{HasTree, AcceptsText, RefusesText}

-- Two refusals are the same. Want of memory says nothing.
abbrev pub IsSame : ProgramFault → ProgramFault → Type 0
IsSame NoMemory g = ⊤
IsSame (Lex fault) NoMemory = ⊤
IsSame (Constants fault) NoMemory = ⊤
IsSame (Parse fault line) NoMemory = ⊤
IsSame (Types fault) NoMemory = ⊤
IsSame (Lex fault) g = Lex fault ≡ g
IsSame (Constants fault) g = Constants fault ≡ g
IsSame (Parse fault line) g = Parse fault line ≡ g
IsSame (Types fault) g = Types fault ≡ g

-- the refusal is a broken rule, or want of memory
abbrev pub IsOfTree : ProgramFault → Type 0
IsOfTree (Types fault) = ⊤
IsOfTree NoMemory = ⊤
IsOfTree (Lex fault) = ⊥
IsOfTree (Constants fault) = ⊥
IsOfTree (Parse fault line) = ⊥

pub record OneAnswer : Type 0 where
  pub refused : (text : List ℕ) (f g : ProgramFault) → RefusesText text f → RefusesText text g
      → IsSame f g
  pub tree : (text : List ℕ) (tree : Program) (f : ProgramFault) → HasTree text tree
      → RefusesText text f → IsOfTree f
  pub accepted : (text : List ℕ) (tree : Program) (f : ProgramFault) → AcceptsText text tree
      → RefusesText text f → f ≡ NoMemory
