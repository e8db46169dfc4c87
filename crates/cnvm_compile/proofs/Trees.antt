-- What a stage refuses is refused of the text; the refusal of a tree that breaks a rule is that of
-- every tree of the text; and the one tree of its tokens is that of the text.
use Rattle.std.proofs.Common.{◌≡◌, ℕ, List, Option, Ok, length, slice_get, option_map, sym, ap, ◌∙◌}
use Rattle.std.proofs.Common.{subst}
use Rattle.std.specs.Option.{option_map_or}
use Rattle.c_lexer.specs.Cuts.{answer}
use Rattle.c_lexer.specs.TokenList.{Tokens}
use Rattle.c_constants.specs.Left.{LeavesTokens}
use Rattle.c_constants.specs.Passes as passes
use Rattle.c_tree.specs.ItemTree.{ItemTree}
use Rattle.c_tree.specs.Program.{Program, tree_of}
use Rattle.c_types.specs.declared.fault.TypeFault.{TypeFault}
use Rattle.c_types.specs.Broken.{least_broken}
use Rattle.c_types.specs.Declarations.{broken}
use Rattle.c_types.specs.Fault.{fault_of, refusal}
use Rattle.cnvm_compile.specs.declared.front_end.ProgramFault.{ProgramFault}
use Rattle.cnvm_compile.specs.declared.front_end.ProgramFault.TheVariants.{Lex, Constants}
use Rattle.cnvm_compile.specs.declared.front_end.ProgramFault.TheVariants.{Parse, Types, NoMemory}
use Rattle.cnvm_compile.specs.FrontEnd.{IsTree, IsOnlyTreeOf, RefusesText}
use Rattle.cnvm_compile.specs.inside.FrontEnd.{IsOnlyTree, RefusesConstants}
use Rattle.cnvm_compile.specs.inside.FrontEnd.{RefusesList, RefusesTree}
use Rattle.cnvm_compile.proofs.Once.{lists_same}

abbrev refusal_from : List ℕ → ℕ → List ItemTree → Option TypeFault
refusal_from lines last trees =
    option_map (λ b. fault_of b (option_map_or (λ line. line) (slice_get lines b.place) last))
    (least_broken (broken (length lines) trees))

refusal_same : (p q : Program) → p.lines ≡ q.lines → p.last ≡ q.last → tree_of p ≡ tree_of q
    → refusal p ≡ refusal q
refusal_same p q lines last trees =
    ap (λ (l : List ℕ). refusal_from l p.last (tree_of p)) lines
    ∙ (ap (λ (n : ℕ). refusal_from q.lines n (tree_of p)) last
    ∙ ap (λ (t : List ItemTree). refusal_from q.lines q.last t) trees)

tree_same : (list : Tokens) (tree other : Program) → IsTree list tree → IsOnlyTree list tree
    → IsTree list other → refusal other ≡ refusal tree
tree_same list tree other is only too =
    refusal_same other tree (too.lines ∙ sym is.lines) (too.last ∙ sym is.last)
    (sym (only other too))

pub leaves_list : (text : List ℕ) (all list : Tokens) → answer text ≡ Ok all
    → passes.tokens_left all ≡ Ok list → LeavesTokens text list
leaves_list text all list cut left = record { all = all; cut = cut; left = left }

pub constants_refused : (text : List ℕ) (all : Tokens) (fault : ProgramFault)
    → answer text ≡ Ok all → RefusesConstants all fault → RefusesText text fault
constants_refused text all (Constants fault) cut told = (all, cut, told.0, told.1)
constants_refused text all NoMemory cut told = tt
constants_refused text all (Lex fault) cut told = absurd told
constants_refused text all (Parse fault line) cut told = absurd told
constants_refused text all (Types fault) cut told = absurd told

pub ruleset listed = (leaves_list, constants_refused)

pub list_refused : (text : List ℕ) (list : Tokens) (fault : ProgramFault) → LeavesTokens text list
    → RefusesList list fault → RefusesText text fault
list_refused text list (Parse fault line) left told = (list, left, told)
list_refused text list NoMemory left told = tt
list_refused text list (Lex fault) left told = absurd told
list_refused text list (Constants fault) left told = absurd told
list_refused text list (Types fault) left told = absurd told

pub text_refused : (text : List ℕ) (list : Tokens) (tree : Program) (fault : ProgramFault)
    → LeavesTokens text list → IsTree list tree
    → IsOnlyTree list tree → RefusesTree tree fault → RefusesText text fault
text_refused text list tree (Types fault) left is only told = record {
  tree = tree;
  has = (list, left, is);
  each = λ other has. tree_same list tree other is only
      (subst (λ (l : Tokens). IsTree l other) (lists_same text has.0 list has.1 left) has.2)
      ∙ told;
}
text_refused text list tree NoMemory left is only told = tt
text_refused text list tree (Lex fault) left is only told = absurd told
text_refused text list tree (Constants fault) left is only told = absurd told
text_refused text list tree (Parse fault line) left is only told = absurd told

pub only_tree : (text : List ℕ) (list : Tokens) (tree : Program) → LeavesTokens text list
    → IsOnlyTree list tree → IsOnlyTreeOf text tree
only_tree text list tree left only = record {
  only = λ other has. only other
      (subst (λ (l : Tokens). IsTree l other) (lists_same text has.0 list has.1 left) has.2);
}

pub ruleset refused = (list_refused, text_refused, only_tree)
