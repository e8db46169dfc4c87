-- The text of the functions that are left, after one more is written.
use Rattle.std.proofs.Common.{◌≡◌, ℕ, ◌+◌, List, ◌∷◌, ◌++◌, append_assoc}
use Rattle.std.specs.List.{AllByRecursion}
use Rattle.c_tree.specs.ItemTree.{FunctionTree}
use Rattle.c_tree.specs.Program.{Program}
use Rattle.ir.specs.declared.function.IrFunction.{IrFunction}
use Rattle.ir.specs.declared.function.Ir.{Ir}
use Rattle.clobber_pass.specs.declared.marking.MarkTable.{MarkTable}
use Rattle.code_print.specs.CodeText.{function_listing, printed_functions}

pub one_more : (tree : Program) (trees : List FunctionTree) (ir : Ir) (marks : MarkTable) (n : ℕ)
    (u : IrFunction) (left us : List IrFunction) (before after all : List ℕ) → left ≡ u ∷ us
    → after ≡ before ++ function_listing tree trees ir marks n u
    → before ++ printed_functions tree trees ir marks n left ≡ all
    → after ++ printed_functions tree trees ir marks (n + 1) us ≡ all
one_more tree trees ir marks n u left us before after all here is was =
    let parts = append_assoc before (function_listing tree trees ir marks n u)
    (printed_functions tree trees ir marks (n + 1) us) in
    rw (is, parts) (rw here at was)

pub rest : {A : Type 0} (P : A → Type 0) (x : A) (xs ys : List A) → xs ≡ x ∷ ys
    → AllByRecursion P xs → AllByRecursion P ys
rest P x xs ys is all = more (rw is at all)
  where
    more : AllByRecursion P (x ∷ ys) → AllByRecursion P ys
    more (first, others) = others

pub holds_on : (P : IrFunction → Type 0) (few : Type 0) (tree : Program)
    (trees : List FunctionTree) (ir : Ir) (marks : MarkTable) (n : ℕ) (u : IrFunction)
    (left us : List IrFunction) (before after all : List ℕ) → left ≡ u ∷ us
    → after ≡ before ++ function_listing tree trees ir marks n u
    → (before ++ printed_functions tree trees ir marks n left ≡ all) × few × AllByRecursion P left
    → (after ++ printed_functions tree trees ir marks (n + 1) us ≡ all) × few
    × AllByRecursion P us
holds_on P few tree trees ir marks n u left us before after all here is (was, short, every) = (
  one_more tree trees ir marks n u left us before after all here is was,
  short,
  rest P u left us here every,
)
