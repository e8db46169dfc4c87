-- Which tokens spell which item, and which program.
use Rattle.std.specs.Prelude.{ℕ, ◌+◌, ◌≡◌, List, [], ◌∷◌, Option, Some, None, Bool, true, false}
use Rattle.std.specs.Prelude.{length}
use Rattle.c_lexer.specs.declared.token.Placed.{Placed}
use Rattle.c_tree.specs.declared.kind.Kind.TheVariants as kind
use Rattle.c_tree.specs.declared.item.Marked.{Marked}
use Rattle.c_tree.specs.declared.item.Marked.TheVariants as mark
use Rattle.c_tree.specs.Kinds.{kind_at, ident_at, value_at}
use Rattle.c_tree.specs.StmtTree.{TypeTree, Statements}
use Rattle.c_tree.specs.ItemTree.{FieldTree, ParameterTree, ItemTree}
use Rattle.c_tree.specs.ItemTree as tree
use Rattle.c_tree.specs.StmtSpelling.{Typed, SpellsAll}

-- a field with its semicolon
pub data SpellsField (ts : List Placed) : ℕ → ℕ → FieldTree → Type 0 where
  single : {i m : ℕ} {t : TypeTree}
      → Typed ts i m t → kind_at ts m ≡ kind.Name → kind_at ts (m + 1) ≡ kind.Semicolon
      → SpellsField ts i (m + 1 + 1) (record { ty = t; name = ident_at ts m; len = None })
  array : {i m : ℕ} {t : TypeTree}
      → Typed ts i m t → kind_at ts m ≡ kind.Name → kind_at ts (m + 1) ≡ kind.OpenSquare
      → kind_at ts (m + 1 + 1) ≡ kind.Number
      → kind_at ts (m + 1 + 1 + 1) ≡ kind.CloseSquare
      → kind_at ts (m + 1 + 1 + 1 + 1) ≡ kind.Semicolon
      → SpellsField ts i (m + 1 + 1 + 1 + 1 + 1)
      (record {
        ty = t;
        name = ident_at ts m;
        len = Some (record { value = value_at ts (m + 1 + 1); place = m + 1 + 1 });
      })

-- any number of fields
pub data SpellsFields (ts : List Placed) : ℕ → ℕ → List FieldTree → Type 0 where
  fields_end : {i : ℕ} → SpellsFields ts i i []
  fields_more : {i m j : ℕ} {f : FieldTree} {fs : List FieldTree}
      → SpellsField ts i m f → SpellsFields ts m j fs → SpellsFields ts i j (f ∷ fs)

-- parameters from the first one up to the closing bracket
pub data SpellsParameters (ts : List Placed) : ℕ → ℕ → List ParameterTree → Type 0 where
  parameters_last : {i m : ℕ} {t : TypeTree}
      → Typed ts i m t → kind_at ts m ≡ kind.Name → kind_at ts (m + 1) ≡ kind.CloseRound
      → SpellsParameters ts i (m + 1 + 1) (record { ty = t; name = ident_at ts m } ∷ [])
  parameters_more : {i m j : ℕ} {t : TypeTree} {ps : List ParameterTree}
      → Typed ts i m t → kind_at ts m ≡ kind.Name → kind_at ts (m + 1) ≡ kind.Comma
      → SpellsParameters ts (m + 1 + 1) j ps
      → SpellsParameters ts i j (record { ty = t; name = ident_at ts m } ∷ ps)

-- from the place after the opening bracket to the place after the closing one
pub data Signature (ts : List Placed) : ℕ → ℕ → List ParameterTree → Type 0 where
  signature_none : {i : ℕ} → kind_at ts i ≡ kind.CloseRound → Signature ts i (i + 1) []
  signature_void : {i : ℕ} → kind_at ts i ≡ kind.Void → kind_at ts (i + 1) ≡ kind.CloseRound
      → Signature ts i (i + 1 + 1) []
  signature_some : {i j : ℕ} {ps : List ParameterTree} → SpellsParameters ts i j ps
      → Signature ts i j ps

pub data ResultType (ts : List Placed) : ℕ → ℕ → Option TypeTree → Type 0 where
  result_void : {i : ℕ} → kind_at ts i ≡ kind.Void → ResultType ts i (i + 1) None
  result_some : {i j : ℕ} {t : TypeTree} → Typed ts i j t → ResultType ts i j (Some t)

-- the mark of a transaction: with `abort` it rolls back where it traps, and with `const` it only
-- looks
pub data SpellsTransaction (ts : List Placed) : ℕ → ℕ → Marked → Type 0 where
  unmarked : {i : ℕ} → kind_at ts i ≡ kind.Tx → SpellsTransaction ts i (i + 1) mark.Plain
  marked_abort : {i : ℕ} → kind_at ts i ≡ kind.Tx → kind_at ts (i + 1) ≡ kind.Abort
      → SpellsTransaction ts i (i + 1 + 1) mark.Abort
  marked_const : {i : ℕ} → kind_at ts i ≡ kind.Tx → kind_at ts (i + 1) ≡ kind.Const
      → SpellsTransaction ts i (i + 1 + 1) mark.Const

-- a function, from its result on
pub data SpellsFunction (ts : List Placed) : Bool → Marked → ℕ → ℕ → ItemTree → Type 0 where
  function : {tx : Bool} {a : Marked} {i m n p : ℕ} {r : Option TypeTree}
      {ps : List ParameterTree} {all : Statements}
      → ResultType ts i m r → kind_at ts m ≡ kind.Name → kind_at ts (m + 1) ≡ kind.OpenRound
      → Signature ts (m + 1 + 1) n ps
      → kind_at ts n ≡ kind.OpenBrace → SpellsAll ts false (n + 1) p all
      → kind_at ts p ≡ kind.CloseBrace
      → SpellsFunction ts tx a i (p + 1)
      (tree.Function (record {
        tx = tx;
        mark = a;
        result_type = r;
        name = ident_at ts m;
        parameters = ps;
        body = all;
      }))

pub data SpellsItem (ts : List Placed) : ℕ → ℕ → ItemTree → Type 0 where
  struct_def : {i m n : ℕ} {f : FieldTree} {fs : List FieldTree}
      → kind_at ts i ≡ kind.Struct → kind_at ts (i + 1) ≡ kind.Name
      → kind_at ts (i + 1 + 1) ≡ kind.OpenBrace
      → SpellsField ts (i + 1 + 1 + 1) m f → SpellsFields ts m n fs → kind_at ts n ≡ kind.CloseBrace
      → kind_at ts (n + 1) ≡ kind.Semicolon
      → SpellsItem ts i (n + 1 + 1) (tree.Struct (ident_at ts (i + 1)) (f ∷ fs))
  root_decl : {i : ℕ}
      → kind_at ts i ≡ kind.Persistent → kind_at ts (i + 1) ≡ kind.Struct
      → kind_at ts (i + 1 + 1) ≡ kind.Name
      → kind_at ts (i + 1 + 1 + 1) ≡ kind.Root → kind_at ts (i + 1 + 1 + 1 + 1) ≡ kind.Semicolon
      → SpellsItem ts i (i + 1 + 1 + 1 + 1 + 1)
      (tree.Root (ident_at ts (i + 1 + 1)) (i + 1 + 1 + 1))
  transaction : {a : Marked} {i m j : ℕ} {x : ItemTree}
      → SpellsTransaction ts i m a → SpellsFunction ts true a m j x
      → SpellsItem ts i j x
  plain_function : {i j : ℕ} {x : ItemTree} → SpellsFunction ts false mark.Plain i j x
      → SpellsItem ts i j x

pub data SpellsItems (ts : List Placed) : ℕ → ℕ → List ItemTree → Type 0 where
  items_end : {i : ℕ} → SpellsItems ts i i []
  items_more : {i m j : ℕ} {x : ItemTree} {xs : List ItemTree}
      → SpellsItem ts i m x → SpellsItems ts m j xs → SpellsItems ts i j (x ∷ xs)

-- all of the tokens spell these items
abbrev pub SpellsProgram : List Placed → List ItemTree → Type 0
SpellsProgram ts xs = SpellsItems ts 0 (length ts) xs
