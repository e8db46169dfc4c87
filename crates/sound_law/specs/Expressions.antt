-- What an expression asks for while it is evaluated is there. It is followed part by part, as
-- `value_of` evaluates it: each part is looked at with the pool and the ticks that the parts before
-- it leave, and a part that isn't reached asks for nothing.
--
-- Each place where the meaning is total by a value of its own has its row. After the row, the
-- definitions of c_meaning that give such a value:
--     a variable             the local is there (`value_named`, `assigned`)
--     a call                 the function is there (`called`), with an argument for each of its
--                            parameters (`bound`; the row is `FunctionFinds`)
--     `pm_new`, `pm_free`    the struct is there and has a number (`new_object`, `pointed_struct`)
--     a field, an element    the struct, the field and the word are there, the offset is exact
--                            (`word_named`, `pointer_of`, `first_word`, `field_elements`,
--                            `word_in_struct`, `struct_word_at`, `read_word`, `write_word`)
--     a loop                 the count of turns ends only where the ticks do (`turns`; the row is
--                            `TurnsFind`)
--     a transaction          it is there (`run_transaction`; the law's own premise)
--
-- One thing has no row: a body that ends by `break` or `continue` gives 0 (`given`). The grammar
-- has these words in loops alone, but a tree that no tokens spell might have them elsewhere.
use Rattle.std.specs.Prelude.{ℕ, zero, suc, ℤ, pos, ◌≡◌, List, None, Some, Bool, true, false, not}
use Rattle.c_tree.specs.ExprTree.{ExprTree, Arguments}
use Rattle.c_tree.specs.ExprTree as expr
use Rattle.c_tree.specs.ItemTree.{FunctionTree}
use Rattle.c_tree.specs.declared.expr.BinaryOp.{BinaryOp}
use Rattle.c_tree.specs.declared.expr.BinaryOp.TheVariants as binary
use Rattle.c_types.specs.Tables.{Tables, function_named, struct_named}
use Rattle.pool_map.specs.PoolMap.{PoolMap}
use Rattle.pool_map.specs.Checks.{is_zero}
use Rattle.c_meaning.specs.Locals.{Local}
use Rattle.c_meaning.specs.Meaning.{Out, Got, Stops, Calls, value_of, values_of, pointer_of}
use Rattle.sound_law.specs.Places.{IsLocal, IsNumbered, FindsWord}

-- what holds of a value, its pool and its ticks, unless there was a trap
abbrev pub Past : {A : Type 0} → Out A → (A → PoolMap → ℕ → Type 0) → Type 0
Past (Got a p k) next = next a p k
Past (Stops trap) next = Unit {0}

-- what holds after a tick, if there is one
abbrev pub AfterTick : ℕ → (ℕ → Type 0) → Type 0
AfterTick zero next = Unit {0}
AfterTick (suc k) next = next k

-- the right side is evaluated, given the value of the left one
abbrev pub goes_right : BinaryOp → ℤ → Bool
goes_right binary.Both x = not (is_zero x)
goes_right binary.Either x = is_zero x
goes_right binary.Mul x = true
goes_right binary.Div x = true
goes_right binary.Rem x = true
goes_right binary.Add x = true
goes_right binary.Sub x = true
goes_right binary.ShiftLeft x = true
goes_right binary.ShiftRight x = true
goes_right binary.Less x = true
goes_right binary.LessEqual x = true
goes_right binary.Greater x = true
goes_right binary.GreaterEqual x = true
goes_right binary.Equal x = true
goes_right binary.NotEqual x = true
goes_right binary.And x = true
goes_right binary.Xor x = true
goes_right binary.Or x = true

-- `found` says of a function that is called what this says of an expression
module _ (t : Tables) (calls : Calls) (found : FunctionTree → List ℤ → PoolMap → ℕ → Type 0) where
  abbrev mutual
    pub Finds : ExprTree → List Local → PoolMap → ℕ → Type 0
    Finds (expr.Number n) ls p k = Unit {0}
    Finds expr.Null ls p k = Unit {0}
    Finds (expr.Variable name) ls p k = IsLocal name.text ls
    Finds (expr.Call name all) ls p k = (f : FunctionTree)
        × (function_named t name.text ≡ Some f) × FindsAll all ls p k
        × Past (values_of t calls all ls p k) (λ vs p k. AfterTick k (λ k. found f vs p k))
    Finds (expr.New place name) ls p k = IsNumbered t (struct_named t name.text)
    Finds (expr.Root name) ls p k = FindsWord t ls p (expr.Root name) (pos 0) None
    Finds (expr.Arrow base place name) ls p k = Finds base ls p k
        × Past (value_of t calls base ls p k)
        (λ b p k. FindsWord t ls p (expr.Arrow base place name) b None)
    Finds (expr.Index a place i) ls p k = FindsPointer a ls p k
        × Past (pointer_of t calls a ls p k) (λ b p k. Finds i ls p k
        × Past (value_of t calls i ls p k) (λ j p k. FindsWord t ls p a b (Some j)))
    Finds (expr.Unary op place a) ls p k = Finds a ls p k
    Finds (expr.Binary op place a b) ls p k = Finds a ls p k
        × Past (value_of t calls a ls p k) (λ x p k. goes_right op x ≡ true → Finds b ls p k)
    Finds (expr.Conditional c place a b) ls p k = Finds c ls p k
        × Past (value_of t calls c ls p k) (λ x p k. (is_zero x ≡ false → Finds a ls p k)
        × (is_zero x ≡ true → Finds b ls p k))

    -- what stands before `[` is a field
    pub FindsPointer : ExprTree → List Local → PoolMap → ℕ → Type 0
    FindsPointer (expr.Root name) ls p k = Unit {0}
    FindsPointer (expr.Arrow base place name) ls p k = Finds base ls p k
    FindsPointer (expr.Number n) ls p k = ⊥
    FindsPointer expr.Null ls p k = ⊥
    FindsPointer (expr.Variable name) ls p k = ⊥
    FindsPointer (expr.Call name all) ls p k = ⊥
    FindsPointer (expr.New place name) ls p k = ⊥
    FindsPointer (expr.Index a place i) ls p k = ⊥
    FindsPointer (expr.Unary op place a) ls p k = ⊥
    FindsPointer (expr.Binary op place a b) ls p k = ⊥
    FindsPointer (expr.Conditional c place a b) ls p k = ⊥

    -- arguments, from left to right
    pub FindsAll : Arguments → List Local → PoolMap → ℕ → Type 0
    FindsAll expr.None ls p k = Unit {0}
    FindsAll (expr.More first e rest) ls p k = Finds e ls p k
        × Past (value_of t calls e ls p k) (λ v p k. FindsAll rest ls p k)

  -- a target that is no local
  abbrev pub FindsOperands : ExprTree → List Local → PoolMap → ℕ → Type 0
  FindsOperands (expr.Index a place i) ls p k = FindsPointer a ls p k
      × Past (pointer_of t calls a ls p k) (λ b p k. Finds i ls p k)
  FindsOperands (expr.Arrow base place name) ls p k = Finds base ls p k
  FindsOperands (expr.Root name) ls p k = Unit {0}
  FindsOperands (expr.Number n) ls p k = ⊥
  FindsOperands expr.Null ls p k = ⊥
  FindsOperands (expr.Variable name) ls p k = ⊥
  FindsOperands (expr.Call name all) ls p k = ⊥
  FindsOperands (expr.New place name) ls p k = ⊥
  FindsOperands (expr.Unary op place a) ls p k = ⊥
  FindsOperands (expr.Binary op place a b) ls p k = ⊥
  FindsOperands (expr.Conditional c place a b) ls p k = ⊥
