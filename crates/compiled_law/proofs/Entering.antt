-- The transactions of the image are those of the tree, in order.
use Rattle.std.proofs.Common.{◌≡◌, ℕ, zero, suc, ◌+◌, Bool, true, false, List, [], ◌∷◌, ◌++◌}
use Rattle.std.proofs.Common.{length, map, Some, refl, sym, ap, ◌∙◌, arith}
use Rattle.std.specs.Prelude.{slice_get, option_map, if◌then◌else◌}
use Rattle.c_tree.specs.ItemTree.{FunctionTree}
use Rattle.c_tree.specs.Program.{Program}
use Rattle.c_types.specs.Tables.{Tables}
use Rattle.c_types.specs.Shapes.{transactions_in}
use Rattle.ir.specs.declared.function.IrFunction.{IrFunction}
use Rattle.lower.specs.Program.{lowered_function}
use Rattle.lower_law.specs.Law.{entries_from}
use Rattle.clobber_pass.specs.declared.marking.MarkTable.{MarkTable}
use Rattle.instrument.specs.Insert.{logged_functions}
use Rattle.pm_machine.specs.declared.op.TxEntry.{TxEntry}
use Rattle.codegen.specs.Emit.{txs_from}

module _ (marks : MarkTable) (t : Tables) (tree : Program) where
  -- the functions with their logs, from the j-th on
  abbrev pub code_of : ℕ → List FunctionTree → List IrFunction
  code_of j fs = logged_functions marks j (map (lowered_function t tree) fs)

  pub record IsEntry (fs : List FunctionTree) (k i : ℕ) (entry : TxEntry) : Type 0 where
    pub g : ℕ
    pub f : FunctionTree
    pub found : slice_get fs g ≡ Some f
    pub marked : f.tx ≡ true
    pub named : slice_get (transactions_in fs) i ≡ Some f
    pub function : entry.function ≡ k + g
    pub parameters : entry.parameters ≡ length f.parameters

  -- adds a function before others, if it is a transaction
  abbrev Front : (k : ℕ) → FunctionTree → Bool → List TxEntry → List TxEntry
  Front k x b rest = (if b then record { function = k; parameters = length x.parameters } ∷ []
      else []) ++ rest

  abbrev Named : FunctionTree → Bool → List FunctionTree → List FunctionTree
  Named x b rest = if b then x ∷ rest else rest

  parameters_if : (k : ℕ) (x : FunctionTree) (b : Bool) (es : List TxEntry) (fs : List FunctionTree)
      →
      ((i : ℕ) → option_map (λ (e : TxEntry). e.parameters) (slice_get es i)
      ≡ option_map (λ (f : FunctionTree). length f.parameters) (slice_get fs i)) →
      (i : ℕ) → option_map (λ (e : TxEntry). e.parameters) (slice_get (Front k x b es) i)
      ≡ option_map (λ (f : FunctionTree). length f.parameters) (slice_get (Named x b fs) i)
  parameters_if k x true es fs same zero = refl
  parameters_if k x true es fs same (suc i) = same i
  parameters_if k x false es fs same i = same i

  -- the transactions have as many parameters as in the tree
  pub parameters_same : (j k : ℕ) (fs : List FunctionTree) (i : ℕ) →
      option_map (λ (e : TxEntry). e.parameters) (slice_get (txs_from k (code_of j fs)) i)
      ≡ option_map (λ (f : FunctionTree). length f.parameters) (slice_get (transactions_in fs) i)
  parameters_same j k [] i = refl
  parameters_same j k (x ∷ fs) i =
      parameters_if k x x.tx (txs_from (k + 1) (code_of (suc j) fs)) (transactions_in fs)
      (λ n. parameters_same (suc j) (k + 1) fs n) i

  entries_if : (k : ℕ) (x : FunctionTree) (b : Bool) (es : List TxEntry) (ns : List ℕ)
      → ((i : ℕ) → option_map (λ (e : TxEntry). e.function) (slice_get es i) ≡ slice_get ns i) →
      (i : ℕ) → option_map (λ (e : TxEntry). e.function) (slice_get (Front k x b es) i)
      ≡ slice_get (if b then k ∷ ns else ns) i
  entries_if k x true es ns same zero = refl
  entries_if k x true es ns same (suc i) = same i
  entries_if k x false es ns same i = same i

  -- the functions where the transactions start
  pub entries_same : (j k : ℕ) (fs : List FunctionTree) (i : ℕ)
      → option_map (λ (e : TxEntry). e.function) (slice_get (txs_from k (code_of j fs)) i)
      ≡ slice_get (entries_from k (map (lowered_function t tree) fs)) i
  entries_same j k [] i = refl
  entries_same j k (x ∷ fs) i = entries_if k x x.tx (txs_from (k + 1) (code_of (suc j) fs))
      (entries_from (k + 1) (map (lowered_function t tree) fs))
      (λ n. entries_same (suc j) (k + 1) fs n) i

  next : (k g : ℕ) → k + 1 + g ≡ k + suc g
  next k g = omega arith

  entry_after : (x : FunctionTree) (fs : List FunctionTree) (k i n : ℕ) (entry : TxEntry)
      → ((f : FunctionTree) → slice_get (transactions_in fs) i ≡ Some f
      → slice_get (transactions_in (x ∷ fs)) n ≡ Some f) → IsEntry fs (k + 1) i entry
      → IsEntry (x ∷ fs) k n entry
  entry_after x fs k i n entry named r =
      record {
        g = suc r.g;
        f = r.f;
        found = r.found;
        marked = r.marked;
        named = named r.f r.named;
        function = r.function ∙ next k r.g;
        parameters = r.parameters;
      }

  entry_if : (k : ℕ) (x : FunctionTree) (fs : List FunctionTree) (es : List TxEntry)
      → ((i : ℕ) (entry : TxEntry) → slice_get es i ≡ Some entry → IsEntry fs (k + 1) i entry) →
      (b : Bool) → x.tx ≡ b → (i : ℕ) (entry : TxEntry) → slice_get (Front k x b es) i ≡ Some entry
      → IsEntry (x ∷ fs) k i entry
  entry_if k x fs es later true tx zero entry e =
      let same : record { function = k; parameters = length x.parameters } ≡ entry = cc in
      let plus : k ≡ k + 0 = omega arith in
      record {
        g = 0;
        f = x;
        found = refl;
        marked = tx;
        named = ap (λ (b : Bool). slice_get (Named x b (transactions_in fs)) 0) tx;
        function = ap (λ (y : TxEntry). y.function) (sym same) ∙ plus;
        parameters = ap (λ (y : TxEntry). y.parameters) (sym same);
      }
  entry_if k x fs es later true tx (suc i) entry e =
      entry_after x fs k i (suc i) entry
      (λ f h. ap (λ (b : Bool). slice_get (Named x b (transactions_in fs)) (suc i)) tx ∙ h)
      (later i entry e)
  entry_if k x fs es later false tx i entry e =
      entry_after x fs k i i entry (λ f h.
      ap (λ (b : Bool). slice_get (Named x b (transactions_in fs)) i) tx ∙ h) (later i entry e)

  pub entry_is : (j k : ℕ) (fs : List FunctionTree) (i : ℕ) (entry : TxEntry)
      → slice_get (txs_from k (code_of j fs)) i ≡ Some entry → IsEntry fs k i entry
  entry_is j k [] i entry e = absurd (cc)
  entry_is j k (x ∷ fs) i entry e =
      entry_if k x fs (txs_from (k + 1) (code_of (suc j) fs))
      (λ n y h. entry_is (suc j) (k + 1) fs n y h) x.tx refl i entry e
