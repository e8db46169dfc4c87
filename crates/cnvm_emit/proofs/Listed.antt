-- The entries, one transaction after another; and the transactions of a compiled program.
use Rattle.std.proofs.Common.{◌≡◌, ℕ, zero, suc, ◌+◌, ◌-◌, ◌<◌, ◌≤◌, ◌^◌, Bool, true, false, List}
use Rattle.std.proofs.Common.{[], ◌∷◌, ◌++◌, drop, map, length, get_or, Option, Some, None, refl}
use Rattle.std.proofs.Common.{sym, ap, ◌∙◌, subst, arith, append_assoc, if◌then◌else◌}
use Rattle.std.proofs.lemmas.List.{drop_more}
use Rattle.std.specs.Prelude.{slice_get, option_map}
use Rattle.c_tree.specs.ItemTree.{FunctionTree}
use Rattle.c_tree.specs.Program.{Program, tree_of}
use Rattle.c_types.specs.Tables.{Tables, tables_of}
use Rattle.c_types.specs.Shapes.{transactions_in, transactions_of}
use Rattle.ir.specs.declared.function.IrFunction.{IrFunction}
use Rattle.ir.specs.declared.function.Ir.{Ir}
use Rattle.lower.specs.Program.{lowered, lowered_function}
use Rattle.clobber_pass.specs.declared.marking.MarkTable.{MarkTable}
use Rattle.instrument.specs.Insert.{logged_functions}
use Rattle.pm_machine.specs.declared.op.TxEntry.{TxEntry}
use Rattle.pm_machine.specs.declared.image.ImageParts.{ImageParts}
use Rattle.codegen.specs.Emit.{tx_of, txs_from}
use Rattle.c_file.specs.declared.entry.Entry.{Entry}
use Rattle.cnvm_compile.specs.declared.compiling.Compiled.{Compiled}
use Rattle.cnvm_emit.specs.Entries.{entry_of, entries_from, entries_of}
use Rattle.cnvm_emit.specs.Emitted.{HasText}

drop_at : (fs : List FunctionTree) (k : ℕ) (f : FunctionTree) → slice_get fs k ≡ Some f
    → drop k fs ≡ f ∷ drop (k + 1) fs
drop_at [] k f e = absurd (cc)
drop_at (g ∷ fs) zero f e = let same : g ≡ f = cc in ap (λ (h : FunctionTree). h ∷ fs) same
drop_at (g ∷ fs) (suc k) f e =
    let n : suc k + 1 ≡ suc (k + 1) = omega arith in
    drop_at fs k f e ∙ ap (λ (m : ℕ). f ∷ drop m (g ∷ fs)) (sym n)

front : (txs : List TxEntry) (fs : List FunctionTree) (k : ℕ) (tx : TxEntry) (e : Entry)
    (found : Option FunctionTree) → slice_get fs k ≡ found → drop k txs ≡ tx ∷ drop (k + 1) txs
    → Some e ≡ option_map (entry_of tx) found
    → e ∷ entries_from (drop (k + 1) txs) (drop (k + 1) fs)
    ≡ entries_from (drop k txs) (drop k fs)
front txs fs k tx e None at here is = absurd (cc)
front txs fs k tx e (Some f) at here is =
    let same : e ≡ entry_of tx f = cc in
    ap (λ (x : Entry). x ∷ entries_from (drop (k + 1) txs) (drop (k + 1) fs)) same
    ∙ ap (λ (l : List FunctionTree). entries_from (tx ∷ drop (k + 1) txs) l)
    (sym (drop_at fs k f at))
    ∙ ap (λ (l : List TxEntry). entries_from l (drop k fs)) (sym here)

pub entries_step : (es : List Entry) (txs : List TxEntry) (fs : List FunctionTree) (k : ℕ)
    (other : TxEntry) (e : Entry) → k < length txs
    → Some e ≡ option_map (entry_of (get_or txs k other)) (slice_get fs (k + 1 - 1))
    → (es ++ e ∷ []) ++ entries_from (drop (k + 1) txs) (drop (k + 1) fs)
    ≡ es ++ entries_from (drop k txs) (drop k fs)
entries_step es txs fs k other e inside is =
    let tx : TxEntry = get_or txs k other in
    let place : k + 1 - 1 ≡ k = omega arith in
    append_assoc es (e ∷ []) (entries_from (drop (k + 1) txs) (drop (k + 1) fs))
    ∙ ap (λ (l : List Entry). es ++ l)
    (front txs fs k tx e (slice_get fs k) refl (drop_more txs k other inside)
    (subst (λ (m : ℕ). Some e ≡ option_map (entry_of tx) (slice_get fs m)) place is))

-- logs change no transaction
logged_txs : (marks : MarkTable) (f k : ℕ) (us : List IrFunction)
    → txs_from k (logged_functions marks f us) ≡ txs_from k us
logged_txs marks f k [] = refl
logged_txs marks f k (u ∷ us) =
    ap (λ (es : List TxEntry). tx_of k u ++ es) (logged_txs marks (suc f) (k + 1) us)

-- the code has a transaction for each of the tree's
txs_named : (t : Tables) (tree : Program) (k : ℕ) (fs : List FunctionTree)
    → length (txs_from k (map (lowered_function t tree) fs)) ≡ length (transactions_in fs)
txs_named t tree k [] = refl
txs_named t tree k (f ∷ fs) = by_mark f.tx (txs_named t tree (k + 1) fs)
  where
    by_mark : (b : Bool)
        → length (txs_from (k + 1) (map (lowered_function t tree) fs)) ≡ length (transactions_in fs)
        → length ((if b then record { function = k; parameters = length f.parameters } ∷ []
        else []) ++ txs_from (k + 1) (map (lowered_function t tree) fs))
        ≡ length (if b then f ∷ transactions_in fs else transactions_in fs)
    by_mark true e = ap suc e
    by_mark false e = e

pub few : (compiled : Compiled) → HasText compiled → length compiled.ir.functions < 2 ^ 32
few compiled h = let short = h.2.well_formed.0 in omega (arith, short)

pub named : (compiled : Compiled) → HasText compiled
    → length (txs_from 0 compiled.ir.functions)
    ≤ length (transactions_of compiled.program.typed)
named compiled h =
    let tree = compiled.program.typed in
    let same : length (txs_from 0 compiled.ir.functions) ≡ length (transactions_of tree) =
    ap (λ (ir : Ir). length (txs_from 0 ir.functions)) h.2.ir
    ∙ txs_named (tables_of (tree_of tree)) tree 0 (tables_of (tree_of tree)).functions in
    omega (arith, same)

pub made : (compiled : Compiled) → HasText compiled
    → entries_from (txs_from 0 compiled.ir.functions) (transactions_of compiled.program.typed)
    ≡ entries_of compiled.program
made compiled h =
    ap (λ (txs : List TxEntry). entries_from txs (transactions_of compiled.program.typed))
    (sym (ap (λ (p : ImageParts). p.txs) h.2.code
    ∙ logged_txs compiled.marks 0 0 compiled.ir.functions))
