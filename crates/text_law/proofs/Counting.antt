-- One function counts the log records of the calls of all programs of a tree, by marks that are
-- exact.
use Rattle.std.proofs.Common.{◌≡◌, ℕ, zero, suc, ◌+◌, ◌*◌, ℤ, Bool, false, List, []}
use Rattle.std.proofs.Common.{Option, Some, None, refl, sym, ap, ◌∙◌, subst}
use Rattle.std.specs.Prelude.{slice_get}
use Rattle.std.specs.Option.{option_map_or}
use Rattle.pool_layout.specs.declared.limits.Sizes.{Sizes}
use Rattle.pool_map.specs.PoolMap.{PoolMap}
use Rattle.c_tree.specs.ItemTree.{ItemTree}
use Rattle.c_tree.specs.Program as tree
use Rattle.c_tree.specs.Program.{tree_of}
use Rattle.c_types.specs.Shapes.{transactions_in}
use Rattle.c_types.specs.Tables.{tables_of}
use Rattle.ir.specs.declared.function.Ir.{Ir}
use Rattle.code_meaning.specs.Code.{code_start}
use Rattle.code_meaning.specs.Deeds.{Deed}
use Rattle.code_meaning.specs.Logged.{stores_in, TakeRecords}
use Rattle.code_meaning.specs.Whole.{whole}
use Rattle.lower.specs.Program.{lowered}
use Rattle.lower_law.specs.Law.{entry_in}
use Rattle.clobber_pass.specs.declared.marking.MarkTable.{MarkTable}
use Rattle.clobber_pass.specs.Logged as table
use Rattle.cnvm_session.specs.declared.program.Program.{Program}
use Rattle.cnvm_session.specs.Marks.{is_marked, rolls_back_of}
use Rattle.cnvm_session.specs.Pool.{sizes_of}
use Rattle.session_law.specs.Source.{deeds_in, LogsBy}
use Rattle.session_law.specs.State.{Pending}
use Rattle.compiled_law.specs.inside.Records.{asked_of, fresh}
use Rattle.compiled_law.proofs.Marked.{all_stores}
use Rattle.compiled_law.proofs.Recording.{they_take}
use Rattle.user_law.specs.Source.{Logs}

-- whether a transaction of these items is marked
abbrev marks_in : List ItemTree → ℕ → Bool
marks_in items zero = false
marks_in items (suc i) =
    option_map_or is_marked (slice_get (transactions_in (tables_of items).functions) i) false

marks_are : (program : Program) (tx : ℕ)
    → rolls_back_of program tx ≡ marks_in (tree_of program.typed) tx
marks_are program zero = refl
marks_are program (suc i) = refl

-- what a call's run does in this code, whose transaction begins there; nothing if there is none
abbrev call_deeds : Ir → Sizes → PoolMap → List ℤ → Option ℕ → List Deed
call_deeds ir s pool args o = option_map_or (deeds_in ir s.ticks pool args) o []

-- n words take a record in the call's run, by the code alone
abbrev CountsBy : Bool → Ir → Sizes → PoolMap → Pending → ℕ → Type 0
CountsBy rolls ir s pool call n =
    TakeRecords rolls ir.functions []
    (stores_in s (call_deeds ir s pool call.args (entry_in call.tx ir.functions))) n

module _ (marks : MarkTable) (typed : tree.Program)
    (exact : table.IsExact (lowered typed).functions marks) where
  abbrev ir : Ir
  ir = lowered typed

  abbrev counted : Bool → Sizes → PoolMap → List ℤ → Option ℕ → ℕ
  counted rolls s pool args o =
      fresh [] (asked_of rolls (table.is_logged marks) s (call_deeds ir s pool args o))

  counted_is : (rolls : Bool) (s : Sizes) (pool : PoolMap) (args : List ℤ) (o : Option ℕ) →
      TakeRecords rolls ir.functions [] (stores_in s (call_deeds ir s pool args o))
      (counted rolls s pool args o)
  counted_is rolls s pool args None = refl
  counted_is rolls s pool args (Some g) =
      they_take marks ir exact rolls s (deeds_in ir s.ticks pool args g)
      (all_stores ir ((s.ticks + 1) * whole ir.functions) (code_start g args pool s.ticks)) []

  abbrev pub tree_logs : Sizes → Logs
  tree_logs s pool call =
      counted (marks_in (tree_of typed) call.tx) s pool call.args (entry_in call.tx ir.functions)

  pub tree_counts : (program : Program) → tree_of program.typed ≡ tree_of typed
      → lowered program.typed ≡ ir → (pool : PoolMap) (call : Pending)
      → LogsBy (rolls_back_of program call.tx) program pool call.tx call.args
      (tree_logs (sizes_of program) pool call)
  tree_counts program items code pool call =
      let s : Sizes = sizes_of program in
      let n : ℕ = tree_logs s pool call in
      let same : rolls_back_of program call.tx ≡ marks_in (tree_of typed) call.tx =
      marks_are program call.tx ∙ ap (λ (xs : List ItemTree). marks_in xs call.tx) items in
      subst (λ (rolls : Bool). CountsBy rolls (lowered program.typed) s pool call n) (sym same)
      (subst (λ (x : Ir). CountsBy (marks_in (tree_of typed) call.tx) x s pool call n) (sym code)
      (counted_is (marks_in (tree_of typed) call.tx) s pool call.args
      (entry_in call.tx ir.functions)))
