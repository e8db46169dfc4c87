-- The entries of transactions.
use Rattle.std.proofs.Common.{◌≡◌, ◌<◌, ℕ, true, false, List, [], Some, length, replicate, refl}
use Rattle.std.proofs.Common.{sym, ◌∙◌, ap, subst, arith, inl, inr}
use Rattle.std.specs.Prelude.{slice_get}
use Rattle.std.proofs.lemmas.Bool.{false≢true}
use Rattle.std.proofs.lemmas.List.{length-replicate, get_or-set_same}
use Rattle.std.proofs.lemmas.Option.{slice_get_within}
use mathlib.Core.Logic.{◌⊎◌}
use Rattle.ir.specs.declared.function.IrFunction.{IrFunction}
use Rattle.ir.specs.declared.fact.Fact.{Fact}
use Rattle.ir.specs.declared.fact.Fact.TheVariants.{Here, Unwritten, RootUnwritten, ReadRoot}
use Rattle.ir.specs.declared.fact.Fact.TheVariants.{ReadField, Freed}
use Rattle.ir.specs.Walk.{at_start}
use Rattle.ir.specs.Table.{holds}
use Rattle.ir.specs.Derived.{Flows}
use Rattle.ir.specs.Derived.Flows.{first}
use Rattle.clobber_pass.specs.declared.topic.Topic.{Topic}
use Rattle.clobber_pass.specs.inside.Class.{class_at, is_about, slot}
use Rattle.clobber_pass.specs.Row.{tells}
use Rattle.clobber_pass.specs.inside.Told.{row_width, column_of}
use Rattle.clobber_pass.specs.Sweep.{row_in}
use Rattle.clobber_pass.specs.inside.Sweep.{row_joined, join_in}
use Rattle.clobber_pass.specs.inside.Closed.{Within}
use Rattle.clobber_pass.specs.inside.Flow.{Entries, StartEntries, StartsAt, start_row}
use Rattle.clobber_pass.proofs.bits.Bits.{has_bit_zero}
use Rattle.clobber_pass.proofs.bits.Joins.{joined_tells, row_in_replicate}
use Rattle.clobber_pass.proofs.derived.Columns.{length_entry, entry_out}
use Rattle.clobber_pass.proofs.derived.Flowing.{sound_entry, shaped_entry, grows_join}

-- what the first row records holds at the start of a walk
start_holds : (b : Fact) → column_of 0 (slot b) ≡ 0 → holds at_start b ≡ true
start_holds Here h = refl
start_holds (RootUnwritten y) h = refl
start_holds (Unwritten r s y) h = refl
start_holds (ReadRoot y) h = let no_way : 1 ≡ 0 = h in absurd (omega (arith, no_way))
start_holds (ReadField s y) h = let no_way : 1 ≡ 0 = h in absurd (omega (arith, no_way))
start_holds Freed h = let no_way : 1 ≡ 0 = h in absurd (omega (arith, no_way))

module _ (functions : List IrFunction) (topic : Topic) (entries new : List (List ℕ))
    (all : Entries functions topic entries) (f : ℕ) (u : IrFunction)
    (there : slice_get functions f ≡ Some u) (tx : u.tx ≡ true)
    (row : List ℕ) (row_is : row ≡ start_row topic u.registers)
    (is : new ≡ join_in entries f row) where
  size : length row ≡ row_width topic u.registers
  size = ap length row_is ∙ length_entry topic 0 u.registers 0

  pub start_entries : Entries functions topic new
  start_entries = subst (Entries functions topic) (sym is) (record {
    sound = sound_entry functions topic entries f row all.sound brings;
    shaped = shaped_entry functions topic entries f row all.shaped shape;
  })
    where
      brings : (x : ℕ) (b : Fact) → x < 16 → is_about (class_at topic x) b ≡ true
          → tells row x (slot b) ≡ true → Flows functions f 0 b
      brings x b few about h = first (u, there, tx)
          (start_holds b (entry_out topic 0 u.registers 0 (slot b) x
          (subst (λ r. tells r x (slot b) ≡ true) row_is h)))

      shape : (v : IrFunction) → slice_get functions f ≡ Some v
          → (row ≡ []) ⊎ (length row ≡ row_width topic v.registers)
      shape v v_there =
          let both : Some u ≡ Some v = sym there ∙ v_there in
          let same : u ≡ v = cc in
          inr (size ∙ ap (λ (w : IrFunction). row_width topic w.registers) same)

  pub start_here : StartsAt functions topic new f
  start_here = record { starts = told }
    where
      told : (v : IrFunction) → slice_get functions f ≡ Some v → v.tx ≡ true
          → Within (start_row topic v.registers) (row_in new f)
      told v v_there v_tx x s h =
          let both : Some u ≡ Some v = sym there ∙ v_there in
          let same : u ≡ v = cc in
          let inside : f < length entries =
          subst (λ n. f < n) (sym all.shaped.count) (slice_get_within functions f u there) in
          let stands : row_in new f ≡ row_joined (row_in entries f) row =
          ap (λ e. row_in e f) is ∙ get_or-set_same entries f (row_joined (row_in entries f) row)
          [] inside in
          let mine : tells row x s ≡ true =
          subst (λ r. tells r x s ≡ true) (sym row_is)
          (subst (λ (w : IrFunction). tells (start_row topic w.registers) x s ≡ true)
          (sym same) h) in
          subst (λ r. tells r x s ≡ true) (sym stands)
          (joined_tells (row_width topic u.registers) (row_in entries f) row x s
          (all.shaped.each f u there) size mine)

pub start_keeps : (functions : List IrFunction) (topic : Topic) (entries new : List (List ℕ))
    (g : ℕ) (row : List ℕ) → new ≡ join_in entries g row → (f : ℕ)
    → StartsAt functions topic entries f → StartsAt functions topic new f
start_keeps functions topic entries new g row is f start = record {
  starts = λ u there tx x s h. subst (λ e. tells (row_in e f) x s ≡ true) (sym is)
      (grows_join entries g row f x s (start.starts u there tx x s h));
}

-- a function that is no transaction, or doesn't exist
pub start_none : (functions : List IrFunction) (topic : Topic) (entries : List (List ℕ)) (f : ℕ)
    (u : IrFunction) → slice_get functions f ≡ Some u → u.tx ≡ false
    → StartsAt functions topic entries f
start_none functions topic entries f u there tx = record { starts = told }
  where
    told : (v : IrFunction) → slice_get functions f ≡ Some v → v.tx ≡ true
        → Within (start_row topic v.registers) (row_in entries f)
    told v v_there v_tx =
        let both : Some u ≡ Some v = sym there ∙ v_there in
        let same : u ≡ v = cc in
        absurd (false≢true (sym tx ∙ ap (λ (w : IrFunction). w.tx) same ∙ v_tx))

pub no_entries : (functions : List IrFunction) (topic : Topic)
    → Entries functions topic (replicate (length functions) [])
no_entries functions topic = record {
  sound = record {
    flows = λ x f b few about h.
        absurd (false≢true (sym (has_bit_zero x) ∙ subst (λ r. tells r x (slot b) ≡ true)
        (row_in_replicate (length functions) f) h));
  };
  shaped = record {
    count = length-replicate (length functions) [];
    each = λ f u there.
        inl (row_in_replicate (length functions) f);
  };
}

-- each function below the length is each function
pub all_start : (functions : List IrFunction) (topic : Topic) (entries : List (List ℕ))
    → ((f : ℕ) → f < length functions → StartsAt functions topic entries f)
    → StartEntries functions topic entries
all_start functions topic entries each =
    record {
      starts = λ f u there tx. (each f (slice_get_within functions f u there)).starts u
          there tx;
    }
