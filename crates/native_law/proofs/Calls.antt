-- A call of a compiled program's transaction can begin.
use Rattle.std.proofs.Common.{◌≡◌, ℕ, zero, suc, ◌+◌, ◌-◌, Bool, true, false, List, [], ◌∷◌, ◌++◌}
use Rattle.std.proofs.Common.{refl, sym, ◌∙◌, ap, arith, Some, ℤ}
use Rattle.std.specs.Prelude.{slice_get, if◌then◌else◌}
use Rattle.cache_model.specs.Cache.{Words}
use Rattle.ir.specs.declared.function.IrFunction.{IrFunction}
use Rattle.pm_machine.specs.declared.image.Image.{Image}
use Rattle.pm_machine.specs.declared.op.TxEntry.{TxEntry}
use Rattle.pm_machine.specs.Transactions.{entry_function}
use Rattle.codegen.specs.Emit.{txs_from}
use Rattle.machine_law.proofs.matching.Compiled.{function_is, made_here}
use Rattle.native_law.specs.Printed.{CanBegin}
use Rattle.native_law.proofs.Runs.{run_law}
use Rattle.native_law.proofs.Events.{events_law}
use Rattle.native_law.specs.Law.{IsCompiledCall, CompiledRunLaw, CompiledEventsLaw}
use Rattle.native_law.proofs.Printable.{printable}

-- the entry is that of one of these functions, the first of which has number f
record IsEntryOf (f : ℕ) (us : List IrFunction) (entry : TxEntry) : Type 0 where
  number : ℕ
  u : IrFunction
  there : slice_get us number ≡ Some u
  function : entry.function ≡ f + number
  parameters : entry.parameters ≡ u.parameters

entry_after : (f : ℕ) (v : IrFunction) (us : List IrFunction) (entry : TxEntry)
    → IsEntryOf (f + 1) us entry → IsEntryOf f (v ∷ us) entry
entry_after f v us entry h = (let is = h.function in record {
  number = suc h.number;
  u = h.u;
  there = h.there;
  function = omega (arith, is);
  parameters = h.parameters;
})

entry_by : (f : ℕ) (v : IrFunction) (us : List IrFunction) (entry : TxEntry)
    → ((j : ℕ) → slice_get (txs_from (f + 1) us) j ≡ Some entry → IsEntryOf (f + 1) us entry)
    → (tx : Bool) (k : ℕ) → slice_get ((if tx then record {
      function = f;
      parameters = v.parameters;
    } ∷ [] else []) ++ txs_from (f + 1) us) k ≡ Some entry → IsEntryOf f (v ∷ us) entry
entry_by f v us entry rest true zero e =
    let same : record { function = f; parameters = v.parameters } ≡ entry = cc in record {
      number = 0;
      u = v;
      there = refl;
      function = sym (ap (λ (x : TxEntry). x.function) same) ∙ omega arith;
      parameters = sym (ap (λ (x : TxEntry). x.parameters) same);
    }
entry_by f v us entry rest true (suc k) e = entry_after f v us entry (rest k e)
entry_by f v us entry rest false k e = entry_after f v us entry (rest k e)

entry_of : (f : ℕ) (us : List IrFunction) (entry : TxEntry) (k : ℕ)
    → slice_get (txs_from f us) k ≡ Some entry → IsEntryOf f us entry
entry_of f [] entry k e = absurd (cc)
entry_of f (v ∷ us) entry k e =
    entry_by f v us entry (λ j h. entry_of (f + 1) us entry j h) v.tx k e

can_begin : (image : Image) (heap : Words) (tx : ℕ) (args : List ℤ)
    → IsCompiledCall image heap tx args → CanBegin image heap tx args
can_begin image heap tx args call =
    let listed : slice_get (txs_from 0 call.program.functions) (tx - 1) ≡ Some call.entry =
    ap (λ (ts : List TxEntry). slice_get ts (tx - 1)) (sym call.code.code.txs) ∙ call.found in
    let of = entry_of 0 call.program.functions call.entry (tx - 1) listed in
    let is = of.function in
    let number : entry_function (slice_get image.parts.txs (tx - 1)) ≡ of.number =
    ap entry_function call.found ∙ omega (arith, is) in record {
      code = printable image call.program call.code;
      function = made_here image call.program call.code of.number of.u of.there;
      found = ap (λ (n : ℕ). slice_get image.parts.functions n) number
          ∙ function_is image call.program call.code of.number of.u of.there;
      parameters = sym of.parameters ∙ call.parameters;
      arguments = call.arguments;
      words = call.words;
    }

pub compiled_run : CompiledRunLaw
compiled_run p image k heap tx args call =
    run_law p image k heap tx args (can_begin image heap tx args call)

pub compiled_events : CompiledEventsLaw
compiled_events p image a k heap tx args call =
    events_law p image a k heap tx args (can_begin image heap tx args call)
