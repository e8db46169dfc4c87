-- A transaction's entry, and the states in which its run begins.
use Rattle.std.proofs.Common.{◌≡◌, ℕ, ◌+◌, ◌-◌, ◌≤◌, List, []}
use Rattle.std.proofs.Common.{length, replicate, slice_get, Some, ℤ, pos, refl, sym}
use Rattle.std.proofs.Common.{ap, ◌∙◌, arith}
use Rattle.std.specs.Prelude.{nat_eq}
use Rattle.std.specs.List.{IsDistinct}
use Rattle.std.proofs.lemmas.List.{length-replicate}
use Rattle.cache_model.specs.Cache.{Words}
use Rattle.pool_map.specs.PoolFits.{PoolFits}
use Rattle.pool_map.specs.PoolMap.{PoolMap}
use Rattle.ir.specs.declared.function.Ir.{Ir}
use Rattle.pm_machine.specs.declared.image.Image.{Image}
use Rattle.pm_machine.specs.declared.op.TxEntry.{TxEntry}
use Rattle.pm_machine.specs.Machine.{start}
use Rattle.pm_machine.specs.Transactions as transactions
use Rattle.codegen.specs.Emit.{txs_from}
use Rattle.machine_law.specs.emitted.Moments.{RunMoment}
use Rattle.machine_law.proofs.emitted.SoundRun.{IsTx, entry_is}
use Rattle.machine_law.specs.pieces.Stands.{Stands}
use Rattle.machine_law.specs.matching.Compiled.{IsCodeOf}
use Rattle.machine_law.specs.matching.Match.{AreMatched}
use Rattle.machine_law.proofs.matching.Registers.{filled_is, filled_length}
use Rattle.machine_law.proofs.matching.Places.{first_is}
use Rattle.machine_law.proofs.matching.Compiled.{largest_room}
use Rattle.machine_law.proofs.matching.Within.{IsPlace, entry_within}

none_dirty : IsDistinct nat_eq []
unfolding IsDistinct
none_dirty = tt

module _ (image : Image) (program : Ir) (c : IsCodeOf image program) (tx : ℕ) (entry : TxEntry)
    (found : slice_get image.parts.txs (tx - 1) ≡ Some entry) (args : List ℤ) (heap : Words)
    (w : PoolMap) where
  abbrev pub first_moment : RunMoment
  first_moment = record { state = start image tx args; heap = heap; seen = [] }

  entered : IsTx 0 program.functions entry
  entered =
      let listed : slice_get (txs_from 0 program.functions) (tx - 1) ≡ Some entry =
      ap (λ (ts : List TxEntry). slice_get ts (tx - 1)) (sym c.code.txs) ∙ found in
      entry_is 0 program.functions (tx - 1) entry listed

  at_entry : slice_get program.functions entry.function ≡ Some entered.u
  at_entry = (let at : entry.function ≡ entered.number = omega (arith, entered.is) in
      ap (slice_get program.functions) at ∙ entered.there)

  pub begins_within : IsPlace program.functions entry.function 0
  begins_within = entry_within program c.well entry.function entered.u at_entry

  pub begins : Stands image.parts.sizes heap w → PoolFits program.shapes w
      → AreMatched image program entry.function 0 args [] w image.parts.sizes.ticks first_moment
  begins stands fits =
      let room : entered.u.registers + 8 ≤ image.largest =
      largest_room image program c entry.function entered.u at_entry in
      let blank : List ℤ = replicate image.largest (pos 0) in
      let long : length first_moment.state.top.registers ≡ image.largest =
      filled_length args blank 0 ∙ length-replicate image.largest (pos 0) in
      record {
        top = record {
          u = entered.u;
          found = at_entry;
          tx = entered.marked;
          function = ap transactions.entry_function found;
          place = sym (first_is image.parts.sizes program.shapes entered.u
              (c.room entry.function entered.u at_entry));
          holds = λ r low. filled_is args image.largest r (omega arith);
          room = omega arith;
        };
        below = refl;
        size = refl;
        ticks = refl;
        stands = stands;
        fits = fits;
        clean = record { lines = tt; distinct = none_dirty };
      }
