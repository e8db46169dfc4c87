-- The law of cuts, turn by turn.
use Rattle.std.proofs.Common.{◌≡◌, ℕ, ◌-◌, ◌*◌, List, ℤ, sym, ap, ap₂, ◌∙◌, subst, arith}
use Rattle.cache_model.specs.Event.{CacheEvent}
use Rattle.cache_model.specs.Cache.{Words, Cache}
use Rattle.crash_law.specs.Law.{IsLeft, Retires}
use Rattle.crash_law.specs.Pools.{last_of}
use Rattle.crash_law.proofs.Again.{left_image}
use Rattle.pm_machine.specs.declared.effect.Effect.{Effect}
use Rattle.pm_machine.specs.declared.effect.End.{End}
use Rattle.pm_machine.specs.declared.records.Policy.TheVariants.{EndPool}
use Rattle.pm_machine.specs.declared.image.Image.{Image}
use Rattle.pm_machine.specs.Effects.{records_end}
use Rattle.pm_machine.specs.Runs.{Due, heap_in, end_of}
use Rattle.run_law.specs.Seen.{result_of}
use Rattle.tx_run.specs.Due.{due_call}
use Rattle.recovery.specs.Due.{due_clean, due_redo}
use Rattle.cut_law.specs.Law.{pool_with, BeginsOn, RunsSound}
use Rattle.cut_law.proofs.Cuts.{owes_after, empty_after, cut_call, call_at_rest}
use Rattle.cut_law.proofs.Cleans.{cut_clean}
use Rattle.cut_law.proofs.Redoes.{cut_redo}
use Rattle.pool_workers.specs.declared.task.Task.TheVariants.{Begun}
use Rattle.pool_workers.specs.Compartment.{cache_in}
use Rattle.pool_workers.specs.Task.{first_machine}
use Rattle.workers_law.specs.CutTurns.{CutTurnsLaw, CutPiecesLaw}
use Rattle.workers_law.specs.Fate.{fate_of, task_logs}
use Rattle.workers_law.proofs.Compartments.{compartment_images}
use Rattle.workers_law.proofs.Stands.{shown_images}

module _ (image : Image) (super : Words) (tx : ℕ) (args : List ℤ) (c : Cache) (one : Words) (d : ℕ)
    (end : End) (es : List Effect) (b : BeginsOn image super tx d c one)
    (r : RunsSound EndPool image tx args (heap_in image.parts.sizes c) end es) where
  pub fate : fate_of image (Begun tx args (first_machine image tx args)) c ≡ end
  fate = ap (λ (x : Due). end_of x.fate)
      (owes_after EndPool image super tx args c one d end es b.tx_fits r.few b.d_fits b.only b.good
      b.a_fits b.empty r.ran r.sound)

  pub logs : task_logs image (Begun tx args (first_machine image tx args)) c ≡ records_end 0 es
  logs =
      ap₂ (λ (x : Due) (m : ℕ). x.records - m)
      (owes_after EndPool image super tx args c one d end es b.tx_fits r.few b.d_fits b.only b.good
      b.a_fits b.empty r.ran r.sound)
      (empty_after EndPool image super tx args c one d end es b.tx_fits r.few b.d_fits b.only b.good
      b.a_fits b.empty r.ran r.sound)
      ∙ plain (records_end 0 es)
    where
      plain : (n : ℕ) → n - 0 ≡ n
      plain n = omega arith

pub cut_turns : CutTurnsLaw
cut_turns image super tx args c0 one d end es b r marks =
    let cuts = cut_call EndPool image super tx args c0 one d end es b.tx_fits r.few b.d_fits b.only
    b.good b.a_fits b.empty r.ran r.sound in
    let last = last_of (pool_with image super) one in (
      (λ c s other im. left_image _ c0 (due_call EndPool image tx args c0) other cuts.0
          ((shown_images (due_call EndPool image tx args c0) c0 c marks).0 other s im)),
      (λ c s other im. cuts.1 other
          ((shown_images (due_call EndPool image tx args c0) c0 c marks).1 other s im)),
      (λ c v is rests s.
          (shown_images (due_call EndPool image tx args c0) c0 c marks).2 s
          (call_at_rest EndPool image super tx args c0 one d end es b.tx_fits r.few b.d_fits b.only
          b.good b.a_fits b.empty r.ran r.sound
          (subst (λ (e : End). Retires (result_of EndPool last e)) (sym is) tt) rests)),
      fate image super tx args c0 one d end es b r,
      logs image super tx args c0 one d end es b r,
    )

pub cut_pieces : CutPiecesLaw
cut_pieces n c due first marks f i image super tx args one d only =
    let here : Cache = cache_in (n * i) n c in
    let left = (compartment_images n c due first marks f i).0 in (
      (λ end es b r same other im.
          left_image _ here (due_call EndPool image tx args here) other
          (cut_call EndPool image super tx args here one d end es b.tx_fits r.few b.d_fits b.only
          b.good b.a_fits b.empty r.ran r.sound).0
          (subst (λ (ds : List CacheEvent). IsLeft here ds other) same (left other im))),
      (λ h last end es m o r same other im.
          left_image _ here (due_redo EndPool image tx args m here) other
          (cut_redo EndPool image super tx args here one d h last end es r.few only o.owed r.ran
          r.sound m o.counted o.room).0
          (subst (λ (ds : List CacheEvent). IsLeft here ds other) same (left other im))),
      (λ h m g same other im.
          left_image _ here (due_clean image.parts.sizes m here) other
          (cut_clean image super here one d h only g.good m g.counted g.room).0
          (subst (λ (ds : List CacheEvent). IsLeft here ds other) same (left other im))),
    )
