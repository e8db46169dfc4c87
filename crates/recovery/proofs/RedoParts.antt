-- The records restored, and then the run.
use Rattle.std.proofs.Common.{◌≡◌, ◌≤◌, ℕ, ◌+◌, List, ℤ, inr, subst, arith}
use Rattle.cache_model.specs.Cache.{Cache}
use Rattle.cache_model.specs.Event.{CacheEvent}
use Rattle.cache_model.specs.Play.{play}
use Rattle.pmem.specs.Device.{Device}
use Rattle.pmem.specs.Played.{PlaysAll, PlaysPart}
use Rattle.pmem.specs.declared.answer.Refusal.{Refusal}
use Rattle.pmem.specs.declared.answer.Refusal.TheVariants as refusal
use Rattle.pmem.proofs.Glue.{all_append, part_left, part_right}
use Rattle.pmem.proofs.Refused.{all_cache, all_on}
use Rattle.pm_machine.specs.declared.effect.End.{End}
use Rattle.pm_machine.specs.declared.records.Policy.{Policy}
use Rattle.pm_machine.specs.declared.image.Image.{Image}
use Rattle.pm_machine.specs.Machine.{State, start}
use Rattle.pm_machine.specs.Runs.{end_of, due_on}
use Rattle.tx_run.specs.declared.answer.Settled.{Settled}
use Rattle.tx_run.specs.declared.answer.Settled.TheVariants.{Done, Trap, Aborted, Off, Failed}
use Rattle.tx_run.specs.declared.answer.Settled.TheVariants.{NoMemory}
use Rattle.tx_run.specs.Due.{due_run, run_steps}
use Rattle.tx_run.specs.Settled.{HasSettled, HasLogged, Settles}
use Rattle.recovery.specs.Due.{due_back, due_redo}
use Rattle.recovery.specs.Recovered.{redo_steps, HasRedone, Redid}
use Rattle.recovery.specs.inside.Recovered.{redo_answer}

module _ (p : Policy) (image : Image) (tx : ℕ) (args : List ℤ) (n : ℕ) (d b : Device) where
  abbrev state : State
  state = start image tx args

  abbrev back : List CacheEvent
  back = due_back image.parts.sizes n d.cache

  abbrev cache_after : Cache
  cache_after = play d.cache back

  -- the restoring was cut
  pub back_cut : (why : Refusal) → PlaysPart why d back b
      → PlaysPart why d (due_redo p image tx args n d.cache) b
  back_cut why q = part_left back (due_run p image state cache_after) why d b q

  module _ (m : Device) (done : PlaysAll d back m) where
    same : m.cache ≡ cache_after
    same = all_cache back d m done

    all : PlaysAll m (due_run p image state m.cache) b
        → PlaysAll d (due_redo p image tx args n d.cache) b
    all h = all_append back (due_run p image state cache_after) d m b done
        (subst (λ (c : Cache). PlaysAll m (due_run p image state c) b) same h)

    right : (why : Refusal) → PlaysPart why m (due_run p image state m.cache) b
        → PlaysPart why d (due_redo p image tx args n d.cache) b
    right why h = part_right back (due_run p image state cache_after) why d m b done
        (subst (λ (c : Cache). PlaysPart why m (due_run p image state c) b) same h)

    ended : (e : End) (k j k1 : ℕ) → j ≡ k + n → HasSettled e p image state m b j k1
        → HasRedone e p image tx args n d b k k1
    ended e k j k1 back_steps h = record {
      fate = subst (λ (c : Cache). end_of (due_on p image state c).fate ≡ e) same h.fate;
      played = all h.played;
      steps =
          let last = subst (λ (c : Cache). k1 ≡ j + run_steps p image state c) same h.steps in
          omega arith;
    }

    pub still_on : m.on ≡ d.on
    still_on = all_on back d m done

    pub spent_of : (k j k1 : ℕ) → j ≡ k + n → k1 ≤ j + run_steps p image state m.cache →
        k1 ≤ k + redo_steps p image tx args n d
    spent_of k j k1 back_steps h =
        let last = subst (λ (c : Cache). k1 ≤ j + run_steps p image state c) same h in
        omega arith

    pub redid_of : (a : Settled) (k j k1 : ℕ) → j ≡ k + n → Settles a p image state m b j k1
        → Redid (redo_answer a) p image tx args n d b k k1
    redid_of (Done v l) k j k1 is h =
        (ended _ k j k1 is h.0, subst (HasLogged l p image state) same h.1)
    redid_of (Trap t) k j k1 is h = (h.0, ended _ k j k1 is h.1)
    redid_of (Aborted t) k j k1 is h = (h.0, ended _ k j k1 is h.1)
    redid_of Off k j k1 is h = right refusal.Off h
    redid_of Failed k j k1 is h = right refusal.Failed h
    redid_of NoMemory k j k1 is h = inr (right refusal.NoMemory h)
