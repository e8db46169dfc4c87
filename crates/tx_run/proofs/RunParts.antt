-- A run, and the due events after it.
use Rattle.std.proofs.Common.{◌≡◌, ◌≤◌, ℕ, ◌+◌, List, ℤ, refl, sym, ap, ◌∙◌, subst, arith}
use Rattle.cache_model.specs.Cache.{Cache, Words, view}
use Rattle.cache_model.specs.Event.{CacheEvent}
use Rattle.cache_model.specs.Play.{play}
use Rattle.pmem.specs.Device.{Device}
use Rattle.pmem.specs.Played.{PlaysAll, PlaysPart, Played}
use Rattle.pmem.specs.declared.answer.Refusal.{Refusal}
use Rattle.pmem.specs.declared.answer.Refusal.TheVariants as refusal
use Rattle.pmem.specs.declared.answer.LogAnswer.{LogAnswer}
use Rattle.pmem.specs.declared.answer.LogAnswer.TheVariants.{Done, Off, Failed, NoMemory}
use Rattle.pmem.proofs.Glue.{all_append, part_left, part_right}
use Rattle.pmem.proofs.Refused.{all_cache, all_on}
use Rattle.pool_map.specs.declared.trap.TrapKind.{TrapKind}
use Rattle.pool_layout.specs.declared.limits.Sizes.{Sizes}
use Rattle.pool_layout.specs.Log.{count}
use Rattle.pool_layout.specs.declared.places.Place.TheVariants.{RecordStamp}
use Rattle.pool_layout.specs.Places.{at, pool_of}
use Rattle.pool_layout.proofs.Records.{leading_le}
use Rattle.clobber_log.specs.Logs.{attempt_in, count_in}
use Rattle.clobber_log.specs.Restore.{restore_events}
use Rattle.pm_machine.specs.declared.records.Policy.{Policy}
use Rattle.pm_machine.specs.declared.records.Policy.TheVariants.{EndPool, RollBack}
use Rattle.pm_machine.specs.declared.effect.End.{End}
use Rattle.pm_machine.specs.declared.effect.End.TheVariants.{Halted, Trapped}
use Rattle.pm_machine.specs.declared.image.Image.{Image}
use Rattle.pm_machine.specs.Machine.{State}
use Rattle.pm_machine.specs.Runs.{Due, end_of, due_on}
use Rattle.pm_machine.specs.Answers.{HasRun}
use Rattle.tx_run.specs.Due.{retiring, retiring_still, due_undo, trap_events, trap_steps}
use Rattle.tx_run.specs.Due.{tail_events, tail_steps, due_run, run_steps, most_steps}
use Rattle.tx_run.specs.Settled.{HasSettled, Settles}
use Rattle.tx_run.specs.inside.Settled.{log_done, trap_done, log_trap}

-- there are no more valid records than records
pub count_few : (z : Sizes) (image : Words) → count_in z image ≤ z.records
unfolding count
count_few z image =
    leading_le (λ j. image (at (pool_of z) (RecordStamp j))) (attempt_in z image) z.records

-- a run alone takes no more steps than its call
pub most_run : (p : Policy) (image : Image) (k j : ℕ) → j ≤ k + image.parts.most
    → j ≤ k + most_steps p image
most_run EndPool image k j few = few
most_run RollBack image k j few = omega arith

-- the steps after a trap
pub trap_few : (p : Policy) (image : Image) (c : Cache) (k j k1 : ℕ) → j ≤ k + image.parts.most
    → k1 ≤ j + trap_steps p image.parts.sizes c → k1 ≤ k + most_steps p image
trap_few EndPool image c k j k1 first last = omega arith
trap_few RollBack image c k j k1 first last =
    let few = count_few image.parts.sizes (view c) in omega arith

-- the undo
module _ (z : Sizes) (d b : Device) where
  abbrev restoring : List CacheEvent
  restoring = restore_events z (view d.cache)

  pub undo_cut : (why : Refusal) → PlaysPart why d restoring b →
      PlaysPart why d (due_undo z d.cache) b
  undo_cut why p = part_left restoring (retiring_still (play d.cache restoring)) why d b p

  module _ (m : Device) (done : PlaysAll d restoring m) where
    right : (why : Refusal) → PlaysPart why m (retiring_still m.cache) b →
        PlaysPart why d (due_undo z d.cache) b
    right why p =
        part_right restoring (retiring_still (play d.cache restoring)) why d m b done
        (subst (λ (c : Cache). PlaysPart why m (retiring_still c) b)
        (all_cache restoring d m done) p)

    pub undo_of : (a : LogAnswer) → Played a m (retiring_still m.cache) b →
        Played a d (due_undo z d.cache) b
    undo_of Done p =
        all_append restoring (retiring_still (play d.cache restoring)) d m b done
        (subst (λ (c : Cache). PlaysAll m (retiring_still c) b) (all_cache restoring d m done) p)
    undo_of Off p = right refusal.Off p
    undo_of Failed p = right refusal.Failed p
    undo_of NoMemory p = right refusal.NoMemory p

    pub undo_on : m.on ≡ d.on
    undo_on = all_on restoring d m done

-- the run, and what follows it; the counter rose from k to j, and then to k1
module _ (p : Policy) (image : Image) (s : State) (d m b : Device) (k j k1 l : ℕ) where
  abbrev run : Due
  run = due_on p image s d.cache

  abbrev z : Sizes
  z = image.parts.sizes

  abbrev Has : End → Type 0
  Has e = HasRun e run (count_in image.parts.sizes (view d.cache)) l d m k j

  abbrev ran_to : Cache
  ran_to = play d.cache run.events

  abbrev tail : List CacheEvent
  tail = tail_events p image.parts.sizes (end_of run.fate) (play d.cache run.events)

  tails : (e : End) → Has e → tail_events p z e m.cache ≡ tail
  tails e h = ap (tail_events p z e) (all_cache run.events d m h.played)
      ∙ ap (λ (q : End). tail_events p z q ran_to) (sym h.fate)

  tail_is : (e : End) → Has e → tail_steps p z e m.cache ≡ tail_steps p z (end_of run.fate) ran_to
  tail_is e h = ap (tail_steps p z e) (all_cache run.events d m h.played)
      ∙ ap (λ (q : End). tail_steps p z q ran_to) (sym h.fate)

  whole : (e : End) → Has e → PlaysAll m (tail_events p z e m.cache) b
      → PlaysAll d (due_run p image s d.cache) b
  whole e h all = all_append run.events tail d m b h.played
      (subst (λ (es : List CacheEvent). PlaysAll m es b) (tails e h) all)

  part : (e : End) (why : Refusal) → Has e → PlaysPart why m (tail_events p z e m.cache) b
      → PlaysPart why d (due_run p image s d.cache) b
  part e why h q = part_right run.events tail why d m b h.played
      (subst (λ (es : List CacheEvent). PlaysPart why m es b) (tails e h) q)

  settled : (e : End) → Has e → PlaysAll m (tail_events p z e m.cache) b
      → k1 ≡ j + tail_steps p z e m.cache → HasSettled e p image s d b k k1
  settled e h all last = record {
    fate = h.fate;
    played = whole e h all;
    steps = let first = h.steps in let same = tail_is e h in omega arith;
  }

  -- the device is on after the run
  pub still_on : (e : End) → Has e → m.on ≡ d.on
  still_on e h = all_on run.events d m h.played

  -- the steps of both
  pub run_bound : (e : End) → Has e → k1 ≤ j + tail_steps p z e m.cache
      → k1 ≤ k + run_steps p image s d.cache
  run_bound e h last = let first = h.steps in let same = tail_is e h in omega arith

  pub settle_done : (v : ℤ) (a : LogAnswer) → Has (Halted v) → Played a m (retiring v m.cache) b
      → k1 ≡ j → Settles (log_done a v l) p image s d b k k1
  settle_done v Done h played last = (settled (Halted v) h played (omega arith), h.logged)
  settle_done v Off h played last = part (Halted v) refusal.Off h played
  settle_done v Failed h played last = part (Halted v) refusal.Failed h played
  settle_done v NoMemory h played last = part (Halted v) refusal.NoMemory h played

  ends_as : (q : Policy) (t : TrapKind) → q ≡ p → HasSettled (Trapped t) p image s d b k k1
      → Settles (trap_done q t) p image s d b k k1
  ends_as EndPool t is h = (sym is, h)
  ends_as RollBack t is h = (sym is, h)

  pub settle_trap : (t : TrapKind) (a : LogAnswer) → Has (Trapped t)
      → Played a m (trap_events p z t m.cache) b
      → (a ≡ Done → k1 ≡ j + trap_steps p z m.cache)
      → Settles (log_trap a p t) p image s d b k k1
  settle_trap t Done h played last =
      ends_as p t refl (settled (Trapped t) h played (last refl))
  settle_trap t Off h played last = part (Trapped t) refusal.Off h played
  settle_trap t Failed h played last = part (Trapped t) refusal.Failed h played
  settle_trap t NoMemory h played last = part (Trapped t) refusal.NoMemory h played

-- the run itself was cut
pub cut_run : (p : Policy) (image : Image) (s : State) (d b : Device) (why : Refusal)
    → PlaysPart why d (due_on p image s d.cache).events b
    → PlaysPart why d (due_run p image s d.cache) b
cut_run p image s d b why q = part_left (due_on p image s d.cache).events
    (tail_events p image.parts.sizes (end_of (due_on p image s d.cache).fate)
    (play d.cache (due_on p image s d.cache).events)) why d b q
