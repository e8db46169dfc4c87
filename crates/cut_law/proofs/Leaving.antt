-- The effect of a call and of a recovery on the device, by their answers.
use Rattle.std.proofs.Common.{◌≡◌, ◌⊎◌, ⊎_elim, ℕ, ◌+◌, ◌^◌, ◌<◌, ◌≤◌, List, length, Some}
use Rattle.std.proofs.Common.{ℤ, sym, ap, ◌∙◌, subst, arith}
use Rattle.cache_model.specs.Event.{CacheEvent}
use Rattle.cache_model.specs.Cache.{Words}
use Rattle.cache_model.specs.Play.{play}
use Rattle.cache_model.specs.Image.{Images, HasOne}
use Rattle.cache_model.specs.During.{during}
use Rattle.pmem.specs.Device.{Device}
use Rattle.pmem.specs.Played.{PlaysAll, PlaysPart}
use Rattle.pmem.specs.declared.answer.Refusal.{Refusal}
use Rattle.pmem.specs.declared.answer.Refusal.TheVariants.{Off, Failed, NoMemory}
use Rattle.pmem.specs.declared.answer.Phase.TheVariants as phase
use Rattle.pmem.proofs.Refused.{all_cache}
use Rattle.pmem.proofs.Parts.{part_during, all_during, during_start}
use Rattle.pool_layout.specs.declared.places.TheConstants.{ARGUMENTS}
use Rattle.pool_layout.specs.declared.places.Place.TheVariants.{Last}
use Rattle.pool_layout.specs.Places.{at, pool_of}
use Rattle.pool_layout.specs.Log.{count}
use Rattle.pool_layout.specs.Good.{Good}
use Rattle.pm_machine.specs.declared.effect.Effect.{Effect}
use Rattle.pm_machine.specs.declared.effect.End.{End}
use Rattle.pm_machine.specs.declared.effect.End.TheVariants.{Halted, Trapped}
use Rattle.pm_machine.specs.declared.image.Image.{Image}
use Rattle.pm_machine.specs.Effects.{heap_end, records_end}
use Rattle.pm_machine.specs.declared.records.Policy.{Policy}
use Rattle.pm_machine.specs.Machine.{Finished}
use Rattle.pm_machine.specs.Logging.{tx_run}
use Rattle.pm_machine.specs.Runs.{heap_in, Due, end_of}
use Rattle.crash_law.specs.Pools.{Owed}
use Rattle.crash_law.specs.Law.{IsCut, IsEnd, IsEnded, KeepsLast}
use Rattle.run_law.specs.Seen.{result_of, E, W}
use Rattle.run_law.specs.Sound.{IsSoundRun}
use Rattle.tx_run.specs.declared.answer.CallAnswer.{CallAnswer}
use Rattle.tx_run.specs.declared.answer.CallAnswer.TheVariants as call
use Rattle.tx_run.specs.Due as plays
use Rattle.tx_run.specs.Called.{Called, HasCalled, called_run, call_steps}
use Rattle.recovery.specs.declared.answer.RecoverAnswer.{RecoverAnswer}
use Rattle.recovery.specs.declared.answer.RecoverAnswer.TheVariants as recover
use Rattle.recovery.specs.Due.{due_redo}
use Rattle.recovery.specs.Recovered.{Redid, HasRedone}
use Rattle.cut_law.specs.Law.{call_of, pool_with}
use Rattle.cut_law.specs.Leaves.{AnswerTells, Retells}
use Rattle.cut_law.specs.Steps.{run_steps}
use Rattle.cut_law.proofs.Cuts.{owes_after, steps_after, empty_after, cut_call}
use Rattle.cut_law.proofs.Redoes.{redo_owes, cut_redo}

module _ (p : Policy) (image : Image) (super : Words) (tx : ℕ) (args : List ℤ) (d b : Device)
    (one : Words) (n : ℕ) (end : End) (es : List Effect)
    (tx_fits : tx < 2 ^ 63) (few : length args ≤ ARGUMENTS) (n_fits : n < 2 ^ 62)
    (only : HasOne d.cache one)
    (good : Good (pool_with image super) n (heap_in image.parts.sizes d.cache) one)
    (a_fits : good.attempt < 2 ^ 62)
    (empty : count (pool_of image.parts.sizes) good.attempt one ≡ 0)
    (ran : tx_run p image image.parts.most (heap_in image.parts.sizes d.cache) tx args
    ≡ Finished end es) (sound : IsSoundRun p end es) where
  abbrev h : Words
  h = heap_in image.parts.sizes d.cache

  abbrev last : ℤ
  last = one (at (pool_of image.parts.sizes) Last)

  abbrev Cut : Words → Type 0
  Cut = IsCut (pool_with image super) (call_of n tx args) (E p es) (W es) h (heap_end h es) last
      (result_of p last end)

  abbrev Ended : Words → Type 0
  Ended = IsEnded (pool_with image super) (call_of n tx args) h (heap_end h es)
      (result_of p last end)

  abbrev events : List CacheEvent
  events = plays.due_call p image tx args d.cache

  cuts : during d.cache events (Images Cut) × Images Ended (play d.cache events)
  cuts = cut_call p image super tx args d.cache one n end es tx_fits few n_fits only good a_fits
      empty ran sound

  owes : (called_run p image tx args d).fate ≡ Some end
      × ((called_run p image tx args d).records ≡ records_end 0 es)
  owes =
      let is = owes_after p image super tx args d.cache one n end es tx_fits few n_fits only good
      a_fits empty ran sound in
      (ap (λ (x : Due). x.fate) is, ap (λ (x : Due). x.records) is)

  whole : PlaysAll d events b → Images Cut b.cache
  whole all = all_during (Images Cut) events d b all cuts.0

  part : (why : Refusal) → PlaysPart why d events b → Images Cut b.cache
  part why q = part_during (Images Cut) why events d b q cuts.0

  ended : PlaysAll d events b → Images Ended b.cache
  ended all = subst (Images Ended) (sym (all_cache events d b all)) cuts.1

  fate : end_of (called_run p image tx args d).fate ≡ end
  fate = ap end_of owes.0

  taken : (k k1 : ℕ) → k1 ≡ k + call_steps p image tx args d → k1 ≡ k + run_steps p end es
  taken k k1 is = is ∙ ap (λ (x : ℕ). k + x)
      (steps_after p image super tx args d.cache one n end es tx_fits few n_fits only good a_fits
      empty ran sound)

  -- a call that came to its end
  came : (e : End) (k k1 : ℕ) → HasCalled e p image tx args d b k k1
      → Images Cut b.cache × ((end ≡ e) × Images Ended b.cache × (k1 ≡ k + run_steps p end es))
  came e k k1 called = (
    whole called.played,
    (sym fate ∙ called.fate, ended called.played, taken k k1 called.steps),
  )

  pub call_leaves : (answer : CallAnswer) (k k1 : ℕ) → Called answer p image tx args d b k k1
      → Images Cut b.cache × AnswerTells answer p end es (Images Ended b.cache) k k1
  call_leaves (call.Done v l) k k1 called =
      let clear = empty_after p image super tx args d.cache one n end es tx_fits few n_fits only
      good a_fits empty ran sound in
      let logs = called.1 in
      let records = owes.1 in
      let is = came (Halted v) k k1 called.0 in
      (is.0, (is.1.0, omega arith, is.1.1, is.1.2))
  call_leaves (call.Trap t) k k1 called =
      let is = came (Trapped t) k k1 called.1 in (is.0, (called.0, is.1.0, is.1.1, is.1.2))
  call_leaves (call.Aborted t) k k1 called =
      let is = came (Trapped t) k k1 called.1 in (is.0, (called.0, is.1.0, is.1.1, is.1.2))
  call_leaves (call.Off q) k k1 called = (part Off called.0, tt)
  call_leaves call.Failed k k1 called = (part Failed called, tt)
  call_leaves call.NoMemory k k1 called = (part NoMemory called, tt)
  call_leaves (call.Unusable t) k k1 called = absurd called
  call_leaves call.Numbers k k1 called = absurd called

module _ (p : Policy) (image : Image) (super : Words) (tx : ℕ) (args : List ℤ) (d b : Device)
    (one : Words) (n : ℕ) (g : Words) (last : ℤ) (end : End) (es : List Effect)
    (few : length args ≤ ARGUMENTS) (only : HasOne d.cache one)
    (owed : Owed (pool_with image super) (call_of n tx args) (E p es) (W es) g
    (KeepsLast (result_of p last end)) one)
    (ran : tx_run p image image.parts.most g tx args ≡ Finished end es)
    (sound : IsSoundRun p end es)
    (m : ℕ) (counted : count (pool_of image.parts.sizes) owed.attempt one ≡ m) (room : 0 < m
    → owed.attempt < 2 ^ 62) where
  abbrev Finished' : Words → Type 0
  Finished' = IsEnded (pool_with image super) (call_of n tx args) g (heap_end g es)
      (result_of p last end)

  abbrev Left : Words → Type 0
  Left other = Owed (pool_with image super) (call_of n tx args) (E p es) (W es) g
      (KeepsLast (result_of p last end)) other
      ⊎ IsEnd (pool_with image super) (call_of n tx args) g (heap_end g es)
      (result_of p last end) other

  abbrev list : List CacheEvent
  list = due_redo p image tx args m d.cache

  redo_cuts : during d.cache list (Images Left) × Images Finished' (play d.cache list)
  redo_cuts = cut_redo p image super tx args d.cache one n g last end es few only owed ran sound m
      counted room

  redo_part : (why : Refusal) → PlaysPart why d list b → Images Left b.cache
  redo_part why q = part_during (Images Left) why list d b q redo_cuts.0

  redo_whole : PlaysAll d list b → Images Left b.cache
  redo_whole all = all_during (Images Left) list d b all redo_cuts.0

  redo_ended : PlaysAll d list b → Images Finished' b.cache
  redo_ended all = subst (Images Finished') (sym (all_cache list d b all)) redo_cuts.1

  -- a recovery that came to its end
  redone : (e : End) (k k1 : ℕ) → HasRedone e p image tx args m d b k k1
      → Images Left b.cache
      × ((end ≡ e) × Images Finished' b.cache × (k1 ≡ (k + m) + run_steps p end es))
  redone e k k1 redid =
      let own = redo_owes p image super tx args d.cache one n g last end es few only owed ran sound
      m counted room in
      let steps = own.steps in
      let taken = redid.steps in (
        redo_whole redid.played,
        (sym (ap end_of own.fate) ∙ redid.fate, redo_ended redid.played, omega arith),
      )

  pub redo_leaves : (answer : RecoverAnswer) (k k1 : ℕ) → Redid answer p image tx args m d b k k1
      → Images Left b.cache × Retells answer p end es (Images Finished' b.cache) (k + m) k1
  redo_leaves (recover.Redone v l) k k1 redid =
      let own = redo_owes p image super tx args d.cache one n g last end es few only owed ran sound
      m counted room in
      let none = own.none in
      let logs = redid.1 in
      let records = own.records in
      let is = redone (Halted v) k k1 redid.0 in
      (is.0, (is.1.0, omega arith, is.1.1, is.1.2))
  redo_leaves (recover.Trap t) k k1 redid =
      let is = redone (Trapped t) k k1 redid.1 in (is.0, (redid.0, is.1.0, is.1.1, is.1.2))
  redo_leaves (recover.Aborted t) k k1 redid =
      let is = redone (Trapped t) k k1 redid.1 in (is.0, (redid.0, is.1.0, is.1.1, is.1.2))
  redo_leaves (recover.Off phase.Sealed) k k1 redid = (redo_part Off redid, tt)
  redo_leaves (recover.Off phase.Unsealed) k k1 redid = absurd redid
  redo_leaves (recover.Off phase.Sealing) k k1 redid = absurd redid
  redo_leaves recover.Failed k k1 redid = (redo_part Failed redid, tt)
  redo_leaves recover.NoMemory k k1 redid = (
    ⊎_elim (λ same. subst (Images Left) (sym (ap (λ (x : Device). x.cache) same.0))
        (during_start (Images Left) list d.cache redo_cuts.0)) (λ q. redo_part NoMemory q) redid,
    tt,
  )
  redo_leaves recover.Clean k k1 redid = absurd redid
  redo_leaves (recover.Unusable t) k k1 redid = absurd redid
  redo_leaves recover.Numbers k k1 redid = absurd redid
