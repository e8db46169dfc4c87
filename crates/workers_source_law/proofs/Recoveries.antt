-- A power cut, and the recovery of each compartment after it: each is as that of a session alone.
use Rattle.std.proofs.Common.{◌≡◌, inl, inr, ℕ, Bool, true, false, List, [], ◌∷◌, Option, Some}
use Rattle.std.proofs.Common.{None, ℤ, refl, sym, ap, ◌∙◌, subst}
use Rattle.cache_model.specs.Event.{CacheEvent}
use Rattle.cache_model.specs.Cache.{Words, Cache, view}
use Rattle.cache_model.specs.Collapse.{left_cache}
use Rattle.cache_model.specs.declared.choice.Rest.{Rest}
use Rattle.cache_model.specs.declared.choice.Pick.{Pick}
use Rattle.pmem.specs.Device.{Device, spent}
use Rattle.pmem.specs.Played.{PlaysAll, PlaysPart}
use Rattle.pmem.specs.declared.answer.Phase.TheVariants as phase
use Rattle.pmem.specs.declared.answer.Refusal.{Refusal}
use Rattle.pmem.specs.declared.answer.Refusal.TheVariants as refusal
use Rattle.pmem.proofs.Refused.{all_cache, all_on}
use Rattle.pmem.proofs.Parts.{refused_cache}
use Rattle.pm_machine.specs.declared.image.Image.{Image}
use Rattle.pm_machine.specs.declared.records.Policy.{Policy}
use Rattle.crash_law.specs.Law.{IsAtRest, AreMarked}
use Rattle.recovery.specs.declared.answer.RecoverAnswer.{RecoverAnswer}
use Rattle.recovery.specs.declared.answer.RecoverAnswer.TheVariants as recovered
use Rattle.recovery.specs.Due.{due_clean, due_redo}
use Rattle.recovery.specs.Recovered.{IsRecovered, Cleaned, Redid, tx_in, args_in, valid_in}
use Rattle.pool_workers.specs.declared.task.Task.{Task}
use Rattle.workers_law.specs.Fenced.{fenced_cache}
use Rattle.workers_law.proofs.Powers.{fenced, marks}
use Rattle.cnvm_session.specs.declared.mode.Mode.{Mode}
use Rattle.cnvm_session.specs.declared.mode.Mode.TheVariants as mode
use Rattle.cnvm_session.specs.declared.program.Program.{Program}
use Rattle.cnvm_session.specs.Marks.{policy_of, owes_marked, owes_unsigned}
use Rattle.cnvm_session.specs.Outcomes.{answer_of_recovery, mode_of_recovery, RecoversBy}
use Rattle.cnvm_session.proofs.Cases.{by_found}
use Rattle.workers_session.specs.WorkersCommands.{ends_power, keeps_down}
use Rattle.session_law.specs.Agrees.{Agrees}
use Rattle.session_law.specs.State.{Standing, Ready, Down, Unusable, SourceState}
use Rattle.session_law.specs.Answers.{Powers}
use Rattle.session_law.specs.Holds.{IsResting, HoldsAs, HeldAs}
use Rattle.session_law.proofs.images.Ones.{left_rest}
use Rattle.session_law.proofs.images.Resting.{resting_owes}
use Rattle.session_law.proofs.answers.Powers.{held_recovers}
use Rattle.workers_source_law.proofs.Stills.{still, fewer_fenced, fewer_left, marks_fenced}
use Rattle.workers_source_law.proofs.Stills.{marks_play, fewer_held}
use Rattle.workers_source_law.proofs.Invariants.{UpAs, Stands}

-- marks and the switch after a recovery

part_marks : (why : Refusal) (es : List CacheEvent) (d b : Device) → AreMarked d.cache
    → PlaysPart why d es b → AreMarked b.cache
part_marks why [] d b marked part = absurd part
part_marks why (e ∷ es) d b marked (inl refused) =
    subst AreMarked (sym (refused_cache why d b refused.1)) marked
part_marks why (e ∷ es) d b marked (inr part) =
    part_marks why es (spent d e) b (marks.1 d.cache e marked) part.1

all_marks : (es : List CacheEvent) (d b : Device) → AreMarked d.cache → PlaysAll d es b
    → AreMarked b.cache
all_marks es d b marked all =
    subst AreMarked (sym (all_cache es d b all)) (marks_play es d.cache marked)

-- what is kept by a recovery: marks, and the switch of one that isn't interrupted
pub record IsKept (r : RecoverAnswer) (b : Device) : Type 0 where
  pub marked : AreMarked b.cache
  pub on : ends_power r ≡ false → b.on ≡ true

module _ (d b : Device) (marked : AreMarked d.cache) (on : d.on ≡ true) where
  kept_all : (r : RecoverAnswer) (es : List CacheEvent) → PlaysAll d es b → IsKept r b
  kept_all r es all = record {
    marked = all_marks es d b marked all;
    on = λ goes. all_on es d b all ∙ on;
  }

  kept_part : (r : RecoverAnswer) (why : Refusal) (es : List CacheEvent) → ends_power r ≡ true
      → PlaysPart why d es b → IsKept r b
  kept_part r why es over part = record {
    marked = part_marks why es d b marked part;
    on = λ goes. let no = sym goes ∙ over in absurd cc;
  }

  kept_same : (r : RecoverAnswer) → b ≡ d → IsKept r b
  kept_same r same = record {
    marked = subst (λ (x : Device). AreMarked x.cache) (sym same) marked;
    on = λ goes. ap (λ (x : Device). x.on) same ∙ on;
  }

  cleaned_kept : (r : RecoverAnswer) (es : List CacheEvent) → Cleaned r d es b → IsKept r b
  cleaned_kept recovered.Clean es is = kept_all recovered.Clean es is
  cleaned_kept (recovered.Off phase.Unsealed) es is =
      kept_part (recovered.Off phase.Unsealed) refusal.Off es refl is
  cleaned_kept (recovered.Off phase.Sealing) es is = absurd is
  cleaned_kept (recovered.Off phase.Sealed) es is = absurd is
  cleaned_kept recovered.Failed es is = kept_part recovered.Failed refusal.Failed es refl is
  cleaned_kept recovered.NoMemory es is = kept_part recovered.NoMemory refusal.NoMemory es refl is
  cleaned_kept (recovered.Redone v l) es is = absurd is
  cleaned_kept (recovered.Trap t) es is = absurd is
  cleaned_kept (recovered.Aborted t) es is = absurd is
  cleaned_kept (recovered.Unusable t) es is = absurd is
  cleaned_kept recovered.Numbers es is = absurd is

  redid_kept : (r : RecoverAnswer) (p : Policy) (image : Image) (tx : ℕ) (args : List ℤ)
      (n k k1 : ℕ) → Redid r p image tx args n d b k k1 → IsKept r b
  redid_kept (recovered.Redone v l) p image tx args n k k1 is =
      kept_all (recovered.Redone v l) (due_redo p image tx args n d.cache) is.0.played
  redid_kept (recovered.Trap t) p image tx args n k k1 is =
      kept_all (recovered.Trap t) (due_redo p image tx args n d.cache) is.1.played
  redid_kept (recovered.Aborted t) p image tx args n k k1 is =
      kept_all (recovered.Aborted t) (due_redo p image tx args n d.cache) is.1.played
  redid_kept (recovered.Off phase.Sealed) p image tx args n k k1 is =
      kept_part (recovered.Off phase.Sealed) refusal.Off (due_redo p image tx args n d.cache)
      refl is
  redid_kept (recovered.Off phase.Unsealed) p image tx args n k k1 is = absurd is
  redid_kept (recovered.Off phase.Sealing) p image tx args n k k1 is = absurd is
  redid_kept recovered.Failed p image tx args n k k1 is =
      kept_part recovered.Failed refusal.Failed (due_redo p image tx args n d.cache) refl is
  redid_kept recovered.NoMemory p image tx args n k k1 (inl same) =
      kept_same recovered.NoMemory same.0
  redid_kept recovered.NoMemory p image tx args n k k1 (inr part) =
      kept_part recovered.NoMemory refusal.NoMemory (due_redo p image tx args n d.cache) refl
      part
  redid_kept recovered.Clean p image tx args n k k1 is = absurd is
  redid_kept (recovered.Unusable t) p image tx args n k k1 is = absurd is
  redid_kept recovered.Numbers p image tx args n k k1 is = absurd is

  pub recovered_kept : (r : RecoverAnswer) (p : Policy) (image : Image) (k k1 : ℕ)
      → IsRecovered r p image d b k k1 → IsKept r b
  recovered_kept r p image k k1 is =
      by_found (IsKept r b) image d
      (λ on mark. kept_same r (is.unusable on mark).1)
      (λ on mark out. kept_same r (is.numbers on mark out).1)
      (λ on mark fit unsealed. cleaned_kept r
      (due_clean image.parts.sizes (valid_in image d) d.cache) (is.clean on mark fit unsealed))
      (λ on mark fit sealed named. redid_kept r p image (tx_in d) (args_in image d)
      (valid_in image d) k k1 (is.redid on mark fit sealed named))
      (λ on mark fit sealed unnamed. kept_same r (is.unnamed on mark fit sealed unnamed).1)
      (λ off. kept_same r (is.off off).1)

-- a recovery that leaves the session down keeps the workers down
keeps_if_down : (r : RecoverAnswer) → mode_of_recovery r ≡ mode.Down → keeps_down r ≡ true
keeps_if_down recovered.Clean is = absurd cc
keeps_if_down (recovered.Redone v l) is = absurd cc
keeps_if_down (recovered.Trap t) is = absurd cc
keeps_if_down (recovered.Aborted t) is = absurd cc
keeps_if_down (recovered.Unusable t) is = absurd cc
keeps_if_down recovered.Numbers is = refl
keeps_if_down (recovered.Off p) is = refl
keeps_if_down recovered.Failed is = refl
keeps_if_down recovered.NoMemory is = refl

pub ends_keeps : (r : RecoverAnswer) → ends_power r ≡ true → keeps_down r ≡ true
ends_keeps recovered.Clean is = absurd cc
ends_keeps (recovered.Redone v l) is = absurd cc
ends_keeps (recovered.Trap t) is = absurd cc
ends_keeps (recovered.Aborted t) is = absurd cc
ends_keeps (recovered.Unusable t) is = absurd cc
ends_keeps recovered.Numbers is = absurd cc
ends_keeps (recovered.Off p) is = refl
ends_keeps recovered.Failed is = refl
ends_keeps recovered.NoMemory is = refl

module _ (program : Program) (super : Words) where
  -- what a session holds after a recovery

  pub still_rest : (b : Device) (t : SourceState) → IsResting program super b t
      → IsResting program super (still b.cache) t
  still_rest b t r = record {
    on = refl;
    rest = r.rest;
    before = r.before;
    empty = r.empty;
    holds = r.holds;
  }

  held_of : (st : Standing) (m : Mode) (b : Device) (t : SourceState)
      → HoldsAs st program super m b t → HeldAs st program super b t
  held_of Ready m b t holds = resting_owes program super b t holds.1
  held_of (Down None) m b t holds = holds.1
  held_of (Down (Some owed)) m b t holds = holds.1
  held_of (Unusable kind) m b t holds = holds.1

  up_of : (r : RecoverAnswer) (st : Standing) (b : Device) (t : SourceState)
      → HoldsAs st program super (mode_of_recovery r) b t → keeps_down r ≡ false
      → UpAs st program super None b.cache t
  up_of r Ready b t holds goes = (refl, still_rest b t holds.1)
  up_of r (Down None) b t holds goes =
      let no = sym goes ∙ keeps_if_down r holds.0 in absurd cc
  up_of r (Down (Some owed)) b t holds goes =
      let no = sym goes ∙ keeps_if_down r holds.0 in absurd cc
  up_of r (Unusable kind) b t holds goes = refl

  -- what a power cut left of a compartment
  pub record IsLeft (c : Cache) (s : SourceState) : Type 0 where
    pub rest : IsAtRest c
    pub marked : AreMarked c
    pub held : HeldAs s.standing program super (still c) s

  pub left_cut : (down : Bool) (o : Option Task) (c : Cache) (s : SourceState) (rest : Rest)
      (picks : List Pick) → Stands program super down o c s → IsLeft (left_cache c rest picks) s
  left_cut down o c s rest picks is = record {
    rest = left_rest c rest picks;
    marked = marks.2 c rest picks;
    held = fewer_held program super s.standing (still c) (still (left_cache c rest picks)) s
        (fewer_left c rest picks) is.held;
  }

  pub left_fenced : (k : Bool) (c : Cache) (s : SourceState) → IsLeft c s
      → IsLeft (fenced_cache k c) s
  left_fenced k c s is = record {
    rest = (fenced k c).2 is.rest;
    marked = marks_fenced k c is.marked;
    held = fewer_held program super s.standing (still c) (still (fenced_cache k c)) s
        (fewer_fenced k c) is.held;
  }

  pub left_stands : (o : Option Task) (c : Cache) (s : SourceState) → IsLeft c s
      → Stands program super true o c s
  left_stands o c s is = record {
    marked = is.marked;
    held = is.held;
    up = λ up. absurd cc;
  }

  -- the recovery of what was left is that of a session
  module _ (agrees : Agrees program) (e b : Device) (s : SourceState) (left : IsLeft e.cache s)
      (on : e.on ≡ true) (r : RecoverAnswer) (k k1 : ℕ)
      (is : IsRecovered r (policy_of (owes_marked program e)) program.image e b k k1) where
    kept : IsKept r b
    kept = recovered_kept e b left.marked on r (policy_of (owes_marked program e)) program.image k
        k1 is

    held : HeldAs s.standing program super e s
    held = fewer_held program super s.standing (still e.cache) e s (λ image im. im) left.held

    pub recovery_gives : (t : SourceState)
        × Powers program s (view e.cache) (answer_of_recovery (owes_unsigned program e) r) t
        × Stands program super (keeps_down r) None b.cache t
    recovery_gives =
        let told = answer_of_recovery (owes_unsigned program e) r in
        let by : RecoversBy (owes_marked program e) (owes_unsigned program e) program.image e told
        (mode_of_recovery r) b k k1 =
        record { tx_answer = r; recovered = is; answer = refl; mode = refl } in
        let done = held_recovers program super agrees e s on left.rest told (mode_of_recovery r)
        b k k1 by held in (
          done.0,
          done.1,
          record {
            marked = kept.marked;
            held = fewer_held program super done.0.standing b (still b.cache) done.0
                (λ image im. im) (held_of done.0.standing (mode_of_recovery r) b done.0 done.2);
            up = λ goes. up_of r done.0.standing b done.0 done.2 goes;
          },
        )
