-- A refused command changes nothing on the device, and takes no step.
use Rattle.std.proofs.Common.{◌≡◌, ◌≢◌, inl, inr, ℕ, Bool, true, false, ◌==◌, ◌&&◌, if◌then◌else◌}
use Rattle.std.proofs.Common.{List, Option, Some, None, length, ℤ, pos, refl, ap, ◌∙◌, subst}
use Rattle.std.proofs.Common.{int_eq}
use Rattle.std.proofs.lemmas.Bool.Decides.{Decides-int_eq}
use Rattle.cache_model.specs.Cache.{Words, view}
use Rattle.cache_model.specs.Collapse.{bad}
use Rattle.cache_model.specs.declared.choice.Choice.{Choice}
use Rattle.pmem.specs.Device.{Device, memory_of, powered}
use Rattle.pool_layout.specs.declared.places.TheConstants.{DONE, ATTEMPT, MARK}
use Rattle.pool_layout.specs.declared.limits.Sizes.{Sizes}
use Rattle.pool_map.specs.declared.shapes.Shapes.{Shapes}
use Rattle.pool_map.specs.declared.trap.TrapKind.{TrapKind}
use Rattle.pm_machine.specs.declared.records.Policy.{Policy}
use Rattle.pm_machine.specs.declared.image.Image.{Image}
use Rattle.tx_run.specs.declared.standing.Standing.TheVariants as stands
use Rattle.tx_run.specs.Standing.{standing_of, is_number, trap_of_mark}
use Rattle.tx_run.specs.Called.{Called}
use Rattle.tx_run.specs.declared.answer.CallAnswer.{CallAnswer}
use Rattle.tx_run.specs.declared.answer.CallAnswer.TheVariants as called
use Rattle.tx_run.specs.declared.looking.LookAnswer.{LookAnswer}
use Rattle.tx_run.specs.declared.looking.LookAnswer.TheVariants as looked
use Rattle.recovery.specs.declared.answer.RecoverAnswer.{RecoverAnswer}
use Rattle.recovery.specs.declared.answer.RecoverAnswer.TheVariants as recovered
use Rattle.c_types.specs.Shapes.{shapes_of}
use Rattle.cnvm_script.specs.declared.command.Command.{Command}
use Rattle.cnvm_script.specs.declared.command.Command.TheVariants as command
use Rattle.cnvm_session.specs.declared.mode.Mode.{Mode}
use Rattle.cnvm_session.specs.declared.mode.Mode.TheVariants.{Ready, Down, Unusable}
use Rattle.cnvm_session.specs.declared.answer.Answer.{Answer}
use Rattle.cnvm_session.specs.declared.answer.Answer.TheVariants as answer
use Rattle.cnvm_session.specs.declared.program.Program.{Program}
use Rattle.cnvm_session.specs.Marks.{rolls_back_of, looks_of, policy_of, owes_marked}
use Rattle.cnvm_session.specs.Marks.{unsigned_of, owes_unsigned}
use Rattle.cnvm_session.specs.Outcomes.{RunsBy, RunsAs, answer_of_call, mode_of_call, RecoversBy}
use Rattle.cnvm_session.specs.Outcomes.{answer_of_look, answer_of_recovery}
use Rattle.cnvm_session.specs.Commands.{Refused, Tells, Shows, ShowsDead, Lasts, call_number}
use Rattle.cnvm_session.specs.Commands.{tx_parameters, CallsWith, CallsTo, CallsNamed, Calls}
use Rattle.cnvm_session.specs.Commands.{fallen, Powers, Commanded}
use Rattle.cnvm_session.specs.Laws.{IsRefusal, IsBadPick, IsRefused, StaysOrMarks}
use Rattle.cnvm_session.proofs.Cases.{by_standing}

abbrev Kept : Mode → Device → Mode → Device → (k k1 : ℕ) → Type 0
Kept m d n b k k1 = (b ≡ d) × StaysOrMarks m d n × (k1 ≡ k)

refused_kept :
    (why : Answer) (m : Mode) (d : Device) (a : Answer) (n : Mode) (b : Device) (k k1 : ℕ) →
    Refused why m d a n b k k1 → Kept m d n b k k1
refused_kept why m d a n b k k1 h = (h.2, inl h.1, h.3)

-- an unusable pool's trap is that of its mark
marked_of : (marked fit : Bool) (kind t : TrapKind)
    → (if marked then (if fit then stands.Ready else stands.Numbers) else stands.Unusable kind)
    ≡ stands.Unusable t → (marked ≡ false) × (t ≡ kind)
marked_of true true kind t e = absurd cc
marked_of true false kind t e = absurd cc
marked_of false fit kind t e = (refl, cc)

marked : (w : Words) (t : TrapKind) → standing_of w ≡ stands.Unusable t → (w MARK ≢ pos 0)
    × (t ≡ trap_of_mark (w MARK))
marked w t e =
    let of = marked_of (int_eq (w MARK) (pos 0)) (is_number (w DONE) && is_number (w ATTEMPT))
    (trap_of_mark (w MARK)) t e in (
      (λ is. let yes : int_eq (w MARK) (pos 0) ≡ true = (Decides-int_eq (w MARK) (pos 0)).1 is in
          let no = of.0 in absurd cc),
      of.1,
    )

-- an accepted call is refused only for the pool's mark or its numbers
by_answer : (u : Bool) (r : CallAnswer) (p : Policy) (image : Image) (tx : ℕ) (args : List ℤ)
    (d b : Device) (k k1 : ℕ) → IsRefusal (answer_of_call u r) → Called r p image tx args d b k k1
    → ⊥
by_answer u (called.Done v l) p image tx args d b k k1 is h = is
by_answer u (called.Trap t) p image tx args d b k k1 is h = is
by_answer u (called.Aborted t) p image tx args d b k k1 is h = is
by_answer u (called.Off q) p image tx args d b k k1 is h = is
by_answer u called.Failed p image tx args d b k k1 is h = is
by_answer u called.NoMemory p image tx args d b k k1 is h = is
by_answer u (called.Unusable t) p image tx args d b k k1 is h = h
by_answer u called.Numbers p image tx args d b k k1 is h = h

-- a call that found the mark, or the numbers at their end
unusable_kept : (t : TrapKind) (d : Device) (n : Mode) (b : Device) (k k1 : ℕ)
    → standing_of (view d.cache) ≡ stands.Unusable t → n ≡ Unusable t → b ≡ d → k1 ≡ k
    → Kept Ready d n b k k1
unusable_kept t d n b k k1 e mode same steps =
    let mark = marked (view d.cache) t e in
    (same, inr (refl, mark.0, mode ∙ ap Unusable mark.1), steps)

runs_kept :
    (marks u : Bool) (image : Image) (tx : ℕ) (args : List ℤ) (d : Device) (a : Answer) (n : Mode)
    (b : Device) (k k1 : ℕ) →
    IsRefusal a → RunsBy marks u image tx args d a n b k k1 → Kept Ready d n b k k1
runs_kept marks u image tx args d a n b k k1 is h =
    let r : CallAnswer = h.tx_answer in
    let refused : IsRefusal (answer_of_call u r) = subst IsRefusal h.answer is in
    by_standing (Kept Ready d n b k k1) d
    (λ on e. absurd (by_answer u r (policy_of marks) image tx args d b k k1 refused
    (h.called.ready on e)))
    (λ t on e. let same = h.called.unusable t on e in
    unusable_kept t d n b k k1 e (h.mode ∙ ap mode_of_call same.0) same.1 same.2)
    (λ on e. let same = h.called.numbers on e in
    (same.1, inl (h.mode ∙ ap mode_of_call same.0), same.2))
    (λ off. absurd (subst (λ (x : CallAnswer). IsRefusal (answer_of_call u x))
    ((h.called.off off).0) refused))

-- a look is never refused
no_refusal : (u : Bool) (r : LookAnswer) → IsRefusal (answer_of_look u r) → ⊥
no_refusal u (looked.Done v) is = is
no_refusal u (looked.Aborted t) is = is
no_refusal u looked.Off is = is
no_refusal u looked.NoMemory is = is

as_kept : (looks marks u : Bool) (image : Image) (tx : ℕ) (args : List ℤ) (d : Device) (a : Answer)
    (n : Mode) (b : Device) (k k1 : ℕ) →
    IsRefusal a → RunsAs looks marks u image tx args d a n b k k1 → Kept Ready d n b k k1
as_kept true marks u image tx args d a n b k k1 is h =
    absurd (no_refusal u h.seen (subst IsRefusal h.answer is))
as_kept false marks u image tx args d a n b k k1 is h =
    runs_kept marks u image tx args d a n b k k1 is h

module _ (program : Program) (args : List ℤ) (d : Device) (a : Answer) (n : Mode) (b : Device)
    (k k1 : ℕ) (is : IsRefusal a) where
  by_count : (same : Bool) (tx : ℕ) → CallsWith same program tx args d a n b k k1 →
      Kept Ready d n b k k1
  by_count true tx h =
      as_kept (looks_of program tx) (rolls_back_of program tx) (unsigned_of program tx)
      program.image tx args d a n b k k1 is h
  by_count false tx h = refused_kept answer.RefusedArity Ready d a n b k k1 h

  by_parameters : (count : Option ℕ) (tx : ℕ) → CallsTo count program tx args d a n b k k1 →
      Kept Ready d n b k k1
  by_parameters None tx h = refused_kept answer.RefusedUnknown Ready d a n b k k1 h
  by_parameters (Some count) tx h = by_count (count == length args) tx h

  by_name : (number : Option ℕ) → CallsNamed number program args d a n b k k1
      → Kept Ready d n b k k1
  by_name None h = refused_kept answer.RefusedUnknown Ready d a n b k k1 h
  by_name (Some tx) h = by_parameters (tx_parameters program.image tx) tx h

calls_kept : (program : Program) (name : List ℕ) (args : List ℤ) (m : Mode) (d : Device)
    (a : Answer) (n : Mode) (b : Device) (k k1 : ℕ) → IsRefusal a
    → Calls program name args m d a n b k k1 → Kept m d n b k k1
calls_kept program name args Ready d a n b k k1 is h =
    by_name program args d a n b k k1 is (call_number program name) h
calls_kept program name args Down d a n b k k1 is h =
    refused_kept answer.RefusedDown Down d a n b k k1 h
calls_kept program name args (Unusable kind) d a n b k k1 is h =
    refused_kept (answer.RefusedUnusable kind) (Unusable kind) d a n b k k1 h

tells_ready : (shapes : Shapes) (s : Sizes) (d : Device) (a : Answer) (n : Mode) → IsRefusal a
    → Tells shapes s d a n → n ≡ Ready
tells_ready shapes s d (answer.Shown text) n is h = h.1
tells_ready shapes s d answer.NoMemory n is h = absurd is
tells_ready shapes s d answer.Silent n is h = absurd h
tells_ready shapes s d (answer.Done v u l) n is h = absurd h
tells_ready shapes s d (answer.Trap t) n is h = absurd h
tells_ready shapes s d (answer.Aborted t) n is h = absurd h
tells_ready shapes s d (answer.Stopped p) n is h = absurd h
tells_ready shapes s d answer.DeviceFault n is h = absurd h
tells_ready shapes s d answer.RecoveredNone n is h = absurd h
tells_ready shapes s d (answer.RecoveredRedone v u l) n is h = absurd h
tells_ready shapes s d (answer.RecoveredTrap t) n is h = absurd h
tells_ready shapes s d (answer.RecoveredAborted t) n is h = absurd h
tells_ready shapes s d (answer.ShownDead t text) n is h = absurd h
tells_ready shapes s d (answer.Last f v) n is h = absurd h
tells_ready shapes s d answer.RefusedDown n is h = absurd h
tells_ready shapes s d (answer.RefusedUnusable t) n is h = absurd h
tells_ready shapes s d answer.RefusedUnknown n is h = absurd h
tells_ready shapes s d answer.RefusedArity n is h = absurd h
tells_ready shapes s d answer.RefusedNumbers n is h = absurd h
tells_ready shapes s d (answer.RefusedPick l) n is h = absurd h

shows_kept :
    (shapes : Shapes) (s : Sizes) (m : Mode) (d : Device) (a : Answer) (n : Mode) (b : Device)
    (k k1 : ℕ) →
    IsRefusal a →
    Shows shapes s m d a n b k k1 → Kept m d n b k k1
shows_kept shapes s Ready d a n b k k1 is h = (h.1, inl (tells_ready shapes s d a n is h.0), h.2)
shows_kept shapes s Down d a n b k k1 is h = refused_kept answer.RefusedDown Down d a n b k k1 h
shows_kept shapes s (Unusable kind) d a n b k k1 is h =
    refused_kept (answer.RefusedUnusable kind) (Unusable kind) d a n b k k1 h

dead_kept :
    (shapes : Shapes) (s : Sizes) (m : Mode) (d : Device) (a : Answer) (n : Mode) (b : Device)
    (k k1 : ℕ) →
    IsRefusal a →
    ShowsDead shapes s m d a n b k k1 → Kept m d n b k k1
dead_kept shapes s Ready d a n b k k1 is h = shows_kept shapes s Ready d a n b k k1 is h
dead_kept shapes s Down d a n b k k1 is h = shows_kept shapes s Down d a n b k k1 is h
dead_kept shapes s (Unusable kind) d a n b k k1 is h = (h.2, inl h.1, h.3)

lasts_kept : (m : Mode) (d : Device) (a : Answer) (n : Mode) (b : Device) (k k1 : ℕ) →
    Lasts m d a n b k k1 → Kept m d n b k k1
lasts_kept Ready d a n b k k1 h = (h.2, inl h.1, h.3)
lasts_kept Down d a n b k k1 h = refused_kept answer.RefusedDown Down d a n b k k1 h
lasts_kept (Unusable kind) d a n b k k1 h =
    refused_kept (answer.RefusedUnusable kind) (Unusable kind) d a n b k k1 h

-- a recovery never answers that a pick is bad
no_pick : (u : Bool) (r : RecoverAnswer) → IsBadPick (answer_of_recovery u r) → ⊥
no_pick u recovered.Clean is = is
no_pick u (recovered.Redone v l) is = is
no_pick u (recovered.Trap t) is = is
no_pick u (recovered.Aborted t) is = is
no_pick u (recovered.Unusable t) is = is
no_pick u recovered.Numbers is = is
no_pick u (recovered.Off p) is = is
no_pick u recovered.Failed is = is
no_pick u recovered.NoMemory is = is

recovers_no_pick : (marks u : Bool) (image : Image) (d : Device) (a : Answer) (n : Mode)
    (b : Device) (k k1 : ℕ) → IsBadPick a → RecoversBy marks u image d a n b k k1 → ⊥
recovers_no_pick marks u image d a n b k k1 is h =
    no_pick u h.tx_answer (subst IsBadPick h.answer is)

powers_kept : (program : Program) (choice : Choice) (m : Mode) (d : Device) (a : Answer) (n : Mode)
    (b : Device) (k k1 : ℕ) (first pick : Option ℕ) → fallen 0 choice.picks ≡ first
    → bad (memory_of d) choice.picks ≡ pick → IsBadPick a → Powers program choice m d a n b k k1 →
    Kept m d n b k k1
powers_kept program choice m d a n b k k1 (Some line) pick falls e is h =
    refused_kept (answer.RefusedPick line) m d a n b k k1 (h.0 line falls)
powers_kept program choice m d a n b k k1 None (Some line) rise e is h =
    refused_kept (answer.RefusedPick line) m d a n b k k1 (h.1 line rise e)
powers_kept program choice m d a n b k k1 None None rise e is h =
    absurd (recovers_no_pick (owes_marked program (powered choice d))
    (owes_unsigned program (powered choice d)) program.image (powered choice d) a n b k k1 is
    (h.2 rise e))

pub command_kept :
    (program : Program) (c : Command) (m n : Mode) (d b : Device) (a : Answer) (k k1 : ℕ) →
    IsRefused c a → Commanded program c m d a n b k k1 → Kept m d n b k k1
command_kept program (command.Call name args) m n d b a k k1 is h =
    calls_kept program name args m d a n b k k1 is h
command_kept program (command.Stop left) m n d b a k k1 is h = absurd (subst IsRefusal h.0 is)
command_kept program (command.Fault at) m n d b a k k1 is h = absurd (subst IsRefusal h.0 is)
command_kept program (command.Power choice) m n d b a k k1 is h =
    powers_kept program choice m d a n b k k1 (fallen 0 choice.picks)
    (bad (memory_of d) choice.picks) refl refl is h
command_kept program command.Show m n d b a k k1 is h =
    shows_kept (shapes_of program.typed) program.image.parts.sizes m d a n b k k1 is h
command_kept program command.ShowDead m n d b a k k1 is h =
    dead_kept (shapes_of program.typed) program.image.parts.sizes m d a n b k k1 is h
command_kept program command.Last m n d b a k k1 is h = lasts_kept m d a n b k k1 h
