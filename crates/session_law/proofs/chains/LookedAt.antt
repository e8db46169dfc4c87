-- Looking changes nothing: neither the device, nor the history, nor what the source knows.
use Rattle.std.proofs.Common.{◌≡◌, ◌⊎◌, inl, ⊎_elim, ℕ, Bool, true, false, ◌==◌, List, []}
use Rattle.std.proofs.Common.{◌++◌, length, Option, Some, None, ℤ, ap, ◌∙◌, subst, append-nil}
use Rattle.std.proofs.Common.{if◌then◌else◌, refl}
use Rattle.cache_model.specs.Cache.{Words}
use Rattle.pmem.specs.Device.{Device}
use Rattle.cnvm_script.specs.declared.command.Command.TheVariants as command
use Rattle.cnvm_session.specs.declared.mode.Mode.{Mode}
use Rattle.cnvm_session.specs.declared.mode.Mode.TheVariants as mode
use Rattle.cnvm_session.specs.declared.answer.Answer.{Answer}
use Rattle.cnvm_session.specs.declared.answer.Answer.TheVariants as answer
use Rattle.cnvm_session.specs.declared.program.Program.{Program}
use Rattle.cnvm_session.specs.Commands as commanded
use Rattle.cnvm_session.specs.Commands.{call_number, tx_parameters}
use Rattle.cnvm_session.specs.Marks.{rolls_back_of, looks_of, unsigned_of}
use Rattle.cnvm_session.specs.Outcomes as outcomes
use Rattle.session_law.specs.Source.{source_parameters}
use Rattle.session_law.specs.State.{Pending, Standing, Ready, Down, Unusable, SourceState}
use Rattle.session_law.specs.State.{standing_as}
use Rattle.session_law.specs.Answers.{RunsAs, CallsWith, CallsTo, CallsNamed, Calls}
use Rattle.session_law.specs.History.{call_to, counted, called_by}
use Rattle.session_law.specs.Ran.{found_by}
use Rattle.session_law.specs.Law.{LookLaw}
use Rattle.session_law.proofs.answers.Looking.{looked_state}
use Rattle.session_law.proofs.chains.Histories.{none_counts}

module _ (program : Program) (tx : ℕ) (looks : looks_of program tx ≡ true) (args : List ℤ)
    (a : Answer) where
  module _ (d : Device) (n : Mode) (b : Device) (k k1 : ℕ) where
    any_device : (x marked u : Bool) → x ≡ true
        → outcomes.RunsAs x marked u program.image tx args d a n b k k1 → b ≡ d
    any_device true marked u is h = h.same
    any_device false marked u is h = absurd cc

    with_device : (same : Bool) → commanded.CallsWith same program tx args d a n b k k1 → b ≡ d
    with_device true h =
        any_device (looks_of program tx) (rolls_back_of program tx) (unsigned_of program tx) looks h
    with_device false h = h.2

    to_device : (count : Option ℕ) → commanded.CallsTo count program tx args d a n b k k1 → b ≡ d
    to_device None h = h.2
    to_device (Some count) h = with_device (count == length args) h

    in_device : (name : List ℕ) (m : Mode) → call_number program name ≡ Some tx
        → commanded.Calls program name args m d a n b k k1 → b ≡ d
    in_device name mode.Ready is h =
        to_device (tx_parameters program.image tx)
        (subst (λ (x : Option ℕ). commanded.CallsNamed x program args d a n b k k1) is h)
    in_device name mode.Down is h = h.2
    in_device name (mode.Unusable kind) is h = h.2

  module _ (s t : SourceState) (image : Words) where
    abbrev Stays : Type 0
    Stays = (t ≡ s) ⊎ ((a ≡ answer.NoMemory) × (t ≡ standing_as (Down None) s))

    any_state : (x marked : Bool) → x ≡ true → RunsAs x marked program s image tx args a t → Stays
    any_state true marked is h = looked_state program s t tx args a h
    any_state false marked is h = absurd cc

    with_state : (same : Bool) → CallsWith same program s image tx args a t → Stays
    with_state true h = any_state (looks_of program tx) (rolls_back_of program tx) looks h
    with_state false h = inl h.1

    to_state : (count : Option ℕ) → CallsTo count program s image tx args a t → Stays
    to_state None h = inl h.1
    to_state (Some count) h = with_state (count == length args) h

    in_state : (name : List ℕ) (st : Standing) → call_number program name ≡ Some tx
        → Calls st program s image name args a t → Stays
    in_state name Ready is h =
        to_state (source_parameters program tx)
        (subst (λ (x : Option ℕ). CallsNamed x program s image args a t) is h)
    in_state name (Down owed) is h = inl h.1
    in_state name (Unusable kind) is h = inl h.1

    kept : {A : Type 0} (f : SourceState → A) → f (standing_as (Down None) s) ≡ f s → Stays
        → f t ≡ f s
    kept f down stays = ⊎_elim (λ same. ap f same) (λ fell. ap f fell.1 ∙ down) stays

  -- it counts for nothing
  no_call : (name : List ℕ) → call_number program name ≡ Some tx
      → called_by (call_to (counted program (call_number program name)) args) a ≡ []
  no_call name is =
      ap (λ (x : Option ℕ). called_by (call_to (counted program x) args) a) is
      ∙ ap (λ (x : Bool). called_by (call_to (if x then None else Some tx) args) a) looks
      ∙ none_counts program a

pub looked_at : LookLaw
looked_at program super name args tx x y a is looks step =
    let image : Words = found_by (command.Call name args) x.device in
    let stays : (y.state ≡ x.state)
    ⊎ ((a ≡ answer.NoMemory) × (y.state ≡ standing_as (Down None) x.state)) =
    in_state program tx looks args a x.state y.state image name x.state.standing is step.meant in
    record {
      device = in_device program tx looks args a x.device y.mode y.device x.steps y.steps name
          x.mode is step.did;
      history = step.history ∙ ap (λ (ds : List Pending). x.history ++ ds)
          (no_call program tx looks args a name is) ∙ append-nil x.history;
      state = stays;
      pool = kept program tx looks args a x.state y.state image (λ (s : SourceState). s.pool) refl
          stays;
      done = kept program tx looks args a x.state y.state image (λ (s : SourceState). s.done) refl
          stays;
      last = kept program tx looks args a x.state y.state image (λ (s : SourceState). s.last) refl
          stays;
    }
